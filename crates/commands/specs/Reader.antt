-- The command reader: what it is once it has read.
use Rattle.std.specs.Prelude.{ℕ, ◌+◌}
use Rattle.commands.specs.declared.Reader.{Reader}

-- the same commands, and an offset behind so many bytes more
abbrev pub behind : Reader → ℕ → Reader
behind reader n = record { commands = reader.commands; at = reader.at + n }
