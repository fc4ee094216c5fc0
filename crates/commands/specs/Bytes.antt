-- A list of bytes, as a slice of u8 holds them: each is below 256.
use Rattle.std.specs.Prelude.{List, ℕ, ◌<◌}
use Rattle.logic.specs.All.{All}

-- ---- commands are bytes, so an operand fits 16 bits
abbrev pub Bytes : List ℕ → Type 0
Bytes = All (λ b. b < 256)
