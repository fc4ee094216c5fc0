-- The name among operands that are counted: two are a name, and three or four a variant number and then a name.
use Rattle.std.specs.Prelude.{ℕ, ◌+◌, List, eqb, ltb}
use Rattle.std.proofs.Math.Option.{Option, none, some}
use Rattle.logic.specs.Test.{when◌then◌else◌}
use Rattle.text.specs.declared.Name.{Name}
use Rattle.commands.specs.Commands.{name_at}

unfoldable pub name_among : ℕ → List ℕ → ℕ → Option Name
name_among count commands at =
    when ltb count 2 then none
    else (when eqb count 2 then some (name_at commands at)
    else some (name_at commands (at + 2)))
