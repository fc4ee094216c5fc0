-- What a command begins, by the command that it is known to be.
use Rattle.std.specs.Prelude.{◌≡◌, List, ℕ}
use Rattle.logic.specs.laws.Test.{told}
use Rattle.commands.specs.declared.Command.{Command}
use Rattle.shapes.specs.declared.Shape.{Shape}
use Rattle.shapes.specs.Shapes.{shape_at}

pub begins : (options : ℕ) (text : List ℕ) (command which : Command) (shape : Shape) → command ≡ which → shape ≡ shape_at options text which → shape ≡ shape_at options text command
begins options text = told (shape_at options text)
