-- The name among operands that are counted is the form's.
use Rattle.std.specs.Prelude.{ℕ, ◌≡◌, refl, List}
use Rattle.logic.specs.Test.{when◌then◌else◌}
use Rattle.commands.specs.Commands.{Form, plain, counted, named, variant, counted_variant, operands, name_in}
use Rattle.commands.specs.Counted.{name_among}

-- it is the command's name
pub among_is : (form : Form) (commands : List ℕ) (at : ℕ) → name_among (operands form) commands at ≡ name_in form commands at
unfolding name_among operands name_in when◌then◌else◌
among_is (plain f) commands at = refl
among_is (counted f) commands at = refl
among_is (named f) commands at = refl
among_is (variant f) commands at = refl
among_is (counted_variant f) commands at = refl
