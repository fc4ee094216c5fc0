-- Worked examples of the joint in edition 2 (document 02, 4/14), each computed: what a wrong definition would break.
use Rattle.std.specs.Prelude.{◌≡◌, refl, List, [], ◌∷◌, ℕ, ◌+◌}
use Rattle.std.proofs.Math.Option.{Option, none, some}
use Rattle.logic.specs.Test.{when◌then◌else◌}
use Rattle.logic.specs.Maybe.{and_then}
use Rattle.datatype.specs.Codes.{int8, int32, int64, uint8, uint16, uint32, uint64, float32, float64, utf8}
use Rattle.coerce.specs.Joint.{number_joint, joint_of_numbers, joint_with_string, joint_of_timestamps, joint_of_unequal, joint}
use Rattle.coerce.specs.laws.Joined.{joined_from, joined}

-- edition 2 alone, with coerce_numbers, and with allow_to_string too
abbrev pub plain : ℕ
plain = 1024

abbrev pub coerce : ℕ
coerce = 1024 + 64

abbrev pub to_string : ℕ
to_string = 1024 + 64 + 128

-- types one after the other
unfoldable pub types : ℕ → List ℕ → Option ℕ
unfolding when◌then◌else◌ and_then number_joint joint_of_numbers joint_with_string joint_of_timestamps joint_of_unequal joint joined_from
types = joined

-- integers join among themselves, a char being a UInt32, and floats too
pub signed : types coerce (uint8 ∷ int8 ∷ []) ≡ some int64
unfolding types
signed = refl

pub unsigned : types coerce (uint8 ∷ uint16 ∷ uint32 ∷ []) ≡ some uint64
unfolding types
unsigned = refl

pub floats : types coerce (float32 ∷ float64 ∷ []) ≡ some float64
unfolding types
floats = refl

-- an integer and a float have no joint, in either order
pub length : types coerce (float64 ∷ uint32 ∷ []) ≡ none
unfolding types
length = refl

pub mixed : types coerce (int64 ∷ float32 ∷ []) ≡ none
unfolding types
mixed = refl

-- without coerce_numbers only equal number types do
pub uncoerced : types plain (uint8 ∷ uint16 ∷ []) ≡ none
unfolding types
uncoerced = refl

pub equal : types plain (float32 ∷ float32 ∷ []) ≡ some float32
unfolding types
equal = refl

-- the rule is about pairs: a string takes integers and floats both, if it comes before one meets the other
pub text_between : types to_string (int32 ∷ utf8 ∷ float64 ∷ []) ≡ some utf8
unfolding types
text_between = refl

pub text_last : types to_string (int32 ∷ float64 ∷ utf8 ∷ []) ≡ none
unfolding types
text_last = refl
