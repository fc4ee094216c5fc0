-- The joint of two primitive types, as in document 01's "Places" and document 02's 4/14, and whether they differ (1/14). Types stand by
-- their codes, and any two have an answer: in edition 1 the one that coerce_primitive_type of the Rust gives.
use Rattle.std.specs.Prelude.{ℕ, Bool, true, false, not, ◌&&◌, ◌||◌, leb, eqb}
use Rattle.std.specs.Prelude as Code
use Rattle.std.proofs.Math.Option.{Option, none, some}
use Rattle.logic.specs.Test.{when◌then◌else◌}
use Rattle.datatype.specs.Codes.{code_of, null, boolean, int8, int64, uint64, float32, float64, utf8, large_utf8, timestamp_naive, timestamp_utc}
use Rattle.options.specs.Word.{coerce_numbers, allow_to_string, edition2, string_type}
use Rattle.datatype.specs.declared.DataType.{DataType}
use Rattle.coerce.specs.declared.Pairing.{Pairing}
use Rattle.coerce.specs.declared.Pairing.TheVariants as P

-- the families of types, each a range of codes or two codes
abbrev pub is_signed : ℕ → Bool
is_signed t = leb int8 t && leb t int64

-- a char is a UInt32
abbrev pub is_integer : ℕ → Bool
is_integer t = leb int8 t && leb t uint64

abbrev pub is_float : ℕ → Bool
is_float t = leb float32 t && leb t float64

abbrev pub is_number : ℕ → Bool
is_number t = leb int8 t && leb t float64

abbrev pub is_string : ℕ → Bool
is_string t = eqb t utf8 || eqb t large_utf8

abbrev pub is_timestamp : ℕ → Bool
is_timestamp t = eqb t timestamp_naive || eqb t timestamp_utc

-- the table of number types: "equal types stay", "unequal number types give Float64 if either is a float, else Int64 if either
-- is signed, else UInt64"
unfoldable pub number_joint : ℕ → ℕ → ℕ
number_joint a b =
    when eqb a b then a else
    when is_float a || is_float b then float64 else
    when is_signed a || is_signed b then int64 else
    uint64

-- an integer meets a float, in either order
abbrev pub is_mixed : ℕ → ℕ → Bool
is_mixed a b = (is_integer a && is_float b) || (is_integer b && is_float a)

-- edition 2: "integers and floats have no joint even with coerce_numbers"
abbrev pub is_forbidden : ℕ → ℕ → ℕ → Bool
is_forbidden word a b = edition2 word && is_mixed a b

-- unequal number types meet: they have a joint "with coerce_numbers", if the edition does not forbid it
unfoldable pub joint_of_numbers : ℕ → ℕ → ℕ → Option ℕ
joint_of_numbers word a b =
    when not (coerce_numbers word) then none else
    when is_forbidden word a b then none else
    some (number_joint a b)

-- what gives string with a string: a timestamp, and "with allow_to_string" a bool or number
abbrev pub is_to_string : ℕ → Bool
is_to_string t = eqb t boolean || is_number t

abbrev pub yields_to_string : ℕ → ℕ → Bool
yields_to_string word t = is_timestamp t || (allow_to_string word && is_to_string t)

-- a string type meets another type: that string type stays, under one options word always the options' own
unfoldable pub joint_with_string : ℕ → ℕ → ℕ → Option ℕ
joint_with_string word string other = when yields_to_string word other then some string else none

-- "timestamps of unequal zones give string", the options' own; all else has no joint
unfoldable pub joint_of_timestamps : ℕ → ℕ → ℕ → Option ℕ
joint_of_timestamps word a b =
    when is_timestamp a && is_timestamp b then some (when eqb a b then a else string_type word) else
    none

-- unequal types meet, neither of them Null
unfoldable pub joint_of_unequal : ℕ → ℕ → ℕ → Option ℕ
joint_of_unequal word a b =
    when is_number a && is_number b then joint_of_numbers word a b else
    when is_string a then joint_with_string word a b else
    when is_string b then joint_with_string word b a else
    joint_of_timestamps word a b

-- the joint of two types, none where there is none (refusal 10): "Null with a type gives that type", "equal types stay"
unfoldable pub joint : ℕ → ℕ → ℕ → Option ℕ
joint word a b =
    when eqb a null then some b else
    when eqb b null then some a else
    when eqb a b then some a else
    joint_of_unequal word a b

-- the code that an answer stands for
abbrev pub codes_of : Code.Option DataType → Option ℕ
codes_of (Code.Some t) = some (code_of t)
codes_of Code.None = none

-- two types differ that are not equal, neither of them Null
abbrev pub differ : ℕ → ℕ → Bool
differ a b = not (eqb a null) && not (eqb b null) && not (eqb a b)

-- "The pairing of two types must report whether they differed" (document 02, 1/14): what they give, and whether they do
pub record Paired : Type 0 where
  pub gives : Option ℕ
  pub differed : Bool

abbrev pub paired : Option ℕ → Bool → Paired
paired gives differed = record { gives = gives; differed = differed }

unfoldable pub pairing : ℕ → ℕ → ℕ → Paired
pairing word a b = paired (joint word a b) (differ a b)

-- what an answer stands for, in its three cases
abbrev pub paired_by : Pairing → Paired
paired_by (P.Alike t) = paired (some (code_of t)) false
paired_by (P.Widened t) = paired (some (code_of t)) true
paired_by P.Apart = paired none true
