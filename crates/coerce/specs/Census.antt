-- The type of a place read off the set of non-null types seen there, as in document 01's "Census". Nothing is merged: the
-- list is only asked what it holds. It is the same in either edition: in edition 2 no accepted place holds integers and floats
-- both, with allow_to_string off (`kinds_apart`, proved in `equality`).
use Rattle.std.specs.Prelude.{ℕ, Bool, false, not, ◌||◌, List, [], ◌∷◌, eqb}
use Rattle.logic.specs.Test.{when◌then◌else◌}
use Rattle.logic.specs.All.{has}
use Rattle.datatype.specs.Codes.{null, int64, uint64, float64}
use Rattle.options.specs.Word.{string_type}
use Rattle.coerce.specs.Joint.{is_signed, is_float, is_string, is_timestamp}

-- u is another type than t
abbrev pub is_other : ℕ → ℕ → Bool
is_other t u = not (eqb u t)

-- they are several: two of them differ
abbrev pub are_several : List ℕ → Bool
are_several [] = false
are_several (t ∷ ts) = has (is_other t) ts

abbrev pub is_string_or_timestamp : ℕ → Bool
is_string_or_timestamp t = is_string t || is_timestamp t

-- "several numbers: Float64 with a float among them, else Int64 with a signed one, else UInt64; timestamps of both zones,
-- or with strings: the string type"
unfoldable pub several_seen : ℕ → List ℕ → ℕ
several_seen string seen =
    when has is_string_or_timestamp seen then string else
    when has is_float seen then float64 else
    when has is_signed seen then int64 else
    uint64

-- "none: Null; one: itself"; several
unfoldable pub type_seen : ℕ → List ℕ → ℕ
type_seen word [] = null
type_seen word (t ∷ ts) = when are_several (t ∷ ts) then several_seen (string_type word) (t ∷ ts) else t

-- the non-null types of those observed
unfoldable pub non_null : List ℕ → List ℕ
non_null [] = []
non_null (t ∷ ts) = when eqb t null then non_null ts else t ∷ non_null ts
