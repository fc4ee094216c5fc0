-- What a place can be, and the steps between places.
use Rattle.std.specs.Prelude.{Bool, true, false, ◌||◌, List, [], ◌∷◌, ℕ, eqb, leb}
use Rattle.datatype.specs.Codes.{list, struct, map, union}
use Rattle.text.specs.Name.{eq_name}

-- A kind is the code of a primitive type, Null where nothing else was seen, or one of the containers below. They are the tracers of
-- tracer.rs. A place shown as struct and one shown as map under map_as_struct are of two modes of the same container.
abbrev pub sequence_kind : ℕ
sequence_kind = list

abbrev pub struct_kind : ℕ
struct_kind = struct

abbrev pub map_kind : ℕ
map_kind = map

abbrev pub union_kind : ℕ
union_kind = union

abbrev pub tuple_kind : ℕ
tuple_kind = 27

abbrev pub map_mode_kind : ℕ
map_mode_kind = 28

abbrev pub is_container : ℕ → Bool
is_container kind = leb sequence_kind kind

-- in either mode
abbrev pub is_struct : ℕ → Bool
is_struct kind = eqb kind struct_kind || eqb kind map_mode_kind

-- a step down from a place: a field by its name, a sequence's element, a tuple's position, a map's key or value, a variant by its number
-- and name (document 01, "Census")
pub data Step : Type 0 where
  field : List ℕ → Step
  element : Step
  position : ℕ → Step
  key : Step
  value : Step
  variant : ℕ → List ℕ → Step

-- a step as a list of numbers, by which two steps are compared: fields by their names, variants first by their numbers
abbrev pub step_code : Step → List ℕ
step_code (field name) = 0 ∷ name
step_code element = 1 ∷ []
step_code (position i) = 2 ∷ i ∷ []
step_code key = 3 ∷ []
step_code value = 4 ∷ []
step_code (variant number name) = 5 ∷ number ∷ name

unfoldable pub same : Step → Step → Bool
same s r = eq_name (step_code s) (step_code r)

-- the number of a variant's step, 0 for any other (the variant byte of a field record)
abbrev pub variant_of : Step → ℕ
variant_of (field name) = 0
variant_of element = 0
variant_of (position i) = 0
variant_of key = 0
variant_of value = 0
variant_of (variant number name) = number

abbrev pub is_variant : Step → Bool
is_variant (field name) = false
is_variant element = false
is_variant (position i) = false
is_variant key = false
is_variant value = false
is_variant (variant number name) = true
