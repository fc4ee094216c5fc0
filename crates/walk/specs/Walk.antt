-- The first walk: refusals 12 to 14, and how many field records, name bytes and columns there are below a place.
use Rattle.std.specs.Prelude.{ℕ, zero, suc, ◌+◌, ◌-◌, ◌%◌, ◌^◌, Bool, true, false, not, ◌&&◌, ◌||◌, List, length, ◌==◌, nat_eq, nat_le}
use Rattle.std.specs.Prelude.{Result, Ok, Err}
use Rattle.logic.specs.Test.{when◌then◌else◌}
use Rattle.datatype.specs.Codes.{null}
use Rattle.options.specs.Word.{allow_null_fields, enums_without_data_as_strings}
use Rattle.refusal.specs.declared.Refusal.TheVariants as F
use Rattle.words.specs.Word.{word}
use Rattle.model.specs.Kinds.{map_kind, union_kind, is_container}
use Rattle.model.specs.Emission.{slot_limit, emits_struct, entries_name}
use Rattle.places.specs.Layout.{kind_word}
use Rattle.places.specs.Reading.{variant_at, child_name, child_limit, next_ordered, next_child}
use Rattle.refusal.specs.declared.Refusal.{Refusal}
use Rattle.walk.specs.declared.Counts.{Counts}

-- so many field records, name bytes and columns
abbrev pub counts : (records names columns : ℕ) → Counts
counts records names columns = record { records = records; names = names; columns = columns }

-- ---- a union of only dataless variants without gaps
-- slots are of 32 bits, which no batch exceeds
abbrev pub onward : ℕ → ℕ
onward n = (n + 1) % 2 ^ 32

unfoldable pub dataless_from : List ℕ → ℕ → ℕ → ℕ → ℕ → Bool
dataless_from t place zero slot child = true
dataless_from t place (suc left) slot child =
    elim (child == 0) [
      | true ↦ true
      | false ↦ elim (variant_at t child == slot && word t child kind_word == null) [
        | false ↦ false
        | true ↦ dataless_from t place left (onward slot) (next_ordered t place child)
      ]
    ]

abbrev pub dataless_at : List ℕ → ℕ → Bool
dataless_at t place = dataless_from t place child_limit 0 (next_ordered t place 0)

-- ---- counts are of 32 bits, which no batch exceeds
abbrev pub sum_of : ℕ → ℕ → ℕ
sum_of a b = (a + b) % 2 ^ 32

-- the columns of the field of a place of that kind, with so many records and columns below it: a Struct with none is no column
abbrev pub columns_of : ℕ → ℕ → ℕ → ℕ
columns_of kind records below = when records == 0 then (when emits_struct kind then 0 else 1) else below

-- the slots never seen before a child of a union
unfoldable pub gaps_at : ℕ → List ℕ → ℕ → ℕ → ℕ
gaps_at kind t slot child = when kind == union_kind && nat_le slot (variant_at t child) then variant_at t child - slot else 0

-- the slot behind a child's
abbrev pub slot_behind : List ℕ → ℕ → ℕ
slot_behind t child = onward (variant_at t child)

-- a child of a union in a slot that emission does not reach
abbrev pub is_beyond : ℕ → List ℕ → ℕ → Bool
is_beyond kind t child = kind == union_kind && nat_le slot_limit (variant_at t child)

-- what is counted, with a child's own record, name and column, those of the slots before it never seen, and what stands below it
abbrev pub records_with : ℕ → List ℕ → ℕ → ℕ → ℕ → ℕ → ℕ
records_with kind t slot child records r = sum_of (sum_of records (gaps_at kind t slot child)) (sum_of r 1)

abbrev pub names_with : List ℕ → List ℕ → ℕ → ℕ → ℕ → ℕ
names_with text t child names n = sum_of names (sum_of n (length (child_name text t child)))

abbrev pub columns_with : ℕ → List ℕ → ℕ → ℕ → ℕ → ℕ → ℕ → ℕ
columns_with kind t slot child below r c = sum_of (sum_of below (gaps_at kind t slot child)) (columns_of (word t child kind_word) r c)

abbrev pub counts_with : ℕ → List ℕ → List ℕ → ℕ → ℕ → Counts → Counts → Counts
counts_with kind text t slot child so_far below =
    counts (records_with kind t slot child so_far.records below.records) (names_with text t child so_far.names below.names)
    (columns_with kind t slot child so_far.columns below.records below.columns)

-- what the walk of a place answers: the counts below it, or a refusal
abbrev pub Walked : Type 0
Walked = Result Counts Refusal

abbrev pub with_child : (ℕ → ℕ → ℕ → Walked) → List ℕ → List ℕ → ℕ → ℕ → ℕ → ℕ → ℕ → ℕ → Walked → Walked
with_child more text t kind records names below slot child (Err refusal) = Err refusal
with_child more text t kind records names below slot child (Ok c) =
    more (records_with kind t slot child records c.records) (names_with text t child names c.names)
    (columns_with kind t slot child below c.records c.columns)

-- the children from one on, at most so many, each walked by the reader given
unfoldable pub children_from : List ℕ → List ℕ → (ℕ → Walked) → ℕ → ℕ → ℕ → ℕ → ℕ → ℕ → ℕ → ℕ → Walked
children_from text t inner kind place zero records names below slot child = Ok (counts records names below)
children_from text t inner kind place (suc left) records names below slot child =
    elim (child == 0) [
      | true ↦ Ok (counts records names below)
      | false ↦ elim (is_beyond kind t child) [
        | true ↦ Err F.TooManySlots
        | false ↦ with_child
            (λ r n c. children_from text t inner kind place left r n c (slot_behind t child) (next_child t false kind place child))
            text t kind records names below slot child (inner child)
      ]
    ]

-- a map's entries stand above its key and value
abbrev pub above_of : ℕ → Counts
above_of kind = counts (when nat_eq kind map_kind then 1 else 0) (when nat_eq kind map_kind then length entries_name else 0) 0

abbrev pub children_below : List ℕ → List ℕ → (ℕ → Walked) → ℕ → ℕ → Walked
children_below text t inner kind place =
    children_from text t inner kind place child_limit
    (when nat_eq kind map_kind then 1 else 0) (when nat_eq kind map_kind then length entries_name else 0) 0 0
    (next_child t false kind place 0)

-- a place: refusals 12 and 13, and what stands below it; `flat` where no level is left, and a reader of its children
unfoldable pub walked_by : ℕ → List ℕ → List ℕ → Bool → (ℕ → Walked) → ℕ → Walked
walked_by options text t flat inner place =
    when word t place kind_word == null
    then (when allow_null_fields options then Ok (counts 0 0 0) else Err F.NullField)
    else when not (is_container (word t place kind_word)) || flat then Ok (counts 0 0 0)
    else when word t place kind_word == union_kind && dataless_at t place && enums_without_data_as_strings options then Ok (counts 0 0 0)
    else when word t place kind_word == union_kind && dataless_at t place && not (allow_null_fields options) then Err F.DatalessUnion
    else children_below text t inner (word t place kind_word) place

-- with so many levels left
unfoldable pub walked : ℕ → List ℕ → List ℕ → ℕ → ℕ → Walked
walked options text t zero = walked_by options text t true (λ child. Ok (counts 0 0 0))
walked options text t (suc levels) = walked_by options text t false (walked options text t levels)

-- all children of a place, with so many levels left for each
abbrev pub walked_below : ℕ → List ℕ → List ℕ → ℕ → ℕ → ℕ → Walked
walked_below options text t levels = children_below text t (walked options text t levels)
