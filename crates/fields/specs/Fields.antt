-- What the field of a place is: how many fields stand below it, its nullable byte, whether a sample lacks it, whether it is a dictionary or
-- a leaf.
use Rattle.std.specs.Prelude.{Bool, true, false, not, ◌&&◌, ◌||◌, List, ℕ, zero, suc, ◌%◌, eqb, ltb}
use Rattle.logic.specs.Test.{when◌then◌else◌}
use Rattle.options.specs.Word.{enums_without_data_as_strings}
use Rattle.words.specs.Word.{word}
use Rattle.model.specs.Kinds.{map_kind, union_kind, is_container, is_struct}
use Rattle.places.specs.Layout.{kind_word, nullable_word, samples_word, held_word}
use Rattle.places.specs.Nullable.{admitting}
use Rattle.places.specs.Reading.{variant_at, child_limit, next_child}
use Rattle.walk.specs.Walk.{dataless_at, sum_of}

-- how many fields with a child: of a union the slots up to its own
abbrev pub count_with : ℕ → List ℕ → ℕ → ℕ → ℕ
count_with kind t child count = when eqb kind union_kind then sum_of (variant_at t child) 1 else sum_of count 1

-- the children from one on, at most so many
unfoldable pub count_from : List ℕ → ℕ → ℕ → ℕ → ℕ → ℕ → ℕ
count_from t kind place zero count child = count
count_from t kind place (suc left) count child =
    elim (eqb child 0) [
      | true ↦ count
      | false ↦ count_from t kind place left (count_with kind t child count) (next_child t false kind place child)
    ]

abbrev pub count_below : List ℕ → ℕ → ℕ → ℕ
count_below t kind place = count_from t kind place child_limit 0 (next_child t false kind place 0)

-- how many fields a place's field has: a map's is its entries
unfoldable pub field_count : List ℕ → ℕ → ℕ → ℕ
field_count t kind place = when eqb kind map_kind then 1 else count_below t kind place

-- the nullable byte of a place's field: null is admitted too where a sample lacks it
abbrev pub nullable_at : List ℕ → ℕ → Bool → ℕ
nullable_at t place lacking =
    (when lacking then admitting (word t place nullable_word) else word t place nullable_word) % 256

-- a struct field that some sample lacks
abbrev pub lacking_at : List ℕ → ℕ → ℕ → ℕ → Bool
lacking_at t kind place child = is_struct kind && ltb (word t child held_word) (word t place samples_word)

-- a union that is emitted as a dictionary
abbrev pub is_dictionary : ℕ → List ℕ → ℕ → Bool
is_dictionary options t place = eqb (word t place kind_word) union_kind && enums_without_data_as_strings options && dataless_at t place

-- whether nothing is emitted below a place
unfoldable pub is_leaf : ℕ → List ℕ → Bool → ℕ → Bool
is_leaf options t flat place = not (is_container (word t place kind_word)) || flat || is_dictionary options t place
