-- What reading guarantees of values, and tracing of places: kinds are those that the options let a batch show, and steps those of their
-- container.
use Rattle.std.specs.Prelude.{Bool, true, not, ◌&&◌, ◌||◌, List, [], ◌∷◌, ℕ, suc, eqb, ltb}
use Rattle.logic.specs.Test.{when◌then◌else◌}
use Rattle.datatype.specs.Codes.{binary, large_binary, dictionary_utf8}
use Rattle.options.specs.Word.{string_type, binary_type}
use Rattle.coerce.specs.Joint.{is_string}
use Rattle.model.specs.Kinds.{sequence_kind, struct_kind, map_kind, union_kind, tuple_kind, map_mode_kind, is_struct, Step, field, element, position, key, value, variant}
use Rattle.model.specs.Reading.{Value, val, cut, Parts, no_parts, cut_off, part}
use Rattle.model.specs.Tracing.{has}
use Rattle.model.specs.Emission.{Place, shown, Places, none_below, below}

abbrev pub is_container_kind : ℕ → Bool
is_container_kind kind = eqb kind sequence_kind || eqb kind struct_kind || eqb kind map_kind || eqb kind union_kind || eqb kind tuple_kind || eqb kind map_mode_kind

abbrev pub is_binary : ℕ → Bool
is_binary kind = eqb kind binary || eqb kind large_binary

-- a type that some text or value can show under the options
abbrev pub type_fits : ℕ → ℕ → Bool
type_fits options kind =
    ltb kind dictionary_utf8 && (when is_string kind then eqb kind (string_type options) else when is_binary kind then eqb kind (binary_type options) else true)

abbrev pub kind_fits : ℕ → ℕ → Bool
kind_fits options kind = is_container_kind kind || type_fits options kind

-- the step to part i of a value of a kind
abbrev pub part_fits : ℕ → ℕ → Step → Bool
part_fits kind i (field name) = is_struct kind
part_fits kind i element = eqb kind sequence_kind
part_fits kind i (position j) = eqb kind tuple_kind && eqb j i
part_fits kind i key = eqb kind map_kind
part_fits kind i value = eqb kind map_kind
part_fits kind i (variant number name) = eqb kind union_kind && eqb i 0

-- a tuple has all its positions, and a union's value its one variant
abbrev pub end_fits : ℕ → ℕ → ℕ → Bool
end_fits kind positions i = when eqb kind tuple_kind then eqb i positions else when eqb kind union_kind then eqb i 1 else true

unfoldable mutual
  pub is_proper : ℕ → Value → Bool
  is_proper options (val at null kind positions ps) = kind_fits options kind && are_proper options kind positions 0 ps
  is_proper options (cut refusal place) = true

  pub are_proper : ℕ → ℕ → ℕ → ℕ → Parts → Bool
  are_proper options kind positions i no_parts = end_fits kind positions i
  are_proper options kind positions i (cut_off refusal place) = true
  are_proper options kind positions i (part at s v ps) = (part_fits kind i s && is_proper options v) && are_proper options kind positions (suc i) ps

unfoldable pub all_proper : ℕ → List Value → Bool
all_proper options [] = true
all_proper options (v ∷ vs) = is_proper options v && all_proper options vs

-- the step to place i below a place of a kind
abbrev pub step_fits : ℕ → ℕ → Step → Bool
step_fits kind i (field name) = is_struct kind
step_fits kind i element = eqb kind sequence_kind && eqb i 0
step_fits kind i (position j) = eqb kind tuple_kind && eqb j i
step_fits kind i key = eqb kind map_kind && eqb i 0
step_fits kind i value = eqb kind map_kind && eqb i 1
step_fits kind i (variant number name) = eqb kind union_kind

unfoldable pub steps_below : Places → List Step
steps_below none_below = []
steps_below (below s p ps) = s ∷ steps_below ps

unfoldable mutual
  pub fits : ℕ → Place → Bool
  fits options (shown m kind ps) = kind_fits options kind && fit_below options kind 0 ps

  -- and no step stands twice
  pub fit_below : ℕ → ℕ → ℕ → Places → Bool
  fit_below options kind i none_below = true
  fit_below options kind i (below s p ps) = (step_fits kind i s && not (has s (steps_below ps))) && (fits options p && fit_below options kind (suc i) ps)
