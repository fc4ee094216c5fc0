-- The census (document 01, "Census"): what is said of each place, counted off the values that stand there. Nothing is merged.
use Rattle.std.specs.Prelude.{Bool, false, ◌&&◌, ◌||◌, List, [], ◌∷◌, ◌++◌, ◌≡◌, ℕ, ◌+◌, eqb, ltb}
use Rattle.std.proofs.Math.Option.{Option, none, some}
use Rattle.logic.specs.Test.{when◌then◌else◌}
use Rattle.datatype.specs.Codes.{null}
use Rattle.text.specs.Name.{lt_name}
use Rattle.coerce.specs.Census.{are_several, type_seen, non_null}
use Rattle.model.specs.Kinds.{sequence_kind, struct_kind, map_kind, is_container, is_struct, Step, element, key, value, step_code, same}
use Rattle.model.specs.Reading.{Value, val, cut, Parts, no_parts, cut_off, part}
use Rattle.model.specs.Tracing.{has, holds, one}

-- ---- the values that stand at a place
abbrev pub parts_of : Value → Parts
parts_of (val at null kind n ps) = ps
parts_of (cut refusal place) = no_parts

abbrev pub kind_in : Value → ℕ
kind_in (val at null kind n ps) = kind
kind_in (cut refusal place) = null

abbrev pub null_in : Value → Bool
null_in (val at null kind n ps) = null
null_in (cut refusal place) = false

-- the parts at a step
unfoldable pub parts_at : Step → Parts → List Value
parts_at s no_parts = []
parts_at s (cut_off refusal place) = []
parts_at s (part at r v ps) = when same s r then v ∷ parts_at s ps else parts_at s ps

-- one step down
unfoldable pub below : Step → List Value → List Value
below s [] = []
below s (v ∷ vs) = parts_at s (parts_of v) ++ below s vs

-- at the end of the steps down from the records: equal steps, in any record, are one place
unfoldable pub standing : List Step → List Value → List Value
standing [] records = records
standing (s ∷ steps) records = standing steps (below s records)

-- ---- null: none or some seen there, or Null observed
unfoldable pub any_null : List Value → Bool
any_null [] = false
any_null (v ∷ vs) = null_in v || any_null vs

-- ---- samples: the containers that stand at a place, and those of them that hold a step
unfoldable pub samples : List Value → ℕ
samples [] = 0
samples (v ∷ vs) = one (is_container (kind_in v)) + samples vs

unfoldable pub holders : Step → List Value → ℕ
holders s [] = 0
holders s (v ∷ vs) = one (holds s (parts_of v)) + holders s vs

-- ---- container kind and mode, or the type read off the set of types seen
unfoldable pub kinds_seen : List Value → List ℕ
kinds_seen [] = []
kinds_seen (v ∷ vs) = kind_in v ∷ kinds_seen vs

-- the first sight of a container, Null where there is none
unfoldable pub container_seen : List ℕ → ℕ
container_seen [] = null
container_seen (kind ∷ kinds) = when is_container kind then kind else container_seen kinds

-- the primitive types seen, Null among them
unfoldable pub types_seen : List ℕ → List ℕ
types_seen [] = []
types_seen (kind ∷ kinds) = when is_container kind then types_seen kinds else kind ∷ types_seen kinds

-- two different ones were, neither of them Null (document 02, 1/14)
abbrev pub is_widened : List ℕ → Bool
is_widened kinds = are_several (non_null (types_seen kinds))

unfoldable pub kind_seen : ℕ → List ℕ → ℕ
kind_seen options kinds = when is_container (container_seen kinds) then container_seen kinds else type_seen options (non_null kinds)

-- ---- children
-- a sequence's element, and a map's key and value, are places even if unseen
unfoldable pub fixed_steps : ℕ → List Step
fixed_steps kind = when eqb kind sequence_kind then element ∷ [] else when eqb kind map_kind then key ∷ value ∷ [] else []

unfoldable pub steps_in : Parts → List Step
steps_in no_parts = []
steps_in (cut_off refusal place) = []
steps_in (part at s v ps) = s ∷ steps_in ps

-- steps in order of first sight
unfoldable pub sight : Step → List Step → List Step
sight s seen = when has s seen then seen else seen ++ (s ∷ [])

unfoldable pub sights : List Step → List Step → List Step
sights [] seen = seen
sights (s ∷ ss) seen = sights ss (sight s seen)

unfoldable pub steps_seen : List Value → List Step → List Step
steps_seen [] seen = seen
steps_seen (v ∷ vs) seen = steps_seen vs (sights (steps_in (parts_of v)) (sights (fixed_steps (kind_in v)) seen))

-- a set of steps, written in one order
unfoldable pub insert_step : Step → List Step → List Step
insert_step s [] = s ∷ []
insert_step s (r ∷ rs) = when lt_name (step_code r) (step_code s) then r ∷ insert_step s rs else s ∷ r ∷ rs

unfoldable pub as_set : List Step → List Step
as_set [] = []
as_set (s ∷ ss) = insert_step s (as_set ss)

-- struct names in order of first sight; map-mode names as a set; positions up to the longest tuple; variant numbers with names
abbrev pub children_of : ℕ → List Step → List Step
children_of kind seen = when eqb kind struct_kind then seen else as_set seen

-- ---- what is said of a place
pub record Said : Type 0 where
  pub null : Bool
  pub widened : Bool
  pub kind : ℕ
  pub children : List Step

-- fewer samples of its struct hold it than exist
abbrev pub is_lacking : ℕ → Step → List Value → Bool
is_lacking options s vs = is_struct (kind_seen options (kinds_seen vs)) && ltb (holders s vs) (samples vs)

-- what is said of the place at the end of the steps, where these values stand at the start of them; nothing where there is no such place
unfoldable pub census : ℕ → List Step → Bool → List Value → Option Said
census options [] lacking vs =
    some (record {
      null = lacking || any_null vs;
      widened = is_widened (kinds_seen vs);
      kind = kind_seen options (kinds_seen vs);
      children = children_of (kind_seen options (kinds_seen vs)) (steps_seen vs []);
    })
census options (s ∷ steps) lacking vs =
    when has s (steps_seen vs []) then census options steps (is_lacking options s vs) (below s vs)
    else none

-- censuses are equal when they have the same places and say the same of each
unfoldable pub SameCensus : ℕ → List Value → List Value → Type 0
SameCensus options vs ws = (steps : List Step) → census options steps false vs ≡ census options steps false ws
