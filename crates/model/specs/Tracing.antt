-- The tree of places that the values of a batch leave, or the refusal, 4 to 11, that they meet (document 01, "Places"):
-- Tracer::from_samples with the bound on places.
use Rattle.std.specs.Prelude.{Bool, true, false, not, ◌&&◌, ◌||◌, List, [], ◌∷◌, ℕ, zero, suc, ◌+◌, eqb, leb, ltb}
use Rattle.logic.specs.Test.{when◌then◌else◌}
use Rattle.datatype.specs.Codes.{null}
use Rattle.refusal.specs.Number.{too_deep, mismatch, two_names, no_joint, too_many_places}
use Rattle.text.specs.Name.{dots}
use Rattle.coerce.specs.Joint.{joint, differ}
use Rattle.model.specs.Result.{Result, accepted, refused, ◌>>=◌, or_refused}
use Rattle.model.specs.Kinds.{sequence_kind, map_kind, tuple_kind, is_container, is_struct, Step, field, element, position, key, value, variant, same, variant_of, is_variant}
use Rattle.model.specs.Reading.{Value, val, cut, Parts, no_parts, cut_off, part}

-- The marks of a place: null was seen there; it was widened, that is, two different primitive types were seen there, neither of them Null
-- (document 02, 1/14).
pub record Marks : Type 0 where
  pub null : Bool
  pub widened : Bool

abbrev pub marks : Bool → Bool → Marks
marks null widened = record { null = null; widened = widened }

-- A place and all below it: its marks, its kind (Null while unknown), how many containers stood there, and the places below in order of
-- first sight, each with the number of those containers that held it.
mutual
  pub data Tree : Type 0 where
    node : Marks → (kind samples : ℕ) → Kids → Tree

  pub data Kids : Type 0 where
    no_kids : Kids
    kid : Step → (held : ℕ) → Tree → Kids → Kids

abbrev pub marks_of : Tree → Marks
marks_of (node m kind samples kids) = m

abbrev pub kind_of : Tree → ℕ
kind_of (node m kind samples kids) = kind

abbrev pub samples_of : Tree → ℕ
samples_of (node m kind samples kids) = samples

abbrev pub kids_of : Tree → Kids
kids_of (node m kind samples kids) = kids

-- an unseen place
abbrev pub fresh : Tree
fresh = node (marks false false) null 0 no_kids

-- ---- depth: the number of dots in a path, and a name's own dots count
abbrev pub dots_of : Step → ℕ
dots_of (field name) = 1 + dots name
dots_of element = 1
dots_of (position i) = 1
dots_of key = 1
dots_of value = 1
dots_of (variant number name) = 1 + dots name

-- no container or variant is taken at a place this deep or deeper (refusal 7)
abbrev pub depth_limit : ℕ
depth_limit = 20

abbrev pub place_limit : ℕ
place_limit = 1024

-- ---- kinds that meet
-- the same container, in whatever mode
abbrev pub same_container : ℕ → ℕ → Bool
same_container kind other = eqb kind other || (is_struct kind && is_struct other)

-- a place of the first kind meets a value of the second: Null changes no kind and an unknown or Null place takes any, a container keeps its
-- kind and mode, two primitive types have their joint
unfoldable pub meet : ℕ → ℕ → ℕ → ℕ → ℕ → Result ℕ
meet options depth at kind other =
    when is_container other && leb depth_limit depth then refused too_deep at
    else when not (is_container kind || is_container other) then or_refused no_joint at (joint options kind other)
    else when eqb other null then accepted kind
    else when eqb kind null then accepted other
    else when same_container kind other then accepted kind
    else refused mismatch at

-- a value widens a place where its type and the place's differ: the place has the first type that it saw until another comes, so that two
-- of all those seen there differ exactly where a value widened it
abbrev pub widens : ℕ → ℕ → Bool
widens kind other = not (is_container kind || is_container other) && differ kind other

-- the place's marks then
abbrev pub marks_with : (null : Bool) → (kind other : ℕ) → Marks → Marks
marks_with null kind other m = marks (m.null || null) (m.widened || widens kind other)

-- ---- the places below a place
unfoldable pub steps_of : Kids → List Step
steps_of no_kids = []
steps_of (kid s held tree kids) = s ∷ steps_of kids

unfoldable pub has : Step → List Step → Bool
has s [] = false
has s (r ∷ rs) = same s r || has s rs

-- the place at a step, unseen where there is none
unfoldable pub kid_at : Step → Kids → Tree
kid_at s no_kids = fresh
kid_at s (kid r held tree kids) = when same s r then tree else kid_at s kids

-- a new place comes last
unfoldable pub put : Step → Tree → Kids → Kids
put s tree no_kids = kid s 0 tree no_kids
put s tree (kid r held other kids) = when same s r then kid r held tree kids else kid r held other (put s tree kids)

-- another name for the number of a variant that is there (refusal 9)
abbrev pub renames : Step → Step → Bool
renames s r = (is_variant s && is_variant r) && (eqb (variant_of s) (variant_of r) && not (same s r))

unfoldable pub clashes : Step → List Step → Bool
clashes s [] = false
clashes s (r ∷ rs) = renames s r || clashes s rs

-- the count of places with this one, which may be there already: refusals 9 and 11
unfoldable pub room : ℕ → Step → ℕ → Kids → Result ℕ
room at s places kids =
    when clashes s (steps_of kids) then refused two_names at
    else when has s (steps_of kids) then accepted places
    else when ltb places place_limit then accepted (places + 1)
    else refused too_many_places at

-- ---- the places that a container makes at its own command: a sequence one, a map two, a tuple all its positions where it is the first
abbrev pub positions_from : ℕ → ℕ → List Step
positions_from i zero = []
positions_from i (suc n) = position i ∷ positions_from (suc i) n

unfoldable pub made : ℕ → ℕ → ℕ → List Step
made kind positions before =
    when eqb kind sequence_kind then element ∷ []
    else when eqb kind map_kind then key ∷ value ∷ []
    else when eqb kind tuple_kind && eqb before null then positions_from 0 positions
    else []

-- the count of places so far, and what they are
pub record Counted (A : Type 0) : Type 0 where
  pub places : ℕ
  pub what : A

abbrev pub counted : {A : Type 0} → ℕ → A → Result (Counted A)
counted n a = accepted (record { places = n; what = a })

unfoldable pub make : ℕ → List Step → ℕ → Kids → Result (Counted Kids)
make at [] places kids = counted places kids
make at (s ∷ ss) places kids = do
  n ← room at s places kids
  make at ss n (put s (kid_at s kids) kids)

-- ---- how many containers held each place below
unfoldable pub holds : Step → Parts → Bool
holds s no_parts = false
holds s (cut_off refusal place) = false
holds s (part at r v ps) = same s r || holds s ps

abbrev pub one : Bool → ℕ
one true = 1
one false = 0

unfoldable pub tally : Parts → Kids → Kids
tally ps no_kids = no_kids
tally ps (kid s held tree kids) = kid s (held + one (holds s ps)) tree (tally ps kids)

-- ---- a value meets a place: the order of tests at one command is that of document 01
unfoldable mutual
  pub observe : ℕ → ℕ → Value → ℕ → Tree → Result (Counted Tree)
  observe options depth (val at null kind positions ps) places tree = do
    met ← meet options depth at (kind_of tree) kind
    opened ← make at (made kind positions (kind_of tree)) places (kids_of tree)
    filled ← observe_parts options depth ps opened.places opened.what
    counted filled.places
        (node (marks_with null (kind_of tree) kind (marks_of tree)) met (samples_of tree + one (is_container kind)) (tally ps filled.what))
  observe options depth (cut refusal place) places tree = refused refusal place

  pub observe_parts : ℕ → ℕ → Parts → ℕ → Kids → Result (Counted Kids)
  observe_parts options depth no_parts places kids = counted places kids
  observe_parts options depth (cut_off refusal place) places kids = refused refusal place
  observe_parts options depth (part at s v ps) places kids = do
    n ← room at s places kids
    below ← observe options (depth + dots_of s) v n (kid_at s kids)
    observe_parts options depth ps below.places (put s below.what kids)

unfoldable pub observe_all : ℕ → ℕ → List Value → ℕ → Tree → Result (Counted Tree)
observe_all options depth [] places tree = counted places tree
observe_all options depth (v ∷ vs) places tree = do
  after ← observe options depth v places tree
  observe_all options depth vs after.places after.what

-- a trace starts from an unseen root, and each record meets what the last left
unfoldable pub trace : ℕ → List Value → Result (Counted Tree)
trace options vs = observe_all options 0 vs 1 fresh
