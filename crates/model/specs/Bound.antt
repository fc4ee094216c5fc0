-- The bound on places (document 01: "At most 1,024, root counted"; refusal 11: "A 1,025th place is needed"): how many places a batch has,
-- read off its census; and which command needs each of them, where nothing bounds their number.
use Rattle.std.specs.Prelude.{◌≡◌, false, ◌⊎◌, List, [], ◌∷◌, ◌++◌, ℕ, suc, ◌+◌, ◌≤◌, length}
use Rattle.std.proofs.Math.Option.{some}
use Rattle.logic.specs.Test.{when◌then◌else◌}
use Rattle.model.specs.Result.{Result, accepted, refused}
use Rattle.model.specs.Kinds.{Step, field, element, position, key, value, variant}
use Rattle.model.specs.Reading.{Value, val, cut, Parts, no_parts, cut_off, part}
use Rattle.model.specs.Tracing.{Tree, Kids, kind_of, kids_of, fresh, dots_of, place_limit, meet, steps_of, has, kid_at, put, clashes, made}
use Rattle.model.specs.Unbounded.{make_all, see, see_all}
use Rattle.model.specs.Census.{Said, census}

-- ---- how many places a batch has
-- a variant's place is found by its number alone: steps that differ in a variant's name lead to one place (and get refusal 9)
abbrev pub unnamed : Step → Step
unnamed (field name) = field name
unnamed element = element
unnamed (position i) = position i
unnamed key = key
unnamed value = value
unnamed (variant number name) = variant number []

unfoldable pub without_names : List Step → List Step
without_names [] = []
without_names (s ∷ steps) = unnamed s ∷ without_names steps

-- a place is one of these
unfoldable pub Among : List Step → List (List Step) → Type 0
Among place [] = ⊥
Among place (other ∷ places) = (place ≡ other) ⊎ Among place places

-- it has at most n places if a list of at most n holds every place of which its census says anything
pub record AtMost (n options : ℕ) (records : List Value) : Type 0 where
  pub places : List (List Step)
  pub few : length places ≤ n
  pub hold : (steps : List Step) (said : Said) → census options steps false records ≡ some said → Among (without_names steps) places

-- ---- which commands need them: the offset of each, once for every place that it makes, in their order, up to a refusal by another cause
-- a place that is not there yet
abbrev pub need : ℕ → Step → Kids → List ℕ
need at s kids = when has s (steps_of kids) then [] else at ∷ []

-- those that a container makes at its own command
unfoldable pub needed : ℕ → List Step → Kids → List ℕ
needed at [] kids = []
needed at (s ∷ ss) kids = need at s kids ++ needed at ss (put s (kid_at s kids) kids)

-- what follows, where nothing was refused
abbrev pub unless_refused : {A : Type 0} → Result A → (A → List ℕ) → List ℕ
unless_refused (accepted a) more = more a
unless_refused (refused refusal place) more = []

unfoldable mutual
  pub needs : ℕ → ℕ → Value → Tree → List ℕ
  needs options depth (val at null kind positions ps) tree =
      unless_refused (meet options depth at (kind_of tree) kind) λ _.
      let steps = made kind positions (kind_of tree) in
      needed at steps (kids_of tree) ++ needs_in options depth ps (make_all steps (kids_of tree))
  needs options depth (cut refusal place) tree = []

  pub needs_in : ℕ → ℕ → Parts → Kids → List ℕ
  needs_in options depth no_parts kids = []
  needs_in options depth (cut_off refusal place) kids = []
  needs_in options depth (part at s v ps) kids =
      when clashes s (steps_of kids) then []
      else need at s kids ++ (needs options (depth + dots_of s) v (kid_at s kids)
      ++ unless_refused (see options (depth + dots_of s) v (kid_at s kids)) λ tree. needs_in options depth ps (put s tree kids))

unfoldable pub needs_all : ℕ → List Value → Tree → List ℕ
needs_all options [] tree = []
needs_all options (v ∷ vs) tree = needs options 0 v tree ++ unless_refused (see options 0 v tree) (needs_all options vs)

-- The command at p is the first that needs a 1,025th place: the root and the places needed before that one are 1,024. Nothing before p is
-- refused: tracing without the bound is refused at p or later, if at all (which follows, for the list ends where it is refused).
pub record Exceeds (options : ℕ) (records : List Value) (p : ℕ) : Type 0 where
  pub before : List ℕ
  pub after : List ℕ
  pub is : needs_all options records fresh ≡ before ++ (p ∷ after)
  pub full : suc (length before) ≡ place_limit
  pub unrefused : (refusal place : ℕ) → see_all options 0 records fresh ≡ refused refusal place → p ≤ place
