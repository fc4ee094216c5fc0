-- Tracing without the bound on places, as Tracer::from_samples has none: the same tests but refusal 11, and no count is kept. Demand 2
-- speaks of it; that it gives what tracing with the bound gives, but for 11, is proved in `equality`.
use Rattle.std.specs.Prelude.{Bool, true, List, [], ◌∷◌, ℕ, ◌+◌}
use Rattle.logic.specs.Test.{when◌then◌else◌}
use Rattle.refusal.specs.Number.{two_names}
use Rattle.model.specs.Result.{Result, accepted, refused, ◌>>=◌}
use Rattle.model.specs.Kinds.{is_container, Step}
use Rattle.model.specs.Reading.{Value, val, cut, Parts, no_parts, cut_off, part}
use Rattle.model.specs.Tracing.{Tree, node, Kids, marks_of, kind_of, samples_of, kids_of, dots_of, meet, marks_with, steps_of, kid_at, put, clashes, made, one, tally}

unfoldable pub make_all : List Step → Kids → Kids
make_all [] kids = kids
make_all (s ∷ ss) kids = make_all ss (put s (kid_at s kids) kids)

-- refusal 9
unfoldable pub allowed : ℕ → Step → Kids → Result Bool
allowed at s kids = when clashes s (steps_of kids) then refused two_names at else accepted true

unfoldable mutual
  pub see : ℕ → ℕ → Value → Tree → Result Tree
  see options depth (val at null kind positions ps) tree = do
    met ← meet options depth at (kind_of tree) kind
    kids ← see_parts options depth ps (make_all (made kind positions (kind_of tree)) (kids_of tree))
    accepted (node (marks_with null (kind_of tree) kind (marks_of tree)) met (samples_of tree + one (is_container kind)) (tally ps kids))
  see options depth (cut refusal place) tree = refused refusal place

  pub see_parts : ℕ → ℕ → Parts → Kids → Result Kids
  see_parts options depth no_parts kids = accepted kids
  see_parts options depth (cut_off refusal place) kids = refused refusal place
  see_parts options depth (part at s v ps) kids = do
    _ ← allowed at s kids
    tree ← see options (depth + dots_of s) v (kid_at s kids)
    see_parts options depth ps (put s tree kids)

unfoldable pub see_all : ℕ → ℕ → List Value → Tree → Result Tree
see_all options depth [] tree = accepted tree
see_all options depth (v ∷ vs) tree = see options depth v tree >>= see_all options depth vs
