-- `append_position` appends one more.
use Rattle.std.proofs.Common.{◌≡◌, ℕ, ◌+◌, ◌<◌, ◌≤◌, List, Ok, Err, ◌∙◌, arith, rules, le-leb}
use borrow.Author.Tests.{lt-leb}
use Rattle.logic.specs.Test.{when◌then◌else◌}
use Rattle.refusal.specs.declared.Refusal.TheVariants as F
use Rattle.text.specs.declared.Name.{Name}
use Rattle.model.specs.Tracing.{place_limit}
use Rattle.shapes.specs.declared.Step.TheVariants as S
use Rattle.shapes.specs.Steps.{code_of, name_of}
use Rattle.shapes.specs.laws.Shapes.{no_name_good}
use Rattle.places.specs.Layout.{Sound, Ready}
use Rattle.growth.specs.Growth.{making, appended, appended_behind, appended_from}
use Rattle.growth.specs.laws.Growth.{last_small, appended_last, sound_appended}
use Rattle.growth.proofs.append_position.Goals as goal

module _ (text t : List ℕ) (place i n : ℕ) where
  full : place_limit ≤ n → making (Err F.TooManyPlaces) t ≡ appended_from place i 1 n t
  unfolding appended_from when◌then◌else◌
  full m = rw (le-leb place_limit n m)

  module _ (s : Sound text t n) (h : place < n) (code child : ℕ) (name : Name) (u : List ℕ) (m : n < place_limit) (c : child ≡ n) (a : code ≡ code_of (S.Position i))
      (b : name ≡ name_of (S.Position i)) (e : u ≡ appended_behind place code name child t) where
    ready : Ready text t n place
    ready = record { sound = s; here = h }

    is_appended : u ≡ appended place code name n t
    is_appended = (rw c at e) ∙ appended_last place code n name t (last_small text t n place ready)

    one : making (Ok (n + 1)) u ≡ appended_from place i 1 n t
    unfolding appended_from when◌then◌else◌
    one = rw (lt-leb place_limit n m, is_appended, a, b)

    sound : Sound text u (n + 1)
    sound = sound_appended text t n place ready m code name (rw b (no_name_good text)) (rw b (omega arith)) u is_appended (rw a (omega arith))

pub returns-then-number-ge-PLACES : goal.returns-then-number-ge-PLACES
returns-then-number-ge-PLACES c = record { made = search (full, rules); same = record { text = search rules; table = search rules; grows = omega arith } }

pub invariant_of-places : goal.invariant_of-places
invariant_of-places c = record { sound = search (sound, rules) }

pub returns : goal.returns
returns c = record { made = search (one, rules); same = record { text = search rules; table = search rules; grows = omega arith } }
