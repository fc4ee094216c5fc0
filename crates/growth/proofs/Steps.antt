-- A child that was ensured at a step is a child made there, and so are those after it.
use Rattle.std.proofs.Common.{◌≡◌, ℕ, ◌<◌, ◌≤◌, List, [], ◌∷◌, refl, sym, le_refl, ◌∙◌, Result, Ok, Err, arith}
use Rattle.refusal.specs.declared.Refusal.{Refusal}
use Rattle.shapes.specs.declared.Step.{Step}
use Rattle.places.specs.declared.Places.{Places}
use Rattle.places.specs.Places.{Same}
use Rattle.growth.specs.Growth.{making, ensured, made_one, made_all, EnsuredAs, MadeAs}
use Rattle.growth.specs.laws.Growth.{made_first, made_stops}

pub still : (o p : Places) (place : ℕ) → Same o p → place < o.count → place < p.count
still o p place s h = let l : o.count ≤ p.count = s.grows in omega arith

pub same_then : (o p q : Places) → Same o p → Same p q → Same o q
same_then o p q a b = let k : o.count ≤ p.count = a.grows in let l : p.count ≤ q.count = b.grows in record { text = b.text ∙ a.text; table = b.table ∙ a.table; grows = omega arith }

module _ (o p : Places) (place : ℕ) (step : Step) (r : Result ℕ Refusal) (e : EnsuredAs (ensured o.text.now place step o.count o.table.now) o p r) where
  module _ (child : ℕ) (is : r ≡ Ok child) where
    there : making (Ok p.count) p.table.now ≡ made_one o.text.now place step o.count o.table.now
    unfolding made_one
    there = rw (← e.ensured, is)

    pub first : (steps : List Step) → made_all o.text.now place (step ∷ steps) o.count o.table.now ≡ made_all p.text.now place steps p.count p.table.now
    first steps = rw e.same.text (made_first o.text.now o.table.now p.table.now o.count place step (Ok p.count) there steps p.count refl)

    pub more : (steps : List Step) (q : Places) (s : Result (Unit {0}) Refusal) → MadeAs (made_all p.text.now place steps p.count p.table.now) p q s →
        MadeAs (made_all o.text.now place (step ∷ steps) o.count o.table.now) o q s
    more steps q s m = record { made = m.made ∙ sym (first steps); same = same_then o p q e.same m.same }

  module _ (refusal : Refusal) (is : r ≡ Err refusal) where
    refused : making (Err refusal) p.table.now ≡ made_one o.text.now place step o.count o.table.now
    unfolding made_one
    refused = rw (← e.ensured, is)

    pub stops : (steps : List Step) (s : Result (Unit {0}) Refusal) → s ≡ Err refusal → MadeAs (made_all o.text.now place (step ∷ steps) o.count o.table.now) o p s
    stops steps s t =
        record {
          made = rw t (sym (made_stops o.text.now o.table.now p.table.now o.count place step (Err refusal) refused steps refusal refl));
          same = e.same;
        }

pub done : (o : Places) (place : ℕ) → MadeAs (made_all o.text.now place [] o.count o.table.now) o o (Ok tt)
unfolding made_all
done o place = record { made = refl; same = record { text = refl; table = refl; grows = le_refl _ } }
