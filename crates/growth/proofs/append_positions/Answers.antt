-- `append_positions`: the positions left, appended to the table as it is, give what all give.
use Rattle.std.proofs.Common.{◌≡◌, ℕ, suc, ◌+◌, ◌-◌, ◌<◌, ◌≤◌, List, nat_le, ◌∙◌, add-one, arith, rules, Result, Ok, Err}
use Rattle.logic.specs.Test.{when◌then◌else◌}
use Rattle.logic.specs.laws.Test.{cases}
use Rattle.refusal.specs.declared.Refusal.{Refusal}
use Rattle.model.specs.Tracing.{place_limit}
use Rattle.places.specs.declared.Places.{Places}
use Rattle.places.specs.Places.{Same}
use Rattle.growth.specs.Growth.{Making, then_made, appended_from, MadeAs}
use Rattle.growth.proofs.Steps.{still, same_then}
use Rattle.growth.proofs.append_positions.Goals as goal

-- one, and the others after it
by_one : (place i left n : ℕ) (t : List ℕ) → then_made (appended_from place i 1 n t) (appended_from place (suc i) left) ≡ appended_from place i (suc left) n t
unfolding appended_from when◌then◌else◌
by_one place i left n t = cases (nat_le place_limit n) (λ e. rw e) (λ e. rw e)

module _ (o q : Places) (place positions i : ℕ) (all : Making) (whole : appended_from place i (positions - i) q.count q.table.now ≡ all) (same : Same o q) where
  ended : positions ≤ i → MadeAs all o q (Ok tt)
  unfolding appended_from
  ended h = let e : positions - i ≡ 0 = omega arith in record { made = rw e at whole; same = same }

  module _ (p : Places) (r : Result (Unit {0}) Refusal) (h : i < positions) (e : MadeAs (appended_from place i 1 q.count q.table.now) q p r) where
    apart : then_made (appended_from place i 1 q.count q.table.now) (appended_from place (suc i) (positions - (i + 1))) ≡ all
    apart = let l : positions - i ≡ suc (positions - (i + 1)) = omega arith in by_one place i (positions - (i + 1)) q.count q.table.now ∙ (rw l at whole)

    onward : (done : Unit {0}) → r ≡ Ok done → appended_from place (i + 1) (positions - (i + 1)) p.count p.table.now ≡ all
    onward done is = rw (← e.made, is, ← add-one i) at apart

    refused : (refusal : Refusal) (s : Result (Unit {0}) Refusal) → r ≡ Err refusal → s ≡ Err refusal → MadeAs all o p s
    refused refusal s is d = record { made = rw d (rw (← e.made, is) at apart); same = same_then o q p same e.same }

pub returns-in_err-append_position : goal.returns-in_err-append_position
returns-in_err-append_position c = search (refused, rules)

pub loop-i-preserved : goal.loop-i-preserved
loop-i-preserved c = record { rest = search (onward, rules); here = search (still, rules); same = search (same_then, rules) }

pub returns : goal.returns
returns c = search (ended, rules)
