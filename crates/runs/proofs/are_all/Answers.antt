-- `are_all` looks at one command after another.
use Rattle.std.proofs.Common.{rules, tests, ◌≡◌, ◌+◌, ℕ, Bool, List, refl, arith, add-zero}
use Rattle.std.specs.Prelude.{false, not, ◌||◌, zero, suc, eqb, get_or}
use Rattle.std.specs.List.{fold, range_with_len}
use Rattle.std.proofs.lemmas.Iterator.{YieldsList-from_range}
use Rattle.std.proofs.lemmas.Iterator.Consumers.{fold_from_yields_List}
use Rattle.logic.specs.laws.Test.{cases}
use Rattle.runs.specs.Runs.{are_all, block_length}
use Rattle.runs.proofs.are_all.Goals as goal

module _ (commands : List ℕ) (byte at : ℕ) where
  abbrev more : Bool → ℕ → Bool
  more other here = other || not (eqb (get_or commands here 0) byte)

  one : (i : ℕ) (other : Bool) → other ≡ not (are_all commands byte at i) → more other (at + i) ≡ not (are_all commands byte at (suc i))
  unfolding are_all
  one i other e = rw e (cases (are_all commands byte at i) (λ a. rw a) (λ a. rw a))

  passed : (n i : ℕ) (other : Bool) → other ≡ not (are_all commands byte at i) →
      fold more other (range_with_len (at + i) n) ≡ not (are_all commands byte at (i + n))
  passed zero i other e = rw add-zero e
  passed (suc n) i other e =
      let q : suc i + n ≡ i + suc n = omega arith in
      let p : at + suc i ≡ at + i + 1 = omega arith in
      rw (q, p) at (passed n (suc i) (more other (at + i)) (one i other e))

  none : false ≡ not (are_all commands byte at 0)
  unfolding are_all
  none = refl

  all : (other : Bool) → other ≡ fold more false (range_with_len at block_length) → not other ≡ are_all commands byte at block_length
  all other e =
      let p : fold more false (range_with_len at block_length) ≡ not (are_all commands byte at block_length) = rw add-zero at (passed block_length 0 false none) in
      rw (e, p) (cases (are_all commands byte at block_length) (λ a. rw a) (λ a. rw a))

pub returns : goal.returns
returns c =
    let more = more c.args.commands.now c.args.byte c.args.at in
    all c.args.commands.now c.args.byte c.args.at _
    (fold_from_yields_List _ more false c.fold.result c.fold.ensures.ran
    (YieldsList-from_range c.args.at (c.args.at + block_length) block_length refl (omega arith))
    (λ a x b q k. search (rules, tests)))
