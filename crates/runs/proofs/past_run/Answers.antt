-- `past_run`: behind the blocks, and from each offset on, the run ends where it does as a whole.
use Rattle.std.proofs.Common.{rules, tests, ◌≡◌, ◌∙◌, ◌+◌, ◌-◌, ◌<◌, ◌≤◌, ℕ, List, refl, arith, add-zero, ltb-true, ltb-false}
use Rattle.std.specs.Prelude.{zero, suc, get_or, length, ltb, Option, None, Some, max}
use Rattle.std.specs.Option.{MatchOption, unwrap_or}
use Rattle.std.proofs.lemmas.Iterator.{first_from_Range}
use Rattle.logic.specs.laws.Test.{cases}
use Rattle.runs.specs.Runs.{behind_run}
use Rattle.runs.specs.laws.Runs.{run_cut, run_other, run_more}
use Rattle.runs.proofs.past_run.Goals as goal

module _ (commands : List ℕ) (byte start : ℕ) where
  -- past so many commands that are that byte
  passed : (n : ℕ) → start + n ≤ length commands → ((k : ℕ) → start ≤ k → k < start + n → get_or commands k 0 ≡ byte) →
      behind_run commands byte (start + n) ≡ behind_run commands byte start
  passed zero h all = rw add-zero refl
  passed (suc n) h all =
      let q : start + n + 1 ≡ start + suc n = omega arith in
      rw q at (run_more commands byte (start + n) (behind_run commands byte start) (passed n (omega arith) (λ k l u. all k l (omega arith))) (omega arith) _
      refl (all (start + n) (omega arith) (omega arith)))

  -- the first that is another byte, or the end
  ended : (found : Option ℕ) (behind : ℕ) →
      MatchOption found ((k : ℕ) → start ≤ k → k < length commands → get_or commands k 0 ≡ byte)
      (λ i. (start ≤ i) × (i < length commands) × (get_or commands i 0 ≡ byte → ⊥) × ((k : ℕ) → start ≤ k → k < i → get_or commands k 0 ≡ byte)) →
      behind ≡ unwrap_or found (max start (length commands)) → behind ≡ behind_run commands byte start
  ended None behind all e =
      let size = length commands in
      cases (ltb start size)
      (λ t.
      let l = ltb-true start size t in
      let q : start + (size - start) ≡ size = omega (arith, l) in
      let cut : size ≡ behind_run commands byte start =
      run_cut commands byte size (behind_run commands byte start) (rw q at (passed (size - start) (omega (arith, l)) (λ k a u. all k a (omega (arith, q))))) (omega arith) in
      omega (arith, e, l, cut))
      (λ f.
      let l = ltb-false start size f in
      let cut : start ≡ behind_run commands byte start = run_cut commands byte start (behind_run commands byte start) refl l in omega (arith, e, l, cut))
  ended (Some i) behind h e =
      let q : start + (i - start) ≡ i = omega (arith, h.0) in
      e ∙ run_other commands byte i (behind_run commands byte start)
      (rw q at (passed (i - start) (omega (arith, h.0, h.1)) (λ k l u. h.3 k l (omega (arith, q))))) h.1 _ refl h.2

pub returns : goal.returns
returns c =
    let found = first_from_Range _ _ _ c.find.result (λ k. get_or c.args.commands.now k 0 ≡ c.args.byte → ⊥) (λ k. get_or c.args.commands.now k 0 ≡ c.args.byte)
    c.find.ensures.ran (λ x q k. search (rules, tests)) (λ x q k. search (rules, tests)) in
    ended c.args.commands.now c.args.byte c.past_blocks-start.result c.find.result c.unwrap_or.result found (rw c.max.ensures at c.unwrap_or.ensures)
    ∙ c.past_blocks-start.ensures
