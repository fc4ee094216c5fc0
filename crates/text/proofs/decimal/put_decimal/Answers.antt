-- `put_decimal` writes digits from the last to the first: the buffer with what is left written is the buffer with all written.
use borrow.Author.Rules.{rules}
use mathlib.Core.Path.{◌≡◌, sym, ap, ◌∙◌}
use Prim.Native.Nat.{ℕ, ◌+◌, ◌-◌, ◌/◌, ◌%◌, ◌≤◌, ◌<◌}
use native.Mathlib.Omega.{arith}
use mathlib.Core.List.{List}
use lib.ListN.{length, set, length-set}
use Rattle.logic.specs.Buffer.{written}
use Rattle.logic.specs.laws.Buffer.{written_one, written_last}
use Rattle.text.specs.Decimal.{decimal, zero_digit}
use Rattle.text.specs.laws.Decimal.{decimal_small, decimal_step, length_step, length_positive}
use Rattle.text.proofs.decimal.put_decimal.Goals as goal

module _ (out : List ℕ) (at i left : ℕ) (whole : List ℕ) (e : i ≡ at + length (decimal left)) (h : i ≤ length out) (inv : written out at (decimal left) ≡ whole) where
  again : 10 ≤ left → written (set out (i - 1) (zero_digit + left % 10)) at (decimal (left / 10)) ≡ whole
  again g =
      let l : length (decimal left) ≡ length (decimal (left / 10)) + 1 = length_step left g in
      let j : i - 1 ≡ at + length (decimal (left / 10)) = omega arith in
      let k : i - 1 < length out = omega arith in
      written_last out at (i - 1) (zero_digit + left % 10) (decimal (left / 10)) j k ∙ ap (written out at) (sym (decimal_step left g)) ∙ inv

  ended : left < 10 → set out at (zero_digit + left) ≡ whole
  ended g =
      let l : length (decimal left) ≡ 1 = ap length (decimal_small left g) in
      let k : at < length out = omega arith in
      written_one out at (zero_digit + left) k ∙ ap (written out at) (sym (decimal_small left g)) ∙ inv

pub overflow_sub-i : goal.overflow_sub-i
overflow_sub-i c = omega (arith, length_positive c.loop-left.left)

pub bounds-out-i : goal.bounds-out-i
bounds-out-i c = omega (arith, length_positive c.loop-left.left)

pub loop-left-preserved : goal.loop-left-preserved
loop-left-preserved c =
    let left : ℕ = c.loop-left.left in
    let l : length (decimal left) ≡ length (decimal (left / 10)) + 1 = length_step left c.loop-left-test.true in
    (omega arith, simp length-set (omega arith), simp length-set (omega arith), search (again, rules))

pub bounds-out-at : goal.bounds-out-at
bounds-out-at c = omega (arith, length_positive c.loop-left.left)

pub shape_of-out : goal.shape_of-out
shape_of-out c = simp length-set (omega arith)

pub returns : goal.returns
returns c = (omega arith, search (ended, rules))
