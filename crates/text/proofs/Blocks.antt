-- Blocks that are looked at whole: one index more, all of them, and what goes on past each index that fails a test goes on past a block.
use mathlib.Core.Path.{◌≡◌, refl, sym, ap, ◌∙◌}
use Prim.Native.Nat.{ℕ, zero, suc, ◌+◌, ◌≤◌, ◌<◌}
use native.Mathlib.Numerals.{add-one}
use native.Mathlib.Omega.{arith}
use mathlib.Core.Bool.{Bool, true, false, not, ◌||◌}
use lib.Dec.{leb}
use borrow.Author.Tests.{leb-true, leb-false, not-true}
use Rattle.logic.specs.laws.Test.{cases, neither}
use Rattle.text.specs.Block.{any_from}

module _ (test : ℕ → Bool) (at : ℕ) where
  pub none : false ≡ any_from test at 0
  unfolding any_from
  none = refl

  pub more : (i : ℕ) (some : Bool) → some ≡ any_from test at i → some || test (at + i) ≡ any_from test at (i + 1)
  unfolding any_from
  more i some e = rw (add-one, e)

  pub all : (i count : ℕ) (some : Bool) → some ≡ any_from test at i → i ≤ count → count ≤ i → not some ≡ not (any_from test at count)
  all i count some e a b = let q : i ≡ count = omega arith in rw q at (ap not e)

  module _ (P : ℕ → Type 0) where
    past : (i count : ℕ) → ((k : ℕ) → k < at + count → test k ≡ false → P k → P (k + 1)) → any_from test at count ≡ false →
        at ≤ i → i ≤ at + count → P i → P (at + count)
    unfolding any_from
    past i zero step e h g p = let q : i ≡ at + 0 = omega arith in rw q at p
    past i (suc count) step e h g p =
        neither (any_from test at count) (test (at + count)) e λ r t.
        cases (leb i (at + count))
        (λ w.
        let b : i ≤ at + count = leb-true i (at + count) w in
        let q : at + count + 1 ≡ at + suc count = omega arith in
        rw q at (step (at + count) (omega arith) t (past i count (λ k l. step k (omega arith)) r h b p)))
        (λ w. let b : at + count < i = leb-false i (at + count) w in let q : i ≡ at + suc count = omega arith in rw q at p)

    -- from anywhere in the block to its end
    pub passed : (i end count : ℕ) (lacking : Bool) → ((k : ℕ) → k < end → test k ≡ false → P k → P (k + 1)) → lacking ≡ not (any_from test at count) → lacking ≡ true →
        at ≤ i → i ≤ end → end ≡ at + count → P i → P end
    passed i end count lacking step e t h g q p = rw q (past i count (rw q at step) (not-true (any_from test at count) (sym e ∙ t)) h (omega arith) p)
