-- `continues` counts down: what is left to count is at the bytes that are left what the count is at the offset.
use borrow.Author.Rules.{rules}
use mathlib.Core.Path.{◌≡◌, refl, ◌∙◌}
use Prim.Native.Nat.{ℕ, zero, suc, ◌+◌, ◌-◌, ◌≤◌, ◌<◌}
use native.Mathlib.Nat.{not-suc-le-zero}
use native.Mathlib.Numerals.{sub-one}
use mathlib.Core.Bool.{Bool, true, false}
use mathlib.Core.List.{List, ◌∷◌}
use lib.ListN.{length, get_or, drop, replicate}
use Rattle.text.specs.Due.{begins, trailing}
use Rattle.text.proofs.Begins.{short, below, above, stepped}
use Rattle.text.proofs.utf8.continues.Goals as goal

-- one more is due while some are
more_due : (left : ℕ) → 0 < left → replicate left trailing ≡ trailing ∷ replicate (left - 1) trailing
more_due zero h = absurd (not-suc-le-zero h)
more_due (suc left) h = rw sub-one

module _ (bytes : List ℕ) (i left : ℕ) (whole : Bool) (inv : begins (replicate left trailing) (drop i bytes) ≡ whole) (due : 0 < left) where
  ends : false ≡ begins (trailing ∷ replicate (left - 1) trailing) (drop i bytes) → false ≡ whole
  ends e = e ∙ (rw (more_due left due) at inv)

  goes : i < length bytes → 0x80 ≤ get_or bytes i 0 → get_or bytes i 0 ≤ 0xBF → begins (replicate (left - 1) trailing) (drop (i + 1) bytes) ≡ whole
  goes h p q =
      stepped bytes i 0x80 0xBF (replicate (left - 1) trailing) (begins (replicate (left - 1) trailing) (drop (i + 1) bytes)) h p q refl
      ∙ (rw (more_due left due) at inv)

none_due : (bytes : List ℕ) (i left : ℕ) (whole : Bool) → begins (replicate left trailing) (drop i bytes) ≡ whole → left ≤ 0 → true ≡ whole
unfolding begins
none_due bytes i zero whole inv h = inv
none_due bytes i (suc left) whole inv h = absurd (not-suc-le-zero h)

pub returns-then-bytes-i : goal.returns-then-bytes-i
returns-then-bytes-i c = search (ends, short, rules)

pub returns-then-bytes-i-lt128 : goal.returns-then-bytes-i-lt128
returns-then-bytes-i-lt128 c = search (ends, below, rules)

pub returns-then-bytes-i-gt191 : goal.returns-then-bytes-i-gt191
returns-then-bytes-i-gt191 c = search (ends, above, rules)

pub loop-left-preserved : goal.loop-left-preserved
loop-left-preserved c = search (goes, rules)

pub returns : goal.returns
returns c = search (none_due, rules)
