-- Answers that may be none: one step after another.
use Rattle.std.specs.Prelude.{Bool, true, false, ℕ, eqb}
use Rattle.std.proofs.Math.Option.{Option, none, some}

-- the second step with what the first gave, none where the first gave none
unfoldable pub and_then : {A B : Type 0} → Option A → (A → Option B) → Option B
and_then none f = none
and_then (some a) f = f a

-- P of the answer, where there is one
abbrev pub OnSome : {A : Type 0} → (A → Type 0) → Option A → Type 0
OnSome P none = Unit {0}
OnSome P (some a) = P a

-- equality of codes that may be none, as a test
unfoldable pub same_maybe : Option ℕ → Option ℕ → Bool
same_maybe none none = true
same_maybe none (some b) = false
same_maybe (some a) none = false
same_maybe (some a) (some b) = eqb a b
