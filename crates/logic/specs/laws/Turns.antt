-- Laws of loops as functions. Enough turns are any number above a measure that falls.
use Rattle.std.specs.Prelude.{◌≡◌}
use Rattle.std.proofs.Math.Path.{refl, ap, subst}
use Rattle.std.proofs.Common.{◌∙◌, arith}
use Prim.Native.Nat.{ℕ, zero, suc, ◌<◌}
use Rattle.logic.specs.Turns.{Turn, after, again, done, turns}

-- what is said of the state that a turn leaves, or of the result
abbrev pub Says : {S R : Type 0} → (S → Type 0) → (R → Type 0) → Turn S R → Type 0
Says P Q (again s) = P s
Says P Q (done r) = Q r

abbrev pub Falls : {S R : Type 0} → (S → ℕ) → ℕ → Turn S R → Type 0
Falls μ n = Says (λ s. μ s < n) (λ r. Unit {0})

module _ {S R : Type 0} (step : S → Turn S R) (stop : S → R) (μ : S → ℕ) (falls : (s : S) → Falls μ (μ s) (step s)) where
  -- two numbers of turns that are enough give the same
  pub enough : (f g : ℕ) (s : S) → μ s < f → μ s < g → turns step stop f s ≡ turns step stop g s
  unfolding turns after
  enough zero g s p q = absurd (omega arith)
  enough (suc f) zero s p q = absurd (omega arith)
  enough (suc f) (suc g) s p q = go (λ t. enough f g t) (step s) (falls s)
    where
      go : ((t : S) → μ t < f → μ t < g → turns step stop f t ≡ turns step stop g t) → (x : Turn S R) → Falls μ (μ s) x → after (λ t. turns step stop f t) x ≡ after (λ t. turns step stop g t) x
      go ih (again t) h = ih t (omega arith) (omega arith)
      go ih (done r) h = refl

  pub goes_on : (f : ℕ) (s t : S) → μ s < f → step s ≡ again t → turns step stop f s ≡ turns step stop f t
  unfolding turns after
  goes_on zero s t p e = absurd (omega arith)
  goes_on (suc f) s t p e = let h : μ t < μ s = subst (Falls μ (μ s)) e (falls s) in ap (after (λ u. turns step stop f u)) e ∙ enough f (suc f) t (omega arith) (omega arith)

  pub ends : (f : ℕ) (s : S) (r : R) → μ s < f → step s ≡ done r → turns step stop f s ≡ r
  unfolding turns after
  ends zero s r p e = absurd (omega arith)
  ends (suc f) s r p e = ap (after (λ u. turns step stop f u)) e

-- what each turn keeps, the result has
module _ {S R : Type 0} (step : S → Turn S R) (stop : S → R) (P : S → Type 0) (Q : R → Type 0) (kept : (s : S) → P s → Says P Q (step s)) (left : (s : S) → P s → Q (stop s)) where
  pub holds : (f : ℕ) (s : S) → P s → Q (turns step stop f s)
  unfolding turns after
  holds zero s p = left s p
  holds (suc f) s p = go (λ t. holds f t) (step s) (kept s p)
    where
      go : ((t : S) → P t → Q (turns step stop f t)) → (x : Turn S R) → Says P Q x → Q (after (λ t. turns step stop f t) x)
      go ih (again t) h = ih t h
      go ih (done r) h = h
