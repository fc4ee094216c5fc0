-- Loops whose measure falls only while something is kept: the laws of Turns under an invariant.
use Rattle.std.specs.Prelude.{◌≡◌}
use Rattle.std.proofs.Math.Path.{refl, ap, subst}
use Rattle.std.proofs.Common.{◌∙◌, arith}
use Prim.Native.Nat.{ℕ, zero, suc, ◌<◌}
use Rattle.logic.specs.Turns.{Turn, again, done, after, turns}
use Rattle.logic.specs.laws.Turns.{Says}

-- P of the state that a turn leaves, with a lower measure, and Q of the result
abbrev pub Keeps : {S R : Type 0} → (S → Type 0) → (R → Type 0) → (S → ℕ) → ℕ → Turn S R → Type 0
Keeps P Q μ n = Says (λ s. P s × (μ s < n)) Q

module _ {S R : Type 0} (step : S → Turn S R) (stop : S → R) (P : S → Type 0) (Q : R → Type 0) (μ : S → ℕ) (keeps : (s : S) → P s → Keeps P Q μ (μ s) (step s)) where
  -- two numbers of turns that are enough give the same
  pub enough_within : (f g : ℕ) (s : S) → P s → μ s < f → μ s < g → turns step stop f s ≡ turns step stop g s
  unfolding turns after
  enough_within zero g s k p q = absurd (omega arith)
  enough_within (suc f) zero s k p q = absurd (omega arith)
  enough_within (suc f) (suc g) s k p q = go (λ t. enough_within f g t) (step s) (keeps s k)
    where
      go : ((t : S) → P t → μ t < f → μ t < g → turns step stop f t ≡ turns step stop g t) → (x : Turn S R) → Keeps P Q μ (μ s) x →
          after (λ t. turns step stop f t) x ≡ after (λ t. turns step stop g t) x
      go ih (again t) h = let l : μ t < μ s = h.1 in ih t h.0 (omega arith) (omega arith)
      go ih (done r) h = refl

  pub goes_on_within : (f : ℕ) (s t : S) → P s → μ s < f → step s ≡ again t → turns step stop f s ≡ turns step stop f t
  unfolding turns after
  goes_on_within zero s t k p e = absurd (omega arith)
  goes_on_within (suc f) s t k p e =
      let h : P t × (μ t < μ s) = subst (Keeps P Q μ (μ s)) e (keeps s k) in
      let l : μ t < μ s = h.1 in
      ap (after (λ u. turns step stop f u)) e ∙ enough_within f (suc f) t h.0 (omega arith) (omega arith)

  pub ends_within : (f : ℕ) (s : S) (r : R) → μ s < f → step s ≡ done r → turns step stop f s ≡ r
  unfolding turns after
  ends_within zero s r p e = absurd (omega arith)
  ends_within (suc f) s r p e = ap (after (λ u. turns step stop f u)) e

  -- Q of the result of enough turns
  pub holds_within : (f : ℕ) (s : S) → P s → μ s < f → Q (turns step stop f s)
  unfolding turns after
  holds_within zero s k p = absurd (omega arith)
  holds_within (suc f) s k p = go (λ t. holds_within f t) (step s) (keeps s k)
    where
      go : ((t : S) → P t → μ t < f → Q (turns step stop f t)) → (x : Turn S R) → Keeps P Q μ (μ s) x → Q (after (λ t. turns step stop f t) x)
      go ih (again t) h = let l : μ t < μ s = h.1 in ih t h.0 (omega arith)
      go ih (done r) h = h
