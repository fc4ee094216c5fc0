-- Laws of what holds of every element, and of tests on elements.
use Rattle.std.specs.Prelude.{◌≡◌, refl, Bool, true, false, not, ◌||◌}
use Rattle.std.proofs.Common.{sym, subst}
use Rattle.std.proofs.Math.Bool.{or-true}
use Rattle.std.proofs.lemmas.Bool.{false≢true, not-false}
use mathlib.Core.List.{List, [], ◌∷◌, Permᴰ}
use Rattle.logic.specs.laws.Test.{cases, neither}
use Rattle.logic.specs.All.{All, has}

pub all_map : {A : Type 0} (P Q : A → Type 0) (xs : List A) → ((x : A) → P x → Q x) → All P xs → All Q xs
all_map P Q [] f h = tt
all_map P Q (x ∷ xs) f h = (f x h.0, all_map P Q xs f h.1)

pub all_both : {A : Type 0} (P Q : A → Type 0) (xs : List A) → All P xs → All Q xs → All (λ x. P x × Q x) xs
all_both P Q [] h k = tt
all_both P Q (x ∷ xs) h k = ((h.0, k.0), all_both P Q xs h.1 k.1)

pub all_perm : {A : Type 0} (P : A → Type 0) {xs ys : List A} → Permᴰ xs ys → All P xs → All P ys
all_perm P Permᴰ.nil h = h
all_perm P (Permᴰ.cons e d) h = (subst P e h.0, all_perm P d h.1)
all_perm P (Permᴰ.swap e f) h = (subst P f h.1.0, (subst P e h.0, h.1.1))
all_perm P (Permᴰ.trans d e) h = all_perm P e (all_perm P d h)

-- P of the element that passes
pub all_has : {A R : Type 0} (P : A → Type 0) (p : A → Bool) (xs : List A) → All P xs → has p xs ≡ true → ((x : A) → P x → p x ≡ true → R) → R
unfolding has
all_has P p [] h t k = absurd (false≢true t)
all_has P p (x ∷ xs) h t k = cases (p x) (λ e. k x h.0 e) (λ e. all_has P p xs h.1 (rw e at t) k)

-- where no element fails the test, all pass it
pub has_none : {A : Type 0} (p : A → Bool) (xs : List A) → has (λ x. not (p x)) xs ≡ false → All (λ x. p x ≡ true) xs
unfolding has
has_none p [] e = tt
has_none p (x ∷ xs) e = neither (not (p x)) (has (λ x. not (p x)) xs) e λ here rest. (not-false (p x) here, has_none p xs rest)

pub none_has : {A : Type 0} (p : A → Bool) (xs : List A) → All (λ x. p x ≡ true) xs → has (λ x. not (p x)) xs ≡ false
unfolding has
none_has p [] h = refl
none_has p (x ∷ xs) h = rw h.0 (none_has p xs h.1)

-- two tests at once
pub has_or : {A : Type 0} (p q : A → Bool) (xs : List A) → has (λ x. p x || q x) xs ≡ (has p xs || has q xs)
unfolding has
has_or p q [] = refl
has_or p q (x ∷ xs) =
    cases (p x)
    (λ e. rw e)
    (λ e. cases (q x) (λ f. rw (e, f) (sym (or-true (has p xs)))) (λ f. rw (e, f) (has_or p q xs)))
