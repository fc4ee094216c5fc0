-- A rule of a table, proved at all of its entries by one test that antt computes, one entry after the other.
use Rattle.std.specs.Prelude.{◌≡◌, Bool, true, ◌&&◌, List, [], ◌∷◌, ℕ, zero, suc, ◌+◌, ◌<◌, eqb, length, get_or}
use Rattle.std.proofs.Common.{add-zero, zero-add, add-suc, suc-add, le_of_suc-le-suc, not-suc-le-zero, arith, eqb-true}
use Rattle.std.proofs.lemmas.Bool.{eqb-false}
use Rattle.logic.specs.laws.Test.{cases, both}

-- each number below n passes
unfoldable pub all_below : ℕ → (ℕ → Bool) → Bool
all_below zero p = true
all_below (suc n) p = p n && all_below n p

pub below_at : (n : ℕ) (p : ℕ → Bool) → all_below n p ≡ true → (k : ℕ) → k < n → p k ≡ true
unfolding all_below
below_at zero p e k h = absurd (omega arith)
below_at (suc n) p e k h =
    both (p n) (all_below n p) e λ here below.
    cases (eqb k n)
    (λ q. rw (eqb-true k n q) here)
    (λ q. let d : (k ≡ n → ⊥) = eqb-false k n q in below_at n p below k (omega (arith, d)))

-- the test passes at each entry of the list and its place, counted from i
unfoldable pub every : {A : Type 0} → (ℕ → A → Bool) → ℕ → List A → Bool
every f i [] = true
every f i (x ∷ xs) = f i x && every f (suc i) xs

every_from : {A : Type 0} (f : ℕ → A → Bool) (xs : List A) (d : A) (i : ℕ) → every f i xs ≡ true → (k : ℕ) → k < length xs → f (i + k) (get_or xs k d) ≡ true
unfolding every
every_from f [] d i t k h = absurd (not-suc-le-zero h)
every_from f (x ∷ xs) d i t zero h = rw add-zero (both (f i x) (every f (suc i) xs) t (λ p q. p))
every_from f (x ∷ xs) d i t (suc k) h =
    both (f i x) (every f (suc i) xs) t λ p q.
    rw (add-suc, ← suc-add) (every_from f xs d (suc i) q k (le_of_suc-le-suc h))

pub every_at : {A : Type 0} (f : ℕ → A → Bool) (xs : List A) (d : A) → every f 0 xs ≡ true → (k : ℕ) → k < length xs → f k (get_or xs k d) ≡ true
every_at f xs d t k h = rw zero-add at (every_from f xs d 0 t k h)

-- the same of a table of rows, each n long: the test goes by the row's place, the entry's place and the entry
unfoldable pub every_row : {A : Type 0} → (ℕ → ℕ → A → Bool) → ℕ → List (List A) → Bool
every_row f n rows = every (λ i row. eqb (length row) n && every (f i) 0 row) 0 rows

pub row_at : {A : Type 0} (f : ℕ → ℕ → A → Bool) (n : ℕ) (rows : List (List A)) (d : A) → every_row f n rows ≡ true → (i j : ℕ) → i < length rows → j < n → f i j (get_or (get_or rows i []) j d) ≡ true
unfolding every_row
row_at f n rows d t i j h g =
    both (eqb (length (get_or rows i [])) n) (every (f i) 0 (get_or rows i []))
    (every_at (λ i row. eqb (length row) n && every (f i) 0 row) rows [] t i h)
    λ long right.
    every_at (f i) (get_or rows i []) d right j (rw (eqb-true (length (get_or rows i [])) n long) g)
