-- Words zeroed one after another, and plane after plane.
use mathlib.Core.Path.{◌≡◌, refl, ◌∙◌}
use mathlib.Core.Bool.{Bool, ◌&&◌}
use mathlib.Core.List.{List}
use Prim.Native.Nat.{ℕ, ◌+◌, ◌-◌, ◌*◌, ◌/◌, ◌%◌, ◌<◌, ◌≤◌}
use native.Mathlib.Omega.{arith}
use borrow.Author.Tests.{lt-ltb, le-ltb, le-leb, lt-leb, ltb-true, ltb-false, eqb-true, eqb-false}
use lib.Dec.{eqb, leb, ltb}
use lib.ListN.{length, get_or}
use borrow.Author.Rules.{rules}
use borrow.Rule.Slice.PartMut.{put_mid, mid_of}
use Rattle.std.proofs.lemmas.List.{length-replicate, places}
use Rattle.std.specs.Prelude.{replicate}
use Rattle.logic.specs.Test.{when◌then◌else◌}
use Rattle.logic.specs.laws.Test.{cases}
use Rattle.words.specs.Word.{table_places, row_words, plane_words, IsTable, row_word, zeros, zeroed_where, orders_from, orders_end, cleared_in, cleared_to}
use Rattle.words.specs.laws.Word.{where_length, where_at, where_is}

-- ---- those from one index up to another
unfoldable zeroed_in : List ℕ → ℕ → ℕ → List ℕ
zeroed_in t from end = zeroed_where (λ i. leb from i && ltb i end) t

-- as they are once that part is filled with zeros
filled : (t zeros : List ℕ) (a k : ℕ) → a + k ≤ length t → zeros ≡ replicate k 0 → put_mid a k t zeros ≡ zeroed_in t a (a + k)
unfolding zeroed_in when◌then◌else◌
filled t zeros a k l z =
    let long : length zeros ≡ k = rw z (length-replicate {A = ℕ} k 0) in
    where_is (λ i. leb a i && ltb i (a + k)) t (put_mid a k t zeros) (search (rules, places)) (λ i m.
    cases (leb a i)
    (λ c. cases (ltb i (a + k))
    (λ d. rw (c, d, z) (let h : i < a + k = ltb-true i (a + k) d in grind (arith, places)))
    (λ d. rw (c, d) (let h : a + k ≤ i = ltb-false i (a + k) d in grind (arith, places))))
    (λ c. rw c (grind (arith, places))))

-- all of them
pub all_filled : (t filled : List ℕ) → IsTable t → filled ≡ replicate (length t) 0 → filled ≡ zeros
unfolding zeros
all_filled t filled n e = rw (e, n) refl

-- ---- gap by gap, each with the plane behind it
in_inside : (k n : ℕ) → n ≤ table_places → cleared_in k n ≤ plane_words
unfolding cleared_in when◌then◌else◌
in_inside k n l =
    cases (eqb k (row_words - 1)) (λ a. rw a (omega arith))
    (λ a. cases (leb (row_word orders_from) (k + 1) && ltb (k + 1) (row_word orders_end)) (λ c. rw (a, c) (omega arith)) (λ c. rw (a, c) (omega arith)))

-- the word at an index is zeroed once so many planes are done
abbrev is_done : ℕ → ℕ → ℕ → Bool
is_done n k i = ltb (i / plane_words) k && ltb (i % plane_words) (cleared_in (i / plane_words) n)

unfoldable pub planes_to : List ℕ → ℕ → ℕ → List ℕ
planes_to t n k = zeroed_where (is_done n k) t

-- a word once one more plane is done
turn : (n k i x : ℕ) → n ≤ table_places →
    (when leb (k * plane_words) i && ltb i (k * plane_words + cleared_in k n) then 0 else when is_done n k i then 0 else x) ≡ (when is_done n (k + 1) i then 0 else x)
unfolding when◌then◌else◌
turn n k i x l =
    let q : ℕ = i / plane_words in
    let p : ℕ = i % plane_words in
    let h : cleared_in k n ≤ plane_words = in_inside k n l in
    cases (ltb q k)
    (λ a. let b : q < k = ltb-true q k a in rw (lt-leb (k * plane_words) i (omega arith), a, lt-ltb q (k + 1) (omega arith)) refl)
    (λ a.
    let b : k ≤ q = ltb-false q k a in
    rw (le-leb (k * plane_words) i (omega arith), a) (cases (eqb q k)
    (λ c.
    let f : q ≡ k = eqb-true q k c in
    rw (lt-ltb q (k + 1) (omega arith), f) (cases (ltb p (cleared_in k n))
    (λ d. rw (d, lt-ltb i (k * plane_words + cleared_in k n) (omega (arith, ltb-true))) refl)
    (λ d. rw (d, le-ltb i (k * plane_words + cleared_in k n) (omega (arith, ltb-false))) refl)))
    (λ c.
    let f : q ≡ k → ⊥ = eqb-false q k c in
    rw (le-ltb i (k * plane_words + cleared_in k n) (omega arith), le-ltb q (k + 1) (omega arith)) refl)))

module _ (t : List ℕ) (n : ℕ) where
  pub planes_none : t ≡ planes_to t n 0
  unfolding planes_to when◌then◌else◌
  planes_none = where_is (is_done n 0) t t refl (λ i _. rw (le-ltb (i / plane_words) 0 (omega arith)) refl)

  pub planes_more : (k m d : ℕ) (u zeros : List ℕ) → n ≤ table_places → u ≡ planes_to t n k → m ≡ cleared_in k n → k * plane_words + m ≤ length u → d ≡ m →
      zeros ≡ replicate (length (mid_of (k * plane_words) d u)) 0 → put_mid (k * plane_words) d u zeros ≡ planes_to t n (k + 1)
  unfolding planes_to zeroed_in
  planes_more k m d u zeros l e r b g f =
      let z : List ℕ = planes_to t n k in
      let now : ℕ → Bool = λ i. leb (k * plane_words) i && ltb i (k * plane_words + cleared_in k n) in
      let room : k * plane_words + d ≤ length u = omega arith in
      let long : length (mid_of (k * plane_words) d u) ≡ d = search (rules, places) in
      filled u zeros (k * plane_words) d room (rw long at f) ∙ rw (g, e, r) (where_is (is_done n (k + 1)) t (zeroed_where now z) (where_length now z ∙ where_length (is_done n k) t) (λ i _.
      where_at now z i ∙ rw (where_at (is_done n k) t i) (turn n k i (get_or t i 0) l)))

  pub planes_all : (k : ℕ) (u : List ℕ) → IsTable t → row_words ≤ k → u ≡ planes_to t n k → u ≡ cleared_to t n
  unfolding planes_to cleared_to when◌then◌else◌
  planes_all k u table l e =
      rw e (where_is _ t (planes_to t n k) (where_length (is_done n k) t) (λ i m.
      where_at (is_done n k) t i ∙ rw (lt-ltb (i / plane_words) k (omega arith)) refl))
