-- Laws of the words of a table: what is read after a store, what stores in turn leave, a table of zeros, and places zeroed. None says
-- where a word stands.
use Rattle.std.specs.Prelude.{◌≡◌, Bool, true, false, ◌&&◌, List, [], ◌∷◌, ℕ, zero, suc, ◌+◌, ◌-◌, ◌*◌, ◌/◌, ◌%◌, ◌<◌, ◌≤◌, eqb, leb, length, get_or, set, replicate}
use Rattle.std.proofs.Math.Path.{refl}
use Rattle.std.proofs.Common.{ap, sym, ◌∙◌, true≢false, arith, length-set, get_or-set_same, get_or-set_other, ext_get_or}
use borrow.Author.Tests.{lt-ltb, le-ltb, le-leb, lt-leb, leb-true, ltb-true, ltb-false, eqb-true, eqb-false, eq-eqb, ne_eqb}
use Rattle.std.proofs.Math.Dec.{ltb}
use Rattle.std.proofs.lemmas.List.{length-replicate, set-get_or, set_comm}
use Rattle.logic.specs.Test.{when◌then◌else◌}
use Rattle.logic.specs.laws.Test.{cases, both, neither}
use Rattle.words.specs.Word.{table_places, place_words, table_words, row_words, links_from, links_end, link_limit, IsTable, IsRow, HasRoom, in_whole, in_each, is_link, is_lower, has_word, row_word, plane_words, gap_words, plane_index, index_of, part_of, with_part, word, with_word, has_among, zeros, zeroed_where, orders_from, orders_end, is_order, cleared_in, cleared_to}

-- ---- the word of a row that a place's word is, or stands in
pub link_from : (f : ℕ) → is_link f ≡ true → links_from ≤ f
link_from f e = both (leb links_from f) (ltb f links_end) e λ a b. leb-true links_from f a

pub link_end : (f : ℕ) → is_link f ≡ true → f < links_end
link_end f e = both (leb links_from f) (ltb f links_end) e λ a b. ltb-true f links_end b

pub link_row : (f : ℕ) → links_from ≤ f → f < links_end → (is_link f ≡ true) × (row_word f ≡ links_from + (f - links_from) / 2)
unfolding row_word when◌then◌else◌
link_row f l m = (rw (le-leb links_from f l, lt-ltb f links_end m) refl, rw (le-ltb f links_from l, lt-ltb f links_end m) refl)

data Stands (f : ℕ) : Type 0 where
  before : f < links_from → is_link f ≡ false → row_word f ≡ f → Stands f
  halves : links_from ≤ f → f < links_end → is_link f ≡ true → row_word f ≡ links_from + (f - links_from) / 2 → Stands f
  behind : links_end ≤ f → is_link f ≡ false → row_word f ≡ f - (links_end - links_from) / 2 → Stands f

stands : (f : ℕ) → Stands f
unfolding row_word when◌then◌else◌
stands f =
    cases (ltb f links_from)
    (λ a. let l : f < links_from = ltb-true f links_from a in before l (rw (lt-leb links_from f l) refl) (rw a refl))
    (λ a.
    let l : links_from ≤ f = ltb-false f links_from a in
    cases (ltb f links_end)
    (λ b. let m : f < links_end = ltb-true f links_end b in let (i, r) = link_row f l m in halves l m i r)
    (λ b. behind (ltb-false f links_end b) (rw (le-leb links_from f l, b) refl) (rw (a, b) refl)))

-- two in one are links, and one of them is the lower half
data Paired (f g : ℕ) : Type 0 where
  first_lower : is_link f ≡ true → is_link g ≡ true → is_lower f ≡ true → is_lower g ≡ false → Paired f g
  first_upper : is_link f ≡ true → is_link g ≡ true → is_lower f ≡ false → is_lower g ≡ true → Paired f g

paired : (f g : ℕ) → row_word g ≡ row_word f → (g ≡ f → ⊥) → Paired f g
paired f g e n = go (stands f) (stands g)
  where
    go : Stands f → Stands g → Paired f g
    go (before l i r) (before m j s) = absurd (n (omega arith))
    go (before l i r) (halves m k j s) = absurd (omega arith)
    go (before l i r) (behind m j s) = absurd (omega arith)
    go (halves l o i r) (before m j s) = absurd (omega arith)
    go (halves l o i r) (halves m k j s) =
        cases (is_lower f)
        (λ a. let x : f % 2 ≡ 0 = eqb-true (f % 2) 0 a in first_lower i j a (ne_eqb (g % 2) 0 (λ y. n (omega arith))))
        (λ a. let x = eqb-false (f % 2) 0 a in first_upper i j a (eq-eqb (g % 2) 0 (omega arith)))
    go (halves l o i r) (behind m j s) = absurd (omega arith)
    go (behind l i r) (before m j s) = absurd (omega arith)
    go (behind l i r) (halves m k j s) = absurd (omega arith)
    go (behind l i r) (behind m j s) = absurd (n (omega arith))

row_inside : (f : ℕ) → f < place_words → row_word f < row_words
row_inside f l = go (stands f)
  where
    go : Stands f → row_word f < row_words
    go (before m j s) = omega arith
    go (halves m k j s) = omega arith
    go (behind m j s) = omega arith

-- ---- the two links of a word
-- what is stored is there, if there is room for it
part_same : (f w v : ℕ) → HasRoom f v → part_of f (with_part f w v) ≡ v
unfolding part_of with_part when◌then◌else◌
part_same f w v (in_whole l) = rw l refl
part_same f w v (in_each i) =
    cases (is_link f)
    (λ l. cases (is_lower f) (λ e. rw (l, e) (omega arith)) (λ e. rw (l, e) (omega arith)))
    (λ l. rw l refl)

module _ (f g w : ℕ) where
  -- the other link stays
  part_other : (v : ℕ) → Paired f g → part_of g (with_part f w v) ≡ part_of g w
  unfolding part_of with_part when◌then◌else◌
  part_other v (first_lower i j a b) = rw (i, j, a, b) (omega arith)
  part_other v (first_upper i j a b) = rw (i, j, a, b) (omega arith)

  -- and the two can be stored in either order
  part_swap : (v x : ℕ) → Paired f g → with_part g (with_part f w v) x ≡ with_part f (with_part g w x) v
  unfolding with_part when◌then◌else◌
  part_swap v x (first_lower i j a b) = rw (i, j, a, b) (omega arith)
  part_swap v x (first_upper i j a b) = rw (i, j, a, b) (omega arith)

-- to store what is there changes nothing
part_kept : (f w : ℕ) → with_part f w (part_of f w) ≡ w
unfolding part_of with_part when◌then◌else◌
part_kept f w =
    cases (is_link f)
    (λ l. cases (is_lower f) (λ e. rw (l, e) (omega arith)) (λ e. rw (l, e) (omega arith)))
    (λ l. rw l refl)

-- the second store is all that is left
part_again : (f w v x : ℕ) → with_part f (with_part f w v) x ≡ with_part f w x
unfolding with_part when◌then◌else◌
part_again f w v x =
    cases (is_link f)
    (λ l. cases (is_lower f) (λ e. rw (l, e) (omega arith)) (λ e. rw (l, e) (omega arith)))
    (λ l. rw l refl)

-- what each is
module _ (f w : ℕ) (l : is_link f ≡ true) where
  pub lower_part : f % 2 ≡ 0 → w % link_limit ≡ part_of f w
  unfolding part_of when◌then◌else◌
  lower_part e = rw (l, eq-eqb (f % 2) 0 e) refl

  pub upper_part : (f % 2 ≡ 0 → ⊥) → w / link_limit ≡ part_of f w
  unfolding part_of when◌then◌else◌
  upper_part n = rw (l, ne_eqb (f % 2) 0 n) refl

part_zero : (f : ℕ) → part_of f 0 ≡ 0
unfolding part_of when◌then◌else◌
part_zero f = cases (is_link f) (λ l. cases (is_lower f) (λ e. rw (l, e) refl) (λ e. rw (l, e) refl)) (λ l. rw l refl)

-- ---- where words stand
-- those of each place are there
pub has_word_lem : (p f : ℕ) → IsRow p → f < place_words → has_word p f ≡ true
unfolding has_word
has_word_lem p f l b = rw (lt-ltb p table_places l, lt-ltb f place_words b)

-- in the gaps, and in the planes
pub index_gap : (p : ℕ) → p / gap_words * plane_words + p % gap_words ≡ plane_index 0 p
unfolding plane_index when◌then◌else◌
index_gap p = refl

pub index_plane : (k p : ℕ) → (k ≡ 0 → ⊥) → (k - 1) * plane_words + gap_words + p ≡ plane_index k p
unfolding plane_index when◌then◌else◌
index_plane k p n = rw (ne_eqb k 0 n) refl

-- a word of the row by whether it stands in a gap
by_row : {P : Type 0} (k p : ℕ) → (k ≡ 0 → plane_index k p ≡ p / gap_words * plane_words + p % gap_words → P) →
    ((k ≡ 0 → ⊥) → plane_index k p ≡ (k - 1) * plane_words + gap_words + p → P) → P
by_row k p gap plane =
    cases (eqb k 0)
    (λ a. let z : k ≡ 0 = eqb-true k 0 a in gap z (rw z (sym (index_gap p))))
    (λ a. let n = eqb-false k 0 a in plane n (sym (index_plane k p n)))

pub plane_inside : (k p : ℕ) → IsRow p → k < row_words → plane_index k p < table_words
plane_inside k p l m = by_row k p (λ z e. omega arith) (λ n e. omega arith)

plane_own : (k j p q : ℕ) → IsRow p → IsRow q → plane_index j q ≡ plane_index k p → (q ≡ p) × (j ≡ k)
plane_own k j p q l m i =
    by_row k p
    (λ z e. by_row j q (λ y d. (omega arith, omega arith)) (λ n d. absurd (omega arith)))
    (λ n e. by_row j q (λ y d. absurd (omega arith)) (λ x d. (omega arith, omega arith)))

-- of a word that there is
module _ (p f : ℕ) (e : has_word p f ≡ true) where
  index_inside : index_of p f < table_words
  unfolding has_word
  index_inside =
      both (ltb p table_places) (ltb f place_words) e λ a b.
      plane_inside (row_word f) p (ltb-true p table_places a) (row_inside f (ltb-true f place_words b))

  -- no two places have a word in one
  index_own : (q g : ℕ) → has_word q g ≡ true → index_of q g ≡ index_of p f → (q ≡ p) × (row_word g ≡ row_word f)
  unfolding has_word
  index_own q g d i =
      both (ltb p table_places) (ltb f place_words) e λ a b.
      both (ltb q table_places) (ltb g place_words) d λ c h.
      plane_own (row_word f) (row_word g) p q (ltb-true p table_places a) (ltb-true q table_places c) i

-- ---- one store
set_at : (P : ℕ → Type 0) (l : List ℕ) (i v : ℕ) → P v → P (get_or l i 0) → P (get_or (set l i v) i 0)
set_at P [] i v h g = g
set_at P (x ∷ xs) zero v h g = h
set_at P (x ∷ xs) (suc i) v h g = set_at P xs i v h g

keeps : (P : ℕ → Type 0) (t : List ℕ) (p f v q g : ℕ) → (q ≡ p → g ≡ f → P (part_of f (with_part f (get_or t (index_of p f) 0) v))) → P (word t q g)
    → P (word (with_word t p f v) q g)
unfolding word with_word when◌then◌else◌
keeps P t p f v q g h k =
    let i : ℕ = index_of p f in
    let j : ℕ = index_of q g in
    let x : ℕ = with_part f (get_or t i 0) v in
    cases (has_word p f)
    (λ a. cases (has_word q g)
    (λ b. let k' : P (part_of g (get_or t j 0)) = rw b at k in
    rw (a, b) (cases (eqb j i)
    (λ c.
    let d : j ≡ i = eqb-true j i c in
    let (y, z) = index_own p f a q g b d in
    let k'' : P (part_of g (get_or t i 0)) = rw d at k' in
    rw d (set_at (λ u. P (part_of g u)) t i x
    (cases (eqb g f)
    (λ o. let w : g ≡ f = eqb-true g f o in rw w (h y w))
    (λ o. rw (part_other f g (get_or t i 0) v (paired f g z (eqb-false g f o))) k''))
    k''))
    (λ c. rw (get_or-set_other t i j x 0 (eqb-false j i c)) k')))
    (λ b. rw b (rw b at k)))
    (λ a. rw a k)

-- what is true of a word before a store, and of what is stored if it is stored there, and has room, is true of the word afterwards
pub word_keeps : (P : ℕ → Type 0) (t : List ℕ) (p f v q g : ℕ) → (q ≡ p → g ≡ f → HasRoom g v × P v) → P (word t q g) → P (word (with_word t p f v) q g)
word_keeps P t p f v q g h = keeps P t p f v q g (λ x y. let (r, k) = h x y in rw (part_same f (get_or t (index_of p f) 0) v (rw y at r)) k)

-- a store to another word leaves a word, the other link in the same word of its row too
pub word_other : (t : List ℕ) (p f v q g : ℕ) → (q ≡ p → g ≡ f → ⊥) → word (with_word t p f v) q g ≡ word t q g
word_other t p f v q g n = keeps (λ u. u ≡ word t q g) t p f v q g (λ x y. absurd (n x y)) refl

-- what is stored is there
pub word_same : (t : List ℕ) (p f v : ℕ) → IsTable t → IsRow p → f < place_words → HasRoom f v → word (with_word t p f v) p f ≡ v
unfolding word with_word when◌then◌else◌
word_same t p f v n l b r =
    let e : has_word p f ≡ true = has_word_lem p f l b in
    let i : index_of p f < length t = omega (arith, index_inside p f e) in
    rw (e, get_or-set_same t (index_of p f) (with_part f (get_or t (index_of p f) 0) v) 0 i) (part_same f (get_or t (index_of p f) 0) v r)

-- a table stays as long as it is
pub length_with : (t : List ℕ) (p f v : ℕ) → length (with_word t p f v) ≡ length t
unfolding with_word when◌then◌else◌
length_with t p f v = cases (has_word p f) (λ a. rw a (length-set t (index_of p f) (with_part f (get_or t (index_of p f) 0) v))) (λ a. rw a refl)

-- to store what is there changes nothing
pub with_word_lem : (t : List ℕ) (p f : ℕ) → with_word t p f (word t p f) ≡ t
unfolding word with_word when◌then◌else◌
with_word_lem t p f = cases (has_word p f) (λ a. rw (a, part_kept f (get_or t (index_of p f) 0)) (set-get_or t (index_of p f) 0)) (λ a. rw a refl)

-- ---- two stores
-- two to one word of the table are the second, of what the first left
twice : (t : List ℕ) (i f g v w : ℕ) → set (set t i (with_part f (get_or t i 0) v)) i (with_part g (get_or (set t i (with_part f (get_or t i 0) v)) i 0) w)
    ≡ set t i (with_part g (with_part f (get_or t i 0) v) w)
twice [] i f g v w = refl
twice (x ∷ xs) zero f g v w = refl
twice (x ∷ xs) (suc i) f g v w = ap (λ l. x ∷ l) (twice xs i f g v w)

-- the second to the same word is all that is left
pub with_again : (t : List ℕ) (p f v w : ℕ) → with_word (with_word t p f v) p f w ≡ with_word t p f w
unfolding with_word when◌then◌else◌
with_again t p f v w =
    let i : ℕ = index_of p f in
    cases (has_word p f) (λ a. rw a (twice t i f f v w ∙ ap (set t i) (part_again f (get_or t i 0) v w))) (λ a. rw a refl)

-- to different words they can be made in either order
pub with_swap : (t : List ℕ) (p f q g v w : ℕ) → (q ≡ p → g ≡ f → ⊥) → with_word (with_word t p f v) q g w ≡ with_word (with_word t q g w) p f v
unfolding with_word when◌then◌else◌
with_swap t p f q g v w n =
    let i : ℕ = index_of p f in
    let j : ℕ = index_of q g in
    let x : ℕ = with_part f (get_or t i 0) v in
    let y : ℕ = with_part g (get_or t j 0) w in
    cases (has_word p f)
    (λ a. cases (has_word q g)
    (λ b. rw (a, b) (cases (eqb j i)
    (λ c.
    let d : j ≡ i = eqb-true j i c in
    let (h, z) = index_own p f a q g b d in
    rw d (twice t i f g v w ∙ ap (set t i) (part_swap f g (get_or t i 0) v w (paired f g z (n h))) ∙ sym (twice t i g f w v)))
    (λ c.
    let o : j ≡ i → ⊥ = eqb-false j i c in
    rw (get_or-set_other t i j x 0 o, get_or-set_other t j i y 0 (λ d. o (sym d))) (set_comm t i j x y (λ d. o (sym d))))))
    (λ b. rw (a, b) refl))
    (λ a. rw a refl)

-- ---- several places
-- where none has a value, each has another
pub has_none : (t : List ℕ) (from count field value : ℕ) → has_among t from count field value ≡ false → (i : ℕ) → i < count → word t (from + i) field ≡ value → ⊥
unfolding has_among
has_none t from zero field value e i h = absurd (omega arith)
has_none t from (suc count) field value e i h =
    neither (has_among t from count field value) (eqb (word t (from + count) field) value) e λ before here.
    cases (eqb i count)
    (λ q. rw (eqb-true i count q) (eqb-false (word t (from + count) field) value here))
    (λ q. let d : (i ≡ count → ⊥) = eqb-false i count q in has_none t from count field value before i (omega (arith, d)))

-- ---- a table of zeros
pub zeros_table : IsTable zeros
unfolding zeros
zeros_table = length-replicate {A = ℕ} table_words 0

zero_at : (n i : ℕ) → get_or (replicate {A = ℕ} n 0) i 0 ≡ 0
zero_at zero i = refl
zero_at (suc n) zero = refl
zero_at (suc n) (suc i) = zero_at n i

-- each word of it is zero
pub word_zero : (p f : ℕ) → word zeros p f ≡ 0
unfolding word zeros when◌then◌else◌
word_zero p f = cases (has_word p f) (λ a. rw (a, zero_at table_words (index_of p f)) (part_zero f)) (λ a. rw a refl)

-- ---- words zeroed
pub where_length : (z : ℕ → Bool) (t : List ℕ) → length (zeroed_where z t) ≡ length t
unfolding zeroed_where
where_length z [] = refl
where_length z (w ∷ ws) = ap suc (where_length (λ i. z (suc i)) ws)

pub where_at : (z : ℕ → Bool) (t : List ℕ) (i : ℕ) → get_or (zeroed_where z t) i 0 ≡ (when z i then 0 else get_or t i 0)
unfolding zeroed_where when◌then◌else◌
where_at z [] i = cases (z i) (λ a. rw a refl) (λ a. rw a refl)
where_at z (w ∷ ws) zero = refl
where_at z (w ∷ ws) (suc i) = where_at (λ j. z (suc j)) ws i

-- a table is that if each word of it is
pub where_is : (z : ℕ → Bool) (t u : List ℕ) → length u ≡ length t → ((i : ℕ) → i < length t → get_or u i 0 ≡ (when z i then 0 else get_or t i 0)) → u ≡ zeroed_where z t
where_is z t u e h =
    ext_get_or 0 u (zeroed_where z t) (e ∙ sym (where_length z t)) (λ i l. h i (rw e at l) ∙ sym (where_at z t i))

-- all words, where those that are left were zero
pub where_zeros : (z : ℕ → Bool) (t : List ℕ) → IsTable t → ((i : ℕ) → i < table_words → z i ≡ false → get_or t i 0 ≡ 0) → zeroed_where z t ≡ zeros
unfolding zeros when◌then◌else◌
where_zeros z t n h =
    ext_get_or 0 (zeroed_where z t) (replicate table_words 0) (where_length z t ∙ n ∙ sym (length-replicate {A = ℕ} table_words 0)) (λ i l.
    let b : i < table_words = omega (arith, where_length z t) in
    where_at z t i ∙ cases (z i) (λ a. rw (a, zero_at table_words i) refl) (λ a. rw (a, zero_at table_words i) (h i b a)))

-- ---- what stands in a word of a row: a whole word, or two links
data Held (k : ℕ) : Type 0 where
  alone : (f : ℕ) → f < place_words → is_link f ≡ false → row_word f ≡ k → Held k
  halved : (f : ℕ) → f + 1 < place_words → is_link f ≡ true → is_link (f + 1) ≡ true → f % 2 ≡ 0 → row_word f ≡ k → row_word (f + 1) ≡ k → Held k

held : (k : ℕ) → k < row_words → Held k
held k b = go (stands k) (stands (k + 4))
  where
    two : links_from ≤ k → k < 10 → Held k
    two l m =
        let (i, r) = link_row (k * 2 - links_from) (omega arith) (omega arith) in
        let (j, s) = link_row (k * 2 - links_from + 1) (omega arith) (omega arith) in
        halved (k * 2 - links_from) (omega arith) i j (omega arith) (omega arith) (omega arith)

    go : Stands k → Stands (k + 4) → Held k
    go (before l i r) s = alone k (omega arith) i r
    go (halves l m i r) (behind n j s) = alone (k + 4) (omega arith) j (omega arith)
    go (halves l m i r) (before n j s) = absurd (omega arith)
    go (halves l m i r) (halves n o j s) = two l (omega arith)
    go (behind l i r) (behind n j s) = alone (k + 4) (omega arith) j (omega arith)
    go (behind l i r) (before n j s) = absurd (omega arith)
    go (behind l i r) (halves n o j s) = absurd (omega arith)

part_whole : (f w : ℕ) → is_link f ≡ false → part_of f w ≡ w
unfolding part_of when◌then◌else◌
part_whole f w l = rw l refl

-- it is zero if the place's words there are; of a plane, the row's word behind the gap
module _ (t : List ℕ) (p k : ℕ) (l : IsRow p) (b : k + 1 < row_words) (h : (f : ℕ) → row_word f ≡ k + 1 → word t p f ≡ 0) where
  abbrev here : ℕ
  here = k * plane_words + gap_words + p

  stands_here : (f : ℕ) → row_word f ≡ k + 1 → index_of p f ≡ here
  stands_here f e = rw e (sym (index_plane (k + 1) p (λ z. omega arith)) ∙ (let q : (k + 1 - 1) * plane_words + gap_words + p ≡ here = omega arith in q))

  part_read_lem : (f : ℕ) → f < place_words → row_word f ≡ k + 1 → part_of f (get_or t here 0) ≡ 0
  unfolding word when◌then◌else◌
  part_read_lem f m e = let z : word t p f ≡ 0 = h f e in rw (has_word_lem p f l m, stands_here f e) at z

  row_zero : get_or t here 0 ≡ 0
  row_zero = go (held (k + 1) b)
    where
      w : ℕ
      w = get_or t here 0

      go : Held (k + 1) → w ≡ 0
      go (alone f m i r) = sym (part_whole f w i) ∙ part_read_lem f m r
      go (halved f m i j e r s) =
          omega (arith, lower_part f w i e, upper_part (f + 1) w j (λ x. omega arith), part_read_lem f (omega arith) r, part_read_lem (f + 1) m s)

-- ---- places zeroed
order_rows : (row_word orders_from ≡ 7) × (row_word orders_end ≡ 9)
unfolding row_word when◌then◌else◌
order_rows = (refl, refl)

-- a word that is left stands behind the gap: its place is not below n, and its plane is none that is zeroed whole
module _ (i k n : ℕ) (l : i < plane_words) (inside : k * plane_words + i < table_words) (z : ltb i (cleared_in k n) ≡ false) where
  left_before : (k ≡ row_words - 1 → ⊥) × ((leb (row_word orders_from) (k + 1) && ltb (k + 1) (row_word orders_end)) ≡ false) × (gap_words + n ≤ i)
  unfolding cleared_in when◌then◌else◌
  left_before =
      cases (eqb k (row_words - 1))
      (λ a. let x : k ≡ row_words - 1 = eqb-true k (row_words - 1) a in let m : gap_words ≤ i = ltb-false i gap_words (rw a at z) in absurd (omega arith))
      (λ a.
      cases (leb (row_word orders_from) (k + 1) && ltb (k + 1) (row_word orders_end))
      (λ c. let m : plane_words ≤ i = ltb-false i plane_words (rw (a, c) at z) in absurd (omega arith))
      (λ c. (eqb-false k (row_words - 1) a, c, ltb-false i (gap_words + n) (rw (a, c) at z))))

  left_order : (f : ℕ) → row_word f ≡ k + 1 → is_order f ≡ false
  left_order f e =
      cases (is_order f)
      (λ a. both (leb orders_from f) (ltb f orders_end) a λ c d.
      let i : orders_from ≤ f = leb-true orders_from f c in
      let j : f < orders_end = ltb-true f orders_end d in
      let (q, r) = link_row f (omega arith) (omega arith) in
      let (x, y) = order_rows in
      let m = left_before.1 in
      absurd (true≢false (sym (rw (x, y, le-leb 7 (k + 1) (omega arith), lt-ltb (k + 1) 9 (omega arith)) refl) ∙ m)))
      (λ a. a)

-- a table is zeros again, once the places that have words other than zero are zeroed
pub cleared_zeros : (t : List ℕ) (n : ℕ) → IsTable t → ((p f : ℕ) → n ≤ p → is_order f ≡ false → word t p f ≡ 0) → cleared_to t n ≡ zeros
unfolding cleared_to
cleared_zeros t n table h =
    where_zeros (λ i. ltb (i % plane_words) (cleared_in (i / plane_words) n)) t table (λ i b z.
    let o : ℕ = i % plane_words in
    let k : ℕ = i / plane_words in
    let low : o < plane_words = omega arith in
    let inside : k * plane_words + o < table_words = omega arith in
    let left = left_before o k n low inside z in
    let behind : gap_words + n ≤ o = left.2 in
    let last : (k ≡ row_words - 1 → ⊥) = left.0 in
    let e : i ≡ k * plane_words + gap_words + (o - gap_words) = omega arith in
    ap (λ j. get_or t j 0) e ∙ row_zero t (o - gap_words) k (omega arith) (omega (arith, last)) (λ f r. h (o - gap_words) f (omega arith) (left_order o k n low inside z f r)))
