-- The places that a container makes at once, in the words of the table and in the numbered tree.
use Rattle.std.specs.Prelude.{◌≡◌, true, ◌&&◌, ltb, Ok, Err}
use Rattle.std.proofs.Math.Path.{refl, ap, subst}
use Rattle.std.proofs.Common.{sym, ◌∙◌, le_refl}
use mathlib.Core.List.{List, [], ◌∷◌}
use Rattle.std.proofs.Math.Bool.{false}
use Rattle.std.proofs.lemmas.Bool.{false≢true}
use Prim.Native.Nat.{ℕ, zero, suc, ◌+◌, ◌*◌, ◌<◌, ◌≤◌}
use native.Mathlib.Omega.{arith}
use Rattle.std.proofs.Math.Dec.{eqb}
use borrow.Author.Tests.{eqb-true, eqb-false, ne_eqb, ltb-true, ltb-false, le-leb, lt-leb}
use Rattle.logic.specs.Test.{when◌then◌else◌}
use Rattle.logic.specs.laws.Test.{cases}
use Rattle.datatype.specs.Codes.{null}
use Rattle.refusal.specs.declared.Refusal.{Refusal}
use Rattle.refusal.specs.declared.Refusal.TheVariants as F
use Rattle.refusal.specs.Number.{number_of}
use Rattle.text.specs.declared.Name.{Name}
use Rattle.words.specs.Word.{IsTable, in_each, word, with_word}
use Rattle.words.specs.laws.Word.{word_same, length_with, with_word_lem, with_again, with_swap}
use Rattle.model.specs.Result.{Result, refused, ◌>>=◌}
use Rattle.model.specs.Kinds.{sequence_kind, map_kind, tuple_kind, Step, element, position, key, value}
use Rattle.model.specs.Tracing.{Marks, place_limit, has, made, positions_from, Counted, counted}
use Rattle.shapes.specs.declared.Step as Flat
use Rattle.shapes.specs.declared.Step.TheVariants as S
use Rattle.shapes.specs.Steps.{code_of, no_name}
use Rattle.growth.specs.laws.Growth.{lengthened_aside}
use Rattle.growth.specs.Growth.{positions_from as positionsOf, made as madeFlat, described, appended, Ensuring, Making, making, of_ensuring, made_one, then_made, made_all, appended_from, positions_made}
use Rattle.places.specs.Layout.{first_word, block_word}
use Rattle.refine.specs.laws.numbered.Tree.{Spot, spot, Spots, no_spots, child, num, steps_s, spot_at, add_s, make_s, make_all_s}
use Rattle.refine.specs.laws.reading.Steps.{near, Stands}
use Rattle.refine.specs.laws.numbered.Numbers.{first_of, near_in, near_add, add_among, add_found}
use Rattle.refine.specs.laws.words.Places.{Block, Fits, After, stays, and_then, in_row}
use Rattle.refine.proofs.words.Child.{far_has, far_clashes, still_has, still_at, still_first, append_grown}
use Rattle.refine.proofs.words.Entered.{block_after}
use Rattle.refine.proofs.words.Part.{Ensures, there, no_place, ensure_is}
use Rattle.refine.specs.laws.reading.Commands.{choices, element_stands, key_stands, value_stands, position_stands}
use Rattle.std.proofs.lemmas.Grind.{common_steps}

-- ---- the places that a container makes at once
abbrev AllStand : List ℕ → List Flat.Step → List Step → Type 0
AllStand text [] [] = Unit {0}
AllStand text [] (s ∷ ss) = ⊥
AllStand text (x ∷ xs) [] = ⊥
AllStand text (x ∷ xs) (s ∷ ss) = Stands text x s × AllStand text xs ss

positions_stand : (text : List ℕ) (i n : ℕ) → AllStand text (positionsOf i n) (positions_from i n)
positions_stand text i zero = tt
positions_stand text i (suc n) = (position_stands text i, positions_stand text (suc i) n)

pub data EnsuresAll (text : List ℕ) (p : ℕ) (b : Marks) (k m : ℕ) (ks : Spots) (t : List ℕ) (n at : ℕ) : Result (Counted Spots) → Making → Type 0 where
  all_there : {n' : ℕ} {ks' : Spots} {t' : List ℕ} → After text t n (spot p b k m ks) t' n' (spot p b k m ks') → EnsuresAll text p b k m ks t n at (counted n' ks') (making (Ok n') t')
  not_all : {x : Refusal} {t' : List ℕ} → EnsuresAll text p b k m ks t n at (refused (number_of x) at) (making (Err x) t')

module _ (text : List ℕ) (p : ℕ) (b : Marks) (k m at : ℕ) where
  all_after : {t t₁ : List ℕ} {n n₁ : ℕ} {ks ks₁ : Spots} {x : Result (Counted Spots)} {y : Making} →
      After text t n (spot p b k m ks) t₁ n₁ (spot p b k m ks₁) → EnsuresAll text p b k m ks₁ t₁ n₁ at x y → EnsuresAll text p b k m ks t n at x y
  all_after a (all_there c) = all_there (and_then _ _ _ _ _ _ _ _ _ _ a c)
  all_after a not_all = not_all

  ensure_all : (xs : List Flat.Step) (ss : List Step) → AllStand text xs ss → (t : List ℕ) (n : ℕ) (ks : Spots) → Fits text t n (spot p b k m ks) →
      EnsuresAll text p b k m ks t n at (make_all_s at ss n ks) (made_all text p xs n t)
  unfolding make_all_s made_all made_one
  ensure_all [] [] z t n ks h = all_there (stays text t n (spot p b k m ks) h)
  ensure_all [] (s ∷ ss) z t n ks h = absurd z
  ensure_all (x ∷ xs) [] z t n ks h = absurd z
  ensure_all (x ∷ xs) (s ∷ ss) z t n ks h = go (λ t₁ n₁ ks₁ h₁. ensure_all xs ss z.1 t₁ n₁ ks₁ h₁) (ensure_is text t n p x s at b k m ks z.0 h)
    where
      go : ((t₁ : List ℕ) (n₁ : ℕ) (ks₁ : Spots) → Fits text t₁ n₁ (spot p b k m ks₁) → EnsuresAll text p b k m ks₁ t₁ n₁ at (make_all_s at ss n₁ ks₁) (made_all text p xs n₁ t₁))
          → {v : Result (Counted Spots)} {y : Ensuring} → Ensures text s p b k m ks t n at v y
          → EnsuresAll text p b k m ks t n at (v >>= λ r. make_all_s at ss r.places r.what) (then_made (of_ensuring y) (made_all text p xs))
      go ih (there {n' = n'} {ks' = ks'} {t' = t'} e a) = all_after a (ih t' n' ks' a.fits)
      go ih no_place = not_all

-- ---- a tuple's positions, appended to a place with no child
-- so many of them are children, with numbers from c on, and no further one is
record Appended (c i n : ℕ) (ks : Spots) : Type 0 where
  next : n ≡ c + i
  none : i ≡ 0 → ks ≡ no_spots
  first : (i ≡ 0 → ⊥) → first_of ks ≡ c
  there : (j : ℕ) → j < i → (has (position j) (steps_s ks) ≡ true) × (num (spot_at (position j) ks) ≡ c + j)
  free : (j : ℕ) → i ≤ j → near_in (position j) ks ≡ false

none_yet : (n : ℕ) → Appended n 0 n no_spots
unfolding near_in
none_yet n = record { next = omega arith; none = λ z. refl; first = λ z. absurd (z refl); there = λ j l. absurd (omega arith); free = λ j l. refl }

apart : (i j : ℕ) → i < j → near (position j) (position i) ≡ false
unfolding near
apart i j l = rw (ne_eqb (4 + 2 * j) (4 + 2 * i) (omega arith)) refl

one_more : (c i n : ℕ) (ks : Spots) → Appended c i n ks → Appended c (suc i) (n + 1) (add_s (position i) n ks)
unfolding add_s
one_more c i n ks a = record {
  next = let e : n ≡ c + i = a.next in omega arith;
  none = λ z. absurd (omega arith);
  first = λ _. grind (arith, a.next, a.none, a.first, a.there 0, still_first (position 0) (position i) n ks, add_s);
  there = λ j l. cases (eqb j i)
      (λ e. let d : j ≡ i = eqb-true j i e in rw d (add_among (position i) n ks, ap num (add_found (position i) n ks (far_has (position i) ks (a.free i (le_refl i)))) ∙ a.next))
      (λ e. let d = eqb-false j i e in let x = a.there j (omega arith) in (still_has (position j) (position i) n ks x.0, ap num (still_at (position j) (position i) n ks x.0) ∙ x.1));
  free = λ j l. near_add (position j) (position i) n ks ∙ rw (a.free j (omega arith), apart i j (omega arith)) refl;
}

-- they make a block
in_a_block : (c positions n : ℕ) (ks : Spots) → Appended c positions n ks → Block positions ks
in_a_block c positions n ks a i l = let d = a.there i l in (d.0, d.1 ∙ ap (λ (x : ℕ). x + i) (sym (a.first (λ z. omega arith))))

-- the count of the block may as well be stored before a child is appended
module _ (p v : ℕ) where
  swap : (t : List ℕ) (q f w : ℕ) → (f ≡ block_word → ⊥) → with_word (with_word t p block_word v) q f w ≡ with_word (with_word t q f w) p block_word v
  swap t q f w d = with_swap t p block_word q f v w (λ _. d)

  appended_block : (code n : ℕ) (name : Name) (t : List ℕ) → appended p code name n (with_word t p block_word v) ≡ with_word (appended p code name n t) p block_word v
  unfolding appended described
  appended_block code n name t = grind (arith, common_steps, lengthened_aside p block_word v refl p n t, swap)

module _ (text : List ℕ) (p : ℕ) (b : Marks) (k m at c last : ℕ) where
  -- both append the positions up to the last, or both are refused (11); the block is stored at the end, and is told here as if it were at each of them
  data Appends (i : ℕ) (t : List ℕ) (n : ℕ) (ks : Spots) : Result (Counted Spots) → Making → Type 0 where
    appends : {n' : ℕ} {ks' : Spots} {t' : List ℕ} →
        After text (with_word t p block_word i) n (spot p b k m ks) (with_word t' p block_word last) n' (spot p b k m ks') →
        Appends i t n ks (counted n' ks') (making (Ok n') t')
    no_room : {t' : List ℕ} → Appends i t n ks (refused (number_of F.TooManyPlaces) at) (making (Err F.TooManyPlaces) t')

  appends_after : {i i₁ : ℕ} {t t₁ : List ℕ} {n n₁ : ℕ} {ks ks₁ : Spots} {x : Result (Counted Spots)} {y : Making} →
      After text (with_word t p block_word i) n (spot p b k m ks) (with_word t₁ p block_word i₁) n₁ (spot p b k m ks₁) → Appends i₁ t₁ n₁ ks₁ x y →
      Appends i t n ks x y
  appends_after a (appends d) = appends (and_then _ _ _ _ _ _ _ _ _ _ a d)
  appends_after a no_room = no_room

  append_all : (left i : ℕ) (t : List ℕ) (n : ℕ) (ks : Spots) → i + left ≡ last → Fits text (with_word t p block_word i) n (spot p b k m ks) →
      Appended c i n ks → Appends i t n ks (make_all_s at (positions_from i left) n ks) (appended_from p i left n t)
  unfolding make_all_s make_s appended_from when◌then◌else◌
  append_all zero i t n ks e h a =
      let d : i ≡ last = omega arith in
      let u : Spot = spot p b k m ks in
      appends (subst (λ (j : ℕ). After text (with_word t p block_word i) n u (with_word t p block_word j) n u) d (stays text (with_word t p block_word i) n u h))
  append_all (suc left) i t n ks e h a =
      let far : near_in (position i) ks ≡ false = a.free i (le_refl i) in
      rw (far_clashes (position i) ks far, far_has (position i) ks far)
      (cases (ltb n place_limit)
      (λ d.
      let l : n < place_limit = ltb-true n place_limit d in
      let g : List ℕ = with_word t p block_word i in
      let t₁ : List ℕ = appended p (code_of (S.Position i)) no_name n t in
      let t₂ : List ℕ = appended p (code_of (S.Position i)) no_name n g in
      let long : IsTable t = rw (length_with t p block_word i) at h.room in
      let more = one_more c i n ks a in
      let G = append_grown text g n p (S.Position i) (position i) b k m ks (position_stands text i) far h l in
      let B = block_after text g n p b k m ks h (position i) far l t₂ G i refl
      (word_same t p block_word i long (in_row text g n p b k m ks h) (omega arith) (in_each (omega (arith, a.next)))) (in_a_block c (suc i) (n + 1) (add_s (position i) n ks) more)
      in
      let same_table : with_word t₂ p block_word (suc i) ≡ with_word t₁ p block_word (suc i) = ap (λ (x : List ℕ). with_word x p block_word (suc i))
      (appended_block p i (code_of (S.Position i)) n no_name t) ∙ with_again t₁ p block_word i (suc i) in
      let A : After text g n (spot p b k m ks) (with_word t₁ p block_word (suc i)) (n + 1) (spot p b k m (add_s (position i) n ks)) =
      subst (λ (x : List ℕ). After text g n (spot p b k m ks) x (n + 1) (spot p b k m (add_s (position i) n ks))) same_table B in
      rw (d, lt-leb place_limit n l) (appends_after A (append_all left (suc i) t₁ (n + 1) (add_s (position i) n ks) (omega arith) A.fits more)))
      (λ d. rw (d, le-leb place_limit n (ltb-false n place_limit d)) no_room))

-- a place without children has no block
no_positions : (v : ℕ) → Block v no_spots → v ≡ 0
unfolding has steps_s
no_positions zero β = refl
no_positions (suc v) β = absurd (false≢true (β 0 (omega arith)).0)

module _ (text t : List ℕ) (n p : ℕ) (b : Marks) (k m at : ℕ) where
  block_all : (positions : ℕ) (ks : Spots) {x : Result (Counted Spots)} {y : Making} → with_word t p block_word 0 ≡ t → Appends text p b k m at n positions 0 t n ks x y
      → EnsuresAll text p b k m ks t n at x (then_made y (λ j u. making (Ok j) (with_word u p block_word positions)))
  block_all positions ks e (appends {n' = n'} {ks' = ks'} {t' = t'} d) =
      all_there (subst (λ (x : List ℕ). After text x n (spot p b k m ks) (with_word t' p block_word positions) n' (spot p b k m ks')) e d)
  block_all positions ks e no_room = not_all

  ensure_positions : (positions : ℕ) (ks : Spots) → Fits text t n (spot p b k m ks) →
      EnsuresAll text p b k m ks t n at (make_all_s at (positions_from 0 positions) n ks) (positions_made text p positions n t)
  unfolding positions_made when◌then◌else◌
  ensure_positions positions no_spots h =
      let e : word t p first_word ≡ 0 = h.rep.0 3 (omega arith) in
      let z : with_word t p block_word 0 ≡ t = subst (λ (v : ℕ). with_word t p block_word v ≡ t) (no_positions (word t p block_word) h.rep.2) (with_word_lem t p block_word) in
      let h' : Fits text (with_word t p block_word 0) n (spot p b k m no_spots) = subst (λ (x : List ℕ). Fits text x n (spot p b k m no_spots)) (sym z) h in
      rw e (block_all positions no_spots z (append_all text p b k m at n positions positions 0 t n no_spots (omega arith) h' (none_yet n)))
  ensure_positions positions (child r x y u ks) h =
      let e : word t p first_word ≡ num u = h.rep.0 3 (omega arith) in
      rw (e, ne_eqb (num u) 0 (omega (arith, h.good.2.0)))
      (ensure_all text p b k m at (positionsOf 0 positions) (positions_from 0 positions) (positions_stand text 0 positions) t n
      (child r x y u ks) h)

  pub ensure_made : (kind positions before : ℕ) (ks : Spots) → Fits text t n (spot p b k m ks) →
      EnsuresAll text p b k m ks t n at (make_all_s at (made kind positions before) n ks) (madeFlat text p kind positions before n t)
  unfolding made madeFlat make_all_s
  ensure_made kind positions before ks h =
      let Same : List Step → Making → Type 0 = λ ss y. EnsuresAll text p b k m ks t n at (make_all_s at ss n ks) y in
      choices Same (eqb kind sequence_kind) (ensure_all text p b k m at (S.Element ∷ []) (element ∷ []) (element_stands text, tt) t n ks h) (
      choices Same (eqb kind map_kind) (ensure_all text p b k m at (S.Key ∷ S.Value ∷ []) (key ∷ value ∷ []) (key_stands text, (value_stands text, tt)) t n ks h) (
      choices Same (eqb kind tuple_kind && eqb before null) (ensure_positions positions ks h) (all_there (stays text t n (spot p b k m ks) h))))
