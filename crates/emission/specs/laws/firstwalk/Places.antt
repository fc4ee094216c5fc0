-- How many places a numbered tree has, its children by number, and what a child's words say of it.
use Prim.{Unit, tt}
use Rattle.std.specs.Prelude.{◌≡◌, refl, Bool, true, false, ◌||◌, List, ℕ, zero, suc, ◌+◌, ◌/◌, ◌≤◌, ◌<◌, eqb, ltb, length}
use Rattle.std.proofs.Common.{sym, ◌∙◌, length-append, length-take, ltb-true, eqb-true, ne_eqb}
use Rattle.std.proofs.Math.Path.{ap}
use Rattle.std.proofs.lemmas.Bool.{false≢true, eqb-false}
use native.Mathlib.Omega.{arith}
use Rattle.logic.specs.Test.{when◌then◌else◌}
use Rattle.logic.specs.laws.Test.{cases}
use Rattle.text.specs.Name.{bytes_of}
use Rattle.text.specs.Decimal.{numeral, decimal}
use Rattle.model.specs.Kinds.{union_kind, is_struct, Step, field, element, position, key, value, variant, variant_of}
use Rattle.model.specs.Tracing.{one}
use Rattle.model.specs.Emission.{insert_variant, by_number, is_missing, place_of, places_of, name_of}
use Rattle.words.specs.Word.{word}
use Rattle.shapes.specs.declared.Step.TheVariants as S
use Rattle.shapes.specs.Steps.{unpacked_name}
use Rattle.refine.specs.laws.numbered.Tree.{Spot, spot, Spots, no_spots, child, num}
use Rattle.refine.specs.laws.reading.Steps.{step_code_of, name_in}
use Rattle.refine.specs.laws.numbered.Numbers.{within, within_in, Good, GoodIn}
use Rattle.refine.specs.laws.words.Places.{Cell}
use Rattle.refine.specs.laws.numbered.Erased.{erase, erase_in}
use Rattle.places.specs.Layout.{step_word}
use Rattle.places.specs.Reading.{given_name, step_at, variant_at, step_in, child_name}
use Rattle.places.specs.laws.Reading.{step_back_lem, variant_in_lem}
use Rattle.emission.specs.laws.order.Arranged.{insert_number_s, by_number_s, step_fits}

-- ---- how many places a tree has, and how many children a place
abbrev mutual
  pub size_s : Spot → ℕ
  size_s (spot p b k m ks) = suc (size_in ks)

  pub size_in : Spots → ℕ
  size_in no_spots = 0
  size_in (child s h m u ks) = size_s u + size_in ks

abbrev pub many_s : Spots → ℕ
many_s no_spots = 0
many_s (child s h m u ks) = suc (many_s ks)

pub size_some : (u : Spot) → 1 ≤ size_s u
size_some (spot p b k m ks) = omega arith

pub many_few : (ks : Spots) → many_s ks ≤ size_in ks
many_few no_spots = omega arith
many_few (child s h m u ks) = omega (arith, size_some u, many_few ks)

-- ---- no more than there are numbers: how many numbers below n pass a test
abbrev tally_to : ℕ → (ℕ → Bool) → ℕ
tally_to zero f = 0
tally_to (suc n) f = one (f n) + tally_to n f

one_few : (b : Bool) → one b ≤ 1
one_few true = omega arith
one_few false = omega arith

tally_few : (n : ℕ) (f : ℕ → Bool) → tally_to n f ≤ n
tally_few zero f = omega arith
tally_few (suc n) f = omega (arith, one_few (f n), tally_few n f)

tally_or : (n : ℕ) (f g : ℕ → Bool) → ((q : ℕ) → f q ≡ true → g q ≡ false) → tally_to n (λ q. f q || g q) ≡ tally_to n f + tally_to n g
tally_or zero f g d = omega arith
tally_or (suc n) f g d =
    let i : tally_to n (λ q. f q || g q) ≡ tally_to n f + tally_to n g = tally_or n f g d in
    cases (f n) (λ e. rw (e, d n e) (omega arith)) (λ e. rw e (omega arith))

tally_none : (n : ℕ) → tally_to n (λ q. false) ≡ 0
tally_none zero = refl
tally_none (suc n) = omega (arith, tally_none n)

tally_out : (n p : ℕ) → n ≤ p → tally_to n (λ q. eqb q p) ≡ 0
tally_out zero p l = refl
tally_out (suc n) p l = rw (ne_eqb n p (omega arith)) (omega (arith, tally_out n p (omega arith)))

tally_one : (n p : ℕ) → p < n → tally_to n (λ q. eqb q p) ≡ 1
tally_one zero p l = absurd (omega arith)
tally_one (suc n) p l =
    cases (eqb n p)
    (λ e. let d : n ≡ p = eqb-true n p e in rw e (omega (arith, tally_out n p (omega arith))))
    (λ e. let d : n ≡ p → ⊥ = eqb-false n p e in rw e (omega (arith, tally_one n p (omega arith))))

mutual
  all_numbers : (n : ℕ) (u : Spot) → Good n u → size_s u ≡ tally_to n (λ q. within q u)
  all_numbers n (spot p b k m ks) g =
      let i : tally_to n (λ q. eqb q p || within_in q ks) ≡ tally_to n (λ q. eqb q p) + tally_to n (λ q. within_in q ks) =
      tally_or n (λ q. eqb q p) (λ q. within_in q ks) (λ q e. rw (eqb-true q p e) g.1) in
      omega (arith, i, tally_one n p g.0, all_numbers_in n p ks g.2)

  all_numbers_in : (n c : ℕ) (ks : Spots) → GoodIn n c ks → size_in ks ≡ tally_to n (λ q. within_in q ks)
  all_numbers_in n c no_spots g = sym (tally_none n)
  all_numbers_in n c (child s h m u ks) g =
      let i : tally_to n (λ q. within q u || within_in q ks) ≡ tally_to n (λ q. within q u) + tally_to n (λ q. within_in q ks) = tally_or n (λ q. within q u) (λ q. within_in q ks) g.2 in
      omega (arith, i, all_numbers n u g.1, all_numbers_in n (num u) ks g.3)

pub places_few : (n : ℕ) (u : Spot) → Good n u → size_s u ≤ n
places_few n u g = omega (arith, all_numbers n u g, tally_few n (λ q. within q u))

-- ---- children by number: the model's places so, the same many
insert_places : (k m : ℕ) (s : Step) (h x : ℕ) (u : Spot) (ks : Spots)
    → places_of k m (erase_in (insert_number_s s h x u ks)) ≡ insert_variant s (place_of (is_missing k m h) (erase u)) (places_of k m (erase_in ks))
unfolding insert_number_s insert_variant place_of when◌then◌else◌
insert_places k m s h x u no_spots = refl
insert_places k m s h x u (child r i j v ks) =
    cases (ltb (variant_of s) (variant_of r))
    (λ e. rw e)
    (λ e. rw (e, insert_places k m s h x u ks))

pub number_places : (k m : ℕ) (ks : Spots) → places_of k m (erase_in (by_number_s ks)) ≡ by_number (places_of k m (erase_in ks))
unfolding by_number_s by_number place_of
number_places k m no_spots = refl
number_places k m (child s h x u ks) = insert_places k m s h x u (by_number_s ks) ∙ ap (insert_variant s (place_of (is_missing k m h) (erase u))) (number_places k m ks)

-- what is true of all children
abbrev pub AllS : (Step → ℕ → ℕ → Spot → Type 0) → Spots → Type 0
AllS P no_spots = Unit {0}
AllS P (child s h m u ks) = P s h m u × AllS P ks

module _ (P : Step → ℕ → ℕ → Spot → Type 0) where
  insert_all : (s : Step) (h x : ℕ) (u : Spot) (ks : Spots) → P s h x u → AllS P ks → AllS P (insert_number_s s h x u ks)
  unfolding insert_number_s when◌then◌else◌
  insert_all s h x u no_spots a b = (a, tt)
  insert_all s h x u (child r i j v ks) a b =
      cases (ltb (variant_of s) (variant_of r))
      (λ e. rw e (a, b))
      (λ e. rw e (b.0, insert_all s h x u ks a b.1))

  pub number_all : (ks : Spots) → AllS P ks → AllS P (by_number_s ks)
  unfolding by_number_s
  number_all no_spots a = tt
  number_all (child s h x u ks) a = insert_all s h x u (by_number_s ks) a.0 (number_all ks a.1)

insert_size : (s : Step) (h x : ℕ) (u : Spot) (ks : Spots) → size_in (insert_number_s s h x u ks) ≡ size_s u + size_in ks
unfolding insert_number_s when◌then◌else◌
insert_size s h x u no_spots = refl
insert_size s h x u (child r i j v ks) = cases (ltb (variant_of s) (variant_of r)) (λ e. rw e refl) (λ e. rw e (omega (arith, insert_size s h x u ks)))

pub number_size : (ks : Spots) → size_in (by_number_s ks) ≡ size_in ks
unfolding by_number_s
number_size no_spots = refl
number_size (child s h x u ks) = insert_size s h x u (by_number_s ks) ∙ ap (λ (n : ℕ). size_s u + n) (number_size ks)

-- ---- a child's words
numeral_short : (fuel n : ℕ) → length (numeral fuel n) ≤ fuel
unfolding numeral
numeral_short zero n = omega arith
numeral_short (suc fuel) n =
    cases (ltb n 10)
    (λ e. rw (e, numeral) (omega arith))
    (λ e. rw (e, numeral) (rw length-append (omega (arith, numeral_short fuel (n / 10)))))

pub variant_small : (k : ℕ) (s : Step) → step_fits k s ≡ true → variant_of s < 65536
unfolding when◌then◌else◌
variant_small k (field name) e = omega arith
variant_small k element e = omega arith
variant_small k (position i) e = omega arith
variant_small k key e = omega arith
variant_small k value e = omega arith
variant_small k (variant i name) e = cases (is_struct k) (λ d. absurd (false≢true (rw d at e))) (λ d. let e' : ltb i 65536 ≡ true = rw d at e in ltb-true i 65536 e')

position_small : (k i : ℕ) → step_fits k (position i) ≡ true → i < 65536
unfolding when◌then◌else◌
position_small k i e =
    cases (eqb k union_kind)
    (λ d. absurd (false≢true (rw d at e)))
    (λ d. cases (is_struct k)
    (λ c. absurd (false≢true (rw (d, c) at e)))
    (λ c. let e' : ltb i 65536 ≡ true = rw (d, c) at e in ltb-true i 65536 e'))

module _ (text t : List ℕ) (q x p : ℕ) where
  -- they say its step
  step_is : (k : ℕ) (s : Step) (h m : ℕ) → Cell text t q x p s h m → step_fits k s ≡ true → step_in text (step_at t q) ≡ s
  step_is k s h m c e = go s (c.row 2 (omega arith)) (rw (c.row 3 (omega arith)) c.says) e where
    go : (s : Step) → word t q step_word ≡ step_code_of s → bytes_of text (given_name t q) ≡ name_in s → step_fits k s ≡ true → step_in text (step_at t q) ≡ s
    go (field name) w n f = rw (w, step_back_lem (given_name t q) (S.Field (given_name t q)) (omega arith) refl) (ap field n)
    go element w n f = rw (w, step_back_lem (given_name t q) S.Element (omega arith) tt)
    go (position i) w n f = rw (w, step_back_lem (given_name t q) (S.Position i) (position_small k i f) tt)
    go key w n f = rw (w, step_back_lem (given_name t q) S.Key (omega arith) tt)
    go value w n f = rw (w, step_back_lem (given_name t q) S.Value (omega arith) tt)
    go (variant i name) w n f = rw (w, step_back_lem (given_name t q) (S.Variant i (given_name t q)) (variant_small k (variant i name) f) refl) (ap (variant i) n)

  pub child_variant : (k : ℕ) (s : Step) (h m : ℕ) → Cell text t q x p s h m → step_fits k s ≡ true → variant_at t q ≡ variant_of s
  unfolding variant_at
  child_variant k s h m c e = variant_in_lem text (step_at t q) ∙ ap variant_of (step_is k s h m c e)

  pub child_name_lem : (k : ℕ) (s : Step) (h m : ℕ) → Cell text t q x p s h m → step_fits k s ≡ true → child_name text t q ≡ name_of s
  unfolding child_name
  child_name_lem k s h m c e = ap name_of (step_is k s h m c e)

  bytes_short : (w : ℕ) → length (bytes_of text (unpacked_name w)) ≤ 65536
  bytes_short w = rw length-take (omega arith)

  pub name_short : (k : ℕ) (s : Step) (h m : ℕ) → Cell text t q x p s h m → step_fits k s ≡ true → length (name_of s) ≤ 65536
  unfolding decimal
  name_short k (field name) h m c e = let a = c.says in rw a at (bytes_short c.name)
  name_short k element h m c e = omega arith
  name_short k (position i) h m c e = omega (arith, numeral_short (suc i) i, position_small k i e)
  name_short k key h m c e = omega arith
  name_short k value h m c e = omega arith
  name_short k (variant i name) h m c e = let a = c.says in rw a at (bytes_short c.name)
