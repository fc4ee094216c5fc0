-- Sorting by insertion: by number, by name, and what it keeps.
use Prim.{Unit, tt}
use Rattle.std.specs.Prelude.{◌≡◌, refl, Bool, not, ◌||◌, List, ℕ, ◌+◌, ◌*◌, ◌≤◌, eqb, ltb}
use Rattle.std.proofs.Common.{sym, ◌∙◌, true≢false, arith}
use Rattle.std.proofs.Math.Bool.{true, false}
use Rattle.std.proofs.lemmas.Bool.{false≢true}
use borrow.Author.Tests.{eqb-true, eq-eqb, ltb-true, ltb-false, lt-ltb, le-ltb, not-true, not-false}
use Rattle.logic.specs.Test.{when◌then◌else◌}
use Rattle.logic.specs.laws.Test.{cases}
use Rattle.text.specs.Name.{bytes_of, lt_name, eq_name}
use Rattle.text.specs.laws.Name.{lt_name_irreflexive, lt_name_transitive, lt_name_total}
use Rattle.words.specs.Word.{word}
use Rattle.model.specs.Kinds.{union_kind, map_mode_kind, Step, field, element, position, key, value, variant, variant_of}
use Rattle.model.specs.Emission.{name_of}
use Rattle.equality.specs.laws.Base.{or_cases}
use Rattle.places.specs.Layout.{name_word}
use Rattle.refine.specs.laws.numbered.Tree.{Spot, Spots, no_spots, child, num}
use Rattle.refine.specs.laws.reading.Steps.{near, name_in}
use Rattle.refine.specs.laws.numbered.Numbers.{first_of, GoodIn, near_in, both_false, not_both}
use Rattle.refine.specs.laws.words.Places.{Cell, RepIn}
use Rattle.places.specs.Reading.{given_name, variant_at}
use Rattle.order.specs.Sort.{is_before}
use Rattle.emission.specs.laws.order.Chains.{among, Sorted, or_swap}
use Rattle.emission.specs.laws.order.Arranged.{insert_number_s, by_number_s, insert_name_s, by_name_s, step_fits, FitIn, nums_of}
use Rattle.emission.specs.laws.firstwalk.Places.{child_variant}

-- ---- sorting by insertion: a new child goes in front of an old one, or past it
unfoldable pub insert_by : (Step → Step → Bool) → Step → ℕ → ℕ → Spot → Spots → Spots
insert_by front s h m u no_spots = child s h m u no_spots
insert_by front s h m u (child r i j v ks) = when front s r then child s h m u (child r i j v ks) else child r i j v (insert_by front s h m u ks)

unfoldable pub sort_by : (Step → Step → Bool) → Spots → Spots
sort_by front no_spots = no_spots
sort_by front (child s h m u ks) = insert_by front s h m u (sort_by front ks)

among_insert : (front : Step → Step → Bool) (x : ℕ) (s : Step) (h m : ℕ) (u : Spot) (ks : Spots) → among x (nums_of (insert_by front s h m u ks)) ≡ (eqb x (num u) || among x (nums_of ks))
unfolding insert_by when◌then◌else◌
among_insert front x s h m u no_spots = refl
among_insert front x s h m u (child r i j v ks) =
    cases (front s r) (λ e. rw e refl) (λ e. rw (e, among_insert front x s h m u ks) (or_swap (eqb x (num v)) (eqb x (num u)) (among x (nums_of ks))))

pub among_sort : (front : Step → Step → Bool) (x : ℕ) (ks : Spots) → among x (nums_of (sort_by front ks)) ≡ among x (nums_of ks)
unfolding sort_by
among_sort front x no_spots = refl
among_sort front x (child s h m u ks) = rw (among_insert front x s h m u (sort_by front ks), among_sort front x ks)

-- of two children the one goes in front of the other where its place is before the other's, and else past it
abbrev Beside : (Step → Step → Bool) → (ℕ → ℕ → Bool) → Step → Step → ℕ → ℕ → Type 0
Beside front before s r x y = (front s r ≡ true → before x y ≡ true) × (front s r ≡ false → before y x ≡ true)

abbrev BesideAll : (Step → Step → Bool) → (ℕ → ℕ → Bool) → Step → ℕ → Spots → Type 0
BesideAll front before s x no_spots = Unit {0}
BesideAll front before s x (child r h m v ks) = Beside front before s r x (num v) × BesideAll front before s x ks

abbrev pub Apart : (Step → Step → Bool) → (ℕ → ℕ → Bool) → Spots → Type 0
Apart front before no_spots = Unit {0}
Apart front before (child s h m u ks) = BesideAll front before s (num u) ks × Apart front before ks

module _ (front : Step → Step → Bool) (before : ℕ → ℕ → Bool) where
  beside_insert : (q : Step) (x : ℕ) (s : Step) (h m : ℕ) (u : Spot) (ks : Spots) → Beside front before q s x (num u) →
      BesideAll front before q x ks → BesideAll front before q x (insert_by front s h m u ks)
  unfolding insert_by when◌then◌else◌
  beside_insert q x s h m u no_spots a b = (a, tt)
  beside_insert q x s h m u (child r i j v ks) a b = cases (front s r) (λ e. rw e (a, b)) (λ e. rw e (b.0, beside_insert q x s h m u ks a b.1))

  beside_sort : (q : Step) (x : ℕ) (ks : Spots) → BesideAll front before q x ks → BesideAll front before q x (sort_by front ks)
  unfolding sort_by
  beside_sort q x no_spots b = tt
  beside_sort q x (child s h m u ks) b = beside_insert q x s h m u (sort_by front ks) b.0 (beside_sort q x ks b.1)

  -- of two children one stands before the other
  one_first : {P : Type 0} (s : Step) (x y : ℕ) (ks : Spots) → BesideAll front before s x ks → among y (nums_of ks) ≡ true → (before x y ≡ true → P) → (before y x ≡ true → P) → P
  one_first s x y no_spots b e f g = absurd (false≢true e)
  one_first s x y (child r h m v ks) b e f g =
      or_cases (eqb y (num v)) (among y (nums_of ks)) e
      (λ d. let i : y ≡ num v = eqb-true y (num v) d in cases (front s r) (λ q. f (rw i (b.0.0 q))) (λ q. g (rw i (b.0.1 q))))
      (λ d. one_first s x y ks b.1 d f g)

  pub total : (ks : Spots) → Apart front before ks → (x y : ℕ) → among x (nums_of ks) ≡ true → among y (nums_of ks) ≡ true → (x ≡ y → ⊥) → before x y ≡ false → before y x ≡ true
  total no_spots a x y e d z f = absurd (false≢true e)
  total (child s h m u ks) a x y e d z f =
      or_cases (eqb x (num u)) (among x (nums_of ks)) e
      (λ i.
      let j : x ≡ num u = eqb-true x (num u) i in
      or_cases (eqb y (num u)) (among y (nums_of ks)) d
      (λ k. absurd (z (j ∙ sym (eqb-true y (num u) k))))
      (λ k. one_first s (num u) y ks a.0 k (λ b. absurd (not_both (before x y) (rw j b) f)) (λ b. rw j b)))
      (λ i.
      or_cases (eqb y (num u)) (among y (nums_of ks)) d
      (λ k. let j : y ≡ num u = eqb-true y (num u) k in one_first s (num u) x ks a.0 i (λ b. rw j b) (λ b. absurd (not_both (before x y) (rw j b) f)))
      (λ k. total ks a.1 x y i k z f))

  module _ (transitive : (x y z : ℕ) → before x y ≡ true → before y z ≡ true → before x z ≡ true) where
    sorted_insert : (s : Step) (h m : ℕ) (u : Spot) (ks : Spots) → BesideAll front before s (num u) ks → Sorted before (nums_of ks) → Sorted before (nums_of (insert_by front s h m u ks))
    unfolding insert_by when◌then◌else◌
    sorted_insert s h m u no_spots a o = ((λ y e. absurd (false≢true e)), tt)
    sorted_insert s h m u (child r i j v ks) a o =
        cases (front s r)
        (λ e.
        let l : before (num u) (num v) ≡ true = a.0.0 e in
        rw e ((λ y d. or_cases (eqb y (num v)) (among y (nums_of ks)) d (λ q. rw (eqb-true y (num v) q) l) (λ q. transitive (num u) (num v) y l (o.0 y q))), o))
        (λ e.
        let l : before (num v) (num u) ≡ true = a.0.1 e in
        rw e (
          (λ y d. or_cases (eqb y (num u)) (among y (nums_of ks)) (sym (among_insert front y s h m u ks) ∙ d) (λ q. rw (eqb-true y (num u) q) l) (o.0 y)),
          sorted_insert s h m u ks a.1 o.1,
        ))

    pub sorted_sort : (ks : Spots) → Apart front before ks → Sorted before (nums_of (sort_by front ks))
    unfolding sort_by
    sorted_sort no_spots a = tt
    sorted_sort (child s h m u ks) a = sorted_insert s h m u (sort_by front ks) (beside_sort s (num u) ks a.0) (sorted_sort ks a.1)

-- children that are not near stand apart, where any two such steps do
module _ (text t : List ℕ) (kind p : ℕ) (front : Step → Step → Bool) (before : ℕ → ℕ → Bool)
    (pair : (s r : Step) (x y a b h m i j : ℕ) → step_fits kind s ≡ true → step_fits kind r ≡ true → near s r ≡ false → Cell text t x a p s h m →
    Cell text t y b p r i j → Beside front before s r x y) where
  beside_all : (n c : ℕ) (s : Step) (x a h m : ℕ) (ks : Spots) → step_fits kind s ≡ true → Cell text t x a p s h m → near_in s ks ≡ false →
      GoodIn n c ks → RepIn text t p ks → FitIn kind ks → BesideAll front before s x ks
  unfolding near_in
  beside_all n c s x a h m no_spots f e d g r w = tt
  beside_all n c s x a h m (child q i j v ks) f e d g r w =
      let o = both_false (near s q) (near_in s ks) d in
      (pair s q x (num v) a (first_of ks) h m i j f w.0 o.0 e r.0, beside_all n (num v) s x a h m ks f e o.1 g.3 r.2 w.2)

  pub apart_all : (n c : ℕ) (ks : Spots) → GoodIn n c ks → RepIn text t p ks → FitIn kind ks → Apart front before ks
  apart_all n c no_spots g r w = tt
  apart_all n c (child s h m u ks) g r w =
      (beside_all n (num u) s (num u) (first_of ks) h m ks w.0 r.0 g.4 g.3 r.2 w.2, apart_all n (num u) ks g.3 r.2 w.2)

-- ---- by number
abbrev pub number_front : Step → Step → Bool
number_front s r = ltb (variant_of s) (variant_of r)

insert_number : (s : Step) (h m : ℕ) (u : Spot) (ks : Spots) → insert_by number_front s h m u ks ≡ insert_number_s s h m u ks
unfolding insert_by insert_number_s when◌then◌else◌
insert_number s h m u no_spots = refl
insert_number s h m u (child r i j v ks) = cases (ltb (variant_of s) (variant_of r)) (λ e. rw e refl) (λ e. rw (e, insert_number s h m u ks) refl)

pub sort_number : (ks : Spots) → sort_by number_front ks ≡ by_number_s ks
unfolding sort_by by_number_s
sort_number no_spots = refl
sort_number (child s h m u ks) = rw (sort_number ks) (insert_number s h m u (by_number_s ks))

-- two variants of unequal numbers
pub number_pair : (text t : List ℕ) (p : ℕ) (s r : Step) (x y a b h m i j : ℕ) → step_fits union_kind s ≡ true → step_fits union_kind r ≡ true →
    near s r ≡ false → Cell text t x a p s h m → Cell text t y b p r i j
    → Beside number_front (is_before text t false) s r x y
unfolding near eq_name is_before when◌then◌else◌
number_pair text t p (field name) r x y a b h m i j f g d c e = absurd (false≢true f)
number_pair text t p element r x y a b h m i j f g d c e = absurd (false≢true f)
number_pair text t p (position v) r x y a b h m i j f g d c e = absurd (false≢true f)
number_pair text t p key r x y a b h m i j f g d c e = absurd (false≢true f)
number_pair text t p value r x y a b h m i j f g d c e = absurd (false≢true f)
number_pair text t p (variant k name) (field other) x y a b h m i j f g d c e = absurd (false≢true g)
number_pair text t p (variant k name) element x y a b h m i j f g d c e = absurd (false≢true g)
number_pair text t p (variant k name) (position v) x y a b h m i j f g d c e = absurd (false≢true g)
number_pair text t p (variant k name) key x y a b h m i j f g d c e = absurd (false≢true g)
number_pair text t p (variant k name) value x y a b h m i j f g d c e = absurd (false≢true g)
number_pair text t p (variant k name) (variant l other) x y a b h m i j f g d c e =
    rw (child_variant text t x a p union_kind (variant k name) h m c f, child_variant text t y b p union_kind (variant l other) i j e g) (
      (λ q. q),
      (λ q.
          let o : l ≤ k = ltb-false k l q in
          let z : k ≡ l → ⊥ = λ w. true≢false (sym (rw (eq-eqb (5 + 2 * k) (5 + 2 * l) (omega arith)) refl) ∙ d) in
          lt-ltb l k (omega arith)),
    )

-- ---- by name
abbrev pub name_front : Step → Step → Bool
name_front s r = not (lt_name (name_of r) (name_of s))

insert_name : (s : Step) (h m : ℕ) (u : Spot) (ks : Spots) → insert_by name_front s h m u ks ≡ insert_name_s s h m u ks
unfolding insert_by insert_name_s when◌then◌else◌
insert_name s h m u no_spots = refl
insert_name s h m u (child r i j v ks) = cases (lt_name (name_of r) (name_of s)) (λ e. rw (e, insert_name s h m u ks) refl) (λ e. rw e refl)

pub sort_name : (ks : Spots) → sort_by name_front ks ≡ by_name_s ks
unfolding sort_by by_name_s
sort_name no_spots = refl
sort_name (child s h m u ks) = rw (sort_name ks) (insert_name s h m u (by_name_s ks))

-- the given name by its words
name_at_lem : {text t : List ℕ} {q x p : ℕ} {s : Step} {h m : ℕ} → Cell text t q x p s h m → bytes_of text (given_name t q) ≡ name_in s
name_at_lem {t = t} {q = q} c = let v : word t q name_word ≡ c.name = c.row 3 (omega arith) in rw v c.says

-- two fields of unequal names
pub name_pair : (text t : List ℕ) (p : ℕ) (s r : Step) (x y a b h m i j : ℕ) → step_fits map_mode_kind s ≡ true → step_fits map_mode_kind r ≡ true →
    near s r ≡ false → Cell text t x a p s h m → Cell text t y b p r i j
    → Beside name_front (is_before text t true) s r x y
unfolding near is_before when◌then◌else◌
name_pair text t p element r x y a b h m i j f g d c e = absurd (false≢true f)
name_pair text t p (position v) r x y a b h m i j f g d c e = absurd (false≢true f)
name_pair text t p key r x y a b h m i j f g d c e = absurd (false≢true f)
name_pair text t p value r x y a b h m i j f g d c e = absurd (false≢true f)
name_pair text t p (variant k name) r x y a b h m i j f g d c e = absurd (false≢true f)
name_pair text t p (field name) element x y a b h m i j f g d c e = absurd (false≢true g)
name_pair text t p (field name) (position v) x y a b h m i j f g d c e = absurd (false≢true g)
name_pair text t p (field name) key x y a b h m i j f g d c e = absurd (false≢true g)
name_pair text t p (field name) value x y a b h m i j f g d c e = absurd (false≢true g)
name_pair text t p (field name) (variant l other) x y a b h m i j f g d c e = absurd (false≢true g)
name_pair text t p (field name) (field other) x y a b h m i j f g d c e =
    rw (name_at_lem c, name_at_lem e) (
      (λ q. cases (lt_name name other) (λ o. o) (λ o. absurd (true≢false (sym (lt_name_total name other d o) ∙ not-true (lt_name other name) q)))),
      (λ q. not-false (lt_name other name) q),
    )

-- ---- both orders
-- the kind whose children are sorted so, and which child goes in front
abbrev pub kind_of : Bool → ℕ
kind_of false = union_kind
kind_of true = map_mode_kind

abbrev pub front_of : Bool → Step → Step → Bool
front_of false = number_front
front_of true = name_front

module _ (text t : List ℕ) where
  pub irreflexive : (by_name : Bool) (x : ℕ) → is_before text t by_name x x ≡ false
  unfolding is_before when◌then◌else◌
  irreflexive false x = le-ltb (variant_at t x) (variant_at t x) (omega arith)
  irreflexive true x = lt_name_irreflexive (bytes_of text (given_name t x))

  pub transitive : (by_name : Bool) (x y z : ℕ) → is_before text t by_name x y ≡ true → is_before text t by_name y z ≡ true → is_before text t by_name x z ≡ true
  unfolding is_before when◌then◌else◌
  transitive false x y z v w =
      let v' = ltb-true (variant_at t x) (variant_at t y) v in let w' = ltb-true (variant_at t y) (variant_at t z) w in lt-ltb (variant_at t x) (variant_at t z) (omega arith)
  transitive true x y z v w = lt_name_transitive (bytes_of text (given_name t x)) (bytes_of text (given_name t y)) (bytes_of text (given_name t z)) v w
