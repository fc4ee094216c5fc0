-- What the words of a place and of its children say, for a walk over the children in order.
use Prim.{Unit, tt}
use Rattle.std.specs.Prelude.{◌≡◌, Bool, true, false, ◌&&◌, ◌||◌, List, ltb, length}
use Rattle.std.proofs.Math.Path.{refl}
use Rattle.std.proofs.Common.{ap, ◌∙◌, length-take, ne_eqb}
use Prim.Native.Nat.{ℕ, zero, suc, ◌+◌, ◌%◌, ◌^◌, ◌<◌, ◌≤◌}
use Rattle.std.proofs.Math.Nat.{mod-eq_of_lt}
use native.Mathlib.Omega.{arith}
use Rattle.std.proofs.Math.Dec.{eqb}
use Rattle.logic.specs.Test.{when◌then◌else◌}
use Rattle.logic.specs.laws.Test.{cases}
use Rattle.logic.specs.laws.Flag.{if_either}
use Rattle.datatype.specs.Codes.{null}
use Rattle.text.specs.Name.{bytes_of, lt_name}
use Rattle.text.specs.laws.Decimal.{length_u16}
use Rattle.words.specs.Word.{word}
use Rattle.model.specs.Kinds.{map_kind, union_kind, map_mode_kind, is_container, Step, variant_of, is_variant}
use Rattle.model.specs.Tracing.{Marks, marks}
use Rattle.model.specs.Emission.{admitted, nullable_byte, name_of, shown, is_missing, place_of, places_of, is_dataless, dataless_from}
use Rattle.shapes.specs.declared.Step as Shapes
use Rattle.shapes.specs.Steps.{field_code, unpacked_name}
use Rattle.places.specs.Nullable.{admitting}
use Rattle.fields.specs.Fields.{nullable_at}
use Rattle.places.specs.Layout.{nullable_word, kind_word, step_word, name_word}
use Rattle.refine.specs.laws.numbered.Tree.{Spot, spot, Spots, no_spots, child, num, kind_s}
use Rattle.refine.specs.laws.numbered.Numbers.{Good, GoodIn}
use Rattle.refine.specs.laws.words.Places.{Cell, Rep, RepIn}
use Rattle.refine.specs.laws.numbered.Erased.{erase, erase_in}
use Rattle.places.specs.Reading.{number_in, step_of, variant_at, step_in, child_name, child_limit, is_ordered, next_ordered, next_child}
use Rattle.walk.specs.Walk.{onward, dataless_from as datalessAtFrom}
use Rattle.emission.specs.laws.firstwalk.Places.{many_s, AllS, number_all, number_places, child_variant, child_name_lem}
use Rattle.emission.specs.laws.order.Arranged.{insert_number_s, by_number_s, insert_name_s, by_name_s, order_s, Enumerates, Orders, OrdersIn, step_fits, FitS, FitIn}

-- ---- tests
-- the nullable byte of a place's field is that of its marks
pub nullable_is : (t : List ℕ) (p : ℕ) (lacking : Bool) (b : Marks) → word t p nullable_word ≡ nullable_byte b → nullable_at t p lacking ≡ nullable_byte (admitted lacking b)
unfolding when◌then◌else◌
nullable_is t p lacking b e = rw e (of_tests lacking b.null b.widened)
  where
    of_tests : (lacking null widened : Bool) → (when lacking then admitting (nullable_byte (marks null widened)) else nullable_byte (marks null widened)) % 256
        ≡ nullable_byte (marks (lacking || null) widened)
    of_tests true true true = refl
    of_tests true true false = refl
    of_tests true false true = refl
    of_tests true false false = refl
    of_tests false true true = refl
    of_tests false true false = refl
    of_tests false false true = refl
    of_tests false false false = refl

-- ---- what is true beside `FitS`: a place that is no container has no children, a map has two, and only a union has variants
abbrev mutual
  pub Neat : Spot → Type 0
  Neat (spot p b k m ks) = (is_container k ≡ false → ks ≡ no_spots) × (eqb k map_kind ≡ true → many_s ks ≡ 2) × NeatIn k ks

  pub NeatIn : ℕ → Spots → Type 0
  NeatIn kind no_spots = Unit {0}
  NeatIn kind (child s h m u ks) = (eqb kind union_kind ≡ false → is_variant s ≡ false) × Neat u × NeatIn kind ks

-- ---- a child's words
module _ {text t : List ℕ} {q x p : ℕ} {s : Step} {h m : ℕ} (k : ℕ) (c : Cell text t q x p s h m) (e : step_fits k s ≡ true) where
  pub variant_is : variant_at t q ≡ variant_of s
  variant_is = child_variant text t q x p k s h m c e

  pub name_is : child_name text t q ≡ name_of s
  name_is = child_name_lem text t q x p k s h m c e

-- a name's length is of 16 bits
abbrev Short : List ℕ → Shapes.Step → Type 0
Short text s = length (name_of (step_in text s)) < 65536

step_short : (text : List ℕ) (code given : ℕ) → Short text (step_of code (unpacked_name given))
unfolding step_of
step_short text code given =
    let l : length (bytes_of text (unpacked_name given)) < 65536 = rw length-take (omega arith) in
    if_either (Short text) (eqb code 0) (omega arith)
    (if_either (Short text) (eqb code 1) (omega arith)
    (if_either (Short text) (eqb code 2) (omega arith)
    (if_either (Short text) (eqb code field_code) l
    (if_either (Short text) (eqb (code % 2) 0) (omega (arith, length_u16 (number_in code) (omega arith))) l))))

pub short_name : (text t : List ℕ) (q : ℕ) → length (child_name text t q) < 65536
unfolding child_name
short_name text t q = step_short text (word t q step_word) (word t q name_word)

pub kind_word_lem : (text t : List ℕ) (u : Spot) → Rep text t u → word t (num u) kind_word ≡ kind_s u
kind_word_lem text t (spot p b k m ks) r = r.0 0 (omega arith)

-- ---- something of every child
module _ (P : Step → ℕ → ℕ → Spot → Type 0) where
  pub all_insert_name : (s : Step) (h m : ℕ) (u : Spot) (ks : Spots) → P s h m u → AllS P ks → AllS P (insert_name_s s h m u ks)
  unfolding insert_name_s when◌then◌else◌
  all_insert_name s h m u no_spots a b = (a, b)
  all_insert_name s h m u (child r i j v ks) a b =
      cases (lt_name (name_of r) (name_of s)) (λ e. rw e (b.0, all_insert_name s h m u ks a b.1)) (λ e. rw e (a, b))

  pub all_name : (ks : Spots) → AllS P ks → AllS P (by_name_s ks)
  unfolding by_name_s
  all_name no_spots b = b
  all_name (child s h m u ks) b = all_insert_name s h m u (by_name_s ks) b.0 (all_name ks b.1)

  pub all_order : (sorted : Bool) (k : ℕ) (ks : Spots) → AllS P ks → AllS P (order_s sorted k ks)
  unfolding order_s when◌then◌else◌
  all_order sorted k ks b = cases (eqb k union_kind) (λ e. rw e (number_all P ks b)) (λ e. rw e (cases (sorted && eqb k map_mode_kind) (λ f. rw f (all_name ks b)) (λ f. rw f b)))

count_insert_number : (s : Step) (h m : ℕ) (u : Spot) (ks : Spots) → many_s (insert_number_s s h m u ks) ≡ suc (many_s ks)
unfolding insert_number_s when◌then◌else◌
count_insert_number s h m u no_spots = refl
count_insert_number s h m u (child r i j v ks) = cases (ltb (variant_of s) (variant_of r)) (λ e. rw e refl) (λ e. rw e (ap suc (count_insert_number s h m u ks)))

count_number : (ks : Spots) → many_s (by_number_s ks) ≡ many_s ks
unfolding by_number_s
count_number no_spots = refl
count_number (child s h m u ks) = count_insert_number s h m u (by_number_s ks) ∙ ap suc (count_number ks)

count_insert_name : (s : Step) (h m : ℕ) (u : Spot) (ks : Spots) → many_s (insert_name_s s h m u ks) ≡ suc (many_s ks)
unfolding insert_name_s when◌then◌else◌
count_insert_name s h m u no_spots = refl
count_insert_name s h m u (child r i j v ks) = cases (lt_name (name_of r) (name_of s)) (λ e. rw e (ap suc (count_insert_name s h m u ks))) (λ e. rw e refl)

count_name : (ks : Spots) → many_s (by_name_s ks) ≡ many_s ks
unfolding by_name_s
count_name no_spots = refl
count_name (child s h m u ks) = count_insert_name s h m u (by_name_s ks) ∙ ap suc (count_name ks)

pub count_order : (sorted : Bool) (k : ℕ) (ks : Spots) → many_s (order_s sorted k ks) ≡ many_s ks
unfolding order_s when◌then◌else◌
count_order sorted k ks = cases (eqb k union_kind) (λ e. rw e (count_number ks)) (λ e. rw e (cases (sorted && eqb k map_mode_kind) (λ f. rw f (count_name ks)) (λ f. rw f refl)))

-- fewer than there are numbers
pub few : (n c : ℕ) (ks : Spots) → c < n → GoodIn n c ks → c + many_s ks < n
few n c no_spots l g = omega arith
few n c (child s h m (spot p b k x is) ks) l g = let i = few n p ks g.1.0 g.3 in omega (arith, g.0)

-- ---- what is known of a child
pub record Kid (text t : List ℕ) (n k p : ℕ) (s : Step) (h m : ℕ) (u : Spot) : Type 0 where
  pub next : ℕ
  pub cell : Cell text t (num u) next p s h m
  pub rep : Rep text t u
  pub above : p < num u
  pub good : Good n u
  pub fit : FitS u
  pub step : step_fits k s ≡ true
  pub orders : Orders t u
  pub neat : Neat u
  pub plain : eqb k union_kind ≡ false → is_variant s ≡ false

pub known : (text t : List ℕ) (n k p c : ℕ) (ks : Spots) → p ≤ c → RepIn text t p ks → GoodIn n c ks → FitIn k ks → OrdersIn t ks → NeatIn k ks → AllS (Kid text t n k p) ks
known text t n k p c no_spots l r g f o z = tt
known text t n k p c (child s h m u ks) l r g f o z = (
  record { next = _; cell = r.0; rep = r.1; above = omega (arith, g.0); good = g.1; fit = f.1; step = f.0; orders = o.0; neat = z.1; plain = z.0 },
  known text t n k p (num u) ks (omega (arith, g.0)) r.2 g.3 f.2 o.1 z.2,
)

-- ---- the places as the model's walk finds them
pub place_is : (lacking : Bool) (p : ℕ) (b : Marks) (k m : ℕ) (ks : Spots) → place_of lacking (erase (spot p b k m ks)) ≡ shown (admitted lacking b) k (places_of k m (erase_in (order_s false k ks)))
unfolding place_of order_s when◌then◌else◌
place_is lacking p b k m ks = cases (eqb k union_kind) (λ e. rw (e, number_places k m ks) refl) (λ e. rw e refl)

-- ---- a union of only dataless variants
dataless_kind : (b : Bool) (u : Spot) → is_dataless (place_of b (erase u)) ≡ eqb (kind_s u) null
dataless_kind b (spot p c k m ks) = rw (place_is b p c k m ks) refl

module _ (text t : List ℕ) (n p m : ℕ) where
  dataless_from_lem : (left slot last : ℕ) (ks : Spots) → many_s ks ≤ left → slot + left ≤ 2048 → AllS (Kid text t n union_kind p) ks → Enumerates t false union_kind p last ks
      → datalessAtFrom t p left slot (next_ordered t p last) ≡ dataless_from slot (places_of union_kind m (erase_in ks))
  unfolding datalessAtFrom dataless_from places_of is_ordered next_child when◌then◌else◌
  dataless_from_lem zero slot last no_spots l z a h = refl
  dataless_from_lem (suc left) slot last no_spots l z a h = let e : next_ordered t p last ≡ 0 = h in rw e refl
  dataless_from_lem zero slot last (child s i j u ks) l z a h = absurd (omega arith)
  dataless_from_lem (suc left) slot last (child s i j u ks) l z a h =
      let e : next_ordered t p last ≡ num u = h.0 in
      let v : variant_at t (num u) ≡ variant_of s = variant_is union_kind a.0.cell a.0.step in
      let w : word t (num u) kind_word ≡ kind_s u = kind_word_lem text t u a.0.rep in
      let on : onward slot ≡ slot + 1 = let x : slot + 1 < 2 ^ 32 = omega arith in mod-eq_of_lt x in
      let ih = dataless_from_lem left (slot + 1) (num u) ks (omega arith) (omega arith) a.1 h.1 in
      rw e (rw (ne_eqb (num u) 0 (omega (arith, a.0.above)), datalessAtFrom, v, w, dataless_kind (is_missing union_kind m i) u)
      (cases (eqb (variant_of s) slot && eqb (kind_s u) null) (λ d. rw (d, on) ih) (λ d. rw d refl)))

  pub dataless_is : (ks : Spots) → many_s ks ≤ child_limit → AllS (Kid text t n union_kind p) ks → Enumerates t false union_kind p 0 ks
      → datalessAtFrom t p child_limit 0 (next_ordered t p 0) ≡ dataless_from 0 (places_of union_kind m (erase_in ks))
  dataless_is ks l a h = dataless_from_lem child_limit 0 0 ks l (omega arith) a h
