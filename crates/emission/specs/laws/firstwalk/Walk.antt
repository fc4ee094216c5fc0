-- The first walk over the words gives the model's refusal, or the model's counts.
use Prim.{Unit, tt}
use Rattle.std.specs.Prelude.{Ok, Err, ◌≡◌, Bool, true, ◌&&◌, List, [], ◌++◌, length}
use Rattle.std.proofs.Math.Path.{refl, sym, ap}
use Rattle.std.proofs.Common.{◌∙◌, zero-add, arith, length-append}
use Rattle.std.proofs.Math.Bool.{false}
use Rattle.std.proofs.Math.Option.{Option, none, some}
use Prim.Native.Nat.{◌-◌, ℕ, zero, suc, ◌+◌, ◌^◌, ◌≤◌, ◌<◌}
use Rattle.std.proofs.Math.Dec.{eqb}
use borrow.Author.Tests.{leb-true, leb-false, eqb-true, ne_eqb}
use Rattle.logic.specs.Test.{when◌then◌else◌}
use Rattle.logic.specs.laws.Test.{cases}
use Rattle.datatype.specs.Codes.{null, struct, no_strategy}
use Rattle.options.specs.Word.{allow_null_fields, enums_without_data_as_strings}
use Rattle.refusal.specs.declared.Refusal.TheVariants as F
use Rattle.refusal.specs.Number.{number_of}
use Rattle.words.specs.Word.{word}
use Rattle.model.specs.Kinds.{sequence_kind, union_kind, map_kind, map_mode_kind, is_container, Step, variant_of}
use Rattle.model.specs.Tracing.{Marks, marks, place_limit}
use Rattle.model.specs.Emission.{admitted, shown, by_number, place_of, places_of, is_missing, is_dataless, dataless, walk, walks, Field, mk, Fields, no_fields, more, name_of, entries_name, by_name, gaps, arranged, field_of, fields_of, child_count, names_of, names_in, columns_of, columns_in, count_of, count_in}
use Rattle.model.specs.Emission as Model
use Rattle.places.specs.Layout.{kind_word, turn_limit}
use Rattle.refine.specs.laws.numbered.Tree.{Spot, spot, Spots, no_spots, child, num, kind_s}
use Rattle.refine.specs.laws.numbered.Numbers.{Good, GoodIn}
use Rattle.refine.specs.laws.words.Places.{Rep, RepIn}
use Rattle.refine.specs.laws.numbered.Erased.{erase, erase_in}
use Rattle.places.specs.Reading.{variant_at, is_ordered, next_ordered, next_child}
use Rattle.walk.specs.Walk as Walk
use Rattle.walk.specs.Walk.{Walked, counts, onward, dataless_at, children_below, walked_by, walked}
use Rattle.emission.specs.laws.order.Arranged.{order_s, Enumerates, Orders, OrdersIn, FitS, FitIn}
use Rattle.emission.specs.laws.firstwalk.Sums.{sorted_count, sorted_columns, sorted_names, columns_few}
use Rattle.emission.specs.laws.firstwalk.Places.{size_s, size_in, many_s, many_few, places_few, AllS, number_places, number_all, number_size, variant_small, child_variant, child_name_lem, name_short}
use Rattle.emission.specs.laws.firstwalk.Children.{fields_of_field, Says, turned, told, Child, kids_say}

-- A place that is no container has none below it, and a map has some.
abbrev mutual
  pub Sane : Spot → Type 0
  Sane (spot p b k m ks) = (is_container k ≡ false → ks ≡ no_spots) × (eqb k map_kind ≡ true → 1 ≤ many_s ks) × SaneIn ks

  pub SaneIn : Spots → Type 0
  SaneIn no_spots = Unit {0}
  SaneIn (child s h m u ks) = Sane u × SaneIn ks

-- the walk's outcome is the model's refusal, or counts the model's fields
abbrev pub WalkSays : Walked → Option ℕ → Fields → Type 0
WalkSays (Err x) o fs = o ≡ some (number_of x)
WalkSays (Ok c) o fs = (o ≡ none) × (c.records ≡ count_in fs) × (c.names ≡ length (names_in fs)) × (c.columns ≡ columns_in fs)

-- ---- the children in order
order_places : (k m : ℕ) (ks : Spots) → (when eqb k union_kind then by_number (places_of k m (erase_in ks)) else places_of k m (erase_in ks)) ≡ places_of k m (erase_in (order_s false k ks))
unfolding order_s when◌then◌else◌
order_places k m ks = cases (eqb k union_kind) (λ e. rw e (sym (number_places k m ks))) (λ e. rw e)

order_all : (P : Step → ℕ → ℕ → Spot → Type 0) (k : ℕ) (ks : Spots) → AllS P ks → AllS P (order_s false k ks)
unfolding order_s when◌then◌else◌
order_all P k ks a = cases (eqb k union_kind) (λ e. rw e (number_all P ks a)) (λ e. rw e a)

order_size : (k : ℕ) (ks : Spots) → size_in (order_s false k ks) ≡ size_in ks
unfolding order_s when◌then◌else◌
order_size k ks = cases (eqb k union_kind) (λ e. rw e (number_size ks)) (λ e. rw e)

-- ---- a union of only dataless variants
kind_dataless : (missing : Bool) (u : Spot) → is_dataless (place_of missing (erase u)) ≡ eqb (kind_s u) null
unfolding place_of
kind_dataless missing (spot p b k m ks) = refl

next_ordered_lem : (t : List ℕ) (k p last : ℕ) → eqb k union_kind ≡ true → next_child t false k p last ≡ next_ordered t p last
unfolding is_ordered next_child when◌then◌else◌
next_ordered_lem t k p last e = rw e

onward_next : (slot : ℕ) → slot < turn_limit → onward slot ≡ slot + 1
onward_next slot l = omega arith

module _ (options : ℕ) (text t : List ℕ) (inner : ℕ → Walked) (k p m : ℕ) where
  dataless_end : (left slot : ℕ) → Walk.dataless_from t p left slot 0 ≡ true
  unfolding Walk.dataless_from
  dataless_end zero slot = refl
  dataless_end (suc left) slot = refl

  dataless_not : (left slot q : ℕ) → eqb q 0 ≡ false → (eqb (variant_at t q) slot && eqb (word t q kind_word) null) ≡ false → Walk.dataless_from t p (suc left) slot q ≡ false
  unfolding Walk.dataless_from
  dataless_not left slot q e d = rw (e, d, Walk.dataless_from)

  dataless_step : (left slot q : ℕ) → eqb q 0 ≡ false → (eqb (variant_at t q) slot && eqb (word t q kind_word) null) ≡ true
      → Walk.dataless_from t p (suc left) slot q ≡ Walk.dataless_from t p left (onward slot) (next_ordered t p q)
  unfolding Walk.dataless_from
  dataless_step left slot q e d = rw (e, d, Walk.dataless_from)

  dataless_is : (qs : Spots) (left slot last : ℕ) → eqb k union_kind ≡ true → AllS (λ s h x u. Child options text t inner s u) qs → many_s qs ≤ left →
      slot + many_s qs ≤ place_limit → Enumerates t false k p last qs
      → Walk.dataless_from t p left slot (next_ordered t p last) ≡ Model.dataless_from slot (places_of k m (erase_in qs))
  unfolding Model.dataless_from place_of
  dataless_is no_spots left slot last d a l i e =
      let z : next_ordered t p last ≡ 0 = sym (next_ordered_lem t k p last d) ∙ e in
      ap (Walk.dataless_from t p left slot) z ∙ dataless_end left slot
  dataless_is (child s h x u qs) zero slot last d a l i e = absurd (omega arith)
  dataless_is (child s h x u qs) (suc left) slot last d a l i e =
      let z : next_ordered t p last ≡ num u = sym (next_ordered_lem t k p last d) ∙ e.0 in
      let o : eqb (num u) 0 ≡ false = ne_eqb (num u) 0 (λ y. omega (arith, a.0.some_number)) in
      let y : (eqb (variant_at t (num u)) slot && eqb (word t (num u) kind_word) null) ≡
      (eqb (variant_of s) slot && is_dataless (place_of (is_missing k m h) (erase u))) =
      rw (a.0.variant_is, a.0.kind_is, kind_dataless (is_missing k m h) u) in
      ap (Walk.dataless_from t p (suc left) slot) z
      ∙ cases (eqb (variant_of s) slot && is_dataless (place_of (is_missing k m h) (erase u)))
      (λ c. dataless_step left slot (num u) o (y ∙ c) ∙ ap (λ (n : ℕ). Walk.dataless_from t p left n (next_ordered t p (num u))) (onward_next slot (omega arith))
      ∙ dataless_is qs left (slot + 1) (num u) d a.1 (omega arith) (omega arith) e.1 ∙ rw c)
      (λ c. dataless_not left slot (num u) o (y ∙ c) ∙ rw c)

-- ---- what is arranged below a place
gaps_some : (slot n : ℕ) (f : Field) (fs : Fields) → 1 ≤ child_count (gaps slot n (more f fs))
unfolding gaps
gaps_some slot zero f fs = omega arith
gaps_some slot (suc n) f fs = omega arith

fields_some : (options k slot m : ℕ) (qs : Spots) → 1 ≤ size_in qs → 1 ≤ child_count (fields_of options k slot (places_of k m (erase_in qs)))
unfolding field_of place_of
fields_some options k slot m no_spots l = absurd (omega arith)
fields_some options k slot m (child s h x u qs) l =
    gaps_some slot (when eqb k union_kind then variant_of s - slot else 0)
    (field_of options (name_of s) (variant_of s) (place_of (is_missing k m h) (erase u)))
    (fields_of options k (variant_of s + 1) (places_of k m (erase_in qs)))

-- a map's entries
entries_say : (o : Option ℕ) (fs : Fields) (size : ℕ) {w : Walked} → 1 ≤ child_count fs → Says o 1 (length entries_name) 0 fs 0 0 size w
    → Says o 0 0 0 (more (mk struct (marks false false) no_strategy 0 entries_name fs) no_fields) 129 69993 (suc size) w
unfolding count_of names_of columns_of
entries_say o fs size l (turned {x = x} e) = turned {x = x} e
entries_say o fs size l (told {r' = r'} {n' = n'} {c' = c'} e er en ec br bn) =
    let y : length (names_in (more (mk struct (marks false false) no_strategy 0 entries_name fs) no_fields)) ≡ 7 + length (names_in fs) =
    length-append (entries_name ++ names_in fs) [] ∙ (omega (arith, length-append entries_name (names_in fs))) in
    told {r' = r'} {n' = n'} {c' = c'} e (omega arith) (omega arith) (rw (ne_eqb (child_count fs) 0 (omega arith)) (omega arith)) (omega arith) (omega arith)

-- fields in the order of their names
sorted_say : (o : Option ℕ) (fs : Fields) (size : ℕ) {w : Walked} → Says o 0 0 0 fs 0 0 size w → Says o 0 0 0 (by_name fs) 129 69993 (suc size) w
sorted_say o fs size (turned {x = x} e) = turned {x = x} e
sorted_say o fs size (told {r' = r'} {n' = n'} {c' = c'} e er en ec br bn) =
    told {r' = r'} {n' = n'} {c' = c'} e (rw (sorted_count fs) er) (rw (sorted_names fs) en) (rw (sorted_columns fs) ec) (rw (sorted_count fs) (omega arith)) (rw (sorted_names fs) (omega arith))

plain_say : (o : Option ℕ) (fs : Fields) (size : ℕ) {w : Walked} → Says o 0 0 0 fs 0 0 size w → Says o 0 0 0 fs 129 69993 (suc size) w
plain_say o fs size (turned {x = x} e) = turned {x = x} e
plain_say o fs size (told {r' = r'} {n' = n'} {c' = c'} e er en ec br bn) = told {r' = r'} {n' = n'} {c' = c'} e er en ec (omega arith) (omega arith)

nothing_below : {o : Option ℕ} (size : ℕ) → o ≡ none → Says o 0 0 0 no_fields 129 69993 (suc size) (Ok (counts 0 0 0))
unfolding count_of names_of columns_of
nothing_below size e = told {r' = 0} {n' = 0} {c' = 0} e (omega arith) (omega arith) (omega arith) (omega arith) (omega arith)

module _ (options : ℕ) (text t : List ℕ) (inner : ℕ → Walked) (k p m : ℕ) (qs : Spots) (all : AllS (λ s h x u. Child options text t inner s u) qs) (few : size_in qs ≤ place_limit)
    (next : Enumerates t false k p 0 qs) (some_below : eqb k map_kind ≡ true → 1 ≤ size_in qs) where
  below_says : Says (walks options k (places_of k m (erase_in qs))) 0 0 0 (arranged k (fields_of options k 0 (places_of k m (erase_in qs)))) 129 69993 (suc (size_in qs)) (children_below text t inner k p)
  unfolding arranged when◌then◌else◌
  below_says =
      let l : many_s qs ≤ place_limit = omega (arith, many_few qs) in
      cases (eqb k map_kind)
      (λ e. rw e (entries_say (walks options k (places_of k m (erase_in qs))) (fields_of options k 0 (places_of k m (erase_in qs))) (size_in qs) (fields_some options k 0 m qs (some_below e))
      (kids_say options text t inner k p m qs place_limit 1 7 0 0 0 all l (omega arith) (omega arith) (omega arith) next)))
      (λ e. let i = kids_say options text t inner k p m qs place_limit 0 0 0 0 0 all l (omega arith) (omega arith) (omega arith) next in
      rw e (cases (eqb k map_mode_kind)
      (λ d. rw d (sorted_say (walks options k (places_of k m (erase_in qs))) (fields_of options k 0 (places_of k m (erase_in qs))) (size_in qs) i))
      (λ d. rw d (plain_say (walks options k (places_of k m (erase_in qs))) (fields_of options k 0 (places_of k m (erase_in qs))) (size_in qs) i))))

  -- a container: all below it, or a union of only dataless variants
  container_says : (name : List ℕ) (number : ℕ) (admits : Marks) → word t p kind_word ≡ k → is_container k ≡ true
      → Says (walk options (shown admits k (places_of k m (erase_in qs)))) 0 0 0 (fields_of_field (field_of options name number (shown admits k (places_of k m (erase_in qs))))) 129 69993 (suc (size_in qs))
      (walked_by options text t false inner p)
  unfolding walked_by walk field_of when◌then◌else◌
  container_says name number admits w c =
      let ge : sequence_kind ≤ k = leb-true sequence_kind k c in
      let z : eqb k null ≡ false = ne_eqb k null (omega arith) in
      let l : many_s qs ≤ place_limit = omega (arith, many_few qs) in
      cases (eqb k union_kind)
      (λ e.
      let d : dataless_at t p ≡ dataless (places_of k m (erase_in qs)) = dataless_is options text t inner k p m qs place_limit 0 0 e all l (omega arith) next in
      rw (w, z, c, e, d) (cases (dataless (places_of k m (erase_in qs)))
      (λ x. rw x (cases (enums_without_data_as_strings options)
      (λ y. rw y (nothing_below (size_in qs) refl))
      (λ y. rw y (cases (allow_null_fields options) (λ v. rw v below_says) (λ v. rw v (turned {x = F.DatalessUnion} refl))))))
      (λ x. rw x below_says)))
      (λ e. rw (w, z, c, e) below_says)

-- ---- a place that is no container
module _ (options : ℕ) (text t : List ℕ) (inner : ℕ → Walked) (p k m : ℕ) (b : Marks) (missing : Bool) (name : List ℕ) (number : ℕ) (kind_is : word t p kind_word ≡ k) where
  null_says : k ≡ null → Says (walk options (place_of missing (erase (spot p b k m no_spots)))) 0 0 0
      (fields_of_field (field_of options name number (place_of missing (erase (spot p b k m no_spots))))) 129 69993 1
      (walked_by options text t false inner p)
  unfolding walked_by walk field_of place_of by_number arranged when◌then◌else◌
  null_says e = rw (kind_is, e) (cases (allow_null_fields options) (λ v. rw v (nothing_below 0 refl)) (λ v. rw v (turned {x = F.NullField} refl)))

  leaf_says : is_container k ≡ false → eqb k null ≡ false
      → Says (walk options (place_of missing (erase (spot p b k m no_spots)))) 0 0 0 (fields_of_field (field_of options name number (place_of missing (erase (spot p b k m no_spots))))) 129 69993 1
      (walked_by options text t false inner p)
  unfolding walked_by walk field_of place_of by_number arranged when◌then◌else◌
  leaf_says c z =
      let l : k < sequence_kind = leb-false sequence_kind k c in
      rw (kind_is, z, c, ne_eqb k union_kind (omega arith), ne_eqb k map_kind (omega arith), ne_eqb k map_mode_kind (omega arith)) (nothing_below 0 refl)

-- ---- every place
place_is : (missing : Bool) (p : ℕ) (b : Marks) (k m : ℕ) (ks : Spots) → place_of missing (erase (spot p b k m ks)) ≡ shown (admitted missing b) k (places_of k m (erase_in (order_s false k ks)))
unfolding place_of
place_is missing p b k m ks = ap (shown (admitted missing b) k) (order_places k m ks)

-- one place, when its children are known
at_place : (options : ℕ) (text t : List ℕ) (n p : ℕ) (b : Marks) (k m : ℕ) (ks : Spots) (missing : Bool) (name : List ℕ) (number levels : ℕ) →
    n ≤ place_limit → Good n (spot p b k m ks) → word t p kind_word ≡ k
    → Orders t (spot p b k m ks) → Sane (spot p b k m ks) → AllS (λ s h x u. Child options text t (walked options text t levels) s u) ks
    → Says (walk options (place_of missing (erase (spot p b k m ks)))) 0 0 0 (fields_of_field (field_of options name number (place_of missing (erase (spot p b k m ks))))) 129 69993 (suc (size_in ks))
    (walked options text t (suc levels) p)
unfolding walked
at_place options text t n p b k m ks missing name number levels l g w e s a =
    cases (is_container k)
    (λ c.
    let z : size_in (order_s false k ks) ≡ size_in ks = order_size k ks in
    let few : suc (size_in ks) ≤ n = places_few n (spot p b k m ks) g in
    rw (place_is missing p b k m ks, ← z)
    (container_says options text t (walked options text t levels) k p m (order_s false k ks) (order_all (λ s h x u. Child options text t (walked options text t levels) s u) k ks a) (omega arith) e.0
    (λ d. omega (arith, s.1 d, many_few ks)) name number (admitted missing b) w c))
    (λ c.
    let z : ks ≡ no_spots = s.0 c in
    rw z (cases (eqb k null)
    (λ d. null_says options text t (walked options text t levels) p k m b missing name number w (eqb-true k null d))
    (λ d. leaf_says options text t (walked options text t levels) p k m b missing name number w c d)))

own_kind : (text t : List ℕ) (u : Spot) → Rep text t u → word t (num u) kind_word ≡ kind_s u
own_kind text t (spot p b k m ks) r = r.0 0 (omega arith)

mutual
  place_says : (options : ℕ) (text t : List ℕ) (n : ℕ) (u : Spot) (missing : Bool) (name : List ℕ) (number levels : ℕ) → n ≤ place_limit → Good n u →
      Rep text t u → FitS u → Orders t u → Sane u → n ≤ num u + levels
      → Says (walk options (place_of missing (erase u))) 0 0 0 (fields_of_field (field_of options name number (place_of missing (erase u)))) 129 69993 (size_s u) (walked options text t levels (num u))
  place_says options text t n (spot p b k m ks) missing name number levels l g r f e s i =
      let z : levels ≡ suc (levels - 1) = omega (arith, g.0) in
      rw z (at_place options text t n p b k m ks missing name number (levels - 1) l g (r.0 0 (omega arith)) e s
      (children_say options text t n p p ks k (levels - 1) l g.2 r.1 f.1 e.2 s.2 (omega (arith, g.0))))

  children_say : (options : ℕ) (text t : List ℕ) (n p c : ℕ) (ks : Spots) (k levels : ℕ) → n ≤ place_limit → GoodIn n c ks → RepIn text t p ks →
      FitIn k ks → OrdersIn t ks → SaneIn ks → n ≤ c + 1 + levels
      → AllS (λ s h x u. Child options text t (walked options text t levels) s u) ks
  children_say options text t n p c no_spots k levels l g r f e s i = tt
  children_say options text t n p c (child s' h m u ks) k levels l g r f e s i = (
    record {
      some_number = omega (arith, g.0);
      variant_is = child_variant text t (num u) _ p k s' h m r.0 f.0;
      small = variant_small k s' f.0;
      name_is = child_name_lem text t (num u) _ p k s' h m r.0 f.0;
      short = name_short text t (num u) _ p k s' h m r.0 f.0;
      kind_is = own_kind text t u r.1;
      says = λ missing name number. place_says options text t n u missing name number levels l g.1 r.1 f.1 e.0 s.0 (omega (arith, g.0));
    },
    children_say options text t n p (num u) ks k levels l g.3 r.2 f.2 e.1 s.1 (omega (arith, g.0)),
  )

walk_says : (o : Option ℕ) (fs : Fields) (size : ℕ) {w : Walked} → Says o 0 0 0 fs 129 69993 size w → WalkSays w o fs
walk_says o fs size (turned e) = e
walk_says o fs size (told e er en ec br bn) = (e, er ∙ zero-add (count_in fs), en ∙ zero-add (length (names_in fs)), ec ∙ zero-add (columns_in fs))

-- The first walk gives the model's refusal, or the model's counts.
pub first_walk : (options : ℕ) (text t : List ℕ) (n : ℕ) (u : Spot) (missing : Bool) (name : List ℕ) (number levels : ℕ) → n ≤ place_limit → Good n u →
    Rep text t u → FitS u → Orders t u → Sane u → n ≤ num u + levels
    → WalkSays (walked options text t levels (num u)) (walk options (place_of missing (erase u))) (fields_of_field (field_of options name number (place_of missing (erase u))))
first_walk options text t n u missing name number levels l g r f e s i =
    walk_says (walk options (place_of missing (erase u))) (fields_of_field (field_of options name number (place_of missing (erase u)))) (size_s u)
    (place_says options text t n u missing name number levels l g r f e s i)

-- No proof cites this: where nothing is refused, no count comes near 32 bits, and a host that lends 2 MiB of field records and 128 MiB of
-- names lends enough.
says_few : (o : Option ℕ) (fs : Fields) (size : ℕ) {w : Walked} → size ≤ place_limit → o ≡ none → Says o 0 0 0 fs 129 69993 size w →
    (count_in fs < 2 ^ 18) × (length (names_in fs) < 2 ^ 27) × (columns_in fs < 2 ^ 18)
says_few o fs size l e (turned d) = let z : ◌≡◌ {A = ℕ} 0 1 = cc in absurd (omega arith)
says_few o fs size l e (told d er en ec br bn) = (omega arith, omega arith, omega (arith, columns_few fs))

pub first_few : (options : ℕ) (text t : List ℕ) (n : ℕ) (u : Spot) (missing : Bool) (name : List ℕ) (number : ℕ) → n ≤ place_limit → Good n u → Rep text t u → FitS u → Orders t u → Sane u
    → walk options (place_of missing (erase u)) ≡ none
    → (count_in (fields_of_field (field_of options name number (place_of missing (erase u)))) < 2 ^ 18)
    × (length (names_in (fields_of_field (field_of options name number (place_of missing (erase u))))) < 2 ^ 27)
    × (columns_in (fields_of_field (field_of options name number (place_of missing (erase u)))) < 2 ^ 18)
first_few options text t n u missing name number l g r f e s z =
    says_few (walk options (place_of missing (erase u))) (fields_of_field (field_of options name number (place_of missing (erase u)))) (size_s u) (omega (arith, places_few n u g)) z
    (place_says options text t n u missing name number n l g r f e s (omega arith))
