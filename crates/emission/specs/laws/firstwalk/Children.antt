-- The first walk over a place's children, once each child is walked as the model says.
use Rattle.std.specs.Prelude.{Ok, Err, ◌≡◌, Bool, true, ◌&&◌, List, length}
use Rattle.std.proofs.Math.Path.{refl}
use Rattle.std.proofs.Common.{sym, ap, ◌∙◌, zero-add, arith, length-append}
use Rattle.std.proofs.Math.Bool.{false}
use Rattle.std.proofs.Math.Option.{Option, none, some}
use Prim.Native.Nat.{◌-◌, ℕ, zero, suc, ◌+◌, ◌*◌, ◌^◌, ◌≤◌, ◌<◌}
use Rattle.std.proofs.Math.Dec.{eqb, leb}
use borrow.Author.Tests.{leb-false, ne_eqb}
use Rattle.logic.specs.Test.{when◌then◌else◌}
use Rattle.logic.specs.laws.Test.{cases}
use Rattle.options.specs.Word.{enums_without_data_as_strings}
use Rattle.refusal.specs.declared.Refusal.{Refusal}
use Rattle.refusal.specs.declared.Refusal.TheVariants as F
use Rattle.refusal.specs.Number.{number_of}
use Rattle.words.specs.Word.{word}
use Rattle.model.specs.Kinds.{union_kind, Step, variant_of}
use Rattle.model.specs.Tracing.{Marks}
use Rattle.model.specs.Emission.{admitted, Place, shown, place_of, places_of, is_missing, first_of, walk, walks, Field, mk, Fields, more, name_in, name_of, gaps, field_of, fields_of, names_of, names_in, columns_of, columns_in, count_of, count_in}
use Rattle.model.specs.Emission as Model
use Rattle.places.specs.Layout.{kind_word}
use Rattle.refine.specs.laws.numbered.Tree.{Spot, spot, Spots, no_spots, child, num, kind_s}
use Rattle.refine.specs.laws.numbered.Erased.{erase, erase_in}
use Rattle.places.specs.Reading.{variant_at, child_name, next_child}
use Rattle.walk.specs.Walk.{Walked, counts, onward, sum_of, gaps_at, slot_behind, is_beyond, records_with, names_with, columns_with, with_child, children_from}
use Rattle.walk.specs.Walk as Flat
use Rattle.emission.specs.laws.Types.{Typed, field_type}
use Rattle.emission.specs.laws.order.Arranged.{Enumerates}
use Rattle.emission.specs.laws.firstwalk.Sums.{gaps_count, gaps_columns, gaps_names, columns_are, column_few}
use Rattle.emission.specs.laws.firstwalk.Places.{size_s, size_in, many_s, AllS}

-- the children of a field
abbrev pub fields_of_field : Field → Fields
fields_of_field (mk type m strategy number name fs) = fs

-- A walk's outcome beside the model's refusal and fields: r, n and c were counted before; so many records and name bytes at most are new, with
-- room for a and b more.
pub data Says (o : Option ℕ) (r n c : ℕ) (fs : Fields) (a b size : ℕ) : Walked → Type 0 where
  turned : {x : Refusal} → o ≡ some (number_of x) → Says o r n c fs a b size (Err x)
  told : {r' n' c' : ℕ} → o ≡ none → r' ≡ r + count_in fs → n' ≡ n + length (names_in fs) → c' ≡ c + columns_in fs → count_in fs + a ≤ 130 * size → length (names_in fs) + b ≤ 70000 * size
      → Says o r n c fs a b size (Ok (counts r' n' c'))

-- ---- one field
count_of_lem : (f : Field) → count_of f ≡ suc (count_in (fields_of_field f))
unfolding count_of
count_of_lem (mk type m strategy number name fs) = refl

names_of_lem : (f : Field) → length (names_of f) ≡ length (name_in f) + length (names_in (fields_of_field f))
unfolding names_of
names_of_lem (mk type m strategy number name fs) = length-append name (names_in fs)

-- the columns of a field, by its place's kind
abbrev ColumnsBy : ℕ → Field → Type 0
ColumnsBy kind f = columns_of f ≡ Flat.columns_of kind (count_in (fields_of_field f)) (columns_in (fields_of_field f))

columns_typed : (admits : Marks) (kind : ℕ) (f : Field) → Typed admits kind f → ColumnsBy kind f
columns_typed admits kind (mk type m strategy number name fs) t = columns_are kind type m strategy number name fs t.2

columns_of_lem : (options : ℕ) (name : List ℕ) (number : ℕ) (missing : Bool) (u : Spot) → ColumnsBy (kind_s u) (field_of options name number (place_of missing (erase u)))
unfolding place_of
columns_of_lem options name number missing (spot p b k m ks) = columns_typed (admitted missing b) k _ (field_type options name number (admitted missing b) k _)

field_name : (options : ℕ) (name : List ℕ) (number : ℕ) (p : Place) → name_in (field_of options name number p) ≡ name
unfolding field_of when◌then◌else◌
field_name options name number (shown admits kind ps) =
    cases (eqb kind union_kind && Model.dataless ps && enums_without_data_as_strings options) (λ e. rw e) (λ e. rw e)

-- a field with the gaps before it, and the fields behind it
join_says : (o₁ o₂ : Option ℕ) (f : Field) (gs : Fields) (slot g r n c size₁ size₂ : ℕ) {w : Walked} → o₁ ≡ none → g ≤ 127 → length (name_in f) ≤ 65536
    → count_in (fields_of_field f) + 129 ≤ 130 * size₁ → length (names_in (fields_of_field f)) + 69993 ≤ 70000 * size₁
    → Says o₂ (r + g + (count_in (fields_of_field f) + 1)) (n + (length (names_in (fields_of_field f)) + length (name_in f))) (c + g + columns_of f) gs 0 0 size₂ w
    → Says (first_of o₁ o₂) r n c (gaps slot g (more f gs)) 0 0 (size₁ + size₂) w
unfolding count_of columns_of names_of
join_says o₁ o₂ f gs slot g r n c size₁ size₂ z l₁ l₂ l₃ l₄ (turned {x = x} e) = turned {x = x} (rw z e)
join_says o₁ o₂ f gs slot g r n c size₁ size₂ z l₁ l₂ l₃ l₄ (told {r' = r'} {n' = n'} {c' = c'} e er en ec br bn) =
    let x : count_in (gaps slot g (more f gs)) ≡ g + (count_of f + count_in gs) = gaps_count slot g (more f gs) in
    let y : length (names_in (gaps slot g (more f gs))) ≡ length (names_of f) + length (names_in gs) = gaps_names slot g (more f gs) ∙ length-append (names_of f) (names_in gs) in
    let v : columns_in (gaps slot g (more f gs)) ≡ g + (columns_of f + columns_in gs) = gaps_columns slot g (more f gs) in
    let x' : count_of f ≡ suc (count_in (fields_of_field f)) = count_of_lem f in
    let y' : length (names_of f) ≡ length (name_in f) + length (names_in (fields_of_field f)) = names_of_lem f in
    told {r' = r'} {n' = n'} {c' = c'} (rw z e) (omega arith) (omega arith) (omega arith) (omega arith) (omega arith)

-- ---- what is known of a child
pub record Child (options : ℕ) (text t : List ℕ) (inner : ℕ → Walked) (s : Step) (u : Spot) : Type 0 where
  pub some_number : 0 < num u
  pub variant_is : variant_at t (num u) ≡ variant_of s
  pub small : variant_of s < 65536
  pub name_is : child_name text t (num u) ≡ name_of s
  pub short : length (name_of s) ≤ 65536
  pub kind_is : word t (num u) kind_word ≡ kind_s u
  pub says : (missing : Bool) (name : List ℕ) (number : ℕ)
      → Says (walk options (place_of missing (erase u))) 0 0 0 (fields_of_field (field_of options name number (place_of missing (erase u)))) 129 69993 (size_s u) (inner (num u))

-- ---- gaps
gaps_are : (k : ℕ) (t : List ℕ) (slot q v : ℕ) → variant_at t q ≡ v → gaps_at k t slot q ≡ (when eqb k union_kind then v - slot else 0)
unfolding gaps_at when◌then◌else◌
gaps_are k t slot q v e =
    cases (eqb k union_kind)
    (λ d. rw (d, e) (cases (leb slot v) (λ c. rw c) (λ c. let l : v < slot = leb-false slot v c in rw c (omega arith))))
    (λ d. rw d)

gaps_few : (k v slot : ℕ) → (eqb k union_kind && leb 128 v) ≡ false → (when eqb k union_kind then v - slot else 0) ≤ 127
unfolding when◌then◌else◌
gaps_few k v slot e = cases (eqb k union_kind) (λ d. let e' : leb 128 v ≡ false = rw d at e in let l : v < 128 = leb-false 128 v e' in rw d (omega arith)) (λ d. rw d (omega arith))

-- sums that do not wrap
sum_of_lem : (a b c : ℕ) → a + b + c < 2 ^ 32 → sum_of (sum_of a b) c ≡ a + b + c
sum_of_lem a b c l = omega arith

sum_in : (a b c d : ℕ) → a + b + (c + d) < 2 ^ 32 → sum_of (sum_of a b) (sum_of c d) ≡ a + b + (c + d)
sum_in a b c d l = omega arith

sum_end : (a b c : ℕ) → a + (b + c) < 2 ^ 32 → sum_of a (sum_of b c) ≡ a + (b + c)
sum_end a b c l = omega arith

records_fit : (r g x i j : ℕ) → r + 130 * (i + j) < 2 ^ 32 → g ≤ 127 → x + 129 ≤ 130 * i → r + g + (x + 1) + 130 * j < 2 ^ 32
records_fit r g x i j l₁ l₂ l₃ = omega arith

names_fit : (n x y i j : ℕ) → n + 70000 * (i + j) < 2 ^ 32 → y ≤ 65536 → x + 69993 ≤ 70000 * i → n + (x + y) + 70000 * j < 2 ^ 32
names_fit n x y i j l₁ l₂ l₃ = omega arith

at_most : (a : ℕ) → a ≤ a
at_most a = omega arith

onward_small : (v : ℕ) → v < 65536 → onward v ≡ v + 1
onward_small v l = omega arith

less_fit : (a b : ℕ) (j : ℕ) → a ≤ b → b + j < 2 ^ 32 → a < 2 ^ 32
less_fit a b j l₁ l₂ = omega arith

columns_fit : (c r g d x : ℕ) → c ≤ r → d ≤ suc x → c + g + d ≤ r + g + (x + 1)
columns_fit c r g d x l₁ l₂ = omega arith

module _ (options : ℕ) (text t : List ℕ) (inner : ℕ → Walked) (k p m : ℕ) where
  beyond_step : (left r n c slot q : ℕ) → eqb q 0 ≡ false → is_beyond k t q ≡ true → children_from text t inner k p (suc left) r n c slot q ≡ Err F.TooManySlots
  unfolding children_from
  beyond_step left r n c slot q e d = rw (e, d, children_from)

  within_step : (left r n c slot q : ℕ) → eqb q 0 ≡ false → is_beyond k t q ≡ false
      → children_from text t inner k p (suc left) r n c slot q
      ≡ with_child (λ r n c. children_from text t inner k p left r n c (slot_behind t q) (next_child t false k p q)) text t k r n c slot q (inner q)
  unfolding children_from
  within_step left r n c slot q e d = rw (e, d, children_from)

  ends : (left r n c slot : ℕ) → children_from text t inner k p left r n c slot 0 ≡ Ok (counts r n c)
  unfolding children_from
  ends zero r n c slot = refl
  ends (suc left) r n c slot = refl

  -- a child, when the rest says what the model says
  child_says : (s : Step) (h : ℕ) (u : Spot) (qs : Spots) (left r n c slot : ℕ) → Child options text t inner s u → (eqb k union_kind && leb 128 (variant_of s)) ≡ false
      → r + 130 * (size_s u + size_in qs) < 2 ^ 32 → n + 70000 * (size_s u + size_in qs) < 2 ^ 32 → c ≤ r
      → ((r₁ n₁ c₁ : ℕ) → r₁ + 130 * size_in qs < 2 ^ 32 → n₁ + 70000 * size_in qs < 2 ^ 32 → c₁ ≤ r₁
      → Says (walks options k (places_of k m (erase_in qs))) r₁ n₁ c₁ (fields_of options k (variant_of s + 1) (places_of k m (erase_in qs))) 0 0 (size_in qs)
      (children_from text t inner k p left r₁ n₁ c₁ (variant_of s + 1) (next_child t false k p (num u))))
      → {w : Walked}
      → Says (walk options (place_of (is_missing k m h) (erase u))) 0 0 0 (fields_of_field (field_of options (name_of s) (variant_of s) (place_of (is_missing k m h) (erase u)))) 129 69993 (size_s u) w
      → Says (first_of (walk options (place_of (is_missing k m h) (erase u))) (walks options k (places_of k m (erase_in qs)))) r n c
      (gaps slot (when eqb k union_kind then variant_of s - slot else 0)
      (more (field_of options (name_of s) (variant_of s) (place_of (is_missing k m h) (erase u)))
      (fields_of options k (variant_of s + 1) (places_of k m (erase_in qs)))))
      0 0 (size_s u + size_in qs)
      (with_child (λ r n c. children_from text t inner k p left r n c (slot_behind t (num u)) (next_child t false k p (num u))) text t k r n c slot (num u) w)
  child_says s h u qs left r n c slot d b l₁ l₂ l₃ ih (turned {x = x} e) = turned {x = x} (rw e refl)
  child_says s h u qs left r n c slot d b l₁ l₂ l₃ ih (told {r' = r'} {n' = n'} {c' = c'} e er en ec br bn) =
      let f : Field = field_of options (name_of s) (variant_of s) (place_of (is_missing k m h) (erase u)) in
      let g : ℕ = when eqb k union_kind then variant_of s - slot else 0 in
      let gf : g ≤ 127 = gaps_few k (variant_of s) slot b in
      let fr : columns_of f ≤ count_of f = column_few f in
      let fc : count_of f ≡ suc (count_in (fields_of_field f)) = count_of_lem f in
      let fl : ColumnsBy (kind_s u) f = columns_of_lem options (name_of s) (variant_of s) (is_missing k m h) u in
      let nm : name_in f ≡ name_of s = field_name options (name_of s) (variant_of s) (place_of (is_missing k m h) (erase u)) in
      let sh : length (name_in f) ≤ 65536 = rw nm d.short in
      let ln : length (child_name text t (num u)) ≡ length (name_in f) = ap length (d.name_is ∙ sym nm) in
      let ga : gaps_at k t slot (num u) ≡ g = gaps_are k t slot (num u) (variant_of s) d.variant_is in
      let er' : r' ≡ count_in (fields_of_field f) = er ∙ zero-add (count_in (fields_of_field f)) in
      let en' : n' ≡ length (names_in (fields_of_field f)) = en ∙ zero-add (length (names_in (fields_of_field f))) in
      let ec' : c' ≡ columns_in (fields_of_field f) = ec ∙ zero-add (columns_in (fields_of_field f)) in
      let b_r : r + g + (count_in (fields_of_field f) + 1) + 130 * size_in qs < 2 ^ 32 = records_fit r g (count_in (fields_of_field f)) (size_s u) (size_in qs) l₁ gf br in
      let b_n : n + (length (names_in (fields_of_field f)) + length (name_in f)) + 70000 * size_in qs < 2 ^ 32 =
      names_fit n (length (names_in (fields_of_field f))) (length (name_in f)) (size_s u) (size_in qs) l₂ sh bn in
      let b_c : c + g + columns_of f ≤ r + g + (count_in (fields_of_field f) + 1) = columns_fit c r g (columns_of f) (count_in (fields_of_field f)) l₃ (rw fc at fr) in
      let R : records_with k t slot (num u) r r' ≡ r + g + (count_in (fields_of_field f) + 1) = rw (ga, er') (sum_in r g (count_in (fields_of_field f)) 1 (less_fit _ _ (130 * size_in qs) (at_most _) b_r)) in
      let N : names_with text t (num u) n n' ≡ n + (length (names_in (fields_of_field f)) + length (name_in f)) =
      rw (ln, en') (sum_end n (length (names_in (fields_of_field f))) (length (name_in f)) (less_fit _ _ (70000 * size_in qs) (at_most _) b_n)) in
      let C₀ : Flat.columns_of (word t (num u) kind_word) r' c' ≡ columns_of f = rw (d.kind_is, er', ec') (sym fl) in
      let C : columns_with k t slot (num u) c r' c' ≡ c + g + columns_of f = rw (ga, C₀) (sum_of_lem c g (columns_of f) (less_fit _ _ (130 * size_in qs) b_c b_r)) in
      let S : slot_behind t (num u) ≡ variant_of s + 1 = rw d.variant_is (onward_small (variant_of s) d.small) in
      rw (R, N, C, S) (join_says (walk options (place_of (is_missing k m h) (erase u))) (walks options k (places_of k m (erase_in qs))) f (fields_of options k (variant_of s + 1) (places_of k m (erase_in qs)))
      slot g r n c (size_s u) (size_in qs) e gf sh br bn
      (ih (r + g + (count_in (fields_of_field f) + 1)) (n + (length (names_in (fields_of_field f)) + length (name_in f))) (c + g + columns_of f) b_r b_n b_c))

  -- the children one after another
  pub kids_say : (qs : Spots) (left r n c slot last : ℕ) → AllS (λ s h x u. Child options text t inner s u) qs → many_s qs ≤ left
      → r + 130 * size_in qs < 2 ^ 32 → n + 70000 * size_in qs < 2 ^ 32 → c ≤ r → Enumerates t false k p last qs
      → Says (walks options k (places_of k m (erase_in qs))) r n c (fields_of options k slot (places_of k m (erase_in qs))) 0 0 (size_in qs)
      (children_from text t inner k p left r n c slot (next_child t false k p last))
  unfolding walk field_of place_of when◌then◌else◌ count_of columns_of names_of
  kids_say no_spots left r n c slot last a l l₁ l₂ l₃ e = rw (e, ends left r n c slot) (told {r' = r} {n' = n} {c' = c} refl (omega arith) (omega arith) (omega arith) (omega arith) (omega arith))
  kids_say (child s h x u qs) zero r n c slot last a l l₁ l₂ l₃ e = absurd (omega arith)
  kids_say (child s h x u qs) (suc left) r n c slot last a l l₁ l₂ l₃ e =
      let z : eqb (num u) 0 ≡ false = ne_eqb (num u) 0 (λ d. omega (arith, a.0.some_number)) in
      cases (eqb k union_kind && leb 128 (variant_of s))
      (λ b. rw (e.0, beyond_step left r n c slot (num u) z (rw a.0.variant_is b)) (rw b (turned {x = F.TooManySlots} refl)))
      (λ b. rw (e.0, within_step left r n c slot (num u) z (rw a.0.variant_is b)) (rw b
      (child_says s h u qs left r n c slot a.0 b l₁ l₂ l₃
      (λ r₁ n₁ c₁ i₁ i₂ i₃. kids_say qs left r₁ n₁ c₁ (variant_of s + 1) (num u) a.1 (omega arith) i₁ i₂ i₃ e.1)
      (a.0.says (is_missing k m h) (name_of s) (variant_of s)))))
