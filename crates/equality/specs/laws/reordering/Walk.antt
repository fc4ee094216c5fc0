-- Reordering: neither the refusals of the walk, 12 to 14, nor the fields, once those of every listed struct are sorted by name, depend on the
-- order of places below a struct.
use Rattle.std.specs.Prelude.{◌≡◌, refl, ◌↔◌, Bool, true, false, not, ◌&&◌, ◌||◌, List, ℕ, zero, suc, ◌+◌, ◌-◌, eqb, leb, length}
use Rattle.std.proofs.Common.{ap, ap₂, sym, ◌∙◌, true≢false, arith, length-append, eqb-true}
use Rattle.std.proofs.lemmas.Bool.{false≢true}
use Rattle.std.proofs.Math.Option.{Option, none, some}
use Rattle.logic.specs.Test.{when◌then◌else◌}
use Rattle.logic.specs.laws.Test.{cases, both}
use Rattle.datatype.specs.Codes.{null, utf8, large_utf8, struct, map, no_strategy}
use Rattle.options.specs.Word.{allow_null_fields, sequence_as_large_list, string_as_large_utf8, string_dictionary_encoding, enums_without_data_as_strings}
use Rattle.refusal.specs.Number.{null_field, dataless_union}
use Rattle.text.specs.Name.{lt_name}
use Rattle.model.specs.Result.{accepted}
use Rattle.model.specs.Kinds.{sequence_kind, struct_kind, map_kind, union_kind, map_mode_kind, is_struct, Step, variant_of}
use Rattle.model.specs.Tracing.{Marks, marks, one}
use Rattle.model.specs.Emission.{Place, shown, Places, none_below, below, dataless_from, dataless, slot_limit, first_of, walk, walks, Field, mk, Fields, no_fields, more, emits_struct, type_of, strategy_of, entries_name, name_of, name_in, insert_field, by_name, gap, gaps, arranged, field_of, fields_of, root_fields, root_name, child_count, names_of, names_in, is_column, columns_of, columns_in, count_of, count_in}
use Rattle.model.specs.Demand3.{is_listed, in_name_order_of, in_name_order_below, in_name_order}
use Rattle.equality.specs.laws.Base.{choice}
use Rattle.equality.specs.laws.Proper.{kind_fits, steps_below, fits, fit_below}
use Rattle.equality.specs.laws.emission.Canon.{insert_place, in_order}
use Rattle.equality.specs.laws.reordering.Sorted.{sorted_place, sorted_below, steps_sorted}
use Rattle.equality.specs.laws.reordering.Sorting.{precedes, rising}
use Rattle.equality.specs.laws.emission.InOrder.{ascends, ascend_below, wrapped, plain_field, plain_fields, fit_more, struct_other, Named, named_fits, by_name_plain, order_fits, Off, field_arranged}
use Rattle.equality.specs.laws.emission.Fields.{kind_back, kind_back_lem, root_field}

-- of any container but a struct they are so already
sorted_already : (options kind : ℕ) (ps : Places) → is_struct kind ≡ false → fit_below options kind 0 ps ≡ true →
    (not (eqb kind union_kind) || rising (steps_below ps)) ≡ true → in_order (sorted_below ps) ≡ sorted_below ps
sorted_already options kind ps = order_fits options kind ps (sorted_below ps) (steps_sorted ps)

-- ---- the walk passes where every place passes
-- a place of a kind, whose places below are dataless, and pass, or not
unfoldable pub ok_as : ℕ → ℕ → Bool → Bool → Bool
ok_as options kind is_bare ok =
    when eqb kind null then allow_null_fields options
    else when eqb kind union_kind && is_bare && enums_without_data_as_strings options then true
    else when eqb kind union_kind && is_bare && not (allow_null_fields options) then false
    else ok

unfoldable mutual
  pub ok_place : ℕ → Place → Bool
  ok_place options (shown m kind ps) = ok_as options kind (dataless ps) (ok_below options kind ps)

  pub ok_below : ℕ → ℕ → Places → Bool
  ok_below options kind none_below = true
  ok_below options kind (below s p ps) = (not (eqb kind union_kind && leb slot_limit (variant_of s)) && ok_place options p) && ok_below options kind ps

abbrev passes : Option ℕ → Bool
passes none = true
passes (some refusal) = false

passes_first : (a b : Option ℕ) → passes (first_of a b) ≡ (passes a && passes b)
passes_first none b = refl
passes_first (some refusal) b = refl

passes_as : (options kind : ℕ) (is_bare : Bool) (rest : Option ℕ) →
    passes (when eqb kind null then (when allow_null_fields options then none else some null_field)
    else when eqb kind union_kind && is_bare && enums_without_data_as_strings options then none
    else when eqb kind union_kind && is_bare && not (allow_null_fields options) then some dataless_union
    else rest)
    ≡ ok_as options kind is_bare (passes rest)
unfolding ok_as when◌then◌else◌
passes_as options kind is_bare rest =
    cases (eqb kind null) (λ a. cases (allow_null_fields options) (λ b. rw (ok_as, a, b)) (λ b. rw (ok_as, a, b))) (λ a.
    cases (eqb kind union_kind && is_bare && enums_without_data_as_strings options) (λ b. rw (ok_as, a, b)) (λ b.
    cases (eqb kind union_kind && is_bare && not (allow_null_fields options)) (λ c. rw (ok_as, a, b, c)) (λ c. rw (ok_as, a, b, c))))

mutual
  unfolding walk ok_place when◌then◌else◌

  walk_passes : (options : ℕ) (c : Place) → passes (walk options c) ≡ ok_place options c
  walk_passes options (shown m kind ps) = passes_as options kind (dataless ps) (walks options kind ps) ∙ ap (ok_as options kind (dataless ps)) (walks_pass options kind ps)

  walks_pass : (options kind : ℕ) (ps : Places) → passes (walks options kind ps) ≡ ok_below options kind ps
  walks_pass options kind none_below = refl
  walks_pass options kind (below s p ps) =
      let h = walk_passes options p in
      let k = walks_pass options kind ps in
      cases (eqb kind union_kind && leb slot_limit (variant_of s)) (λ e. rw (walks, ok_below, e))
      (λ e. rw (walks, ok_below, e) (passes_first (walk options p) (walks options kind ps) ∙ ap₂ ◌&&◌ h k))

passed : (o : Option ℕ) → passes o ≡ true → o ≡ none
passed none e = refl
passed (some refusal) e = absurd (false≢true e)

-- the walk meets no refusal exactly where every place passes
pub walk_ok : (options : ℕ) (c : Place) → (walk options c ≡ none) ↔ (ok_place options c ≡ true)
walk_ok options c = ((λ e. sym (walk_passes options c) ∙ ap passes e), (λ e. passed (walk options c) (walk_passes options c ∙ e)))

-- ---- and that does not depend on the order below a struct
and_swap : (a b c : Bool) → (a && (b && c)) ≡ (b && (a && c))
and_swap true b c = refl
and_swap false true c = refl
and_swap false false c = refl

ok_insert : (options kind : ℕ) (s : Step) (p : Place) (ps : Places) → ok_below options kind (insert_place s p ps) ≡ ok_below options kind (below s p ps)
unfolding ok_below insert_place when◌then◌else◌
ok_insert options kind s p none_below = refl
ok_insert options kind s p (below r q ps) =
    cases (precedes r s)
    (λ e. rw (e, ok_below, ok_insert options kind s p ps)
    (and_swap (not (eqb kind union_kind && leb slot_limit (variant_of r)) && ok_place options q) (not (eqb kind union_kind && leb slot_limit (variant_of s)) && ok_place options p) (ok_below options kind ps)))
    (λ e. rw e)

ok_in_order : (options kind : ℕ) (ps : Places) → ok_below options kind (in_order ps) ≡ ok_below options kind ps
unfolding ok_below in_order
ok_in_order options kind none_below = refl
ok_in_order options kind (below s p ps) =
    ok_insert options kind s p (in_order ps)
    ∙ ap (◌&&◌ (not (eqb kind union_kind && leb slot_limit (variant_of s)) && ok_place options p)) (ok_in_order options kind ps)

dataless_sorted : (slot : ℕ) (ps : Places) → dataless_from slot (sorted_below ps) ≡ dataless_from slot ps
unfolding dataless_from sorted_place
dataless_sorted slot none_below = refl
dataless_sorted slot (below s (shown m kind qs) ps) = ap (◌&&◌ (eqb (variant_of s) slot && eqb kind null)) (dataless_sorted (slot + 1) ps)

-- a struct is no union, and its places below may stand in any order
ok_struct : (options kind : ℕ) (is_bare ok : Bool) → is_struct kind ≡ true → ok_as options kind is_bare ok ≡ ok
unfolding ok_as when◌then◌else◌
ok_struct options kind is_bare ok h = rw (ok_as, struct_other kind null h refl, struct_other kind union_kind h refl)

mutual
  unfolding ok_place sorted_place fits ascends

  pub ok_sorted : (options : ℕ) (c : Place) → fits options c ≡ true → ascends c ≡ true → ok_place options (sorted_place c) ≡ ok_place options c
  ok_sorted options (shown m kind ps) f u =
      both (kind_fits options kind) (fit_below options kind 0 ps) f λ _ g.
      both (not (eqb kind union_kind) || rising (steps_below ps)) (ascend_below ps) u λ a b.
      let k = ok_below_lem options kind 0 ps g b in
      cases (is_struct kind)
      (λ n. ok_struct options kind (dataless (in_order (sorted_below ps))) (ok_below options kind (in_order (sorted_below ps))) n
      ∙ (ok_in_order options kind (sorted_below ps) ∙ k) ∙ sym (ok_struct options kind (dataless ps) (ok_below options kind ps) n))
      (λ n. ap (λ (qs : Places). ok_as options kind (dataless qs) (ok_below options kind qs)) (sorted_already options kind ps n g a)
      ∙ ap₂ (ok_as options kind) (dataless_sorted 0 ps) k)

  ok_below_lem : (options kind i : ℕ) (ps : Places) → fit_below options kind i ps ≡ true → ascend_below ps ≡ true → ok_below options kind (sorted_below ps) ≡ ok_below options kind ps
  ok_below_lem options kind i none_below f u = refl
  ok_below_lem options kind i (below s p ps) f u =
      fit_more options kind i s p ps f λ _ _ c d.
      both (ascends p) (ascend_below ps) u λ a b.
      ap₂ ◌&&◌ (ap (◌&&◌ (not (eqb kind union_kind && leb slot_limit (variant_of s)))) (ok_sorted options p c a)) (ok_below_lem options kind (suc i) ps d b)

-- places that differ in order only are refused by the walk alike
pub walk_reordered : (options : ℕ) (c d : Place) → fits options c ≡ true → fits options d ≡ true → ascends c ≡ true → ascends d ≡ true →
    sorted_place c ≡ sorted_place d → walk options c ≡ none → walk options d ≡ none
walk_reordered options c d f g a b e h =
    (walk_ok options d).1 (sym (ok_sorted options d g b) ∙ ap (ok_place options) (sym e) ∙ ok_sorted options c f a ∙ (walk_ok options c).0 h)

-- ---- the fields in order of names; `above` is the type of the field that they stand in
name_kept : (above : ℕ) (f : Field) → name_in (in_name_order_of above f) ≡ name_in f
unfolding in_name_order_of
name_kept above (mk type m strategy number name fs) = refl

order_insert : (above : ℕ) (f : Field) (fs : Fields) → in_name_order_below above (insert_field f fs) ≡ insert_field (in_name_order_of above f) (in_name_order_below above fs)
unfolding in_name_order_below insert_field when◌then◌else◌
order_insert above f no_fields = refl
order_insert above f (more g fs) =
    cases (lt_name (name_in g) (name_in f))
    (λ e. rw (insert_field, e, in_name_order_below, insert_field, name_kept above g, name_kept above f, e) (ap (more (in_name_order_of above g)) (order_insert above f fs)))
    (λ e. rw (insert_field, e, in_name_order_below, insert_field, name_kept above g, name_kept above f, e))

order_by_name : (above : ℕ) (fs : Fields) → in_name_order_below above (by_name fs) ≡ by_name (in_name_order_below above fs)
unfolding in_name_order_below by_name
order_by_name above no_fields = refl
order_by_name above (more f fs) = order_insert above f (by_name fs) ∙ ap (insert_field (in_name_order_of above f)) (order_by_name above fs)

order_gaps : (above slot n : ℕ) (fs : Fields) → in_name_order_below above (gaps slot n fs) ≡ gaps slot n (in_name_order_below above fs)
unfolding in_name_order_below gaps when◌then◌else◌
order_gaps above slot zero fs = refl
order_gaps above slot (suc n) fs = ap (more (gap slot)) (order_gaps above (slot + 1) n fs)

-- only a struct is listed
not_listed : (above options kind : ℕ) → kind_fits options kind ≡ true → eqb kind struct_kind ≡ false → is_listed above (type_of options kind) (strategy_of kind) ≡ false
unfolding kind_back when◌then◌else◌
not_listed above options kind f n =
    cases (eqb (type_of options kind) struct && eqb (strategy_of kind) no_strategy)
    (λ e. both (eqb (type_of options kind) struct) (eqb (strategy_of kind) no_strategy) e λ a b.
    let z : struct_kind ≡ kind = sym (ap₂ (kind_back options) (eqb-true (type_of options kind) struct a) (eqb-true (strategy_of kind) no_strategy b)) ∙ kind_back_lem options kind f in
    absurd (true≢false (rw (← z) at n)))
    (λ e. rw e)

-- the type of a map, and of nothing else, is Map
not_map : (options kind : ℕ) → eqb kind map_kind ≡ false → eqb (type_of options kind) map ≡ false
unfolding type_of
not_map options kind n =
    let P : ℕ → Type 0 = λ type. eqb type map ≡ false in
    choice P (eqb kind sequence_kind) (λ _. choice P (sequence_as_large_list options) (λ _. refl) (λ _. refl)) λ _.
    choice P (emits_struct kind) (λ _. refl) λ _.
    choice P ((eqb kind utf8 || eqb kind large_utf8) && string_dictionary_encoding options) (λ _. choice P (string_as_large_utf8 options) (λ _. refl) (λ _. refl)) λ _. n

map_type : (options kind : ℕ) → eqb (type_of options kind) map ≡ eqb kind map_kind
unfolding type_of when◌then◌else◌
map_type options kind = cases (eqb kind map_kind) (λ e. rw (eqb-true kind map_kind e)) (λ e. not_map options kind e ∙ sym e)

-- fields that stand in no map, in order of names, whatever else they stand in
abbrev Ordered : Fields → Fields → Type 0
Ordered fs gs = (above : ℕ) → eqb above map ≡ false → in_name_order_below above fs ≡ gs

-- the fields below a place, in order of names
order_arranged : (options kind : ℕ) (ps : Places) (above : ℕ) → eqb above map ≡ eqb kind map_kind → fit_below options kind 0 ps ≡ true →
    (not (eqb kind union_kind) || rising (steps_below ps)) ≡ true → Ordered (fields_of options kind 0 ps) (plain_fields options kind 0 (sorted_below ps)) → eqb kind struct_kind ≡ false →
    in_name_order_below above (arranged kind (fields_of options kind 0 ps)) ≡ wrapped kind (plain_fields options kind 0 (in_order (sorted_below ps)))
unfolding arranged wrapped in_name_order_below when◌then◌else◌
order_arranged options kind ps above t f u e n =
    cases (eqb kind map_mode_kind)
    (λ b.
    let z : kind ≡ map_mode_kind = eqb-true kind map_mode_kind b in
    let m : Named (steps_below (sorted_below ps)) = rw (steps_sorted ps) (named_fits options map_mode_kind 0 ps refl (rw z at f)) in
    rw z (order_by_name above (fields_of options map_mode_kind 0 ps) ∙ ap by_name ((rw z at e) above (rw z at t)) ∙ by_name_plain options map_mode_kind (sorted_below ps) refl m))
    (λ b.
    rw (sorted_already options kind ps (rw (n, b)) f u) (
    cases (eqb kind map_kind)
    (λ c.
    let z : kind ≡ map_kind = eqb-true kind map_kind c in
    rw (z, t ∙ c) (ap (λ (fs : Fields). more (mk struct (marks false false) no_strategy 0 entries_name fs) no_fields) ((rw z at e) struct refl)))
    (λ c. rw (arranged, wrapped, b, c) (e above (t ∙ c)))))

order_struct : (options : ℕ) (ps : Places) → fit_below options struct_kind 0 ps ≡ true →
    Ordered (fields_of options struct_kind 0 ps) (plain_fields options struct_kind 0 (sorted_below ps)) →
    by_name (in_name_order_below struct (fields_of options struct_kind 0 ps)) ≡ plain_fields options struct_kind 0 (in_order (sorted_below ps))
order_struct options ps f e =
    ap by_name (e struct refl) ∙ by_name_plain options struct_kind (sorted_below ps) refl (rw (steps_sorted ps) (named_fits options struct_kind 0 ps refl f))

mutual
  unfolding field_of plain_field sorted_place in_name_order_of fits ascends type_of strategy_of arranged wrapped when◌then◌else◌

  -- a field in order of names is the sorted place's, emitted in order
  pub order_field : (options : ℕ) (x : List ℕ) (v : ℕ) (c : Place) → Off options → fits options c ≡ true → ascends c ≡ true →
      (above : ℕ) → eqb above map ≡ false → in_name_order_of above (field_of options x v c) ≡ plain_field options x v (sorted_place c)
  order_field options x v (shown m kind ps) o f u above n =
      both (kind_fits options kind) (fit_below options kind 0 ps) f λ h g.
      both (not (eqb kind union_kind) || rising (steps_below ps)) (ascend_below ps) u λ a b.
      let k : Ordered (fields_of options kind 0 ps) (plain_fields options kind 0 (sorted_below ps)) = λ type t. order_fields options kind 0 0 ps o g b type t in
      ap (in_name_order_of above) (field_arranged options x v m kind ps o)
      ∙ cases (eqb kind struct_kind)
      (λ e.
      let z : kind ≡ struct_kind = eqb-true kind struct_kind e in
      rw (z, n) (ap (mk struct m no_strategy v x) (order_struct options ps (rw z at g) (rw z at k))))
      (λ e. rw (not_listed above options kind h e) (ap (mk (type_of options kind) m (strategy_of kind) v x) (order_arranged options kind ps (type_of options kind) (map_type options kind) g a k e)))

  order_fields : (options kind slot i : ℕ) (ps : Places) → Off options → fit_below options kind i ps ≡ true → ascend_below ps ≡ true →
      Ordered (fields_of options kind slot ps) (plain_fields options kind slot (sorted_below ps))
  order_fields options kind slot i none_below o f u above m = refl
  order_fields options kind slot i (below s p ps) o f u above m =
      fit_more options kind i s p ps f λ _ _ g h.
      both (ascends p) (ascend_below ps) u λ a b.
      order_gaps above slot (when eqb kind union_kind then variant_of s - slot else 0) (more (field_of options (name_of s) (variant_of s) p) (fields_of options kind (variant_of s + 1) ps))
      ∙ ap (gaps slot (when eqb kind union_kind then variant_of s - slot else 0))
      (ap₂ more (order_field options (name_of s) (variant_of s) p o g a above m) (order_fields options kind (variant_of s + 1) (suc i) ps o h b above m))

-- ---- the root
-- the fields of a root in order
unfoldable root_names : ℕ → Place → Fields
root_names options (shown m kind ps) = when eqb kind struct_kind then plain_fields options kind 0 ps else by_name (wrapped kind (plain_fields options kind 0 ps))

root_order : (options : ℕ) (m : Marks) (kind : ℕ) (ps : Places) → Off options → fits options (shown m kind ps) ≡ true → ascends (shown m kind ps) ≡ true →
    type_of options kind ≡ struct → in_name_order (arranged kind (fields_of options kind 0 ps)) ≡ root_names options (sorted_place (shown m kind ps))
unfolding in_name_order root_names sorted_place fits ascends arranged when◌then◌else◌
root_order options m kind ps o f u t =
    both (kind_fits options kind) (fit_below options kind 0 ps) f λ _ g.
    both (not (eqb kind union_kind) || rising (steps_below ps)) (ascend_below ps) u λ a b.
    let k : Ordered (fields_of options kind 0 ps) (plain_fields options kind 0 (sorted_below ps)) = order_fields options kind 0 0 ps o g b in
    cases (eqb kind struct_kind)
    (λ e. let z : kind ≡ struct_kind = eqb-true kind struct_kind e in rw z (order_struct options ps (rw z at g) (rw z at k)))
    (λ e. rw e (ap by_name (order_arranged options kind ps struct (sym (ap (λ (type : ℕ). eqb type map) t) ∙ map_type options kind) g a k e)))

-- what is accepted of a root is accepted of one that differs in order only, with the same fields in order of names
pub root_reordered : (options end end' : ℕ) (c d : Place) (fs : Fields) → Off options → fits options c ≡ true → fits options d ≡ true → ascends c ≡ true → ascends d ≡ true →
    sorted_place c ≡ sorted_place d → root_fields end (field_of options root_name 0 c) ≡ accepted fs →
    (gs : Fields) × (root_fields end' (field_of options root_name 0 d) ≡ accepted gs) × (in_name_order fs ≡ in_name_order gs)
unfolding sorted_place when◌then◌else◌
root_reordered options end end' (shown a k ps) (shown b l qs) fs o f g u w e h =
    let p = root_field end (type_of options k) a (strategy_of k) 0 root_name (arranged k (fields_of options k 0 ps)) fs (rw (field_arranged options root_name 0 a k ps o) at h) in
    let n : a ≡ b = cc in
    let m : k ≡ l = cc in
    let x : b.null ≡ false = ap (λ (c : Marks). c.null) (sym n) ∙ p.0 in
    let t : type_of options l ≡ struct = ap (type_of options) (sym m) ∙ p.1 in (
      arranged l (fields_of options l 0 qs),
      rw (field_arranged options root_name 0 b l qs o, x, t),
      (ap in_name_order (sym p.2) ∙ root_order options a k ps o f u p.1 ∙ ap (root_names options) e ∙ sym (root_order options b l qs o g w t)),
    )

-- ---- counts do not depend on the order
-- a sum over all fields, each by its type, its name and the number of its children
unfoldable mutual
  total_of : (ℕ → List ℕ → ℕ → ℕ) → Field → ℕ
  total_of weight (mk type m strategy number name fs) = weight type name (child_count fs) + total_in weight fs

  total_in : (ℕ → List ℕ → ℕ → ℕ) → Fields → ℕ
  total_in weight no_fields = 0
  total_in weight (more f fs) = total_of weight f + total_in weight fs

total_insert : (weight : ℕ → List ℕ → ℕ → ℕ) (f : Field) (fs : Fields) → total_in weight (insert_field f fs) ≡ total_of weight f + total_in weight fs
unfolding total_in insert_field when◌then◌else◌
total_insert weight f no_fields = refl
total_insert weight f (more g fs) =
    cases (lt_name (name_in g) (name_in f)) (λ e. rw (insert_field, e, total_in, total_insert weight f fs) (omega arith)) (λ e. rw (insert_field, e, total_in))

total_by_name : (weight : ℕ → List ℕ → ℕ → ℕ) (fs : Fields) → total_in weight (by_name fs) ≡ total_in weight fs
unfolding total_in by_name
total_by_name weight no_fields = refl
total_by_name weight (more f fs) = total_insert weight f (by_name fs) ∙ ap (◌+◌ (total_of weight f)) (total_by_name weight fs)

count_insert : (f : Field) (fs : Fields) → child_count (insert_field f fs) ≡ suc (child_count fs)
unfolding insert_field when◌then◌else◌
count_insert f no_fields = refl
count_insert f (more g fs) = cases (lt_name (name_in g) (name_in f)) (λ e. rw (insert_field, e, count_insert f fs)) (λ e. rw (insert_field, e))

count_by_name : (fs : Fields) → child_count (by_name fs) ≡ child_count fs
unfolding by_name
count_by_name no_fields = refl
count_by_name (more f fs) = count_insert f (by_name fs) ∙ ap suc (count_by_name fs)

count_order : (above : ℕ) (fs : Fields) → child_count (in_name_order_below above fs) ≡ child_count fs
unfolding in_name_order_below
count_order above no_fields = refl
count_order above (more f fs) = ap suc (count_order above fs)

mutual
  unfolding total_in in_name_order_below when◌then◌else◌

  total_field : (weight : ℕ → List ℕ → ℕ → ℕ) (above : ℕ) (f : Field) → total_of weight (in_name_order_of above f) ≡ total_of weight f
  total_field weight above (mk type m strategy number name fs) =
      let h = total_fields weight type fs in
      let n = count_order type fs in
      cases (is_listed above type strategy)
      (λ e. rw e (ap₂ ◌+◌ (ap (weight type name) (count_by_name (in_name_order_below type fs) ∙ n)) (total_by_name weight (in_name_order_below type fs) ∙ h)))
      (λ e. rw e (ap₂ ◌+◌ (ap (weight type name) n) h))

  total_fields : (weight : ℕ → List ℕ → ℕ → ℕ) (above : ℕ) (fs : Fields) → total_in weight (in_name_order_below above fs) ≡ total_in weight fs
  total_fields weight above no_fields = refl
  total_fields weight above (more f fs) = ap₂ ◌+◌ (total_field weight above f) (total_fields weight above fs)

same_total : (weight : ℕ → List ℕ → ℕ → ℕ) (fs gs : Fields) → in_name_order fs ≡ in_name_order gs → total_in weight fs ≡ total_in weight gs
unfolding in_name_order
same_total weight fs gs e = sym (kept fs) ∙ ap (total_in weight) e ∙ kept gs
  where
    kept : (hs : Fields) → total_in weight (by_name (in_name_order_below struct hs)) ≡ total_in weight hs
    kept hs = total_by_name weight (in_name_order_below struct hs) ∙ total_fields weight struct hs

mutual
  unfolding total_in count_in

  count_total : (f : Field) → count_of f ≡ total_of (λ type x n. 1) f
  count_total (mk type m strategy number name fs) = let h = counts_total fs in omega arith

  counts_total : (fs : Fields) → count_in fs ≡ total_in (λ type x n. 1) fs
  counts_total no_fields = refl
  counts_total (more f fs) = ap₂ ◌+◌ (count_total f) (counts_total fs)

mutual
  unfolding total_in names_in

  name_total : (f : Field) → length (names_of f) ≡ total_of (λ type x n. length x) f
  name_total (mk type m strategy number name fs) = length-append name (names_in fs) ∙ ap (◌+◌ (length name)) (names_total fs)

  names_total : (fs : Fields) → length (names_in fs) ≡ total_in (λ type x n. length x) fs
  names_total no_fields = refl
  names_total (more f fs) = length-append (names_of f) (names_in fs) ∙ ap₂ ◌+◌ (name_total f) (names_total fs)

mutual
  unfolding total_in columns_in

  column_total : (f : Field) → columns_of f ≡ total_of (λ type x n. one (is_column type n)) f
  column_total (mk type m strategy number name fs) = ap (◌+◌ (one (is_column type (child_count fs)))) (columns_total fs)

  columns_total : (fs : Fields) → columns_in fs ≡ total_in (λ type x n. one (is_column type n)) fs
  columns_total no_fields = refl
  columns_total (more f fs) = ap₂ ◌+◌ (column_total f) (columns_total fs)

-- fields that differ in order only take as many records and as many bytes of names, and have as many columns
pub counts_reordered : (fs gs : Fields) → in_name_order fs ≡ in_name_order gs →
    (count_in fs ≡ count_in gs) × (length (names_in fs) ≡ length (names_in gs)) × (columns_in fs ≡ columns_in gs)
counts_reordered fs gs e = (
  counts_total fs ∙ same_total (λ type x n. 1) fs gs e ∙ sym (counts_total gs),
  names_total fs ∙ same_total (λ type x n. length x) fs gs e ∙ sym (names_total gs),
  columns_total fs ∙ same_total (λ type x n. one (is_column type n)) fs gs e ∙ sym (columns_total gs),
)
