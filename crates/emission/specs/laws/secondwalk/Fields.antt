-- The model's fields over the numbered tree's children, in their order, and what the model's walk tells of them.
use Prim.{tt}
use Rattle.std.specs.Prelude.{◌≡◌, refl, true, false, not, ◌&&◌, List, ◌++◌, ℕ, ◌+◌, ◌<◌, ◌≤◌, eqb, leb, length}
use Rattle.std.proofs.Common.{sym, ap, ◌∙◌, true≢false, append-nil, arith, eqb-true, ne_eqb, leb-true, leb-false}
use Rattle.std.proofs.Math.Option.{Option, none, some}
use Rattle.logic.specs.Test.{when◌then◌else◌}
use Rattle.logic.specs.laws.Test.{cases}
use Rattle.datatype.specs.Codes.{null, struct, no_strategy}
use Rattle.options.specs.Word.{allow_null_fields, enums_without_data_as_strings}
use Rattle.refusal.specs.Number.{too_many_slots}
use Rattle.text.specs.Name.{lt_name}
use Rattle.model.specs.Kinds.{sequence_kind, map_kind, union_kind, map_mode_kind, is_container, Step, field, element, position, key, value, variant, variant_of, is_variant}
use Rattle.model.specs.Tracing.{Marks, marks}
use Rattle.model.specs.Emission.{Place, shown, Places, none_below, below, place_of, places_of, is_missing, dataless, slot_limit, first_of, walk, walks, mk, Fields, no_fields, more, entries_name, name_of, insert_field, by_name, gaps, arranged, field_of, fields_of, child_count, records_of, records_in, names_of, names_in}
use Rattle.model.specs.Emission.{name_in as nameOfField}
use Rattle.refine.specs.laws.numbered.Tree.{Spot, Spots, no_spots, child}
use Rattle.refine.specs.laws.numbered.Erased.{erase, erase_in}
use Rattle.putting.specs.Put.{record_of, entries_in}
use Rattle.emission.specs.laws.order.Arranged.{insert_name_s, by_name_s, order_s}
use Rattle.emission.specs.laws.secondwalk.Writing.{Writes, writes_entries}
use Rattle.emission.specs.laws.firstwalk.Places.{AllS}
use Rattle.emission.specs.laws.secondwalk.Words.{all_order}

-- ---- the model's fields over the numbered tree's children, and their order by name
abbrev pub fields_s : ℕ → ℕ → ℕ → ℕ → Spots → Fields
fields_s options k m slot ks = fields_of options k slot (places_of k m (erase_in ks))

name_in_lem : (options : ℕ) (name : List ℕ) (number : ℕ) (p : Place) → nameOfField (field_of options name number p) ≡ name
unfolding field_of when◌then◌else◌
name_in_lem options name number (shown admits kind ps) = cases (eqb kind union_kind && dataless ps && enums_without_data_as_strings options) (λ e. rw e refl) (λ e. rw e refl)

-- the slot plays no part outside unions
no_slot : (options slot slot' : ℕ) (ps : Places) → fields_of options map_mode_kind slot ps ≡ fields_of options map_mode_kind slot' ps
unfolding fields_of gaps when◌then◌else◌
no_slot options slot slot' none_below = refl
no_slot options slot slot' (below s p ps) = refl

insert_is : (options m slot : ℕ) (s : Step) (h x : ℕ) (u : Spot) (ks : Spots)
    → fields_s options map_mode_kind m slot (insert_name_s s h x u ks) ≡ insert_field
    (field_of options (name_of s) (variant_of s) (place_of (is_missing map_mode_kind m h) (erase u))) (fields_s options map_mode_kind m slot ks)
unfolding insert_name_s insert_field fields_of places_of gaps when◌then◌else◌
insert_is options m slot s h x u no_spots = refl
insert_is options m slot s h x u (child r i j v ks) =
    rw (name_in_lem options (name_of s) (variant_of s) (place_of (is_missing map_mode_kind m h) (erase u)), name_in_lem options (name_of r) (variant_of r) (place_of (is_missing map_mode_kind m i) (erase v)))
    (cases (lt_name (name_of r) (name_of s))
    (λ e. rw e (ap (more (field_of options (name_of r) (variant_of r) (place_of (is_missing map_mode_kind m i) (erase v)))) (insert_is options m (variant_of r + 1) s h x u ks)))
    (λ e. rw e (ap (λ (z : Fields). more (field_of options (name_of s) (variant_of s) (place_of (is_missing map_mode_kind m h) (erase u)))
    (more (field_of options (name_of r) (variant_of r) (place_of (is_missing map_mode_kind m i) (erase v))) z)) refl)))

by_name_lem : (options m slot : ℕ) (ks : Spots) → fields_s options map_mode_kind m slot (by_name_s ks) ≡ by_name (fields_s options map_mode_kind m slot ks)
unfolding by_name_s by_name fields_of places_of gaps when◌then◌else◌
by_name_lem options m slot no_spots = refl
by_name_lem options m slot (child s h x u ks) =
    insert_is options m slot s h x u (by_name_s ks)
    ∙ ap (insert_field (field_of options (name_of s) (variant_of s) (place_of (is_missing map_mode_kind m h) (erase u))))
    (by_name_lem options m slot ks ∙ ap by_name (no_slot options slot (variant_of s + 1) (places_of map_mode_kind m (erase_in ks))))

-- what is arranged, but for a map's entries
pub arranged_is : (options k m : ℕ) (ks : Spots) → eqb k map_kind ≡ false → arranged k (fields_s options k m 0 (order_s false k ks)) ≡ fields_s options k m 0 (order_s true k ks)
unfolding arranged order_s when◌then◌else◌
arranged_is options k m ks e = rw e (cases (eqb k map_mode_kind)
    (λ f. let z : k ≡ map_mode_kind = eqb-true k map_mode_kind f in rw z (sym (by_name_lem options m 0 ks)))
    (λ f. rw f refl))

pub arranged_map : (options k m : ℕ) (ks : Spots) → eqb k map_kind ≡ true
    → arranged k (fields_s options k m 0 (order_s false k ks)) ≡ more (mk struct (marks false false) no_strategy 0 entries_name (fields_s options k m 0 (order_s true k ks))) no_fields
unfolding arranged order_s when◌then◌else◌
arranged_map options k m ks e = let z : k ≡ map_kind = eqb-true k map_kind e in rw z refl

pub entries_records : (fs : Fields) → child_count fs ≡ 2 →
    record_of struct 0 no_strategy 0 (length entries_name) 2 ++ records_in fs ≡ records_in
    (more (mk struct (marks false false) no_strategy 0 entries_name fs) no_fields)
unfolding records_of records_in
entries_records fs c = rw (c, append-nil (records_in fs)) refl

pub entries_names : (fs : Fields) → entries_name ++ names_in fs ≡ names_in (more (mk struct (marks false false) no_strategy 0 entries_name fs) no_fields)
unfolding names_of names_in
entries_names fs = rw (append-nil (names_in fs)) refl

pub entries_write : (k : ℕ) → eqb k map_kind ≡ true → Writes (entries_in k) (record_of struct 0 no_strategy 0 (length entries_name) 2) entries_name
entries_write k e = let z : k ≡ map_kind = eqb-true k map_kind e in rw z writes_entries

-- ---- what the model's walk tells of the children, where it refuses nothing
abbrev pub Passed : ℕ → ℕ → ℕ → Step → ℕ → ℕ → Spot → Type 0
Passed options k m s h x u = ((eqb k union_kind && leb slot_limit (variant_of s)) ≡ false) × (walk options (place_of (is_missing k m h) (erase u)) ≡ none)

first_none : (a b : Option ℕ) → first_of a b ≡ none → (a ≡ none) × (b ≡ none)
first_none none b e = (refl, e)
first_none (some r) b e = let z : ◌≡◌ {A = ℕ} 0 1 = cc in absurd (omega arith)

pub passed : (options k m : ℕ) (ks : Spots) → walks options k (places_of k m (erase_in ks)) ≡ none → AllS (Passed options k m) ks
unfolding walks places_of when◌then◌else◌
passed options k m no_spots e = tt
passed options k m (child s h x u ks) e =
    cases (eqb k union_kind && leb slot_limit (variant_of s))
    (λ f. let g : some too_many_slots ≡ none = rw f at e in let z : ◌≡◌ {A = ℕ} 0 1 = cc in absurd (omega arith))
    (λ f. let g = first_none (walk options (place_of (is_missing k m h) (erase u))) (walks options k (places_of k m (erase_in ks))) (rw f at e) in ((f, g.0), passed options k m ks g.1))

pub walk_below : (options : ℕ) (admits : Marks) (k : ℕ) (ps : Places) → is_container k ≡ true → (eqb k union_kind && dataless ps && enums_without_data_as_strings options) ≡ false
    → walk options (shown admits k ps) ≡ none → walks options k ps ≡ none
unfolding walk when◌then◌else◌
walk_below options admits k ps c d e =
    let l : sequence_kind ≤ k = leb-true sequence_kind k c in
    let e' = rw (ne_eqb k null (omega arith), d) at e in
    cases (eqb k union_kind && dataless ps && not (allow_null_fields options))
    (λ f. let g = rw f at e' in let z : ◌≡◌ {A = ℕ} 0 1 = cc in absurd (omega arith))
    (λ f. rw f at e')

module _ (P Q : Step → ℕ → ℕ → Spot → Type 0) where
  pub zip : (ks : Spots) → AllS P ks → AllS Q ks → AllS (λ s h x u. P s h x u × Q s h x u) ks
  zip no_spots a b = tt
  zip (child s h x u ks) a b = ((a.0, b.0), zip ks a.1 b.1)

  pub each : ((s : Step) (h x : ℕ) (u : Spot) → P s h x u → Q s h x u) → (ks : Spots) → AllS P ks → AllS Q ks
  each f no_spots a = tt
  each f (child s h x u ks) a = (f s h x u a.0, each f ks a.1)

pub resorted : (P : Step → ℕ → ℕ → Spot → Type 0) (k : ℕ) (ks : Spots) → AllS P (order_s false k ks) → AllS P (order_s true k ks)
unfolding order_s when◌then◌else◌
resorted P k ks a = cases (eqb k union_kind) (λ e. rw e (rw e at a)) (λ e. all_order P true k ks (rw e at a))

pub same_order : (k : ℕ) (ks : Spots) → eqb k union_kind ≡ true → order_s true k ks ≡ order_s false k ks
unfolding order_s when◌then◌else◌
same_order k ks e = rw e refl

no_variant : (s : Step) → is_variant s ≡ false → variant_of s ≡ 0
no_variant (field name) e = refl
no_variant element e = refl
no_variant (position i) e = refl
no_variant key e = refl
no_variant value e = refl
no_variant (variant number name) e = absurd (true≢false e)

-- numbers are below the limit
pub small : (k : ℕ) (s : Step) → (eqb k union_kind && leb slot_limit (variant_of s)) ≡ false → (eqb k union_kind ≡ false → is_variant s ≡ false) → variant_of s < 128
small k s f g =
    cases (eqb k union_kind)
    (λ e. let f' : leb slot_limit (variant_of s) ≡ false = rw e at f in leb-false slot_limit (variant_of s) f')
    (λ e. let z : variant_of s ≡ 0 = no_variant s (g e) in omega arith)
