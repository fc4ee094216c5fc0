-- The field that is emitted for a place tells the place, up to the order that is not said; and places that agree so have one field. Both go
-- through the emission of a place that is in order already, which sorts nothing.
use Rattle.std.specs.Prelude.{◌≡◌, refl, Bool, true, false, not, ◌&&◌, ◌||◌, List, [], ◌∷◌, ℕ, suc, ◌+◌, ◌-◌, ◌≤◌, ◌<◌, eqb, ltb}
use Rattle.std.proofs.Common.{ap, ap₂, sym, ◌∙◌, true≢false, arith, eqb-true, ne_eqb, ltb-true, le-ltb}
use Rattle.std.proofs.lemmas.Bool.{false≢true}
use Rattle.logic.specs.Test.{when◌then◌else◌}
use Rattle.logic.specs.laws.Test.{cases, both, neither}
use Rattle.datatype.specs.Codes.{struct, no_strategy}
use Rattle.options.specs.Word.{enums_without_data_as_strings}
use Rattle.text.specs.Name.{lt_name}
use Rattle.model.specs.Kinds.{sequence_kind, struct_kind, map_kind, union_kind, tuple_kind, map_mode_kind, is_struct, Step, field, element, position, key, value, variant, same, variant_of}
use Rattle.model.specs.Tracing.{Marks, marks, has}
use Rattle.model.specs.Emission.{Place, shown, Places, none_below, below, dataless, Field, mk, Fields, no_fields, more, type_of, strategy_of, entries_name, name_of, name_in, insert_field, by_name, gaps, arranged, field_of, fields_of}
use Rattle.equality.specs.laws.Base.{and_left, and_right, and_both, not_is_true, same_sym}
use Rattle.equality.specs.laws.Proper.{step_fits, steps_below, fits, fit_below}
use Rattle.equality.specs.laws.emission.Canon.{insert_place, in_order, canons}
use Rattle.equality.specs.laws.reordering.Sorting.{precedes, leads, ordered, under, rising, has_insert, has_set, steps_insert, steps_in_order, in_order_already}

-- ---- the premise on unions: the numbers of their variants rise, as `by_number` leaves them where no two are the same
unfoldable mutual
  pub ascends : Place → Bool
  ascends (shown m kind ps) = (not (eqb kind union_kind) || rising (steps_below ps)) && ascend_below ps

  pub ascend_below : Places → Bool
  ascend_below none_below = true
  ascend_below (below s p ps) = ascends p && ascend_below ps

-- ---- the emission of a place in order
-- a map's key and value stand in its entries
unfoldable pub wrapped : ℕ → Fields → Fields
wrapped kind fs = when eqb kind map_kind then more (mk struct (marks false false) no_strategy 0 entries_name fs) no_fields else fs

unfoldable mutual
  pub plain_field : ℕ → List ℕ → ℕ → Place → Field
  plain_field options name number (shown m kind ps) = mk (type_of options kind) m (strategy_of kind) number name (wrapped kind (plain_fields options kind 0 ps))

  pub plain_fields : ℕ → ℕ → ℕ → Places → Fields
  plain_fields options kind slot none_below = no_fields
  plain_fields options kind slot (below s p ps) =
      gaps slot (when eqb kind union_kind then variant_of s - slot else 0)
      (more (plain_field options (name_of s) (variant_of s) p) (plain_fields options kind (variant_of s + 1) ps))

-- ---- what a place that fits says of the places below
pub fit_more : {P : Type 0} (options kind i : ℕ) (s : Step) (p : Place) (ps : Places) → fit_below options kind i (below s p ps) ≡ true →
    (step_fits kind i s ≡ true → has s (steps_below ps) ≡ false → fits options p ≡ true → fit_below options kind (suc i) ps ≡ true → P) → P
unfolding fit_below
fit_more options kind i s p ps f k =
    both (step_fits kind i s && not (has s (steps_below ps))) (fits options p && fit_below options kind (suc i) ps) f λ a b.
    both (step_fits kind i s) (not (has s (steps_below ps))) a λ c d.
    both (fits options p) (fit_below options kind (suc i) ps) b λ g h.
    k c (not_is_true (has s (steps_below ps)) d) g h

pub more_fits : (options kind i : ℕ) (s : Step) (p : Place) (ps : Places) → step_fits kind i s ≡ true → has s (steps_below ps) ≡ false → fits options p ≡ true →
    fit_below options kind (suc i) ps ≡ true → fit_below options kind i (below s p ps) ≡ true
unfolding fit_below
more_fits options kind i s p ps a b c d = rw (a, b, c, d)

-- the step to a container's field number i, by its name and variant number
unfoldable pub step_back : ℕ → ℕ → List ℕ → ℕ → Step
step_back kind i name number =
    when eqb kind sequence_kind then element
    else when eqb kind map_kind then (when eqb i 0 then key else value)
    else when eqb kind tuple_kind then position i
    else when eqb kind union_kind then variant number name
    else field name

-- the kinds of a struct are no other container's
pub struct_other : (kind other : ℕ) → is_struct kind ≡ true → is_struct other ≡ false → eqb kind other ≡ false
struct_other kind other h k = cases (eqb kind other) (λ e. absurd (true≢false (sym h ∙ (rw (eqb-true kind other e) k)))) (λ e. e)

pub step_back_lem : (kind i : ℕ) (s : Step) → step_fits kind i s ≡ true → step_back kind i (name_of s) (variant_of s) ≡ s
unfolding step_back when◌then◌else◌
step_back_lem kind i (field name) h =
    rw (step_back, struct_other kind sequence_kind h refl, struct_other kind map_kind h refl, struct_other kind tuple_kind h refl, struct_other kind union_kind h refl)
step_back_lem kind i element h = rw (step_back, and_left (eqb kind sequence_kind) (eqb i 0) h)
step_back_lem kind i (position j) h =
    both (eqb kind tuple_kind) (eqb j i) h λ a b. rw (eqb-true kind tuple_kind a, eqb-true j i b)
step_back_lem kind i key h = both (eqb kind map_kind) (eqb i 0) h λ a b. rw (eqb-true kind map_kind a, eqb-true i 0 b)
step_back_lem kind i value h = both (eqb kind map_kind) (eqb i 1) h λ a b. rw (eqb-true kind map_kind a, eqb-true i 1 b)
step_back_lem kind i (variant number name) h = rw (eqb-true kind union_kind h)

-- ---- of any container but a struct the places below are in order already
after_position : (i : ℕ) → precedes (position (suc i)) (position i) ≡ false
unfolding lt_name
after_position i = let h : i ≤ suc i = omega arith in rw (le-ltb (suc i) i h, ne_eqb (suc i) i (omega arith))

after_variant : (m n : ℕ) (x y : List ℕ) → m < n → precedes (variant n y) (variant m x) ≡ false
unfolding lt_name
after_variant m n x y h = let g : m ≤ n = omega arith in rw (le-ltb n m g, ne_eqb n m (omega arith))

in_step : (kind i : ℕ) (s r : Step) → is_struct kind ≡ false → step_fits kind i s ≡ true → step_fits kind (suc i) r ≡ true →
    (eqb kind union_kind ≡ true → ltb (variant_of s) (variant_of r) ≡ true) → precedes r s ≡ false
unfolding step_back lt_name when◌then◌else◌
in_step kind i s r n f g u = go (step_back_lem kind i s f) (step_back_lem kind (suc i) r g)
  where
    by : (a b : Step) → a ≡ s → b ≡ r → precedes b a ≡ false → precedes r s ≡ false
    by a b p q h = ap₂ precedes (sym q) (sym p) ∙ h

    go : step_back kind i (name_of s) (variant_of s) ≡ s → step_back kind (suc i) (name_of r) (variant_of r) ≡ r → precedes r s ≡ false
    go p q =
        cases (eqb kind sequence_kind) (λ a. by element element (rw (step_back, a) at p) (rw (step_back, a) at q) refl) (λ a.
        cases (eqb kind map_kind)
        (λ b.
        let v : value ≡ r = rw (step_back, a, b, ne_eqb (suc i) 0 (omega arith)) at q in
        cases (eqb i 0) (λ z. by key value (rw (step_back, a, b, z) at p) v refl) (λ z. by value value (rw (step_back, a, b, z) at p) v refl)) (λ b.
        cases (eqb kind tuple_kind) (λ c. by (position i) (position (suc i)) (rw (step_back, a, b, c) at p) (rw (step_back, a, b, c) at q) (after_position i)) (λ c.
        cases (eqb kind union_kind)
        (λ d. by (variant (variant_of s) (name_of s)) (variant (variant_of r) (name_of r)) (rw (step_back, a, b, c, d) at p) (rw (step_back, a, b, c, d) at q)
        (after_variant (variant_of s) (variant_of r) (name_of s) (name_of r) (ltb-true (variant_of s) (variant_of r) (u d))))
        (λ d.
        let z : field (name_of s) ≡ s = rw (step_back, a, b, c, d) at p in
        absurd (false≢true (sym n ∙ ap (step_fits kind i) z ∙ f))))))

first_fits : (options kind i : ℕ) (s : Step) (ps : Places) → is_struct kind ≡ false → step_fits kind i s ≡ true → fit_below options kind (suc i) ps ≡ true →
    (eqb kind union_kind ≡ true → under (variant_of s) (steps_below ps) ≡ true) → leads s (steps_below ps) ≡ true
unfolding steps_below leads under
first_fits options kind i s none_below n f g u = refl
first_fits options kind i s (below r q ps) n f g u = fit_more options kind (suc i) r q ps g λ a _ _ _. ap not (in_step kind i s r n f a u)

ordered_fits : (options kind i : ℕ) (ps : Places) → is_struct kind ≡ false → fit_below options kind i ps ≡ true →
    (eqb kind union_kind ≡ true → rising (steps_below ps) ≡ true) → ordered (steps_below ps) ≡ true
unfolding steps_below ordered rising
ordered_fits options kind i none_below n f u = refl
ordered_fits options kind i (below s p ps) n f u =
    fit_more options kind i s p ps f λ a _ _ d.
    and_both (first_fits options kind i s ps n a d (λ e. and_left (under (variant_of s) (steps_below ps)) (rising (steps_below ps)) (u e)))
    (ordered_fits options kind (suc i) ps n d (λ e. and_right (under (variant_of s) (steps_below ps)) (rising (steps_below ps)) (u e)))

-- ---- of a struct, in either mode, they are its named fields, in whatever order
abbrev pub Named : List Step → Type 0
Named [] = Unit {0}
Named (s ∷ ss) = (s ≡ field (name_of s)) × Named ss

pub is_field_lem : (kind i : ℕ) (s : Step) → is_struct kind ≡ true → step_fits kind i s ≡ true → s ≡ field (name_of s)
unfolding step_back when◌then◌else◌
is_field_lem kind i s h f =
    sym (step_back_lem kind i s f)
    ∙ rw (step_back, struct_other kind sequence_kind h refl, struct_other kind map_kind h refl, struct_other kind tuple_kind h refl, struct_other kind union_kind h refl)

pub named_fits : (options kind i : ℕ) (ps : Places) → is_struct kind ≡ true → fit_below options kind i ps ≡ true → Named (steps_below ps)
unfolding steps_below
named_fits options kind i none_below h f = tt
named_fits options kind i (below s p ps) h f = fit_more options kind i s p ps f λ a _ _ d. (is_field_lem kind i s h a, named_fits options kind (suc i) ps h d)

named_insert : (s : Step) (p : Place) (ps : Places) → s ≡ field (name_of s) → Named (steps_below ps) → Named (steps_below (insert_place s p ps))
unfolding steps_below insert_place when◌then◌else◌
named_insert s p none_below e n = (e, tt)
named_insert s p (below r q ps) e n = cases (precedes r s) (λ h. rw (h, steps_below) (n.0, named_insert s p ps e n.1)) (λ h. rw (h, steps_below) (e, n))

named_in_order : (ps : Places) → Named (steps_below ps) → Named (steps_below (in_order ps))
unfolding steps_below in_order
named_in_order none_below n = tt
named_in_order (below s p ps) n = named_insert s p (in_order ps) n.0 (named_in_order ps n.1)

-- fields in order of their steps are in order of their names
precedes_named : (r s : Step) → r ≡ field (name_of r) → s ≡ field (name_of s) → precedes r s ≡ lt_name (name_of r) (name_of s)
unfolding lt_name
precedes_named r s p q = ap₂ precedes p q

name_plain : (options : ℕ) (x : List ℕ) (v : ℕ) (p : Place) → name_in (plain_field options x v p) ≡ x
unfolding plain_field
name_plain options x v (shown m kind ps) = refl

plain_slot : (options kind m n : ℕ) (ps : Places) → eqb kind union_kind ≡ false → plain_fields options kind m ps ≡ plain_fields options kind n ps
unfolding plain_fields gaps when◌then◌else◌
plain_slot options kind m n none_below e = refl
plain_slot options kind m n (below s p ps) e = rw (plain_fields, e)

plain_more : (options kind slot : ℕ) (s : Step) (p : Place) (ps : Places) → eqb kind union_kind ≡ false →
    plain_fields options kind slot (below s p ps) ≡ more (plain_field options (name_of s) (variant_of s) p) (plain_fields options kind 0 ps)
unfolding plain_fields gaps when◌then◌else◌
plain_more options kind slot s p ps e = rw (plain_fields, e) (ap (more (plain_field options (name_of s) (variant_of s) p)) (plain_slot options kind (variant_of s + 1) 0 ps e))

insert_plain : (options kind : ℕ) (s : Step) (p : Place) (ps : Places) → eqb kind union_kind ≡ false → s ≡ field (name_of s) → Named (steps_below ps) →
    insert_field (plain_field options (name_of s) (variant_of s) p) (plain_fields options kind 0 ps) ≡ plain_fields options kind 0 (insert_place s p ps)
unfolding plain_fields insert_field insert_place steps_below when◌then◌else◌
insert_plain options kind s p none_below e n h = sym (plain_more options kind 0 s p none_below e)
insert_plain options kind s p (below r q ps) e n h =
    rw (
      plain_more options kind 0 r q ps e,
      insert_field,
      name_plain options (name_of r) (variant_of r) q,
      name_plain options (name_of s) (variant_of s) p,
      ← precedes_named r s h.0 n,
      insert_place,
    )
    (cases (precedes r s)
    (λ k. rw k (ap (more (plain_field options (name_of r) (variant_of r) q)) (insert_plain options kind s p ps e n h.1) ∙ sym (plain_more options kind 0 r q (insert_place s p ps) e)))
    (λ k. rw k (sym (plain_more options kind 0 s p (below r q ps) e ∙ ap (more (plain_field options (name_of s) (variant_of s) p)) (plain_more options kind 0 r q ps e)))))

-- sorting and emitting may be done in either order
pub by_name_plain : (options kind : ℕ) (ps : Places) → eqb kind union_kind ≡ false → Named (steps_below ps) → by_name (plain_fields options kind 0 ps) ≡ plain_fields options kind 0 (in_order ps)
unfolding plain_fields by_name in_order steps_below
by_name_plain options kind none_below e h = refl
by_name_plain options kind (below s p ps) e h =
    ap by_name (plain_more options kind 0 s p ps e)
    ∙ ap (insert_field (plain_field options (name_of s) (variant_of s) p)) (by_name_plain options kind ps e h.1)
    ∙ insert_plain options kind s p (in_order ps) e h.0 (named_in_order ps h.1)

-- ---- a place is emitted as its canon is in order
pub steps_canons : (ps : Places) → steps_below (canons ps) ≡ steps_below ps
unfolding canons steps_below
steps_canons none_below = refl
steps_canons (below s p ps) = ap (λ (ss : List Step). s ∷ ss) (steps_canons ps)

rising_union : (kind : ℕ) (ps : Places) → (not (eqb kind union_kind) || rising (steps_below ps)) ≡ true → eqb kind union_kind ≡ true → rising (steps_below ps) ≡ true
rising_union kind ps h e = rw e at h

-- of any container but a struct
pub order_fits : (options kind : ℕ) (ps qs : Places) → steps_below qs ≡ steps_below ps → is_struct kind ≡ false → fit_below options kind 0 ps ≡ true →
    (not (eqb kind union_kind) || rising (steps_below ps)) ≡ true → in_order qs ≡ qs
order_fits options kind ps qs e n f u = in_order_already qs (rw e (ordered_fits options kind 0 ps n f (rising_union kind ps u)))

pub canons_in_order : (options kind : ℕ) (ps : Places) → is_struct kind ≡ false → fit_below options kind 0 ps ≡ true →
    (not (eqb kind union_kind) || rising (steps_below ps)) ≡ true → in_order (canons ps) ≡ canons ps
canons_in_order options kind ps = order_fits options kind ps (canons ps) (steps_canons ps)

pub arranged_plain : (options kind : ℕ) (ps : Places) → fit_below options kind 0 ps ≡ true → (not (eqb kind union_kind) || rising (steps_below ps)) ≡ true →
    arranged kind (plain_fields options kind 0 (canons ps)) ≡ wrapped kind (plain_fields options kind 0 (when eqb kind struct_kind then canons ps else in_order (canons ps)))
unfolding arranged wrapped when◌then◌else◌
arranged_plain options kind ps f u =
    cases (eqb kind struct_kind) (λ a. rw (eqb-true kind struct_kind a)) (λ a.
    cases (eqb kind map_mode_kind)
    (λ b.
    let z : kind ≡ map_mode_kind = eqb-true kind map_mode_kind b in
    let n : Named (steps_below (canons ps)) = rw (steps_canons ps) (named_fits options map_mode_kind 0 ps refl (rw z at f)) in
    rw (a, z) (by_name_plain options map_mode_kind (canons ps) refl n))
    (λ b. rw (arranged, a, b, canons_in_order options kind ps (rw (a, b)) f u)))

-- option 9 is off: no union is emitted as a dictionary
abbrev pub Off : ℕ → Type 0
Off options = enums_without_data_as_strings options ≡ false

and_off : (s t : Bool) → t ≡ false → (s && t) ≡ false
and_off true t e = e
and_off false t e = refl

-- with option 9 off
pub field_arranged : (options : ℕ) (x : List ℕ) (v : ℕ) (m : Marks) (kind : ℕ) (ps : Places) → Off options →
    field_of options x v (shown m kind ps) ≡ mk (type_of options kind) m (strategy_of kind) v x (arranged kind (fields_of options kind 0 ps))
unfolding field_of when◌then◌else◌
field_arranged options x v m kind ps o = rw (field_of, and_off (eqb kind union_kind && dataless ps) (enums_without_data_as_strings options) o)

-- ---- the canon of a place that fits does so too
-- a step to one of the places below a struct, or a union, fits at any of them
abbrev pub Loose : ℕ → Type 0
Loose kind = (i j : ℕ) (s : Step) → step_fits kind i s ≡ true → step_fits kind j s ≡ true

pub struct_loose : (kind : ℕ) → is_struct kind ≡ true → Loose kind
struct_loose kind h i j s f = rw (is_field_lem kind i s h f) h

pub fit_anywhere : (options kind i j : ℕ) (ps : Places) → Loose kind → fit_below options kind i ps ≡ true → fit_below options kind j ps ≡ true
unfolding fit_below
fit_anywhere options kind i j none_below l f = refl
fit_anywhere options kind i j (below s p ps) l f =
    fit_more options kind i s p ps f λ a b c d. more_fits options kind j s p ps (l i j s a) b c (fit_anywhere options kind (suc i) (suc j) ps l d)

fit_insert : (options kind i : ℕ) (s : Step) (p : Place) (ps : Places) → Loose kind → step_fits kind i s ≡ true → has s (steps_below ps) ≡ false → fits options p ≡ true →
    fit_below options kind i ps ≡ true → fit_below options kind i (insert_place s p ps) ≡ true
unfolding insert_place fit_below steps_below has when◌then◌else◌
fit_insert options kind i s p none_below l a b c f = more_fits options kind i s p none_below a refl c f
fit_insert options kind i s p (below r q ps) l a b c f =
    cases (precedes r s)
    (λ e. rw e (
    fit_more options kind i r q ps f λ a1 b1 c1 f1.
    neither (same s r) (has s (steps_below ps)) b λ b2 b3.
    let g : has r (steps_below (insert_place s p ps)) ≡ false = rw (steps_insert s p ps, has_insert r s (steps_below ps), same_sym r s, b2) b1 in
    more_fits options kind i r q (insert_place s p ps) a1 g c1 (fit_insert options kind (suc i) s p ps l (l i (suc i) s a) b3 c f1)))
    (λ e. rw e (more_fits options kind i s p (below r q ps) a b c (fit_anywhere options kind i (suc i) (below r q ps) l f)))

pub fit_in_order : (options kind i : ℕ) (ps : Places) → Loose kind → fit_below options kind i ps ≡ true → fit_below options kind i (in_order ps) ≡ true
unfolding in_order
fit_in_order options kind i none_below l f = f
fit_in_order options kind i (below s p ps) l f =
    fit_more options kind i s p ps f λ a b c d.
    fit_insert options kind i s p (in_order ps) l a (rw (steps_in_order ps) (has_set s (steps_below ps) ∙ b)) c
    (fit_in_order options kind i ps l (fit_anywhere options kind (suc i) i ps l d))
