-- What rests on the order that a canon has: what it says is distinct, it fits, and fields are equal exactly where canons are.
use Rattle.equality.specs.laws.census.View.{view_census, Distinct, census_distinct}
use Rattle.equality.specs.laws.emission.InOrder.{ascends, ascend_below, plain_field, plain_fields, fit_more, more_fits, steps_canons, canons_in_order, arranged_plain, Off, field_arranged, struct_loose, fit_in_order}
use Rattle.equality.specs.laws.emission.Fields.{plain_same, kind_at, marks_at, root_field, root_end}
use Rattle.std.specs.Prelude.{◌≡◌, refl, true, false, not, ◌||◌, List, ℕ, suc, ◌+◌, ◌-◌, eqb}
use Rattle.std.proofs.Common.{ap, ap₂, sym, ◌∙◌, arith}
use Rattle.logic.specs.Test.{when◌then◌else◌}
use Rattle.logic.specs.laws.Test.{cases, both}
use Rattle.options.specs.Word.{allow_to_string}
use Rattle.model.specs.Kinds.{struct_kind, union_kind, is_struct, variant_of}
use Rattle.model.specs.Tracing.{marks, Tree, fresh}
use Rattle.model.specs.Emission.{Place, shown, Places, none_below, below, mk, Fields, more, type_of, strategy_of, name_of, gaps, arranged, field_of, fields_of, root_fields, root_name, place_of}
use Rattle.equality.specs.laws.Base.{and_both}
use Rattle.equality.specs.laws.Proper.{kind_fits, steps_below, fits, fit_below, all_proper}
use Rattle.equality.specs.laws.emission.Canon.{canon, canons}
use Rattle.equality.specs.laws.reordering.Sorting.{rising}
use Rattle.model.specs.Result.{accepted}
use Rattle.model.specs.Reading.{Value}
use Rattle.model.specs.Unbounded.{see_all}

-- nothing is said twice below a canon
pub distinct_canon : (o : ℕ) → allow_to_string o ≡ false → (d : ℕ) (vs : List Value) (t : Tree) → all_proper o vs ≡ true → see_all o d vs fresh ≡ accepted t → Distinct (canon (place_of false t))
unfolding Distinct
distinct_canon o f d vs t p e steps i h = census_distinct o steps false vs i (sym (view_census o f d steps false vs t p e) ∙ h)

-- ---- with option 9 off
mutual
  unfolding field_of plain_field canon fits ascends

  -- the field of a place is its canon's, emitted in order
  pub field_plain : (options : ℕ) (x : List ℕ) (v : ℕ) (c : Place) → Off options → fits options c ≡ true → ascends c ≡ true → field_of options x v c ≡ plain_field options x v (canon c)
  field_plain options x v (shown m kind ps) o f u =
      both (kind_fits options kind) (fit_below options kind 0 ps) f λ _ g.
      both (not (eqb kind union_kind) || rising (steps_below ps)) (ascend_below ps) u λ a b.
      field_arranged options x v m kind ps o
      ∙ ap (mk (type_of options kind) m (strategy_of kind) v x) (ap (arranged kind) (fields_plain options kind 0 0 ps o g b) ∙ arranged_plain options kind ps g a)

  fields_plain : (options kind slot i : ℕ) (ps : Places) → Off options → fit_below options kind i ps ≡ true → ascend_below ps ≡ true →
      fields_of options kind slot ps ≡ plain_fields options kind slot (canons ps)
  fields_plain options kind slot i none_below o f u = refl
  fields_plain options kind slot i (below s p ps) o f u =
      fit_more options kind i s p ps f λ _ _ g h.
      both (ascends p) (ascend_below ps) u λ a b.
      ap (gaps slot (when eqb kind union_kind then variant_of s - slot else 0))
      (ap₂ more (field_plain options (name_of s) (variant_of s) p o g a) (fields_plain options kind (variant_of s + 1) (suc i) ps o h b))

-- ---- the canon of a place that fits does so too
mutual
  unfolding canon fits ascends when◌then◌else◌

  pub fits_canon : (options : ℕ) (c : Place) → fits options c ≡ true → ascends c ≡ true → fits options (canon c) ≡ true
  fits_canon options (shown m kind ps) f u =
      both (kind_fits options kind) (fit_below options kind 0 ps) f λ h g.
      both (not (eqb kind union_kind) || rising (steps_below ps)) (ascend_below ps) u λ a b.
      let k = fits_canons options kind 0 ps g b in
      and_both h (cases (eqb kind struct_kind) (λ e. rw e k) (λ e. rw e (
      cases (is_struct kind) (λ n. fit_in_order options kind 0 (canons ps) (struct_loose kind n) k) (λ n. rw (canons_in_order options kind ps n g a) k))))

  fits_canons : (options kind i : ℕ) (ps : Places) → fit_below options kind i ps ≡ true → ascend_below ps ≡ true → fit_below options kind i (canons ps) ≡ true
  fits_canons options kind i none_below f u = refl
  fits_canons options kind i (below s p ps) f u =
      fit_more options kind i s p ps f λ a b c d.
      both (ascends p) (ascend_below ps) u λ v w.
      more_fits options kind i s (canon p) (canons ps) a (rw (steps_canons ps) b) (fits_canon options p c v) (fits_canons options kind (suc i) ps d w)

-- ---- the field that is emitted for a place
-- equal fields are those of places with one canon, one name and one number
pub same_field : (options : ℕ) (x y : List ℕ) (v w : ℕ) (c d : Place) → Off options → fits options c ≡ true → fits options d ≡ true → ascends c ≡ true → ascends d ≡ true →
    field_of options x v c ≡ field_of options y w d → (canon c ≡ canon d) × (x ≡ y) × (v ≡ w)
same_field options x y v w c d o f g a b e =
    plain_same options x y v w (canon c) (canon d) (fits_canon options c f a) (fits_canon options d g b)
    (sym (field_plain options x v c o f a) ∙ e ∙ field_plain options y w d o g b)

-- places with one canon have one field
pub same_canon : (options : ℕ) (x : List ℕ) (v : ℕ) (c d : Place) → Off options → fits options c ≡ true → fits options d ≡ true → ascends c ≡ true → ascends d ≡ true →
    canon c ≡ canon d → field_of options x v c ≡ field_of options x v d
same_canon options x v c d o f g a b e = field_plain options x v c o f a ∙ ap (plain_field options x v) e ∙ sym (field_plain options x v d o g b)

-- ---- the root
-- equal schemas of two roots of one kind, widened alike, are those of roots with one canon
pub same_root : (options end end' : ℕ) (c d : Place) (fs : Fields) → Off options → fits options c ≡ true → fits options d ≡ true → ascends c ≡ true → ascends d ≡ true →
    kind_at c ≡ kind_at d → (marks_at c).widened ≡ (marks_at d).widened →
    root_fields end (field_of options root_name 0 c) ≡ accepted fs → root_fields end' (field_of options root_name 0 d) ≡ accepted fs → canon c ≡ canon d
same_root options end end' (shown a k ps) (shown b l qs) fs o f g u w z m e h =
    let p = root_field end (type_of options k) a (strategy_of k) 0 root_name (arranged k (fields_of options k 0 ps)) fs (rw (field_arranged options root_name 0 a k ps o) at e) in
    let q = root_field end' (type_of options l) b (strategy_of l) 0 root_name (arranged l (fields_of options l 0 qs)) fs (rw (field_arranged options root_name 0 b l qs o) at h) in
    let t : field_of options root_name 0 (shown a k ps) ≡ field_of options root_name 0 (shown b l qs) =
    grind (arith, p, q, z, ap₂ marks (p.0 ∙ sym q.0) m, field_arranged options root_name 0 a k ps o, field_arranged options root_name 0 b l qs o) in
    (same_field options root_name root_name 0 0 (shown a k ps) (shown b l qs) o f g u w t).0

-- roots with one canon have one schema
pub root_canon : (options end end' : ℕ) (c d : Place) (fs : Fields) → Off options → fits options c ≡ true → fits options d ≡ true → ascends c ≡ true → ascends d ≡ true →
    canon c ≡ canon d → root_fields end (field_of options root_name 0 c) ≡ accepted fs → root_fields end' (field_of options root_name 0 d) ≡ accepted fs
root_canon options end end' c d fs o f g u w z e =
    root_end end end' (field_of options root_name 0 d) fs (ap (root_fields end) (sym (same_canon options root_name 0 c d o f g u w z)) ∙ e)
