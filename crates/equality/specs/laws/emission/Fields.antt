-- The field that is emitted for a place tells the place, up to the order that is not said; and places that agree so have one field.
use Rattle.std.specs.Prelude.{◌≡◌, refl, true, false, ◌||◌, List, ℕ, zero, suc, ◌+◌, ◌-◌, ◌<◌, eqb, ltb}
use Rattle.std.proofs.Common.{ap, ap₂, sym, ◌∙◌, arith, eqb-true, ne_eqb, ltb-true}
use Rattle.logic.specs.Test.{when◌then◌else◌}
use Rattle.logic.specs.laws.Test.{cases, both}
use Rattle.datatype.specs.Codes.{null, dictionary_utf8, dictionary_large_utf8, large_list, struct, no_strategy, tuple_as_struct, map_as_struct, unknown_variant}
use Rattle.options.specs.Word.{sequence_as_large_list, string_as_large_utf8, string_dictionary_encoding, string_type, binary_type, list_type, dictionary_type}
use Rattle.coerce.specs.Joint.{is_string}
use Rattle.model.specs.Result.{accepted}
use Rattle.model.specs.Kinds.{sequence_kind, struct_kind, map_kind, union_kind, tuple_kind, map_mode_kind, is_struct, variant_of}
use Rattle.model.specs.Tracing.{Marks, marks}
use Rattle.model.specs.Emission.{Place, shown, Places, none_below, below, Field, mk, Fields, no_fields, more, type_of, strategy_of, entries_name, name_of, gap, gaps, arranged, field_of, fields_of, root_fields, root_name}
use Rattle.equality.specs.laws.Base.{and_left, not_refused}
use Rattle.equality.specs.laws.Proper.{is_binary, type_fits, kind_fits, fits, fit_below}
use Rattle.equality.specs.laws.emission.InOrder.{Off, field_arranged, fit_more, plain_field, plain_fields, step_back_lem, step_back, wrapped}

-- ---- a kind, read back from a type and a strategy
unfoldable pub kind_back : ℕ → ℕ → ℕ → ℕ
kind_back options type strategy =
    when eqb strategy tuple_as_struct then tuple_kind
    else when eqb strategy map_as_struct then map_mode_kind
    else when eqb type large_list then sequence_kind
    else when eqb type dictionary_utf8 || eqb type dictionary_large_utf8 then string_type options
    else type

-- a type that is no container, nor a string under option 5, stands for itself
back_itself : (options kind : ℕ) → kind < dictionary_utf8 → kind_back options kind no_strategy ≡ kind
unfolding kind_back when◌then◌else◌
back_itself options kind h =
    rw (kind_back, ne_eqb kind large_list (omega arith), ne_eqb kind dictionary_utf8 (omega arith), ne_eqb kind dictionary_large_utf8 (omega arith))

back_string : (options : ℕ) → kind_back options (dictionary_type options) no_strategy ≡ string_type options
unfolding kind_back when◌then◌else◌
back_string options = cases (string_as_large_utf8 options) (λ e. rw e) (λ e. rw e)

back_list : (options : ℕ) → kind_back options (list_type options) no_strategy ≡ sequence_kind
unfolding kind_back when◌then◌else◌
back_list options = cases (sequence_as_large_list options) (λ e. rw e) (λ e. rw e)

type_back : (options kind : ℕ) → type_fits options kind ≡ true → kind_back options (type_of options kind) (strategy_of kind) ≡ kind
unfolding type_of strategy_of when◌then◌else◌
type_back options kind f =
    both (ltb kind dictionary_utf8) (when is_string kind then eqb kind (string_type options) else when is_binary kind then eqb kind (binary_type options) else true) f λ a b.
    let h : kind < dictionary_utf8 = ltb-true kind dictionary_utf8 a in
    rw (type_of, strategy_of, ne_eqb kind sequence_kind (omega arith), ne_eqb kind struct_kind (omega arith), ne_eqb kind map_mode_kind (omega arith), ne_eqb kind tuple_kind (omega arith))
    (cases (is_string kind) (λ s.
    let z : kind ≡ string_type options = eqb-true kind (string_type options) (rw s at b) in
    cases (string_dictionary_encoding options)
    (λ d. rw (s, d) (back_string options ∙ sym z))
    (λ d. rw (s, d) (back_itself options kind h)))
    (λ s. rw s (back_itself options kind h)))

pub kind_back_lem : (options kind : ℕ) → kind_fits options kind ≡ true → kind_back options (type_of options kind) (strategy_of kind) ≡ kind
unfolding type_of strategy_of kind_back when◌then◌else◌
kind_back_lem options kind f =
    cases (eqb kind sequence_kind) (λ e. rw (eqb-true kind sequence_kind e) (back_list options)) (λ a.
    cases (eqb kind struct_kind) (λ e. rw (eqb-true kind struct_kind e)) (λ b.
    cases (eqb kind map_kind) (λ e. rw (eqb-true kind map_kind e)) (λ c.
    cases (eqb kind union_kind) (λ e. rw (eqb-true kind union_kind e)) (λ d.
    cases (eqb kind tuple_kind) (λ e. rw (eqb-true kind tuple_kind e)) (λ t.
    cases (eqb kind map_mode_kind) (λ e. rw (eqb-true kind map_mode_kind e)) (λ m.
    type_back options kind (rw (a, b, c, d, t, m) at f)))))))

-- ---- the emission in order, read back
wrapped_injective : (kind : ℕ) (fs gs : Fields) → wrapped kind fs ≡ wrapped kind gs → fs ≡ gs
unfolding wrapped when◌then◌else◌
wrapped_injective kind fs gs e = cases (eqb kind map_kind) (λ h. unwrap (rw (wrapped, h) at e)) (λ h. rw (wrapped, h) at e)
  where
    unwrap : more (mk struct (marks false false) no_strategy 0 entries_name fs) no_fields ≡ more (mk struct (marks false false) no_strategy 0 entries_name gs) no_fields → fs ≡ gs
    unwrap q = cc

-- a field of a place that was seen is no empty slot
abbrev strategy_in : Field → ℕ
strategy_in (mk type m strategy number name fs) = strategy

seen_field : (options : ℕ) (x : List ℕ) (v : ℕ) (c : Place) → strategy_in (plain_field options x v c) < unknown_variant
unfolding plain_field strategy_of when◌then◌else◌
seen_field options x v (shown m kind ps) =
    cases (eqb kind tuple_kind) (λ e. rw (strategy_of, e) (omega arith))
    (λ e. cases (eqb kind map_mode_kind) (λ f. rw (strategy_of, e, f) (omega arith)) (λ f. rw (strategy_of, e, f) (omega arith)))

gaps_some : (slot n : ℕ) (f : Field) (fs : Fields) → gaps slot n (more f fs) ≡ no_fields → ⊥
unfolding gaps
gaps_some slot zero f fs e = let z : ◌≡◌ {A = ℕ} 0 1 = cc in omega arith
gaps_some slot (suc n) f fs e = let z : ◌≡◌ {A = ℕ} 0 1 = cc in omega arith

gaps_injective : (slot m n : ℕ) (f g : Field) (fs gs : Fields) → strategy_in f < unknown_variant → strategy_in g < unknown_variant →
    gaps slot m (more f fs) ≡ gaps slot n (more g gs) → (f ≡ g) × (fs ≡ gs)
unfolding gaps
gaps_injective slot zero zero f g fs gs p q e = (cc, cc)
gaps_injective slot zero (suc n) f g fs gs p q e = let w : f ≡ gap slot = cc in absurd (omega (arith, ap strategy_in w))
gaps_injective slot (suc m) zero f g fs gs p q e = let w : g ≡ gap slot = cc in absurd (omega (arith, ap strategy_in w))
gaps_injective slot (suc m) (suc n) f g fs gs p q e = gaps_injective (slot + 1) m n f g fs gs p q (cc)

mutual
  unfolding plain_field fits

  pub plain_same : (options : ℕ) (x y : List ℕ) (v w : ℕ) (c d : Place) → fits options c ≡ true → fits options d ≡ true →
      plain_field options x v c ≡ plain_field options y w d → (c ≡ d) × (x ≡ y) × (v ≡ w)
  plain_same options x y v w (shown a k ps) (shown b l qs) f g e =
      both (kind_fits options k) (fit_below options k 0 ps) f λ f0 f1.
      both (kind_fits options l) (fit_below options l 0 qs) g λ g0 g1.
      let τ : type_of options k ≡ type_of options l = cc in
      let σ : strategy_of k ≡ strategy_of l = cc in
      let h : k ≡ l = sym (kind_back_lem options k f0) ∙ ap₂ (kind_back options) τ σ ∙ kind_back_lem options l g0 in
      let n : a ≡ b = cc in
      let m : wrapped k (plain_fields options k 0 ps) ≡ wrapped l (plain_fields options l 0 qs) = cc in
      let r = plains_same options k 0 0 ps qs f1 (rw (← h) at g1) (wrapped_injective k _ _ (rw (← h) at m)) in
      (λ i. shown (n i) (h i) (r i), cc, cc)

  plains_same : (options kind slot i : ℕ) (ps qs : Places) → fit_below options kind i ps ≡ true → fit_below options kind i qs ≡ true →
      plain_fields options kind slot ps ≡ plain_fields options kind slot qs → ps ≡ qs
  plains_same options kind slot i none_below none_below f g e = refl
  plains_same options kind slot i none_below (below r q qs) f g e = absurd (gaps_some slot (when eqb kind union_kind then variant_of r - slot else 0) _ _ (sym e))
  plains_same options kind slot i (below s p ps) none_below f g e = absurd (gaps_some slot (when eqb kind union_kind then variant_of s - slot else 0) _ _ e)
  plains_same options kind slot i (below s p ps) (below r q qs) f g e =
      fit_more options kind i s p ps f λ f0 _ f2 f3.
      fit_more options kind i r q qs g λ g0 _ g2 g3.
      let u = gaps_injective slot (when eqb kind union_kind then variant_of s - slot else 0) (when eqb kind union_kind then variant_of r - slot else 0) _ _ _ _
      (seen_field options (name_of s) (variant_of s) p) (seen_field options (name_of r) (variant_of r) q) e in
      let a = plain_same options (name_of s) (name_of r) (variant_of s) (variant_of r) p q f2 g2 u.0 in
      let x : s ≡ r = sym (step_back_lem kind i s f0) ∙ ap₂ (step_back kind i) a.1 a.2 ∙ step_back_lem kind i r g0 in
      let t = plains_same options kind (variant_of s + 1) (suc i) ps qs f3 g3 (rw (← x) at u.1) in
      λ j. below (x j) (a.0 j) (t j)

-- ---- the root
abbrev pub kind_at : Place → ℕ
kind_at (shown m kind ps) = kind

abbrev pub marks_at : Place → Marks
marks_at (shown m kind ps) = m

-- the root's field where it is accepted
pub root_field : (end : ℕ) (type : ℕ) (m : Marks) (strategy number : ℕ) (name : List ℕ) (fs gs : Fields) →
    root_fields end (mk type m strategy number name fs) ≡ accepted gs → (m.null ≡ false) × (type ≡ struct) × (fs ≡ gs)
unfolding when◌then◌else◌
root_field end type m strategy number name fs gs e =
    cases m.null (λ n. not_refused (rw n at e)) (λ n.
    cases (eqb type null) (λ a. not_refused (rw (n, a) at e)) (λ a.
    cases (eqb type struct) (λ b. (n, eqb-true type struct b, given (rw (n, a, b) at e))) (λ b. not_refused (rw (n, a, b) at e))))
  where
    given : accepted fs ≡ accepted gs → fs ≡ gs
    given q = cc

-- a root that is accepted is a struct, in either mode, or a tuple
pub root_kind : (options end : ℕ) (c : Place) (fs : Fields) → Off options → fits options c ≡ true → root_fields end (field_of options root_name 0 c) ≡ accepted fs →
    (is_struct (kind_at c) || eqb (kind_at c) tuple_kind) ≡ true
unfolding fits strategy_of kind_back when◌then◌else◌
root_kind options end (shown m kind ps) fs o f e =
    let h = root_field end (type_of options kind) m (strategy_of kind) 0 root_name (arranged kind (fields_of options kind 0 ps)) fs (rw (field_arranged options root_name 0 m kind ps o) at e) in
    let k : kind_back options struct (strategy_of kind) ≡ kind =
    ap (λ (t : ℕ). kind_back options t (strategy_of kind)) (sym h.1) ∙ kind_back_lem options kind (and_left (kind_fits options kind) (fit_below options kind 0 ps) f) in
    cases (eqb kind tuple_kind) (λ a. rw (eqb-true kind tuple_kind a)) (λ a.
    cases (eqb kind map_mode_kind) (λ b. rw (eqb-true kind map_mode_kind b)) (λ b.
    let z : struct_kind ≡ kind = rw (strategy_of, a, b) at k in rw (← z)))

-- where the commands end does not matter to what is accepted
pub root_end : (end end' : ℕ) (f : Field) (fs : Fields) → root_fields end f ≡ accepted fs → root_fields end' f ≡ accepted fs
unfolding when◌then◌else◌
root_end end end' (mk type m strategy number name fs) gs e =
    let h = root_field end type m strategy number name fs gs e in rw (h.0, h.1, h.2)
