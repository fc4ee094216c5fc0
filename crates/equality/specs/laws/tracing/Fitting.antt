-- The places that proper values leave fit: their kinds are those of the options, the steps below each stand in the order of its container,
-- none twice, and the variants of every union rise by number.
use Rattle.std.proofs.Math.Path.{◌≡◌}
use Rattle.std.specs.Prelude.{refl, Bool, true, false, not, ◌&&◌, ◌||◌, List, [], ◌∷◌, ℕ, suc, ◌+◌, eqb, ltb}
use Rattle.std.proofs.Common.{ap, sym, ◌∙◌, true≢false, arith, eqb-true}
use Rattle.std.proofs.lemmas.Bool.{false≢true}
use Rattle.std.proofs.Math.Option.{none, some}
use Rattle.logic.specs.Test.{when◌then◌else◌}
use Rattle.logic.specs.laws.Test.{if_passed, if_failed, cases, both, neither}
use Rattle.datatype.specs.Codes.{null}
use Rattle.options.specs.Word.{string_as_large_utf8, string_type}
use Rattle.coerce.specs.Joint.{joint}
use Rattle.coerce.specs.laws.Joined.{joint_among}
use Rattle.model.specs.Result.{accepted}
use Rattle.model.specs.Kinds.{union_kind, is_container, is_struct, Step, field, element, position, key, value, variant, same, variant_of, is_variant}
use Rattle.model.specs.Reading.{Value, val, cut, Parts}
use Rattle.model.specs.Tracing.{Marks, marks, Tree, node, Kids, no_kids, kid, kind_of, kids_of, fresh, same_container, steps_of, has, kid_at, dots_of}
use Rattle.model.specs.Emission.{Place, shown, Places, none_below, below, insert_variant, by_number, is_missing, place_of, places_of}
use Rattle.model.specs.Census.{fixed_steps, steps_in, sights}
use Rattle.model.specs.Census as Census
use Rattle.equality.specs.laws.Base.{bind_ok, and_both, or_cases, not_is_true, same_true, same_refl}
use Rattle.model.specs.Unbounded.{see, see_all}
use Rattle.equality.specs.laws.Proper.{kind_fits, step_fits, is_proper, are_proper, all_proper, steps_below, fits, fit_below}
use Rattle.equality.specs.laws.census.Standing.{met, no_cut}
use Rattle.equality.specs.laws.tracing.Place.{or_true, value_steps, below_proper, together, meet_together}
use Rattle.equality.specs.laws.reordering.Sorting.{distinct, distinct_by_number, rising, rising_by_number, numbers_apart, all_variants, own_number}
use Rattle.equality.specs.laws.tracing.Acceptance.{Clear, clear_all, unclashing}
use Rattle.equality.specs.laws.emission.InOrder.{ascends, ascend_below}
use Rattle.equality.specs.laws.census.View.{steps_places, distinct_seen, kid_fresh, steps_fresh}
use Rattle.equality.specs.laws.tracing.Steps.{fixed_fit, no_steps, other_mode, parts_fit, room_first, shows_none, steps_fit}

-- ---- a place that a value meets fits afterwards
abbrev Fit : ℕ → ℕ → List Step → Type 0
Fit o k ss = (kind_fits o k ≡ true) × (steps_fit k 0 ss ≡ true)

string_fits : (o : ℕ) → kind_fits o (string_type o) ≡ true
unfolding when◌then◌else◌
string_fits o = cases (string_as_large_utf8 o) (λ e. rw e) (λ e. rw e)

joint_fits : (o k h j : ℕ) → kind_fits o k ≡ true → kind_fits o h ≡ true → joint o k h ≡ some j → kind_fits o j ≡ true
unfolding when◌then◌else◌
joint_fits o k h j p q = joint_among (λ u. kind_fits o u ≡ true) o k h j p q refl refl refl (string_fits o)

module _ (o k h j n : ℕ) (ps : Parts) (ss : List Step) (p : kind_fits o h ≡ true) (q : are_proper o h n 0 ps ≡ true) (g : Fit o k ss) where
  abbrev after : List Step
  after = sights (steps_in ps) (sights (fixed_steps h) ss)

  shown_fit : steps_fit h 0 ss ≡ true → steps_fit h 0 after ≡ true
  shown_fit f = parts_fit o h n 0 ps (sights (fixed_steps h) ss) q (room_first h ss) (fixed_fit h ss f)

  types_fit : is_container k ≡ false → is_container h ≡ false → joint o k h ≡ some j → Fit o j after
  unfolding steps_fit
  types_fit a b e = (joint_fits o k h j g.0 p e, rw (shows_none o h n ps ss b q, no_steps k 0 ss a g.1))

  same_fit : same_container k h ≡ true → steps_fit k 0 after ≡ true
  same_fit e =
      or_cases (eqb k h) (is_struct k && is_struct h) e
      (λ a. let z : k ≡ h = eqb-true k h a in rw z (shown_fit (rw z at g.1)))
      (λ a. both (is_struct k) (is_struct h) a λ b c. other_mode h k 0 after c b (shown_fit (other_mode k h 0 ss b c g.1)))

  meets_fit : together o k h ≡ some j → Fit o j after
  unfolding together steps_fit when◌then◌else◌
  meets_fit e =
      cases (not (is_container k || is_container h))
      (λ a. neither (is_container k) (is_container h) (not_is_true _ a) λ b c. types_fit b c (rw a at e)) λ a.
      cases (eqb h null)
      (λ b.
      let z : some k ≡ some j = rw (a, b) at e in
      let y : k ≡ j = cc in
      rw (← y, shows_none o h n ps ss (ap is_container (eqb-true h null b)) q) g) λ b.
      cases (eqb k null)
      (λ c.
      let z : some h ≡ some j = rw (a, b, c) at e in
      let y : h ≡ j = cc in
      rw (← y) (p, shown_fit (rw (no_steps k 0 ss (ap is_container (eqb-true k null c)) g.1)))) λ c.
      cases (same_container k h)
      (λ d.
      let z : some k ≡ some j = rw (a, b, c, d) at e in
      let y : k ≡ j = cc in
      rw (← y) (g.0, same_fit d))
      (λ d. absurd (let z : none ≡ some j = rw (a, b, c, d) at e in let y : ◌≡◌ {A = ℕ} 0 1 = cc in omega arith))

-- what values leave of a place that fits, fits
all_fit : (o d : ℕ) (vs : List Value) (t t' : Tree) → see_all o d vs t ≡ accepted t' → all_proper o vs ≡ true → Fit o (kind_of t) (steps_of (kids_of t)) → Fit o (kind_of t') (steps_of (kids_of t'))
unfolding see_all all_proper is_proper
all_fit o d [] t t' e p g = let h : t ≡ t' = cc in rw (← h) g
all_fit o d (val at b k n ps ∷ vs) t t' e p g =
    bind_ok (see o d (val at b k n ps) t) _ t' e λ u e₁ e₂.
    both (is_proper o (val at b k n ps)) (all_proper o vs) p λ q r.
    both (kind_fits o k) (are_proper o k n 0 ps) q λ x y.
    let m = meet_together o d at (kind_of t) k (kind_of u) (met o d at b k n ps t u e₁).kind in
    all_fit o d vs u t' e₂ r (rw (value_steps o d (val at b k n ps) t u e₁ q) (meets_fit o (kind_of t) k (kind_of u) n ps (steps_of (kids_of t)) x y g m))
all_fit o d (cut n at ∷ vs) t t' e p g = bind_ok (see o d (cut n at) t) _ t' e λ u e₁ _. no_cut o d n at t u e₁

-- ---- what fits and rises, place by place
abbrev Sound : ℕ → Place → Type 0
Sound o p = (fits o p ≡ true) × (ascends p ≡ true)

abbrev Each : (Place → Type 0) → Places → Type 0
Each P none_below = Unit {0}
Each P (below s p ps) = P p × Each P ps

each_insert : (P : Place → Type 0) (s : Step) (p : Place) (ps : Places) → P p → Each P ps → Each P (insert_variant s p ps)
unfolding insert_variant when◌then◌else◌
each_insert P s p none_below a b = (a, tt)
each_insert P s p (below r q ps) a b =
    cases (ltb (variant_of s) (variant_of r)) (λ e. rw e (a, b)) (λ e. rw e (b.0, each_insert P s p ps a b.1))

each_number : (P : Place → Type 0) (ps : Places) → Each P ps → Each P (by_number ps)
unfolding by_number
each_number P none_below a = tt
each_number P (below s p ps) a = each_insert P s p (by_number ps) a.0 (each_number P ps a.1)

-- places that are sound, at steps that fit, none twice
below_sound : (o k i : ℕ) (ps : Places) → steps_fit k i (steps_below ps) ≡ true → distinct (steps_below ps) ≡ true → Each (Sound o) ps
    → (fit_below o k i ps ≡ true) × (ascend_below ps ≡ true)
unfolding steps_fit distinct steps_below fits ascends
below_sound o k i none_below f d a = (refl, refl)
below_sound o k i (below s p ps) f d a =
    both (step_fits k i s) (steps_fit k (suc i) (steps_below ps)) f λ x y.
    both (not (has s (steps_below ps))) (distinct (steps_below ps)) d λ z w.
    let r = below_sound o k (suc i) ps y w a.1 in
    (and_both (and_both x z) (and_both a.0.0 r.0), and_both a.0.1 r.1)

-- ---- unions
union_step : (i : ℕ) (s : Step) → step_fits union_kind i s ≡ is_variant s
union_step i (field name) = refl
union_step i element = refl
union_step i (position j) = refl
union_step i key = refl
union_step i value = refl
union_step i (variant number name) = refl

union_steps : (i : ℕ) (ss : List Step) → steps_fit union_kind i ss ≡ all_variants ss
unfolding steps_fit all_variants
union_steps i [] = refl
union_steps i (s ∷ ss) = rw (union_step i s, union_steps (suc i) ss)

variants_insert : (s : Step) (p : Place) (ps : Places) → is_variant s ≡ true → all_variants (steps_below ps) ≡ true → all_variants (steps_below (insert_variant s p ps)) ≡ true
unfolding insert_variant all_variants steps_below when◌then◌else◌
variants_insert s p none_below v a = and_both v refl
variants_insert s p (below r q ps) v a =
    cases (ltb (variant_of s) (variant_of r)) (λ e. rw (e, steps_below, all_variants) (and_both v a))
    (λ e. both (is_variant r) (all_variants (steps_below ps)) a λ b c. rw (e, steps_below, all_variants) (and_both b (variants_insert s p ps v c)))

variants_number : (ps : Places) → all_variants (steps_below ps) ≡ true → all_variants (steps_below (by_number ps)) ≡ true
unfolding by_number all_variants steps_below
variants_number none_below a = refl
variants_number (below s p ps) a = both (is_variant s) (all_variants (steps_below ps)) a λ v b. variants_insert s p (by_number ps) v (variants_number ps b)

-- no two variants have one number
numbers_apart_lem : (ss : List Step) → distinct ss ≡ true → all_variants ss ≡ true → Clear ss → numbers_apart ss ≡ true
unfolding distinct all_variants numbers_apart has
numbers_apart_lem [] d v c = refl
numbers_apart_lem (s ∷ ss) d v c =
    both (not (has s ss)) (distinct ss) d λ a b.
    both (is_variant s) (all_variants ss) v λ x y.
    let later : (r : Step) → has r ss ≡ true → (same r s || has r ss) ≡ true = λ r h. rw h (or_true (same r s)) in
    and_both (ap not (own_number s ss x y (unclashing s ss (s ∷ ss) c (rw same_refl) later) (not_is_true (has s ss) a)))
    (numbers_apart_lem ss b y (λ q r h l. c q r (later q h) (later r l)))

shown_sound : (o k : ℕ) (m : Marks) (ps : Places) → Fit o k (steps_below ps) → distinct (steps_below ps) ≡ true → (eqb k union_kind ≡ true → rising (steps_below ps) ≡ true)
    → Each (Sound o) ps → Sound o (shown m k ps)
unfolding fits ascends
shown_sound o k m ps g d u a =
    let w = below_sound o k 0 ps g.1 d a in
    let r : (not (eqb k union_kind) || rising (steps_below ps)) ≡ true = cases (eqb k union_kind) (λ e. rw (e, u e)) (λ e. rw e) in
    (and_both g.0 w.0, and_both r w.1)

place_sound : (o k : ℕ) (m : Marks) (ps : Places) → Fit o k (steps_below ps) → distinct (steps_below ps) ≡ true → Clear (steps_below ps) → Each (Sound o) ps
    → Sound o (shown m k (when eqb k union_kind then by_number ps else ps))
place_sound o k m ps g d c a =
    cases (eqb k union_kind)
    (λ e.
    let z : k ≡ union_kind = eqb-true k union_kind e in
    let v : all_variants (steps_below ps) ≡ true = sym (union_steps 0 (steps_below ps)) ∙ rw z at g.1 in
    let f : steps_fit k 0 (steps_below (by_number ps)) ≡ true = rw z (union_steps 0 (steps_below (by_number ps)) ∙ variants_number ps v) in
    let h = shown_sound o k m (by_number ps) (g.0, f) (distinct_by_number ps ∙ d) (λ _. rising_by_number ps (numbers_apart_lem (steps_below ps) d v c)) (each_number (Sound o) ps a) in
    rw (if_passed ps e) h)
    (λ e. rw (if_failed (by_number ps) e) (shown_sound o k m ps g d (λ f. absurd (true≢false (sym f ∙ e))) a))

-- ---- a tree that proper values leave
record Grown (o : ℕ) (t : Tree) : Type 0 where
  depth : ℕ
  values : List Value
  left : see_all o depth values fresh ≡ accepted t
  proper : all_proper o values ≡ true

unseen : (s : Step) (ks : Kids) → has s (steps_of ks) ≡ false → kid_at s ks ≡ fresh
unfolding steps_of has kid_at when◌then◌else◌
unseen s no_kids n = refl
unseen s (kid r m t ks) n = neither (same s r) (has s (steps_of ks)) n λ a b. rw a (unseen s ks b)

-- the kids after the first, where its step does not come again
others_grown : (o m : ℕ) (s : Step) (t : Tree) (ks : Kids) → has s (steps_of ks) ≡ false → ((r : Step) → Grown o (kid_at r (kid s m t ks))) → (r : Step) → Grown o (kid_at r ks)
unfolding kid_at see_all all_proper when◌then◌else◌
others_grown o m s t ks n g r =
    cases (same r s)
    (λ e. rw (same_true r s e, unseen s ks n) (record { depth = 0; values = []; left = refl; proper = refl }))
    (λ e. rw e at (g r))

mutual
  unfolding place_of steps_of kid_at distinct steps_fit has when◌then◌else◌

  -- each kid is what the values below its step leave
  tree_sound : (o : ℕ) (m : Bool) (t : Tree) → Grown o t → Sound o (place_of m t)
  tree_sound o m (node b k n ks) g =
      let vs = g.values in
      let d : distinct (steps_of ks) ≡ true = rw (steps_fresh o g.depth vs (node b k n ks) g.left g.proper) (distinct_seen vs [] refl) in
      let c : Clear (steps_of ks) = (clear_all o g.depth vs fresh (node b k n ks) g.left (λ s r h l. absurd (false≢true h))).1 in
      let f : Fit o k (steps_of ks) = all_fit o g.depth vs fresh (node b k n ks) g.left g.proper (refl, refl) in
      place_sound o k (marks (m || b.null) b.widened) (places_of k n ks) (rw steps_places f) (rw steps_places d) (rw steps_places c)
      (kids_sound o k n ks d (λ s.
      record {
        depth = g.depth + dots_of s;
        values = Census.below s vs;
        left = kid_fresh o g.depth vs (node b k n ks) g.left s;
        proper = below_proper o s vs g.proper;
      }))

  kids_sound : (o k n : ℕ) (ks : Kids) → distinct (steps_of ks) ≡ true → ((s : Step) → Grown o (kid_at s ks)) → Each (Sound o) (places_of k n ks)
  kids_sound o k n no_kids d g = tt
  kids_sound o k n (kid s m t ks) d g =
      both (not (has s (steps_of ks))) (distinct (steps_of ks)) d λ a b. (
        tree_sound o (is_missing k n m) t (rw (same_refl s) at (g s)),
        kids_sound o k n ks b (others_grown o m s t ks (not_is_true (has s (steps_of ks)) a) g),
      )

-- kinds fit the options, and steps their container, in its order and none twice
pub tree_fits : (o d : ℕ) (vs : List Value) (t : Tree) (missing : Bool) → all_proper o vs ≡ true → see_all o d vs fresh ≡ accepted t → fits o (place_of missing t) ≡ true
tree_fits o d vs t missing p e = (tree_sound o missing t (record { depth = d; values = vs; left = e; proper = p })).0

-- the variants of every union rise by number
pub tree_ascends : (o d : ℕ) (vs : List Value) (t : Tree) (missing : Bool) → all_proper o vs ≡ true → see_all o d vs fresh ≡ accepted t → ascends (place_of missing t) ≡ true
tree_ascends o d vs t missing p e = (tree_sound o missing t (record { depth = d; values = vs; left = e; proper = p })).1
