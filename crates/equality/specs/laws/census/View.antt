-- What the places of the schema say, step by step, is what the census says; and places that say the same everywhere are equal.
use Rattle.std.specs.Prelude.{◌≡◌, refl, Bool, true, false, not, ◌&&◌, ◌||◌, List, [], ◌∷◌, ◌++◌, ℕ, ◌+◌, eqb, ltb}
use Rattle.std.proofs.Math.Path.{ap}
use Rattle.std.proofs.Common.{ap₂, ◌∙◌, arith, eqb-true}
use Rattle.std.proofs.Math.Bool.{or-false}
use Rattle.std.proofs.Math.Option.{Option, none, some}
use Rattle.logic.specs.Test.{when◌then◌else◌}
use Rattle.logic.specs.laws.Test.{cases}
use Rattle.logic.specs.Maybe.{and_then}
use Rattle.options.specs.Word.{allow_to_string}
use Rattle.model.specs.Result.{accepted}
use Rattle.model.specs.Kinds.{struct_kind, union_kind, is_struct, Step, same}
use Rattle.model.specs.Reading.{Value}
use Rattle.model.specs.Tracing.{Marks, marks, Tree, node, Kids, no_kids, kid, kids_of, samples_of, fresh, steps_of, has, kid_at, dots_of}
use Rattle.model.specs.Emission.{Place, shown, Places, none_below, below, by_number, is_missing, place_of, places_of}
use Rattle.model.specs.Census.{Said, census, children_of, as_set, steps_seen, steps_in, parts_of, kind_in, fixed_steps, sight, sights, kinds_seen, is_widened, kind_seen, samples, holders, is_lacking, any_null}
use Rattle.model.specs.Census as Census
use Rattle.equality.specs.laws.Base.{and_left, and_right, or_left_false, or_right_false, not_is_true, same_true, same_refl, same_sym}
use Rattle.model.specs.Unbounded.{see_all}
use Rattle.equality.specs.laws.Proper.{steps_below, all_proper}
use Rattle.equality.specs.laws.emission.Canon.{canon, canons, in_order}
use Rattle.equality.specs.laws.census.Standing.{kid_of_values}
use Rattle.equality.specs.laws.reordering.Sorting.{distinct, find, find_in_order, find_by_number, steps_in_order, set_by_number, distinct_set}
use Rattle.equality.specs.laws.tracing.Place.{held_at, has_snoc, all_null, all_samples, all_held, all_steps, below_proper}
use Rattle.equality.specs.laws.census.Kind.{kind_seen_lem}
use Rattle.equality.specs.laws.census.Marks.{widened_seen}

-- ---- what the place at the end of the steps says
abbrev pub said_of : Marks → ℕ → Places → Said
said_of m kind ps = record { null = m.null; widened = m.widened; kind = kind; children = steps_below ps }

unfoldable pub view : List Step → Place → Option Said
view [] (shown m kind ps) = some (said_of m kind ps)
view (s ∷ steps) (shown m kind ps) = and_then (find s ps) (view steps)

-- ---- the places of a tree
pub steps_places : (k n : ℕ) (ks : Kids) → steps_below (places_of k n ks) ≡ steps_of ks
unfolding place_of steps_below steps_of
steps_places k n no_kids = refl
steps_places k n (kid s held t ks) = ap (λ (ss : List Step). s ∷ ss) (steps_places k n ks)

steps_canons : (ps : Places) → steps_below (canons ps) ≡ steps_below ps
unfolding canon steps_below
steps_canons none_below = refl
steps_canons (below s p ps) = ap (λ (ss : List Step). s ∷ ss) (steps_canons ps)

abbrev mapped : Option Place → Option Place
mapped none = none
mapped (some p) = some (canon p)

find_canons : (s : Step) (ps : Places) → find s (canons ps) ≡ mapped (find s ps)
unfolding canon find when◌then◌else◌
find_canons s none_below = refl
find_canons s (below r p ps) = cases (same s r) (λ e. rw e) (λ e. rw e (find_canons s ps))

pub find_places : (s : Step) (k n : ℕ) (ks : Kids) → find s (places_of k n ks) ≡ (when has s (steps_of ks) then some (place_of (is_missing k n (held_at s ks)) (kid_at s ks)) else none)
unfolding place_of find steps_of has held_at kid_at when◌then◌else◌
find_places s k n no_kids = refl
find_places s k n (kid r held t ks) = cases (same s r) (λ e. rw e) (λ e. rw e (find_places s k n ks))

-- the places below a tree in the order of its canonical place
abbrev pub places_in : ℕ → ℕ → Kids → Places
places_in k n ks = when eqb k union_kind then by_number (places_of k n ks) else places_of k n ks

abbrev canon_in : ℕ → ℕ → Kids → Places
canon_in k n ks = when eqb k struct_kind then canons (places_in k n ks) else in_order (canons (places_in k n ks))

module _ (k n : ℕ) (ks : Kids) (d : distinct (steps_of ks) ≡ true) where
  plain : distinct (steps_below (places_of k n ks)) ≡ true
  plain = rw steps_places d

  pub find_ordered : (s : Step) → find s (places_in k n ks) ≡ find s (places_of k n ks)
  unfolding when◌then◌else◌
  find_ordered s = cases (eqb k union_kind) (λ e. rw e (find_by_number s (places_of k n ks) plain)) (λ e. rw e)

  find_canon : (s : Step) → find s (canon_in k n ks) ≡ mapped (find s (places_of k n ks))
  unfolding when◌then◌else◌
  find_canon s =
      cases (eqb k struct_kind)
      (λ e. rw e (find_canons s (places_in k n ks) ∙ ap mapped (find_ordered s)))
      (λ e. rw e (find_in_order s (canons (places_in k n ks)) ∙ find_canons s (places_in k n ks) ∙ ap mapped (find_ordered s)))

  pub set_ordered : as_set (steps_below (places_in k n ks)) ≡ as_set (steps_of ks)
  unfolding when◌then◌else◌
  set_ordered =
      cases (eqb k union_kind)
      (λ e. rw e (set_by_number (places_of k n ks) plain ∙ ap as_set (steps_places k n ks)))
      (λ e. rw e (ap as_set (steps_places k n ks)))

  -- a struct is no union
  steps_canon : steps_below (canon_in k n ks) ≡ children_of k (steps_of ks)
  unfolding when◌then◌else◌
  steps_canon =
      cases (eqb k struct_kind)
      (λ e. rw e (steps_canons (places_in k n ks) ∙ rw (eqb-true k struct_kind e) (steps_places struct_kind n ks)))
      (λ e. rw (e, steps_in_order (canons (places_in k n ks)), steps_canons (places_in k n ks)) set_ordered)

-- ---- no step is seen twice
distinct_snoc : (s : Step) (ss : List Step) → has s ss ≡ false → distinct ss ≡ true → distinct (ss ++ (s ∷ [])) ≡ true
unfolding distinct has
distinct_snoc s [] e h = refl
distinct_snoc s (r ∷ ss) e h =
    let a = or_left_false (same s r) (has s ss) e in
    let b = or_right_false (same s r) (has s ss) e in
    rw (has_snoc r s ss, same_sym r s, a, or-false (has r ss), and_left (not (has r ss)) (distinct ss) h) (distinct_snoc s ss b (and_right (not (has r ss)) (distinct ss) h))

distinct_sight : (s : Step) (ss : List Step) → distinct ss ≡ true → distinct (sight s ss) ≡ true
unfolding sight when◌then◌else◌
distinct_sight s ss h = cases (has s ss) (λ e. rw e h) (λ e. rw e (distinct_snoc s ss e h))

distinct_sights : (rs ss : List Step) → distinct ss ≡ true → distinct (sights rs ss) ≡ true
unfolding sights
distinct_sights [] ss h = h
distinct_sights (r ∷ rs) ss h = distinct_sights rs (sight r ss) (distinct_sight r ss h)

pub distinct_seen : (vs : List Value) (ss : List Step) → distinct ss ≡ true → distinct (steps_seen vs ss) ≡ true
unfolding steps_seen
distinct_seen [] ss h = h
distinct_seen (v ∷ vs) ss h = distinct_seen vs _ (distinct_sights (steps_in (parts_of v)) _ (distinct_sights (fixed_steps (kind_in v)) ss h))

-- ---- what is left at a place that was fresh
module _ (o d : ℕ) (vs : List Value) (t : Tree) (e : see_all o d vs fresh ≡ accepted t) where
  pub samples_fresh : samples_of t ≡ samples vs
  samples_fresh = omega (arith, all_samples o d vs fresh t e)

  pub held_fresh : (s : Step) → held_at s (kids_of t) ≡ holders s vs
  unfolding held_at
  held_fresh s = omega (arith, all_held o d s vs fresh t e)

  pub kid_fresh : (s : Step) → see_all o (d + dots_of s) (Census.below s vs) fresh ≡ accepted (kid_at s (kids_of t))
  unfolding kid_at
  kid_fresh s = kid_of_values o d s vs fresh t e

  pub steps_fresh : all_proper o vs ≡ true → steps_of (kids_of t) ≡ steps_seen vs []
  unfolding steps_of
  steps_fresh p = all_steps o d vs fresh t e p

pub distinct_none : distinct [] ≡ true
unfolding distinct
distinct_none = refl

-- ---- the places say what the census says
pub view_census : (o : ℕ) → allow_to_string o ≡ false → (d : ℕ) (steps : List Step) (lacking : Bool) (vs : List Value) (t : Tree) → all_proper o vs ≡ true
    → see_all o d vs fresh ≡ accepted t → view steps (canon (place_of lacking t)) ≡ census o steps lacking vs
unfolding view census canon place_of when◌then◌else◌ and_then
view_census o f d [] lacking vs (node b k n ks) p e =
    let a : b.null ≡ any_null vs = all_null o d vs fresh (node b k n ks) e in
    let w : b.widened ≡ is_widened (kinds_seen vs) = widened_seen o d vs (node b k n ks) e in
    let j : k ≡ kind_seen o (kinds_seen vs) = kind_seen_lem o d vs (node b k n ks) f p e in
    let r : steps_of ks ≡ steps_seen vs [] = steps_fresh o d vs (node b k n ks) e p in
    let h : distinct (steps_of ks) ≡ true = rw r (distinct_seen vs [] distinct_none) in
    λ i. some (record { null = lacking || a i; widened = w i; kind = j i; children = (steps_canon k n ks h ∙ ap₂ children_of j r) i })
view_census o f d (s ∷ steps) lacking vs (node b k n ks) p e =
    let j : k ≡ kind_seen o (kinds_seen vs) = kind_seen_lem o d vs (node b k n ks) f p e in
    let r : steps_of ks ≡ steps_seen vs [] = steps_fresh o d vs (node b k n ks) e p in
    let h : distinct (steps_of ks) ≡ true = rw r (distinct_seen vs [] distinct_none) in
    let c : n ≡ samples vs = samples_fresh o d vs (node b k n ks) e in
    let g : held_at s ks ≡ holders s vs = held_fresh o d vs (node b k n ks) e s in
    let ih = view_census o f (d + dots_of s) steps (is_missing k n (held_at s ks)) (Census.below s vs) (kid_at s ks) (below_proper o s vs p) (kid_fresh o d vs (node b k n ks) e s) in
    let w : is_missing k n (held_at s ks) ≡ is_lacking o s vs = ap₂ (λ (x : Bool) (y : Bool). x && y) (ap is_struct j) (ap₂ ltb g c) in
    rw (find_canon k n ks h s, find_places s k n ks, ← r) (go (has s (steps_of ks)) (ih ∙ ap (λ (m : Bool). census o steps m (Census.below s vs)) w))
  where
    go : (t : Bool) → view steps (canon (place_of (is_missing k n (held_at s ks)) (kid_at s ks))) ≡ census o steps (is_lacking o s vs) (Census.below s vs)
        → and_then (mapped (when t then some (place_of (is_missing k n (held_at s ks)) (kid_at s ks)) else none)) (view steps) ≡ (when t then census o steps (is_lacking o s vs) (Census.below s vs) else none)
    go true q = q
    go false q = refl

some_injective : (i j : Said) → some i ≡ some j → i ≡ j
some_injective i j e = cc

-- ---- places that say the same everywhere are equal
unfoldable pub Distinct : Place → Type 0
Distinct c = (steps : List Step) (i : Said) → view steps c ≡ some i → distinct i.children ≡ true

find_none : (s : Step) (ps : Places) → has s (steps_below ps) ≡ false → find s ps ≡ none
unfolding find steps_below has when◌then◌else◌
find_none s none_below e = refl
find_none s (below r p ps) e = rw (or_left_false (same s r) (has s (steps_below ps)) e) (find_none s ps (or_right_false (same s r) (has s (steps_below ps)) e))

-- what is said below both places is said below the rest of them
apart_distinct : (s : Step) (c : Place) (cs : Places) → has s (steps_below cs) ≡ false → (t : Step) (steps : List Step) (i : Said)
    → (and_then (find t (below s c cs)) (view steps) ≡ some i → distinct i.children ≡ true) → and_then (find t cs) (view steps) ≡ some i → distinct i.children ≡ true
unfolding find when◌then◌else◌ and_then
apart_distinct s c cs n t steps i u v =
    cases (same t s)
    (λ e. let g : find t cs ≡ none = rw (same_true t s e) (find_none s cs n) in let k : none ≡ some i = rw g at v in absurd (let z : ◌≡◌ {A = ℕ} 0 1 = cc in omega arith))
    (λ e. u (rw e v))

apart_same : (s : Step) (c e : Place) (cs es : Places) → has s (steps_below cs) ≡ false → steps_below cs ≡ steps_below es → (t : Step) (steps : List Step)
    → and_then (find t (below s c cs)) (view steps) ≡ and_then (find t (below s e es)) (view steps) → and_then (find t cs) (view steps) ≡ and_then (find t es) (view steps)
unfolding find when◌then◌else◌
apart_same s c e cs es n y t steps h =
    cases (same t s)
    (λ f. rw (same_true t s f, find_none s cs n, find_none s es (rw y at n)))
    (λ f. rw f at h)

mutual
  unfolding view Distinct find steps_below distinct when◌then◌else◌ and_then

  pub same_view : (c e : Place) → Distinct c → ((steps : List Step) → view steps c ≡ view steps e) → c ≡ e
  same_view (shown b k cs) (shown b' k' cs') u h =
      let q = some_injective (said_of b k cs) (said_of b' k' cs') (h []) in
      let w = same_views cs cs' (ap (λ (i : Said). i.children) q) (u [] _ refl) (λ s steps i e. u (s ∷ steps) i e) (λ s steps. h (s ∷ steps)) in
      λ i. shown (marks (q i).null (q i).widened) (q i).kind (w i)

  pub same_views : (cs es : Places) → steps_below cs ≡ steps_below es → distinct (steps_below cs) ≡ true
      → ((s : Step) (steps : List Step) (i : Said) → and_then (find s cs) (view steps) ≡ some i → distinct i.children ≡ true)
      → ((s : Step) (steps : List Step) → and_then (find s cs) (view steps) ≡ and_then (find s es) (view steps)) → cs ≡ es
  same_views none_below none_below q d u h = refl
  same_views none_below (below r e es) q d u h = cc
  same_views (below s c cs) none_below q d u h = cc
  same_views (below s c cs) (below r e es) q d u h =
      let x : s ≡ r = cc in
      let y : steps_below cs ≡ steps_below es = cc in
      let n : has s (steps_below cs) ≡ false = not_is_true _ (and_left (not (has s (steps_below cs))) (distinct (steps_below cs)) d) in
      let z = same_view c e (λ steps i v. u s steps i (rw same_refl v)) (λ steps. rw (← x, same_refl s) at (h s steps)) in
      let w = same_views cs es y (and_right (not (has s (steps_below cs))) (distinct (steps_below cs)) d) (λ t steps i v. apart_distinct s c cs n t steps i (u t steps i) v)
      (λ t steps. apart_same s c e cs es n y t steps (rw (← x) at (h t steps))) in
      λ i. below (x i) (z i) (w i)

children_distinct : (k : ℕ) (ss : List Step) → distinct ss ≡ true → distinct (children_of k ss) ≡ true
unfolding when◌then◌else◌
children_distinct k ss d = cases (eqb k struct_kind) (λ e. rw e d) (λ e. rw e (distinct_set ss ∙ d))

pub census_distinct : (o : ℕ) (steps : List Step) (lacking : Bool) (vs : List Value) (i : Said) → census o steps lacking vs ≡ some i → distinct i.children ≡ true
unfolding census when◌then◌else◌
census_distinct o [] lacking vs i e =
    let q = ap (λ (i : Said). i.children) (some_injective _ i e) in
    rw (← q) (children_distinct (kind_seen o (kinds_seen vs)) (steps_seen vs []) (distinct_seen vs [] distinct_none))
census_distinct o (s ∷ steps) lacking vs i e =
    cases (has s (steps_seen vs []))
    (λ a. census_distinct o steps _ (Census.below s vs) i (rw a at e))
    (λ a. let k : none ≡ some i = rw a at e in absurd (let z : ◌≡◌ {A = ℕ} 0 1 = cc in omega arith))
