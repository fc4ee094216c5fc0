-- A reordering of an accepted batch is accepted, and its places differ in the order of the places below alone.
use Rattle.std.specs.Prelude.{◌≡◌, refl, Bool, true, false, ◌&&◌, ◌||◌, ℕ, ◌+◌, eqb}
use Rattle.std.proofs.Common.{ap, ap₂, sym, ◌∙◌, arith, eqb-true, ne_eqb}
use Rattle.std.proofs.lemmas.Bool.{eqb-false}
use Rattle.std.proofs.Math.Bool.{not, or-false}
use mathlib.Core.List.Permᴰ
use mathlib.Core.List.{List, [], ◌∷◌, append_assoc, Permᴰ}
use Rattle.std.proofs.Math.Option.{some-injective}
use Rattle.logic.specs.Test.{when◌then◌else◌}
use Rattle.logic.specs.laws.Test.{cases, both, neither}
use Rattle.logic.specs.All.{All}
use Rattle.logic.specs.All as Lists
use Rattle.logic.specs.laws.All.{all_map, all_both}
use Rattle.datatype.specs.Codes.{null}
use Rattle.options.specs.Word.{allow_to_string}
use Rattle.coerce.specs.Census.{is_other}
use Rattle.model.specs.Result.{accepted}
use Rattle.model.specs.Kinds.{struct_kind, map_kind, map_mode_kind, is_container, is_struct, Step}
use Rattle.model.specs.Reading.{Value, val, cut, is_whole, all_whole}
use Rattle.model.specs.Tracing.{marks, Tree, kind_of, fresh, steps_of, has, holds, one}
use Rattle.model.specs.Emission.{place_of}
use Rattle.model.specs.Census.{parts_of, kind_in, null_in, parts_at, below, standing, any_null, samples, holders, kinds_seen, is_widened, fixed_steps, steps_in, sights, steps_seen}
use Rattle.model.specs.Demand3.{shows, as_struct, as_map}
use Rattle.equality.specs.laws.Base.{or_right_false}
use Rattle.model.specs.Unbounded.{see_all}
use Rattle.equality.specs.laws.Proper.{kind_fits, is_proper, are_proper, all_proper}
use Rattle.equality.specs.Widened.{place_at}
use Rattle.equality.specs.laws.census.Standing.{depth_at, place_fresh, at_place}
use Rattle.equality.specs.laws.tracing.Place.{together_all, is_deep, see_all_whole, standing_proper, all_null, all_kind, has_sights_is}
use Rattle.equality.specs.laws.tracing.Acceptance.{all_shallow, Allowed, accepts, allows}
use Rattle.equality.specs.laws.census.Kind.{is_typed}
use Rattle.equality.specs.laws.census.Marks.{types_in, types_more, types_have, widened_seen}
use Rattle.equality.specs.laws.census.View.{samples_fresh, held_fresh, steps_fresh, distinct_seen, distinct_none}
use Rattle.equality.specs.laws.reordering.Sorting.{or_swap}
use Rattle.equality.specs.laws.tracing.Kinds.{Suits, null_suits, together_perm}
use Rattle.equality.specs.laws.reordering.Sorted.{sorted_place, Alike, alike_sorted, sorted_size}
use Rattle.equality.specs.laws.tracing.Count.{size}

-- ---- a reordered batch has reordered values at every place
pub perm_below : (s : Step) {vs ws : List Value} → Permᴰ vs ws → Permᴰ (below s vs) (below s ws)
unfolding below
perm_below s Permᴰ.nil = Permᴰ.nil
perm_below s (Permᴰ.cons {a = v} e r) = rw (← e) (Permᴰ.append_left (parts_at s (parts_of v)) (perm_below s r))
perm_below s (Permᴰ.swap {a = v} {b = w} {l = vs} e f) =
    let a = parts_at s (parts_of v) in
    let b = parts_at s (parts_of w) in
    rw (← e, ← f) (rw (append_assoc a b (below s vs), append_assoc b a (below s vs)) at (Permᴰ.append_right (below s vs) (Permᴰ.append_comm a b)))
perm_below s (Permᴰ.trans q r) = Permᴰ.trans (perm_below s q) (perm_below s r)

pub perm_standing : (steps : List Step) {vs ws : List Value} → Permᴰ vs ws → Permᴰ (standing steps vs) (standing steps ws)
unfolding standing
perm_standing [] r = r
perm_standing (s ∷ steps) r = perm_standing steps (perm_below s r)

perm_kinds : {vs ws : List Value} → Permᴰ vs ws → Permᴰ (kinds_seen vs) (kinds_seen ws)
unfolding kinds_seen
perm_kinds Permᴰ.nil = Permᴰ.nil
perm_kinds (Permᴰ.cons e r) = Permᴰ.cons (ap kind_in e) (perm_kinds r)
perm_kinds (Permᴰ.swap e f) = Permᴰ.swap (ap kind_in e) (ap kind_in f)
perm_kinds (Permᴰ.trans q r) = Permᴰ.trans (perm_kinds q) (perm_kinds r)

-- ---- what does not depend on the order: whatever goes through a list by steps of which two may change places
perm_by : {A B : Type 0} (f : A → B → B) (g : List A → B) → ((v : A) (vs : List A) → g (v ∷ vs) ≡ f v (g vs))
    → ((v w : A) (b : B) → f v (f w b) ≡ f w (f v b)) → {vs ws : List A} → Permᴰ vs ws → g vs ≡ g ws
perm_by f g h c Permᴰ.nil = refl
perm_by f g h c (Permᴰ.cons {a = v} {b = w} {l₁ = vs} {l₂ = ws} e r) = h v vs ∙ ap₂ f e (perm_by f g h c r) ∙ sym (h w ws)
perm_by f g h c (Permᴰ.swap {a = v} {b = w} {l = vs} e q) =
    rw (← e, ← q) (h v (w ∷ vs) ∙ ap (f v) (h w vs) ∙ c v w (g vs) ∙ sym (h w (v ∷ vs) ∙ ap (f w) (h v vs)))
perm_by f g h c (Permᴰ.trans q r) = perm_by f g h c q ∙ perm_by f g h c r

and_swap : (a b c : Bool) → (a && (b && c)) ≡ (b && (a && c))
and_swap true b c = refl
and_swap false true c = refl
and_swap false false c = refl

module _ {vs ws : List Value} (r : Permᴰ vs ws) where
  perm_null : any_null vs ≡ any_null ws
  unfolding any_null
  perm_null = perm_by (λ v b. null_in v || b) any_null (λ v vs. refl) (λ v w. or_swap (null_in v) (null_in w)) r

  perm_samples : samples vs ≡ samples ws
  unfolding samples
  perm_samples = perm_by (λ v n. one (is_container (kind_in v)) + n) samples (λ v vs. refl) (λ v w n. omega arith) r

  perm_holders : (s : Step) → holders s vs ≡ holders s ws
  unfolding holders
  perm_holders s = perm_by (λ v n. one (holds s (parts_of v)) + n) (holders s) (λ v vs. refl) (λ v w n. omega arith) r

  perm_whole : all_whole vs ≡ all_whole ws
  unfolding all_whole
  perm_whole = perm_by (λ v b. is_whole v && b) all_whole (λ v vs. refl) (λ v w. and_swap (is_whole v) (is_whole w)) r

  perm_proper : (o : ℕ) → all_proper o vs ≡ all_proper o ws
  unfolding all_proper
  perm_proper o = perm_by (λ v b. is_proper o v && b) (all_proper o) (λ v vs. refl) (λ v w. and_swap (is_proper o v) (is_proper o w)) r

  perm_shallow : (d : ℕ) → all_shallow d (kinds_seen vs) ≡ all_shallow d (kinds_seen ws)
  unfolding all_shallow
  perm_shallow d =
      perm_by (λ k b. not (is_deep d k) && b) (all_shallow d) (λ k ks. refl) (λ k h. and_swap (not (is_deep d k)) (not (is_deep d h))) (perm_kinds r)

-- the types seen, and whether two of them differ
perm_types : (p : ℕ → Bool) {ks hs : List ℕ} → Permᴰ ks hs → Lists.has p (types_in ks) ≡ Lists.has p (types_in hs)
perm_types p r =
    perm_by (λ k b. (is_typed k && p k) || b) (λ ks. Lists.has p (types_in ks)) (types_have p) (λ k h. or_swap (is_typed k && p k) (is_typed h && p h)) r

perm_widened : {ks hs : List ℕ} → Permᴰ ks hs → is_widened ks ≡ is_widened hs
unfolding Lists.has when◌then◌else◌
perm_widened Permᴰ.nil = refl
perm_widened (Permᴰ.cons {a = k} {l₁ = ks} {l₂ = hs} e r) =
    rw (← e, types_more k ks, types_more k hs) (cases (is_typed k) (λ a. rw a (perm_types (is_other k) r)) (λ a. rw a (perm_widened r)))
perm_widened (Permᴰ.swap {a = k} {b = h} {l = ks} e f) =
    rw (← e, ← f, types_more k (h ∷ ks), types_more h (k ∷ ks), types_more k ks, types_more h ks) (
    cases (is_typed k)
    (λ a. cases (is_typed h) (λ b. rw (a, b) (either (eqb k h) refl)) (λ b. rw (a, b)))
    (λ a. rw a))
  where
    either : (t : Bool) → eqb k h ≡ t → (is_other k h || Lists.has (is_other k) (types_in ks)) ≡ (is_other h k || Lists.has (is_other h) (types_in ks))
    either true q = rw (eqb-true k h q)
    either false q = rw (q, ne_eqb h k (λ r. eqb-false k h q (sym r)))
perm_widened (Permᴰ.trans q r) = perm_widened q ∙ perm_widened r

-- the steps seen, as a set
abbrev shown_by : Step → Value → Bool
shown_by s v = has s (fixed_steps (kind_in v)) || has s (steps_in (parts_of v))

any_shows : Step → List Value → Bool
any_shows s [] = false
any_shows s (v ∷ vs) = shown_by s v || any_shows s vs

has_seen_is : (s : Step) (vs : List Value) (ss : List Step) → has s (steps_seen vs ss) ≡ (has s ss || any_shows s vs)
unfolding steps_seen any_shows
has_seen_is s [] ss = sym (or-false (has s ss))
has_seen_is s (v ∷ vs) ss =
    rw (has_seen_is s vs (sights (steps_in (parts_of v)) (sights (fixed_steps (kind_in v)) ss)), has_sights_is, has_sights_is)
    (or_four (has s ss) (has s (fixed_steps (kind_in v))) (has s (steps_in (parts_of v))) (any_shows s vs))
  where
    or_four : (a b c d : Bool) → (((a || b) || c) || d) ≡ (a || ((b || c) || d))
    or_four true b c d = refl
    or_four false b c d = refl

perm_has : (s : Step) {vs ws : List Value} → Permᴰ vs ws → has s (steps_seen vs []) ≡ has s (steps_seen ws [])
unfolding any_shows
perm_has s {vs} {ws} r =
    has_seen_is s vs [] ∙ ap (λ (b : Bool). has s [] || b) (perm_by (λ v b. shown_by s v || b) (any_shows s) (λ v vs. refl) (λ v w. or_swap (shown_by s v) (shown_by s w)) r)
    ∙ sym (has_seen_is s ws [])

-- ---- the kinds at a place that is not shown both as struct and as map
abbrev pub OneMode : List Value → Type 0
OneMode vs = (shows as_struct vs && shows as_map vs) ≡ false

proper_kind : (o : ℕ) (v : Value) → is_proper o v ≡ true → kind_fits o (kind_in v) ≡ true
unfolding is_proper when◌then◌else◌
proper_kind o (val at b k n ps) p = both (kind_fits o k) (are_proper o k n 0 ps) p (λ f _. f)
proper_kind o (cut l at) p = refl

kinds_fit : (o : ℕ) (vs : List Value) → all_proper o vs ≡ true → All (λ k. kind_fits o k ≡ true) (kinds_seen vs)
unfolding all_proper kinds_seen
kinds_fit o [] p = tt
kinds_fit o (v ∷ vs) p = both (is_proper o v) (all_proper o vs) p λ q r. (proper_kind o v q, kinds_fit o vs r)

shows_none : (p : ℕ → Bool) (vs : List Value) → shows p vs ≡ false → All (λ k. p k ≡ false) (kinds_seen vs)
unfolding shows kinds_seen
shows_none p [] e = tt
shows_none p (v ∷ vs) e = neither (p (kind_in v)) (shows p vs) e λ f g. (f, shows_none p vs g)

-- with no struct among them the mode is that of a map, and with no map that of a struct
one_mode : {P : Type 0} (o : ℕ) (vs : List Value) → all_proper o vs ≡ true → OneMode vs
    → ((mode : ℕ) → All (Suits o mode) (kinds_seen vs) → P) → P
one_mode o vs p e g =
    cases (shows as_struct vs)
    (λ f. g struct_kind (suits struct_kind as_map (λ k n s. no_map k s (or_right_false (eqb k map_kind) (eqb k map_mode_kind) n)) (rw f at e)))
    (λ f. g map_mode_kind (suits map_mode_kind as_struct no_struct f))
  where
    suits : (mode : ℕ) (q : ℕ → Bool) → ((k : ℕ) → q k ≡ false → is_struct k ≡ true → k ≡ mode) → shows q vs ≡ false → All (Suits o mode) (kinds_seen vs)
    suits mode q h f =
        all_map (λ k. (kind_fits o k ≡ true) × (q k ≡ false)) (Suits o mode) (kinds_seen vs) (λ k z. record { fits = z.0; moded = h k z.1 })
        (all_both (λ k. kind_fits o k ≡ true) (λ k. q k ≡ false) (kinds_seen vs) (kinds_fit o vs p) (shows_none q vs f))

    no_struct : (k : ℕ) → eqb k struct_kind ≡ false → is_struct k ≡ true → k ≡ map_mode_kind
    no_struct k n s = eqb-true k map_mode_kind (rw n at s)

    no_map : (k : ℕ) → is_struct k ≡ true → eqb k map_mode_kind ≡ false → k ≡ struct_kind
    no_map k s n = eqb-true k struct_kind (rw (n, or-false (eqb k struct_kind)) at s)

perm_together : (o : ℕ) → allow_to_string o ≡ false → {vs ws : List Value} → Permᴰ vs ws → all_proper o vs ≡ true → OneMode vs
    → together_all o (kinds_seen vs) null ≡ together_all o (kinds_seen ws) null
perm_together o off {vs} {ws} r p e = one_mode o vs p e λ mode h. together_perm o off mode null (perm_kinds r) (null_suits o mode) h

-- ---- what a place asks of the values there, and what they leave
perm_allowed : (o : ℕ) → allow_to_string o ≡ false → (d : ℕ) (vs ws : List Value) → Permᴰ vs ws → all_proper o vs ≡ true → OneMode vs → Allowed o d fresh vs → Allowed o d fresh ws
unfolding steps_of
perm_allowed o off d vs ws r p e a =
    record {
      shallow = sym (perm_shallow r d) ∙ a.shallow;
      kind = a.kind;
      joins = sym (perm_together o off r p e) ∙ a.joins;
      clear = λ x y hx hy. a.clear x y (perm_has x r ∙ hx) (perm_has y r ∙ hy);
    }

perm_alike : (o : ℕ) → allow_to_string o ≡ false → (d : ℕ) (vs ws : List Value) (t u : Tree) → Permᴰ vs ws → all_proper o vs ≡ true → OneMode vs
    → see_all o d vs fresh ≡ accepted t → see_all o d ws fresh ≡ accepted u → Alike t u
perm_alike o off d vs ws t u r p e f g =
    let q : all_proper o ws ≡ true = sym (perm_proper r o) ∙ p in
    let a = steps_fresh o d vs t f p in
    let b = steps_fresh o d ws u g q in
    record {
      marks = ap₂ marks (all_null o d vs fresh t f ∙ perm_null r ∙ sym (all_null o d ws fresh u g))
          (widened_seen o d vs t f ∙ perm_widened (perm_kinds r) ∙ sym (widened_seen o d ws u g));
      kind = some-injective (kind_of t) (kind_of u) (sym (all_kind o d vs fresh t f) ∙ perm_together o off r p e ∙ all_kind o d ws fresh u g);
      samples = samples_fresh o d vs t f ∙ perm_samples r ∙ sym (samples_fresh o d ws u g);
      steps = λ s. rw (a, b) (perm_has s r);
      held = λ s. held_fresh o d vs t f s ∙ perm_holders r s ∙ sym (held_fresh o d ws u g s);
      once = rw a (distinct_seen vs [] distinct_none);
      other_once = rw b (distinct_seen ws [] distinct_none);
    }

-- ---- the reordering
pub reordered : (o : ℕ) → allow_to_string o ≡ false → (vs ws : List Value) → Permᴰ vs ws → all_proper o vs ≡ true
    → ((steps : List Step) → (shows as_struct (standing steps vs) && shows as_map (standing steps vs)) ≡ false)
    → (t : Tree) → see_all o 0 vs fresh ≡ accepted t
    → (u : Tree) × (see_all o 0 ws fresh ≡ accepted u) × (sorted_place (place_of false t) ≡ sorted_place (place_of false u)) × (size t ≡ size u)
reordered o off vs ws r p e t f =
    let q : all_proper o ws ≡ true = sym (perm_proper r o) ∙ p in
    let w : all_whole ws ≡ true = sym (perm_whole r) ∙ see_all_whole o 0 vs fresh t f in
    let a : (steps : List Step) → Allowed o (depth_at 0 steps) (place_at steps fresh) (standing steps ws)
    = λ steps. rw place_fresh (perm_allowed o off (depth_at 0 steps) (standing steps vs) (standing steps ws) (perm_standing steps r)
    (standing_proper o steps vs p) (e steps) (rw place_fresh at (allows o vs t f p steps))) in
    let g = accepts o 0 ws fresh w q a in
    let u = g.0 in
    let s = alike_sorted false t u λ steps. perm_alike o off (depth_at 0 steps) (standing steps vs) (standing steps ws) (place_at steps t) (place_at steps u) (perm_standing steps r)
    (standing_proper o steps vs p) (e steps) (rw place_fresh at (at_place o 0 steps vs fresh t f)) (rw place_fresh at (at_place o 0 steps ws fresh u g.1)) in
    (u, g.1, s, sorted_size false t u s)
