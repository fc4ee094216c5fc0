-- What the values that stand at a place leave there: null, samples, how often a step was held, the steps below, the kind.
use Rattle.std.specs.Prelude.{◌≡◌, refl, List, [], ◌∷◌, ◌++◌, Bool, true, false, not, ◌&&◌, ◌||◌, ℕ, suc, ◌+◌, eqb, leb}
use Rattle.std.proofs.Common.{ap, sym, ◌∙◌, arith, eqb-true}
use Rattle.std.proofs.Math.Option.{Option, none, some}
use Rattle.std.proofs.lemmas.Bool.{false≢true}
use Rattle.logic.specs.Test.{when◌then◌else◌}
use Rattle.logic.specs.laws.Test.{cases, both}
use Rattle.datatype.specs.Codes.{null}
use Rattle.refusal.specs.Number.{too_deep, mismatch, no_joint}
use Rattle.coerce.specs.Joint.{joint}
use Rattle.model.specs.Result.{accepted, refused, or_refused}
use Rattle.model.specs.Kinds.{sequence_kind, map_kind, tuple_kind, is_container, Step, field, element, position, key, value, variant, same}
use Rattle.model.specs.Reading.{Value, val, cut, Parts, no_parts, cut_off, part, is_whole, are_whole, all_whole}
use Rattle.model.specs.Tracing.{Tree, Kids, no_kids, kid, marks_of, kind_of, samples_of, kids_of, dots_of, depth_limit, same_container, meet, steps_of, has, kid_at, put, positions_from, made, holds, one, tally}
use Rattle.model.specs.Census.{parts_of, kind_in, parts_at, below, standing, any_null, samples, holders, kinds_seen, fixed_steps, steps_in, sight, sights, steps_seen}
use Rattle.equality.specs.laws.Base.{bind_ok, not_refused, if_ap, and_left, and_right, and_both, same_true, same_refl}
use Rattle.model.specs.Unbounded.{make_all, see, see_parts, see_all}
use Rattle.equality.specs.laws.Proper.{kind_fits, part_fits, is_proper, are_proper, all_proper}
use Rattle.equality.specs.laws.census.Standing.{met, no_cut, part_ok}

pub or_assoc : (a b c : Bool) → ((a || b) || c) ≡ (a || (b || c))
or_assoc true b c = refl
or_assoc false b c = refl

pub or_false : (a : Bool) → (a || false) ≡ a
or_false true = refl
or_false false = refl

pub or_true : (a : Bool) → (a || true) ≡ true
or_true true = refl
or_true false = refl

pub and_assoc : (a b c : Bool) → (a && (b && c)) ≡ ((a && b) && c)
and_assoc true b c = refl
and_assoc false b c = refl

-- ---- what is accepted was read whole
mutual
  unfolding see is_whole

  pub see_whole : (o d : ℕ) (v : Value) (t t' : Tree) → see o d v t ≡ accepted t' → is_whole v ≡ true
  see_whole o d (cut n at) t t' e = not_refused e
  see_whole o d (val at b k n ps) t t' e =
      let m = met o d at b k n ps t t' e in
      see_parts_whole o d ps (make_all (made k n (kind_of t)) (kids_of t)) m.kids m.parts

  pub see_parts_whole : (o d : ℕ) (ps : Parts) (ks ks' : Kids) → see_parts o d ps ks ≡ accepted ks' → are_whole ps ≡ true
  see_parts_whole o d no_parts ks ks' e = refl
  see_parts_whole o d (cut_off n at) ks ks' e = not_refused e
  see_parts_whole o d (part at s v ps) ks ks' e =
      part_ok o d at s v ps ks ks' e λ t e₁ e₂.
      and_both (see_whole o (d + dots_of s) v (kid_at s ks) t e₁) (see_parts_whole o d ps (put s t ks) ks' e₂)

pub see_all_whole : (o d : ℕ) (vs : List Value) (t t' : Tree) → see_all o d vs t ≡ accepted t' → all_whole vs ≡ true
unfolding see_all all_whole
see_all_whole o d [] t t' e = refl
see_all_whole o d (v ∷ vs) t t' e = bind_ok (see o d v t) _ t' e λ u e₁ e₂. and_both (see_whole o d v t u e₁) (see_all_whole o d vs u t' e₂)

-- ---- what is proper, or whole, is so at every place
pub proper_append : (o : ℕ) (vs ws : List Value) → all_proper o (vs ++ ws) ≡ (all_proper o vs && all_proper o ws)
unfolding all_proper
proper_append o [] ws = refl
proper_append o (v ∷ vs) ws = rw (proper_append o vs ws) (and_assoc (is_proper o v) (all_proper o vs) (all_proper o ws))

pub whole_append : (vs ws : List Value) → all_whole (vs ++ ws) ≡ (all_whole vs && all_whole ws)
unfolding all_whole
whole_append [] ws = refl
whole_append (v ∷ vs) ws = rw (whole_append vs ws) (and_assoc (is_whole v) (all_whole vs) (all_whole ws))

parts_proper : (o k n i : ℕ) (s : Step) (ps : Parts) → are_proper o k n i ps ≡ true → all_proper o (parts_at s ps) ≡ true
unfolding is_proper all_proper parts_at when◌then◌else◌
parts_proper o k n i s no_parts p = refl
parts_proper o k n i s (cut_off l at) p = refl
parts_proper o k n i s (part at r v ps) p =
    both (part_fits k i r && is_proper o v) (are_proper o k n (suc i) ps) p λ q z.
    let ih = parts_proper o k n (suc i) s ps z in
    cases (same s r) (λ e. rw e (and_both (and_right (part_fits k i r) (is_proper o v) q) ih)) (λ e. rw e ih)

parts_whole : (s : Step) (ps : Parts) → are_whole ps ≡ true → all_whole (parts_at s ps) ≡ true
unfolding is_whole all_whole parts_at when◌then◌else◌
parts_whole s no_parts p = refl
parts_whole s (cut_off l at) p = refl
parts_whole s (part at r v ps) p =
    both (is_whole v) (are_whole ps) p λ q z.
    cases (same s r) (λ e. rw e (and_both q (parts_whole s ps z))) (λ e. rw e (parts_whole s ps z))

value_proper : (o : ℕ) (s : Step) (v : Value) → is_proper o v ≡ true → all_proper o (parts_at s (parts_of v)) ≡ true
unfolding is_proper parts_at all_proper
value_proper o s (val at b k n ps) p = parts_proper o k n 0 s ps (and_right (kind_fits o k) (are_proper o k n 0 ps) p)
value_proper o s (cut l at) p = refl

value_whole : (s : Step) (v : Value) → is_whole v ≡ true → all_whole (parts_at s (parts_of v)) ≡ true
unfolding is_whole parts_at all_whole
value_whole s (val at b k n ps) p = parts_whole s ps p
value_whole s (cut l at) p = refl

pub below_proper : (o : ℕ) (s : Step) (vs : List Value) → all_proper o vs ≡ true → all_proper o (below s vs) ≡ true
unfolding all_proper below
below_proper o s [] p = refl
below_proper o s (v ∷ vs) p =
    both (is_proper o v) (all_proper o vs) p λ q r. rw (proper_append, value_proper o s v q, below_proper o s vs r)

pub standing_proper : (o : ℕ) (steps : List Step) (vs : List Value) → all_proper o vs ≡ true → all_proper o (standing steps vs) ≡ true
unfolding standing
standing_proper o [] vs p = p
standing_proper o (s ∷ steps) vs p = standing_proper o steps (below s vs) (below_proper o s vs p)

-- ---- null and samples
pub all_null : (o d : ℕ) (vs : List Value) (t t' : Tree) → see_all o d vs t ≡ accepted t' → (marks_of t').null ≡ ((marks_of t).null || any_null vs)
unfolding see_all any_null
all_null o d [] t t' e = rw or_false (cc)
all_null o d (val at b k n ps ∷ vs) t t' e =
    bind_ok (see o d (val at b k n ps) t) _ t' e λ u e₁ e₂.
    rw (all_null o d vs u t' e₂, (met o d at b k n ps t u e₁).marks) (or_assoc (marks_of t).null b (any_null vs))
all_null o d (cut n at ∷ vs) t t' e = bind_ok (see o d (cut n at) t) _ t' e λ u e₁ _. no_cut o d n at t u e₁

pub all_samples : (o d : ℕ) (vs : List Value) (t t' : Tree) → see_all o d vs t ≡ accepted t' → samples_of t' ≡ samples_of t + samples vs
unfolding see_all samples
all_samples o d [] t t' e = let h : t ≡ t' = cc in omega (arith, ap samples_of h)
all_samples o d (val at b k n ps ∷ vs) t t' e =
    bind_ok (see o d (val at b k n ps) t) _ t' e λ u e₁ e₂.
    omega (arith, all_samples o d vs u t' e₂, (met o d at b k n ps t u e₁).samples)
all_samples o d (cut n at ∷ vs) t t' e = bind_ok (see o d (cut n at) t) _ t' e λ u e₁ _. no_cut o d n at t u e₁

-- ---- steps in order of first sight
pub has_snoc : (s r : Step) (ss : List Step) → has s (ss ++ (r ∷ [])) ≡ (has s ss || same s r)
unfolding has
has_snoc s r [] = or_false (same s r)
has_snoc s r (q ∷ ss) = rw (has_snoc s r ss) (sym (or_assoc (same s q) (has s ss) (same s r)))

pub has_sight : (s : Step) (ss : List Step) → has s (sight s ss) ≡ true
unfolding sight when◌then◌else◌
has_sight s ss = cases (has s ss) (λ e. rw (e, e)) (λ e. rw e (rw (has_snoc, same_refl) (or_true (has s ss))))

pub has_kept : (s r : Step) (ss : List Step) → has s ss ≡ true → has s (sight r ss) ≡ true
unfolding sight when◌then◌else◌
has_kept s r ss h = cases (has r ss) (λ e. rw e h) (λ e. rw (e, has_snoc, h))

pub has_sights : (s : Step) (rs ss : List Step) → has s ss ≡ true → has s (sights rs ss) ≡ true
unfolding sights
has_sights s [] ss h = h
has_sights s (r ∷ rs) ss h = has_sights s rs (sight r ss) (has_kept s r ss h)

-- a step is there afterwards if it was, or was shown
pub has_sight_is : (a s : Step) (ss : List Step) → has a (sight s ss) ≡ (has a ss || same a s)
unfolding sight when◌then◌else◌
has_sight_is a s ss =
    cases (has s ss)
    (λ e. rw e (cases (same a s) (λ f. rw (f, same_true a s f, e)) (λ f. rw (f, or_false (has a ss)))))
    (λ e. rw e (has_snoc a s ss))

pub has_sights_is : (a : Step) (rs ss : List Step) → has a (sights rs ss) ≡ (has a ss || has a rs)
unfolding sights has
has_sights_is a [] ss = sym (or_false (has a ss))
has_sights_is a (r ∷ rs) ss = rw (has_sights_is a rs (sight r ss), has_sight_is) (or_assoc (has a ss) (same a r) (has a rs))

-- steps that were seen are not seen for the first time again
sight_again : (s : Step) (ss : List Step) → has s ss ≡ true → sight s ss ≡ ss
unfolding sight when◌then◌else◌
sight_again s ss h = rw h

pub sights_again : (rs ss : List Step) → sights rs (sights rs ss) ≡ sights rs ss
unfolding sights
sights_again [] ss = refl
sights_again (r ∷ rs) ss = ap (sights rs) (sight_again r (sights rs (sight r ss)) (has_sights r rs (sight r ss) (has_sight r ss))) ∙ sights_again rs (sight r ss)

pub steps_put : (s : Step) (t : Tree) (ks : Kids) → steps_of (put s t ks) ≡ sight s (steps_of ks)
unfolding steps_of put sight has when◌then◌else◌
steps_put s t no_kids = refl
steps_put s t (kid r n u ks) =
    cases (same s r)
    (λ e. rw e)
    (λ e. rw e (ap (λ (ss : List Step). r ∷ ss) (steps_put s t ks) ∙ if_ap (λ (ss : List Step). r ∷ ss) (has s (steps_of ks)) (steps_of ks) (steps_of ks ++ (s ∷ []))))

pub steps_make_all : (ss : List Step) (ks : Kids) → steps_of (make_all ss ks) ≡ sights ss (steps_of ks)
unfolding make_all sights
steps_make_all [] ks = refl
steps_make_all (s ∷ ss) ks = steps_make_all ss (put s (kid_at s ks) ks) ∙ ap (sights ss) (steps_put s (kid_at s ks) ks)

pub steps_tally : (ps : Parts) (ks : Kids) → steps_of (tally ps ks) ≡ steps_of ks
unfolding tally steps_of
steps_tally ps no_kids = refl
steps_tally ps (kid s n t ks) = ap (λ (ss : List Step). s ∷ ss) (steps_tally ps ks)

pub parts_steps : (o d : ℕ) (ps : Parts) (ks ks' : Kids) → see_parts o d ps ks ≡ accepted ks' → steps_of ks' ≡ sights (steps_in ps) (steps_of ks)
unfolding see steps_in sights
parts_steps o d no_parts ks ks' e = cc
parts_steps o d (cut_off n at) ks ks' e = not_refused e
parts_steps o d (part at s v ps) ks ks' e =
    part_ok o d at s v ps ks ks' e λ t _ e₂.
    parts_steps o d ps (put s t ks) ks' e₂ ∙ ap (sights (steps_in ps)) (steps_put s t ks)

-- the parts of a tuple that was read whole are its positions
tuple_steps : (o n i : ℕ) (ps : Parts) → are_whole ps ≡ true → are_proper o tuple_kind n i ps ≡ true → (m : ℕ) × (steps_in ps ≡ positions_from i m) × (i + m ≡ n)
unfolding is_whole is_proper steps_in when◌then◌else◌
tuple_steps o n i no_parts w p = (0, refl, omega (arith, eqb-true i n p))
tuple_steps o n i (cut_off l at) w p = absurd (false≢true w)
tuple_steps o n i (part at (field name) v ps) w p = absurd (false≢true p)
tuple_steps o n i (part at element v ps) w p = absurd (false≢true p)
tuple_steps o n i (part at (position j) v ps) w p =
    both (part_fits tuple_kind i (position j) && is_proper o v) (are_proper o tuple_kind n (suc i) ps) p λ q r.
    let h = tuple_steps o n (suc i) ps (and_right (is_whole v) (are_whole ps) w) r in
    let e : j ≡ i = eqb-true j i (and_left (eqb j i) (is_proper o v) q) in
    (suc h.0, rw (e, h.1), omega (arith, h.2))
tuple_steps o n i (part at key v ps) w p = absurd (false≢true p)
tuple_steps o n i (part at value v ps) w p = absurd (false≢true p)
tuple_steps o n i (part at (variant number name) v ps) w p = absurd (false≢true p)

tuple_again : (o n : ℕ) (ps : Parts) (ss : List Step) → are_whole ps ≡ true → are_proper o tuple_kind n 0 ps ≡ true
    → sights (steps_in ps) (sights (positions_from 0 n) ss) ≡ sights (steps_in ps) ss
tuple_again o n ps ss w p =
    let h = tuple_steps o n 0 ps w p in
    let m : h.0 ≡ n = omega (arith, h.2) in
    let e : steps_in ps ≡ positions_from 0 n = h.1 ∙ ap (positions_from 0) m in
    rw e (sights_again (positions_from 0 n) ss)

-- so that a tuple makes them all at its own command says no more than its parts
pub made_fixed : (o k n : ℕ) (ps : Parts) (before : ℕ) (ss : List Step) → are_whole ps ≡ true → are_proper o k n 0 ps ≡ true
    → sights (steps_in ps) (sights (made k n before) ss) ≡ sights (steps_in ps) (sights (fixed_steps k) ss)
unfolding made fixed_steps sights when◌then◌else◌
made_fixed o k n ps before ss w p =
    cases (eqb k sequence_kind) (λ e. rw e) (λ e.
    cases (eqb k map_kind) (λ f. rw (e, f)) (λ f.
    cases (eqb k tuple_kind && eqb before null)
    (λ g.
    let p₂ : are_proper o tuple_kind n 0 ps ≡ true = rw (eqb-true k tuple_kind (and_left (eqb k tuple_kind) (eqb before null) g)) at p in
    rw (e, f, g) (tuple_again o n ps ss w p₂))
    (λ g. rw (e, f, g))))

pub value_steps : (o d : ℕ) (v : Value) (t t' : Tree) → see o d v t ≡ accepted t' → is_proper o v ≡ true
    → steps_of (kids_of t') ≡ sights (steps_in (parts_of v)) (sights (fixed_steps (kind_in v)) (steps_of (kids_of t)))
unfolding is_proper
value_steps o d (val at b k n ps) t t' e p =
    let m = met o d at b k n ps t t' e in
    let w = see_parts_whole o d ps (make_all (made k n (kind_of t)) (kids_of t)) m.kids m.parts in
    rw (m.tallied, steps_tally, parts_steps o d ps _ m.kids m.parts, steps_make_all)
    (made_fixed o k n ps (kind_of t) (steps_of (kids_of t)) w (and_right (kind_fits o k) (are_proper o k n 0 ps) p))
value_steps o d (cut n at) t t' e p = no_cut o d n at t t' e

-- the places below, in the order in which the values show them
pub all_steps : (o d : ℕ) (vs : List Value) (t t' : Tree) → see_all o d vs t ≡ accepted t' → all_proper o vs ≡ true
    → steps_of (kids_of t') ≡ steps_seen vs (steps_of (kids_of t))
unfolding see_all steps_seen all_proper
all_steps o d [] t t' e p = cc
all_steps o d (v ∷ vs) t t' e p =
    bind_ok (see o d v t) _ t' e λ u e₁ e₂.
    both (is_proper o v) (all_proper o vs) p λ q r.
    all_steps o d vs u t' e₂ r ∙ ap (steps_seen vs) (value_steps o d v t u e₁ q)

-- ---- how many containers held a step
unfoldable pub held_at : Step → Kids → ℕ
held_at s no_kids = 0
held_at s (kid r held tree kids) = when same s r then held else held_at s kids

held_put : (s r : Step) (t : Tree) (ks : Kids) → held_at s (put r t ks) ≡ held_at s ks
unfolding held_at put when◌then◌else◌
held_put s r t no_kids = cases (same s r) (λ e. rw e) (λ e. rw e)
held_put s r t (kid q n u ks) =
    cases (same r q)
    (λ e. rw e)
    (λ e. rw e (ap (λ (m : ℕ). when same s q then n else m) (held_put s r t ks)))

held_make_all : (s : Step) (ss : List Step) (ks : Kids) → held_at s (make_all ss ks) ≡ held_at s ks
unfolding make_all
held_make_all s [] ks = refl
held_make_all s (r ∷ ss) ks = held_make_all s ss (put r (kid_at r ks) ks) ∙ held_put s r (kid_at r ks) ks

held_parts : (o d : ℕ) (s : Step) (ps : Parts) (ks ks' : Kids) → see_parts o d ps ks ≡ accepted ks' → held_at s ks' ≡ held_at s ks
unfolding see
held_parts o d s no_parts ks ks' e = cc
held_parts o d s (cut_off n at) ks ks' e = not_refused e
held_parts o d s (part at r v ps) ks ks' e =
    part_ok o d at r v ps ks ks' e λ t _ e₂.
    held_parts o d s ps (put r t ks) ks' e₂ ∙ held_put s r t ks

-- a step that a part has is among the steps afterwards
pub holds_has : (s : Step) (ps : Parts) (ss : List Step) → holds s ps ≡ true → has s (sights (steps_in ps) ss) ≡ true
unfolding holds sights steps_in
holds_has s no_parts ss e = absurd (false≢true e)
holds_has s (cut_off n at) ss e = absurd (false≢true e)
holds_has s (part at r v ps) ss e =
    cases (same s r)
    (λ q. has_sights s (steps_in ps) (sight r ss) (rw (same_true s r q) (has_sight r ss)))
    (λ q. holds_has s ps (sight r ss) (rw q at e))

held_tally : (s : Step) (ps : Parts) (ks : Kids) → (holds s ps ≡ true → has s (steps_of ks) ≡ true) → held_at s (tally ps ks) ≡ held_at s ks + one (holds s ps)
unfolding held_at tally steps_of has when◌then◌else◌
held_tally s ps no_kids h = cases (holds s ps) (λ e. absurd (false≢true (h e))) (λ e. rw e)
held_tally s ps (kid r n t ks) h =
    cases (same s r)
    (λ e. rw (e, same_true s r e))
    (λ e. rw e (held_tally s ps ks (λ g. rw e at (h g))))

value_held : (o d : ℕ) (s : Step) (v : Value) (t t' : Tree) → see o d v t ≡ accepted t'
    → held_at s (kids_of t') ≡ held_at s (kids_of t) + one (holds s (parts_of v))
value_held o d s (val at b k n ps) t t' e =
    let m = met o d at b k n ps t t' e in
    let h : holds s ps ≡ true → has s (steps_of m.kids) ≡ true = λ g. rw (parts_steps o d ps _ m.kids m.parts) (holds_has s ps _ g) in
    rw (m.tallied, held_tally s ps m.kids h, held_parts o d s ps _ m.kids m.parts, held_make_all)
value_held o d s (cut n at) t t' e = no_cut o d n at t t' e

pub all_held : (o d : ℕ) (s : Step) (vs : List Value) (t t' : Tree) → see_all o d vs t ≡ accepted t'
    → held_at s (kids_of t') ≡ held_at s (kids_of t) + holders s vs
unfolding see_all holders
all_held o d s [] t t' e = let h : t ≡ t' = cc in omega (arith, ap (λ (u : Tree). held_at s (kids_of u)) h)
all_held o d s (v ∷ vs) t t' e =
    bind_ok (see o d v t) _ t' e λ u e₁ e₂.
    omega (arith, all_held o d s vs u t' e₂, value_held o d s v t u e₁)

-- ---- kinds that meet, apart from where
unfoldable pub together : ℕ → ℕ → ℕ → Option ℕ
together options kind other =
    when not (is_container kind || is_container other) then joint options kind other
    else when eqb other null then some kind
    else when eqb kind null then some other
    else when same_container kind other then some kind
    else none

-- one after another
abbrev pub onward : {A B : Type 0} → Option A → (A → Option B) → Option B
onward none f = none
onward (some a) f = f a

unfoldable pub together_all : ℕ → List ℕ → ℕ → Option ℕ
together_all options [] kind = some kind
together_all options (other ∷ others) kind = onward (together options kind other) (together_all options others)

-- a container or variant where none may stand (refusal 7)
abbrev pub is_deep : ℕ → ℕ → Bool
is_deep depth kind = is_container kind && leb depth_limit depth

-- meeting is being together, where it is not too deep
meet_is : (o d at k h : ℕ) → meet o d at k h
    ≡ (when is_deep d h then refused too_deep at else or_refused (when not (is_container k || is_container h) then no_joint else mismatch) at (together o k h))
unfolding meet together when◌then◌else◌
meet_is o d at k h =
    cases (is_deep d h) (λ e. rw e) (λ e.
    cases (not (is_container k || is_container h)) (λ f. rw (e, f)) (λ f.
    cases (eqb h null) (λ g. rw (e, f, g)) (λ g.
    cases (eqb k null) (λ i. rw (e, f, g, i)) (λ i.
    cases (same_container k h) (λ j. rw (e, f, g, i, j)) (λ j. rw (e, f, g, i, j))))))

given : {A : Type 0} (n at : ℕ) (r : Option A) (a : A) → or_refused n at r ≡ accepted a → r ≡ some a
given n at none a e = not_refused e
given n at (some b) a e = cc

pub meet_shallow : (o d at k h j : ℕ) → meet o d at k h ≡ accepted j → is_deep d h ≡ false
unfolding when◌then◌else◌
meet_shallow o d at k h j e =
    cases (is_deep d h) (λ f. let q : refused too_deep at ≡ accepted j = rw f at (sym (meet_is o d at k h) ∙ e) in not_refused q) (λ f. f)

pub meet_together : (o d at k h j : ℕ) → meet o d at k h ≡ accepted j → together o k h ≡ some j
unfolding when◌then◌else◌
meet_together o d at k h j e = given _ at (together o k h) j (rw (meet_shallow o d at k h j e) at (sym (meet_is o d at k h) ∙ e))

pub together_meet : (o d at k h j : ℕ) → is_deep d h ≡ false → together o k h ≡ some j → meet o d at k h ≡ accepted j
unfolding when◌then◌else◌
together_meet o d at k h j e f = rw (meet_is, e, f)

-- the kind that the kinds seen leave, one after another
pub all_kind : (o d : ℕ) (vs : List Value) (t t' : Tree) → see_all o d vs t ≡ accepted t' → together_all o (kinds_seen vs) (kind_of t) ≡ some (kind_of t')
unfolding see_all together_all kinds_seen
all_kind o d [] t t' e = cc
all_kind o d (val at b k n ps ∷ vs) t t' e =
    bind_ok (see o d (val at b k n ps) t) _ t' e λ u e₁ e₂.
    rw (meet_together o d at (kind_of t) k (kind_of u) (met o d at b k n ps t u e₁).kind) (all_kind o d vs u t' e₂)
all_kind o d (cut n at ∷ vs) t t' e = bind_ok (see o d (cut n at) t) _ t' e λ u e₁ _. no_cut o d n at t u e₁
