-- A batch is accepted exactly where every place allows the values that stand there.
use Rattle.std.specs.Prelude.{◌≡◌, refl, List, [], ◌∷◌, ◌++◌, Bool, true, false, not, ◌&&◌, ℕ, suc, ◌+◌, eqb}
use Rattle.std.proofs.Common.{ap, sym, ◌∙◌, append-nil, arith, eqb-true, eq-eqb}
use Rattle.std.proofs.Math.Option.{Option, none, some}
use Rattle.std.proofs.lemmas.Bool.{false≢true}
use Rattle.logic.specs.Test.{when◌then◌else◌}
use Rattle.logic.specs.laws.Test.{cases, both, same_test}
use Rattle.model.specs.Result.{Result, accepted}
use Rattle.model.specs.Kinds.{is_container, Step, same, variant_of, is_variant}
use Rattle.model.specs.Reading.{Value, val, cut, Parts, no_parts, cut_off, part, is_whole, are_whole, all_whole}
use Rattle.model.specs.Tracing.{Tree, node, Kids, marks_of, kind_of, samples_of, kids_of, fresh, dots_of, marks_with, steps_of, has, kid_at, put, renames, clashes, made, one, tally}
use Rattle.model.specs.Census.{parts_of, kind_in, parts_at, below, standing, kinds_seen, fixed_steps, steps_in, sight, sights, steps_seen}
use Rattle.equality.specs.laws.Base.{bind_ok, not_refused, and_left, and_right, or_left_false, or_right_false, or_cases, not_is_true, same_true, same_refl, same_sym}
use Rattle.model.specs.Unbounded.{make_all, allowed, see, see_parts, see_all}
use Rattle.equality.specs.laws.Proper.{kind_fits, part_fits, is_proper, are_proper, all_proper}
use Rattle.equality.specs.Widened.{place_at}
use Rattle.equality.specs.laws.census.Standing.{depth_at, place_fresh, kid_at_put_same, kid_at_put_other, kid_at_make_all, standing_append, met, no_cut, at_place}
use Rattle.equality.specs.laws.tracing.Count.{no_variants, no_clash, made_no_variants, allowed_ok}
use Rattle.equality.specs.laws.tracing.Place.{or_true, and_assoc, has_sight, has_kept, has_sights, has_sight_is, steps_put, steps_make_all, steps_tally, made_fixed, all_steps, onward, together, together_all, is_deep, meet_shallow, together_meet, all_kind, standing_proper}

-- ---- what one place asks of the values that stand there
-- no container where none may stand
unfoldable pub all_shallow : ℕ → List ℕ → Bool
all_shallow depth [] = true
all_shallow depth (kind ∷ kinds) = not (is_deep depth kind) && all_shallow depth kinds

-- no variant's number has two names
abbrev pub Clear : List Step → Type 0
Clear steps = (s r : Step) → has s steps ≡ true → has r steps ≡ true → renames s r ≡ false

-- and the kinds seen go together
pub record Allowed (o d : ℕ) (t : Tree) (vs : List Value) : Type 0 where
  pub shallow : all_shallow d (kinds_seen vs) ≡ true
  pub kind : ℕ
  pub joins : together_all o (kinds_seen vs) (kind_of t) ≡ some kind
  pub clear : Clear (steps_seen vs (steps_of (kids_of t)))

-- ---- one list of values after another
pub kinds_append : (vs ws : List Value) → kinds_seen (vs ++ ws) ≡ kinds_seen vs ++ kinds_seen ws
unfolding kinds_seen
kinds_append [] ws = refl
kinds_append (v ∷ vs) ws = ap (λ (ks : List ℕ). kind_in v ∷ ks) (kinds_append vs ws)

pub together_append : (o : ℕ) (hs is : List ℕ) (k : ℕ) → together_all o (hs ++ is) k ≡ onward (together_all o hs k) (together_all o is)
unfolding together_all
together_append o [] is k = refl
together_append o (h ∷ hs) is k = go (together o k h) (λ j. together_append o hs is j)
  where
    go : (r : Option ℕ) → ((j : ℕ) → together_all o (hs ++ is) j ≡ onward (together_all o hs j) (together_all o is))
        → onward r (together_all o (hs ++ is)) ≡ onward (onward r (together_all o hs)) (together_all o is)
    go none f = refl
    go (some j) f = f j

pub shallow_append : (d : ℕ) (hs is : List ℕ) → all_shallow d (hs ++ is) ≡ (all_shallow d hs && all_shallow d is)
unfolding all_shallow
shallow_append d [] is = refl
shallow_append d (h ∷ hs) is = rw (shallow_append d hs is) (and_assoc (not (is_deep d h)) (all_shallow d hs) (all_shallow d is))

pub seen_append : (vs ws : List Value) (ss : List Step) → steps_seen (vs ++ ws) ss ≡ steps_seen ws (steps_seen vs ss)
unfolding steps_seen
seen_append [] ws ss = refl
seen_append (v ∷ vs) ws ss = seen_append vs ws _

has_seen : (s : Step) (vs : List Value) (ss : List Step) → has s ss ≡ true → has s (steps_seen vs ss) ≡ true
unfolding steps_seen
has_seen s [] ss h = h
has_seen s (v ∷ vs) ss h = has_seen s vs _ (has_sights s (steps_in (parts_of v)) _ (has_sights s (fixed_steps (kind_in v)) ss h))

-- ---- what is allowed for a list is allowed for its front, and for the rest after the front
front : (o d : ℕ) (t : Tree) (vs ws : List Value) → Allowed o d t (vs ++ ws) → Allowed o d t vs
front o d t vs ws a =
    go (together_all o (kinds_seen vs) (kind_of t)) refl (rw (kinds_append, shallow_append) at a.shallow) (rw (kinds_append, together_append) at a.joins)
  where
    go : (r : Option ℕ) → together_all o (kinds_seen vs) (kind_of t) ≡ r → (all_shallow d (kinds_seen vs) && all_shallow d (kinds_seen ws)) ≡ true
        → onward r (together_all o (kinds_seen ws)) ≡ some a.kind → Allowed o d t vs
    go none e w f = absurd (let z : ◌≡◌ {A = ℕ} 0 1 = cc in omega arith)
    go (some k) e w f =
        record {
          shallow = and_left _ (all_shallow d (kinds_seen ws)) w;
          kind = k;
          joins = e;
          clear = λ x y hx hy. a.clear x y (rw seen_append (has_seen x ws _ hx)) (rw seen_append (has_seen y ws _ hy));
        }

after : (o d : ℕ) (t u : Tree) (vs ws : List Value) → Allowed o d t (vs ++ ws) → see_all o d vs t ≡ accepted u → all_proper o vs ≡ true → Allowed o d u ws
after o d t u vs ws a e p =
    let s = all_steps o d vs t u e p in
    record {
      shallow = and_right (all_shallow d (kinds_seen vs)) _ (rw (kinds_append, shallow_append) at a.shallow);
      kind = a.kind;
      joins = rw (kinds_append, together_append, all_kind o d vs t u e) at a.joins;
      clear = λ x y hx hy. a.clear x y (rw (seen_append, ← s) hx) (rw (seen_append, ← s) hy);
    }

-- ---- an allowed batch is accepted
abbrev pub Good : {A : Type 0} → Result A → Type 0
Good {A = A} r = (a : A) × (r ≡ accepted a)

-- a step that may be added renames none that is there
pub unclashing : (s : Step) (ss us : List Step) → Clear us → has s us ≡ true → ((r : Step) → has r ss ≡ true → has r us ≡ true) → clashes s ss ≡ false
unfolding clashes has
unclashing s [] us c h k = refl
unclashing s (r ∷ ss) us c h k = rw (c s r h (k r (rw same_refl)), unclashing s ss us c h (λ q g. k q (rw (g, or_true (same q r)))))

-- one value alone
joins_one : (o h k j : ℕ) → together_all o (h ∷ []) k ≡ some j → together o k h ≡ some j
unfolding together_all
joins_one o h k j e = go (together o k h) refl e
  where
    go : (r : Option ℕ) → together o k h ≡ r → onward r (λ i. some i) ≡ some j → together o k h ≡ some j
    go none p q = cc
    go (some i) p q = cc

one_value : (o d : ℕ) (v : Value) (t u : Tree) → see o d v t ≡ accepted u → see_all o d (v ∷ []) t ≡ accepted u
unfolding see_all
one_value o d v t u e = rw e

one_proper : (o : ℕ) (v : Value) → is_proper o v ≡ true → all_proper o (v ∷ []) ≡ true
unfolding all_proper
one_proper o v p = rw p

-- the places below, for a part at the step s
abbrev Below : ℕ → ℕ → Kids → Parts → Type 0
Below o d ks ps = (s : Step) (steps : List Step) → Allowed o (depth_at (d + dots_of s) steps) (place_at steps (kid_at s ks)) (standing steps (parts_at s ps))

first_split : (o d at : ℕ) (s : Step) (v : Value) (ps : Parts) (ks : Kids) → Below o d ks (part at s v ps) → (steps : List Step)
    → Allowed o (depth_at (d + dots_of s) steps) (place_at steps (kid_at s ks)) (standing steps (v ∷ []) ++ standing steps (parts_at s ps))
unfolding parts_at when◌then◌else◌
first_split o d at s v ps ks h steps = rw (same_refl s, standing_append steps (v ∷ []) (parts_at s ps)) at (h s steps)

-- where a list of values is allowed after one that was accepted
rest : (o d : ℕ) (v : Value) (vs : List Value) (t u : Tree) (steps : List Step) → is_proper o v ≡ true → see o d v t ≡ accepted u
    → Allowed o (depth_at d steps) (place_at steps t) (standing steps (v ∷ []) ++ standing steps vs) → Allowed o (depth_at d steps) (place_at steps u) (standing steps vs)
rest o d v vs t u steps p e a =
    after o (depth_at d steps) (place_at steps t) (place_at steps u) (standing steps (v ∷ [])) (standing steps vs) a (at_place o d steps (v ∷ []) t u (one_value o d v t u e))
    (standing_proper o steps (v ∷ []) (one_proper o v p))

rest_allowed : (o d at : ℕ) (s : Step) (v : Value) (ps : Parts) (ks : Kids) (t : Tree) → Below o d ks (part at s v ps) → is_proper o v ≡ true
    → see o (d + dots_of s) v (kid_at s ks) ≡ accepted t → Below o d (put s t ks) ps
unfolding parts_at when◌then◌else◌
rest_allowed o d at s v ps ks t h p e q steps =
    cases (same q s)
    (λ f. rw (same_true q s f, kid_at_put_same) (rest o (d + dots_of s) v (parts_at s ps) (kid_at s ks) t steps p e (first_split o d at s v ps ks h steps)))
    (λ f. rw (kid_at_put_other q s t ks f) (rw f at (h q steps)))

mutual
  unfolding see standing place_at depth_at below is_whole is_proper all_shallow kinds_seen steps_in sights steps_seen allowed when◌then◌else◌

  value_good : (o d : ℕ) (v : Value) (t : Tree) → is_whole v ≡ true → is_proper o v ≡ true
      → ((steps : List Step) → Allowed o (depth_at d steps) (place_at steps t) (standing steps (v ∷ []))) → Good (see o d v t)
  value_good o d (cut n at) t w p h = absurd (false≢true w)
  value_good o d (val at b k n ps) t w p h =
      let a = h [] in
      let q : are_proper o k n 0 ps ≡ true = and_right (kind_fits o k) (are_proper o k n 0 ps) p in
      let f : is_deep d k ≡ false = not_is_true (is_deep d k) (and_left (not (is_deep d k)) true a.shallow) in
      let g = parts_good o d k n 0 ps (make_all (made k n (kind_of t)) (kids_of t)) w q (rw (steps_make_all, made_fixed o k n ps (kind_of t) (steps_of (kids_of t)) w q) a.clear)
      (λ s steps. rw kid_at_make_all (rw append-nil at (h (s ∷ steps)))) in (
        node (marks_with b (kind_of t) k (marks_of t)) a.kind (samples_of t + one (is_container k)) (tally ps g.0),
        rw (together_meet o d at (kind_of t) k a.kind f (joins_one o k (kind_of t) a.kind a.joins), g.1),
      )

  parts_good : (o d k n i : ℕ) (ps : Parts) (ks : Kids) → are_whole ps ≡ true → are_proper o k n i ps ≡ true → Clear (sights (steps_in ps) (steps_of ks)) → Below o d ks ps
      → Good (see_parts o d ps ks)
  parts_good o d k n i no_parts ks w p c h = (ks, refl)
  parts_good o d k n i (cut_off l at) ks w p c h = absurd (false≢true w)
  parts_good o d k n i (part at s v ps) ks w p c h =
      let x = unclashing s (steps_of ks) (sights (steps_in ps) (sight s (steps_of ks))) c (has_sights s (steps_in ps) _ (has_sight s (steps_of ks)))
      (λ r g. has_sights r (steps_in ps) _ (has_kept r s (steps_of ks) g)) in
      let q : is_proper o v ≡ true = and_right (part_fits k i s) (is_proper o v) (and_left (part_fits k i s && is_proper o v) (are_proper o k n (suc i) ps) p) in
      let g = value_good o (d + dots_of s) v (kid_at s ks) (and_left (is_whole v) (are_whole ps) w) q
      (λ steps. front o _ _ (standing steps (v ∷ [])) (standing steps (parts_at s ps)) (first_split o d at s v ps ks h steps)) in
      let r = parts_good o d k n (suc i) ps (put s g.0 ks) (and_right (is_whole v) (are_whole ps) w) (and_right (part_fits k i s && is_proper o v) (are_proper o k n (suc i) ps) p)
      (rw steps_put c) (rest_allowed o d at s v ps ks g.0 h q g.1) in
      (r.0, rw (x, g.1) r.1)

pub accepts : (o d : ℕ) (vs : List Value) (t : Tree) → all_whole vs ≡ true → all_proper o vs ≡ true
    → ((steps : List Step) → Allowed o (depth_at d steps) (place_at steps t) (standing steps vs)) → Good (see_all o d vs t)
unfolding see_all all_whole all_proper
accepts o d [] t w p h = (t, refl)
accepts o d (v ∷ vs) t w p h =
    let split : (steps : List Step) → Allowed o (depth_at d steps) (place_at steps t) (standing steps (v ∷ []) ++ standing steps vs)
    = λ steps. rw (standing_append steps (v ∷ []) vs) at (h steps) in
    let q : is_proper o v ≡ true = and_left (is_proper o v) (all_proper o vs) p in
    let g = value_good o d v t (and_left (is_whole v) (all_whole vs) w) q (λ steps. front o _ _ (standing steps (v ∷ [])) (standing steps vs) (split steps)) in
    let r = accepts o d vs g.0 (and_right (is_whole v) (all_whole vs) w) (and_right (is_proper o v) (all_proper o vs) p) (λ steps. rest o d v vs t g.0 steps q g.1 (split steps)) in
    (r.0, rw g.1 r.1)

-- ---- an accepted batch is allowed at every place
and_false : (a : Bool) → (a && false) ≡ false
and_false true = refl
and_false false = refl

and_comm : (a b : Bool) → (a && b) ≡ (b && a)
and_comm true true = refl
and_comm true false = refl
and_comm false true = refl
and_comm false false = refl

eqb_sym : (a b : ℕ) → eqb a b ≡ eqb b a
eqb_sym a b = same_test (eqb a b) (eqb b a) (λ e. eq-eqb b a (sym (eqb-true a b e))) (λ e. eq-eqb a b (sym (eqb-true b a e)))

pub renames_sym : (s r : Step) → renames s r ≡ renames r s
renames_sym s r = rw (and_comm (is_variant s) (is_variant r), eqb_sym (variant_of s) (variant_of r), same_sym s r)

pub renames_self : (s : Step) → renames s s ≡ false
renames_self s = rw (same_refl s, and_false (eqb (variant_of s) (variant_of s)), and_false (is_variant s && is_variant s))

unclashed : (s r : Step) (ss : List Step) → clashes s ss ≡ false → has r ss ≡ true → renames s r ≡ false
unfolding clashes has
unclashed s r [] e h = absurd (false≢true h)
unclashed s r (q ∷ ss) e h =
    or_cases (same r q) (has r ss) h
    (λ f. rw (same_true r q f) (or_left_false (renames s q) (clashes s ss) e))
    (λ f. unclashed s r ss (or_right_false (renames s q) (clashes s ss) e) f)

clear_sight : (s : Step) (ss : List Step) → Clear ss → clashes s ss ≡ false → Clear (sight s ss)
clear_sight s ss c e a b ha hb =
    or_cases (has a ss) (same a s) (sym (has_sight_is a s ss) ∙ ha)
    (λ x. or_cases (has b ss) (same b s) (sym (has_sight_is b s ss) ∙ hb)
    (λ y. c a b x y)
    (λ y. rw (same_true b s y) (renames_sym a s ∙ unclashed s a ss e x)))
    (λ x. or_cases (has b ss) (same b s) (sym (has_sight_is b s ss) ∙ hb)
    (λ y. rw (same_true a s x) (unclashed s b ss e y))
    (λ y. rw (same_true a s x, same_true b s y) (renames_self s)))

clear_made : (rs ss : List Step) → no_variants rs ≡ true → Clear ss → Clear (sights rs ss)
unfolding sights
clear_made [] ss e c = c
clear_made (r ∷ rs) ss e c = both (not (is_variant r)) (no_variants rs) e λ p q. clear_made rs (sight r ss) q (clear_sight r ss c (no_clash r ss p))

clear_parts : (o d : ℕ) (ps : Parts) (ks ks' : Kids) → see_parts o d ps ks ≡ accepted ks' → Clear (steps_of ks) → Clear (steps_of ks')
unfolding see
clear_parts o d no_parts ks ks' e c = let h : ks ≡ ks' = cc in rw (← h) c
clear_parts o d (cut_off n at) ks ks' e c = not_refused e
clear_parts o d (part at s v ps) ks ks' e c =
    bind_ok (allowed at s ks) _ ks' e λ x g e₁.
    bind_ok (see o (d + dots_of s) v (kid_at s ks)) _ ks' e₁ λ t _ e₂.
    clear_parts o d ps (put s t ks) ks' e₂ (rw steps_put (clear_sight s (steps_of ks) c (allowed_ok at s ks x g)))

clear_value : (o d : ℕ) (v : Value) (t t' : Tree) → see o d v t ≡ accepted t' → Clear (steps_of (kids_of t)) → (is_deep d (kind_in v) ≡ false) × Clear (steps_of (kids_of t'))
clear_value o d (cut n at) t t' e c = no_cut o d n at t t' e
clear_value o d (val at b k n ps) t t' e c =
    let m = met o d at b k n ps t t' e in
    let r = clear_parts o d ps (make_all (made k n (kind_of t)) (kids_of t)) m.kids m.parts
    (rw steps_make_all (clear_made (made k n (kind_of t)) (steps_of (kids_of t)) (made_no_variants k n (kind_of t)) c)) in
    (meet_shallow o d at (kind_of t) k (kind_of t') m.kind, rw (m.tallied, steps_tally) r)

pub clear_all : (o d : ℕ) (vs : List Value) (t t' : Tree) → see_all o d vs t ≡ accepted t' → Clear (steps_of (kids_of t))
    → (all_shallow d (kinds_seen vs) ≡ true) × Clear (steps_of (kids_of t'))
unfolding see_all all_shallow kinds_seen
clear_all o d [] t t' e c = let h : t ≡ t' = cc in (refl, rw (← h) c)
clear_all o d (v ∷ vs) t t' e c =
    bind_ok (see o d v t) _ t' e λ u e₁ e₂.
    let a = clear_value o d v t u e₁ c in
    let r = clear_all o d vs u t' e₂ a.1 in
    (rw a.0 r.0, r.1)

pub allows_here : (o d : ℕ) (vs : List Value) (t t' : Tree) → see_all o d vs t ≡ accepted t' → all_proper o vs ≡ true → Clear (steps_of (kids_of t)) → Allowed o d t vs
allows_here o d vs t t' e p c =
    let a = clear_all o d vs t t' e c in
    record { shallow = a.0; kind = kind_of t'; joins = all_kind o d vs t t' e; clear = rw (← (all_steps o d vs t t' e p)) a.1 }

pub allows : (o : ℕ) (vs : List Value) (t : Tree) → see_all o 0 vs fresh ≡ accepted t → all_proper o vs ≡ true
    → (steps : List Step) → Allowed o (depth_at 0 steps) (place_at steps fresh) (standing steps vs)
unfolding steps_of has
allows o vs t e p steps =
    allows_here o (depth_at 0 steps) (standing steps vs) (place_at steps fresh) (place_at steps t) (at_place o 0 steps vs fresh t e) (standing_proper o steps vs p)
    (rw place_fresh (λ s r h _. absurd (false≢true h)))
