-- A place is widened exactly where two of the types seen there differ, neither of them Null (document 02, 1/14); and none that is a container is.
use Rattle.std.specs.Prelude.{◌≡◌, refl, Bool, true, false, not, ◌&&◌, ◌||◌, List, [], ◌∷◌, ℕ, eqb}
use Rattle.std.proofs.Common.{ap, sym, ◌∙◌, arith, eqb-true, eq-eqb, ne_eqb}
use Rattle.std.proofs.lemmas.Bool.{eqb-false}
use Rattle.std.proofs.Math.Bool.{and-false}
use Rattle.std.proofs.Math.Option.{some, some-injective}
use Rattle.logic.specs.Test.{when◌then◌else◌}
use Rattle.logic.specs.laws.Test.{cases}
use Rattle.logic.specs.laws.Flag.{if_either}
use Rattle.logic.specs.All.{has}
use Rattle.datatype.specs.Codes.{null}
use Rattle.options.specs.Word.{string_as_large_utf8}
use Rattle.coerce.specs.Joint.{joint}
use Rattle.coerce.specs.Census.{non_null}
use Rattle.coerce.specs.laws.Joined.{joint_null, null_joint, joint_same, joint_among}
use Rattle.model.specs.Result.{accepted}
use Rattle.model.specs.Kinds.{is_container, Step}
use Rattle.model.specs.Reading.{Value, val, cut}
use Rattle.model.specs.Tracing.{Tree, node, marks_of, kind_of, fresh, widens}
use Rattle.model.specs.Emission.{place_of}
use Rattle.model.specs.Census.{standing, kinds_seen, types_seen, is_widened}
use Rattle.equality.specs.laws.Base.{bind_ok}
use Rattle.model.specs.Unbounded.{see, see_all}
use Rattle.equality.specs.laws.emission.Fields.{marks_at}
use Rattle.equality.specs.Widened.{place_at}
use Rattle.equality.specs.laws.census.Standing.{depth_at, place_fresh, met, no_cut, at_place}
use Rattle.equality.specs.laws.tracing.Place.{or_assoc, or_false, together, together_all, meet_together, all_kind}
use Rattle.equality.specs.laws.census.Kind.{onward_some, is_typed, meets_container, first_container, no_containers}

-- ---- the types seen, Null aside
abbrev pub types_in : List ℕ → List ℕ
types_in kinds = non_null (types_seen kinds)

pub types_more : (k : ℕ) (kinds : List ℕ) → types_in (k ∷ kinds) ≡ (when is_typed k then k ∷ types_in kinds else types_in kinds)
unfolding types_seen non_null when◌then◌else◌
types_more k kinds = cases (is_container k) (λ e. rw e) (λ e. cases (eqb k null) (λ f. rw (e, f)) (λ f. rw (e, f)))

pub types_have : (p : ℕ → Bool) (k : ℕ) (kinds : List ℕ) → has p (types_in (k ∷ kinds)) ≡ ((is_typed k && p k) || has p (types_in kinds))
unfolding has when◌then◌else◌
types_have p k kinds = rw (types_more k kinds) (cases (is_typed k) (λ e. rw e) (λ e. rw e))

-- ---- the ways in which kinds meet: an unknown place takes any, what is no type leaves the place as it is, and two types have their joint
meets : {P : Type 0} (o k h j : ℕ) → together o k h ≡ some j → (k ≡ null → h ≡ j → P) → (is_typed h ≡ false → k ≡ j → P)
    → (is_typed k ≡ true → is_typed h ≡ true → joint o k h ≡ some j → P) → P
meets o k h j e taken kept joined =
    cases (is_container k) (λ a. let m = meets_container o k h j a e in kept m.0 m.1) λ a.
    cases (is_container h) (λ b. let m = first_container o k h j a b e in taken m.0 m.1) λ b.
    let g : joint o k h ≡ some j = sym (no_containers o k h a b) ∙ e in
    cases (eqb k null)
    (λ c. let z : k ≡ null = eqb-true k null c in taken z (some-injective h j (sym (null_joint o h) ∙ (rw z at g)))) λ c.
    cases (eqb h null)
    (λ d. let z : h ≡ null = eqb-true h null d in kept (rw z) (some-injective k j (sym (joint_null o k) ∙ (rw z at g)))) λ d.
    joined (rw (a, c)) (rw (b, d)) g

-- the joint of two types is one
joint_typed : (o k h j : ℕ) → is_typed k ≡ true → is_typed h ≡ true → joint o k h ≡ some j → is_typed j ≡ true
joint_typed o k h j a b e =
    joint_among (λ t. is_typed t ≡ true) o k h j a b refl refl refl (if_either (λ t. is_typed t ≡ true) (string_as_large_utf8 o) refl refl) e

-- ---- what widens a place
widens_is : (k h : ℕ) → widens k h ≡ (is_typed k && (is_typed h && not (eqb k h)))
widens_is k h = of_tests (is_container k) (is_container h) (eqb k null) (eqb h null) (eqb k h)
  where
    of_tests : (a b c d e : Bool) → (not (a || b) && (not c && not d && not e)) ≡ ((not a && not c) && ((not b && not d) && not e))
    of_tests true b c d e = refl
    of_tests false true true d e = refl
    of_tests false true false d e = refl
    of_tests false false true d e = refl
    of_tests false false false true e = refl
    of_tests false false false false e = refl

-- the kind that a place has stands for the kinds seen before
widened_more : (o k h j : ℕ) (kinds : List ℕ) → together o k h ≡ some j → (widens k h || is_widened (j ∷ kinds)) ≡ is_widened (k ∷ h ∷ kinds)
unfolding has when◌then◌else◌
widened_more o k h j kinds e =
    rw (widens_is k h, types_more j kinds, types_more k (h ∷ kinds), types_more h kinds) (
    meets o k h j e
    (λ z q. rw (z, q))
    (λ n q. rw (n, q, and-false (is_typed j)))
    (λ a b g. cases (eqb k h)
    (λ q.
    let z : k ≡ h = eqb-true k h q in
    let y : k ≡ j = some-injective k j (sym (joint_same o k) ∙ (rw (← z) at g)) in
    rw (← z, ← y, a, eq-eqb k k refl))
    (λ q. rw (a, b, q, ne_eqb h k (λ r. eqb-false k h q (sym r))))))

one_kind : (k : ℕ) → is_widened (k ∷ []) ≡ false
unfolding types_seen non_null has when◌then◌else◌
one_kind k = rw (types_more k []) (cases (is_typed k) (λ e. rw e) (λ e. rw e))

-- what was widened stays so, and else a place is where its kind and those seen make it so
all_widened : (o d : ℕ) (vs : List Value) (t t' : Tree) → see_all o d vs t ≡ accepted t' → (marks_of t').widened ≡ ((marks_of t).widened || is_widened (kind_of t ∷ kinds_seen vs))
unfolding see_all kinds_seen
all_widened o d [] t t' e = let h : t ≡ t' = cc in rw (one_kind (kind_of t), or_false) (sym (ap (λ (u : Tree). (marks_of u).widened) h))
all_widened o d (val at b k n ps ∷ vs) t t' e =
    bind_ok (see o d (val at b k n ps) t) _ t' e λ u e₁ e₂.
    let m = met o d at b k n ps t u e₁ in
    rw (all_widened o d vs u t' e₂, m.marks) (
    or_assoc (marks_of t).widened (widens (kind_of t) k) (is_widened (kind_of u ∷ kinds_seen vs))
    ∙ ap (◌||◌ (marks_of t).widened) (widened_more o (kind_of t) k (kind_of u) (kinds_seen vs) (meet_together o d at (kind_of t) k (kind_of u) m.kind)))
all_widened o d (cut n at ∷ vs) t t' e = bind_ok (see o d (cut n at) t) _ t' e λ u e₁ _. no_cut o d n at t u e₁

pub widened_seen : (o d : ℕ) (vs : List Value) (t : Tree) → see_all o d vs fresh ≡ accepted t → (marks_of t).widened ≡ is_widened (kinds_seen vs)
unfolding types_seen non_null when◌then◌else◌
widened_seen o d vs t e = all_widened o d vs fresh t e

-- at the end of any steps too
pub place_widened : (o : ℕ) (vs : List Value) (t : Tree) (steps : List Step) → see_all o 0 vs fresh ≡ accepted t
    → (marks_of (place_at steps t)).widened ≡ is_widened (kinds_seen (standing steps vs))
place_widened o vs t steps e = widened_seen o (depth_at 0 steps) (standing steps vs) (place_at steps t) (rw place_fresh at (at_place o 0 steps vs fresh t e))

-- ---- where a container stands no type was seen, since a type never becomes a container
no_types : (o : ℕ) (kinds : List ℕ) (k c : ℕ) → is_container c ≡ true → together_all o kinds k ≡ some c → types_in (k ∷ kinds) ≡ []
unfolding together_all types_seen non_null when◌then◌else◌
no_types o [] k c i e = let q : k ≡ c = some-injective k c e in rw (q, i)
no_types o (h ∷ kinds) k c i e =
    onward_some (together o k h) (together_all o kinds) c e λ j p q.
    let ih = no_types o kinds j c i q in
    meets o k h j p
    (λ z w. rw (z, w) ih)
    (λ n w. rw (types_more k (h ∷ kinds), types_more h kinds, n, w) (sym (types_more j kinds) ∙ ih))
    (λ a b g. absurd (let z : j ∷ types_in kinds ≡ [] = rw (types_more j kinds, joint_typed o k h j a b g) at ih in let y : ◌≡◌ {A = ℕ} 0 1 = cc in omega arith))

-- so that it is not widened
unwidened : (o d : ℕ) (vs : List Value) (t : Tree) → see_all o d vs fresh ≡ accepted t → is_container (kind_of t) ≡ true → (marks_of t).widened ≡ false
unwidened o d vs t e c = all_widened o d vs fresh t e ∙ rw (no_types o (kinds_seen vs) null (kind_of t) c (all_kind o d vs fresh t e))

pub container_unwidened : (o : ℕ) (vs : List Value) (t : Tree) (steps : List Step) → see_all o 0 vs fresh ≡ accepted t → is_container (kind_of (place_at steps t)) ≡ true
    → (marks_of (place_at steps t)).widened ≡ false
container_unwidened o vs t steps e = unwidened o (depth_at 0 steps) (standing steps vs) (place_at steps t) (rw place_fresh at (at_place o 0 steps vs fresh t e))

-- emission leaves that mark as it is
pub widened_place : (missing : Bool) (t : Tree) → (marks_at (place_of missing t)).widened ≡ (marks_of t).widened
unfolding place_of
widened_place missing (node m kind samples kids) = refl
