-- The kind that the values at a place leave there is the one that the census reads off the kinds seen.
use Rattle.std.specs.Prelude.{◌≡◌, refl, Bool, true, false, not, ◌&&◌, List, [], ◌∷◌, ℕ, ◌<◌, eqb}
use Rattle.std.proofs.Common.{ap, sym, ◌∙◌, true≢false, arith, eqb-true, leb-false}
use Rattle.std.proofs.lemmas.Bool.{false≢true, lt-leb}
use Rattle.std.proofs.Math.Option.{Option, none, some}
use Rattle.logic.specs.Test.{when◌then◌else◌}
use Rattle.logic.specs.laws.Test.{cases}
use Rattle.logic.specs.All.{All, has}
use Rattle.logic.specs.Maybe.{and_then}
use Rattle.datatype.specs.Codes.{null}
use Rattle.options.specs.Word.{allow_to_string, edition2}
use Rattle.coerce.specs.Joint.{is_integer, is_float, joint}
use Rattle.coerce.specs.laws.Rules.{Fits}
use Rattle.coerce.specs.laws.Joined.{joined_from, joint_below, joined_seen}
use Rattle.coerce.specs.laws.Sets.{never_both}
use Rattle.model.specs.Result.{accepted}
use Rattle.model.specs.Kinds.{sequence_kind, struct_kind, map_mode_kind, is_container, is_struct}
use Rattle.model.specs.Reading.{Value, val, cut}
use Rattle.model.specs.Tracing.{Tree, kind_of, fresh, same_container}
use Rattle.model.specs.Census.{kind_in, kinds_seen, container_seen, kind_seen}
use Rattle.equality.specs.laws.Base.{and_left, and_right, or_cases}
use Rattle.model.specs.Unbounded.{see_all}
use Rattle.equality.specs.laws.Proper.{kind_fits, is_proper, are_proper, all_proper}
use Rattle.equality.specs.laws.tracing.Place.{together, onward, together_all, all_kind}
use Rattle.equality.specs.laws.tracing.Kinds.{type_fits_lem, fits_joint}

pub onward_some : {A B P : Type 0} (o : Option A) (f : A → Option B) (b : B) → onward o f ≡ some b → ((a : A) → o ≡ some a → f a ≡ some b → P) → P
onward_some none f b e k = absurd (let z : ◌≡◌ {A = ℕ} 0 1 = cc in omega arith)
onward_some (some a) f b e k = k a refl e

nothing : {P : Type 0} {a : ℕ} → none ≡ some a → P
nothing e = absurd (let z : ◌≡◌ {A = ℕ} 0 1 = cc in omega arith)

-- a type, and not Null
abbrev pub is_typed : ℕ → Bool
is_typed kind = not (is_container kind) && not (eqb kind null)

-- ---- a container that was seen stays: what meets it later is Null or the same container
pub struct_is_container : (k : ℕ) → is_struct k ≡ true → is_container k ≡ true
struct_is_container k e = or_cases (eqb k struct_kind) (eqb k map_mode_kind) e (λ a. rw (eqb-true k struct_kind a)) (λ a. rw (eqb-true k map_mode_kind a))

same_is_container : (k h : ℕ) → is_container k ≡ true → same_container k h ≡ true → is_container h ≡ true
same_is_container k h c e =
    or_cases (eqb k h) (is_struct k && is_struct h) e
    (λ a. sym (ap is_container (eqb-true k h a)) ∙ c)
    (λ a. struct_is_container h (and_right (is_struct k) (is_struct h) a))

pub meets_container : (o k h j : ℕ) → is_container k ≡ true → together o k h ≡ some j → (is_typed h ≡ false) × (k ≡ j)
unfolding together when◌then◌else◌
meets_container o k h j c e =
    cases (eqb h null) (λ a. let q : some k ≡ some j = rw (c, a) at e in (rw (eqb-true h null a), cc)) λ a.
    cases (eqb k null) (λ b. absurd (true≢false (sym c ∙ ap is_container (eqb-true k null b)))) λ b.
    cases (same_container k h)
    (λ g. let q : some k ≡ some j = rw (c, a, b, g) at e in (rw (same_is_container k h c g), cc))
    (λ g. nothing (rw (c, a, b, g) at e))

stays : (o : ℕ) (kinds : List ℕ) (k t : ℕ) → is_container k ≡ true → together_all o kinds k ≡ some t → k ≡ t
unfolding together_all
stays o [] k t c e = cc
stays o (h ∷ kinds) k t c e =
    onward_some (together o k h) (together_all o kinds) t e λ j p q.
    let s = (meets_container o k h j c p).1 in
    stays o kinds k t c (rw (← s) at q)

-- ---- a container that meets no container finds the place unknown or Null
no_container : (k h : ℕ) → is_container k ≡ false → is_container h ≡ true → same_container k h ≡ false
no_container k h a b =
    cases (eqb k h)
    (λ e. absurd (true≢false (sym b ∙ ap is_container (sym (eqb-true k h e)) ∙ a)))
    (λ e. cases (is_struct k) (λ f. absurd (true≢false (sym (struct_is_container k f) ∙ a))) (λ f. rw (e, f)))

pub first_container : (o k h j : ℕ) → is_container k ≡ false → is_container h ≡ true → together o k h ≡ some j → (k ≡ null) × (h ≡ j)
unfolding together when◌then◌else◌
first_container o k h j a b e =
    cases (eqb h null) (λ c. absurd (true≢false (sym b ∙ ap is_container (eqb-true h null c)))) λ c.
    cases (eqb k null)
    (λ d. let q : some h ≡ some j = rw (a, b, c, d) at e in (eqb-true k null d, cc))
    (λ d. nothing (rw (a, b, c, d, no_container k h a b) at e))

pub no_containers : (o k h : ℕ) → is_container k ≡ false → is_container h ≡ false → together o k h ≡ joint o k h
unfolding together when◌then◌else◌
no_containers o k h a b = rw (a, b)

below_containers : (k : ℕ) → is_container k ≡ false → k < sequence_kind
below_containers k e = leb-false sequence_kind k e

joint_no_container : (o k h j : ℕ) → is_container k ≡ false → is_container h ≡ false → joint o k h ≡ some j → is_container j ≡ false
joint_no_container o k h j a b e =
    lt-leb sequence_kind j (joint_below sequence_kind o k h j (omega arith) (below_containers k a) (below_containers h b) e)

-- ---- so the first container is the kind, and where there is none the types are joined
pub record Reads (o k t : ℕ) (kinds : List ℕ) : Type 0 where
  pub container : is_container (container_seen kinds) ≡ true → t ≡ container_seen kinds
  pub type : is_container (container_seen kinds) ≡ false → joined_from o k kinds ≡ some t

reads : (o : ℕ) (kinds : List ℕ) (k t : ℕ) → is_container k ≡ false → together_all o kinds k ≡ some t → Reads o k t kinds
unfolding together_all container_seen joined_from and_then when◌then◌else◌
reads o [] k t a e = record { container = λ c. absurd (false≢true c); type = λ c. e }
reads o (h ∷ kinds) k t a e =
    onward_some (together o k h) (together_all o kinds) t e λ j p q.
    cases (is_container h)
    (λ b.
    let s = (first_container o k h j a b p).1 in
    let z : h ≡ t = stays o kinds h t b (rw (← s) at q) in
    record { container = λ c. rw b (sym z); type = λ c. absurd (true≢false (sym b ∙ (rw b at c))) })
    (λ b.
    let g : joint o k h ≡ some j = sym (no_containers o k h a b) ∙ p in
    let ih = reads o kinds j t (joint_no_container o k h j a b g) q in
    record { container = λ c. rw b (ih.container (rw b at c)); type = λ c. rw g (ih.type (rw b at c)) })

-- ---- types that fit
pub kind_fits_lem : (o : ℕ) (v : Value) → is_proper o v ≡ true → kind_fits o (kind_in v) ≡ true
unfolding is_proper when◌then◌else◌
kind_fits_lem o (val at b k n ps) p = and_left (kind_fits o k) (are_proper o k n 0 ps) p
kind_fits_lem o (cut n at) p = refl

kinds_fit : (o : ℕ) (vs : List Value) → all_proper o vs ≡ true → is_container (container_seen (kinds_seen vs)) ≡ false → All (Fits o) (kinds_seen vs)
unfolding all_proper is_proper kinds_seen container_seen when◌then◌else◌
kinds_fit o [] p c = tt
kinds_fit o (v ∷ vs) p c =
    cases (is_container (kind_in v))
    (λ b. absurd (true≢false (sym b ∙ (rw b at c))))
    (λ b. (fits_joint o (kind_in v) (type_fits_lem o (kind_in v) b (kind_fits_lem o v (and_left (is_proper o v) (all_proper o vs) p))), kinds_fit o vs (and_right (is_proper o v) (all_proper o vs) p) (rw b at c)))

pub kind_seen_lem : (o d : ℕ) (vs : List Value) (t : Tree) → allow_to_string o ≡ false → all_proper o vs ≡ true → see_all o d vs fresh ≡ accepted t → kind_of t ≡ kind_seen o (kinds_seen vs)
unfolding kind_seen when◌then◌else◌
kind_seen_lem o d vs t f p e =
    let r = reads o (kinds_seen vs) null (kind_of t) refl (all_kind o d vs fresh t e) in
    cases (is_container (container_seen (kinds_seen vs)))
    (λ c. rw c (r.container c))
    (λ c. rw c (joined_seen o f (kind_of t) (kinds_seen vs) (kinds_fit o vs p c) (r.type c)))

-- In edition 2 no place that is traced and is no container holds integers and floats both, so that what the census reads off the types seen
-- stays document 01's. No proof cites this.
pub kinds_apart : (o d : ℕ) (vs : List Value) (t : Tree) → allow_to_string o ≡ false → edition2 o ≡ true → all_proper o vs ≡ true → see_all o d vs fresh ≡ accepted t →
    is_container (container_seen (kinds_seen vs)) ≡ false → (has is_integer (kinds_seen vs) && has is_float (kinds_seen vs)) ≡ false
kinds_apart o d vs t off second p e c =
    let r = reads o (kinds_seen vs) null (kind_of t) refl (all_kind o d vs fresh t e) in
    never_both o off second (kind_of t) (kinds_seen vs) (kinds_fit o vs p c) (r.type c)
