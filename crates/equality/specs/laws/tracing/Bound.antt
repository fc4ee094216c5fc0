-- Tracer::from_samples has no bound on places: the bound changes nothing but where it is met (refusal 11).
use Rattle.std.specs.Prelude.{◌≡◌, refl, List, [], ◌∷◌, true, false, not, ℕ, ◌+◌, ◌≤◌, ltb}
use Rattle.std.proofs.Common.{sym, ◌∙◌, true≢false, arith, ltb-false}
use Rattle.std.proofs.Math.Option.{Option, none, some}
use Rattle.logic.specs.Test.{when◌then◌else◌}
use Rattle.logic.specs.laws.Test.{cases}
use Rattle.refusal.specs.Number.{two_names, no_joint, too_many_places}
use Rattle.coerce.specs.Joint.{joint}
use Rattle.model.specs.Result.{Result, accepted, refused, ◌>>=◌, or_refused}
use Rattle.model.specs.Kinds.{Step, is_variant}
use Rattle.model.specs.Reading.{Value, val, cut, Parts, no_parts, cut_off, part}
use Rattle.model.specs.Tracing.{Tree, Kids, kind_of, kids_of, fresh, dots_of, place_limit, meet, steps_of, has, kid_at, put, clashes, room, made, make, observe, observe_parts, observe_all, trace}
use Rattle.equality.specs.laws.Base.{and_left, and_right, not_refused, choice}
use Rattle.model.specs.Unbounded.{allowed, see, see_parts, see_all}
use Rattle.equality.specs.laws.tracing.Count.{no_variants, made_no_variants, no_clash, counted_make, counted, room_ok}

-- a refusal is the same whatever was asked for
same_refusal : {A B : Type 0} {n at m p : ℕ} → ◌≡◌ {A = Result A} (refused n at) (refused m p) → ◌≡◌ {A = Result B} (refused n at) (refused m p)
same_refusal {n = n} {at = at} {m = m} {p = p} e = let a : n ≡ m = cc in let b : at ≡ p = cc in rw (a, b) refl

-- what is refused was refused at first, or after it
pub bind_no : {A B P : Type 0} (r : Result A) (f : A → Result B) (m p : ℕ) → (r >>= f) ≡ refused m p → (r ≡ refused m p → P) → ((a : A) → r ≡ accepted a → f a ≡ refused m p → P) → P
bind_no (accepted a) f m p e h k = k a refl e
bind_no (refused n at) f m p e h k = h (same_refusal e)

pub not_accepted : {A P : Type 0} {n at : ℕ} {a : A} → accepted a ≡ refused n at → P
not_accepted e = not_refused (sym e)

abbrev pub Other : ℕ → Type 0
Other m = m ≡ too_many_places → ⊥

-- room is refused for two names, or for the bound
pub room_no : {P : Type 0} (at : ℕ) (s : Step) (n : ℕ) (ks : Kids) (m p : ℕ) → room at s n ks ≡ refused m p → Other m → (clashes s (steps_of ks) ≡ true → allowed at s ks ≡ refused m p → P) → P
unfolding room allowed when◌then◌else◌
room_no at s n ks m p e o k =
    cases (clashes s (steps_of ks))
    (λ f. let q : ◌≡◌ {A = Result ℕ} (refused two_names at) (refused m p) = rw f at e in k f (rw f (same_refusal q)))
    (λ f.
    cases (has s (steps_of ks))
    (λ g. let q : accepted n ≡ refused m p = rw (f, g) at e in not_accepted q)
    (λ g.
    cases (ltb n place_limit)
    (λ h. let q : accepted (n + 1) ≡ refused m p = rw (f, g, h) at e in not_accepted q)
    (λ h. let q : ◌≡◌ {A = Result ℕ} (refused too_many_places at) (refused m p) = rw (f, g, h) at e in absurd (o (let z : too_many_places ≡ m = cc in sym z)))))

-- for the bound, where it is reached, and the place is not there
pub eleven_room : {P : Type 0} (at : ℕ) (s : Step) (n : ℕ) (ks : Kids) (p : ℕ) → room at s n ks ≡ refused too_many_places p
    → (clashes s (steps_of ks) ≡ false → has s (steps_of ks) ≡ false → place_limit ≤ n → at ≡ p → P) → P
unfolding room when◌then◌else◌
eleven_room at s n ks p e k =
    cases (clashes s (steps_of ks))
    (λ f. let q : ◌≡◌ {A = Result ℕ} (refused two_names at) (refused too_many_places p) = rw f at e in absurd (let z : two_names ≡ too_many_places = cc in omega arith))
    (λ f.
    cases (has s (steps_of ks))
    (λ g. let q : accepted n ≡ refused too_many_places p = rw (f, g) at e in not_accepted q)
    (λ g.
    cases (ltb n place_limit)
    (λ h. let q : accepted (n + 1) ≡ refused too_many_places p = rw (f, g, h) at e in not_accepted q)
    (λ h. let q : ◌≡◌ {A = Result ℕ} (refused too_many_places at) (refused too_many_places p) = rw (f, g, h) at e in k f g (ltb-false n place_limit h) cc)))

-- kinds that meet are not refused for it
abbrev Apart : {A : Type 0} → Result A → Type 0
Apart (accepted a) = Unit {0}
Apart (refused n at) = Other n

or_apart : {A : Type 0} (at : ℕ) (r : Option A) → Apart (or_refused no_joint at r)
or_apart at none = λ e. omega arith
or_apart at (some a) = tt

meet_apart : (o d at k h : ℕ) → Apart (meet o d at k h)
unfolding meet
meet_apart o d at k h =
    choice Apart _ (λ _ e. omega arith) λ _.
    choice Apart _ (λ _. or_apart at (joint o k h)) λ _.
    choice Apart _ (λ _. tt) λ _.
    choice Apart _ (λ _. tt) λ _.
    choice Apart _ (λ _. tt) (λ _ e. omega arith)

pub eleven_meet : {P : Type 0} (o d at k h p : ℕ) → meet o d at k h ≡ refused too_many_places p → P
eleven_meet o d at k h p e = absurd (let f : Other too_many_places = rw e at (meet_apart o d at k h) in f refl)

-- of places that are no variants, for the bound alone
pub make_no : {P : Type 0} (at : ℕ) (ss : List Step) (n : ℕ) (ks : Kids) (m p : ℕ) → no_variants ss ≡ true → make at ss n ks ≡ refused m p → Other m → P
unfolding make
make_no at [] n ks m p v e o = not_accepted e
make_no at (s ∷ ss) n ks m p v e o =
    bind_no (room at s n ks) _ m p e
    (λ f. room_no at s n ks m p f o λ c _. absurd (true≢false (sym c ∙ no_clash s (steps_of ks) (and_left (not (is_variant s)) (no_variants ss) v))))
    (λ a f g. make_no at ss a (put s (kid_at s ks) ks) m p (and_right (not (is_variant s)) (no_variants ss) v) g o)

mutual
  unfolding observe see allowed when◌then◌else◌

  pub value_no : (o d : ℕ) (v : Value) (n : ℕ) (t : Tree) (m p : ℕ) → observe o d v n t ≡ refused m p → Other m → see o d v t ≡ refused m p
  value_no o d (cut n' at) n t m p e x = same_refusal e
  value_no o d (val at b k l ps) n t m p e x =
      bind_no (meet o d at (kind_of t) k) _ m p e (λ f. rw f refl) λ j e₁ f.
      bind_no (make at (made k l (kind_of t)) n (kids_of t)) _ m p f (λ g. make_no at (made k l (kind_of t)) n (kids_of t) m p (made_no_variants k l (kind_of t)) g x) λ q e₂ g.
      let made_all = (counted_make at (made k l (kind_of t)) n (kids_of t) q e₂).0 in
      bind_no (observe_parts o d ps q.places q.what) _ m p g
      (λ h. rw (e₁, made_all, parts_no o d ps q.places q.what m p h x) refl)
      (λ r e₃ h. not_accepted h)

  pub parts_no : (o d : ℕ) (ps : Parts) (n : ℕ) (ks : Kids) (m p : ℕ) → observe_parts o d ps n ks ≡ refused m p → Other m → see_parts o d ps ks ≡ refused m p
  parts_no o d no_parts n ks m p e x = not_accepted e
  parts_no o d (cut_off n' at) n ks m p e x = same_refusal e
  parts_no o d (part at s v ps) n ks m p e x =
      bind_no (room at s n ks) _ m p e (λ f. room_no at s n ks m p f x λ c a. rw a refl) λ k e₁ f.
      room_ok at s n ks k e₁ λ free _ _.
      bind_no (observe o (d + dots_of s) v k (kid_at s ks)) _ m p f (λ g. rw (free, value_no o (d + dots_of s) v k (kid_at s ks) m p g x) refl) λ q e₂ g.
      let seen = (counted o (d + dots_of s) v k (kid_at s ks) q e₂).0 in
      rw (free, seen) (parts_no o d ps q.places (put s q.what ks) m p g x)

all_no : (o d : ℕ) (vs : List Value) (n : ℕ) (t : Tree) (m p : ℕ) → observe_all o d vs n t ≡ refused m p → Other m → see_all o d vs t ≡ refused m p
unfolding observe_all see_all
all_no o d [] n t m p e x = not_accepted e
all_no o d (v ∷ vs) n t m p e x =
    bind_no (observe o d v n t) _ m p e (λ f. rw (value_no o d v n t m p f x) refl) λ q e₁ f.
    rw (counted o d v n t q e₁).0 (all_no o d vs q.places q.what m p f x)

-- a refusal of tracing other than 11 is met without the bound too
pub trace_refused : (o : ℕ) (vs : List Value) (m p : ℕ) → trace o vs ≡ refused m p → (m ≡ too_many_places → ⊥) → see_all o 0 vs fresh ≡ refused m p
unfolding trace
trace_refused o vs m p e x = all_no o 0 vs 1 fresh m p e x
