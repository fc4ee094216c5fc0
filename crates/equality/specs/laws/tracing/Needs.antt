-- Refusal 11 is said at the command that needs a 1,025th place: what commands need is what bounded tracing counts.
use Rattle.std.specs.Prelude.{◌≡◌, refl, List, [], ◌∷◌, ◌++◌, true, ℕ, suc, ◌+◌, ◌≤◌, length}
use Rattle.std.proofs.Common.{ap, sym, ◌∙◌, append_assoc, append-nil, arith, length-append}
use Rattle.std.proofs.lemmas.Bool.{false≢true}
use Rattle.logic.specs.Test.{when◌then◌else◌}
use Rattle.logic.specs.laws.Test.{cases}
use Rattle.refusal.specs.Number.{too_many_places}
use Rattle.model.specs.Result.{accepted, refused}
use Rattle.model.specs.Kinds.{Step}
use Rattle.model.specs.Reading.{Value, val, cut, Parts, no_parts, cut_off, part, is_whole, are_whole, all_whole}
use Rattle.model.specs.Tracing.{Tree, Kids, kind_of, kids_of, fresh, dots_of, place_limit, meet, steps_of, has, kid_at, put, room, made, make, Counted, observe, observe_parts, observe_all, trace}
use Rattle.model.specs.Unbounded.{make_all, allowed, see, see_parts, see_all}
use Rattle.model.specs.Bound.{need, needed, needs, needs_in, needs_all}
use Rattle.equality.specs.laws.Base.{and_left, and_right, bind_ok}
use Rattle.equality.specs.laws.census.Standing.{met}
use Rattle.equality.specs.laws.tracing.Count.{size, sizes, new, size_put, size_tally, size_is, made_no_variants, room_ok, counted_make, counted, allowed_ok, traced}
use Rattle.equality.specs.laws.tracing.Bound.{bind_no, not_accepted, Other, eleven_meet, eleven_room, room_no, make_no, value_no}

-- ---- a tree has as many places more as commands needed
need_new : (at : ℕ) (s : Step) (ks : Kids) → length (need at s ks) ≡ new s ks
unfolding when◌then◌else◌
need_new at s ks = cases (has s (steps_of ks)) (λ e. rw e) (λ e. rw e)

needed_sizes : (at : ℕ) (ss : List Step) (ks : Kids) → sizes (make_all ss ks) ≡ sizes ks + length (needed at ss ks)
unfolding make_all needed
needed_sizes at [] ks = omega arith
needed_sizes at (s ∷ ss) ks =
    omega (
      arith,
      needed_sizes at ss (put s (kid_at s ks) ks),
      size_put s (kid_at s ks) ks,
      need_new at s ks,
      length-append (need at s ks) (needed at ss (put s (kid_at s ks) ks)),
    )

mutual
  unfolding see needs allowed when◌then◌else◌

  pub needs_size : (o d : ℕ) (v : Value) (t t' : Tree) → see o d v t ≡ accepted t' → size t' ≡ size t + length (needs o d v t)
  needs_size o d (cut n at) t t' e = not_accepted (sym e)
  needs_size o d (val at b k n ps) t t' e =
      let m = met o d at b k n ps t t' e in
      let ss : List Step = made k n (kind_of t) in
      let first = needed_sizes at ss (kids_of t) in
      let later = needs_sizes o d ps (make_all ss (kids_of t)) m.kids m.parts in
      let both = length-append (needed at ss (kids_of t)) (needs_in o d ps (make_all ss (kids_of t))) in
      rw m.kind (omega (arith, first, later, both, size_tally ps m.kids, ap sizes m.tallied, size_is t, size_is t'))

  pub needs_sizes : (o d : ℕ) (ps : Parts) (ks ks' : Kids) → see_parts o d ps ks ≡ accepted ks' → sizes ks' ≡ sizes ks + length (needs_in o d ps ks)
  needs_sizes o d no_parts ks ks' e = let h : ks ≡ ks' = cc in omega (arith, ap sizes h)
  needs_sizes o d (cut_off n at) ks ks' e = not_accepted (sym e)
  needs_sizes o d (part at s v ps) ks ks' e =
      bind_ok (allowed at s ks) _ ks' e λ x e₀ e₁.
      bind_ok (see o (d + dots_of s) v (kid_at s ks)) _ ks' e₁ λ t e₂ e₃.
      let first = needs_size o (d + dots_of s) v (kid_at s ks) t e₂ in
      let later = needs_sizes o d ps (put s t ks) ks' e₃ in
      let xs : List ℕ = need at s ks in
      let ys : List ℕ = needs o (d + dots_of s) v (kid_at s ks) in
      let zs : List ℕ = needs_in o d ps (put s t ks) in
      rw (allowed_ok at s ks x e₀, e₂) (omega (arith, first, later, size_put s t ks, need_new at s ks, length-append xs (ys ++ zs), length-append ys zs))

-- ---- 11 at p: with n places made, what is needed from there has p where the bound is reached
pub record Reaches (n p : ℕ) (log : List ℕ) : Type 0 where
  pub before : List ℕ
  pub after : List ℕ
  pub is : log ≡ before ++ (p ∷ after)
  pub full : n + length before ≡ place_limit

reaches_now : (n p : ℕ) (log : List ℕ) → n ≡ place_limit → Reaches n p (p ∷ log)
reaches_now n p log e = record { before = []; after = log; is = refl; full = omega arith }

reaches_sooner : (n p : ℕ) (xs ys : List ℕ) → Reaches n p xs → Reaches n p (xs ++ ys)
reaches_sooner n p xs ys r =
    record {
      before = r.before;
      after = r.after ++ ys;
      is = ap (λ (l : List ℕ). l ++ ys) r.is ∙ append_assoc r.before (p ∷ r.after) ys;
      full = r.full;
    }

reaches_later : (n m p : ℕ) (xs ys : List ℕ) → n + length xs ≡ m → Reaches m p ys → Reaches n p (xs ++ ys)
reaches_later n m p xs ys h r =
    record {
      before = xs ++ r.before;
      after = r.after;
      is = ap (λ (l : List ℕ). xs ++ l) r.is ∙ sym (append_assoc xs r.before (p ∷ r.after));
      full = omega (arith, r.full, length-append xs r.before);
    }

-- a place that there is no room for
reaches_need : (at : ℕ) (s : Step) (n : ℕ) (ks : Kids) (p : ℕ) (more : List ℕ) → n ≤ place_limit → room at s n ks ≡ refused too_many_places p
    → Reaches n p (need at s ks ++ more)
unfolding when◌then◌else◌
reaches_need at s n ks p more h e = eleven_room at s n ks p e λ free there l q. rw (there, q) (reaches_now n p more (omega arith))

reaches_made : (at : ℕ) (ss : List Step) (n : ℕ) (ks : Kids) (p : ℕ) → n ≤ place_limit → make at ss n ks ≡ refused too_many_places p
    → Reaches n p (needed at ss ks)
unfolding make needed
reaches_made at [] n ks p h e = not_accepted e
reaches_made at (s ∷ ss) n ks p h e =
    bind_no (room at s n ks) _ too_many_places p e
    (λ f. reaches_need at s n ks p (needed at ss (put s (kid_at s ks) ks)) h f)
    (λ m f g.
    room_ok at s n ks m f λ _ i l.
    reaches_later n m p (need at s ks) (needed at ss (put s (kid_at s ks) ks)) (omega (arith, i, need_new at s ks))
    (reaches_made at ss m (put s (kid_at s ks) ks) p (l h) g))

mutual
  unfolding observe needs is_whole when◌then◌else◌

  reaches_value : (o d : ℕ) (v : Value) (n : ℕ) (t : Tree) (p : ℕ) → is_whole v ≡ true → n ≤ place_limit → observe o d v n t ≡ refused too_many_places p
      → Reaches n p (needs o d v t)
  reaches_value o d (cut m at) n t p w h e = absurd (false≢true w)
  reaches_value o d (val at b k l ps) n t p w h e =
      let ss : List Step = made k l (kind_of t) in
      bind_no (meet o d at (kind_of t) k) _ too_many_places p e (λ f. eleven_meet o d at (kind_of t) k p f) λ j e₁ f.
      rw e₁
      (bind_no (make at ss n (kids_of t)) _ too_many_places p f
      (λ g. reaches_sooner n p (needed at ss (kids_of t)) (needs_in o d ps (make_all ss (kids_of t))) (reaches_made at ss n (kids_of t) p h g))
      λ q e₂ g.
      let c = counted_make at ss n (kids_of t) q e₂ in
      bind_no (observe_parts o d ps q.places q.what) _ too_many_places p g
      (λ i.
      reaches_later n q.places p (needed at ss (kids_of t)) (needs_in o d ps (make_all ss (kids_of t)))
      (omega (arith, c.1, ap sizes c.0, needed_sizes at ss (kids_of t)))
      (rw c.0 (reaches_parts o d ps q.places q.what p w (c.2 h) i)))
      (λ r _ i. not_accepted i))

  reaches_parts : (o d : ℕ) (ps : Parts) (n : ℕ) (ks : Kids) (p : ℕ) → are_whole ps ≡ true → n ≤ place_limit → observe_parts o d ps n ks ≡ refused too_many_places p
      → Reaches n p (needs_in o d ps ks)
  reaches_parts o d no_parts n ks p w h e = not_accepted e
  reaches_parts o d (cut_off m at) n ks p w h e = absurd (false≢true w)
  reaches_parts o d (part at s v ps) n ks p w h e =
      let d' : ℕ = d + dots_of s in
      let xs : List ℕ = need at s ks in
      let ys : List ℕ = needs o d' v (kid_at s ks) in
      bind_no (room at s n ks) _ too_many_places p e
      (λ f. eleven_room at s n ks p f λ free _ _ _. rw free (reaches_need at s n ks p _ h f))
      λ m e₁ f.
      room_ok at s n ks m e₁ λ free i l.
      rw free
      (reaches_later n m p xs _ (omega (arith, i, need_new at s ks))
      (bind_no (observe o d' v m (kid_at s ks)) _ too_many_places p f
      (λ g. reaches_sooner m p ys _ (reaches_value o d' v m (kid_at s ks) p (and_left (is_whole v) (are_whole ps) w) (l h) g))
      λ q e₂ g.
      let c = counted o d' v m (kid_at s ks) q e₂ in
      rw c.0
      (reaches_later m q.places p ys _ (omega (arith, c.1, needs_size o d' v (kid_at s ks) q.what c.0))
      (reaches_parts o d ps q.places (put s q.what ks) p (and_right (is_whole v) (are_whole ps) w) (c.2 (l h)) g))))

reaches_all : (o : ℕ) (vs : List Value) (n : ℕ) (t : Tree) (p : ℕ) → all_whole vs ≡ true → n ≤ place_limit → observe_all o 0 vs n t ≡ refused too_many_places p
    → Reaches n p (needs_all o vs t)
unfolding observe_all needs_all all_whole
reaches_all o [] n t p w h e = not_accepted e
reaches_all o (v ∷ vs) n t p w h e =
    bind_no (observe o 0 v n t) _ too_many_places p e
    (λ f. reaches_sooner n p (needs o 0 v t) _ (reaches_value o 0 v n t p (and_left (is_whole v) (all_whole vs) w) h f))
    λ q e₁ f.
    let c = counted o 0 v n t q e₁ in
    rw c.0
    (reaches_later n q.places p (needs o 0 v t) (needs_all o vs q.what) (omega (arith, c.1, needs_size o 0 v t q.what c.0))
    (reaches_all o vs q.places q.what p (and_right (is_whole v) (all_whole vs) w) (c.2 h) f))

pub trace_reaches : (o : ℕ) (vs : List Value) (p : ℕ) → all_whole vs ≡ true → trace o vs ≡ refused too_many_places p → Reaches 1 p (needs_all o vs fresh)
unfolding trace
trace_reaches o vs p w e = reaches_all o vs 1 fresh p w (omega arith) e

-- ---- and where 11 is not said, no 1,025th place is needed
needs_all_size : (o : ℕ) (vs : List Value) (t t' : Tree) → see_all o 0 vs t ≡ accepted t' → size t' ≡ size t + length (needs_all o vs t)
unfolding see_all needs_all
needs_all_size o [] t t' e = let h : t ≡ t' = cc in omega (arith, ap size h)
needs_all_size o (v ∷ vs) t t' e =
    bind_ok (see o 0 v t) _ t' e λ u e₁ e₂.
    rw e₁ (omega (arith, needs_size o 0 v t u e₁, needs_all_size o vs u t' e₂, length-append (needs o 0 v t) (needs_all o vs u)))

-- nothing more
ends_there : (n : ℕ) (xs : List ℕ) → n + length xs ≤ place_limit → n + length (xs ++ []) ≤ place_limit
ends_there n xs h = rw (append-nil xs) h

goes_on : (n m : ℕ) (xs ys : List ℕ) → n + length xs ≡ m → m + length ys ≤ place_limit → n + length (xs ++ ys) ≤ place_limit
goes_on n m xs ys e h = omega (arith, length-append xs ys)

mutual
  unfolding observe needs is_whole when◌then◌else◌

  within_value : (o d : ℕ) (v : Value) (n : ℕ) (t : Tree) (m p : ℕ) → Other m → n ≤ place_limit → observe o d v n t ≡ refused m p → n + length (needs o d v t) ≤ place_limit
  within_value o d (cut n' at) n t m p x h e = omega arith
  within_value o d (val at b k l ps) n t m p x h e =
      let ss : List Step = made k l (kind_of t) in
      bind_no (meet o d at (kind_of t) k) _ m p e (λ f. rw f (omega arith)) λ j e₁ f.
      bind_no (make at ss n (kids_of t)) _ m p f (λ g. make_no at ss n (kids_of t) m p (made_no_variants k l (kind_of t)) g x) λ q e₂ g.
      let c = counted_make at ss n (kids_of t) q e₂ in
      bind_no (observe_parts o d ps q.places q.what) _ m p g
      (λ i.
      rw e₁
      (goes_on n q.places (needed at ss (kids_of t)) (needs_in o d ps (make_all ss (kids_of t))) (omega (arith, c.1, ap sizes c.0, needed_sizes at ss (kids_of t)))
      (rw c.0 (within_parts o d ps q.places q.what m p x (c.2 h) i))))
      (λ _ _ i. not_accepted i)

  within_parts : (o d : ℕ) (ps : Parts) (n : ℕ) (ks : Kids) (m p : ℕ) → Other m → n ≤ place_limit → observe_parts o d ps n ks ≡ refused m p
      → n + length (needs_in o d ps ks) ≤ place_limit
  within_parts o d no_parts n ks m p x h e = not_accepted e
  within_parts o d (cut_off n' at) n ks m p x h e = omega arith
  within_parts o d (part at s v ps) n ks m p x h e =
      let d' : ℕ = d + dots_of s in
      let xs : List ℕ = need at s ks in
      let ys : List ℕ = needs o d' v (kid_at s ks) in
      bind_no (room at s n ks) _ m p e (λ f. room_no at s n ks m p f x λ clash _. rw clash (omega arith)) λ k e₁ f.
      room_ok at s n ks k e₁ λ free i l.
      rw free
      (goes_on n k xs _ (omega (arith, i, need_new at s ks))
      (bind_no (observe o d' v k (kid_at s ks)) _ m p f
      (λ g. rw (value_no o d' v k (kid_at s ks) m p g x) (ends_there k ys (within_value o d' v k (kid_at s ks) m p x (l h) g)))
      λ q e₂ g.
      let c = counted o d' v k (kid_at s ks) q e₂ in
      rw c.0
      (goes_on k q.places ys _ (omega (arith, c.1, needs_size o d' v (kid_at s ks) q.what c.0))
      (within_parts o d ps q.places (put s q.what ks) m p x (c.2 (l h)) g))))

within_all : (o : ℕ) (vs : List Value) (n : ℕ) (t : Tree) (m p : ℕ) → Other m → n ≤ place_limit → observe_all o 0 vs n t ≡ refused m p → n + length (needs_all o vs t) ≤ place_limit
unfolding observe_all needs_all
within_all o [] n t m p x h e = not_accepted e
within_all o (v ∷ vs) n t m p x h e =
    let ys : List ℕ = needs o 0 v t in
    bind_no (observe o 0 v n t) _ m p e
    (λ f. rw (value_no o 0 v n t m p f x) (ends_there n ys (within_value o 0 v n t m p x h f)))
    λ q e₁ f.
    let c = counted o 0 v n t q e₁ in
    rw c.0
    (goes_on n q.places ys _ (omega (arith, c.1, needs_size o 0 v t q.what c.0))
    (within_all o vs q.places q.what m p x (c.2 h) f))

pub trace_within : (o : ℕ) (vs : List Value) (m p : ℕ) → Other m → trace o vs ≡ refused m p → suc (length (needs_all o vs fresh)) ≤ place_limit
unfolding trace
trace_within o vs m p x e = omega (arith, within_all o vs 1 fresh m p x (omega arith) e)

pub accepted_within : (o : ℕ) (vs : List Value) (r : Counted Tree) → trace o vs ≡ accepted r → suc (length (needs_all o vs fresh)) ≤ place_limit
unfolding size
accepted_within o vs r e = let t = traced o vs r e in omega (arith, t.2, needs_all_size o vs fresh r.what t.0)
