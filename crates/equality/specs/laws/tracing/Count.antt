-- Refusal 11: the count of places is threaded, and acceptance is acceptance without it together with the size of the tree.
use Rattle.std.specs.Prelude.{◌≡◌, refl, List, [], ◌∷◌, Bool, true, false, not, ◌&&◌, ℕ, zero, suc, ◌+◌, ◌<◌, ◌≤◌, eqb, ltb}
use Rattle.std.proofs.Common.{ap, sym, ◌∙◌, arith, ltb-true, lt-ltb}
use Rattle.logic.specs.Test.{when◌then◌else◌}
use Rattle.logic.specs.laws.Test.{cases}
use Rattle.datatype.specs.Codes.{null}
use Rattle.refusal.specs.Number.{two_names, too_many_places}
use Rattle.model.specs.Result.{Result, accepted, refused}
use Rattle.model.specs.Kinds.{sequence_kind, map_kind, tuple_kind, is_container, Step, same, is_variant}
use Rattle.model.specs.Reading.{Value, val, cut, Parts, no_parts, cut_off, part}
use Rattle.model.specs.Tracing.{Tree, node, Kids, no_kids, kid, marks_of, kind_of, samples_of, kids_of, fresh, dots_of, place_limit, meet, marks_with, steps_of, has, kid_at, put, clashes, room, positions_from, made, make, Counted, one, tally, observe, observe_parts, observe_all, trace}
use Rattle.equality.specs.laws.Base.{bind_ok, not_refused, and_left, and_right, not_is_true}
use Rattle.model.specs.Unbounded.{make_all, allowed, see, see_parts, see_all}
use Rattle.equality.specs.laws.census.Standing.{met, part_ok}

-- ---- the number of places of a tree
unfoldable mutual
  pub size : Tree → ℕ
  size (node m kind samples kids) = suc (sizes kids)

  pub sizes : Kids → ℕ
  sizes no_kids = 0
  sizes (kid s held tree kids) = size tree + sizes kids

-- 1 where the step is not there yet
abbrev pub new : Step → Kids → ℕ
new s kids = one (not (has s (steps_of kids)))

-- ---- sizes
pub size_put : (s : Step) (t : Tree) (ks : Kids) → sizes (put s t ks) + size (kid_at s ks) ≡ sizes ks + (new s ks + size t)
unfolding size put kid_at steps_of has when◌then◌else◌
size_put s t no_kids = omega arith
size_put s t (kid r n u ks) =
    cases (same s r)
    (λ e. rw e (omega arith))
    (λ e. rw e (omega (arith, size_put s t ks)))

pub size_tally : (ps : Parts) (ks : Kids) → sizes (tally ps ks) ≡ sizes ks
unfolding size tally
size_tally ps no_kids = refl
size_tally ps (kid s n t ks) = ap (λ (m : ℕ). size t + m) (size_tally ps ks)

pub size_is : (t : Tree) → size t ≡ suc (sizes (kids_of t))
unfolding size
size_is (node b k n ks) = refl

size_fresh : size fresh ≡ 1
unfolding size
size_fresh = refl

make_all_grows : (ss : List Step) (ks : Kids) → sizes ks ≤ sizes (make_all ss ks)
unfolding make_all
make_all_grows [] ks = omega arith
make_all_grows (s ∷ ss) ks = omega (arith, make_all_grows ss (put s (kid_at s ks) ks), size_put s (kid_at s ks) ks)

-- ---- room for one more place
-- where the first count is within the limit, so is the second
abbrev pub Within : ℕ → ℕ → Type 0
Within n m = n ≤ place_limit → m ≤ place_limit

pub room_ok : {P : Type 0} (at : ℕ) (s : Step) (n : ℕ) (ks : Kids) (m : ℕ) → room at s n ks ≡ accepted m
    → (clashes s (steps_of ks) ≡ false → n + new s ks ≡ m → Within n m → P) → P
unfolding room when◌then◌else◌
room_ok at s n ks m e k =
    cases (clashes s (steps_of ks))
    (λ f. let q : refused two_names at ≡ accepted m = rw f at e in not_refused q)
    (λ f.
    cases (has s (steps_of ks))
    (λ g. let q : accepted n ≡ accepted m = rw (f, g) at e in let z : n ≡ m = cc in k f (rw g (omega arith)) (omega arith))
    (λ g.
    cases (ltb n place_limit)
    (λ h.
    let q : accepted (n + 1) ≡ accepted m = rw (f, g, h) at e in
    let z : n + 1 ≡ m = cc in
    let l : n < place_limit = ltb-true n place_limit h in k f (rw g (omega arith)) (omega arith))
    (λ h. let q : refused too_many_places at ≡ accepted m = rw (f, g, h) at e in not_refused q)))

room_for : (at : ℕ) (s : Step) (n : ℕ) (ks : Kids) → clashes s (steps_of ks) ≡ false → n + new s ks ≤ place_limit → room at s n ks ≡ accepted (n + new s ks)
unfolding room when◌then◌else◌
room_for at s n ks f h =
    cases (has s (steps_of ks))
    (λ g. let z : n ≡ n + 0 = omega arith in rw (f, g) (ap (λ (x : ℕ). accepted x) z))
    (λ g. let h₂ : n + 1 ≤ place_limit = rw g at h in rw (f, g, lt-ltb n place_limit (omega arith)))

-- the places that a container makes at its own command are no variants, and so rename none
abbrev pub no_variants : List Step → Bool
no_variants [] = true
no_variants (s ∷ ss) = not (is_variant s) && no_variants ss

pub no_clash : (s : Step) (ss : List Step) → not (is_variant s) ≡ true → clashes s ss ≡ false
unfolding clashes
no_clash s [] e = refl
no_clash s (r ∷ ss) e = rw (not_is_true (is_variant s) e, no_clash s ss e)

positions_no_variants : (i n : ℕ) → no_variants (positions_from i n) ≡ true
positions_no_variants i zero = refl
positions_no_variants i (suc n) = positions_no_variants (suc i) n

pub made_no_variants : (k n before : ℕ) → no_variants (made k n before) ≡ true
unfolding made when◌then◌else◌
made_no_variants k n before =
    cases (eqb k sequence_kind) (λ e. rw e) (λ e.
    cases (eqb k map_kind) (λ f. rw (e, f)) (λ f.
    cases (eqb k tuple_kind && eqb before null) (λ g. rw (e, f, g) (positions_no_variants 0 n)) (λ g. rw (e, f, g))))

-- ---- what is counted is seen, and the count grows with the tree
-- nothing to do: the tree, or the places below, and the count stay
unchanged : {A : Type 0} (measure : A → ℕ) (n : ℕ) (a : A) (r : Counted A) → accepted (record { places = n; what = a }) ≡ accepted r
    → (a ≡ r.what) × (r.places + measure a ≡ n + measure r.what) × Within n r.places
unchanged {A} measure n a r e =
    let w : record { places = n; what = a } ≡ r = cc in
    let p : n ≡ r.places = ap (λ (x : Counted A). x.places) w in
    (ap (λ (x : Counted A). x.what) w, omega (arith, ap (λ (x : Counted A). measure x.what) w), omega arith)

pub counted_make : (at : ℕ) (ss : List Step) (n : ℕ) (ks : Kids) (r : Counted Kids) → make at ss n ks ≡ accepted r
    → (make_all ss ks ≡ r.what) × (r.places + sizes ks ≡ n + sizes r.what) × Within n r.places
unfolding make make_all
counted_make at [] n ks r e = unchanged sizes n ks r e
counted_make at (s ∷ ss) n ks r e =
    bind_ok (room at s n ks) _ r e λ m e₁ f.
    room_ok at s n ks m e₁ λ _ i l.
    let c = counted_make at ss m (put s (kid_at s ks) ks) r f in
    (c.0, omega (arith, c.1, i, size_put s (kid_at s ks) ks), λ b. c.2 (l b))

mutual
  unfolding observe see allowed when◌then◌else◌

  pub counted : (o d : ℕ) (v : Value) (n : ℕ) (t : Tree) (r : Counted Tree) → observe o d v n t ≡ accepted r
      → (see o d v t ≡ accepted r.what) × (r.places + size t ≡ n + size r.what) × Within n r.places
  counted o d (cut n' at) n t r e = not_refused e
  counted o d (val at b k l ps) n t r e =
      bind_ok (meet o d at (kind_of t) k) _ r e λ j e₁ f.
      bind_ok (make at (made k l (kind_of t)) n (kids_of t)) _ r f λ p e₂ g.
      bind_ok (observe_parts o d ps p.places p.what) _ r g λ q e₃ h.
      let m = counted_make at (made k l (kind_of t)) n (kids_of t) p e₂ in
      let c = counted_parts o d ps p.places p.what q e₃ in
      let left = node (marks_with b (kind_of t) k (marks_of t)) j (samples_of t + one (is_container k)) (tally ps q.what) in
      let u = unchanged size q.places left r h in
      (rw (e₁, m.0, c.0) (ap (λ (x : Tree). accepted x) u.0), omega (arith, c.1, m.1, u.1, size_tally ps q.what, size_is t, size_is left), λ x. u.2 (c.2 (m.2 x)))

  pub counted_parts : (o d : ℕ) (ps : Parts) (n : ℕ) (ks : Kids) (r : Counted Kids) → observe_parts o d ps n ks ≡ accepted r
      → (see_parts o d ps ks ≡ accepted r.what) × (r.places + sizes ks ≡ n + sizes r.what) × Within n r.places
  counted_parts o d no_parts n ks r e = let u = unchanged sizes n ks r e in (ap (λ (x : Kids). accepted x) u.0, u.1, u.2)
  counted_parts o d (cut_off n' at) n ks r e = not_refused e
  counted_parts o d (part at s v ps) n ks r e =
      bind_ok (room at s n ks) _ r e λ m e₁ g.
      bind_ok (observe o (d + dots_of s) v m (kid_at s ks)) _ r g λ q e₂ h.
      room_ok at s n ks m e₁ λ e₀ i l.
      let a = counted o (d + dots_of s) v m (kid_at s ks) q e₂ in
      let c = counted_parts o d ps q.places (put s q.what ks) r h in
      (rw (e₀, a.0) c.0, omega (arith, a.1, c.1, i, size_put s q.what ks), λ b. c.2 (a.2 (l b)))

pub counted_all : (o d : ℕ) (vs : List Value) (n : ℕ) (t : Tree) (r : Counted Tree) → observe_all o d vs n t ≡ accepted r
    → (see_all o d vs t ≡ accepted r.what) × (r.places + size t ≡ n + size r.what) × Within n r.places
unfolding observe_all see_all
counted_all o d [] n t r e = let u = unchanged size n t r e in (ap (λ (x : Tree). accepted x) u.0, u.1, u.2)
counted_all o d (v ∷ vs) n t r e =
    bind_ok (observe o d v n t) _ r e λ q e₁ f.
    let a = counted o d v n t q e₁ in
    let c = counted_all o d vs q.places q.what r f in
    (rw a.0 c.0, omega (arith, a.1, c.1), λ b. c.2 (a.2 b))

-- ---- a tree never shrinks
mutual
  unfolding see

  pub grows : (o d : ℕ) (v : Value) (t t' : Tree) → see o d v t ≡ accepted t' → size t ≤ size t'
  grows o d (cut n at) t t' e = not_refused e
  grows o d (val at b k n ps) t t' e =
      let m = met o d at b k n ps t t' e in
      omega (
        arith,
        grows_parts o d ps (make_all (made k n (kind_of t)) (kids_of t)) m.kids m.parts,
        make_all_grows (made k n (kind_of t)) (kids_of t),
        size_tally ps m.kids,
        ap sizes m.tallied,
        size_is t,
        size_is t',
      )

  pub grows_parts : (o d : ℕ) (ps : Parts) (ks ks' : Kids) → see_parts o d ps ks ≡ accepted ks' → sizes ks ≤ sizes ks'
  grows_parts o d no_parts ks ks' e = let h : ks ≡ ks' = cc in omega (arith, ap sizes h)
  grows_parts o d (cut_off n at) ks ks' e = not_refused e
  grows_parts o d (part at s v ps) ks ks' e =
      part_ok o d at s v ps ks ks' e λ t e₂ e₃.
      omega (arith, grows o (d + dots_of s) v (kid_at s ks) t e₂, grows_parts o d ps (put s t ks) ks' e₃, size_put s t ks)

pub grows_all : (o d : ℕ) (vs : List Value) (t t' : Tree) → see_all o d vs t ≡ accepted t' → size t ≤ size t'
unfolding see_all
grows_all o d [] t t' e = let h : t ≡ t' = cc in omega (arith, ap size h)
grows_all o d (v ∷ vs) t t' e = bind_ok (see o d v t) _ t' e λ u e₁ e₂. omega (arith, grows o d v t u e₁, grows_all o d vs u t' e₂)

-- ---- where the tree stays small enough, all that is seen is counted
abbrev pub Counts : {A : Type 0} → Result (Counted A) → A → Type 0
Counts {A = A} r a = (c : Counted A) × (r ≡ accepted c) × (c.what ≡ a)

pub counts_make : (at : ℕ) (ss : List Step) (n : ℕ) (ks : Kids) → no_variants ss ≡ true → n + sizes (make_all ss ks) ≤ place_limit + sizes ks
    → Counts (make at ss n ks) (make_all ss ks)
unfolding make make_all
counts_make at [] n ks e h = (record { places = n; what = ks }, refl, refl)
counts_make at (s ∷ ss) n ks e h =
    let x = make_all_grows ss (put s (kid_at s ks) ks) in
    let z = size_put s (kid_at s ks) ks in
    let r = room_for at s n ks (no_clash s (steps_of ks) (and_left (not (is_variant s)) (no_variants ss) e)) (omega arith) in
    let c = counts_make at ss (n + new s ks) (put s (kid_at s ks) ks) (and_right (not (is_variant s)) (no_variants ss) e) (omega arith) in
    (c.0, rw r c.1, c.2)

pub allowed_ok : (at : ℕ) (s : Step) (ks : Kids) (x : Bool) → allowed at s ks ≡ accepted x → clashes s (steps_of ks) ≡ false
unfolding allowed when◌then◌else◌
allowed_ok at s ks x e = cases (clashes s (steps_of ks)) (λ f. let q : refused two_names at ≡ accepted x = rw f at e in not_refused q) (λ f. f)

next_part_lem : (o d at : ℕ) (s : Step) (v : Value) (ps : Parts) (n : ℕ) (ks ks' : Kids) (q : Counted Tree) (t : Tree) → room at s n ks ≡ accepted (n + new s ks)
    → observe o (d + dots_of s) v (n + new s ks) (kid_at s ks) ≡ accepted q → q.what ≡ t
    → Counts (observe_parts o d ps q.places (put s t ks)) ks' → Counts (observe_parts o d (part at s v ps) n ks) ks'
unfolding observe
next_part_lem o d at s v ps n ks ks' q t r e w c = (c.0, rw (r, e, w) c.1, c.2)

whole_value : (o d at : ℕ) (b : Bool) (k l : ℕ) (ps : Parts) (n : ℕ) (t t' : Tree) (j : ℕ) (ks : Kids) → meet o d at (kind_of t) k ≡ accepted j
    → node (marks_with b (kind_of t) k (marks_of t)) j (samples_of t + one (is_container k)) (tally ps ks) ≡ t'
    → (m : Counts (make at (made k l (kind_of t)) n (kids_of t)) (make_all (made k l (kind_of t)) (kids_of t)))
    → Counts (observe_parts o d ps m.0.places (make_all (made k l (kind_of t)) (kids_of t))) ks → Counts (observe o d (val at b k l ps) n t) t'
unfolding observe
whole_value o d at b k l ps n t t' j ks e w m c =
    (record { places = c.0.places; what = node (marks_with b (kind_of t) k (marks_of t)) j (samples_of t + one (is_container k)) (tally ps c.0.what) }, rw (e, m.1, m.2, c.1), rw c.2 w)

mutual
  unfolding see observe

  pub counts : (o d : ℕ) (v : Value) (n : ℕ) (t t' : Tree) → see o d v t ≡ accepted t' → n + size t' ≤ place_limit + size t → Counts (observe o d v n t) t'
  counts o d (cut n' at) n t t' e h = not_refused e
  counts o d (val at b k l ps) n t t' e h =
      bind_ok (meet o d at (kind_of t) k) _ t' e λ j e₁ f.
      bind_ok (see_parts o d ps (make_all (made k l (kind_of t)) (kids_of t))) _ t' f λ ks e₂ g.
      let w : node (marks_with b (kind_of t) k (marks_of t)) j (samples_of t + one (is_container k)) (tally ps ks) ≡ t' = cc in
      let y = grows_parts o d ps (make_all (made k l (kind_of t)) (kids_of t)) ks e₂ in
      let z : suc (sizes ks) ≡ size t' = ap suc (sym (size_tally ps ks)) ∙ sym (size_is (node _ _ _ (tally ps ks))) ∙ ap size w in
      let m = counts_make at (made k l (kind_of t)) n (kids_of t) (made_no_variants k l (kind_of t)) (omega (arith, size_is t)) in
      let u = counted_make at (made k l (kind_of t)) n (kids_of t) m.0 m.1 in
      let c = counts_parts o d ps m.0.places (make_all (made k l (kind_of t)) (kids_of t)) ks e₂ (omega (arith, size_is t, u.1, ap sizes m.2)) in
      whole_value o d at b k l ps n t t' j ks e₁ w m c

  pub counts_parts : (o d : ℕ) (ps : Parts) (n : ℕ) (ks ks' : Kids) → see_parts o d ps ks ≡ accepted ks' → n + sizes ks' ≤ place_limit + sizes ks
      → Counts (observe_parts o d ps n ks) ks'
  counts_parts o d no_parts n ks ks' e h = (_, refl, cc)
  counts_parts o d (cut_off n' at) n ks ks' e h = not_refused e
  counts_parts o d (part at s v ps) n ks ks' e h =
      bind_ok (allowed at s ks) _ ks' e λ x e₀ e₁.
      bind_ok (see o (d + dots_of s) v (kid_at s ks)) _ ks' e₁ λ t e₂ e₃.
      let x₁ = grows o (d + dots_of s) v (kid_at s ks) t e₂ in
      let y = grows_parts o d ps (put s t ks) ks' e₃ in
      let z = size_put s t ks in
      let r = room_for at s n ks (allowed_ok at s ks x e₀) (omega arith) in
      let a = counts o (d + dots_of s) v (n + new s ks) (kid_at s ks) t e₂ (omega arith) in
      let u = (counted o (d + dots_of s) v (n + new s ks) (kid_at s ks) a.0 a.1).1 in
      let c = counts_parts o d ps a.0.places (put s t ks) ks' e₃ (omega (arith, ap size a.2)) in
      next_part_lem o d at s v ps n ks ks' a.0 t r a.1 a.2 c

next_value : (o d : ℕ) (v : Value) (vs : List Value) (n : ℕ) (t u t' : Tree) (q : Counted Tree) → observe o d v n t ≡ accepted q → q.what ≡ u
    → Counts (observe_all o d vs q.places u) t' → Counts (observe_all o d (v ∷ vs) n t) t'
unfolding observe_all
next_value o d v vs n t u t' q e w c = (c.0, rw (e, w) c.1, c.2)

pub counts_all : (o d : ℕ) (vs : List Value) (n : ℕ) (t t' : Tree) → see_all o d vs t ≡ accepted t' → n + size t' ≤ place_limit + size t → Counts (observe_all o d vs n t) t'
unfolding see_all observe_all
counts_all o d [] n t t' e h = (record { places = n; what = t }, refl, cc)
counts_all o d (v ∷ vs) n t t' e h =
    bind_ok (see o d v t) _ t' e λ u e₁ e₂.
    let y = grows_all o d vs u t' e₂ in
    let a = counts o d v n t u e₁ (omega arith) in
    let x = (counted o d v n t a.0 a.1).1 in
    let c = counts_all o d vs a.0.places u t' e₂ (omega (arith, ap size a.2)) in
    next_value o d v vs n t u t' a.0 a.1 a.2 c

-- ---- a trace
-- an accepted batch leaves the tree that it leaves uncounted, which has at most 1,024 places
pub traced : (o : ℕ) (vs : List Value) (r : Counted Tree) → trace o vs ≡ accepted r
    → (see_all o 0 vs fresh ≡ accepted r.what) × (r.places ≡ size r.what) × (size r.what ≤ place_limit)
unfolding trace
traced o vs r e =
    let c = counted_all o 0 vs 1 fresh r e in
    let h : r.places ≡ size r.what = omega (arith, c.1, size_fresh) in
    (c.0, h, rw (← h) (c.2 (omega arith)))

-- and where that tree has at most 1,024 places, the batch is accepted
pub trace_fits : (o : ℕ) (vs : List Value) (t : Tree) → see_all o 0 vs fresh ≡ accepted t → size t ≤ place_limit → Counts (trace o vs) t
unfolding trace
trace_fits o vs t e h = counts_all o 0 vs 1 fresh t e (omega (arith, size_fresh))
