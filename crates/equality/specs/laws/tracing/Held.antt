-- The places that tracing makes are among those that its values can make, and no two of them are one; where it is refused for the bound, they
-- are more than the bound allows.
use Rattle.std.specs.Prelude.{◌≡◌, Bool, true, false, not, ◌||◌, ℕ, ◌+◌, ◌<◌}
use Rattle.std.proofs.Math.Path.{refl}
use Rattle.std.proofs.Common.{sym, ◌∙◌, arith}
use Rattle.std.proofs.lemmas.Bool.{false≢true}
use mathlib.Core.List.{List, [], ◌∷◌, ◌++◌}
use Rattle.logic.specs.Test.{when◌then◌else◌}
use Rattle.logic.specs.All.{All}
use Rattle.logic.specs.laws.Test.{cases, both}
use Rattle.datatype.specs.Codes.{null}
use Rattle.refusal.specs.Number.{too_many_places}
use Rattle.model.specs.Result.{accepted, refused}
use Rattle.model.specs.Kinds.{Step, same, is_variant}
use Rattle.model.specs.Reading.{Value, val, cut, Parts, no_parts, cut_off, part, is_whole, are_whole, all_whole}
use Rattle.model.specs.Tracing.{marks, Tree, node, Kids, no_kids, kid, kind_of, kids_of, dots_of, place_limit, meet, steps_of, has, kid_at, put, renames, clashes, room, made, make, tally, observe, observe_parts, observe_all}
use Rattle.model.specs.Unbounded.{make_all, allowed, see, see_parts}
use Rattle.model.specs.Census.{sight}
use Rattle.equality.specs.laws.Base.{or_left_false, or_right_false, bind_ok, not_refused, same_true, same_refl, same_sym}
use Rattle.equality.specs.laws.census.Standing.{met, no_cut}
use Rattle.equality.specs.laws.tracing.Count.{size, sizes, new, size_put, size_is, no_variants, made_no_variants, no_clash, room_ok, counted_make, counted, allowed_ok}
use Rattle.equality.specs.laws.tracing.Bound.{bind_no, not_accepted, eleven_meet, eleven_room}
use Rattle.equality.specs.laws.tracing.Place.{or_assoc, or_true, or_false, has_snoc, steps_put, steps_tally}
use Rattle.equality.specs.laws.tracing.Acceptance.{renames_sym}

-- ---- places that are held: each place of a tree is one of these, and no two of them are one
-- another place below has this step, or names its variant otherwise
abbrev pub taken : Step → List Step → Bool
taken s steps = has s steps || clashes s steps

-- these, one step down
abbrev pub Below : Step → (List Step → Type 0) → List Step → Type 0
Below s S steps = S (s ∷ steps)

unfoldable mutual
  pub Held : (List Step → Type 0) → Tree → Type 0
  Held S (node m kind samples kids) = HeldIn S kids

  pub HeldIn : (List Step → Type 0) → Kids → Type 0
  HeldIn S no_kids = Unit {0}
  HeldIn S (kid s held t kids) = S (s ∷ []) × (taken s (steps_of kids) ≡ false) × Held (Below s S) t × HeldIn S kids

-- and each that a value can make
unfoldable mutual
  pub Covers : (List Step → Type 0) → Value → Type 0
  Covers S (val at null kind n ps) = ((before : ℕ) (s : Step) → has s (made kind n before) ≡ true → S (s ∷ [])) × CoversIn S ps
  Covers S (cut refusal place) = Unit {0}

  pub CoversIn : (List Step → Type 0) → Parts → Type 0
  CoversIn S no_parts = Unit {0}
  CoversIn S (cut_off refusal place) = Unit {0}
  CoversIn S (part at s v ps) = S (s ∷ []) × Covers (Below s S) v × CoversIn S ps

clashes_snoc : (r s : Step) (ss : List Step) → clashes r (ss ++ (s ∷ [])) ≡ (clashes r ss || renames r s)
unfolding clashes
clashes_snoc r s [] = or_false (renames r s)
clashes_snoc r s (q ∷ ss) = rw (clashes_snoc r s ss) (sym (or_assoc (renames r q) (clashes r ss) (renames r s)))

taken_snoc : (r s : Step) (ss : List Step) → taken r ss ≡ false → same r s ≡ false → renames r s ≡ false → taken r (ss ++ (s ∷ [])) ≡ false
taken_snoc r s ss x e f =
    rw (has_snoc r s ss, clashes_snoc r s ss, or_left_false (has r ss) (clashes r ss) x, or_right_false (has r ss) (clashes r ss) x, f, e) refl

taken_put : (r s : Step) (t : Tree) (ks : Kids) → taken r (steps_of ks) ≡ false → same r s ≡ false → renames r s ≡ false → taken r (steps_of (put s t ks)) ≡ false
unfolding sight when◌then◌else◌
taken_put r s t ks x e f =
    cases (has s (steps_of ks)) (λ g. rw (steps_put s t ks, g) x) (λ g. rw (steps_put s t ks, g) (taken_snoc r s (steps_of ks) x e f))

module _ (S : List Step → Type 0) where
  held_kid : (s : Step) (ks : Kids) → HeldIn S ks → Held (Below s S) (kid_at s ks)
  unfolding Held kid_at when◌then◌else◌
  held_kid s no_kids h = tt
  held_kid s (kid r n t ks) h = cases (same s r) (λ e. rw (e, same_true s r e) h.2) (λ e. rw e (held_kid s ks h.3))

  held_put : (s : Step) (t : Tree) (ks : Kids) → S (s ∷ []) → clashes s (steps_of ks) ≡ false → Held (Below s S) t → HeldIn S ks → HeldIn S (put s t ks)
  unfolding Held put steps_of clashes has when◌then◌else◌
  held_put s t no_kids i c h k = (i, refl, h, tt)
  held_put s t (kid r n u ks) i c h k =
      cases (same s r)
      (λ e. rw e (k.0, k.1, rw (same_true s r e) at h, k.3))
      (λ e.
      let free = or_right_false (renames s r) (clashes s (steps_of ks)) c in
      let apart = or_left_false (renames s r) (clashes s (steps_of ks)) c in
      rw e (k.0, taken_put r s t ks k.1 (same_sym r s ∙ e) (renames_sym r s ∙ apart), k.2, held_put s t ks i free h k.3))

  held_made : (ss : List Step) (ks : Kids) → no_variants ss ≡ true → ((s : Step) → has s ss ≡ true → S (s ∷ [])) → HeldIn S ks → HeldIn S (make_all ss ks)
  unfolding make_all has
  held_made [] ks v i h = h
  held_made (s ∷ ss) ks v i h =
      both (not (is_variant s)) (no_variants ss) v λ p q.
      held_made ss (put s (kid_at s ks) ks) q (λ r g. i r (rw (g, or_true (same r s)) refl))
      (held_put s (kid_at s ks) ks (i s (rw same_refl refl)) (no_clash s (steps_of ks) p) (held_kid s ks h) h)

  held_tally : (ps : Parts) (ks : Kids) → HeldIn S ks → HeldIn S (tally ps ks)
  unfolding Held tally
  held_tally ps no_kids h = tt
  held_tally ps (kid s n t ks) h = (h.0, rw (steps_tally ps ks) h.1, h.2, held_tally ps ks h.3)

  held_kids : (t : Tree) → Held S t → HeldIn S (kids_of t)
  unfolding Held
  held_kids (node b k n ks) h = h

  held_node : (t : Tree) → HeldIn S (kids_of t) → Held S t
  unfolding Held
  held_node (node b k n ks) h = h

-- what is traced stays among them
mutual
  unfolding see Covers

  held_value : (S : List Step → Type 0) (o d : ℕ) (v : Value) (t t' : Tree) → see o d v t ≡ accepted t' → Covers S v → Held S t → Held S t'
  held_value S o d (cut n at) t t' e c h = no_cut o d n at t t' e
  held_value S o d (val at b k n ps) t t' e c h =
      let m = met o d at b k n ps t t' e in
      let ss : List Step = made k n (kind_of t) in
      let made_held = held_made S ss (kids_of t) (made_no_variants k n (kind_of t)) (c.0 (kind_of t)) (held_kids S t h) in
      held_node S t' (rw m.tallied (held_tally S ps m.kids (held_parts S o d ps (make_all ss (kids_of t)) m.kids m.parts c.1 made_held)))

  held_parts : (S : List Step → Type 0) (o d : ℕ) (ps : Parts) (ks ks' : Kids) → see_parts o d ps ks ≡ accepted ks' → CoversIn S ps → HeldIn S ks → HeldIn S ks'
  held_parts S o d no_parts ks ks' e c h = let q : ks ≡ ks' = cc in rw (← q) h
  held_parts S o d (cut_off n at) ks ks' e c h = not_refused e
  held_parts S o d (part at s v ps) ks ks' e c h =
      bind_ok (allowed at s ks) _ ks' e λ x e₀ e₁.
      bind_ok (see o (d + dots_of s) v (kid_at s ks)) _ ks' e₁ λ t e₂ e₃.
      let there = held_value (Below s S) o (d + dots_of s) v (kid_at s ks) t e₂ c.1 (held_kid S s ks h) in
      held_parts S o d ps (put s t ks) ks' e₃ c.2 (held_put S s t ks c.0 (allowed_ok at s ks x e₀) there h)

-- ---- refused for the bound: more places than it allows are held
pub record Crowd (S : List Step → Type 0) (n : ℕ) (ks : Kids) : Type 0 where
  pub kids : Kids
  pub held : HeldIn S kids
  pub many : place_limit + sizes ks < n + sizes kids

-- with the place that there is no room for
crowd_room : (S : List Step → Type 0) (at : ℕ) (s : Step) (n : ℕ) (ks : Kids) (p : ℕ) → S (s ∷ []) → HeldIn S ks → room at s n ks ≡ refused too_many_places p → Crowd S n ks
crowd_room S at s n ks p i h e =
    eleven_room at s n ks p e λ free there l _.
    let new_one : new s ks ≡ 1 = rw there refl in
    record {
      kids = put s (kid_at s ks) ks;
      held = held_put S s (kid_at s ks) ks i free (held_kid S s ks h) h;
      many = omega (arith, size_put s (kid_at s ks) ks, new_one);
    }

-- after what was counted
crowd_after : (S : List Step → Type 0) (n m : ℕ) (ks more : Kids) → m + sizes ks ≡ n + sizes more → Crowd S m more → Crowd S n ks
crowd_after S n m ks more e c = record { kids = c.kids; held = c.held; many = omega (arith, c.many) }

crowd_make : (S : List Step → Type 0) (at : ℕ) (ss : List Step) (n : ℕ) (ks : Kids) (p : ℕ) → no_variants ss ≡ true → ((s : Step) → has s ss ≡ true → S (s ∷ []))
    → HeldIn S ks → make at ss n ks ≡ refused too_many_places p → Crowd S n ks
unfolding make has
crowd_make S at [] n ks p v i h e = not_accepted e
crowd_make S at (s ∷ ss) n ks p v i h e =
    both (not (is_variant s)) (no_variants ss) v λ first others.
    let here : S (s ∷ []) = i s (rw same_refl refl) in
    bind_no (room at s n ks) _ too_many_places p e (λ f. crowd_room S at s n ks p here h f) λ m f g.
    room_ok at s n ks m f λ _ k _.
    let next : Kids = put s (kid_at s ks) ks in
    crowd_after S n m ks next (omega (arith, k, size_put s (kid_at s ks) ks))
    (crowd_make S at ss m next p others (λ r x. i r (rw (x, or_true (same r s)) refl)) (held_put S s (kid_at s ks) ks here (no_clash s (steps_of ks) first) (held_kid S s ks h) h) g)

-- below a place
crowd_below : (S : List Step → Type 0) (s : Step) (n m : ℕ) (ks : Kids) → n + new s ks ≡ m → S (s ∷ []) → clashes s (steps_of ks) ≡ false → HeldIn S ks
    → Crowd (Below s S) m (kids_of (kid_at s ks)) → Crowd S n ks
unfolding Held size
crowd_below S s n m ks e i free h c =
    let grown : Tree = node (marks false false) null 0 c.kids in
    record {
      kids = put s grown ks;
      held = held_put S s grown ks i free c.held h;
      many = omega (arith, c.many, size_put s grown ks, size_is (kid_at s ks));
    }

mutual
  unfolding observe Covers is_whole

  crowd_value : (S : List Step → Type 0) (o d : ℕ) (v : Value) (n : ℕ) (t : Tree) (p : ℕ) → is_whole v ≡ true → Covers S v → Held S t
      → observe o d v n t ≡ refused too_many_places p → Crowd S n (kids_of t)
  crowd_value S o d (cut m at) n t p w c h e = absurd (false≢true w)
  crowd_value S o d (val at b k l ps) n t p w c h e =
      let ss : List Step = made k l (kind_of t) in
      let none = made_no_variants k l (kind_of t) in
      bind_no (meet o d at (kind_of t) k) _ too_many_places p e (λ f. eleven_meet o d at (kind_of t) k p f) λ j _ f.
      bind_no (make at ss n (kids_of t)) _ too_many_places p f (λ g. crowd_make S at ss n (kids_of t) p none (c.0 (kind_of t)) (held_kids S t h) g) λ q e₂ g.
      bind_no (observe_parts o d ps q.places q.what) _ too_many_places p g
      (λ i.
      let counts = counted_make at ss n (kids_of t) q e₂ in
      crowd_after S n q.places (kids_of t) q.what counts.1
      (crowd_parts S o d ps q.places q.what p w c.1 (rw (← counts.0) (held_made S ss (kids_of t) none (c.0 (kind_of t)) (held_kids S t h))) i))
      (λ _ _ i. not_accepted i)

  crowd_parts : (S : List Step → Type 0) (o d : ℕ) (ps : Parts) (n : ℕ) (ks : Kids) (p : ℕ) → are_whole ps ≡ true → CoversIn S ps → HeldIn S ks
      → observe_parts o d ps n ks ≡ refused too_many_places p → Crowd S n ks
  crowd_parts S o d no_parts n ks p w c h e = not_accepted e
  crowd_parts S o d (cut_off m at) n ks p w c h e = absurd (false≢true w)
  crowd_parts S o d (part at s v ps) n ks p w c h e =
      let d' : ℕ = d + dots_of s in
      both (is_whole v) (are_whole ps) w λ w₁ w₂.
      bind_no (room at s n ks) _ too_many_places p e (λ f. crowd_room S at s n ks p c.0 h f) λ m e₁ f.
      room_ok at s n ks m e₁ λ free i _.
      bind_no (observe o d' v m (kid_at s ks)) _ too_many_places p f
      (λ g. crowd_below S s n m ks i c.0 free h (crowd_value (Below s S) o d' v m (kid_at s ks) p w₁ c.1 (held_kid S s ks h) g))
      λ q e₂ g.
      let counts = counted o d' v m (kid_at s ks) q e₂ in
      let there = held_value (Below s S) o d' v (kid_at s ks) q.what counts.0 c.1 (held_kid S s ks h) in
      crowd_after S n q.places ks (put s q.what ks) (omega (arith, i, counts.1, size_put s q.what ks))
      (crowd_parts S o d ps q.places (put s q.what ks) p w₂ c.2 (held_put S s q.what ks c.0 free there h) g)

pub crowd_all : (S : List Step → Type 0) (o d : ℕ) (vs : List Value) (n : ℕ) (t : Tree) (p : ℕ) → all_whole vs ≡ true → All (Covers S) vs → Held S t
    → observe_all o d vs n t ≡ refused too_many_places p → Crowd S n (kids_of t)
unfolding observe_all all_whole
crowd_all S o d [] n t p w c h e = not_accepted e
crowd_all S o d (v ∷ vs) n t p w c h e =
    both (is_whole v) (all_whole vs) w λ w₁ w₂.
    bind_no (observe o d v n t) _ too_many_places p e (λ f. crowd_value S o d v n t p w₁ c.0 h f) λ q e₁ f.
    let counts = counted o d v n t q e₁ in
    crowd_after S n q.places (kids_of t) (kids_of q.what) (omega (arith, counts.1, size_is t, size_is q.what))
    (crowd_all S o d vs q.places q.what p w₂ c.1 (held_value S o d v t q.what counts.0 c.0 h) f)
