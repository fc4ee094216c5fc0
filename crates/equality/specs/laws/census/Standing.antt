-- What a batch does to a place is what the values that stand there do, one after another.
use Rattle.std.specs.Prelude.{◌≡◌, refl, List, [], ◌∷◌, ◌++◌, Bool, false, ℕ, ◌+◌}
use Rattle.std.proofs.Common.{ap, subst, sym, ◌∙◌, append_assoc}
use Rattle.logic.specs.Test.{when◌then◌else◌}
use Rattle.logic.specs.laws.Test.{cases}
use Rattle.model.specs.Result.{accepted, ◌>>=◌}
use Rattle.model.specs.Kinds.{is_container, Step, same}
use Rattle.model.specs.Reading.{Value, val, cut, Parts, no_parts, cut_off, part}
use Rattle.model.specs.Tracing.{Tree, node, Kids, no_kids, kid, marks_of, kind_of, samples_of, kids_of, fresh, dots_of, meet, marks_with, kid_at, put, made, one, tally}
use Rattle.model.specs.Census.{parts_of, parts_at, below, standing}
use Rattle.equality.specs.Widened.{place_at}
use Rattle.equality.specs.laws.Base.{bind_ok, bind_bind, not_refused, same_true, same_refl}
use Rattle.model.specs.Unbounded.{make_all, allowed, see, see_parts, see_all}

-- ---- the depth of the place at the end of the steps
unfoldable pub depth_at : ℕ → List Step → ℕ
depth_at depth [] = depth
depth_at depth (s ∷ steps) = depth_at (depth + dots_of s) steps

pub place_fresh : (steps : List Step) → place_at steps fresh ≡ fresh
unfolding place_at kid_at
place_fresh [] = refl
place_fresh (s ∷ steps) = place_fresh steps

-- ---- the places below
pub kid_at_put_same : (s : Step) (t : Tree) (ks : Kids) → kid_at s (put s t ks) ≡ t
unfolding kid_at put when◌then◌else◌
kid_at_put_same s t no_kids = rw (same_refl s)
kid_at_put_same s t (kid r n u ks) = cases (same s r) (λ e. rw (e, kid_at, e)) (λ e. rw (e, kid_at, e) (kid_at_put_same s t ks))

pub kid_at_put_other : (s r : Step) (t : Tree) (ks : Kids) → same s r ≡ false → kid_at s (put r t ks) ≡ kid_at s ks
unfolding kid_at put when◌then◌else◌
kid_at_put_other s r t no_kids f = rw f
kid_at_put_other s r t (kid q n u ks) f =
    cases (same r q)
    (λ e. rw (e, kid_at) (let g : same s q ≡ false = rw (same_true r q e) at f in rw g))
    (λ e. rw (e, kid_at) (ap (λ (x : Tree). when same s q then u else x) (kid_at_put_other s r t ks f)))

-- to put back what is there changes no place
pub kid_at_put_self : (s r : Step) (ks : Kids) → kid_at s (put r (kid_at r ks) ks) ≡ kid_at s ks
kid_at_put_self s r ks =
    cases (same s r)
    (λ e. subst (λ (q : Step). kid_at s (put q (kid_at q ks) ks) ≡ kid_at s ks) (same_true s r e) (kid_at_put_same s (kid_at s ks) ks))
    (λ f. kid_at_put_other s r (kid_at r ks) ks f)

pub kid_at_make_all : (s : Step) (ss : List Step) (ks : Kids) → kid_at s (make_all ss ks) ≡ kid_at s ks
unfolding make_all
kid_at_make_all s [] ks = refl
kid_at_make_all s (r ∷ ss) ks = kid_at_make_all s ss (put r (kid_at r ks) ks) ∙ kid_at_put_self s r ks

pub kid_at_tally : (s : Step) (ps : Parts) (ks : Kids) → kid_at s (tally ps ks) ≡ kid_at s ks
unfolding kid_at tally
kid_at_tally s ps no_kids = refl
kid_at_tally s ps (kid r n t ks) = ap (λ (x : Tree). when same s r then t else x) (kid_at_tally s ps ks)

-- ---- one list of values after another
pub below_append : (s : Step) (vs ws : List Value) → below s (vs ++ ws) ≡ below s vs ++ below s ws
unfolding below
below_append s [] ws = refl
below_append s (v ∷ vs) ws = rw (below_append s vs ws) (sym (append_assoc (parts_at s (parts_of v)) (below s vs) (below s ws)))

pub standing_append : (steps : List Step) (vs ws : List Value) → standing steps (vs ++ ws) ≡ standing steps vs ++ standing steps ws
unfolding standing
standing_append [] vs ws = refl
standing_append (s ∷ steps) vs ws = rw below_append (standing_append steps (below s vs) (below s ws))

pub see_all_append : (o d : ℕ) (vs ws : List Value) (t : Tree) → see_all o d (vs ++ ws) t ≡ (see_all o d vs t >>= see_all o d ws)
unfolding see_all
see_all_append o d [] ws t = refl
see_all_append o d (v ∷ vs) ws t = bind_bind (see o d v t) _ _ _ (λ u. see_all_append o d vs ws u)

-- ---- what one value does to the place that it meets
pub record Met (o d at : ℕ) (b : Bool) (k n : ℕ) (ps : Parts) (t t' : Tree) : Type 0 where
  pub marks : marks_of t' ≡ marks_with b (kind_of t) k (marks_of t)
  pub kind : meet o d at (kind_of t) k ≡ accepted (kind_of t')
  pub samples : samples_of t' ≡ samples_of t + one (is_container k)
  pub kids : Kids
  pub parts : see_parts o d ps (make_all (made k n (kind_of t)) (kids_of t)) ≡ accepted kids
  pub tallied : kids_of t' ≡ tally ps kids

pub met : (o d at : ℕ) (b : Bool) (k n : ℕ) (ps : Parts) (t t' : Tree) → see o d (val at b k n ps) t ≡ accepted t' → Met o d at b k n ps t t'
unfolding see
met o d at b k n ps t t' e =
    bind_ok (meet o d at (kind_of t) k) _ t' e λ j e₁ f.
    bind_ok (see_parts o d ps (make_all (made k n (kind_of t)) (kids_of t))) _ t' f λ ks e₂ g.
    let h : node (marks_with b (kind_of t) k (marks_of t)) j (samples_of t + one (is_container k)) (tally ps ks) ≡ t' = cc in
    record {
      marks = sym (ap marks_of h);
      kind = e₁ ∙ ap (λ (u : Tree). accepted (kind_of u)) h;
      samples = sym (ap samples_of h);
      kids = ks;
      parts = e₂;
      tallied = sym (ap kids_of h);
    }

-- a value that was cut is never accepted
pub no_cut : {P : Type 0} (o d n at : ℕ) (t t' : Tree) → see o d (cut n at) t ≡ accepted t' → P
unfolding see
no_cut o d n at t t' e = not_refused e

-- one part after another
pub part_ok : {P : Type 0} (o d at : ℕ) (s : Step) (v : Value) (ps : Parts) (ks ks' : Kids) → see_parts o d (part at s v ps) ks ≡ accepted ks'
    → ((t : Tree) → see o (d + dots_of s) v (kid_at s ks) ≡ accepted t → see_parts o d ps (put s t ks) ≡ accepted ks' → P) → P
unfolding see
part_ok o d at s v ps ks ks' e k =
    bind_ok (allowed at s ks) _ ks' e λ _ _ e₁.
    bind_ok (see o (d + dots_of s) v (kid_at s ks)) _ ks' e₁ k

-- the heart: what the parts of a value do to the place at a step is what those of them at that step do, one after another
pub parts_kid : (o d : ℕ) (s : Step) (ps : Parts) (ks ks' : Kids) → see_parts o d ps ks ≡ accepted ks'
    → see_all o (d + dots_of s) (parts_at s ps) (kid_at s ks) ≡ accepted (kid_at s ks')
unfolding see see_all parts_at when◌then◌else◌
parts_kid o d s no_parts ks ks' e = cc
parts_kid o d s (cut_off n at) ks ks' e = not_refused e
parts_kid o d s (part at r v ps) ks ks' e =
    part_ok o d at r v ps ks ks' e λ t e₂ e₃.
    let ih = parts_kid o d s ps (put r t ks) ks' e₃ in
    cases (same s r)
    (λ q.
    let p = same_true s r q in
    let e₄ : see o (d + dots_of s) v (kid_at s ks) ≡ accepted t = rw (← p) at e₂ in
    let i₂ : see_all o (d + dots_of s) (parts_at s ps) t ≡ accepted (kid_at s ks') = rw (← p, kid_at_put_same s t ks) at ih in
    rw (q, e₄) i₂)
    (λ q. rw q (rw (kid_at_put_other s r t ks q) at ih))

pub kid_of_value : (o d : ℕ) (s : Step) (v : Value) (t t' : Tree) → see o d v t ≡ accepted t'
    → see_all o (d + dots_of s) (parts_at s (parts_of v)) (kid_at s (kids_of t)) ≡ accepted (kid_at s (kids_of t'))
kid_of_value o d s (val at b k n ps) t t' e =
    let m = met o d at b k n ps t t' e in
    rw (m.tallied, kid_at_tally) (rw kid_at_make_all at (parts_kid o d s ps (make_all (made k n (kind_of t)) (kids_of t)) m.kids m.parts))
kid_of_value o d s (cut n at) t t' e = no_cut o d n at t t' e

pub kid_of_values : (o d : ℕ) (s : Step) (vs : List Value) (t t' : Tree) → see_all o d vs t ≡ accepted t'
    → see_all o (d + dots_of s) (below s vs) (kid_at s (kids_of t)) ≡ accepted (kid_at s (kids_of t'))
unfolding see_all below
kid_of_values o d s [] t t' e = cc
kid_of_values o d s (v ∷ vs) t t' e =
    bind_ok (see o d v t) _ t' e λ u e₁ e₂.
    rw (see_all_append, kid_of_value o d s v t u e₁) (kid_of_values o d s vs u t' e₂)

-- every place is what the values that stand there make of it
pub at_place : (o d : ℕ) (steps : List Step) (vs : List Value) (t t' : Tree) → see_all o d vs t ≡ accepted t'
    → see_all o (depth_at d steps) (standing steps vs) (place_at steps t) ≡ accepted (place_at steps t')
unfolding standing place_at depth_at
at_place o d [] vs t t' e = e
at_place o d (s ∷ steps) vs t t' e =
    at_place o (d + dots_of s) steps (below s vs) (kid_at s (kids_of t)) (kid_at s (kids_of t')) (kid_of_values o d s vs t t' e)
