-- Offsets decide only where a refusal is placed. A reordering moves offsets, so it is stated of values with their offsets forgotten.
use Rattle.std.specs.Prelude.{◌≡◌, refl, Bool, not, ◌&&◌, ◌||◌, List, [], ◌∷◌, ◌++◌, ℕ, ◌+◌, eqb, leb}
use Rattle.std.proofs.Common.{ap}
use Rattle.std.proofs.Math.Option.{Option, none, some}
use Rattle.datatype.specs.Codes.{null}
use Rattle.refusal.specs.Number.{no_joint}
use Rattle.coerce.specs.Joint.{joint}
use Rattle.model.specs.Result.{Result, accepted, refused, ◌>>=◌, or_refused}
use Rattle.model.specs.Kinds.{Step, is_container, same}
use Rattle.model.specs.Reading.{Value, val, cut, Parts, no_parts, cut_off, part, is_whole, are_whole, all_whole}
use Rattle.model.specs.Tracing.{Tree, node, Kids, no_kids, kid, marks_of, kind_of, samples_of, kids_of, dots_of, depth_limit, same_container, meet, marks_with, steps_of, kid_at, put, clashes, made, holds, one, tally}
use Rattle.model.specs.Unbounded.{make_all, allowed, see, see_parts, see_all}
use Rattle.equality.specs.laws.Base.{choices}
use Rattle.equality.specs.laws.reading.Locality.{moved, moved_parts, moved_all}

unfoldable mutual
  pub forget : Value → Value
  forget (val at null kind n ps) = val 0 null kind n (forgets ps)
  forget (cut refusal place) = cut refusal 0

  pub forgets : Parts → Parts
  forgets no_parts = no_parts
  forgets (cut_off refusal place) = cut_off refusal 0
  forgets (part at s v ps) = part 0 s (forget v) (forgets ps)

unfoldable pub forget_all : List Value → List Value
forget_all [] = []
forget_all (v ∷ vs) = forget v ∷ forget_all vs

-- an outcome without its place
abbrev pub blur : {A : Type 0} → Result A → Result A
blur (accepted a) = accepted a
blur (refused refusal place) = refused refusal 0

blur_bind : {A B : Type 0} (r q : Result A) (f g : A → Result B) → q ≡ blur r → ((a : A) → g a ≡ blur (f a)) → (q >>= g) ≡ blur (r >>= f)
blur_bind (accepted a) q f g e h = rw e (h a)
blur_bind (refused n at) q f g e h = rw e

blur_or : {A : Type 0} (n at : ℕ) (o : Option A) → or_refused n 0 o ≡ blur (or_refused n at o)
blur_or n at none = refl
blur_or n at (some a) = refl

blur_meet : (options depth at kind other : ℕ) → meet options depth 0 kind other ≡ blur (meet options depth at kind other)
unfolding meet
blur_meet options depth at kind other =
    let B : Result ℕ → Result ℕ → Type 0 = λ r q. q ≡ blur r in
    choices B (is_container other && leb depth_limit depth) refl (
    choices B (not (is_container kind || is_container other)) (blur_or no_joint at (joint options kind other)) (
    choices B (eqb other null) refl (choices B (eqb kind null) refl (choices B (same_container kind other) refl refl))))

blur_allowed : (at : ℕ) (s : Step) (kids : Kids) → allowed 0 s kids ≡ blur (allowed at s kids)
unfolding allowed
blur_allowed at s kids = choices (λ r q. q ≡ blur r) (clashes s (steps_of kids)) refl refl

holds_forgets : (s : Step) (ps : Parts) → holds s (forgets ps) ≡ holds s ps
unfolding holds forget
holds_forgets s no_parts = refl
holds_forgets s (cut_off n at) = refl
holds_forgets s (part at r v ps) = ap (λ (b : Bool). same s r || b) (holds_forgets s ps)

tally_forgets : (ps : Parts) (kids : Kids) → tally (forgets ps) kids ≡ tally ps kids
unfolding tally
tally_forgets ps no_kids = refl
tally_forgets ps (kid s n t kids) = rw (holds_forgets s ps, tally_forgets ps kids)

mutual
  unfolding see forget

  pub see_forget : (options depth : ℕ) (v : Value) (t : Tree) → see options depth (forget v) t ≡ blur (see options depth v t)
  see_forget options depth (cut n at) t = refl
  see_forget options depth (val at null kind n ps) t =
      blur_bind (meet options depth at (kind_of t) kind) _ _ _ (blur_meet options depth at (kind_of t) kind) λ met.
      blur_bind (see_parts options depth ps (make_all (made kind n (kind_of t)) (kids_of t))) _ _ _ (parts_forget options depth ps (make_all (made kind n (kind_of t)) (kids_of t))) λ kids.
      ap (λ (x : Kids). accepted (node (marks_with null (kind_of t) kind (marks_of t)) met (samples_of t + one (is_container kind)) x)) (tally_forgets ps kids)

  pub parts_forget : (options depth : ℕ) (ps : Parts) (kids : Kids) → see_parts options depth (forgets ps) kids ≡ blur (see_parts options depth ps kids)
  parts_forget options depth no_parts kids = refl
  parts_forget options depth (cut_off n at) kids = refl
  parts_forget options depth (part at s v ps) kids =
      blur_bind (allowed at s kids) _ _ _ (blur_allowed at s kids) λ _.
      blur_bind (see options (depth + dots_of s) v (kid_at s kids)) _ _ _ (see_forget options (depth + dots_of s) v (kid_at s kids)) λ t.
      parts_forget options depth ps (put s t kids)

-- values with their offsets forgotten have the same outcome, but for the place of a refusal
pub all_forget : (options depth : ℕ) (vs : List Value) (t : Tree) → see_all options depth (forget_all vs) t ≡ blur (see_all options depth vs t)
unfolding see_all forget_all
all_forget options depth [] t = refl
all_forget options depth (v ∷ vs) t = blur_bind (see options depth v t) _ _ _ (see_forget options depth v t) λ u. all_forget options depth vs u

-- ---- moved values are the same, their offsets forgotten
mutual
  unfolding moved forget

  pub forget_moved : (m : ℕ) (v : Value) → forget (moved m v) ≡ forget v
  forget_moved m (val at null kind n ps) = rw (forgets_moved m ps)
  forget_moved m (cut n p) = refl

  pub forgets_moved : (m : ℕ) (ps : Parts) → forgets (moved_parts m ps) ≡ forgets ps
  forgets_moved m no_parts = refl
  forgets_moved m (cut_off n p) = refl
  forgets_moved m (part at s v ps) = rw (forget_moved m v, forgets_moved m ps)

pub forget_all_moved : (m : ℕ) (vs : List Value) → forget_all (moved_all m vs) ≡ forget_all vs
unfolding moved_all forget_all
forget_all_moved m [] = refl
forget_all_moved m (v ∷ vs) = rw (forget_moved m v, forget_all_moved m vs)

pub forget_all_append : (vs ws : List Value) → forget_all (vs ++ ws) ≡ forget_all vs ++ forget_all ws
unfolding forget_all
forget_all_append [] ws = refl
forget_all_append (v ∷ vs) ws = ap (λ (us : List Value). forget v ∷ us) (forget_all_append vs ws)

-- and are whole alike
mutual
  unfolding moved is_whole

  pub whole_moved : (m : ℕ) (v : Value) → is_whole (moved m v) ≡ is_whole v
  whole_moved m (val at null kind n ps) = wholes_moved m ps
  whole_moved m (cut n p) = refl

  pub wholes_moved : (m : ℕ) (ps : Parts) → are_whole (moved_parts m ps) ≡ are_whole ps
  wholes_moved m no_parts = refl
  wholes_moved m (cut_off n p) = refl
  wholes_moved m (part at s v ps) = rw (whole_moved m v, wholes_moved m ps)

pub all_whole_moved : (m : ℕ) (vs : List Value) → all_whole (moved_all m vs) ≡ all_whole vs
unfolding moved_all all_whole
all_whole_moved m [] = refl
all_whole_moved m (v ∷ vs) = rw (whole_moved m v, all_whole_moved m vs)
