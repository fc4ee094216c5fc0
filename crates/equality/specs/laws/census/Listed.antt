-- An accepted batch has at most 1,024 places: those of its tree, each of which the census knows and no others.
use Rattle.std.specs.Prelude.{◌≡◌, refl, Bool, true, false, List, [], ◌∷◌, ◌++◌, ℕ, ◌+◌, length}
use Rattle.std.proofs.lemmas.Bool.{false≢true}
use Rattle.std.proofs.Common.{inl, inr, arith, length-append}
use Rattle.std.proofs.Math.Option.{none, some}
use Rattle.logic.specs.Test.{when◌then◌else◌}
use Rattle.logic.specs.laws.Test.{cases}
use Rattle.model.specs.Result.{accepted}
use Rattle.model.specs.Kinds.{Step, same}
use Rattle.model.specs.Reading.{Value}
use Rattle.model.specs.Tracing.{Tree, node, Kids, no_kids, kid, fresh, dots_of, place_limit, steps_of, has, kid_at, Counted, trace}
use Rattle.model.specs.Unbounded.{see_all}
use Rattle.model.specs.Census.{Said, census, below, steps_seen, is_lacking}
use Rattle.model.specs.Bound.{unnamed, without_names, Among, AtMost}
use Rattle.equality.specs.laws.Base.{same_true}
use Rattle.equality.specs.laws.Proper.{all_proper}
use Rattle.equality.specs.laws.tracing.Count.{size, sizes, traced}
use Rattle.equality.specs.laws.tracing.Place.{below_proper}
use Rattle.equality.specs.laws.census.View.{kid_fresh, steps_fresh}

-- ---- the places of a tree in a list
-- each behind a step
unfoldable led_by : Step → List (List Step) → List (List Step)
led_by s [] = []
led_by s (l ∷ ls) = (s ∷ l) ∷ led_by s ls

unfoldable mutual
  listed : Tree → List (List Step)
  listed (node m kind samples kids) = [] ∷ listed_in kids

  listed_in : Kids → List (List Step)
  listed_in no_kids = []
  listed_in (kid s held t kids) = led_by (unnamed s) (listed t) ++ listed_in kids

led_length : (s : Step) (ls : List (List Step)) → length (led_by s ls) ≡ length ls
unfolding led_by
led_length s [] = refl
led_length s (l ∷ ls) = omega (arith, led_length s ls)

mutual
  unfolding listed size

  listed_size : (t : Tree) → length (listed t) ≡ size t
  listed_size (node b k n ks) = omega (arith, listed_sizes ks)

  listed_sizes : (ks : Kids) → length (listed_in ks) ≡ sizes ks
  listed_sizes no_kids = refl
  listed_sizes (kid s n t ks) =
      omega (arith, listed_size t, listed_sizes ks, led_length (unnamed s) (listed t), length-append (led_by (unnamed s) (listed t)) (listed_in ks))

among_led : (s : Step) (l : List Step) (ls : List (List Step)) → Among l ls → Among (s ∷ l) (led_by s ls)
unfolding Among led_by
among_led s l [] i = i
among_led s l (k ∷ ls) (inl e) = inl (rw e refl)
among_led s l (k ∷ ls) (inr i) = inr (among_led s l ls i)

among_before : (l : List Step) (ls more : List (List Step)) → Among l ls → Among l (ls ++ more)
unfolding Among
among_before l [] more i = absurd i
among_before l (k ∷ ls) more (inl e) = inl e
among_before l (k ∷ ls) more (inr i) = inr (among_before l ls more i)

among_after : (l : List Step) (ls more : List (List Step)) → Among l more → Among l (ls ++ more)
unfolding Among
among_after l [] more i = i
among_after l (k ∷ ls) more i = inr (among_after l ls more i)

among_kid : (s : Step) (l : List Step) (ks : Kids) → has s (steps_of ks) ≡ true → Among l (listed (kid_at s ks)) → Among (unnamed s ∷ l) (listed_in ks)
unfolding listed steps_of has kid_at when◌then◌else◌
among_kid s l no_kids h i = absurd (false≢true h)
among_kid s l (kid r n t ks) h i =
    cases (same s r)
    (λ e.
    let j : Among l (listed t) = rw e at i in
    rw (same_true s r e) (among_before (unnamed r ∷ l) (led_by (unnamed r) (listed t)) (listed_in ks) (among_led (unnamed r) l (listed t) j)))
    (λ e. among_after (unnamed s ∷ l) (led_by (unnamed r) (listed t)) (listed_in ks) (among_kid s l ks (rw e at h) (rw e at i)))

-- ---- hold all of which the census says anything
listed_said : (o d : ℕ) (steps : List Step) (lacking : Bool) (vs : List Value) (t : Tree) (said : Said) → all_proper o vs ≡ true → see_all o d vs fresh ≡ accepted t
    → census o steps lacking vs ≡ some said → Among (without_names steps) (listed t)
unfolding listed Among without_names census when◌then◌else◌
listed_said o d [] lacking vs (node b k n ks) said p e c = inl refl
listed_said o d (s ∷ steps) lacking vs (node b k n ks) said p e c =
    let is : steps_of ks ≡ steps_seen vs [] = steps_fresh o d vs (node b k n ks) e p in
    cases (has s (steps_seen vs []))
    (λ h.
    let there : has s (steps_of ks) ≡ true = rw is h in
    let kid-said = listed_said o (d + dots_of s) steps (is_lacking o s vs) (below s vs) (kid_at s ks) said (below_proper o s vs p) (kid_fresh o d vs (node b k n ks) e s) (rw h at c) in
    inr (among_kid s (without_names steps) ks there kid-said))
    (λ h. let z : none ≡ some said = rw h at c in absurd (let y : ◌≡◌ {A = ℕ} 0 1 = cc in omega arith))

pub few_places_lem : (o : ℕ) (vs : List Value) (r : Counted Tree) → trace o vs ≡ accepted r → all_proper o vs ≡ true → AtMost place_limit o vs
few_places_lem o vs r e p =
    let t = traced o vs r e in
    record {
      places = listed r.what;
      few = omega (arith, listed_size r.what, t.2);
      hold = λ steps said c. listed_said o 0 steps false vs r.what said p t.0 c;
    }
