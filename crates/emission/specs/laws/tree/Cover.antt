-- Every number below the count of places is that of a place of the tree.
use Prim.{tt}
use Rattle.std.specs.Prelude.{◌≡◌, refl, Bool, true, List, [], ◌∷◌, ℕ, ◌+◌, ◌<◌, ◌≤◌, eqb, ltb}
use Rattle.std.proofs.Common.{sym, subst, ◌∙◌, arith, eq-eqb, ltb-true, ltb-false}
use Rattle.std.proofs.lemmas.Bool.{false≢true, eqb-false}
use Rattle.logic.specs.Test.{when◌then◌else◌}
use Rattle.logic.specs.laws.Test.{cases}
use Rattle.equality.specs.laws.Base.{or_cases}
use Rattle.model.specs.Result.{Result, accepted, refused, ◌>>=◌}
use Rattle.model.specs.Kinds.{Step, same}
use Rattle.model.specs.Reading.{Value, val, cut, Parts, no_parts, cut_off, part, values}
use Rattle.model.specs.Tracing.{Marks, marks_with, dots_of, place_limit, meet, has, clashes, made, Counted, counted}
use Rattle.refine.specs.laws.numbered.Tree.{Spot, spot, Spots, no_spots, child, num, marks_s, kind_s, samples_s, below_s, steps_s, new_spot, spot_at, put_s, add_s, make_s, make_all_s, sample_of, walk, walk_parts, walk_all}
use Rattle.refine.specs.laws.numbered.Numbers.{within, within_in, or_right, has_add, add_among, has_is, or_left}

-- P of the count and of what an outcome counts
abbrev Gives : {A : Type 0} → (ℕ → A → Type 0) → Result (Counted A) → Type 0
Gives P (accepted r) = P r.places r.what
Gives P (refused n at) = Unit {0}

after : {A B : Type 0} (Q : ℕ → B → Type 0) (r : Result A) (f : A → Result (Counted B)) → ((a : A) → Gives Q (f a)) → Gives Q (r >>= f)
after Q (accepted a) f h = h a
after Q (refused n at) f h = tt

then_gives : {A B : Type 0} (P : ℕ → A → Type 0) (Q : ℕ → B → Type 0) (r : Result (Counted A)) (f : Counted A → Result (Counted B)) → Gives P r →
    ((x : Counted A) → P x.places x.what → Gives Q (f x)) → Gives Q (r >>= f)
then_gives P Q (accepted x) f g h = h x g
then_gives P Q (refused n at) f g h = tt

-- ---- numbers are kept, and those from one count to the other are new
abbrev Grows : (ℕ → Bool) → ℕ → (ℕ → Bool) → ℕ → Type 0
Grows old n new m = ((q : ℕ) → old q ≡ true → new q ≡ true) × ((q : ℕ) → n ≤ q → q < m → new q ≡ true)

stays : (old : ℕ → Bool) (n : ℕ) → Grows old n old n
stays old n = ((λ q e. e), λ q l i. absurd (omega arith))

and_then : (a b c : ℕ → Bool) (n m k : ℕ) → Grows a n b m → Grows b m c k → Grows a n c k
and_then a b c n m k x y = ((λ q e. y.0 q (x.0 q e)), λ q l i. cases (ltb q m) (λ e. y.0 q (x.1 q l (ltb-true q m e))) (λ e. y.1 q (ltb-false q m e) i))

abbrev GrowsIn : ℕ → Spots → ℕ → Spots → Type 0
GrowsIn n ks m is = Grows (λ q. within_in q ks) n (λ q. within_in q is) m

abbrev GrowsS : ℕ → Spot → ℕ → Spot → Type 0
GrowsS n u m v = Grows (λ q. within q u) n (λ q. within q v) m

then_in : (n m k : ℕ) (ks is js : Spots) → GrowsIn n ks m is → GrowsIn m is k js → GrowsIn n ks k js
then_in n m k ks is js = and_then (λ q. within_in q ks) (λ q. within_in q is) (λ q. within_in q js) n m k

-- what grows from there grows from here
from_there : (n m : ℕ) (ks is : Spots) → GrowsIn n ks m is → (x : Result (Counted Spots)) → Gives (GrowsIn m is) x → Gives (GrowsIn n ks) x
from_there n m ks is g (accepted r) h = then_in n m r.places ks is r.what g h
from_there n m ks is g (refused k at) h = tt

-- a child that must be there
add_grows : (s : Step) (n : ℕ) (ks : Spots) → GrowsIn n ks (n + 1) (add_s s n ks)
add_grows s n ks = (
  (λ q e. has_add q s n ks ∙ or_left (within_in q ks) (eqb q n) e),
  (λ q l i. has_add q s n ks ∙ or_right (within_in q ks) (eqb q n) (eq-eqb q n (omega arith))),
)

make_grows : (at : ℕ) (s : Step) (n : ℕ) (ks : Spots) → Gives (λ m is. GrowsIn n ks m is × (has s (steps_s is) ≡ true)) (make_s at s n ks)
unfolding make_s when◌then◌else◌
make_grows at s n ks =
    cases (clashes s (steps_s ks)) (λ e. rw e tt) λ e.
    cases (has s (steps_s ks)) (λ d. rw (e, d) (stays (λ q. within_in q ks) n, d)) λ d.
    cases (ltb n place_limit) (λ i. rw (e, d, i) (add_grows s n ks, add_among s n ks)) (λ i. rw (e, d, i) tt)

all_grow : (at : ℕ) (ss : List Step) (n : ℕ) (ks : Spots) → Gives (GrowsIn n ks) (make_all_s at ss n ks)
unfolding make_all_s
all_grow at [] n ks = stays (λ q. within_in q ks) n
all_grow at (s ∷ ss) n ks =
    then_gives (λ m is. GrowsIn n ks m is × (has s (steps_s is) ≡ true)) (GrowsIn n ks) (make_s at s n ks) (λ r. make_all_s at ss r.places r.what) (make_grows at s n ks) λ r g.
    from_there n r.places ks r.what g.0 (make_all_s at ss r.places r.what) (all_grow at ss r.places r.what)

-- a child that has grown
put_keeps : (q : ℕ) (s : Step) (sample : ℕ) (v : Spot) (ks : Spots) → (within q (spot_at s ks) ≡ true → within q v ≡ true) → within_in q ks ≡ true → within_in q (put_s s sample v ks) ≡ true
unfolding put_s spot_at when◌then◌else◌
put_keeps q s sample v no_spots f e = e
put_keeps q s sample v (child r h m u ks) f e =
    cases (same s r)
    (λ d. let f' : within q u ≡ true →
    within q v ≡ true = rw d at f in rw d
    (or_cases (within q u) (within_in q ks) e (λ a. or_left (within q v) (within_in q ks) (f' a)) (or_right (within q v) (within_in q ks))))
    (λ d.
    let f' : within q (spot_at s ks) ≡ true → within q v ≡ true = rw d at f in
    rw d (or_cases (within q u) (within_in q ks) e (or_left (within q u) (within_in q (put_s s sample v ks)))
    (λ a. or_right (within q u) (within_in q (put_s s sample v ks)) (put_keeps q s sample v ks f' a))))

put_holds : (q : ℕ) (s : Step) (sample : ℕ) (v : Spot) (ks : Spots) → has s (steps_s ks) ≡ true → within q v ≡ true → within_in q (put_s s sample v ks) ≡ true
unfolding put_s has steps_s when◌then◌else◌
put_holds q s sample v no_spots e a = absurd (false≢true e)
put_holds q s sample v (child r h m u ks) e a =
    cases (same s r)
    (λ d. rw d (or_left (within q v) (within_in q ks) a))
    (λ d. let e' : has s (steps_s ks) ≡ true = rw d at e in rw d (or_right (within q u) (within_in q (put_s s sample v ks)) (put_holds q s sample v ks e' a)))

put_grows : (n m : ℕ) (s : Step) (sample : ℕ) (v : Spot) (ks : Spots) → has s (steps_s ks) ≡ true → GrowsS n (spot_at s ks) m v → GrowsIn n ks m (put_s s sample v ks)
put_grows n m s sample v ks h g = ((λ q e. put_keeps q s sample v ks (g.0 q) e), λ q l i. put_holds q s sample v ks h (g.1 q l i))

-- a place whose children have
spot_grows : (n m : ℕ) (u : Spot) (b : Marks) (k samples : ℕ) (ks : Spots) → GrowsIn n (below_s u) m ks → GrowsS n u m (spot (num u) b k samples ks)
spot_grows n m u b k samples ks g = (
  (λ q e. or_cases (eqb q (num u)) (within_in q (below_s u)) (sym (has_is q u) ∙ e) (or_left (eqb q (num u)) (within_in q ks)) (λ a. or_right (eqb q (num u)) (within_in q ks) (g.0 q a))),
  (λ q l i. or_right (eqb q (num u)) (within_in q ks) (g.1 q l i)),
)

-- ---- a walk
mutual
  unfolding walk walk_parts

  walk_grows : (options depth : ℕ) (v : Value) (n : ℕ) (u : Spot) → Gives (GrowsS n u) (walk options depth v n u)
  walk_grows options depth (val at b kind count ps) n u =
      after (GrowsS n u) (meet options depth at (kind_s u) kind) _ λ j.
      then_gives (GrowsIn n (below_s u)) (GrowsS n u) (make_all_s at (made kind count (kind_s u)) n (below_s u)) _ (all_grow at (made kind count (kind_s u)) n (below_s u)) λ x g.
      then_gives (GrowsIn n (below_s u)) (GrowsS n u) (walk_parts options depth (sample_of kind (samples_s u)) ps x.places x.what) _
      (from_there n x.places (below_s u) x.what g (walk_parts options depth (sample_of kind (samples_s u)) ps x.places x.what)
      (parts_grow options depth (sample_of kind (samples_s u)) ps x.places x.what)) λ q h.
      spot_grows n q.places u (marks_with b (kind_s u) kind (marks_s u)) j (sample_of kind (samples_s u)) q.what h
  walk_grows options depth (cut refusal place) n u = tt

  parts_grow : (options depth sample : ℕ) (ps : Parts) (n : ℕ) (ks : Spots) → Gives (GrowsIn n ks) (walk_parts options depth sample ps n ks)
  parts_grow options depth sample no_parts n ks = stays (λ q. within_in q ks) n
  parts_grow options depth sample (cut_off refusal place) n ks = tt
  parts_grow options depth sample (part at s v ps) n ks =
      then_gives (λ m is. GrowsIn n ks m is × (has s (steps_s is) ≡ true)) (GrowsIn n ks) (make_s at s n ks) _ (make_grows at s n ks) λ r g.
      then_gives (GrowsS r.places (spot_at s r.what)) (GrowsIn n ks) (walk options (depth + dots_of s) v r.places (spot_at s r.what)) _
      (walk_grows options (depth + dots_of s) v r.places (spot_at s r.what)) λ q h.
      from_there n q.places ks (put_s s sample q.what r.what)
      (then_in n r.places q.places ks r.what (put_s s sample q.what r.what) g.0 (put_grows r.places q.places s sample q.what r.what g.1 h))
      (walk_parts options depth sample ps q.places (put_s s sample q.what r.what))
      (parts_grow options depth sample ps q.places (put_s s sample q.what r.what))

all_walks_grow : (options : ℕ) (vs : List Value) (n : ℕ) (u : Spot) → Gives (GrowsS n u) (walk_all options vs n u)
unfolding walk_all
all_walks_grow options [] n u = stays (λ q. within q u) n
all_walks_grow options (v ∷ vs) n u =
    then_gives (GrowsS n u) (GrowsS n u) (walk options 0 v n u) _ (walk_grows options 0 v n u) λ r g.
    more r.places r.what g (walk_all options vs r.places r.what) (all_walks_grow options vs r.places r.what)
  where
    more : (m : ℕ) (w : Spot) → GrowsS n u m w → (x : Result (Counted Spot)) → Gives (GrowsS m w) x → Gives (GrowsS n u) x
    more m w g (accepted r) h = and_then (λ q. within q u) (λ q. within q w) (λ q. within q r.what) n m r.places g h
    more m w g (refused k at) h = tt

-- the tree that a batch gives
pub cover : (options : ℕ) (commands text : List ℕ) (n : ℕ) (u : Spot) → walk_all options (values options commands text) 1 (new_spot 0) ≡ counted n u → (q : ℕ) → q < n → within q u ≡ true
cover options commands text n u e q l =
    let g = subst (Gives (GrowsS 1 (new_spot 0))) e (all_walks_grow options (values options commands text) 1 (new_spot 0)) in
    cases (eqb q 0) (λ d. g.0 q (rw d refl)) (λ d. g.1 q (let z : q ≡ 0 → ⊥ = eqb-false q 0 d in omega arith) l)
