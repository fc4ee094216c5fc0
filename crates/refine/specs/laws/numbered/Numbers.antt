-- Numbers in the numbered tree: a good tree's rise, and its subtrees are apart.
use Rattle.std.specs.Prelude.{◌≡◌, Bool, false, ◌||◌, ℕ, ◌+◌, ◌<◌, ◌≤◌, eqb}
use Rattle.std.proofs.Math.Path.{refl}
use Rattle.std.proofs.Common.{ap, sym, ◌∙◌, true≢false, arith, eqb-true, eq-eqb, ne_eqb}
use Rattle.std.proofs.Math.Bool.{or-false, or_assoc, true}
use Rattle.std.proofs.lemmas.Bool.{false≢true}
use Rattle.logic.specs.Test.{when◌then◌else◌}
use Rattle.logic.specs.laws.Test.{cases}
use Rattle.model.specs.Kinds.{Step, same}
use Rattle.model.specs.Tracing.{has}
use Rattle.equality.specs.laws.Base.{same_refl, or_cases}
use Rattle.refine.specs.laws.numbered.Tree.{Spot, spot, Spots, no_spots, child, num, below_s, steps_s, new_spot, spot_at, put_s, add_s}
use Rattle.refine.specs.laws.reading.Steps.{near, near_sym}

-- the numbers of the first and the last child
abbrev pub first_of : Spots → ℕ
first_of no_spots = 0
first_of (child s h m u ks) = num u

abbrev pub last_from : ℕ → Spots → ℕ
last_from c no_spots = c
last_from c (child s h m u ks) = last_from (num u) ks

-- a number stands in the tree
abbrev mutual
  pub within : ℕ → Spot → Bool
  within q (spot p b k m ks) = eqb q p || within_in q ks

  pub within_in : ℕ → Spots → Bool
  within_in q no_spots = false
  within_in q (child s h m u ks) = within q u || within_in q ks

-- a child's step is taken for s by the search
unfoldable pub near_in : Step → Spots → Bool
near_in s no_spots = false
near_in s (child r h m u ks) = near s r || near_in s ks

-- Numbers are below n and rise along siblings, none stands twice, and no two siblings' steps are taken for one another.
abbrev mutual
  pub Good : ℕ → Spot → Type 0
  Good n (spot p b k m ks) = (p < n) × (within_in p ks ≡ false) × GoodIn n p ks

  pub GoodIn : ℕ → ℕ → Spots → Type 0
  GoodIn n c no_spots = Unit {0}
  GoodIn n c (child s h m u ks) = (c < num u) × Good n u × ((q : ℕ) → within q u ≡ true → within_in q ks ≡ false) × GoodIn n (num u) ks × (near_in s ks ≡ false)

-- ---- tests
pub both_false : (a b : Bool) → a || b ≡ false → (a ≡ false) × (b ≡ false)
both_false true b e = absurd (true≢false e)
both_false false b e = (refl, e)

pub or_left : (a b : Bool) → a ≡ true → a || b ≡ true
or_left a b e = rw e refl

pub or_right : (a b : Bool) → b ≡ true → a || b ≡ true
or_right true b e = refl
or_right false b e = e

pub not_both : (b : Bool) → b ≡ true → b ≡ false → ⊥
not_both b e f = true≢false (sym e ∙ f)

pub un_true : (b : Bool) → (b ≡ true → ⊥) → b ≡ false
un_true true f = absurd (f refl)
un_true false f = refl

-- ---- numbers in a good tree
mutual
  pub bounded : (n q : ℕ) (u : Spot) → Good n u → within q u ≡ true → q < n
  bounded n q (spot p b k m ks) g e = or_cases (eqb q p) (within_in q ks) e (λ a. let h : q ≡ p = eqb-true q p a in omega (arith, g.0)) (λ a. bounded_in n p q ks g.2 a)

  pub bounded_in : (n c q : ℕ) (ks : Spots) → GoodIn n c ks → within_in q ks ≡ true → q < n
  bounded_in n c q no_spots g e = absurd (false≢true e)
  bounded_in n c q (child s h m u ks) g e = or_cases (within q u) (within_in q ks) e (λ a. bounded n q u g.1 a) (λ a. bounded_in n (num u) q ks g.3 a)

mutual
  pub more : (n n' : ℕ) (u : Spot) → n ≤ n' → Good n u → Good n' u
  more n n' (spot p b k m ks) l g = (omega (arith, g.0), g.1, more_in n n' p ks l g.2)

  pub more_in : (n n' c : ℕ) (ks : Spots) → n ≤ n' → GoodIn n c ks → GoodIn n' c ks
  more_in n n' c no_spots l g = tt
  more_in n n' c (child s h m u ks) l g = (g.0, more n n' u l g.1, g.2, more_in n n' (num u) ks l g.3, g.4)

pub self : (u : Spot) → within (num u) u ≡ true
self (spot p b k m ks) = rw (eq-eqb p p refl) refl

pub has_num : (u : Spot) (ks : Spots) → within (num u) u || within_in (num u) ks ≡ true
has_num u ks = or_left (within (num u) u) (within_in (num u) ks) (self u)

pub has_below : (q : ℕ) (u : Spot) → within_in q (below_s u) ≡ true → within q u ≡ true
has_below q (spot p b k m ks) e = or_right (eqb q p) (within_in q ks) e

-- the child that is found is below
pub found : (q : ℕ) (s : Step) (ks : Spots) → has s (steps_s ks) ≡ true → within q (spot_at s ks) ≡ true → within_in q ks ≡ true
unfolding has steps_s spot_at when◌then◌else◌
found q s no_spots e a = absurd (false≢true e)
found q s (child r h m u ks) e a =
    cases (same s r)
    (λ d. let a' : within q u ≡ true = rw d at a in rw a' refl)
    (λ d. let e' : has s (steps_s ks) ≡ true = rw d at e in let a' : within q (spot_at s ks) ≡ true = rw d at a in or_right (within q u) (within_in q ks) (found q s ks e' a'))

-- a child in a good tree is good, and its number is above
pub child_good : (n c : ℕ) (s : Step) (ks : Spots) → GoodIn n c ks → has s (steps_s ks) ≡ true → Good n (spot_at s ks) × (c < num (spot_at s ks))
unfolding has steps_s spot_at when◌then◌else◌
child_good n c s no_spots g e = absurd (false≢true e)
child_good n c s (child r h m u ks) g e =
    cases (same s r)
    (λ d. rw d (g.1, g.0))
    (λ d. let e' : has s (steps_s ks) ≡ true = rw d at e in let i = child_good n (num u) s ks g.3 e' in rw d (i.0, omega (arith, g.0, i.1)))

-- a new child
pub has_add : (q : ℕ) (s : Step) (n : ℕ) (ks : Spots) → within_in q (add_s s n ks) ≡ (within_in q ks || eqb q n)
unfolding add_s
has_add q s n no_spots = or-false _ ∙ or-false _
has_add q s n (child r h m u ks) = rw (has_add q s n ks) (sym (or_assoc (within q u) (within_in q ks) (eqb q n)))

pub has_add_old : (q : ℕ) (s : Step) (n : ℕ) (ks : Spots) → q < n → within_in q (add_s s n ks) ≡ within_in q ks
has_add_old q s n ks l = rw (has_add q s n ks, ne_eqb q n (omega arith)) (or-false (within_in q ks))

pub near_add : (r s : Step) (n : ℕ) (ks : Spots) → near_in r (add_s s n ks) ≡ (near_in r ks || near r s)
unfolding add_s near_in
near_add r s n no_spots = or-false (near r s)
near_add r s n (child q h m u ks) = rw (near_add r s n ks) (sym (or_assoc (near r q) (near_in r ks) (near r s)))

pub add_good : (n c : ℕ) (s : Step) (ks : Spots) → c < n → near_in s ks ≡ false → GoodIn n c ks → GoodIn (n + 1) c (add_s s n ks)
unfolding add_s near_in
add_good n c s no_spots l z g = (l, (omega arith, refl, tt), (λ q e. refl), tt, refl)
add_good n c s (child r h m u ks) l z g =
    let d = both_false (near s r) (near_in s ks) z in (
      g.0,
      more n (n + 1) u (omega arith) g.1,
      (λ q e. rw (has_add_old q s n ks (bounded n q u g.1 e)) (g.2 q e)),
      add_good n (num u) s ks (bounded n (num u) u g.1 (self u)) d.1 g.3,
      near_add r s n ks ∙ (rw (g.4, near_sym r s, d.0)),
    )

pub add_among : (s : Step) (n : ℕ) (ks : Spots) → has s (steps_s (add_s s n ks)) ≡ true
unfolding add_s has steps_s
add_among s n no_spots = rw (same_refl s) refl
add_among s n (child r h m u ks) = or_right (same s r) _ (add_among s n ks)

pub add_found : (s : Step) (n : ℕ) (ks : Spots) → has s (steps_s ks) ≡ false → spot_at s (add_s s n ks) ≡ new_spot n
unfolding add_s has steps_s spot_at when◌then◌else◌
add_found s n no_spots e = rw (same_refl s) refl
add_found s n (child r h m u ks) e = let d = both_false (same s r) (has s (steps_s ks)) e in rw d.0 (add_found s n ks d.1)

-- a child that has grown
module _ (n n' : ℕ) (s : Step) (N : ℕ) (v : Spot) (l : n ≤ n') (gv : Good n' v) where
  pub put_has : (q : ℕ) (ks : Spots) → has s (steps_s ks) ≡ true → within q v ≡ within q (spot_at s ks) → within_in q (put_s s N v ks) ≡ within_in q ks
  unfolding put_s has steps_s spot_at when◌then◌else◌
  put_has q no_spots e w = refl
  put_has q (child r h m u ks) e w =
      cases (same s r)
      (λ d. let w' : within q v ≡ within q u = rw d at w in rw d (ap (λ (x : Bool). x || within_in q ks) w'))
      (λ d. let e' : has s (steps_s ks) ≡ true = rw d at e in let w' : within q v ≡ within q (spot_at s ks) = rw d at w in rw d (ap (λ (x : Bool). within q u || x) (put_has q ks e' w')))

  put_near : (r : Step) (ks : Spots) → near_in r (put_s s N v ks) ≡ near_in r ks
  unfolding put_s near_in when◌then◌else◌
  put_near r no_spots = refl
  put_near r (child q h m u ks) = cases (same s q) (λ d. rw d) (λ d. rw (d, put_near r ks))

  pub put_good : (c : ℕ) (ks : Spots) → GoodIn n c ks → has s (steps_s ks) ≡ true → num v ≡ num (spot_at s ks) → ((q : ℕ) → q < n → within q v ≡ within q (spot_at s ks)) → GoodIn n' c (put_s s N v ks)
  unfolding put_s has steps_s spot_at when◌then◌else◌
  put_good c no_spots g e w k = tt
  put_good c (child r h m u ks) g e w k =
      cases (same s r)
      (λ d.
      let w' : num v ≡ num u = rw d at w in
      let k' : (q : ℕ) → q < n → within q v ≡ within q u = rw d at k in
      rw d (
        rw w' g.0,
        gv,
        (λ q a. un_true (within_in q ks) (λ b. let i : q < n = bounded_in n (num u) q ks g.3 b in not_both (within_in q ks) b (g.2 q (sym (k' q i) ∙ a)))),
        rw w' (more_in n n' (num u) ks l g.3),
        g.4,
      ))
      (λ d.
      let e' : has s (steps_s ks) ≡ true = rw d at e in
      let w' : num v ≡ num (spot_at s ks) = rw d at w in
      let k' : (q : ℕ) → q < n → within q v ≡ within q (spot_at s ks) = rw d at k in
      rw d (
        g.0,
        more n n' u l g.1,
        (λ q a. put_has q ks e' (k' q (bounded n q u g.1 a)) ∙ g.2 q a),
        put_good (num u) ks g.3 e' w' k',
        put_near r ks ∙ g.4,
      ))

pub not_below : (n : ℕ) (u : Spot) → Good n u → within_in (num u) (below_s u) ≡ false
not_below n (spot p b k m ks) g = g.1

pub has_is : (q : ℕ) (u : Spot) → within q u ≡ (eqb q (num u) || within_in q (below_s u))
has_is q (spot p b k m ks) = refl

pub has_same : (q : ℕ) (u v : Spot) → num v ≡ num u → within_in q (below_s v) ≡ within_in q (below_s u) → within q v ≡ within q u
has_same q u v e w = rw (has_is q u, has_is q v, e, w) refl
