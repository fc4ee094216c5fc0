-- The walk over the numbered tree is the model's tracing, numbers and marks forgotten.
use Rattle.std.specs.Prelude.{◌≡◌, refl, Bool, true, false, ◌||◌, List, [], ◌∷◌, ℕ, ◌+◌, ◌*◌, ◌^◌, ◌≤◌, ◌<◌, eqb, ltb, length}
use Rattle.std.proofs.Common.{ap, sym, subst, ◌∙◌, true≢false, mod-eq_of_lt, arith, eq-eqb, ne_eqb, leb-false}
use Rattle.std.proofs.Math.Path.{fun_ext}
use Rattle.std.proofs.lemmas.Bool.{false≢true}
use Rattle.std.proofs.Math.Nat.{add-zero}
use Rattle.logic.specs.Test.{when◌then◌else◌}
use Rattle.logic.specs.laws.Test.{cases, neither}
use Rattle.model.specs.Result.{Result, accepted, refused, ◌>>=◌}
use Rattle.model.specs.Kinds.{sequence_kind, map_kind, tuple_kind, is_container, Step, same}
use Rattle.model.specs.Reading.{Value, val, cut, Parts, no_parts, cut_off, part, values}
use Rattle.model.specs.Tracing.{Marks, Tree, node, Kids, no_kids, kid, dots_of, place_limit, meet, marks_with, steps_of, has, kid_at, put, clashes, room, made, Counted, counted, make, holds, one, tally, observe, observe_parts, observe_all, trace}
use Rattle.equality.specs.laws.Base.{same_true, same_refl, same_sym}
use Rattle.growth.specs.Growth.{onward}
use Rattle.refine.specs.laws.numbered.Tree.{Spot, spot, Spots, no_spots, child, steps_s, new_spot, spot_at, put_s, add_s, make_s, make_all_s, sample_of, walk, walk_parts, walk_all}
use Rattle.refine.specs.laws.reading.Bounds.{nodes, nodes_in, nodes_all, Bare, BareIn, AllBare, values_bare, values_few}

-- a place without its number, and its children without their marks
abbrev mutual
  pub erase : Spot → Tree
  erase (spot p b k m ks) = node b k m (erase_in ks)

  pub erase_in : Spots → Kids
  erase_in no_spots = no_kids
  erase_in (child s h x u ks) = kid s h (erase u) (erase_in ks)

-- an outcome of the walk, numbers and marks forgotten
abbrev pub erased : Result (Counted Spot) → Result (Counted Tree)
erased (accepted r) = counted r.places (erase r.what)
erased (refused refusal place) = refused refusal place

-- ---- what is true between samples: a place's children were held, and last marked, in samples that were; their steps differ; no place has
-- more samples than there were values
abbrev mutual
  Marked : ℕ → Spot → Type 0
  Marked most (spot p b k m ks) = (m ≤ most) × MarkedIn m most ks

  MarkedIn : ℕ → ℕ → Spots → Type 0
  MarkedIn m most no_spots = Unit {0}
  MarkedIn m most (child s h x u ks) = (x ≤ m) × (h ≤ m) × (has s (steps_s ks) ≡ false) × Marked most u × MarkedIn m most ks

mutual
  marked_more : {most more : ℕ} (u : Spot) → most ≤ more → Marked most u → Marked more u
  marked_more (spot p b k m ks) l g = (omega (arith, g.0), marked_more_in m ks l g.1)

  marked_more_in : {most more : ℕ} (m : ℕ) (ks : Spots) → most ≤ more → MarkedIn m most ks → MarkedIn m more ks
  marked_more_in m no_spots l g = tt
  marked_more_in m (child s h x u ks) l g = (g.0, g.1, g.2, marked_more u l g.3, marked_more_in m ks l g.4)

-- in the middle of sample N: the steps seen in it are marked, and held once more than the model says as yet
data Mid (seen : Step → Bool) (N most : ℕ) : Spots → Kids → Type 0 where
  mnil : Mid seen N most no_spots no_kids
  mcons : {s : Step} {h g x : ℕ} {u : Spot} {ks : Spots} {K : Kids} → h ≡ g + one (seen s) → eqb x N ≡ seen s → (x ≤ N) × (g < N) → has s (steps_s ks) ≡ false → Marked most u → Mid seen N most ks K
      → Mid seen N most (child s h x u ks) (kid s g (erase u) K)

-- what was seen stands there
abbrev Only : (Step → Bool) → Spots → Type 0
Only seen ks = (s : Step) → has s (steps_s ks) ≡ false → seen s ≡ false

-- before a sample's parts nothing is seen, and behind them what they hold
start : (m most : ℕ) (ks : Spots) → MarkedIn m most ks → Mid (λ _. false) (m + 1) most ks (erase_in ks)
start m most no_spots g = mnil
start m most (child s h x u ks) g = mcons (sym (add-zero h)) (ne_eqb x (m + 1) (λ e. omega (arith, g.0, e))) (omega (arith, g.0), omega (arith, g.1)) g.2 g.3 (start m most ks g.4)

one_most : (b : Bool) → one b ≤ 1
one_most true = omega arith
one_most false = omega arith

finish : (N most : ℕ) (ps : Parts) {ks : Spots} {K : Kids} → Mid (λ s. holds s ps) N most ks K → (erase_in ks ≡ tally ps K) × MarkedIn N most ks
unfolding tally
finish N most ps mnil = (refl, tt)
finish N most ps (mcons {s = s} {h = h} {g = g'} {x = x} e f l d g r) =
    let i = finish N most ps r in
    let o : one (holds s ps) ≤ 1 = one_most (holds s ps) in
    let q : h ≤ N = omega (arith, e, l) in
    (rw (e, i.0) refl, (l.0, q, d, g, i.1))

mid_more : {seen : Step → Bool} {N most more : ℕ} {ks : Spots} {K : Kids} → most ≤ more → Mid seen N most ks K → Mid seen N more ks K
mid_more l mnil = mnil
mid_more l (mcons {u = u} e f b d g i) = mcons e f b d (marked_more u l g) (mid_more l i)

mid_steps : {seen : Step → Bool} {N most : ℕ} {ks : Spots} {K : Kids} → Mid seen N most ks K → steps_of K ≡ steps_s ks
unfolding steps_of steps_s
mid_steps mnil = refl
mid_steps (mcons {s = s} e f l d g i) = ap (λ (rs : List Step). s ∷ rs) (mid_steps i)

mid_kid : {seen : Step → Bool} {N most : ℕ} (s : Step) {ks : Spots} {K : Kids} → Mid seen N most ks K → has s (steps_s ks) ≡ true → (kid_at s K ≡ erase (spot_at s ks)) × Marked most (spot_at s ks)
unfolding steps_s has kid_at spot_at when◌then◌else◌
mid_kid s mnil e = absurd (false≢true e)
mid_kid s (mcons {s = r} {ks = ks} e f l d g i) a =
    cases (same s r) (λ q. rw q (refl, g)) (λ q. let a' : has s (steps_s ks) ≡ true = rw q at a in rw q (mid_kid s i a'))

-- ---- the steps that stand after a change
or_false : (b : Bool) → (b || false) ≡ b
or_false true = refl
or_false false = refl

or_true : (b : Bool) → (b || true) ≡ true
or_true true = refl
or_true false = refl

or_assoc : (a b c : Bool) → (a || (b || c)) ≡ ((a || b) || c)
or_assoc true b c = refl
or_assoc false b c = refl

add_has : (r s : Step) (n : ℕ) (ks : Spots) → has r (steps_s (add_s s n ks)) ≡ (has r (steps_s ks) || same r s)
unfolding steps_s has add_s
add_has r s n no_spots = or_false (same r s)
add_has r s n (child r' h x u ks) = ap (λ (b : Bool). same r r' || b) (add_has r s n ks) ∙ or_assoc (same r r') (has r (steps_s ks)) (same r s)

put_steps : (s : Step) (N : ℕ) (v : Spot) (ks : Spots) → steps_s (put_s s N v ks) ≡ steps_s ks
unfolding steps_s put_s when◌then◌else◌
put_steps s N v no_spots = refl
put_steps s N v (child r h x u ks) = cases (same s r) (λ q. rw q refl) (λ q. rw q (ap (λ (rs : List Step). r ∷ rs) (put_steps s N v ks)))

-- past a child at another step
kid_other : (s r : Step) → same s r ≡ false → (h : ℕ) (t : Tree) (K : Kids) → kid_at s (kid r h t K) ≡ kid_at s K
unfolding kid_at when◌then◌else◌
kid_other s r e h t K = rw e refl

put_other : (s r : Step) → same s r ≡ false → (t : Tree) (h : ℕ) (u : Tree) (K : Kids) → put s t (kid r h u K) ≡ kid r h u (put s t K)
unfolding put when◌then◌else◌
put_other s r e t h u K = rw e refl

-- a place put back in its place
put_back : (s r : Step) → same s r ≡ false → (h : ℕ) (t : Tree) (K : Kids) → put s (kid_at s (kid r h t K)) (kid r h t K) ≡ kid r h t (put s (kid_at s K) K)
put_back s r e h t K = put_other s r e (kid_at s (kid r h t K)) h t K ∙ ap (λ (x : Tree). kid r h t (put s x K)) (kid_other s r e h t K)

-- a new child, which this sample has not seen
mid_add : {seen : Step → Bool} {N most : ℕ} (s : Step) (n : ℕ) {ks : Spots} {K : Kids} → seen s ≡ false → 0 < N → has s (steps_s ks) ≡ false → Mid seen N most ks K
    → Mid seen N most (add_s s n ks) (put s (kid_at s K) K)
unfolding steps_s has add_s kid_at put when◌then◌else◌
mid_add {seen = seen} {N = N} s n w l a mnil =
    let e : ◌≡◌ {A = ℕ} 0 (0 + one (seen s)) = rw w refl in
    mcons {s = s} {x = 0} {u = new_spot n} e (ne_eqb 0 N (λ z. omega arith) ∙ sym w) (omega arith, l) refl (omega arith, tt) mnil
mid_add {seen = seen} {N = N} {most = most} s n w l a (mcons {s = r} {h = h} {g = v} {x = x} {u = u} {ks = ks} {K = K} e f i d g j) =
    neither (same s r) (has s (steps_s ks)) a λ p q.
    subst (λ (T : Kids). Mid seen N most (add_s s n (child r h x u ks)) T) (sym (put_back s r p v (erase u) K)) (mcons e f i (add_has r s n ks ∙ rw (d, same_sym r s, p) refl) g (mid_add s n w l q j))

-- the seen steps, with one more
abbrev Seen : (Step → Bool) → Step → Step → Bool
Seen seen s r = seen r || same r s

seen_other : (seen : Step → Bool) (s r : Step) → same r s ≡ false → Seen seen s r ≡ seen r
seen_other seen s r z = rw z (or_false (seen r))

mid_away : {seen : Step → Bool} {N most : ℕ} (s : Step) {ks : Spots} {K : Kids} → has s (steps_s ks) ≡ false → Mid seen N most ks K → Mid (Seen seen s) N most ks K
unfolding steps_s has
mid_away s a mnil = mnil
mid_away {seen = seen} s a (mcons {s = r} {g = g'} {ks = ks} e f l d g i) =
    neither (same s r) (has s (steps_s ks)) a λ p q.
    let w = seen_other seen s r (same_sym r s ∙ p) in
    mcons (e ∙ ap (λ (b : Bool). g' + one b) (sym w)) (f ∙ sym w) l d g (mid_away s q i)

-- a child counted at first sight
held_once : (h g x N : ℕ) (b : Bool) → g < N → N < 2 ^ 32 → eqb x N ≡ b → h ≡ g + one b → (when eqb x N then h else onward h) ≡ g + 1
unfolding when◌then◌else◌
held_once h g x N true l m y z = rw y z
held_once h g x N false l m y z =
    let e : h ≡ g = z ∙ add-zero g in
    let w : h + 1 < 2 ^ 32 = omega (arith, e, l, m) in
    rw y (mod-eq_of_lt w ∙ ap (λ (i : ℕ). i + 1) e)

mid_put : {seen : Step → Bool} {N most : ℕ} (s : Step) (v : Spot) {ks : Spots} {K : Kids} → N < 2 ^ 32 → has s (steps_s ks) ≡ true → Marked most v → Mid seen N most ks K
    → Mid (Seen seen s) N most (put_s s N v ks) (put s (erase v) K)
unfolding steps_s has put_s put when◌then◌else◌
mid_put s v m a gv mnil = absurd (false≢true a)
mid_put {seen = seen} {N = N} s v m a gv (mcons {s = r} {h = h} {g = g'} {x = x} {u = u} {ks = ks} {K = K} e f l d g i) =
    cases (same s r)
    (λ q.
    let z : s ≡ r = same_true s r q in
    let w : Seen seen s r ≡ true = rw (same_sym r s, q) (or_true (seen r)) in
    let d' : has s (steps_s ks) ≡ false = rw z d in
    rw q (mcons (held_once h g' x N (seen r) l.1 m f e ∙ ap (λ (b : Bool). g' + one b) (sym w)) (eq-eqb N N refl ∙ sym w) (omega arith, l.1) d gv (mid_away s d' i)))
    (λ q.
    let a' : has s (steps_s ks) ≡ true = rw q at a in
    let w = seen_other seen s r (same_sym r s ∙ q) in
    rw q (mcons (e ∙ ap (λ (b : Bool). g' + one b) (sym w)) (f ∙ sym w) l (ap (has r) (put_steps s N v ks) ∙ d) g (mid_put s v m a' gv i)))

-- ---- the model's places below
has_kid : (s : Step) (K : Kids) → has s (steps_of K) ≡ true → put s (kid_at s K) K ≡ K
unfolding steps_of has put kid_at when◌then◌else◌
has_kid s no_kids e = absurd (false≢true e)
has_kid s (kid r h t K) e = cases (same s r) (λ q. rw q refl) (λ q. let e' : has s (steps_of K) ≡ true = rw q at e in put_back s r q h t K ∙ ap (kid r h t) (has_kid s K e'))

put_put : (s : Step) (t t' : Tree) (K : Kids) → put s t' (put s t K) ≡ put s t' K
unfolding put when◌then◌else◌
put_put s t t' no_kids = rw (same_refl s) refl
put_put s t t' (kid r h u K) = cases (same s r) (λ q. rw q (rw q refl)) (λ q. rw q (rw q (ap (kid r h u) (put_put s t t' K))))

kid_put : (s : Step) (t : Tree) (K : Kids) → kid_at s (put s t K) ≡ t
unfolding put kid_at when◌then◌else◌
kid_put s t no_kids = rw (same_refl s) refl
kid_put s t (kid r h u K) = cases (same s r) (λ q. rw q (rw q refl)) (λ q. rw q (rw q (kid_put s t K)))

-- ---- a step is made
data Makes (seen : Step → Bool) (N most : ℕ) (s : Step) (K : Kids) : Result (Counted Spots) → Result ℕ → Type 0 where
  made_so : {n : ℕ} {ks : Spots} → Mid seen N most ks (put s (kid_at s K) K) → has s (steps_s ks) ≡ true → Only seen ks
      → Makes seen N most s K (accepted (record { places = n; what = ks })) (accepted n)
  made_not : {m b : ℕ} → Makes seen N most s K (refused m b) (refused m b)

make_erase : (seen : Step → Bool) (N most : ℕ) (s : Step) (at n : ℕ) (ks : Spots) (K : Kids) → 0 < N → Mid seen N most ks K → Only seen ks → Makes seen N most s K (make_s at s n ks) (room at s n K)
unfolding make_s room when◌then◌else◌
make_erase seen N most s at n ks K l i o =
    rw (mid_steps i) (cases (clashes s (steps_s ks))
    (λ c. rw c made_not)
    (λ c. rw c (cases (has s (steps_s ks))
    (λ e. rw e (made_so {ks = ks} (rw (has_kid s K (ap (has s) (mid_steps i) ∙ e)) i) e o))
    (λ e. rw e (cases (ltb n place_limit)
    (λ j. rw j (made_so (mid_add s n (o s e) l e i) (add_has s s n ks ∙ rw (same_refl s) (or_true (has s (steps_s ks))))
    (λ r d. neither (has r (steps_s ks)) (same r s) (sym (add_has r s n ks) ∙ d) λ p q. o r p)))
    (λ j. rw j made_not))))))

data ErasesIn (seen : Step → Bool) (N most : ℕ) : Result (Counted Spots) → Result (Counted Kids) → Type 0 where
  kids_so : {n : ℕ} {ks : Spots} {K : Kids} → Mid seen N most ks K → Only seen ks → ErasesIn seen N most (accepted (record { places = n; what = ks })) (accepted (record { places = n; what = K }))
  kids_not : {m b : ℕ} → ErasesIn seen N most (refused m b) (refused m b)

make_all_erase : (seen : Step → Bool) (N most at : ℕ) (ss : List Step) (n : ℕ) (ks : Spots) (K : Kids) → 0 < N → Mid seen N most ks K → Only seen ks →
    ErasesIn seen N most (make_all_s at ss n ks) (make at ss n K)
unfolding make_all_s make
make_all_erase seen N most at [] n ks K l i o = kids_so i o
make_all_erase seen N most at (s ∷ ss) n ks K l i o = go (λ n₁ ks₁ K₁ i₁ o₁. make_all_erase seen N most at ss n₁ ks₁ K₁ l i₁ o₁) (make_erase seen N most s at n ks K l i o)
  where
    go : ((n₁ : ℕ) (ks₁ : Spots) (K₁ : Kids) → Mid seen N most ks₁ K₁ → Only seen ks₁ →
        ErasesIn seen N most (make_all_s at ss n₁ ks₁) (make at ss n₁ K₁)) → {x : Result (Counted Spots)} {y : Result ℕ} → Makes seen N most s K x y
        → ErasesIn seen N most (x >>= λ r. make_all_s at ss r.places r.what) (y >>= λ m. make at ss m (put s (kid_at s K) K))
    go ih (made_so {n = n₁} {ks = ks₁} i₁ e o₁) = ih n₁ ks₁ (put s (kid_at s K) K) i₁ o₁
    go ih made_not = kids_not

-- ---- a value
data Erases (most : ℕ) : Result (Counted Spot) → Result (Counted Tree) → Type 0 where
  same_tree : {n : ℕ} {u : Spot} → Marked most u → Erases most (accepted (record { places = n; what = u })) (accepted (record { places = n; what = erase u }))
  same_refusal : {m b : ℕ} → Erases most (refused m b) (refused m b)

tally_none : (K : Kids) → tally no_parts K ≡ K
unfolding tally holds
tally_none no_kids = refl
tally_none (kid s h t K) = rw (add-zero h, tally_none K) refl

made_none : (k r j : ℕ) → is_container k ≡ false → made k r j ≡ []
unfolding made when◌then◌else◌
made_none k r j c =
    let i : k < sequence_kind = leb-false sequence_kind k c in
    rw (ne_eqb k sequence_kind (λ e. omega arith), ne_eqb k map_kind (λ e. omega arith), ne_eqb k tuple_kind (λ e. omega arith))

module _ (options : ℕ) where
  -- a value that is no container has no parts
  leaf_erase : (depth at k r j₀ n p : ℕ) (b : Marks) (j m most : ℕ) (ks : Spots) (ps : Parts) → is_container k ≡ false → BareIn k ps → m ≤ most → MarkedIn m most ks
      → Erases most (make_all_s at (made k r j₀) n ks >>= λ x. walk_parts options depth m ps x.places x.what >>= λ q. counted q.places (spot p b j m q.what))
      (make at (made k r j₀) n (erase_in ks) >>= λ x. observe_parts options depth ps x.places x.what >>= λ q. counted q.places (node b j (m + 0) (tally ps q.what)))
  unfolding make_all_s make walk observe
  leaf_erase depth at k r j₀ n p b j m most ks no_parts c s l g = rw (made_none k r j₀ c, add-zero m, tally_none (erase_in ks)) (same_tree {u = spot p b j m ks} (l, g))
  leaf_erase depth at k r j₀ n p b j m most ks (cut_off x y) c s l g = rw (made_none k r j₀ c) same_refusal
  leaf_erase depth at k r j₀ n p b j m most ks (part a x v ps) c s l g = absurd (true≢false (sym s.0 ∙ c))

  -- a container's contents, when its parts erase
  contents_erase : (depth p : ℕ) (b : Marks) (j N most all : ℕ) (ps : Parts) → N ≤ all
      → ((n : ℕ) (ks : Spots) (K : Kids) → Mid (λ _. false) N most ks K → Only (λ _. false) ks →
      ErasesIn (λ r. holds r ps) N all (walk_parts options depth N ps n ks) (observe_parts options depth ps n K))
      → {x : Result (Counted Spots)} {y : Result (Counted Kids)} → ErasesIn (λ _. false) N most x y
      → Erases all (x >>= λ r. walk_parts options depth N ps r.places r.what >>= λ q. counted q.places (spot p b j N q.what))
      (y >>= λ r. observe_parts options depth ps r.places r.what >>= λ q. counted q.places (node b j N (tally ps q.what)))
  contents_erase depth p b j N most all ps l ih (kids_so {n = n₁} {ks = ks₁} {K = K₁} i o) = go (ih n₁ ks₁ K₁ i o)
    where
      go : {x : Result (Counted Spots)} {y : Result (Counted Kids)} → ErasesIn (λ r. holds r ps) N all x y
          → Erases all (x >>= λ q. counted q.places (spot p b j N q.what)) (y >>= λ q. counted q.places (node b j N (tally ps q.what)))
      go (kids_so {ks = ks} i o) = let f = finish N all ps i in rw (← f.0) (same_tree {u = spot p b j N ks} (l, f.1))
      go kids_not = same_refusal
  contents_erase depth p b j N most all ps l ih kids_not = same_refusal

-- a part, when its value and the rest erase
module _ (options depth N most all : ℕ) (N-small : N < 2 ^ 32) (at : ℕ) (s : Step) (v : Value) (ps : Parts) (n : ℕ) (seen : Step → Bool) (ks : Spots) (K : Kids)
    (ihv : (n₁ : ℕ) (u : Spot) → Marked most u → Erases (most + nodes v) (walk options (depth + dots_of s) v n₁ u) (observe options (depth + dots_of s) v n₁ (erase u)))
    (ihp : (n₁ : ℕ) (seen₁ : Step → Bool) (ks₁ : Spots) (K₁ : Kids) → Mid seen₁ N (most + nodes v) ks₁ K₁ → Only seen₁ ks₁
    → ErasesIn (λ r. seen₁ r || holds r ps) N all (walk_parts options depth N ps n₁ ks₁) (observe_parts options depth ps n₁ K₁)) where
  rest_erase : (ks₁ : Spots) → Mid seen N most ks₁ (put s (kid_at s K) K) → has s (steps_s ks₁) ≡ true → Only seen ks₁
      → {x : Result (Counted Spot)} {y : Result (Counted Tree)} → Erases (most + nodes v) x y
      → ErasesIn (λ r. seen r || (same r s || holds r ps)) N all (x >>= λ q. walk_parts options depth N ps q.places (put_s s N q.what ks₁))
      (y >>= λ r. observe_parts options depth ps r.places (put s r.what K))
  rest_erase ks₁ i a o (same_tree {n = n₂} {u = w} g) =
      subst (λ (f : Step → Bool). ErasesIn f N all (walk_parts options depth N ps n₂ (put_s s N w ks₁)) (observe_parts options depth ps n₂ (put s (erase w) K)))
      (fun_ext (λ r. sym (or_assoc (seen r) (same r s) (holds r ps))))
      (ihp n₂ (Seen seen s) (put_s s N w ks₁) (put s (erase w) K) (rw put_put at (mid_put s w N-small a g (mid_more (omega arith) i)))
      (λ r d.
      let d' : has r (steps_s ks₁) ≡ false = ap (has r) (sym (put_steps s N w ks₁)) ∙ d in
      seen_other seen s r (cases (same r s) (λ e. absurd (true≢false (sym a ∙ rw (same_true r s e) at d'))) (λ e. e)) ∙ o r d'))
  rest_erase ks₁ i a o same_refusal = kids_not

  part_erase : {x : Result (Counted Spots)} {y : Result ℕ} → Makes seen N most s K x y
      → ErasesIn (λ r. seen r || (same r s || holds r ps)) N all
      (x >>= λ r. walk options (depth + dots_of s) v r.places (spot_at s r.what) >>= λ q. walk_parts options depth N ps q.places (put_s s N q.what r.what))
      (y >>= λ m. observe options (depth + dots_of s) v m (kid_at s K) >>= λ r. observe_parts options depth ps r.places (put s r.what K))
  part_erase (made_so {n = n₁} {ks = ks₁} i a o) =
      let e = mid_kid s i a in
      let d : kid_at s K ≡ erase (spot_at s ks₁) = sym (kid_put s (kid_at s K) K) ∙ e.0 in
      rw d (rest_erase ks₁ i a o (ihv n₁ (spot_at s ks₁) e.1))
  part_erase made_not = kids_not

-- `most` bounds the values so far, and `all` those with this one: below 2 ^ 32, so that no count wraps
mutual
  unfolding walk observe holds when◌then◌else◌

  walk_erase : (options depth most all : ℕ) (v : Value) (n : ℕ) (u : Spot) → Bare v → Marked most u → most + nodes v ≤ all → all < 2 ^ 32
      → Erases all (walk options depth v n u) (observe options depth v n (erase u))
  walk_erase options depth most all (cut x at) n u s g l m = same_refusal
  walk_erase options depth most all (val at b k r ps) n (spot p b₀ j₀ i ks) s g l m =
      go (marks_with b j₀ k b₀) (λ n₁ ks₁ K₁ c o. parts_erase options depth (i + 1) k most all ps n₁ (λ _. false) ks₁ K₁ s (omega arith, omega (arith, g.0)) (omega arith) m c o)
      (meet options depth at j₀ k)
    where
      on : onward i ≡ i + 1
      on = let w : i + 1 < 2 ^ 32 = omega (arith, g.0, l, m) in mod-eq_of_lt w

      go : (c : Marks) → ((n : ℕ) (ks : Spots) (K : Kids) → Mid (λ _. false) (i + 1) most ks K → Only (λ _. false) ks →
          ErasesIn (λ r. holds r ps) (i + 1) all (walk_parts options depth (i + 1) ps n ks) (observe_parts options depth ps n K))
          → (x : Result ℕ)
          → Erases all
          (x >>= λ j. make_all_s at (made k r j₀) n ks >>= λ x. walk_parts options depth (sample_of k i) ps x.places x.what >>= λ q. counted
          q.places (spot p c j (sample_of k i) q.what))
          (x >>= λ j. make at (made k r j₀) n (erase_in ks) >>= λ x. observe_parts options depth ps x.places x.what >>= λ q. counted q.places
          (node c j (i + one (is_container k)) (tally ps q.what)))
      go c ih (refused x y) = same_refusal
      go c ih (accepted j) = cases (is_container k)
          (λ e. rw (e, on) (contents_erase options depth p c j (i + 1) most all ps (omega (arith, g.0)) ih
          (make_all_erase (λ _. false) (i + 1) most at (made k r j₀) n ks (erase_in ks) (omega arith) (start i most ks g.1) (λ _ _. refl))))
          (λ e. rw e (leaf_erase options depth at k r j₀ n p c j i all ks ps e s (omega (arith, g.0)) (marked_more_in i ks (omega arith) g.1)))

  parts_erase : (options depth N k most all : ℕ) (ps : Parts) (n : ℕ) (seen : Step → Bool) (ks : Spots) (K : Kids) → BareIn k ps → (0 < N) × (N ≤ all) → most + nodes_in ps ≤ all → all < 2 ^ 32
      → Mid seen N most ks K → Only seen ks → ErasesIn (λ r. seen r || holds r ps) N all (walk_parts options depth N ps n ks) (observe_parts options depth ps n K)
  parts_erase options depth N k most all no_parts n seen ks K s z l m i o =
      subst (λ (f : Step → Bool). ErasesIn f N all (counted n ks) (counted n K)) (fun_ext (λ r. sym (or_false (seen r)))) (kids_so (mid_more (omega arith) i) o)
  parts_erase options depth N k most all (cut_off x at) n seen ks K s z l m i o = kids_not
  parts_erase options depth N k most all (part at s' v ps) n seen ks K s z l m i o =
      part_erase options depth N most all (omega (arith, z)) at s' v ps n seen ks K
      (λ n₁ u g. walk_erase options (depth + dots_of s') most (most + nodes v) v n₁ u s.1 g (omega arith) (omega arith))
      (λ n₁ seen₁ ks₁ K₁ i₁ o₁. parts_erase options depth N k (most + nodes v) all ps n₁ seen₁ ks₁ K₁ s.2 z (omega arith) m i₁ o₁)
      (make_erase seen N most s' at n ks K z.0 i o)

-- ---- the values of a batch
all_erase : (options most all : ℕ) (vs : List Value) (n : ℕ) (u : Spot) → AllBare vs → Marked most u → most + nodes_all vs ≤ all → all < 2 ^ 32
    → Erases all (walk_all options vs n u) (observe_all options 0 vs n (erase u))
unfolding walk_all observe_all
all_erase options most all [] n u s g l m = same_tree (marked_more {more = all} u (omega arith) g)
all_erase options most all (v ∷ vs) n u s g l m =
    go (λ n₁ u₁ g₁. all_erase options (most + nodes v) all vs n₁ u₁ s.1 g₁ (omega arith) m) (walk_erase options 0 most (most + nodes v) v n u s.0 g (omega arith) (omega arith))
  where
    go : ((n₁ : ℕ) (u₁ : Spot) → Marked (most + nodes v) u₁ → Erases all (walk_all options vs n₁ u₁) (observe_all options 0 vs n₁ (erase u₁)))
        → {x : Result (Counted Spot)} {y : Result (Counted Tree)} → Erases (most + nodes v) x y
        → Erases all (x >>= λ r. walk_all options vs r.places r.what) (y >>= λ r. observe_all options 0 vs r.places r.what)
    go ih (same_tree {n = n₁} {u = u₁} g₁) = ih n₁ u₁ g₁
    go ih same_refusal = same_refusal

erases : {most : ℕ} {x : Result (Counted Spot)} {y : Result (Counted Tree)} → Erases most x y → erased x ≡ y
erases (same_tree g) = refl
erases same_refusal = refl

-- the walk over a batch's values is the model's tracing: the same refusal at the same place, or the same count of places and the same tree
pub walk_is_model : (options : ℕ) (commands text : List ℕ) → length commands ≤ 65535
    → erased (walk_all options (values options commands text) 1 (new_spot 0)) ≡ trace options (values options commands text)
unfolding trace
walk_is_model options commands text h =
    let few : nodes_all (values options commands text) ≤ 4 * length commands = values_few options commands text in
    erases (all_erase options 0 (4 * length commands) (values options commands text) 1 (new_spot 0) (values_bare options commands text) (omega arith, tt) (omega arith) (omega arith))
