-- A place's numbered children in its search tree: each is found by its code, and links lead to children; and where that is kept.
use Rattle.std.specs.Prelude.{◌≡◌, List, Bool, ◌||◌, ℕ, ◌+◌, ◌*◌, ◌%◌, ◌<◌, ◌≤◌, eqb}
use Rattle.std.proofs.Math.Path.{refl}
use Rattle.std.proofs.Common.{ap, sym, ◌∙◌, arith, eqb-true, le-ltb}
use Rattle.std.proofs.Math.Bool.{or-false, or_assoc, true, false}
use Rattle.std.proofs.lemmas.Bool.{false≢true}
use Rattle.logic.specs.Test.{when◌then◌else◌}
use Rattle.logic.specs.laws.Test.{cases}
use Rattle.words.specs.Word.{place_words, word}
use Rattle.model.specs.Kinds.{Step, same}
use Rattle.model.specs.Tracing.{place_limit, has}
use Rattle.equality.specs.laws.Base.{or_cases}
use Rattle.shapes.specs.Steps.{field_code}
use Rattle.search.specs.Tree.{Slot}
use Rattle.places.specs.Layout.{root_word, block_word, left_word, step_word, right_word}
use Rattle.search.specs.laws.Tree.{Ends, seek_ends, Again, seek_again}
use Rattle.search.specs.Tree.{follow, slot, seek}
use Rattle.refine.specs.laws.numbered.Tree.{Spot, spot, Spots, no_spots, child, num, below_s, steps_s, new_spot, spot_at, put_s, add_s}
use Rattle.refine.specs.laws.reading.Steps.{step_code_of}
use Rattle.refine.specs.laws.numbered.Numbers.{within, within_in, Good, GoodIn, or_left, or_right, not_both, un_true, self, found, has_num, has_below, not_below}

-- a child has the number
abbrev pub num_in : ℕ → Spots → Bool
num_in q no_spots = false
num_in q (child s h m u ks) = eqb q (num u) || num_in q ks

-- the links of a place's search tree: its root, and two of each child
pub data Links (p : ℕ) (ks : Spots) : ℕ → ℕ → Type 0 where
  at_root : Links p ks p root_word
  at_left : (q : ℕ) → num_in q ks ≡ true → Links p ks q left_word
  at_right : (q : ℕ) → num_in q ks ≡ true → Links p ks q right_word

-- the code is one of those in the search tree: a variant's, or that of a position past a block of so many
abbrev pub Apart : ℕ → ℕ → Type 0
Apart b code = (field_code < code) × (code % 2 ≡ 0 → 4 + 2 * b ≤ code)

-- the links of a place's search tree lead to its children, and each child that is in the tree is what the search for its code finds
pub record Index (t : List ℕ) (p : ℕ) (ks : Spots) : Type 0 where
  pub here : p < place_limit
  pub leads : (q f : ℕ) → Links p ks q f → (follow q f place_limit t ≡ 0 → ⊥) → num_in (follow q f place_limit t) ks ≡ true
  pub found : (r : Step) → has r (steps_s ks) ≡ true → Apart (word t p block_word) (step_code_of r) → (seek p (step_code_of r) place_limit t).child ≡ num (spot_at r ks)

-- so it is at every place of a tree
abbrev mutual
  pub Indexes : List ℕ → Spot → Type 0
  Indexes t (spot p b k m ks) = Index t p ks × IndexesIn t ks

  pub IndexesIn : List ℕ → Spots → Type 0
  IndexesIn t no_spots = Unit {0}
  IndexesIn t (child s h m u ks) = Indexes t u × IndexesIn t ks

-- ---- links
pub same_follow : (t t' : List ℕ) (q f n : ℕ) → word t' q f ≡ word t q f → follow q f n t' ≡ follow q f n t
unfolding follow
same_follow t t' q f n e = rw e

-- a link of zero leads nowhere
pub null_follow : (t : List ℕ) (q f n : ℕ) → word t q f ≡ 0 → follow q f n t ≡ 0
unfolding follow when◌then◌else◌
null_follow t q f n e = rw (e, le-ltb q 0 (omega arith))

pub in_tree : (q : ℕ) (ks : Spots) → num_in q ks ≡ true → within_in q ks ≡ true
in_tree q no_spots e = absurd (false≢true e)
in_tree q (child s h m u ks) e =
    or_cases (eqb q (num u)) (num_in q ks) e
    (λ a. let d : q ≡ num u = eqb-true q (num u) a in rw (d, self u) refl)
    (λ a. or_right (within q u) (within_in q ks) (in_tree q ks a))

-- ---- the search, in a table where the links that lead to a child lead to the same
module _ (n' : ℕ) (t t' : List ℕ) (p : ℕ) (ks : Spots)
    (leads : (q f : ℕ) → Links p ks q f → (follow q f place_limit t ≡ 0 → ⊥) → num_in (follow q f place_limit t) ks ≡ true)
    (nexts : (q f : ℕ) → Links p ks q f → (follow q f place_limit t ≡ 0 → ⊥) → follow q f n' t' ≡ follow q f place_limit t)
    (steps : (q : ℕ) → num_in q ks ≡ true → word t' q step_word ≡ word t q step_word)
    (code : ℕ) (h : p < place_limit) where
  abbrev end : Slot
  end = seek p code place_limit t

  abbrev Any : ℕ → Type 0
  Any f = Unit {0}

  pub end_known : Ends code place_limit t Any tt tt tt end
  end_known = seek_ends code place_limit t Any tt tt tt p h (omega arith)

  passes : (q f : ℕ) → Links p ks q f → (follow q f place_limit t ≡ 0 → ⊥)
      → (follow q f n' t' ≡ follow q f place_limit t) × (word t' (follow q f place_limit t) step_word ≡ word t (follow q f place_limit t) step_word) ×
      Links p ks (follow q f place_limit t) left_word × Links p ks (follow q f place_limit t) right_word
  passes q f l z = let i = leads q f l z in (nexts q f l z, steps (follow q f place_limit t) i, at_left (follow q f place_limit t) i, at_right (follow q f place_limit t) i)

  goes_on : Again code place_limit n' t t' (Links p ks) passes end (seek p code n' t')
  goes_on = seek_again code place_limit n' t t' (Links p ks) passes p at_root (omega arith)

  -- it ends at one of the links
  pub end_link : Links p ks end.place end.field
  end_link = goes_on.0

  pub end_child : (end.child ≡ 0 → ⊥) → num_in end.child ks ≡ true
  end_child z = rw end_known.leads (leads end.place end.field end_link (rw end_known.leads at z))

  -- and in the other table too, wherever that leads
  pub seek_other : (c : ℕ) → follow end.place end.field n' t' ≡ c → ((c ≡ 0 → ⊥) → word t' c step_word ≡ code) → seek p code n' t' ≡ slot c end.place end.field
  seek_other c e k = goes_on.1 (rw e k) ∙ ap (λ (x : ℕ). slot x end.place end.field) e

  pub seek_same : follow end.place end.field n' t' ≡ end.child → seek p code n' t' ≡ end
  seek_same e = seek_other end.child e (λ z. steps end.child (end_child z) ∙ end_known.at z)

-- ---- where words are kept
-- the words that the search tree of a place reads
pub record Kept (t t' : List ℕ) (p : ℕ) (ks : Spots) : Type 0 where
  pub root : word t' p root_word ≡ word t p root_word
  pub block : word t' p block_word ≡ word t p block_word
  pub left : (q : ℕ) → num_in q ks ≡ true → word t' q left_word ≡ word t q left_word
  pub right : (q : ℕ) → num_in q ks ≡ true → word t' q right_word ≡ word t q right_word
  pub step : (q : ℕ) → num_in q ks ≡ true → word t' q step_word ≡ word t q step_word

kept_follow : (t t' : List ℕ) (p : ℕ) (ks : Spots) (q f : ℕ) → Kept t t' p ks → Links p ks q f → follow q f place_limit t' ≡ follow q f place_limit t
kept_follow t t' p ks q f k at_root = same_follow t t' p root_word place_limit k.root
kept_follow t t' p ks q f k (at_left _ e) = same_follow t t' q left_word place_limit (k.left q e)
kept_follow t t' p ks q f k (at_right _ e) = same_follow t t' q right_word place_limit (k.right q e)

-- the same children, by their steps and numbers
pub record Alike (ks ks' : Spots) : Type 0 where
  pub steps : steps_s ks' ≡ steps_s ks
  pub nums : (r : Step) → num (spot_at r ks') ≡ num (spot_at r ks)
  pub all : (q : ℕ) → num_in q ks' ≡ num_in q ks

pub alike : (ks : Spots) → Alike ks ks
alike ks = record { steps = refl; nums = λ r. refl; all = λ q. refl }

links_alike : (p : ℕ) (ks ks' : Spots) (q f : ℕ) → Alike ks ks' → Links p ks' q f → Links p ks q f
links_alike p ks ks' q f a at_root = at_root
links_alike p ks ks' q f a (at_left _ e) = at_left q (sym (a.all q) ∙ e)
links_alike p ks ks' q f a (at_right _ e) = at_right q (sym (a.all q) ∙ e)

pub index_kept : (t t' : List ℕ) (p : ℕ) (ks ks' : Spots) → Kept t t' p ks → Alike ks ks' → Index t p ks → Index t' p ks'
index_kept t t' p ks ks' k a x = record {
  here = x.here;
  leads = λ q f l z.
      let l' = links_alike p ks ks' q f a l in
      let e : follow q f place_limit t' ≡ follow q f place_limit t = kept_follow t t' p ks q f k l' in
      a.all (follow q f place_limit t') ∙ rw e (x.leads q f l' (rw e at z));
  found = λ r e b.
      let c : ℕ = step_code_of r in
      let h : p < place_limit = x.here in
      let nexts : (q f : ℕ) → Links p ks q f → (follow q f place_limit t ≡ 0 → ⊥) → follow q f place_limit t' ≡ follow q f place_limit t = λ q f l _. kept_follow t t' p ks q f k l in
      let l = end_link place_limit t t' p ks x.leads nexts k.step c h in
      let y = seek_same place_limit t t' p ks x.leads nexts k.step c h (kept_follow t t' p ks _ _ k l ∙ sym (end_known place_limit t t' p ks x.leads nexts k.step c h).leads) in
      ap (λ (s : Slot). s.child) y ∙ x.found r (ap (has r) (sym a.steps) ∙ e) (rw k.block at b) ∙ sym (a.nums r);
}

-- a place without children
pub index_none : (t : List ℕ) (p : ℕ) → p < place_limit → word t p root_word ≡ 0 → Index t p no_spots
unfolding steps_s has
index_none t p h e = record {
  here = h;
  leads = λ q f l z. absurd (z (none q f l));
  found = λ r d b. absurd (false≢true d);
}
  where
    none : (q f : ℕ) → Links p no_spots q f → follow q f place_limit t ≡ 0
    none q f at_root = null_follow t p root_word place_limit e
    none q f (at_left _ d) = absurd (false≢true d)
    none q f (at_right _ d) = absurd (false≢true d)

-- ---- in a tree
pub kept_all : (t t' : List ℕ) (p : ℕ) (ks : Spots) → ((f : ℕ) → root_word ≤ f → f < left_word → word t' p f ≡ word t p f) →
    ((q f : ℕ) → f < place_words → within_in q ks ≡ true → word t' q f ≡ word t q f) → Kept t t' p ks
kept_all t t' p ks o w = record {
  root = o root_word (omega arith) (omega arith);
  block = o block_word (omega arith) (omega arith);
  left = λ q e. w q left_word (omega arith) (in_tree q ks e);
  right = λ q e. w q right_word (omega arith) (in_tree q ks e);
  step = λ q e. w q step_word (omega arith) (in_tree q ks e);
}

mutual
  pub indexes_frame : (n : ℕ) (t t' : List ℕ) (u : Spot) → Good n u → ((f : ℕ) → f < left_word → word t' (num u) f ≡ word t (num u) f)
      → ((q f : ℕ) → f < place_words → within_in q (below_s u) ≡ true → word t' q f ≡ word t q f) → Indexes t u → Indexes t' u
  indexes_frame n t t' (spot p b k m ks) g o w x = (
    index_kept t t' p ks ks (kept_all t t' p ks (λ f _ l. o f l) w) (alike ks) x.0,
    indexes_frame_in n p t t' ks g.2 (λ q f l a _. w q f l a)
        x.1,
  )

  -- the children's own links are their parent's, and may change
  pub indexes_frame_in : (n c : ℕ) (t t' : List ℕ) (ks : Spots) → GoodIn n c ks →
      ((q f : ℕ) → f < place_words → within_in q ks ≡ true → (num_in q ks ≡ true → f < left_word) → word t' q f ≡ word t q f) → IndexesIn t ks → IndexesIn t' ks
  indexes_frame_in n c t t' no_spots g w x = tt
  indexes_frame_in n c t t' (child s h m u ks) g w x = (
    indexes_frame n t t' u g.1
        (λ f l. w (num u) f (omega arith) (has_num u ks) (λ _. l))
        (λ q f l a. w q f l (or_left (within q u) (within_in q ks) (has_below q u a)) (λ e. absurd (or_cases (eqb q (num u)) (num_in q ks) e
        (λ d. let y : q ≡ num u = eqb-true q (num u) d in not_both (within_in q (below_s u)) a (rw y (not_below n u g.1)))
        (λ d. not_both (within_in q ks) (in_tree q ks d) (g.2 q (has_below q u a))))))
        x.0,
    indexes_frame_in n (num u) t t' ks g.3
        (λ q f l a k. w q f l (or_right (within q u) (within_in q ks) a) (λ e. or_cases (eqb q (num u)) (num_in q ks) e
        (λ d. let y : q ≡ num u = eqb-true q (num u) d in absurd (not_both (within_in q ks) a (g.2 q (rw y (self u)))))
        k))
        x.1,
  )

-- the tree of a child
pub indexes_at : (t : List ℕ) (s : Step) (ks : Spots) → IndexesIn t ks → has s (steps_s ks) ≡ true → Indexes t (spot_at s ks)
unfolding has steps_s spot_at when◌then◌else◌
indexes_at t s no_spots x e = absurd (false≢true e)
indexes_at t s (child r h m u ks) x e = cases (same s r) (λ d. rw d x.0) (λ d. let e' : has s (steps_s ks) ≡ true = rw d at e in rw d (indexes_at t s ks x.1 e'))

-- no child of a place stands below another
pub child_apart : (n c q : ℕ) (s : Step) (ks : Spots) → GoodIn n c ks → has s (steps_s ks) ≡ true → num_in q ks ≡ true → within_in q (below_s (spot_at s ks)) ≡ false
unfolding has steps_s spot_at when◌then◌else◌
child_apart n c q s no_spots g e i = absurd (false≢true e)
child_apart n c q s (child r h m u ks) g e i =
    cases (same s r)
    (λ d. rw d (or_cases (eqb q (num u)) (num_in q ks) i
    (λ a. let y : q ≡ num u = eqb-true q (num u) a in rw y (not_below n u g.1))
    (λ a. un_true (within_in q (below_s u)) (λ b. not_both (within_in q ks) (in_tree q ks a) (g.2 q (has_below q u b))))))
    (λ d.
    let e' : has s (steps_s ks) ≡ true = rw d at e in
    rw d (or_cases (eqb q (num u)) (num_in q ks) i
    (λ a. let y : q ≡ num u = eqb-true q (num u) a in
    un_true (within_in q (below_s (spot_at s ks))) (λ b. not_both (within_in q ks) (found q s ks e' (has_below q (spot_at s ks) b)) (g.2 q (rw y (self u)))))
    (λ a. child_apart n (num u) q s ks g.3 e' a)))

-- a child that has changed
module _ (s : Step) (N : ℕ) (v : Spot) where
  pub put_nums : (q : ℕ) (ks : Spots) → num v ≡ num (spot_at s ks) → num_in q (put_s s N v ks) ≡ num_in q ks
  unfolding spot_at put_s when◌then◌else◌
  put_nums q no_spots w = refl
  put_nums q (child r h m u ks) w =
      cases (same s r)
      (λ d. let w' : num v ≡ num u = rw d at w in rw (d, w') refl)
      (λ d. let w' : num v ≡ num (spot_at s ks) = rw d at w in rw (d, put_nums q ks w') refl)

  pub indexes_put : (n c : ℕ) (t t' : List ℕ) (ks : Spots) → GoodIn n c ks → has s (steps_s ks) ≡ true → Indexes t' v
      → ((q f : ℕ) → f < place_words → within_in q ks ≡ true → within q (spot_at s ks) ≡ false → word t' q f ≡ word t q f) → IndexesIn t ks → IndexesIn t' (put_s s N v ks)
  unfolding has steps_s spot_at put_s when◌then◌else◌
  indexes_put n c t t' no_spots g e y w x = tt
  indexes_put n c t t' (child r h m u ks) g e y w x =
      cases (same s r)
      (λ d.
      let w' : (q f : ℕ) → f < place_words → within q u || within_in q ks ≡ true → within q u ≡ false → word t' q f ≡ word t q f = rw d at w in
      rw d (y, indexes_frame_in n (num u) t t' ks g.3 (λ q f l a _. w' q f l (or_right (within q u) (within_in q ks) a) (un_true (within q u) (λ b. not_both (within_in q ks) a (g.2 q b)))) x.1))
      (λ d.
      let e' : has s (steps_s ks) ≡ true = rw d at e in
      let w' : (q f : ℕ) → f < place_words → within q u || within_in q ks ≡ true → within q (spot_at s ks) ≡ false → word t' q f ≡ word t q f = rw d at w in
      let off : (q : ℕ) → within q u ≡ true → within q (spot_at s ks) ≡ false = λ q b. un_true (within q (spot_at s ks)) (λ i. not_both (within_in q ks) (found q s ks e' i) (g.2 q b)) in
      let in_u : (q f : ℕ) → f < place_words → within q u ≡ true → word t' q f ≡ word t q f = λ q f l b. w' q f l (or_left (within q u) (within_in q ks) b) (off q b) in
      rw d (
        indexes_frame n t t' u g.1 (λ f l. in_u (num u) f (omega arith) (self u)) (λ q f l a. in_u q f l (has_below q u a)) x.0,
        indexes_put n (num u) t t' ks g.3 e' y (λ q f l a b. w' q f l (or_right (within q u) (within_in q ks) a) b) x.1,
      ))

-- a new child
pub add_nums : (q : ℕ) (s : Step) (n : ℕ) (ks : Spots) → num_in q (add_s s n ks) ≡ (num_in q ks || eqb q n)
unfolding add_s
add_nums q s n no_spots = or-false (eqb q n)
add_nums q s n (child r h m u ks) = rw (add_nums q s n ks) (sym (or_assoc (eqb q (num u)) (num_in q ks) (eqb q n)))

pub indexes_add : (t : List ℕ) (s : Step) (n : ℕ) (ks : Spots) → Indexes t (new_spot n) → IndexesIn t ks → IndexesIn t (add_s s n ks)
unfolding add_s
indexes_add t s n no_spots y x = (y, tt)
indexes_add t s n (child r h m u ks) y x = (x.0, indexes_add t s n ks y x.1)
