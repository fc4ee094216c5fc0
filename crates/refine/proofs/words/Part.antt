-- A part: its child is ensured and touched, its value is read there, and the parent stands as it should.
use Rattle.std.specs.Prelude.{◌≡◌, List, [], ◌∷◌, Bool, ◌||◌, ℕ, ◌+◌, ◌*◌, ◌%◌, ◌<◌, ◌≤◌, length, ltb, Ok, Err}
use Rattle.std.proofs.Math.Path.{refl, ap, sym, subst}
use Rattle.std.proofs.Common.{◌∙◌, arith}
use Rattle.std.proofs.Math.Bool.{true, false}
use Rattle.std.proofs.lemmas.Bool.{false≢true}
use Rattle.std.proofs.Math.Dec.{eqb}
use borrow.Author.Tests.{eqb-true, eqb-false, ne_eqb, ltb-true, ltb-false, lt-leb, le-leb}
use Rattle.logic.specs.Test.{when◌then◌else◌}
use Rattle.logic.specs.laws.Test.{cases, both}
use Rattle.refusal.specs.declared.Refusal.{Refusal}
use Rattle.refusal.specs.Number.{number_of}
use Rattle.words.specs.Word.{place_words, IsTable, IsRow, in_whole, word, with_word}
use Rattle.words.specs.laws.Word.{word_other, length_with}
use Rattle.model.specs.Result.{Result, refused}
use Rattle.model.specs.Kinds.{Step, position, same}
use Rattle.model.specs.Tracing.{Marks, has, clashes, place_limit, Counted, counted}
use Rattle.model.specs.Emission.{nullable_byte}
use Rattle.shapes.specs.declared.Step as Flat
use Rattle.shapes.specs.declared.Step.TheVariants as S
use Rattle.shapes.specs.Steps.{code_of, no_name, name_of}
use Rattle.growth.specs.Growth.{Ensuring, ensuring, confirmed, ensured_by, ensured, appended, position_in, tagged, onward, touched, entered}
use Rattle.search.specs.Search.{find_in, in_block, child_at}
use Rattle.places.specs.Layout.{kind_word, samples_word, first_word, root_word, block_word, left_word, next_word, step_word, held_word, mark_word, right_word}
use Rattle.refine.specs.laws.numbered.Tree.{Spot, spot, Spots, no_spots, child, num, below_s, steps_s, spot_at, put_s, add_s, make_s}
use Rattle.refine.specs.laws.reading.Steps.{step_code_of, Stands}
use Rattle.refine.specs.laws.numbered.Numbers.{first_of, last_from, within, within_in, Good, GoodIn, both_false, or_right, not_both, un_true, bounded, bounded_in, self, found, child_good, put_has, put_good, add_among, add_found, not_below, has_is, has_same, or_left, has_below}
use Rattle.refine.specs.laws.words.Places.{cell_words, Row, Cell, Block, Rep, RepIn, same_cell, same_block, row_set, frame, frame_in, Fits, After, stays}
use Rattle.refine.specs.laws.words.SearchTree.{num_in, in_tree, index_kept, indexes_frame, indexes_at, child_apart, put_nums, indexes_put}
use Rattle.refine.specs.laws.reading.Commands.{position_stands}
use Rattle.refine.proofs.words.Child.{far_has, far_clashes, Sought, absent, present, another, sought}
use Rattle.refine.proofs.words.Entered.{make_after, numbered_sought}
use Rattle.std.proofs.lemmas.Grind.{common_steps}

-- ---- a child for a step
pub data Ensures (text : List ℕ) (s : Step) (p : ℕ) (b : Marks) (k m : ℕ) (ks : Spots) (t : List ℕ) (n at : ℕ) : Result (Counted Spots) → Ensuring → Type 0 where
  there : {n' : ℕ} {ks' : Spots} {t' : List ℕ} → has s (steps_s ks') ≡ true → After text t n (spot p b k m ks) t' n' (spot p b k m ks')
      → Ensures text s p b k m ks t n at (counted n' ks') (ensuring (Ok (record { child = num (spot_at s ks'); count = n' })) t')
  no_place : {x : Refusal} {t' : List ℕ} → Ensures text s p b k m ks t n at (refused (number_of x) at) (ensuring (Err x) t')

ensure_by : (text t : List ℕ) (n p : ℕ) (x : Flat.Step) (s : Step) (at : ℕ) (b : Marks) (k m : ℕ) (ks : Spots) → Stands text x s → Fits text t n (spot p b k m ks)
    → (c : ℕ) → Sought text t s ks c → Ensures text s p b k m ks t n at (make_s at s n ks) (ensured_by text p (code_of x) (name_of x) n t c)
unfolding ensured_by confirmed make_s when◌then◌else◌
ensure_by text t n p x s at b k m ks st h c (absent z far) =
    rw (z, far_clashes s ks far, far_has s ks far)
    (cases (ltb n place_limit)
    (λ i. let l : n < place_limit = ltb-true n place_limit i in
    rw (i, lt-leb place_limit n l)
    (subst (λ (c : ℕ). Ensures text s p b k m ks t n at (counted (n + 1) (add_s s n ks))
    (ensuring (Ok (record { child = c; count = n + 1 })) (entered p (code_of x) n (tagged text (name_of x) (position_in p t) n (appended p (code_of x) (name_of x) n t)))))
    (ap num (add_found s n ks (far_has s ks far)))
    (there (add_among s n ks) (make_after text t n p x s b k m ks st far h l))))
    (λ i. rw (i, le-leb place_limit n (ltb-false n place_limit i)) no_place))
ensure_by text t n p x s at b k m ks st h c (present z e f g) =
    let d = child_good n p s ks h.good.2 e in
    let y : c ≡ 0 → ⊥ = λ w. omega (arith, d.1) in
    rw (ne_eqb c 0 y, st.bytes, g, e, f, z) (there e (stays text t n (spot p b k m ks) h))
ensure_by text t n p x s at b k m ks st h c (another z e f) = rw (ne_eqb c 0 z, st.bytes, f, e) no_place

-- ---- a position in the block is the child that the search finds
no_clash : (i : ℕ) (ks : Spots) → clashes (position i) (steps_s ks) ≡ false
unfolding clashes steps_s
no_clash i no_spots = refl
no_clash i (child r h m u ks) = no_clash i ks

module _ (text t : List ℕ) (n p : ℕ) (b : Marks) (k m : ℕ) (ks : Spots) (h : Fits text t n (spot p b k m ks)) where
  in_block_lem : (i : ℕ) → in_block p i n t ≡ true → word t p first_word + i ≡ find_in text p (code_of (S.Position i)) no_name t
  unfolding in_block
  in_block_lem i e =
      let f : word t p first_word ≡ first_of ks = h.rep.0 3 (omega arith) in
      both (ltb i (word t p block_word)) _ e λ a _.
      ap (λ (x : ℕ). x + i) f ∙ go (h.rep.2 i (ltb-true i (word t p block_word) a)) (sought text t (S.Position i) (position i) (position_stands text i) n p b k m ks h)
    where
      go : {c : ℕ} → (has (position i) (steps_s ks) ≡ true) × (num (spot_at (position i) ks) ≡ first_of ks + i) → Sought text t (position i) ks c → first_of ks + i ≡ c
      go d (absent z far) = absurd (not_both (has (position i) (steps_s ks)) d.0 (far_has (position i) ks far))
      go d (present z x y w) = sym (z ∙ d.1)
      go d (another z x y) = absurd (not_both (clashes (position i) (steps_s ks)) x (no_clash i ks))

  -- a position that does not stand in the block is past it
  past_block : (i : ℕ) → in_block p i n t ≡ false → word t p block_word ≤ i
  unfolding in_block
  past_block i e =
      let u : Spot = spot_at (position i) ks in
      grind (arith, h.rep.2 i, h.rep.0 3, bounded n (num u) u, child_good n p (position i) ks h.good.2, self u)

  child_sought : (x : Flat.Step) (s : Step) → Stands text x s → Sought text t s ks (child_at text p x n t)
  unfolding child_at when◌then◌else◌
  child_sought S.Element s st = sought text t S.Element s st n p b k m ks h
  child_sought S.Key s st = sought text t S.Key s st n p b k m ks h
  child_sought S.Value s st = sought text t S.Value s st n p b k m ks h
  child_sought (S.Field name) s st = sought text t (S.Field name) s st n p b k m ks h
  child_sought (S.Position i) s st =
      let c : 4 + 2 * i ≡ step_code_of s = st.code in
      cases (in_block p i n t)
      (λ e. rw (e, in_block_lem i e) (sought text t (S.Position i) s st n p b k m ks h))
      (λ e. let l : word t p block_word ≤ i = past_block i e in rw e (numbered_sought text t (S.Position i) s st n p b k m ks h (rw (← c) (omega arith), λ _. rw (← c) (omega arith))))
  child_sought (S.Variant number name) s st =
      let c : 5 + 2 * number ≡ step_code_of s = st.code in
      numbered_sought text t (S.Variant number name) s st n p b k m ks h (rw (← c) (omega arith), λ z. absurd (let y : (5 + 2 * number) % 2 ≡ 0 = rw (← c) at z in omega arith))

pub ensure_is : (text t : List ℕ) (n p : ℕ) (x : Flat.Step) (s : Step) (at : ℕ) (b : Marks) (k m : ℕ) (ks : Spots) → Stands text x s → Fits text t n (spot p b k m ks)
    → Ensures text s p b k m ks t n at (make_s at s n ks) (ensured text p x n t)
unfolding ensured
ensure_is text t n p x s at b k m ks st h = ensure_by text t n p x s at b k m ks st h (child_at text p x n t) (child_sought text t n p b k m ks h x s st)

-- ---- the child's cell is touched
-- the mark and the count of the samples that held it, in the parent's sample N
unfoldable pub touch : ℕ → ℕ → List ℕ → List ℕ
touch c N t = when eqb (word t c mark_word) N then t else with_word (with_word t c held_word (onward (word t c held_word))) c mark_word N

pub touched_is : (t : List ℕ) (p c N : ℕ) → word t p samples_word ≡ N → touched p c t ≡ touch c N t
unfolding touched touch
touched_is t p c N e = rw e

touch_row : (t : List ℕ) (c N x p r nm h m : ℕ) → IsTable t → IsRow c → Row t c next_word (cell_words x p r nm h m) →
    Row (touch c N t) c next_word (cell_words x p r nm (when eqb m N then h else onward h) N)
unfolding touch when◌then◌else◌
touch_row t c N x p r nm h m l i w =
    let e₈ : word t c held_word ≡ h = w 4 (omega arith) in
    let e₉ : word t c mark_word ≡ m = w 5 (omega arith) in
    rw (e₉, e₈) (go (eqb m N) refl)
  where
    go : (d : Bool) → eqb m N ≡ d → Row (when d then t else with_word (with_word t c held_word (onward h)) c mark_word N) c next_word (cell_words x p r nm (when d then h else onward h) N)
    go true e = subst (λ (y : ℕ). Row t c next_word (cell_words x p r nm h y)) (eqb-true m N e) w
    go false e = row_set (with_word t c held_word (onward h)) c next_word 5 N (cell_words x p r nm (onward h) m) (rw length_with l) i (omega arith) (in_whole refl) (omega arith)
        (row_set t c next_word 4 (onward h) (cell_words x p r nm h m) l i (omega arith) (in_whole refl) (omega arith) w)

touch_other : (t : List ℕ) (c N q f : ℕ) → f < place_words → (q ≡ c → (f ≡ held_word → ⊥) × (f ≡ mark_word → ⊥)) → word (touch c N t) q f ≡ word t q f
unfolding touch when◌then◌else◌
touch_other t c N q f l d = grind (arith, common_steps, word_other)

touch_size : (t : List ℕ) (c N : ℕ) → length (touch c N t) ≡ length t
unfolding touch when◌then◌else◌
touch_size t c N = grind (arith, common_steps, length_with)

child_rep : (text t : List ℕ) (p : ℕ) (s : Step) (ks : Spots) → RepIn text t p ks → has s (steps_s ks) ≡ true → Rep text t (spot_at s ks)
unfolding has steps_s spot_at when◌then◌else◌
child_rep text t p s no_spots r e = absurd (false≢true e)
child_rep text t p s (child q h m u ks) r e = cases (same s q) (λ d. rw d r.1) (λ d. let e' : has s (steps_s ks) ≡ true = rw d at e in rw d (child_rep text t p s ks r.2 e'))

module _ (s : Step) (N : ℕ) (v : Spot) where
  put_first : (ks : Spots) → has s (steps_s ks) ≡ true → num v ≡ num (spot_at s ks) → first_of (put_s s N v ks) ≡ first_of ks
  unfolding has steps_s spot_at put_s when◌then◌else◌
  put_first no_spots e w = refl
  put_first (child q h m u ks) e w = grind (arith, common_steps)

  put_last : (c : ℕ) (ks : Spots) → has s (steps_s ks) ≡ true → num v ≡ num (spot_at s ks) → last_from c (put_s s N v ks) ≡ last_from c ks
  unfolding has steps_s spot_at put_s when◌then◌else◌
  put_last c no_spots e w = refl
  put_last c (child q h m u ks) e w = grind (arith, common_steps, put_last (num u) ks)

  put_at : (r : Step) (ks : Spots) → num v ≡ num (spot_at s ks) → num (spot_at r (put_s s N v ks)) ≡ num (spot_at r ks)
  unfolding spot_at put_s when◌then◌else◌
  put_at r no_spots w = refl
  put_at r (child q h m u ks) w = grind (arith, common_steps, put_at r ks)

  put_steps : (ks : Spots) → steps_s (put_s s N v ks) ≡ steps_s ks
  unfolding steps_s put_s when◌then◌else◌
  put_steps no_spots = refl
  put_steps (child q h m u ks) = cases (same s q) (λ d. rw d refl) (λ d. rw (d, put_steps ks) refl)

  put_block : (b : ℕ) (ks : Spots) → has s (steps_s ks) ≡ true → num v ≡ num (spot_at s ks) → Block b ks → Block b (put_s s N v ks)
  put_block b ks e w β i l =
      let d = β i l in
      (ap (has (position i)) (put_steps ks) ∙ d.0, put_at (position i) ks w ∙ d.1 ∙ ap (λ (x : ℕ). x + i) (sym (put_first ks e w)))

  -- the children, one of them changed
  module _ (text t t' : List ℕ) (n p : ℕ) (rv : Rep text t' v) where
    put_rep : (c : ℕ) (ks : Spots) → GoodIn n c ks → RepIn text t p ks → has s (steps_s ks) ≡ true → num v ≡ num (spot_at s ks)
        → ((x : ℕ) (r : Step) (h m : ℕ) → Cell text t (num (spot_at s ks)) x p r h m → Cell text t' (num (spot_at s ks)) x p r (when eqb m N then h else onward h) N)
        → ((q f : ℕ) → f < place_words → within_in q ks ≡ true → within q (spot_at s ks) ≡ false → word t' q f ≡ word t q f) → RepIn text t' p (put_s s N v ks)
    unfolding has steps_s spot_at put_s when◌then◌else◌
    put_rep c no_spots g r e w cell o = tt
    put_rep c (child q h m u ks) g r e w cell o =
        cases (same s q)
        (λ d.
        let w' : num v ≡ num u = rw d at w in
        let cell' : (x : ℕ) (r : Step) (h m : ℕ) → Cell text t (num u) x p r h m → Cell text t' (num u) x p r (when eqb m N then h else onward h) N = rw d at cell in
        let o' : (a f : ℕ) → f < place_words → within a u || within_in a ks ≡ true → within a u ≡ false → word t' a f ≡ word t a f = rw d at o in
        rw d (
          rw w' (cell' (first_of ks) q h m r.0),
          rv,
          frame_in text t t' p ks r.2 (λ a f l i. o' a f l.0 (or_right (within a u) (within_in a ks) i) (un_true (within a u) (λ j. not_both (within_in a ks) i (g.2 a j)))),
        ))
        (λ d.
        let e' : has s (steps_s ks) ≡ true = rw d at e in
        let w' : num v ≡ num (spot_at s ks) = rw d at w in
        let cell' : (x : ℕ) (r : Step) (h m : ℕ) → Cell text t (num (spot_at s ks)) x p r h m → Cell text t' (num (spot_at s ks)) x p r (when eqb m N then h else onward h) N = rw d at cell in
        let o' : (a f : ℕ) → f < place_words → within a u || within_in a ks ≡ true → within a (spot_at s ks) ≡ false → word t' a f ≡ word t a f = rw d at o in
        let off : (a : ℕ) → within a u ≡ true → within a (spot_at s ks) ≡ false = λ a j. un_true (within a (spot_at s ks)) (λ i. not_both (within_in a ks) (found a s ks e' i) (g.2 a j)) in
        let in_u : (a f : ℕ) → f < place_words → within a u ≡ true → word t' a f ≡ word t a f = λ a f l j. o' a f l (or_left (within a u) (within_in a ks) j) (off a j) in
        rw d (
          subst (λ (y : ℕ). Cell text t' (num u) y p q h m) (sym (put_first ks e' w')) (same_cell r.0 (λ f l. in_u (num u) f l.0 (self u))),
          frame text t t' u r.1 (λ f l. in_u (num u) f (omega arith) (self u)) (λ a f l i. in_u a f l.0 (has_below a u i)),
          put_rep (num u) ks g.3 r.2 e' w' cell' (λ a f l i j. o' a f l (or_right (within a u) (within_in a ks) i) j),
        ))

-- ---- the child's walk, and what it makes of the parent
module _ (text t : List ℕ) (n p : ℕ) (s : Step) (b : Marks) (k m : ℕ) (ks : Spots) (h : Fits text t n (spot p b k m ks)) (e : has s (steps_s ks) ≡ true) where
  in_child : (q : ℕ) → within_in q ks ≡ false → within q (spot_at s ks) ≡ false
  in_child q d = un_true (within q (spot_at s ks)) (λ i. not_both (within_in q ks) (found q s ks e i) d)

  child_below : num (spot_at s ks) < n
  child_below = bounded n (num (spot_at s ks)) (spot_at s ks) (child_good n p s ks h.good.2 e).0 (self (spot_at s ks))

  pub child_fits : Fits text (touch (num (spot_at s ks)) m t) n (spot_at s ks)
  child_fits =
      let u : Spot = spot_at s ks in
      let g : Good n u = (child_good n p s ks h.good.2 e).0 in
      let i : num u < n = child_below in
      let t' : List ℕ = touch (num u) m t in
      let own : (f : ℕ) → f < left_word → word t' (num u) f ≡ word t (num u) f
      = λ f l. touch_other t (num u) m (num u) f (omega arith) (λ _. ((λ e. omega arith), (λ e. omega arith))) in
      let deep : (q f : ℕ) → f < place_words → within_in q (below_s u) ≡ true → word t' q f ≡ word t q f
      = λ q f l a. touch_other t (num u) m q f l (λ d. absurd (not_both (within_in q (below_s u)) a (rw d (not_below n u g)))) in
      record {
        rep = frame text t t' u (child_rep text t p s ks h.rep.1 e) own (λ q f l a. deep q f l.0 a);
        good = g;
        room = rw touch_size h.room;
        most = h.most;
        zeros = λ q f l y j. touch_other t (num u) m q f j (λ d. absurd (omega arith)) ∙ h.zeros q f l y j;
        index = indexes_frame n t t' u g own deep (indexes_at t s ks h.index.1 e);
      }

  pub lift : (t' : List ℕ) (n' : ℕ) (v : Spot) → After text (touch (num (spot_at s ks)) m t) n (spot_at s ks) t' n' v → After text t n (spot p b k m ks) t' n' (spot p b k m (put_s s m v ks))
  lift t' n' v a =
      let u : Spot = spot_at s ks in
      let t₁ : List ℕ = touch (num u) m t in
      let gu : Good n u = (child_good n p s ks h.good.2 e).0 in
      let cn : num u < n = child_below in
      let pn : p < n = h.good.0 in
      let gv : Good n' v = a.fits.good in
      let w : num v ≡ num u = a.same in
      let wider : n ≤ n' = a.grown in
      let same_has : (q : ℕ) → q < n → within q v ≡ within q u = λ q l. has_same q u v w (a.kept q l) in
      let off_below : (q : ℕ) → within q u ≡ false → within_in q (below_s u) ≡ false = λ q d. (both_false (eqb q (num u)) (within_in q (below_s u)) (sym (has_is q u) ∙ d)).1 in
      let off_num : (q : ℕ) → within q u ≡ false → q ≡ num u → ⊥ = λ q d x. eqb-false q (num u) (both_false (eqb q (num u)) (within_in q (below_s u)) (sym (has_is q u) ∙ d)).0 x in
      let out : (q f : ℕ) → q < n → f < place_words → within q u ≡ false → word t' q f ≡ word t q f
      = λ q f l i d. a.keeps q f l i (off_below q d) (λ x. absurd (off_num q d x)) ∙ touch_other t (num u) m q f i (λ x. absurd (off_num q d x)) in
      let p_out : within p u ≡ false = in_child p h.good.1 in
      let links : (q f : ℕ) → num_in q ks ≡ true → left_word ≤ f → f < place_words → (f ≡ held_word → ⊥) × (f ≡ mark_word → ⊥) → word t' q f ≡ word t q f
      = λ q f i l j d. a.keeps q f (bounded_in n p q ks h.good.2 (in_tree q ks i)) j (child_apart n p q s ks h.good.2 e i) (λ _. l) ∙ touch_other t (num u) m q f j (λ _. d) in
      record {
        fits = record {
          rep = (
            subst₂' (first_of (put_s s m v ks)) (first_of ks) (last_from 0 (put_s s m v ks)) (last_from 0 ks) t' (put_first s m v ks e w)
                (put_last s m v 0 ks e w) (λ f l. out p (kind_word + f) pn (omega arith) p_out ∙ h.rep.0 f l),
            put_rep s m v text t t' n p a.fits.rep p ks h.good.2 h.rep.1 e w
                (λ x r y z c. record {
                  name = c.name;
                  row = λ f l. a.keeps (num u) (next_word + f) cn (omega arith) (not_below n u gu) (λ _. omega arith) ∙ touch_row t (num u) m x p
                      (step_code_of r) c.name y z h.room (omega (arith, h.most)) c.row f l;
                  inside = c.inside;
                  says = c.says;
                })
                (λ q f l i d. out q f (bounded_in n p q ks h.good.2 i) l d),
            same_block t t' p (put_s s m v ks) (out p block_word pn (omega arith) p_out) (put_block s m v (word t p block_word) ks e w h.rep.2),
          );
          good = (omega arith, put_has n n' s m v wider gv p ks e (same_has p pn) ∙ h.good.1, put_good n n' s m v wider gv p ks h.good.2 e w same_has);
          room = a.fits.room;
          most = a.fits.most;
          zeros = a.fits.zeros;
          index = (
            index_kept t t' p ks (put_s s m v ks)
                (record {
                  root = out p root_word pn (omega arith) p_out;
                  block = out p block_word pn (omega arith) p_out;
                  left = λ q i. links q left_word i (omega arith) (omega arith) ((λ d. omega arith), (λ d. omega arith));
                  right = λ q i. links q right_word i (omega arith) (omega arith) ((λ d. omega arith), (λ d. omega arith));
                  step = λ q i. links q step_word i (omega arith) (omega arith) ((λ d. omega arith), (λ d. omega arith));
                })
                (record { steps = put_steps s m v ks; nums = λ r. put_at s m v r ks w; all = λ q. put_nums s m v q ks w })
                h.index.0,
            indexes_put s m v n p t t' ks h.good.2 e a.fits.index (λ q f l i d. out q f (bounded_in n p q ks h.good.2 i) l d) h.index.1,
          );
        };
        grown = wider;
        same = refl;
        keeps = λ q f l i d y. out q f l i (in_child q d);
        kept = λ q l. put_has n n' s m v wider gv q ks e (same_has q l);
      }
    where
      subst₂' : (x x' y y' : ℕ) (t' : List ℕ) → x ≡ x' → y ≡ y' → Row t' p kind_word (k ∷ nullable_byte b ∷ m ∷ x' ∷ y' ∷ []) → Row t' p kind_word (k ∷ nullable_byte b ∷ m ∷ x ∷ y ∷ [])
      subst₂' x x' y y' t' d d' r = subst (λ (z : ℕ). Row t' p kind_word (k ∷ nullable_byte b ∷ m ∷ z ∷ y ∷ [])) (sym d) (subst (λ (z : ℕ). Row t' p kind_word (k ∷ nullable_byte b ∷ m ∷ x' ∷ z ∷ [])) (sym d') r)
