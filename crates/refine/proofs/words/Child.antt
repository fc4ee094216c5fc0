-- A child is sought, and appended.
use Rattle.std.proofs.lemmas.Grind.{common_steps}
use Rattle.std.specs.Prelude.{◌≡◌, List, [], ◌∷◌, length, replicate, eqb}
use Rattle.std.proofs.Math.Path.{refl}
use Rattle.std.proofs.Common.{ap, sym, subst, ◌∙◌, arith}
use Rattle.std.proofs.Math.Bool.{true, false}
use Rattle.std.proofs.lemmas.Bool.{false≢true}
use Prim.Native.Nat.{ℕ, zero, suc, ◌+◌, ◌<◌, ◌≤◌}
use Rattle.std.proofs.Math.ListN.{get_or}
use borrow.Author.Tests.{eqb-true, eqb-false, ne_eqb}
use Rattle.logic.specs.Test.{when◌then◌else◌}
use Rattle.logic.specs.laws.Test.{cases}
use Rattle.logic.specs.Turns.{turns, after}
use Rattle.text.specs.declared.Name.{Name}
use Rattle.text.specs.Name.{bytes_of, eq_name}
use Rattle.words.specs.Word.{place_words, link_limit, IsTable, in_whole, in_each, word, with_word}
use Rattle.words.specs.laws.Word.{word_same, word_other, length_with}
use Rattle.model.specs.Kinds.{Step, position, same}
use Rattle.model.specs.Tracing.{Marks, marks, place_limit, has, clashes}
use Rattle.model.specs.Emission.{nullable_byte}
use Rattle.equality.specs.laws.Base.{same_true, same_refl, or_cases}
use Rattle.shapes.specs.declared.Step as Flat
use Rattle.shapes.specs.Steps.{Inside, unpacked_name, packed_name, code_of, name_of}
use Rattle.places.specs.Layout.{kind_word, first_word, last_word, root_word, block_word, left_word, next_word, parent_word, step_word, name_word, right_word, turn_limit}
use Rattle.growth.specs.Growth.{linked, appended, described}
use Rattle.search.specs.Search.{is_at, find_turn, find_from, find_in}
use Rattle.refine.specs.laws.numbered.Tree.{Spot, spot, Spots, no_spots, child, num, below_s, steps_s, new_spot, spot_at, add_s}
use Rattle.refine.specs.laws.reading.Steps.{near, far_same, far_renames, same_renames, step_code_of, name_in, test_is, Stands, unpacked}
use Rattle.refine.proofs.reading.Near.{near_name, near_renames}
use Rattle.refine.specs.laws.numbered.Numbers.{first_of, last_from, within, within_in, near_in, Good, GoodIn, both_false, or_right, not_both, un_true, bounded, bounded_in, self, has_add_old, add_good, not_below, or_left, has_num, has_below}
use Rattle.refine.specs.laws.words.Places.{own_words, cell_words, Row, Cell, Block, no_block, Rep, RepIn, same_cell, same_block, row_set, frame, Fits, in_row}

-- ---- the search
-- no child that the search takes for it: none at the step, nor another name of a variant
pub far_has : (s : Step) (ks : Spots) → near_in s ks ≡ false → has s (steps_s ks) ≡ false
unfolding near_in has steps_s
far_has s no_spots e = refl
far_has s (child r h m u ks) e = let d = both_false (near s r) (near_in s ks) e in rw (far_same s r d.0) (far_has s ks d.1)

pub far_clashes : (s : Step) (ks : Spots) → near_in s ks ≡ false → clashes s (steps_s ks) ≡ false
unfolding near_in clashes steps_s
far_clashes s no_spots e = refl
far_clashes s (child r h m u ks) e = let d = both_false (near s r) (near_in s ks) e in rw (far_renames s r d.0) (far_clashes s ks d.1)

-- the bytes that a child's name word says
abbrev pub bytes_at : List ℕ → List ℕ → ℕ → List ℕ
bytes_at text t c = bytes_of text (unpacked_name (word t c name_word))

-- what is found: nothing, the child at the step, or a variant with the same number and another name
pub data Sought (text t : List ℕ) (s : Step) (ks : Spots) (c : ℕ) : Type 0 where
  absent : c ≡ 0 → near_in s ks ≡ false → Sought text t s ks c
  present : c ≡ num (spot_at s ks) → has s (steps_s ks) ≡ true → clashes s (steps_s ks) ≡ false → eq_name (bytes_at text t c) (name_in s) ≡ true → Sought text t s ks c
  another : (c ≡ 0 → ⊥) → clashes s (steps_s ks) ≡ true → eq_name (bytes_at text t c) (name_in s) ≡ false → Sought text t s ks c

-- the child that the search takes for it, and that it finds
pub record Picked (text t : List ℕ) (s : Step) (ks : Spots) : Type 0 where
  pub step : Step
  pub there : has step (steps_s ks) ≡ true
  pub is : near s step ≡ true
  pub sought : Sought text t s ks (num (spot_at step ks))

module _ (text t : List ℕ) (f : Flat.Step) (s : Step) (st : Stands text f s) where
  is_at_lem : (q x p : ℕ) (r : Step) (h m : ℕ) → Cell text t q x p r h m → is_at text (code_of f) (name_of f) q t ≡ near s r
  unfolding is_at
  is_at_lem q x p r h m c = grind (arith, c.row 2, c.row 3, c.says, test_is s r)

  further : (r : Step) (h m : ℕ) (u : Spot) (ks : Spots) (c : ℕ) → near s r ≡ false → Sought text t s ks c → Sought text t s (child r h m u ks) c
  unfolding near_in has clashes steps_s spot_at when◌then◌else◌
  further r h m u ks c e (absent z a) = absent z (rw e a)
  further r h m u ks c e (present z a b d) = present (rw (far_same s r e) z) (rw (far_same s r e) a) (rw (far_renames s r e) b) d
  further r h m u ks c e (another z a b) = another z (rw (far_renames s r e) a) b

  here : (n x p : ℕ) (r : Step) (h m : ℕ) (u : Spot) (ks : Spots) → (num u ≡ 0 → ⊥) → near_in r ks ≡ false → Cell text t (num u) x p r h m → near s r ≡ true → Sought text t s (child r h m u ks) (num u)
  unfolding near_in has clashes steps_s spot_at when◌then◌else◌
  here n x p r h m u ks z a c e =
      let v : word t (num u) name_word ≡ c.name = c.row 3 (omega arith) in
      let w : bytes_at text t (num u) ≡ name_in r = rw v c.says in
      cases (same s r)
      (λ d. present (rw d refl) (rw d refl) (rw (same_renames s r d) (far_clashes s ks (rw (same_true s r d) a))) (rw (w, near_name s r e) d))
      (λ d. another z (rw (near_renames s r e d) refl) (rw (w, near_name s r e) d))

  seek : (n p c g : ℕ) (ks : Spots) → n ≤ place_limit → place_limit < c + g → GoodIn n c ks → RepIn text t p ks
      → Sought text t s ks (turns (find_turn text (code_of f) (name_of f) t) (λ c. 0) g (first_of ks))
  unfolding turns after find_turn near_in when◌then◌else◌
  seek n p c zero no_spots z l d r = absent refl refl
  seek n p c (suc g) no_spots z l d r = absent refl refl
  seek n p c zero (child q h m u ks) z l d r = absurd (let b = bounded n (num u) u d.1 (self u) in omega (arith, d.0))
  seek n p c (suc g) (child q h m u ks) z l d r =
      let x : word t (num u) next_word ≡ first_of ks = r.0.row 0 (omega arith) in
      let i = seek n p (num u) g ks z (omega (arith, d.0)) d.3 r.2 in
      rw (ne_eqb (num u) 0 (omega (arith, d.0)), is_at_lem (num u) (first_of ks) p q h m r.0)
      (cases (near s q)
      (λ e. rw e (here n (first_of ks) p q h m u ks (omega (arith, d.0)) d.4 r.0 e))
      (λ e. rw (e, x) (further q h m u ks _ e i)))

  pub sought : (n p : ℕ) (b : Marks) (k m : ℕ) (ks : Spots) → Fits text t n (spot p b k m ks) → Sought text t s ks (find_in text p (code_of f) (name_of f) t)
  unfolding find_from
  sought n p b k m ks h =
      let x : word t p first_word ≡ first_of ks = h.rep.0 3 (omega arith) in
      rw x (seek n p p turn_limit ks h.most (omega arith) h.good.2 h.rep.1)

  pub picked : (n p c : ℕ) (ks : Spots) → GoodIn n c ks → RepIn text t p ks → near_in s ks ≡ true → Picked text t s ks
  unfolding near_in has steps_s spot_at when◌then◌else◌
  picked n p c no_spots g r e = absurd (false≢true e)
  picked n p c (child q h m u ks) g r e =
      cases (near s q)
      (λ d. record {
        step = q;
        there = rw (same_refl q) refl;
        is = d;
        sought = rw (same_refl q) (here n (first_of ks) p q h m u ks (omega (arith, g.0)) g.4 r.0 d);
      })
      (λ d.
      let e' : near_in s ks ≡ true = rw d at e in
      let i = picked n p (num u) ks g.3 r.2 e' in
      let o : same i.step q ≡ false = un_true (same i.step q) (λ a. not_both (near s q) (rw (same_true i.step q a) at i.is) d) in
      record { step = i.step; there = rw o i.there; is = i.is; sought = rw o (further q h m u ks _ d i.sought) })

-- ---- a new last child
last_in : (c : ℕ) (r : Step) (h m : ℕ) (u : Spot) (ks : Spots) → within_in (last_from c (child r h m u ks)) (child r h m u ks) ≡ true
last_in c r h m u no_spots = has_num u no_spots
last_in c r h m u (child r' h' m' u' ks) = or_right (within (last_from (num u) (child r' h' m' u' ks)) u) _ (last_in (num u) r' h' m' u' ks)

last_of : (c : ℕ) (ks : Spots) → (first_of ks ≡ 0 → ⊥) → within_in (last_from c ks) ks ≡ true
last_of c no_spots e = absurd (e refl)
last_of c (child r h m u ks) e = last_in c r h m u ks

last_add : (c : ℕ) (s : Step) (n : ℕ) (ks : Spots) → last_from c (add_s s n ks) ≡ n
unfolding add_s
last_add c s n no_spots = refl
last_add c s n (child r h m u ks) = last_add (num u) s n ks

-- a child that was there is there still
pub still_has : (r s : Step) (n : ℕ) (ks : Spots) → has r (steps_s ks) ≡ true → has r (steps_s (add_s s n ks)) ≡ true
unfolding add_s has steps_s
still_has r s n no_spots e = absurd (false≢true e)
still_has r s n (child q h m u ks) e = or_cases (same r q) (has r (steps_s ks)) e (λ a. or_left (same r q) _ a) (λ a. or_right (same r q) _ (still_has r s n ks a))

pub still_at : (r s : Step) (n : ℕ) (ks : Spots) → has r (steps_s ks) ≡ true → spot_at r (add_s s n ks) ≡ spot_at r ks
unfolding add_s has steps_s spot_at when◌then◌else◌
still_at r s n no_spots e = absurd (false≢true e)
still_at r s n (child q h m u ks) e = grind (arith, common_steps, still_at r s n ks)

pub still_first : (r s : Step) (n : ℕ) (ks : Spots) → has r (steps_s ks) ≡ true → first_of (add_s s n ks) ≡ first_of ks
unfolding add_s has steps_s
still_first r s n no_spots e = absurd (false≢true e)
still_first r s n (child q h m u ks) e = refl

module _ (text t t' : List ℕ) (n p : ℕ) (s : Step) (cell : Cell text t' n 0 p s 0 0) (own : Rep text t' (new_spot n)) where
  add_rep : (c d : ℕ) (ks : Spots) → GoodIn n d ks → RepIn text t p ks → ((first_of ks ≡ 0 → ⊥) → word t' (last_from c ks) next_word ≡ n)
      → ((q f : ℕ) → f < place_words → within_in q ks ≡ true → (q ≡ last_from c ks → f ≡ next_word → ⊥) → word t' q f ≡ word t q f) → RepIn text t' p (add_s s n ks)
  unfolding add_s
  add_rep c y no_spots g r x w = (cell, own, tt)
  add_rep c y (child q h m u no_spots) g r x w = (
    record {
      name = r.0.name;
      row = λ f l. cases (eqb f 0)
          (λ e. let d : f ≡ 0 = eqb-true f 0 e in rw d (x (omega (arith, g.0))))
          (λ e. let d = eqb-false f 0 e in w (num u) (next_word + f) (omega arith) (has_num u no_spots) (λ _ a. d (omega arith)) ∙ r.0.row f l ∙ other r.0.name f l d);
      inside = r.0.inside;
      says = r.0.says;
    },
    frame text t t' u r.1 (λ f l. w (num u) f (omega arith) (has_num u no_spots) (λ _ a. omega arith))
        (λ a f l e. w a f l.0 (or_left (within a u) false (has_below a u e)) (λ d _. not_both (within_in a (below_s u)) e (rw d (not_below n u g.1)))),
    (cell, own, tt),
  )
    where
      other : (nm f : ℕ) → f < 6 → (f ≡ 0 → ⊥) → get_or (cell_words 0 p (step_code_of q) nm h m) f 0 ≡ get_or (cell_words n p (step_code_of q) nm h m) f 0
      other nm zero l d = absurd (d refl)
      other nm (suc f) l d = refl
  add_rep c y (child q h m u (child q' h' m' u' ks)) g r x w =
      let k : Spots = child q' h' m' u' ks in
      let L : ℕ = last_from (num u) k in
      let there : within_in L k ≡ true = last_in (num u) q' h' m' u' ks in
      let off : (a : ℕ) → within a u ≡ true → a ≡ L → ⊥ = λ a e d. not_both (within_in L k) there (g.2 L (rw d at e)) in (
        same_cell r.0 (λ f l. w (num u) f l.0 (has_num u k) (λ d _. off (num u) (self u) d)),
        frame text t t' u r.1 (λ f l. w (num u) f (omega arith) (has_num u k) (λ d _. off (num u) (self u) d))
            (λ a f l e. w a f l.0 (or_left (within a u) (within_in a k) (has_below a u e)) (λ d _. off a (has_below a u e) d)),
        add_rep (num u) (num u) (child q' h' m' u' ks) g.3 r.2 (λ e. x (omega (arith, g.0))) (λ a f l e d. w a f l (or_right (within a u) (within_in a k) e) d),
      )

-- a block keeps its children
block_add : (b : ℕ) (s : Step) (n : ℕ) (ks : Spots) → Block b ks → Block b (add_s s n ks)
block_add b s n ks β i l = let d =
    β i l in (
      still_has (position i) s n ks d.0,
      ap num (still_at (position i) s n ks d.0) ∙ d.1 ∙ ap (λ (x : ℕ). x + i)
          (sym (still_first (position i) s n ks d.0)),
    )

row_other : (t : List ℕ) (p base q f v : ℕ) (xs : List ℕ) → ((g : ℕ) → g < length xs → p ≡ q → base + g ≡ f → ⊥) → Row t p base xs → Row (with_word t q f v) p base xs
row_other t p base q f v xs n r g l = word_other t q f v p (base + g) (n g l) ∙ r g l

-- the link to the new child
abbrev joined : ℕ → ℕ → List ℕ → List ℕ
joined p n t = when eqb (word t p first_word) 0 then with_word t p first_word n else with_word t (word t p last_word) next_word n

record Linked (t t₀ : List ℕ) (n p : ℕ) (s : Step) (b : Marks) (k m : ℕ) (ks : Spots) : Type 0 where
  size : length t₀ ≡ length t
  row : Row t₀ p kind_word (k ∷ nullable_byte b ∷ m ∷ first_of (add_s s n ks) ∷ last_from 0 ks ∷ [])
  link : (first_of ks ≡ 0 → ⊥) → word t₀ (last_from 0 ks) next_word ≡ n
  rest : (q f : ℕ) → f < place_words → (q ≡ p → f ≡ first_word → ⊥) → (within_in q ks ≡ true → q ≡ last_from 0 ks → f ≡ next_word → ⊥) → word t₀ q f ≡ word t q f

linked_is : (text t : List ℕ) (n p : ℕ) (s : Step) (b : Marks) (k m : ℕ) (ks : Spots) → Fits text t n (spot p b k m ks) → Linked t (joined p n t) n p s b k m ks
unfolding add_s when◌then◌else◌
linked_is text t n p s b k m no_spots h =
    let short : n < link_limit = omega (arith, h.most) in
    let e : word t p first_word ≡ 0 = h.rep.0 3 (omega arith) in
    rw e (record {
      size = length_with t p first_word n;
      row = row_set t p kind_word 3 n (own_words b k m no_spots) h.room (in_row text t n p b k m no_spots h) (omega arith) (in_each short) (omega arith) h.rep.0;
      link = λ d. absurd (d refl);
      rest = λ q f l d _. word_other t p first_word n q f d;
    })
linked_is text t n p s b k m (child r x y u ks) h =
    let short : n < link_limit = omega (arith, h.most) in
    let L : ℕ = last_from (num u) ks in
    let e : word t p first_word ≡ num u = h.rep.0 3 (omega arith) in
    let e' : word t p last_word ≡ L = h.rep.0 4 (omega arith) in
    let z : within_in L (child r x y u ks) ≡ true = last_in 0 r x y u ks in
    let i : L < n = bounded_in n p L (child r x y u ks) h.good.2 z in
    let j : (p ≡ L) → ⊥ = λ d. not_both (within_in L (child r x y u ks)) z (rw d at h.good.1) in
    rw (e, e', ne_eqb (num u) 0 (omega (arith, h.good.2.0))) (record {
      size = length_with t L next_word n;
      row = row_other t p kind_word L next_word n (own_words b k m (child r x y u ks)) (λ g l d _. j d) h.rep.0;
      link = λ d. word_same t L next_word n h.room (omega (arith, h.most)) (omega arith) (in_each short);
      rest = λ q f l _ d. word_other t L next_word n q f (λ w. d (rw w z) w);
    })

pub zero_row : (t : List ℕ) (n base k : ℕ) → base + k ≤ place_words → ((f : ℕ) → f < place_words → word t n f ≡ 0) → Row t n base (replicate k 0)
zero_row t n base k i z f l = grind (arith, common_steps)

-- A new last child, in a table that does not yet have it in the search tree nor in the block: what `After` says but for these, and the words
-- that they read.
pub record Grown (text t : List ℕ) (n p : ℕ) (b : Marks) (k m : ℕ) (ks : Spots) (s : Step) (t' : List ℕ) : Type 0 where
  pub rep : Rep text t' (spot p b k m (add_s s n ks))
  pub good : Good (n + 1) (spot p b k m (add_s s n ks))
  pub size : length t' ≡ length t
  pub words : (q f : ℕ) → q < n → f < place_words → (q ≡ p → root_word ≤ f) → (within_in q ks ≡ true → q ≡ last_from 0 ks → f ≡ next_word → ⊥) → word t' q f ≡ word t q f
  pub root : word t' n root_word ≡ 0
  pub left : word t' n left_word ≡ 0
  pub right : word t' n right_word ≡ 0
  pub step : word t' n step_word ≡ step_code_of s
  pub zeros : (q f : ℕ) → n + 1 ≤ q → q < place_limit → f < place_words → word t' q f ≡ 0

pub append_grown : (text t : List ℕ) (n p : ℕ) (x : Flat.Step) (s : Step) (b : Marks) (k m : ℕ) (ks : Spots) → Stands text x s → near_in s ks ≡ false → Fits text t n (spot p b k m ks) → n < place_limit
    → Grown text t n p b k m ks s (appended p (code_of x) (name_of x) n t)
unfolding appended linked described
append_grown text t n p x s b k m ks st far h i =
    let c : ℕ = code_of x in
    let nm : ℕ = packed_name (name_of x) in
    let t₀ : List ℕ = joined p n t in
    let t₁ : List ℕ = with_word t₀ p last_word n in
    let t₂ : List ℕ = with_word t₁ n parent_word p in
    let t₃ : List ℕ = with_word t₂ n step_word c in
    let t₄ : List ℕ = with_word t₃ n name_word nm in
    let k₀ = linked_is text t n p s b k m ks h in
    let pn : p < n = h.good.0 in
    let big : IsTable t = h.room in
    let z₀ : length t₀ ≡ length t = k₀.size in
    let z₁ : length t₁ ≡ length t = length_with t₀ p last_word n ∙ z₀ in
    let z₂ : length t₂ ≡ length t = length_with t₁ n parent_word p ∙ z₁ in
    let z₃ : length t₃ ≡ length t = length_with t₂ n step_word c ∙ z₂ in
    let z₄ : length t₄ ≡ length t = length_with t₃ n name_word nm ∙ z₃ in
    let last_below : (q : ℕ) → within_in q ks ≡ true → q < n = λ q e. bounded_in n p q ks h.good.2 e in
    let behind : (q f : ℕ) → (q ≡ n → parent_word ≤ f → f ≤ name_word → ⊥) → word t₄ q f ≡ word t₁ q f
    = λ q f a.
    word_other t₃ n name_word nm q f (λ e d. a e (omega arith) (omega arith))
    ∙ word_other t₂ n step_word c q f (λ e d. a e (omega arith) (omega arith))
    ∙ word_other t₁ n parent_word p q f (λ e d. a e (omega arith) (omega arith)) in
    let all : (q f : ℕ) → f < place_words → (q ≡ n → parent_word ≤ f → f ≤ name_word → ⊥) → (q ≡ p → first_word ≤ f → f ≤ last_word → ⊥) →
    (within_in q ks ≡ true → q ≡ last_from 0 ks → f ≡ next_word → ⊥) → word t₄ q f ≡ word t q f
    = λ q f l a b d.
    behind q f a ∙ word_other t₀ p last_word n q f (λ e g. b e (omega arith) (omega arith)) ∙ k₀.rest q f l (λ e g. b e (omega arith) (omega arith)) d in
    let zeros₀ : (f : ℕ) → f < place_words → word t₁ n f ≡ 0
    = λ f j. word_other t₀ p last_word n n f (λ e _. omega arith) ∙ k₀.rest n f j (λ d _. omega arith) (λ e d _. let y = last_below n e in omega arith) ∙ h.zeros n f (omega arith) i j in
    let cell_row : Row t₄ n next_word (cell_words 0 p c nm 0 0)
    = row_set t₃ n next_word 3 nm (cell_words 0 p c 0 0 0) (omega arith) i (omega arith) (in_whole refl) (omega arith)
    (row_set t₂ n next_word 2 c (cell_words 0 p 0 0 0 0) (omega arith) i (omega arith) (in_whole refl) (omega arith)
    (row_set t₁ n next_word 1 p (cell_words 0 0 0 0 0 0) (omega arith) i (omega arith) (in_each (omega arith)) (omega arith) (zero_row t₁ n next_word 6 (omega arith) zeros₀))) in
    let cell : Cell text t₄ n 0 p s 0 0
    = record {
      name = nm;
      row = subst (λ (y : ℕ). Row t₄ n next_word (cell_words 0 p y nm 0 0)) st.code cell_row;
      inside = subst (λ (y : Name). Inside text y) (sym (unpacked (name_of x) st.short)) st.inside;
      says = ap (bytes_of text) (unpacked (name_of x) st.short) ∙ st.bytes;
    } in
    let fresh : (f : ℕ) → f < place_words → (parent_word ≤ f → f ≤ name_word → ⊥) → word t₄ n f ≡ 0
    = λ f j a. behind n f (λ _. a) ∙ zeros₀ f j in
    let own : Row t₄ n kind_word (own_words (marks false false) 0 0 no_spots)
    = λ f l. behind n (kind_word + f) (λ _ a _. omega arith) ∙ zero_row t₁ n kind_word 5 (omega arith) zeros₀ f l in
    let parent : Row t₄ p kind_word (own_words b k m (add_s s n ks))
    = λ f l. cc (
      last_add 0 s n ks,
      behind p (kind_word + f) (λ e _ _. omega arith),
      row_set t₀ p kind_word 4 n (k ∷ nullable_byte b ∷ m ∷ first_of (add_s s n ks) ∷ last_from 0 ks ∷ []) (omega arith) (omega arith) (omega arith) (in_each (omega arith))
          (omega arith) k₀.row f l,
    ) in
    record {
      rep = (
        parent,
        add_rep text t t₄ n p s cell (
          own,
          tt,
          no_block (word t₄ n block_word) no_spots (fresh block_word (omega arith) (λ e _. omega arith)),
        ) 0 p ks h.good.2 h.rep.1
            (λ e. let y = last_below (last_from 0 ks) (last_of 0 ks e) in
            behind (last_from 0 ks) next_word (λ a _ _. omega arith) ∙ word_other t₀ p last_word n (last_from 0 ks) next_word (λ _ a. omega arith) ∙ k₀.link e)
            (λ q f l e d. let y = last_below q e in
            all q f l (λ a _ _. omega arith) (λ a _ _. not_both (within_in q ks) e (rw a h.good.1)) (λ _ a c. d a c)),
        same_block t t₄ p (add_s s n ks) (all p block_word (omega arith) (λ a _ _. omega arith) (λ _ _ a. omega arith) (λ _ _ a. omega arith))
            (block_add (word t p block_word) s n ks h.rep.2),
      );
      good = (omega arith, has_add_old p s n ks pn ∙ h.good.1, add_good n p s ks pn far h.good.2);
      size = z₄;
      words = λ q f l j d e. all q f j (λ a _ _. omega arith) (λ a _ c. let y = d a in omega arith) e;
      root = fresh root_word (omega arith) (λ e _. omega arith);
      left = fresh left_word (omega arith) (λ e _. omega arith);
      right = fresh right_word (omega arith) (λ e _. omega arith);
      step = cell.row 2 (omega arith);
      zeros = λ q f l v j. all q f j (λ d _ _. omega arith) (λ d _ _. omega arith) (λ e d _. let y = last_below q e in omega arith) ∙ h.zeros q f (omega arith) v j;
    }
