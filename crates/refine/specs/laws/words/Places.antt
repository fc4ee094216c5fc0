-- The words of the table say the numbered tree; what changes one place, and what is kept.
use Rattle.std.specs.Prelude.{◌≡◌, refl, List, [], ◌∷◌, true, false, ℕ, ◌+◌, ◌<◌, ◌≤◌, length, get_or, set, eqb}
use Rattle.std.proofs.Common.{ap, sym, subst, ◌∙◌, arith, length-set, get_or-set_same, get_or-set_other, eqb-true}
use Rattle.std.proofs.lemmas.Bool.{eqb-false}
use Rattle.logic.specs.laws.Test.{cases}
use Rattle.text.specs.Name.{bytes_of}
use Rattle.words.specs.Word.{place_words, IsTable, IsRow, HasRoom, in_whole, word, with_word}
use Rattle.words.specs.laws.Word.{word_same, word_other, length_with}
use Rattle.model.specs.Kinds.{Step, position}
use Rattle.model.specs.Tracing.{Marks, marks, place_limit, has}
use Rattle.model.specs.Emission.{nullable_byte}
use Rattle.shapes.specs.Steps.{Inside, unpacked_name}
use Rattle.places.specs.Layout.{kind_word, nullable_word, samples_word, root_word, block_word, left_word, next_word, right_word, tag_word}
use Rattle.places.specs.Nullable.{admitting, widening, with_null, with_widened}
use Rattle.places.specs.laws.Nullable.{byte_admitting, byte_widening}
use Rattle.refine.specs.laws.numbered.Tree.{Spot, spot, Spots, no_spots, child, num, below_s, steps_s, spot_at}
use Rattle.refine.specs.laws.reading.Steps.{step_code_of, name_in}
use Rattle.refine.specs.laws.numbered.Numbers.{first_of, last_from, within, within_in, Good, or_left, or_right, not_both, has_num, has_below}
use Rattle.refine.specs.laws.words.SearchTree.{Indexes, alike, index_kept, kept_all, indexes_frame_in}

-- ---- the words of a place, and of its cell among its siblings
abbrev pub own_words : Marks → ℕ → ℕ → Spots → List ℕ
own_words b k m ks = k ∷ nullable_byte b ∷ m ∷ first_of ks ∷ last_from 0 ks ∷ []

-- next, parent, step, name, held, mark
abbrev pub cell_words : ℕ → ℕ → ℕ → ℕ → ℕ → ℕ → List ℕ
cell_words x p s nm h m = x ∷ p ∷ s ∷ nm ∷ h ∷ m ∷ []

-- words of a place, from a base on
abbrev pub Row : List ℕ → ℕ → ℕ → List ℕ → Type 0
Row t p base xs = (f : ℕ) → f < length xs → word t p (base + f) ≡ get_or xs f 0

-- a child's cell: its words exactly, but for the name, of which many words say the bytes
pub record Cell (text t : List ℕ) (q next p : ℕ) (s : Step) (h m : ℕ) : Type 0 where
  pub name : ℕ
  pub row : Row t q next_word (cell_words next p (step_code_of s) name h m)
  pub inside : Inside text (unpacked_name name)
  pub says : bytes_of text (unpacked_name name) ≡ name_in s

-- so many positions stand in a block: they are children, with numbers from the first child's on
abbrev pub Block : ℕ → Spots → Type 0
Block b ks = (i : ℕ) → i < b → (has (position i) (steps_s ks) ≡ true) × (num (spot_at (position i) ks) ≡ first_of ks + i)

pub no_block : (b : ℕ) (ks : Spots) → b ≡ 0 → Block b ks
no_block b ks e i l = absurd (omega arith)

-- the words of the table say the tree
abbrev mutual
  pub Rep : List ℕ → List ℕ → Spot → Type 0
  Rep text t (spot p b k m ks) = Row t p kind_word (own_words b k m ks) × RepIn text t p ks × Block (word t p block_word) ks

  pub RepIn : List ℕ → List ℕ → ℕ → Spots → Type 0
  RepIn text t p no_spots = Unit {0}
  RepIn text t p (child s h m u ks) = Cell text t (num u) (first_of ks) p s h m × Rep text t u × RepIn text t p ks

-- the words that say the tree stand below the tag, and the left and right links are none of them
abbrev pub Said : ℕ → Type 0
Said f = (f < place_words) × (f < tag_word) × (f ≡ left_word → ⊥) × (f ≡ right_word → ⊥)

-- a cell whose words are kept
pub same_cell : {text t t' : List ℕ} {q x p : ℕ} {s : Step} {h m : ℕ} → Cell text t q x p s h m → ((f : ℕ) → Said f → word t' q f ≡ word t q f) → Cell text t' q x p s h m
same_cell c w = record { name = c.name; row = λ f l. w (next_word + f) (omega arith, omega arith, λ e. omega arith, λ e. omega arith) ∙ c.row f l; inside = c.inside; says = c.says }

pub same_block : (t t' : List ℕ) (p : ℕ) (ks : Spots) → word t' p block_word ≡ word t p block_word → Block (word t p block_word) ks → Block (word t' p block_word) ks
same_block t t' p ks e r = subst (λ (b : ℕ). Block b ks) (sym e) r

-- one word of a row is written
pub row_set : (t : List ℕ) (p base f v : ℕ) (xs : List ℕ) → IsTable t → IsRow p → base + f < place_words → HasRoom (base + f) v → f < length xs
    → Row t p base xs → Row (with_word t p (base + f) v) p base (set xs f v)
row_set t p base f v xs a b l o i r g j =
    cases (eqb g f)
    (λ e. let d : g ≡ f = eqb-true g f e in rw d (word_same t p (base + f) v a b l o ∙ sym (get_or-set_same xs f v 0 i)))
    (λ e. let d : g ≡ f → ⊥ = eqb-false g f e in
    word_other t p (base + f) v p (base + g) (λ _ x. d (omega arith)) ∙ r g (rw (length-set xs f v) at j) ∙ sym (get_or-set_other xs f g v 0 d))

module _ (text : List ℕ) where
  -- words that are kept keep the tree
  mutual
    pub frame : (t t' : List ℕ) (u : Spot) → Rep text t u → ((f : ℕ) → f < left_word → word t' (num u) f ≡ word t (num u) f)
        → ((q f : ℕ) → Said f → within_in q (below_s u) ≡ true → word t' q f ≡ word t q f) → Rep text t' u
    frame t t' (spot p b k m ks) r o w = ((λ f l. o (kind_word + f) (omega arith) ∙ r.0 f l), frame_in t t' p ks r.1 w, same_block t t' p ks (o block_word (omega arith)) r.2)

    pub frame_in : (t t' : List ℕ) (p : ℕ) (ks : Spots) → RepIn text t p ks → ((q f : ℕ) → Said f → within_in q ks ≡ true → word t' q f ≡ word t q f) → RepIn text t' p ks
    frame_in t t' p no_spots r w = tt
    frame_in t t' p (child s h m u ks) r w = (
      same_cell r.0 (λ f l. w (num u) f l (has_num u ks)),
      frame t t' u r.1 (λ f l. w (num u) f (omega arith, omega arith, λ e. omega arith, λ e. omega arith) (has_num u ks))
          (λ q f l a. w q f l (or_left (within q u) (within_in q ks) (has_below q u a))),
      frame_in t t' p ks r.2 (λ q f l a. w q f l (or_right (within q u) (within_in q ks) a)),
    )

-- ---- what stands before a step of the walk, and what it leaves
pub record Fits (text t : List ℕ) (n : ℕ) (u : Spot) : Type 0 where
  pub rep : Rep text t u
  pub good : Good n u
  pub room : IsTable t
  pub most : n ≤ place_limit
  pub zeros : (q f : ℕ) → n ≤ q → q < place_limit → f < place_words → word t q f ≡ 0
  pub index : Indexes t u

pub record After (text t : List ℕ) (n : ℕ) (u : Spot) (t' : List ℕ) (n' : ℕ) (u' : Spot) : Type 0 where
  pub fits : Fits text t' n' u'
  pub grown : n ≤ n'
  pub same : num u' ≡ num u
  pub keeps : (q f : ℕ) → q < n → f < place_words → within_in q (below_s u) ≡ false → (q ≡ num u → left_word ≤ f) → word t' q f ≡ word t q f
  pub kept : (q : ℕ) → q < n → within_in q (below_s u') ≡ within_in q (below_s u)

module _ (text : List ℕ) where
  pub stays : (t : List ℕ) (n : ℕ) (u : Spot) → Fits text t n u → After text t n u t n u
  stays t n u h = record { fits = h; grown = omega arith; same = refl; keeps = λ q f l i a b. refl; kept = λ q l. refl }

  pub and_then : (t t₁ t₂ : List ℕ) (n n₁ n₂ : ℕ) (u u₁ u₂ : Spot) → After text t n u t₁ n₁ u₁ → After text t₁ n₁ u₁ t₂ n₂ u₂ → After text t n u t₂ n₂ u₂
  and_then t t₁ t₂ n n₁ n₂ u u₁ u₂ a b = record {
    fits = b.fits;
    grown = omega arith;
    same = b.same ∙ a.same;
    keeps = λ q f l i x y. b.keeps q f (omega arith) i (a.kept q l ∙ x) (λ e. y (e ∙ a.same)) ∙ a.keeps q f l i x y;
    kept = λ q l. b.kept q (omega arith) ∙ a.kept q l;
  }

  -- ---- a word of the place's own
  own_with : (t t' : List ℕ) (n p : ℕ) (b b' : Marks) (k k' m m' : ℕ) (ks : Spots) → Fits text t n (spot p b k m ks) → IsTable t'
      → Row t' p kind_word (own_words b' k' m' ks) → ((q f : ℕ) → f < place_words → (q ≡ p → root_word ≤ f) → word t' q f ≡ word t q f) → After text t n (spot p b k m ks) t' n (spot p b' k' m' ks)
  own_with t t' n p b b' k k' m m' ks h z o w =
      let below : (q f : ℕ) → f < place_words → within_in q ks ≡ true → word t' q f ≡ word t q f = λ q f l a. w q f l (λ e. absurd (not_both (within_in q ks) a (rw e h.good.1))) in
      record {
        fits = record {
          rep = (o, frame_in text t t' p ks h.rep.1 (λ q f l a. below q f l.0 a), same_block t t' p ks (w p block_word (omega arith) (λ _. omega arith)) h.rep.2);
          good = h.good;
          room = z;
          most = h.most;
          zeros = λ q f l y i. w q f i (λ e. let g : p < n = h.good.0 in absurd (omega arith)) ∙ h.zeros q f l y i;
          index = (
            index_kept t t' p ks ks (kept_all t t' p ks (λ f l i. w p f (omega arith) (λ _. l)) below) (alike ks) h.index.0,
            indexes_frame_in n p t t' ks h.good.2 (λ q f l a _. below q f l a) h.index.1,
          );
        };
        grown = omega arith;
        same = refl;
        keeps = λ q f l i a y. w q f i (λ e. let x = y e in omega arith);
        kept = λ q l. refl;
      }

  module _ (t : List ℕ) (n p : ℕ) (b : Marks) (k m : ℕ) (ks : Spots) (h : Fits text t n (spot p b k m ks)) where
    pub in_row : IsRow p
    in_row = omega (arith, h.good.0, h.most)

    others : (f v : ℕ) → f < root_word → (q g : ℕ) → g < place_words → (q ≡ p → root_word ≤ g) → word (with_word t p f v) q g ≡ word t q g
    others f v i q g j y = word_other t p f v q g (λ d e. let x = y d in omega arith)

    pub set_kind : (j : ℕ) → After text t n (spot p b k m ks) (with_word t p kind_word j) n (spot p b j m ks)
    set_kind j = own_with t (with_word t p kind_word j) n p b b k j m m ks h (rw length_with h.room)
        (row_set t p kind_word 0 j (own_words b k m ks) h.room in_row (omega arith) (in_whole refl) (omega arith) h.rep.0) (others kind_word j (omega arith))

    -- the nullable byte is that of other marks
    set_marks : (v : ℕ) (c : Marks) → v ≡ nullable_byte c → After text t n (spot p b k m ks) (with_word t p nullable_word v) n (spot p c k m ks)
    set_marks v c e = own_with t (with_word t p nullable_word v) n p b c k k m m ks h (rw length_with h.room)
        (subst (λ (w : ℕ). Row (with_word t p nullable_word v) p kind_word (k ∷ w ∷ m ∷ first_of ks ∷ last_from 0 ks ∷ [])) e
        (row_set t p kind_word 1 v (own_words b k m ks) h.room in_row (omega arith) (in_whole refl) (omega arith) h.rep.0)) (others nullable_word v (omega arith))

    pub set_null : After text t n (spot p b k m ks) (with_null p t) n (spot p (marks true b.widened) k m ks)
    set_null = set_marks _ _ (ap admitting (h.rep.0 1 (omega arith)) ∙ byte_admitting b.null b.widened)

    pub set_widened : After text t n (spot p b k m ks) (with_widened p t) n (spot p (marks b.null true) k m ks)
    set_widened = set_marks _ _ (ap widening (h.rep.0 1 (omega arith)) ∙ byte_widening b.null b.widened)

    pub set_samples : (v : ℕ) → After text t n (spot p b k m ks) (with_word t p samples_word v) n (spot p b k v ks)
    set_samples v = own_with t (with_word t p samples_word v) n p b b k k m v ks h (rw length_with h.room)
        (row_set t p kind_word 2 v (own_words b k m ks) h.room in_row (omega arith) (in_whole refl) (omega arith) h.rep.0) (others samples_word v (omega arith))
