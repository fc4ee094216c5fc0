-- Laws of the table of places: what stores keep, and a table of zeros.
use Rattle.std.specs.Prelude.{◌≡◌, refl, Bool, true, false, not, ◌||◌, List, ℕ, ◌-◌, ◌<◌, ◌≤◌, eqb, ltb}
use Rattle.std.proofs.Common.{sym, ◌∙◌, le_refl, arith, ltb-true, ltb-false}
use Rattle.std.proofs.lemmas.Bool.{false≢true}
use Rattle.logic.specs.laws.Test.{cases}
use Rattle.words.specs.Word.{IsTable, IsRow, in_whole, in_each, word, with_word, zeros}
use Rattle.words.specs.laws.Word.{word_keeps, word_other, length_with, zeros_table, word_zero}
use Rattle.model.specs.Tracing.{place_limit}
use Rattle.text.specs.declared.Name.{Name}
use Rattle.text.specs.Name.{bytes_of}
use Rattle.text.specs.Utf8.{is_utf8}
use Rattle.shapes.specs.Steps.{unpacked_name, Inside}
use Rattle.shapes.specs.laws.Shapes.{no_name_good}
use Rattle.places.specs.Layout.{first_word, last_word, next_word, parent_word, step_word, name_word, tag_word, Linked, Siblings, Tagged, Sound, Ready}

-- ---- the table stays linked

-- what is stored must be a place if it is a link, a higher one if it is the next child, a name that ends inside the text if it is a name;
-- there may be more places than before
pub linked_stored : (text t : List ℕ) (n m p w v : ℕ) → Linked text t n → n ≤ m → m ≤ place_limit →
    (w ≡ first_word → v < m) → (w ≡ last_word → v < m) → (w ≡ next_word → (v < m) × (p < v)) → (w ≡ name_word → Inside text (unpacked_name v)) →
    Linked text (with_word t p w v) m
linked_stored text t n m p w v s l k f a x i =
    record {
      most = k;
      room = rw length_with s.room;
      first = λ q h. word_keeps (λ u. u < m) t p w v q first_word (λ e d. let b = f (sym d) in (in_each (omega arith), b)) (let g : word t q first_word < n = s.first q h in omega arith);
      last = λ q h. word_keeps (λ u. u < m) t p w v q last_word (λ e d. let b = a (sym d) in (in_each (omega arith), b)) (let g : word t q last_word < n = s.last q h in omega arith);
      next = λ q h. word_keeps (λ u. u < m) t p w v q next_word (λ e d. let b = (x (sym d)).0 in (in_each (omega arith), b)) (let g : word t q next_word < n = s.next q h in omega arith);
      rises = λ q h. word_keeps (λ u. (u ≡ 0 → ⊥) → q < u) t p w v q next_word (λ e d. let b = x (sym d) in (in_each (omega (arith, b.0)), λ z. rw e b.1)) (s.rises q h);
      names = λ q h. word_keeps (λ u. Inside text (unpacked_name u)) t p w v q name_word (λ e d. (in_whole refl, i (sym d))) (s.names q h);
    }

-- ---- and its children in ascending order: they are told by these words
pub siblings_same : (t u : List ℕ) (n : ℕ) → ((p : ℕ) → word u p first_word ≡ word t p first_word) → ((p : ℕ) → word u p last_word ≡ word t p last_word) →
    ((p : ℕ) → word u p next_word ≡ word t p next_word) → ((p : ℕ) → word u p parent_word ≡ word t p parent_word) → Siblings t n → Siblings u n
siblings_same t u n first last next parent s =
    record {
      first = λ p z. rw (first p, parent (word t p first_word)) (s.first p (λ e. z (first p ∙ e)));
      last = λ p z. rw (last p, parent (word t p last_word)) (s.last p (λ e. z (first p ∙ e)));
      next = λ c z. rw (next c, parent (word t c next_word), parent c) (s.next c (λ e. z (next c ∙ e)));
      some = λ c a b e. s.some c a b (rw (parent c, first (word t c parent_word)) at e);
      from = λ c a b. rw (parent c, first (word t c parent_word)) (s.from c a b);
      to = λ c a b. rw (parent c, last (word t c parent_word)) (s.to c a b);
      following = λ c d a b l e z. s.following c d a b l (rw (parent c, parent d) at e) (rw (next c) at z);
      between = λ c d a b l e. rw (next c) (s.between c d a b l (rw (parent c, parent d) at e));
    }

-- ---- and sound: the places that there were keep the words of their names, and new names are UTF-8 and have their tags
pub sound_from : (text t u : List ℕ) (n m : ℕ) → Sound text t n → Linked text u m → ((p f : ℕ) → m ≤ p → word u p f ≡ 0) → Siblings u m →
    ((q : ℕ) → q < n → word u q step_word ≡ word t q step_word) → ((q : ℕ) → q < n → word u q name_word ≡ word t q name_word) → ((q : ℕ) → q < n → word u q tag_word ≡ word t q tag_word) →
    ((q : ℕ) → n ≤ q → q < m → is_utf8 (bytes_of text (unpacked_name (word u q name_word))) ≡ true) →
    ((q : ℕ) → n ≤ q → q < m → Tagged text u q) → Sound text u m
sound_from text t u n m s links blank siblings step name tag new-utf8 new-tags =
    record {
      linked = links;
      blank = blank;
      siblings = siblings;
      utf8 = λ q h. cases (ltb q n) (λ e. let l : q < n = ltb-true q n e in rw (name q l) (s.utf8 q l)) (λ e. new-utf8 q (ltb-false q n e) h);
      tags = λ q h. cases (ltb q n) (λ e. let l : q < n = ltb-true q n e in rw (step q l, name q l, tag q l) (s.tags q l)) (λ e. new-tags q (ltb-false q n e) h);
    }

-- a word that is no link and does not tell where a child stands
abbrev pub is_plain : ℕ → Bool
is_plain w = not (eqb w first_word || eqb w last_word || eqb w next_word || eqb w parent_word || eqb w step_word || eqb w name_word || eqb w tag_word)

module _ (text t : List ℕ) (n p w v : ℕ) (e : is_plain w ≡ true) where
  -- it is none of those words
  no_plain : {P : Type 0} (f : ℕ) → is_plain f ≡ false → w ≡ f → P
  no_plain f d z = absurd (false≢true (sym d ∙ rw z at e))

  -- a store there keeps all
  linked_plain : Linked text t n → Linked text (with_word t p w v) n
  linked_plain s =
      linked_stored text t n n p w v s (le_refl n) s.most (no_plain first_word refl) (no_plain last_word refl) (no_plain next_word refl) (no_plain name_word refl)

  -- at a place that is made
  pub sound_plain : p < n → Sound text t n → Sound text (with_word t p w v) n
  sound_plain h s =
      let kept : (f q : ℕ) → is_plain f ≡ false → word (with_word t p w v) q f ≡ word t q f = λ f q o. word_other t p w v q f (λ _ z. no_plain f o (sym z)) in
      sound_from text t (with_word t p w v) n n s (linked_plain s.linked)
      (λ q f l. word_other t p w v q f (λ e _. omega (arith, e)) ∙ s.blank q f l)
      (siblings_same t (with_word t p w v) n (λ q. kept first_word q refl) (λ q. kept last_word q refl) (λ q. kept next_word q refl) (λ q. kept parent_word q refl) s.siblings)
      (λ q h. kept step_word q refl) (λ q h. kept name_word q refl) (λ q h. kept tag_word q refl)
      (λ q l h. absurd (omega arith)) (λ q l h. absurd (omega arith))

-- the same of the table that a call leaves
pub linked_with : (text t u : List ℕ) (n p w v : ℕ) → u ≡ with_word t p w v → is_plain w ≡ true → Linked text t n → Linked text u n
linked_with text t u n p w v e b s = rw e (linked_plain text t n p w v b s)

pub sound_with : (text t u : List ℕ) (n p w v : ℕ) → u ≡ with_word t p w v → is_plain w ≡ true → p < n → Sound text t n → Sound text u n
sound_with text t u n p w v e b h s = rw e (sound_plain text t n p w v b h s)

-- ---- a table of zeros is that of the root alone
linked_zeros : (text : List ℕ) → Linked text zeros 1
linked_zeros text =
    record {
      most = omega arith;
      room = zeros_table;
      first = λ p h. rw (word_zero p first_word) (omega arith);
      last = λ p h. rw (word_zero p last_word) (omega arith);
      next = λ p h. rw (word_zero p next_word) (omega arith);
      rises = λ p h z. absurd (z (word_zero p next_word));
      names = λ p h. rw (word_zero p name_word) (omega arith);
    }

siblings_zeros : Siblings zeros 1
siblings_zeros =
    record {
      first = λ p z. absurd (z (word_zero p first_word));
      last = λ p z. absurd (z (word_zero p first_word));
      next = λ p z. absurd (z (word_zero p next_word));
      some = λ c a b. absurd (omega arith);
      from = λ c a b. absurd (omega arith);
      to = λ c a b. absurd (omega arith);
      following = λ c d a b l. absurd (omega arith);
      between = λ c d a b l. absurd (omega arith);
    }

pub sound_zeros : (text : List ℕ) → Sound text zeros 1
sound_zeros text =
    record {
      linked = linked_zeros text;
      blank = λ p f h. word_zero p f;
      siblings = siblings_zeros;
      utf8 = λ p h. rw (word_zero p name_word) (no_name_good text).utf8;
      tags = λ p h d. let z : word zeros p step_word ≡ 0 = word_zero p step_word in absurd (omega arith);
    }

-- ---- links and names of a place
module _ (text t : List ℕ) (n p x : ℕ) (s : Sound text t n) (h : p < n) where
  pub first_below : x ≡ word t p first_word → x < n
  first_below e = let m : n ≤ place_limit = s.linked.most in rw e (s.linked.first p (omega arith))

  pub last_below : x ≡ word t p last_word → x < n
  last_below e = let m : n ≤ place_limit = s.linked.most in rw e (s.linked.last p (omega arith))

  pub next_below : x ≡ word t p next_word → x < n
  next_below e = let m : n ≤ place_limit = s.linked.most in rw e (s.linked.next p (omega arith))

pub name_ends : (text t : List ℕ) (n p : ℕ) → Sound text t n → p < n → Inside text (unpacked_name (word t p name_word))
name_ends text t n p s h = let m : n ≤ place_limit = s.linked.most in s.linked.names p (omega arith)

-- a place that is ready is one of the table
module _ (text t : List ℕ) (n place : ℕ) (ready : Ready text t n place) where
  pub is_place : IsRow place
  is_place = let m : n ≤ place_limit = ready.sound.linked.most in let h : place < n = ready.here in omega arith

  pub has_room_lem : IsTable t
  has_room_lem = ready.sound.linked.room

-- a child's name, read from its word, ends inside the text
pub name_inside : (text t : List ℕ) (child w : ℕ) (known : Name) → Inside text (unpacked_name (word t child name_word)) →
    w ≡ word t child name_word → known ≡ unpacked_name w → Inside text known
name_inside text t child w known i a b = rw (b, a) i

-- a table is sound with one count of places alone
no_more : (text t : List ℕ) (n m : ℕ) → Sound text t n → Sound text t m → n < m → ⊥
no_more text t n m a b h =
    let z : word t 0 first_word < n = a.linked.first 0 (omega arith) in
    let l : word t 0 last_word < n = a.linked.last 0 (omega arith) in
    let p : word t (m - 1) parent_word ≡ 0 = a.blank (m - 1) parent_word (omega arith) in
    let k : m - 1 ≤ word t (word t (m - 1) parent_word) last_word = b.siblings.to (m - 1) (omega arith) (omega arith) in
    let j : m - 1 ≤ word t 0 last_word = rw p at k in
    absurd (omega arith)

pub sound_count : (text t : List ℕ) (n m : ℕ) → Sound text t n → Sound text t m → n ≡ m
sound_count text t n m a b =
    cases (ltb n m)
    (λ e. absurd (no_more text t n m a b (ltb-true n m e)))
    (λ e. cases (ltb m n)
    (λ d. absurd (no_more text t m n b a (ltb-true m n d)))
    (λ d. let l : m ≤ n = ltb-false n m e in let k : n ≤ m = ltb-false m n d in omega arith))
