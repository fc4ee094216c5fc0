-- How the tree of places stands in the work table, and what is always true of it.
use Rattle.std.specs.Prelude.{◌≡◌, true, List, ℕ, ◌+◌, ◌<◌, ◌≤◌}
use Rattle.text.specs.Name.{bytes_of}
use Rattle.text.specs.Tag.{tag_of}
use Rattle.text.specs.Utf8.{is_utf8}
use Rattle.words.specs.Word.{word, IsTable, IsRow}
use Rattle.model.specs.Tracing.{place_limit}
use Rattle.shapes.specs.Steps.{field_code, unpacked_name, Inside}

-- Words 6 to 13 are links (`is_link` of words), two to a word of the row: 6 with 7, 8 with 9, 10 with 11, 12 with 13.
--
-- A place's own words, which whoever reads a value at the place writes: 0, 1 and 2 are free; kind, nullable byte (`Nullable`), samples;
-- first and last child.
abbrev pub kind_word : ℕ
kind_word = 3

abbrev pub nullable_word : ℕ
nullable_word = 4

abbrev pub samples_word : ℕ
samples_word = 5

abbrev pub first_word : ℕ
first_word = 6

abbrev pub last_word : ℕ
last_word = 7

-- and, once its children are put in order, the first of them
abbrev pub ordered_first_word : ℕ
ordered_first_word = 8

-- before that: the root of the search tree of its numbered children (`search`)
abbrev pub root_word : ℕ
root_word = 8

-- how many positions stand in a block: its first so many children are positions 0, 1, 2, .., each with the place number
-- after the one before. It is kept as a link is: a tuple's positions are counted in 16 bits.
abbrev pub block_word : ℕ
block_word = 9

-- From here on, its words as a child, which whoever reads its parent's parts writes: its links in the search tree of the
-- parent's numbered children, by a bit of its code.
abbrev pub left_word : ℕ
left_word = 10

abbrev pub right_word : ℕ
right_word = 11

-- and, where the right link stood, once it is put in order, the next of its siblings
abbrev pub ordered_next_word : ℕ
ordered_next_word = 11

-- next child and parent; step, name, how many samples held it, the last of them
abbrev pub next_word : ℕ
next_word = 12

abbrev pub parent_word : ℕ
parent_word = 13

abbrev pub step_word : ℕ
step_word = 14

abbrev pub name_word : ℕ
name_word = 15

abbrev pub held_word : ℕ
held_word = 16

abbrev pub mark_word : ℕ
mark_word = 17

-- the tag of its name, of which equal names have the same, and its position among its siblings; a tuple's positions that are made at
-- once have neither
abbrev pub tag_word : ℕ
tag_word = 18

abbrev pub position_word : ℕ
position_word = 19

-- the root's number; no place has it as a child, so that where a child is linked it stands for none
abbrev pub root_place : ℕ
root_place = 0

-- more turns than a search from child to child, or from link to link, takes
abbrev pub turn_limit : ℕ
turn_limit = place_limit + 1

-- What is true of a table with n places: first, last and next child are places, a next child has a higher number, and names end inside the
-- text.
pub record Linked (text t : List ℕ) (n : ℕ) : Type 0 where
  pub most : n ≤ place_limit
  pub room : IsTable t
  pub first : (p : ℕ) → IsRow p → word t p first_word < n
  pub last : (p : ℕ) → IsRow p → word t p last_word < n
  pub next : (p : ℕ) → IsRow p → word t p next_word < n
  pub rises : (p : ℕ) → IsRow p → (word t p next_word ≡ 0 → ⊥) → p < word t p next_word
  pub names : (p : ℕ) → IsRow p → Inside text (unpacked_name (word t p name_word))

-- A place's children are the places that have it as their parent, in ascending order.
pub record Siblings (t : List ℕ) (n : ℕ) : Type 0 where
  -- the first, the last and the next child have that parent
  pub first : (p : ℕ) → (word t p first_word ≡ 0 → ⊥) → word t (word t p first_word) parent_word ≡ p
  pub last : (p : ℕ) → (word t p first_word ≡ 0 → ⊥) → word t (word t p last_word) parent_word ≡ p
  pub next : (c : ℕ) → (word t c next_word ≡ 0 → ⊥) → word t (word t c next_word) parent_word ≡ word t c parent_word
  -- whoever has a parent stands from its first child to its last
  pub some : (c : ℕ) → 0 < c → c < n → word t (word t c parent_word) first_word ≡ 0 → ⊥
  pub from : (c : ℕ) → 0 < c → c < n → word t (word t c parent_word) first_word ≤ c
  pub to : (c : ℕ) → 0 < c → c < n → c ≤ word t (word t c parent_word) last_word
  -- and none between a child and the next
  pub following : (c d : ℕ) → 0 < c → c < d → d < n → word t c parent_word ≡ word t d parent_word → word t c next_word ≡ 0 → ⊥
  pub between : (c d : ℕ) → 0 < c → c < d → d < n → word t c parent_word ≡ word t d parent_word → word t c next_word ≤ d

-- once it is traced, however many places there are
abbrev pub Settled : List ℕ → List ℕ → Type 0
Settled text t = Linked text t place_limit

-- the tag of a field is its name's
abbrev pub Tagged : List ℕ → List ℕ → ℕ → Type 0
Tagged text t p = word t p step_word ≡ field_code → word t p tag_word ≡ tag_of (bytes_of text (unpacked_name (word t p name_word)))

-- and while it is traced also: words of places that are not made yet are zero, children stand in ascending order, names are UTF-8, and
-- fields have their tags
pub record Sound (text t : List ℕ) (n : ℕ) : Type 0 where
  pub linked : Linked text t n
  pub blank : (p f : ℕ) → n ≤ p → word t p f ≡ 0
  pub siblings : Siblings t n
  pub utf8 : (p : ℕ) → p < n → is_utf8 (bytes_of text (unpacked_name (word t p name_word))) ≡ true
  pub tags : (p : ℕ) → p < n → Tagged text t p

-- and that place is one of them
pub record Ready (text t : List ℕ) (n place : ℕ) : Type 0 where
  pub sound : Sound text t n
  pub here : place < n
