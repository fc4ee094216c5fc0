-- The field of a place with a name, found among places by number: a place's children stand in ascending order, so that the first of them
-- by number is the first in first_seen order.
use Rattle.std.specs.Prelude.{◌≡◌, Bool, not, ◌&&◌, List, ℕ, zero, suc, ◌+◌, ◌*◌, ◌<◌, ◌≤◌, eqb, ltb}
use Rattle.logic.specs.Test.{when◌then◌else◌}
use Rattle.text.specs.declared.Name.{Name}
use Rattle.words.specs.Word.{word, has_among}
use Rattle.shapes.specs.Steps.{field_code}
use Rattle.places.specs.Layout.{parent_word, step_word, tag_word, position_word}
use Rattle.search.specs.Search.{is_at, find_from, find_in}

-- so many places are looked at together, and so many where children stand far apart; what is found is the same
abbrev pub few_places : ℕ
few_places = 8

abbrev pub many_places : ℕ
many_places = 16

-- what is tested before the names are compared: a child of the place is a field, and has that tag
unfoldable pub is_tagged : ℕ → ℕ → ℕ → List ℕ → Bool
is_tagged place tag child t =
    eqb (word t child tag_word) tag
    && not (eqb child 0)
    && eqb (word t child parent_word) place
    && eqb (word t child step_word) field_code

-- a child of the place is its field with that name; the root, place 0, is nobody's child
unfoldable pub is_field : List ℕ → ℕ → Name → ℕ → List ℕ → Bool
is_field text place name child t = is_at text field_code name child t && (not (eqb child 0) && eqb (word t child parent_word) place)

-- the first of so many places, from one on, that is; 0 where none is
unfoldable pub field_among : List ℕ → ℕ → Name → List ℕ → ℕ → ℕ → ℕ
field_among text place name t from zero = 0
field_among text place name t from (suc count) =
    when is_field text place name from t then from else field_among text place name t (from + 1) count

-- where the first of so many groups of sixteen starts, from a place on, in which one has that tag; where they end if none has
unfoldable pub past_others : ℕ → List ℕ → ℕ → ℕ → ℕ
past_others tag t from zero = from
past_others tag t from (suc groups) =
    when has_among t from many_places tag_word tag then from else past_others tag t (from + many_places) groups

-- fewer than one in sixteen of that many places up to the last child are children: its position tells how many stand before it
unfoldable pub is_sparse : ℕ → ℕ → List ℕ → Bool
is_sparse span last t = ltb (word t last position_word * many_places) span

-- The places before one are passed: the next child is the first of those that stand there or behind, 0 where none does, and from it on
-- the search from child to child finds what it finds from the first on.
pub record Passed (text t : List ℕ) (n place : ℕ) (name : Name) (here : ℕ) : Type 0 where
  pub next : ℕ
  pub below : next < n
  pub behind : (next ≡ 0 → ⊥) → here ≤ next
  pub child : (next ≡ 0 → ⊥) → word t next parent_word ≡ place
  pub some : (c : ℕ) → 0 < c → here ≤ c → c < n → word t c parent_word ≡ place → next ≡ 0 → ⊥
  pub least : (c : ℕ) → 0 < c → here ≤ c → c < n → word t c parent_word ≡ place → next ≤ c
  pub same : find_from text field_code name t next ≡ find_in text place field_code name t
