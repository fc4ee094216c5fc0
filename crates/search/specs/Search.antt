-- The child of a place at a step, found in the words of the table.
use Rattle.std.specs.Prelude.{Bool, true, false, ◌&&◌, List, ℕ, ◌+◌, eqb, ltb}
use Rattle.logic.specs.Test.{when◌then◌else◌}
use Rattle.logic.specs.Turns.{Turn, again, done, turns}
use Rattle.text.specs.declared.Name.{Name}
use Rattle.text.specs.Name.{bytes_of, eq_name}
use Rattle.words.specs.Word.{word}
use Rattle.shapes.specs.declared.Step.{Step}
use Rattle.shapes.specs.declared.Step.TheVariants as S
use Rattle.shapes.specs.Steps.{field_code, code_of, no_name, unpacked_name, Inside}
use Rattle.places.specs.Layout.{first_word, block_word, next_word, step_word, name_word, turn_limit}
use Rattle.search.specs.Tree.{seek}

-- what is asked where the name of a child is compared: both names lie in the text
abbrev pub Comparable : List ℕ → List ℕ → Name → ℕ → Type 0
Comparable text t name child = Inside text name × Inside text (unpacked_name (word t child name_word))

-- ---- the child at a step, in first_seen order; 0 for none
unfoldable pub is_at : List ℕ → ℕ → Name → ℕ → List ℕ → Bool
is_at text code name child t =
    when eqb (word t child step_word) code
    then (when eqb code field_code then eq_name (bytes_of text (unpacked_name (word t child name_word))) (bytes_of text name) else true)
    else false

unfoldable pub find_turn : List ℕ → ℕ → Name → List ℕ → ℕ → Turn ℕ ℕ
find_turn text code name t child =
    when eqb child 0 then done 0
    else when is_at text code name child t then done child
    else again (word t child next_word)

-- from a child on
unfoldable pub find_from : List ℕ → ℕ → Name → List ℕ → ℕ → ℕ
find_from text code name t child = turns (find_turn text code name t) (λ c. 0) turn_limit child

abbrev pub find_in : List ℕ → ℕ → ℕ → Name → List ℕ → ℕ
find_in text place code name t = find_from text code name t (word t place first_word)

-- a position in the place's block stands by its number, any other numbered child is found in the search tree, the others from sibling to
-- sibling
unfoldable pub in_block : ℕ → ℕ → ℕ → List ℕ → Bool
in_block place i n t = ltb i (word t place block_word) && ltb (word t place first_word + i) n

unfoldable pub child_at : List ℕ → ℕ → Step → ℕ → List ℕ → ℕ
child_at text place S.Element n t = find_in text place (code_of S.Element) no_name t
child_at text place S.Key n t = find_in text place (code_of S.Key) no_name t
child_at text place S.Value n t = find_in text place (code_of S.Value) no_name t
child_at text place (S.Field name) n t = find_in text place field_code name t
child_at text place (S.Position i) n t =
    when in_block place i n t then word t place first_word + i else (seek place (code_of (S.Position i)) n t).child
child_at text place (S.Variant number name) n t = (seek place (code_of (S.Variant number name)) n t).child
