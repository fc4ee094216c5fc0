-- The model's tree as the words of the table say it, and the outcome of a flat run.
use Rattle.std.specs.Prelude.{true, false, List, ◌-◌, ℕ, zero, suc, ◌*◌, ◌/◌, ◌%◌, eqb, Ok, Err}
use Rattle.logic.specs.Test.{when◌then◌else◌}
use Rattle.refusal.specs.Number.{number_of}
use Rattle.text.specs.Name.{bytes_of}
use Rattle.words.specs.Word.{word}
use Rattle.model.specs.Result.{Result, refused}
use Rattle.model.specs.Kinds.{Step, field, element, position, key, value, variant}
use Rattle.model.specs.Tracing.{Marks, marks, Tree, node, Kids, no_kids, kid, fresh, place_limit, Counted, counted}
use Rattle.shapes.specs.Steps.{field_code, unpacked_name}
use Rattle.places.specs.Layout.{kind_word, nullable_word, samples_word, first_word, next_word, step_word, name_word, held_word, root_place}
use Rattle.places.specs.Nullable.{is_null, is_widened}
use Rattle.leaves.specs.Leaves.{Out, out}

-- a step by its word and its name: 0 element, 1 key, 2 value, 3 field, then positions and variants by turns
unfoldable pub step_by : ℕ → List ℕ → Step
step_by code name =
    when eqb code 0 then element
    else when eqb code 1 then key
    else when eqb code 2 then value
    else when eqb code field_code then field name
    else when eqb (code % 2) 0 then position ((code - 4) / 2)
    else variant ((code - 5) / 2) name

abbrev pub step_at : List ℕ → List ℕ → ℕ → Step
step_at text t p = step_by (word t p step_word) (bytes_of text (unpacked_name (word t p name_word)))

-- the marks of a place by its nullable byte
abbrev pub marks_by : ℕ → Marks
marks_by byte = marks (is_null byte) (is_widened byte)

-- the tree from a place on, and its siblings' from a child on; the first number bounds how deep the reading goes
unfoldable mutual
  pub tree_at : ℕ → List ℕ → List ℕ → ℕ → Tree
  tree_at zero text t p = fresh
  tree_at (suc deep) text t p =
      node (marks_by (word t p nullable_word)) (word t p kind_word) (word t p samples_word) (kids_at deep text t (word t p first_word))

  pub kids_at : ℕ → List ℕ → List ℕ → ℕ → Kids
  kids_at zero text t c = no_kids
  kids_at (suc deep) text t c =
      elim (eqb c 0) [
        | true ↦ no_kids
        | false ↦ kid (step_at text t c) (word t c held_word) (tree_at deep text t c) (kids_at deep text t (word t c next_word))
      ]

unfoldable pub tree_of : List ℕ → List ℕ → Tree
tree_of text t = tree_at (2 * place_limit) text t root_place

-- a refusal by its number and place, or the count of places and the tree
unfoldable pub outcome : List ℕ → Out → Result (Counted Tree)
outcome text (out (Ok to) t) = counted to.count (tree_of text t)
outcome text (out (Err r) t) = refused (number_of r.refusal) r.place
