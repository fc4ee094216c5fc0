-- The children of a place as a list, in the order in which they are visited.
use Rattle.std.specs.Prelude.{Bool, true, false, List, [], ◌∷◌, ℕ, zero, suc, eqb}
use Rattle.places.specs.declared.Children.{Children}
use Rattle.places.specs.Reading.{child_limit, next_child}

-- the children from one on, at most so many
unfoldable pub children_from : List ℕ → Bool → ℕ → ℕ → ℕ → ℕ → List ℕ
children_from t sorted kind place zero child = []
children_from t sorted kind place (suc left) child =
    elim (eqb child 0) [
      | true ↦ []
      | false ↦ child ∷ children_from t sorted kind place left (next_child t sorted kind place child)
    ]

-- all of them
abbrev pub children_of : List ℕ → Bool → ℕ → ℕ → List ℕ
children_of t sorted kind place = children_from t sorted kind place child_limit (next_child t sorted kind place 0)

-- those that an iterator has left
abbrev pub children_left : Children → List ℕ
children_left s = children_from s.table.now s.sorted s.kind s.place s.left s.next
