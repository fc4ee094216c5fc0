-- What holds of every element of a list, and tests on its elements.
use Rattle.std.specs.Prelude.{Bool, false, ◌||◌, List, [], ◌∷◌}

-- P of every element
abbrev pub All : {A : Type 0} → (A → Type 0) → List A → Type 0
All P [] = Unit {0}
All P (x ∷ xs) = P x × All P xs

-- an element that passes the test is there
unfoldable pub has : {A : Type 0} → (A → Bool) → List A → Bool
has p [] = false
has p (x ∷ xs) = p x || has p xs
