-- `find_linked`: from each child on the search gives what the whole gives.
use mathlib.Core.Path.{◌≡◌}
use mathlib.Core.List.{List}
use Prim.Native.Nat.{ℕ, ◌<◌}
use Rattle.words.specs.Word.{word}
use Rattle.shapes.specs.Steps.{field_code}
use Rattle.places.specs.Layout.{parent_word}
use Rattle.search.specs.Search.{find_from, find_in}
use Rattle.search.specs.laws.Search.{children_left}
use Rattle.search.proofs.find_linked.Given as goal

-- a child has the place as its parent
abbrev pub Child : List ℕ → ℕ → ℕ → Type 0
Child t place child = (child ≡ 0 → ⊥) → word t child parent_word ≡ place

abbrev pub invariant-loop-link : goal.invariant-loop-link
invariant-loop-link l = (find_from l.text field_code l.name l.table l.link ≡ find_in l.text l.place field_code l.name l.table) × (l.link < l.count) × Child l.table l.place l.link

abbrev pub decreases-loop-link : goal.decreases-loop-link
decreases-loop-link l = children_left l.link
