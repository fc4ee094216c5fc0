-- Which places are widened, under any options (document 02, 1/14).
use Rattle.std.specs.Prelude.{◌≡◌, Bool, true, false, List, [], ◌∷◌, ℕ}
use Rattle.model.specs.Result.{accepted}
use Rattle.model.specs.Kinds.{is_container, Step}
use Rattle.model.specs.Reading.{Value}
use Rattle.model.specs.Tracing.{Marks, Tree, marks_of, kind_of, kids_of, fresh, kid_at}
use Rattle.model.specs.Unbounded.{see_all}
use Rattle.model.specs.Emission.{Field, mk, place_of, field_of}
use Rattle.model.specs.Census.{standing, kinds_seen, is_widened}

-- the place at the end of the steps down from a place, unseen where there is none
unfoldable pub place_at : List Step → Tree → Tree
place_at [] tree = tree
place_at (s ∷ steps) tree = place_at steps (kid_at s (kids_of tree))

-- the marks of a field
abbrev pub marks_in : Field → Marks
marks_in (mk type m strategy number name fs) = m

-- of values that are traced, the place at the end of any steps down from the root
pub record WidenedPlaces : Type 0 where
  -- is widened exactly "where a place saw two different non-null primitive types", read off the values that stand there
  pub seen : (options : ℕ) (values : List Value) (tree : Tree) (steps : List Step) → see_all options 0 values fresh ≡ accepted tree
      → (marks_of (place_at steps tree)).widened ≡ is_widened (kinds_seen (standing steps values))
  -- never is where it is a container: a type seen there would have refused the container, and the container refuses each that comes later
  pub container : (options : ℕ) (values : List Value) (tree : Tree) (steps : List Step) → see_all options 0 values fresh ≡ accepted tree
      → is_container (kind_of (place_at steps tree)) ≡ true → (marks_of (place_at steps tree)).widened ≡ false
  -- nor is its field then, by whatever name: "Dictionaries made from enums never carry the mark"; the field of an enum is a Union, or
  -- under option 9 a dictionary
  pub field : (options : ℕ) (values : List Value) (tree : Tree) (steps : List Step) → see_all options 0 values fresh ≡ accepted tree
      → is_container (kind_of (place_at steps tree)) ≡ true → (name : List ℕ) (number : ℕ) (missing : Bool)
      → (marks_in (field_of options name number (place_of missing (place_at steps tree)))).widened ≡ false
