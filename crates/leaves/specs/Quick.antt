-- A primitive by the quick way: a null, which only marks its place, and a value of the type that is there, which changes nothing.
use Rattle.std.specs.Prelude.{Bool, ◌&&◌, List, ℕ, eqb, ltb, length, get_or, Option, Some, None}
use Rattle.logic.specs.Test.{when◌then◌else◌}
use Rattle.words.specs.Word.{word}
use Rattle.shapes.specs.declared.Leaf.{Leaf}
use Rattle.shapes.specs.Leaf.{is_own_byte, leaf_at}
use Rattle.places.specs.Layout.{kind_word}
use Rattle.places.specs.Nullable.{with_null}
use Rattle.leaves.specs.Marks.{Chain, chain}

-- a value of one byte, of the type that is there
unfoldable pub same_at : List ℕ → ℕ → ℕ → List ℕ → Bool
same_at commands at place t =
    ltb at (length commands) && eqb (get_or commands at 0) (word t place kind_word) && is_own_byte (word t place kind_word)

-- the offset behind it and the table then; the offset is 0 where it is neither, and so for a value that is marked
abbrev pub quick_leaf : ℕ → List ℕ → Option Leaf → Chain
quick_leaf place t (Some leaf) =
    when leaf.null then chain leaf.next (with_null place t)
    else when eqb (word t place kind_word) leaf.kind then chain leaf.next t
    else chain 0 t
quick_leaf place t None = chain 0 t

unfoldable pub quick_at : ℕ → List ℕ → List ℕ → ℕ → ℕ → List ℕ → Chain
quick_at options commands text at place t = quick_leaf place t (leaf_at options commands text at)
