-- Elements of a sequence that change nothing: the present sample holds one already, and they are of the type that it has.
use Rattle.std.specs.Prelude.{Bool, true, not, ◌&&◌, List, [], ◌∷◌, ℕ, zero, suc, ◌+◌, eqb, get_or, drop}
use Rattle.logic.specs.Test.{when◌then◌else◌}
use Rattle.words.specs.Word.{word}
use Rattle.shapes.specs.declared.Step.TheVariants as S
use Rattle.shapes.specs.Steps.{code_of, no_name, packed_name}
use Rattle.places.specs.Layout.{kind_word, samples_word, first_word, step_word, name_word, mark_word}
use Rattle.shapes.specs.Leaf.{is_own_byte}

-- the child is an element that the place's present sample holds
unfoldable pub is_held : ℕ → ℕ → List ℕ → Bool
is_held place child t =
    not (eqb child 0)
    && eqb (word t child step_word) (code_of S.Element)
    && eqb (word t child name_word) (packed_name no_name)
    && eqb (word t child mark_word) (word t place samples_word)

-- how many bytes there are of one sort
unfoldable pub run_of : ℕ → List ℕ → ℕ
run_of byte [] = 0
run_of byte (b ∷ bs) = when eqb b byte then suc (run_of byte bs) else 0

-- the offset behind such elements
unfoldable pub behind_run : List ℕ → ℕ → ℕ → ℕ
behind_run commands byte at = at + run_of byte (drop at commands)

-- so many commands are looked at together; where the run ends is the same
abbrev pub block_length : ℕ
block_length = 16

-- so many commands, from an offset on, are that byte
unfoldable pub are_all : List ℕ → ℕ → ℕ → ℕ → Bool
are_all commands byte at zero = true
are_all commands byte at (suc count) = are_all commands byte at count && eqb (get_or commands (at + count) 0) byte

unfoldable pub past_held : List ℕ → ℕ → ℕ → ℕ
past_held commands kind at = when is_own_byte kind then behind_run commands kind at else at

unfoldable pub past_same : List ℕ → ℕ → ℕ → List ℕ → ℕ
past_same commands at place t =
    when is_held place (word t place first_word) t then past_held commands (word t (word t place first_word) kind_word) at else at
