-- The commands 10 and 11 before a value, of which 10 marks the place nullable.
use Rattle.std.specs.Prelude.{Bool, ◌||◌, List, ℕ, ◌+◌, eqb, ltb, length, get_or}
use Rattle.logic.specs.Test.{when◌then◌else◌}
use Rattle.logic.specs.Turns.{Turn, again, done, turns}
use Rattle.places.specs.Nullable.{with_null}

-- ---- past the commands 10 and 11, of which 10 marks the place
abbrev pub some_byte : ℕ
some_byte = 0x10

abbrev pub newtype_byte : ℕ
newtype_byte = 0x11

pub data Chain : Type 0 where
  chain : ℕ → List ℕ → Chain

abbrev pub is_mark : ℕ → Bool
is_mark byte = eqb byte some_byte || eqb byte newtype_byte

unfoldable pub marked : ℕ → ℕ → List ℕ → List ℕ
marked byte place t = when eqb byte some_byte then with_null place t else t

unfoldable pub past_turn : List ℕ → ℕ → Chain → Turn Chain Chain
past_turn commands place (chain at t) =
    when ltb at (length commands)
    then (when is_mark (get_or commands at 0) then again (chain (at + 1) (marked (get_or commands at 0) place t)) else done (chain at t))
    else done (chain at t)

unfoldable pub past_marks : List ℕ → ℕ → ℕ → List ℕ → Chain
past_marks commands at place t = turns (past_turn commands place) (λ s. s) (length commands + 1) (chain at t)
