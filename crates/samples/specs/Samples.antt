-- All records of a batch at the root (from_samples/mod.rs), which is the one place that there is at first: a value each, read with twenty
-- levels left.
use Rattle.std.specs.Prelude.{◌≡◌, List, ℕ, ◌+◌, ltb, length, Result}
use Rattle.logic.specs.Test.{when◌then◌else◌}
use Rattle.logic.specs.Turns.{Turn, done, turns}
use Rattle.places.specs.Layout.{root_place}
use Rattle.refusal.specs.declared.Refused.{Refused}
use Rattle.places.specs.declared.Places.{Places}
use Rattle.places.specs.Places.{Same}
use Rattle.leaves.specs.declared.Batch.{Batch}
use Rattle.leaves.specs.Leaves.{traced_to, counted, Out, out}
use Rattle.reading.specs.Reading.{State, after_part, state, value_at}

abbrev pub level_limit : ℕ
level_limit = 20

unfoldable pub record_turn : List ℕ → List ℕ → ℕ → State → Turn State Out
record_turn commands text options (state i at n t) =
    when ltb at (length commands) then after_part i (value_at commands text options level_limit at root_place n t)
    else done (out (traced_to at n) t)

abbrev pub record_stop : State → Out
record_stop (state i at n t) = out (traced_to at n) t

unfoldable pub records_at : List ℕ → List ℕ → ℕ → ℕ → ℕ → List ℕ → Out
records_at commands text options at n t = turns (record_turn commands text options) record_stop (length commands + 1) (state 0 at n t)

abbrev pub from_samples : List ℕ → List ℕ → ℕ → List ℕ → Out
from_samples commands text options t = records_at commands text options 0 1 t

-- what is promised where all records of a batch are read, with the count of places beside the answer
pub record ReadsAll (batch : Batch) (o p : Places) (r : Result ℕ Refused) : Type 0 where
  pub read : out (counted r p.count) p.table.now ≡ from_samples batch.commands.now batch.text.now batch.options.word o.table.now
  pub same : Same o p
