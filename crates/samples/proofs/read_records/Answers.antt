-- `read_records`: from each record on the batch gives what it gives as a whole.
use Rattle.std.specs.Prelude.{◌≡◌, ℕ, Result, Ok, Err}
use Rattle.std.proofs.Common.{rules}
use Rattle.refusal.specs.declared.Refused.{Refused}
use Rattle.leaves.specs.Leaves.{counted, traced_to}
use Rattle.samples.specs.laws.Samples.{records_end, records_stopped, records_more, records_less}
use Rattle.samples.proofs.read_records.Goals as goal

-- a record's answer, with the count of places beside it
module _ (r : Result ℕ Refused) (m : ℕ) where
  was_next : (next : ℕ) → r ≡ Ok next → counted r m ≡ traced_to next m
  was_next next is = rw is

  was_stopped : (x : Refused) → r ≡ Err x → counted r m ≡ Err x
  was_stopped x is = rw is

pub loop-at-smaller : goal.loop-at-smaller
loop-at-smaller c = records_less _ _ _ _ _ _ _ _ _ (search rules) c.read_value.ensures.read _ (was_next _ _ _ c.in_ok-at.was)

pub loop-at-preserved : goal.loop-at-preserved
loop-at-preserved c =
    record {
      rest = records_more _ _ _ _ _ _ _ c.loop-at.invariant.rest (search rules) _ _ c.read_value.ensures.read _ (was_next _ _ _ c.in_ok-at.was);
      here = search rules;
      text = search rules;
      same = search rules;
    }

pub returns-in_err-at : goal.returns-in_err-at
returns-in_err-at c =
    record {
      read = records_stopped _ _ _ _ _ _ _ c.loop-at.invariant.rest (search rules) _ _ c.read_value.ensures.read _ _
          (was_stopped _ _ _ c.in_err-at.was) (was_stopped _ _ _ (search rules));
      same = search rules;
    }

pub returns : goal.returns
returns c = record { read = search (records_end, rules); same = search rules }
