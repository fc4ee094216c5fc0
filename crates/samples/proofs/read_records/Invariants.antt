-- `read_records`: from each record on the batch gives what it gives as a whole.
use Prim.Native.Nat.{◌-◌, ◌<◌}
use mathlib.Core.Path.{◌≡◌}
use lib.ListN.{length}
use Rattle.places.specs.Places.{Same}
use Rattle.samples.specs.Samples.{records_at, from_samples}
use Rattle.samples.proofs.read_records.Given as goal

abbrev pub invariant-loop-at : goal.invariant-loop-at
invariant-loop-at l = record {
  rest : records_at l.batch.commands.now l.batch.text.now l.batch.options.word l.at l.places.count l.places.table.now
      ≡ from_samples l.batch.commands.now l.batch.text.now l.batch.options.word l.fn.places.table.now;
  here : 0 < l.places.count;
  text : l.places.text.now ≡ l.batch.text.now;
  same : Same l.fn.places l.places;
}

abbrev pub decreases-loop-at : goal.decreases-loop-at
decreases-loop-at l = length l.batch.commands.now - l.at
