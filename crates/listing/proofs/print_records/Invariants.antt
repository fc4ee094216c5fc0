-- `print_records` goes from record to record; a level is never above the number of records passed.
use Rattle.std.proofs.Common.{◌≤◌}
use Rattle.listing.proofs.print_records.Given as goal

abbrev pub invariant-loop-record : goal.invariant-loop-record
invariant-loop-record g l = l.levels.level ≤ l.record-index
