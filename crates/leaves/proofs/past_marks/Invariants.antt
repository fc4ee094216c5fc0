-- `past_marks`: from each command on the marks are what they are as a whole.
use mathlib.Core.Path.{◌≡◌}
use lib.ListN.{length}
use Rattle.leaves.specs.Marks.{past_marks}
use Rattle.leaves.proofs.past_marks.Given as goal

abbrev pub invariant-loop-here : goal.invariant-loop-here
invariant-loop-here l = (past_marks l.commands l.here l.place l.table ≡ past_marks l.commands l.at l.place l.initial.table) × (length l.table ≡ length l.initial.table)
