-- `past_blocks`: from behind each block on the run ends where it does as a whole.
use mathlib.Core.Path.{◌≡◌}
use Prim.Native.Nat.{◌-◌}
use lib.ListN.{length}
use Rattle.runs.specs.Runs.{behind_run}
use Rattle.runs.proofs.past_blocks.Given as goal

abbrev pub invariant-loop-here : goal.invariant-loop-here
invariant-loop-here l = behind_run l.commands l.byte l.here ≡ behind_run l.commands l.byte l.at

abbrev pub decreases-loop-here : goal.decreases-loop-here
decreases-loop-here l = length l.commands - l.here
