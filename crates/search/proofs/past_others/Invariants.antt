-- `past_others`: from each group on it comes to where it comes from the first on.
use mathlib.Core.Path.{◌≡◌}
use Prim.Native.Nat.{◌-◌, ◌/◌, ◌≤◌}
use Rattle.search.specs.Scan.{many_places, past_others}
use Rattle.search.proofs.past_others.Given as goal

abbrev pub invariant-loop-here : goal.invariant-loop-here
invariant-loop-here l = (past_others l.tag l.table l.here ((l.last - l.here) / many_places) ≡ past_others l.tag l.table l.from ((l.last - l.from) / many_places)) × (l.here ≤ l.last)

abbrev pub decreases-loop-here : goal.decreases-loop-here
decreases-loop-here l = l.last - l.here
