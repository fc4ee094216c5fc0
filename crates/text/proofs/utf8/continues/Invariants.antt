-- `continues` counts down: what is left to count is at the bytes that are left what the count is at the offset.
use mathlib.Core.Path.{◌≡◌}
use Prim.Native.Nat.{◌≤◌}
use lib.ListN.{length, drop, replicate}
use Rattle.text.specs.Due.{begins, trailing}
use Rattle.text.proofs.utf8.continues.Given as goal

abbrev pub invariant-loop-left : goal.invariant-loop-left
invariant-loop-left l = (l.i ≤ length l.bytes) × (begins (replicate l.left trailing) (drop l.i l.bytes) ≡ begins (replicate l.count trailing) (drop l.at l.bytes))

abbrev pub decreases-loop-left : goal.decreases-loop-left
decreases-loop-left l = l.left
