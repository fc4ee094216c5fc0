-- `utf8::are_ascii` looks at one byte after another: before each turn it tells of as many as turns were made.
use mathlib.Core.Path.{◌≡◌}
use Prim.Native.Nat.{◌-◌, ◌≤◌}
use Rattle.text.specs.Block.{any_from, is_high}
use Rattle.text.proofs.utf8.are_ascii.Given as goal

abbrev pub invariant-loop-i : goal.invariant-loop-i
invariant-loop-i l = (l.high ≡ any_from (is_high l.bytes) l.at l.i) × (l.i ≤ l.count)

abbrev pub decreases-loop-i : goal.decreases-loop-i
decreases-loop-i l = l.count - l.i
