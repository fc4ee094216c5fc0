-- `utf8::past_ascii` passes a block a turn, and at the end those of the last eight bytes that are behind the blocks.
use mathlib.Core.Path.{◌≡◌}
use Prim.Native.Nat.{◌-◌, ◌≤◌}
use lib.ListN.{length, drop}
use Rattle.text.specs.Utf8.{is_utf8}
use Rattle.text.proofs.utf8.past_ascii.Given as goal

abbrev pub invariant-loop-i : goal.invariant-loop-i
invariant-loop-i l = (l.i ≤ length l.bytes) × (is_utf8 (drop l.i l.bytes) ≡ is_utf8 l.bytes)

abbrev pub decreases-loop-i : goal.decreases-loop-i
decreases-loop-i l = length l.bytes - l.i

abbrev pub invariant-loop-i-2 : goal.invariant-loop-i-2
invariant-loop-i-2 l = (l.i ≤ length l.bytes) × (is_utf8 (drop l.i l.bytes) ≡ is_utf8 l.bytes)

abbrev pub decreases-loop-i-2 : goal.decreases-loop-i-2
decreases-loop-i-2 l = length l.bytes - l.i
