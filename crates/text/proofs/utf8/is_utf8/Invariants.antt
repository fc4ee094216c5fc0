-- `utf8::is_utf8` takes a sequence a turn: what is left is UTF-8 exactly where the whole is.
use mathlib.Core.Path.{◌≡◌}
use Prim.Native.Nat.{◌-◌, ◌≤◌}
use lib.ListN.{length, drop}
use Rattle.text.specs.Utf8.{is_utf8}
use Rattle.text.proofs.utf8.is_utf8.Given as goal

abbrev pub invariant-loop-i : goal.invariant-loop-i
invariant-loop-i l = (l.i ≤ length l.bytes) × (is_utf8 (drop l.i l.bytes) ≡ is_utf8 l.bytes)

abbrev pub decreases-loop-i : goal.decreases-loop-i
decreases-loop-i l = length l.bytes - l.i
