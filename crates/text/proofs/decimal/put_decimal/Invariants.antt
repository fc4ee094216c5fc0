-- `put_decimal` writes digits from the last to the first: the buffer with what is left written is the buffer with all written.
use mathlib.Core.Path.{◌≡◌}
use Prim.Native.Nat.{◌+◌, ◌≤◌}
use lib.ListN.{length}
use Rattle.logic.specs.Buffer.{written}
use Rattle.text.specs.Decimal.{decimal}
use Rattle.text.proofs.decimal.put_decimal.Given as goal

abbrev pub invariant-loop-left : goal.invariant-loop-left
invariant-loop-left l = (l.i ≡ l.at + length (decimal l.left)) × (l.i ≤ length l.out) × (length l.out ≡ length l.initial.out) × (written l.out l.at (decimal l.left) ≡ written l.initial.out l.at (decimal l.n))

abbrev pub decreases-loop-left : goal.decreases-loop-left
decreases-loop-left l = l.left
