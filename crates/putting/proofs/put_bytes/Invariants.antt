-- `put_bytes` copies where there is room: what stands after some turns is the buffer with as many bytes written.
use Rattle.std.proofs.Common.{◌≡◌, length}
use Rattle.std.proofs.Math.Seq.{paste}
use Rattle.putting.proofs.put_bytes.Given as goal

abbrev pub invariant-loop-i : goal.invariant-loop-i
invariant-loop-i l = (length l.buffer ≡ length l.initial.buffer) × (l.buffer ≡ paste l.initial.buffer l.at l.bytes l.i)
