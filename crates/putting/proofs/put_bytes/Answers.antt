-- `put_bytes` copies where there is room: what stands after some turns is the buffer with as many bytes written.
use Rattle.std.proofs.Common.{◌≡◌, ap, ℕ, ◌+◌, ◌-◌, ◌<◌, ◌≤◌, List, length, get_or, set, take, drop, arith, append_assoc, length-set, le-ltb}
use native.Mathlib.Numerals.{add-one}
use Rattle.std.proofs.Math.Seq.{paste, paste-suc, take-length}
use Rattle.logic.specs.Test.{when◌then◌else◌}
use Rattle.logic.specs.Buffer.{written}
use Rattle.putting.specs.Put.{put, put_bytes}
use Rattle.putting.proofs.put_bytes.Goals as goal

module _ (bytes before buffer : List ℕ) (at i : ℕ) (p : buffer ≡ paste before at bytes i) where
  copied : i < length bytes → at + i < length before → set buffer (at + i) (get_or bytes i 0) ≡ paste before at bytes (i + 1)
  copied h k = rw (p, add-one i) (paste-suc before at bytes i 0 k h)

  all_copied : i ≡ length bytes → buffer ≡ written before at bytes
  all_copied e = rw (p, e, take-length bytes) (append_assoc (take at before) bytes (drop (at + length bytes) before))

  ended : i ≡ length bytes → length bytes ≤ length before - at → put (at + length bytes) buffer ≡ put_bytes bytes before at
  unfolding put_bytes when◌then◌else◌
  ended e h = rw (le-ltb (length before - at) (length bytes) h) (ap (put (at + length bytes)) (all_copied e))

pub loop-i-preserved : goal.loop-i-preserved
loop-i-preserved c = (simp length-set (omega arith), copied _ _ _ _ _ c.loop-i.invariant.1 (omega arith) (omega arith))

pub returns : goal.returns
returns c = (ended _ _ _ _ c.loop-i.i c.loop-i.invariant.1 (omega arith) (omega arith), omega arith)
