-- Laws of records.
use Rattle.std.specs.Prelude.{List, ℕ, ◌<◌, length}
use Rattle.std.proofs.Common.{arith}
use Rattle.replay.specs.Records.{record_end, IsEnd}

pub record_is_end : (vectors : List ℕ) (at : ℕ) → at < length vectors → IsEnd vectors at 1 (record_end vectors at)
record_is_end vectors at h = (omega arith, omega arith, omega arith)
