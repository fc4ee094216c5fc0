-- `replay` goes from record to record, and what it has counted with what the rest gives is the tally of the file.
use Rattle.std.proofs.Common.{◌≡◌, List, ℕ, Bool, ◌≤◌, length}
use Rattle.replay.specs.Replayed.{Answers, replayed}
use Rattle.replay.specs.laws.Tally.{RestGives}
use Rattle.replay.proofs.replay.Given as goal

abbrev pub invariant-loop-record : goal.invariant-loop-record
invariant-loop-record g l =
    (goal.iterator-loop-record g).can_next l.record-iterator
    × (goal.iterator-loop-record g).is_finite l.record-iterator
    × (l.record-iterator.vectors.now ≡ l.vectors)
    × (l.record-iterator.at ≤ length l.vectors)
    × (l.tally.records ≤ l.record-iterator.at)
    × (l.tally.differ ≤ l.tally.records)
    × ((answer : List ℕ → Bool) → Answers g.F.Fn l.agrees answer
    → RestGives g.L.Layout.HEAD g.L.Layout.end answer l.vectors
    (replayed g.L.Layout.HEAD g.L.Layout.end answer l.vectors) l.record-iterator.at l.tally.records l.tally.differ)
