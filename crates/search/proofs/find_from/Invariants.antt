-- `find_from` passes a few places at a time.
use mathlib.Core.Path.{◌≡◌}
use Prim.Native.Nat.{◌+◌, ◌-◌, ◌%◌}
use Rattle.words.specs.Word.{IsRow}
use Rattle.search.specs.Scan.{few_places, Passed}
use Rattle.search.proofs.find_from.Given as goal

abbrev pub invariant-loop-here : goal.invariant-loop-here
invariant-loop-here l = Passed l.text l.table l.count l.place l.name l.here × (l.here % few_places ≡ 0) × IsRow l.last

abbrev pub decreases-loop-here : goal.decreases-loop-here
decreases-loop-here l = l.last + 1 - l.here
