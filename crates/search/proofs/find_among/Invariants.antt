-- `find_among`: none where none has the tag; else from each place on it finds what it finds from the first on.
use mathlib.Core.Path.{◌≡◌}
use Prim.Native.Nat.{◌+◌, ◌-◌, ◌≤◌}
use Rattle.search.specs.Scan.{few_places, field_among}
use Rattle.search.proofs.find_among.Given as goal

abbrev pub invariant-loop-number : goal.invariant-loop-number
invariant-loop-number l = (field_among l.text l.place l.name l.table l.number (l.from + few_places - l.number) ≡ field_among l.text l.place l.name l.table l.from few_places) × (l.number ≤ l.from + few_places)

abbrev pub decreases-loop-number : goal.decreases-loop-number
decreases-loop-number l = l.from + few_places - l.number
