-- `find`: from each child on the search gives what the whole gives.
use mathlib.Core.Path.{◌≡◌}
use Prim.Native.Nat.{◌<◌}
use Rattle.shapes.specs.Steps.{no_name}
use Rattle.search.specs.Search.{find_from, find_in}
use Rattle.search.specs.laws.Search.{children_left}
use Rattle.search.proofs.Parent.find.Given as goal

abbrev pub invariant-loop-child : goal.invariant-loop-child
invariant-loop-child l =
    (find_from l.self.text.now l.code no_name l.self.table.now l.child ≡ find_in l.self.text.now l.self.place l.code no_name l.self.table.now)
    × (l.child < l.self.count)

abbrev pub decreases-loop-child : goal.decreases-loop-child
decreases-loop-child l = children_left l.child
