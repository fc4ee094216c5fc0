-- `seek`: from each link on the search gives what the whole gives.
use mathlib.Core.Path.{◌≡◌}
use Prim.Native.Nat.{◌-◌, ◌<◌}
use Rattle.words.specs.Numbers.{half_number}
use Rattle.search.specs.Child.{child_of}
use Rattle.search.specs.Tree.{follow, seeking, seek_from, seek}
use Rattle.search.proofs.seek.Given as goal

abbrev pub invariant-loop-next : goal.invariant-loop-next
invariant-loop-next l =
    (seek_from l.code l.count l.table (seeking l.bits l.at (half_number l.field)) ≡ seek l.fn.place l.code l.count l.table)
    × (l.next ≡ child_of (follow l.at (half_number l.field) l.count l.table))
    × (l.at < l.count)

abbrev pub decreases-loop-next : goal.decreases-loop-next
decreases-loop-next l = l.count - l.at
