-- The walk of a place and of its children, as one cycle: the levels fall. Over the children, those that are left give what all give.
use Rattle.std.proofs.Common.{◌≡◌, ◌+◌, ◌*◌}
use Rattle.places.specs.Children.{children_left}
use Rattle.walk.specs.Walk.{walked, walked_below}
use Rattle.walk.proofs.Walks.{walk_over}
use Rattle.walk.proofs.Source.+walking.Given as goal

abbrev pub decreases-walk_children : goal.decreases-walk_children
decreases-walk_children l = 2 * l.levels + 1

abbrev pub decreases-walk_place : goal.decreases-walk_place
decreases-walk_place l = 2 * l.levels

abbrev pub invariant-walk_children-loop-child : goal.invariant-walk_children-loop-child
invariant-walk_children-loop-child l =
    walk_over l.self.text.now l.self.table.now (walked l.self.options.word l.self.text.now l.self.table.now l.levels) l.kind
    l.counts l.slot (children_left l.child-iterator)
    ≡ walked_below l.self.options.word l.self.text.now l.self.table.now l.levels l.kind l.fn.place
