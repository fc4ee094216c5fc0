-- `climb` goes to the level that is open, where one record fewer is due then.
use Rattle.std.proofs.Common.{rules}
use Rattle.listing.specs.Levels.{one_fewer}
use Rattle.listing.specs.laws.Levels.{level_is, counts, at_root}
use Rattle.listing.proofs.Levels.climb.Goals as goal
use Rattle.listing.proofs.Levels.climb.Goals.{then-level-gt0, else-level-gt0}

pub returns-clause-level : goal.returns-clause-level
returns-clause-level c =
    let found = c.open-level.ensures in
    level_is _ _ _ found.within found.more found.none

pub returns-clause-due : goal.returns-clause-due
unfolding one_fewer
returns-clause-due c =
    elim c.if-level-gt0.branch [
      | then-level-gt0 w ↦ search (counts, at_root, rules)
      | else-level-gt0 w ↦ search (counts, at_root, rules)
    ]
