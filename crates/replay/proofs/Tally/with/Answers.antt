-- `with` counts by the flag that it is told.
use Rattle.std.proofs.Common.{rules, ◌≡◌, Bool, true, false}
use Rattle.std.specs.Int.{from_bool}
use Rattle.std.specs.Prelude.{not}
use Rattle.logic.specs.Test.{when◌then◌else◌}
use Rattle.replay.proofs.Tally.with.Goals as goal

one : (agrees : Bool) → from_bool (not agrees) ≡ (when agrees then 0 else 1)
unfolding when◌then◌else◌
one true = search rules
one false = search rules

pub returns : goal.returns
returns g c = rw (c.from.ensures, one c.args.agrees)
