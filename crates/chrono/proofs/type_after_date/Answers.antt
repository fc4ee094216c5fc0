-- `type_after_date` goes by what follows the date.
use Rattle.std.proofs.Common.{◌∙◌, rules}
use Rattle.chrono.proofs.Reading.{zoned, unzoned, some_or}
use Rattle.chrono.proofs.type_after_date.Goals as goal

pub returns-in-empty : goal.returns-in-empty
returns-in-empty c string = some_or _ _ string c.then_some.ensures ∙ search (unzoned, rules)

pub returns-in_default : goal.returns-in_default
returns-in_default c string = some_or _ _ string c.then_some-in_default.ensures ∙ search (zoned, rules)
