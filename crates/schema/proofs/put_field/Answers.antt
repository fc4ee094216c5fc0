-- `put_field` writes the name, and the record of a dictionary or of the kind.
use Rattle.std.proofs.Common.{arith}
use Rattle.std.proofs.lemmas.Grind.{common_steps}
use Rattle.logic.specs.Test.{when◌then◌else◌}
use Rattle.putting.proofs.Puts.{name_then_record}
use Rattle.schema.specs.Emit.{field_at}
use Rattle.schema.proofs.put_field.Goals as goal

pub returns-then-is_dictionary : goal.returns-then-is_dictionary
unfolding field_at when◌then◌else◌
returns-then-is_dictionary c = grind (arith, common_steps, name_then_record)

pub returns : goal.returns
unfolding field_at when◌then◌else◌
returns c = grind (arith, common_steps, name_then_record)
