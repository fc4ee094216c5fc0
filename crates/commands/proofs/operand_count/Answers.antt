-- `operand_count`: the bytes 18 and 19 are one case.
use Rattle.std.proofs.Common.{rules}
use Rattle.std.specs.Prelude.{refl}
use Rattle.commands.specs.Commands.{form_of, operands}
use Rattle.commands.proofs.Forms.{counts_both}
use Rattle.commands.proofs.operand_count.Goals as goal

pub returns-in-24-2 : goal.returns-in-24-2
unfolding form_of operands
returns-in-24-2 c = counts_both c.args.byte 24 3 (search rules) (search rules) refl refl
