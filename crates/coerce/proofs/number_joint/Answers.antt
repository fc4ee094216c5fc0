-- `number_joint`: the rule of the table.
use Rattle.std.proofs.Common.{◌≡◌, true, ◌&&◌}
use Rattle.datatype.specs.Codes.{code_of}
use Rattle.coerce.specs.Joint.{is_number}
use Rattle.coerce.proofs.NumberTable.{numbers, table, rule}
use Rattle.coerce.proofs.number_joint.Goals as goal

pub returns : goal.returns
unfolding table
returns c =
    let both : (is_number (code_of c.args.a) && is_number (code_of c.args.b)) ≡ true = rw (c.requires.first, c.requires.second) in
    rw (c.code-first.ensures, c.code.ensures, c.code-2.ensures) (rule (code_of c.args.a) (code_of c.args.b) (numbers (code_of c.args.a) (code_of c.args.b) both))
