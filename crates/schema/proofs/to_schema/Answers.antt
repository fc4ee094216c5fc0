-- `to_schema` puts children in order, and goes by what the first walk answers.
use Rattle.std.proofs.Common.{arith}
use Rattle.std.proofs.lemmas.Grind.{common_steps}
use Rattle.std.proofs.lemmas.Result.{err_from_is_err_and}
use Rattle.schema.specs.Emit.{to_schema_at}
use Rattle.schema.proofs.to_schema.Goals as goal

pub returns-in_err-counts : goal.returns-in_err-counts
unfolding to_schema_at
returns-in_err-counts c =
    let p = err_from_is_err_and c.from_residual.result c.from_residual.ensures.1 in
    grind (arith, common_steps, p)

pub returns : goal.returns
unfolding to_schema_at
returns c = grind (arith, common_steps)
