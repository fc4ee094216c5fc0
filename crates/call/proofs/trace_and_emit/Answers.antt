-- `trace_and_emit` goes by what tracing answers, then by what emission answers, and zeroes the table.
use native.Mathlib.Omega.{arith}
use Rattle.std.proofs.lemmas.Grind.{common_steps}
use Rattle.call.specs.laws.Call.{linked_more, cleared_ordered}
use Rattle.call.proofs.trace_and_emit.Goals as goal

pub to_schema-emitted-requires-clause-settled : goal.to_schema-emitted-requires-clause-settled
to_schema-emitted-requires-clause-settled c = grind (arith, common_steps, linked_more)

pub returns-in-Ok : goal.returns-in-Ok
returns-in-Ok c = (grind (arith, common_steps), grind (arith, common_steps, cleared_ordered))
