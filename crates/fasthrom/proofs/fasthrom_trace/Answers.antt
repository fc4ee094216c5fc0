-- `fasthrom_trace` gives the numbers of an outcome; a place fits 32 bits.
use native.Mathlib.Omega.{arith}
use Rattle.std.proofs.lemmas.Grind.{common_steps}
use Rattle.equality.specs.laws.emission.Answers.{answer_small}
use Rattle.fasthrom.specs.Called.{Called}
use Rattle.fasthrom.proofs.fasthrom_trace.Goals as goal

pub overflow_cast-result-in-Err : goal.overflow_cast-result-in-Err
overflow_cast-result-in-Err c = grind (arith, common_steps, answer_small)

pub returns-in-Ok : goal.returns-in-Ok
unfolding Called
returns-in-Ok c = grind (arith, common_steps)

pub returns-in-Err : goal.returns-in-Err
unfolding Called
returns-in-Err c = grind (arith, common_steps)
