use Rattle.std.proofs.Common.{rules}
use native.Mathlib.Numerals.{unary_clauses}
use Rattle.answers_vectors.specs.Agrees.{agrees}
use Rattle.answers_vectors.proofs.replay_all.Goals as goal

pub returns : goal.returns
returns g c = simp unary_clauses at (c.replay.ensures agrees (λ stored r e. search rules))
