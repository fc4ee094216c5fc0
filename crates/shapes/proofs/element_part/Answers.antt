-- `element_part`: the end by its byte, or what stands there.
use borrow.Author.Rules.{rules}
use native.Mathlib.Omega.{arith}
use Rattle.shapes.specs.laws.Bytes.{begins_inside, end_part}
use Rattle.shapes.proofs.element_part.Goals as goal

pub overflow_add-result : goal.overflow_add-result
overflow_add-result c = record { fits = omega (arith, begins_inside _ _ _ _ c.begins_at.ensures c.if-begins_at.true) }

pub returns-then-begins_at : goal.returns-then-begins_at
returns-then-begins_at c = search (end_part, rules)
