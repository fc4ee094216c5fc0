-- The emission of a place, of its children and of a child, as one cycle: the levels fall. Over the children, those that are left give what all give.
use borrow.Author.Rules.{rules}
use native.Mathlib.Omega.{arith}
use Rattle.std.proofs.lemmas.Grind.{common_steps}
use Rattle.schema.specs.Emit.{child_in}
use Rattle.schema.proofs.Emits.{same_fields, some_level, leaf, opened}
use Rattle.schema.proofs.+emitting.Goals as goal

pub emit-returns-then-is_leaf : goal.emit-returns-then-is_leaf
emit-returns-then-is_leaf t c = search (leaf, rules)

pub emit-overflow_sub-levels : goal.emit-overflow_sub-levels
emit-overflow_sub-levels t c = grind (arith, some_level)

pub emit-emit_children-requires : goal.emit-emit_children-requires
emit-emit_children-requires t c = grind (arith, common_steps, some_level)

pub emit-returns : goal.emit-returns
emit-returns t c = search (opened, rules)

pub emit_child-returns : goal.emit_child-returns
unfolding child_in
emit_child-returns t c = grind (arith, common_steps)

pub emit_children-loop-child-init : goal.emit_children-loop-child-init
emit_children-loop-child-init t c = search (same_fields, rules)
