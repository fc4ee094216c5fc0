-- `past_quick`: a law for each of its answers, and what is passed is a leaf, which ends behind where it begins.
use Rattle.std.proofs.Common.{rules}
use Rattle.shapes.specs.laws.Leaf.{leaf_there, leaf_above}
use Rattle.leaves.specs.laws.Quick.{same_fits, quick_null, quick_known, quick_changes}
use Rattle.leaves.proofs.past_quick.Goals as goal

pub overflow_add-result : goal.overflow_add-result
overflow_add-result c = record { fits = search (same_fits, rules) }

pub returns-then-leaf-clause-value : goal.returns-then-leaf-clause-value
returns-then-leaf-clause-value c = quick_null _ _ _ _ _ _ _ c.leaf_at.ensures _ _ _ c.in_ok-leaf.was _ c.if-leaf.true c.admit_null.ensures

pub returns-then-leaf-clause-onward : goal.returns-then-leaf-clause-onward
returns-then-leaf-clause-onward c = leaf_above _ _ _ _ _ _ _ (leaf_there _ _ _ _ _ c.leaf_at.ensures _ _ _ c.in_ok-leaf.was)

pub returns-then-get-leaf-clause-value : goal.returns-then-get-leaf-clause-value
returns-then-get-leaf-clause-value c = quick_known _ _ _ _ _ _ _ c.leaf_at.ensures _ _ _ c.in_ok-leaf.was _ c.get.ensures c.if-leaf.false c.if-get-leaf.true

pub returns-then-get-leaf-clause-onward : goal.returns-then-get-leaf-clause-onward
returns-then-get-leaf-clause-onward c = leaf_above _ _ _ _ _ _ _ (leaf_there _ _ _ _ _ c.leaf_at.ensures _ _ _ c.in_ok-leaf.was)

pub returns-clause-value : goal.returns-clause-value
returns-clause-value c = quick_changes _ _ _ _ _ _ _ c.leaf_at.ensures _ _ _ c.in_ok-leaf.was _ c.get.ensures c.if-leaf.false c.if-get-leaf.false
