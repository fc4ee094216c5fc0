-- `hold`: a child held, or a refusal.
use Rattle.std.proofs.Common.{rules}
use Rattle.opening.specs.laws.Opening.{held_child, held_refused}
use Rattle.opening.proofs.Held.{was_child, was_refused, child_here, touched_sound, none_here}
use Rattle.opening.proofs.hold.Goals as goal

pub returns-in_err-child : goal.returns-in_err-child
returns-in_err-child c =
    record {
      ensured = held_refused _ _ _ _ _ _ _ c.ensure.ensures.ensured _ _ (was_refused _ _ _ c.in_err-child.was) (was_refused _ _ _ (search rules));
      here = none_here _ c.in_err-child.field-0.0 _ (search rules);
      same = c.ensure.ensures.same;
    }

pub invariant_of-places : goal.invariant_of-places
invariant_of-places c =
    record { sound = touched_sound _ _ _ _ _ _ _ c.touch.ensures c.in_ok-child.was c.ensure.ensures.here c.ensure.new.places.sound }

pub returns : goal.returns
returns c =
    record {
      ensured = held_child _ _ _ _ _ _ _ c.ensure.ensures.ensured _ _ (was_child _ _ _ c.in_ok-child.was) c.touch.ensures;
      here = child_here _ _ _ c.in_ok-child.was c.ensure.ensures.here;
      same = record { text = c.ensure.ensures.same.text; table = c.ensure.ensures.same.table; grows = c.ensure.ensures.same.grows };
    }
