-- `new_field`: a name that is not UTF-8, a new child, or no room.
use Rattle.std.proofs.Common.{◌≡◌, ℕ, ◌<◌, refl, le_refl, Option, Result, Err, IfOk, IfSome, rules}
use borrow.Author.Tests.{not-true, not-false}
use Rattle.refusal.specs.declared.Refusal.{Refusal}
use Rattle.opening.specs.Opening.{counted, Still}
use Rattle.opening.specs.laws.Opening.{field_bad, tested, new_child, new_full}
use Rattle.opening.proofs.Held.{was_child, was_refused, child_here, touched_sound}
use Rattle.opening.proofs.new_field.Goals as goal

none_opened : (s : Result (Option ℕ) Refusal) (refusal : Refusal) (m : ℕ) → s ≡ Err refusal → counted s m ≡ Err refusal
none_opened s refusal m is = rw is

none_open : (s : Result (Option ℕ) Refusal) (refusal : Refusal) (m : ℕ) → s ≡ Err refusal → IfOk s (λ field. IfSome field (λ child. child < m))
none_open s refusal m is = rw is tt

none_still : (s : Result (Option ℕ) Refusal) (refusal : Refusal) (n m : ℕ) → s ≡ Err refusal → Still s n m
none_still s refusal n m is = rw is tt

pub returns-then-not-is_utf8 : goal.returns-then-not-is_utf8
returns-then-not-is_utf8 c = record { opened = search (field_bad, not-true, rules); here = tt; still = tt; same = record { text = refl; table = refl; grows = le_refl _ } }

pub add-requires-clause-good : goal.add-requires-clause-good
add-requires-clause-good c = search (tested, not-false, rules)

pub returns-in_err-child : goal.returns-in_err-child
returns-in_err-child c =
    record {
      opened = new_full _ _ _ _ _ c.requires.absent _ c.is_utf8.ensures (search (not-false, rules)) _ _ c.add.ensures.ensured _ _
          (was_refused _ _ _ c.in_err-child.was) (none_opened _ _ _ (search rules));
      still = none_still _ c.in_err-child.field-0.0 _ _ (search rules);
      here = none_open _ c.in_err-child.field-0.0 _ (search rules);
      same = record { text = c.add.ensures.same.text; table = c.add.ensures.same.table; grows = c.add.ensures.same.grows };
    }

pub invariant_of-places : goal.invariant_of-places
invariant_of-places c =
    record { sound = touched_sound _ _ _ _ _ _ _ c.touch.ensures c.in_ok-child.was c.add.ensures.here c.add.new.places.sound }

pub returns : goal.returns
returns c =
    record {
      opened = new_child _ _ _ _ _ c.requires.absent _ c.is_utf8.ensures (search (not-false, rules)) _ _ c.add.ensures.ensured _ _
          (was_child _ _ _ c.in_ok-child.was) c.touch.ensures;
      still = tt;
      here = child_here _ _ _ c.in_ok-child.was c.add.ensures.here;
      same = record { text = c.add.ensures.same.text; table = c.add.ensures.same.table; grows = c.add.ensures.same.grows };
    }
