-- `open_variant`: kinds that meet, or a refusal.
use Rattle.std.proofs.Common.{refl, le_refl, rules}
use Rattle.growth.specs.laws.Growth.{sound_sampled}
use Rattle.opening.specs.laws.Opening.{holds_met, holds_unmet}
use Rattle.opening.proofs.Held.{was_refused, none_here}
use Rattle.opening.proofs.open_variant.Goals as goal

pub returns-in_err-met : goal.returns-in_err-met
returns-in_err-met c =
    record {
      ensured = holds_unmet _ _ _ _ _ _ _ _ _ _ c.get-before.ensures c.meet.ensures _ _ c.in_err-met.was (was_refused _ _ _ (search rules));
      here = none_here _ c.in_err-met.field-0.0 _ (search rules);
      same = record { text = refl; table = refl; grows = le_refl _ };
    }

pub invariant_of-places-2 : goal.invariant_of-places-2
invariant_of-places-2 c = record { sound = search (sound_sampled, rules) }

pub returns : goal.returns
returns c =
    record {
      ensured = search (holds_met, rules);
      here = c.hold.ensures.here;
      same = record { text = c.hold.ensures.same.text; table = c.hold.ensures.same.table; grows = c.hold.ensures.same.grows };
    }
