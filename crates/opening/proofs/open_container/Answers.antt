-- `open_container`: kinds that meet, or a refusal.
use Rattle.std.proofs.Common.{◌≡◌, ℕ, refl, le_refl, Result, Err, rules}
use Rattle.refusal.specs.declared.Refusal.{Refusal}
use Rattle.growth.specs.Growth.{count_of}
use Rattle.growth.specs.laws.Growth.{sound_sampled}
use Rattle.opening.specs.laws.Opening.{opens_met, opens_unmet}
use Rattle.opening.proofs.open_container.Goals as goal

none : (s : Result (Unit {0}) Refusal) (refusal : Refusal) (m : ℕ) → s ≡ Err refusal → count_of s m ≡ Err refusal
none s refusal m is = rw is

pub returns-in_err-met : goal.returns-in_err-met
returns-in_err-met c =
    record {
      made = opens_unmet _ _ _ _ _ _ _ c.get-before.ensures c.meet.ensures _ _ _ _ _ c.in_err-met.was (none _ _ _ (search rules));
      same = record { text = refl; table = refl; grows = le_refl _ };
    }

pub invariant_of-places-2 : goal.invariant_of-places-2
invariant_of-places-2 c = record { sound = search (sound_sampled, rules) }

pub returns : goal.returns
returns c =
    record {
      made = search (opens_met, rules);
      same = record { text = c.make.ensures.same.text; table = c.make.ensures.same.table; grows = c.make.ensures.same.grows };
    }
