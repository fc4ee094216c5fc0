-- The walk of a place: its children are walked where it is no union, where it has data, and where its variants may be null.
use Rattle.std.proofs.Common.{arith}
use Rattle.std.proofs.lemmas.Grind.{common_steps}
use Rattle.logic.specs.laws.Test.{if_passed, if_failed}
use Rattle.walk.specs.Walk.{walked_by}
use Rattle.walk.proofs.Walks.{by_levels}
use Rattle.walk.proofs.Source.+walking.Goals.{walk_place-then-kind-eq-UNION+then-is_dataless+else-enums_without_data_as_strings+else-not-allow_null_fields, walk_place-else-kind-eq-UNION, walk_place-else-kind-eq-UNION-via-then-kind-eq-UNION+else-is_dataless, walk_place-else-kind-eq-UNION-via-else-kind-eq-UNION}
use Rattle.walk.proofs.Source.+walking.Goals as goal

pub walk_place-returns : goal.walk_place-returns
unfolding walked_by
walk_place-returns t c =
    elim c.if-kind-eq-UNION.branch [
      | walk_place-then-kind-eq-UNION+then-is_dataless+else-enums_without_data_as_strings+else-not-allow_null_fields w ↦ grind (arith, common_steps, by_levels, if_passed, if_failed)
      | walk_place-else-kind-eq-UNION w ↦ elim w.else-kind-eq-UNION.branch [
        | walk_place-else-kind-eq-UNION-via-then-kind-eq-UNION+else-is_dataless v ↦ grind (arith, common_steps, by_levels, if_passed, if_failed)
        | walk_place-else-kind-eq-UNION-via-else-kind-eq-UNION v ↦ grind (arith, common_steps, by_levels, if_passed, if_failed)
      ]
    ]
