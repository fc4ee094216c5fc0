-- A place with the places below it in one order where their order is not said: below a struct they stay as they are.
use Rattle.std.specs.Prelude.{eqb}
use Rattle.logic.specs.Test.{when◌then◌else◌}
use Rattle.text.specs.Name.{lt_name}
use Rattle.model.specs.Kinds.{struct_kind, Step, step_code}
use Rattle.model.specs.Emission.{Place, shown, Places, none_below, below}

unfoldable pub insert_place : Step → Place → Places → Places
insert_place s p none_below = below s p none_below
insert_place s p (below r q ps) = when lt_name (step_code r) (step_code s) then below r q (insert_place s p ps) else below s p (below r q ps)

unfoldable pub in_order : Places → Places
in_order none_below = none_below
in_order (below s p ps) = insert_place s p (in_order ps)

unfoldable mutual
  pub canon : Place → Place
  canon (shown m kind ps) = shown m kind (when eqb kind struct_kind then canons ps else in_order (canons ps))

  pub canons : Places → Places
  canons none_below = none_below
  canons (below s p ps) = below s (canon p) (canons ps)
