-- What functions that write to the places leave as it was.
use Rattle.std.specs.Prelude.{◌≡◌, ◌≤◌}
use Rattle.places.specs.declared.Places.{Places}

-- the text, and the table that was lent; and no place goes
pub record Same (o p : Places) : Type 0 where
  pub text : p.text.now ≡ o.text.now
  pub table : p.table.ghost_name ≡ o.table.ghost_name
  pub grows : o.count ≤ p.count
