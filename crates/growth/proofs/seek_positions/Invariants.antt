-- `seek_positions`: the positions left, made for the places as they are, give what all give.
use Rattle.std.proofs.Common.{◌≡◌, ◌<◌, ◌-◌}
use Rattle.places.specs.Places.{Same}
use Rattle.growth.specs.Growth.{made_all, positions_from}
use Rattle.growth.proofs.seek_positions.Given as goal

abbrev pub invariant-loop-i : goal.invariant-loop-i
invariant-loop-i l = record {
  rest : made_all l.places.text.now l.place (positions_from l.i (l.positions - l.i)) l.places.count l.places.table.now
      ≡ made_all l.fn.places.text.now l.place (positions_from 0 l.positions) l.fn.places.count l.fn.places.table.now;
  here : l.place < l.places.count;
  same : Same l.fn.places l.places;
}
