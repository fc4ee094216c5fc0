-- `append_positions`: the positions left, appended to the table as it is, give what all give.
use Rattle.std.proofs.Common.{◌≡◌, ◌<◌, ◌-◌}
use Rattle.places.specs.Places.{Same}
use Rattle.growth.specs.Growth.{appended_from}
use Rattle.growth.proofs.append_positions.Given as goal

abbrev pub invariant-loop-i : goal.invariant-loop-i
invariant-loop-i l = record {
  rest : appended_from l.place l.i (l.positions - l.i) l.places.count l.places.table.now
      ≡ appended_from l.place 0 l.positions l.fn.places.count l.fn.places.table.now;
  here : l.place < l.places.count;
  same : Same l.fn.places l.places;
}
