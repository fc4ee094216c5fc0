-- `clear_places` zeroes one plane after another, as far as each is to be: before each turn, the planes before it are done.
use Rattle.std.proofs.Common.{◌≡◌, length}
use Rattle.words.proofs.Zeroed.{planes_to}
use Rattle.words.proofs.clear_places.Given as goal

abbrev pub invariant-loop-gap : goal.invariant-loop-gap
invariant-loop-gap l = (l.table ≡ planes_to l.initial.table l.count l.gap) × (length l.table ≡ length l.initial.table)
