-- `has` looks at one place after another: before each turn it tells of as many as turns were made.
use Rattle.std.proofs.Common.{◌≡◌}
use Rattle.words.specs.Word.{has_among}
use Rattle.words.specs.Numbers.{whole_number}
use Rattle.words.proofs.has.Given as goal

abbrev pub invariant-loop-i : goal.invariant-loop-i
invariant-loop-i l = l.some ≡ has_among l.table l.from l.i (whole_number l.field) l.value
