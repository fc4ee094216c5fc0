-- `skip_digits` leaves off one digit after another: what is left gives the same as the whole.
use Rattle.std.proofs.Common.{◌≡◌, length}
use Rattle.chrono.specs.Date.{is_digit}
use Rattle.chrono.specs.Scan.{skip}
use Rattle.chrono.proofs.skip_digits.Given as goal

abbrev pub invariant-loop-next : goal.invariant-loop-next
invariant-loop-next l = skip is_digit l.rest ≡ skip is_digit l.s

abbrev pub decreases-loop-next : goal.decreases-loop-next
decreases-loop-next l = length l.rest
