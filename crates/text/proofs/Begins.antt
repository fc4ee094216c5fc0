-- Whether the bytes at an index begin with what is due: the bytes end there, the first is out of its range, or it is in it.
use mathlib.Core.Path.{◌≡◌}
use native.Mathlib.Omega.{arith}
use Prim.Native.Nat.{ℕ, ◌+◌, ◌≤◌, ◌<◌}
use mathlib.Core.Bool.{Bool, true, false, false≢true}
use mathlib.Core.List.{List, [], ◌∷◌}
use lib.ListN.{length, get_or, drop, drop_of_length-le}
use Rattle.logic.specs.laws.Test.{both}
use Rattle.text.specs.Utf8.{Range, ◌to◌, within}
use Rattle.text.specs.laws.Utf8.{within_true, within_below, within_above}
use Rattle.text.specs.Due.{begins}
use Rattle.text.proofs.Steps.{drop_at}

module _ (bytes : List ℕ) (i low high : ℕ) (due : List Range) where
  pub short : length bytes ≤ i → false ≡ begins (low to high ∷ due) (drop i bytes)
  unfolding begins
  short h = rw (drop_of_length-le bytes h)

  pub below : i < length bytes → get_or bytes i 0 < low → false ≡ begins (low to high ∷ due) (drop i bytes)
  unfolding begins
  below h g = rw (drop_at bytes i h, within_below low high (get_or bytes i 0) g)

  pub above : i < length bytes → high < get_or bytes i 0 → false ≡ begins (low to high ∷ due) (drop i bytes)
  unfolding begins
  above h g = rw (drop_at bytes i h, within_above low high (get_or bytes i 0) g)

  pub stepped : (r : Bool) → i < length bytes → low ≤ get_or bytes i 0 → get_or bytes i 0 ≤ high →
      r ≡ begins due (drop (i + 1) bytes) → r ≡ begins (low to high ∷ due) (drop i bytes)
  unfolding begins
  stepped r h p q e = rw (drop_at bytes i h, within_true low high (get_or bytes i 0) p q) e

-- what begins with what is due has as many bytes
pub begins_length : (due : List Range) (bytes : List ℕ) → begins due bytes ≡ true → length due ≤ length bytes
unfolding begins
begins_length [] bytes e = omega arith
begins_length (range ∷ due) [] e = absurd (false≢true e)
begins_length (range ∷ due) (b ∷ bytes) e =
    both (within range b) (begins due bytes) e λ p q. let h : length due ≤ length bytes = begins_length due bytes q in omega arith
