-- A list from an index on.
use Rattle.std.proofs.Common.{◌≡◌, ℕ, ◌+◌, ◌<◌, List, ◌∷◌, length, get_or, drop}
use native.Mathlib.Numerals.{add-one}
use Rattle.std.proofs.Math.Seq.{drop-cons}

pub drop_at : (l : List ℕ) (i : ℕ) → i < length l → drop i l ≡ get_or l i 0 ∷ drop (i + 1) l
drop_at l i h = rw (add-one, drop-cons l i 0)
