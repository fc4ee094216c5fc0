-- Slices as a contract names them: the list behind a reference, of one that is lent for change at the function's entry and at its exit.
use Rattle.std.specs.Prelude.{List, ℕ}
use denote.Triple.Both.{Both}
use Rattle.std.specs.Borrow.{Bor, MutBor}

-- a slice to read
abbrev pub Slice : Type 0
Slice = Both (Bor (List ℕ)) (Bor (List ℕ))

abbrev pub now_of : Slice → List ℕ
now_of s = s.entry.now

-- a slice to change
abbrev pub MutSlice : Type 0
MutSlice = Both (MutBor (List ℕ)) (MutBor (List ℕ))

abbrev pub at_entry : MutSlice → List ℕ
at_entry s = s.entry.now

abbrev pub at_exit : MutSlice → List ℕ
at_exit s = s.exit.now
