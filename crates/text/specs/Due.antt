-- What the parts of the UTF-8 code answer: the ranges due after a first byte, and whether such bytes stand there.
use Rattle.std.specs.Prelude.{ℕ, Bool, true, false, ◌&&◌, List, [], ◌∷◌, replicate}
use Rattle.std.proofs.Math.Option.{Option, none, some}
use Rattle.text.specs.Utf8.{Range, ◌to◌, within}
use Rattle.text.specs.declared.utf8.Due.{Due}
use Rattle.text.specs.declared.utf8.Due.TheVariants as D

-- the range of every byte after a sequence's second
abbrev pub trailing : Range
trailing = 0x80 to 0xBF

-- the ranges that an answer stands for
abbrev pub due_of : Due → Option (List Range)
due_of D.Nothing = none
due_of (D.Bytes low high more) = some (low to high ∷ replicate more trailing)

-- whether the bytes begin with one in each range
unfoldable pub begins : List Range → List ℕ → Bool
begins [] bytes = true
begins (range ∷ due) [] = false
begins (range ∷ due) (byte ∷ bytes) = within range byte && begins due bytes
