-- UTF-8, as in the Unicode Standard's table 3-7, "Well-Formed UTF-8 Byte Sequences".
use Rattle.std.specs.Prelude.{◌≡◌, ℕ, Bool, true, false, ◌&&◌, List, [], ◌∷◌, ◌++◌, leb}
use Rattle.std.proofs.Math.Option.{Option, none, some}
use Rattle.std.proofs.Math.ListN.{get_elem?}
use Rattle.logic.specs.Test.{when◌then◌else◌}

infix 70 ◌to◌
-- a range of bytes, its first and its last
pub data Range : Type 0 where
  ◌to◌ : ℕ → ℕ → Range

-- the table: each row is the ranges of a sequence's bytes, first to last
abbrev pub table : List (List Range)
table =
    (0x00 to 0x7F ∷ []) ∷
    (0xC2 to 0xDF ∷ 0x80 to 0xBF ∷ []) ∷
    (0xE0 to 0xE0 ∷ 0xA0 to 0xBF ∷ 0x80 to 0xBF ∷ []) ∷
    (0xE1 to 0xEC ∷ 0x80 to 0xBF ∷ 0x80 to 0xBF ∷ []) ∷
    (0xED to 0xED ∷ 0x80 to 0x9F ∷ 0x80 to 0xBF ∷ []) ∷
    (0xEE to 0xEF ∷ 0x80 to 0xBF ∷ 0x80 to 0xBF ∷ []) ∷
    (0xF0 to 0xF0 ∷ 0x90 to 0xBF ∷ 0x80 to 0xBF ∷ 0x80 to 0xBF ∷ []) ∷
    (0xF1 to 0xF3 ∷ 0x80 to 0xBF ∷ 0x80 to 0xBF ∷ 0x80 to 0xBF ∷ []) ∷
    (0xF4 to 0xF4 ∷ 0x80 to 0x8F ∷ 0x80 to 0xBF ∷ 0x80 to 0xBF ∷ []) ∷
    []

-- whether a byte is in a range
unfoldable pub within : Range → ℕ → Bool
within (low to high) byte = leb low byte && leb byte high

-- what is due after a first byte: the rest of the row that begins with it, where one does
unfoldable pub due_in : List (List Range) → ℕ → Option (List Range)
due_in [] byte = none
due_in ([] ∷ rows) byte = due_in rows byte
due_in ((range ∷ due) ∷ rows) byte = when within range byte then some due else due_in rows byte

-- whether the bytes are what is still due of a sequence, and whole sequences after it
unfoldable pub reads : List Range → List ℕ → Bool
reads [] [] = true
reads [] (byte ∷ bytes) = elim (due_in table byte) [ none ↦ false | some due ↦ reads due bytes ]
reads (range ∷ due) [] = false
reads (range ∷ due) (byte ∷ bytes) = within range byte && reads due bytes

-- whether the bytes are sequences, one after another
abbrev pub is_utf8 : List ℕ → Bool
is_utf8 = reads []

-- whether bytes are a sequence of a row, each in its range
unfoldable pub fits : List Range → List ℕ → Bool
fits [] [] = true
fits [] (byte ∷ bytes) = false
fits (range ∷ row) [] = false
fits (range ∷ row) (byte ∷ bytes) = within range byte && fits row bytes

-- the same text read without computing: nothing, or a sequence of row k of the table and then such a text
pub data Utf8 : List ℕ → Type 0 where
  empty : Utf8 []
  next : (k : ℕ) (row : List Range) (bytes more : List ℕ) →
      get_elem? table k ≡ some row → fits row bytes ≡ true → Utf8 more → Utf8 (bytes ++ more)
