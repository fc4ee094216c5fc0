-- The nullable byte of a place as its values tell it (document 02, 1/14): bit 0 is set where null was seen, bit 1 where the place was
-- widened.
use Rattle.std.specs.Prelude.{Bool, List, ℕ, ◌+◌, ◌*◌, ◌/◌, ◌%◌, eqb}
use Rattle.words.specs.Word.{word, with_word}
use Rattle.places.specs.Layout.{nullable_word}

abbrev pub is_null : ℕ → Bool
is_null byte = eqb (byte % 2) 1

abbrev pub is_widened : ℕ → Bool
is_widened byte = eqb (byte / 2 % 2) 1

-- with bit 0 set, and with bit 1; it has no others
abbrev pub admitting : ℕ → ℕ
admitting byte = byte / 2 * 2 + 1

abbrev pub widening : ℕ → ℕ
widening byte = byte % 2 + 2

-- null is seen at a place; a place is widened
abbrev pub with_null : ℕ → List ℕ → List ℕ
with_null place t = with_word t place nullable_word (admitting (word t place nullable_word))

abbrev pub with_widened : ℕ → List ℕ → List ℕ
with_widened place t = with_word t place nullable_word (widening (word t place nullable_word))
