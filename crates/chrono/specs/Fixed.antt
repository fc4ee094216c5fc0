-- What is looked at before a text is read: its first byte, and the forms in which most dates and times are written.
use Rattle.std.specs.Prelude.{Bool, false, ◌&&◌, ◌||◌, List, [], ◌∷◌, ℕ, ◌+◌, eqb, get_or}
use Rattle.chrono.specs.Date.{plus, minus, colon, T', is_digit}

-- whether a date or a time can begin as the text does
abbrev pub begins : List ℕ → Bool
begins [] = false
begins (c ∷ s) = is_digit c || eqb c plus || eqb c minus

-- dd at an offset; that byte and dd
abbrev pub two_digits : List ℕ → ℕ → Bool
two_digits s i = is_digit (get_or s i 0) && is_digit (get_or s (i + 1) 0)

abbrev pub joined_digits : List ℕ → ℕ → ℕ → Bool
joined_digits s i b = eqb (get_or s i 0) b && two_digits s (i + 1)

-- dddd-dd-dd at the start
unfoldable pub fixed_date : List ℕ → Bool
fixed_date s = two_digits s 0 && two_digits s 2 && joined_digits s 4 minus && joined_digits s 7 minus

-- dd:dd:dd at an offset
unfoldable pub fixed_time : List ℕ → ℕ → Bool
fixed_time s i = two_digits s i && joined_digits s (i + 2) colon && joined_digits s (i + 5) colon

-- dddd-dd-ddTdd:dd:dd at the start
unfoldable pub fixed_datetime : List ℕ → Bool
fixed_datetime s = fixed_date s && eqb (get_or s 10 0) T' && fixed_time s 11
