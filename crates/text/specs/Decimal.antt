-- Decimal numerals, as tuple positions have for names: no leading zeros, and one digit for zero.
use Rattle.std.specs.Prelude.{ℕ, zero, suc, ◌+◌, ◌/◌, ◌%◌, true, false, List, [], ◌∷◌, ◌++◌, ltb}

-- the byte of the digit zero
abbrev pub zero_digit : ℕ
zero_digit = 0x30

-- the numeral of a number that has at most so many digits
unfoldable pub numeral : ℕ → ℕ → List ℕ
numeral zero n = []
numeral (suc fuel) n = elim (ltb n 10) [ true ↦ (zero_digit + n) ∷ [] | false ↦ numeral fuel (n / 10) ++ ((zero_digit + n % 10) ∷ []) ]

-- the decimal numeral of any natural number n, which has at most n + 1 digits
unfoldable pub decimal : ℕ → List ℕ
decimal n = numeral (suc n) n
