-- Texts that are dates and times, and some that are none. No proof cites them: they show that the grammars take what document 01 says.
use Rattle.std.specs.Prelude.{◌≡◌, refl, true, false, List, [], ◌∷◌, ◌++◌, ℕ, ◌+◌, ◌^◌}
use Rattle.logic.specs.Test.{when◌then◌else◌}
use Rattle.datatype.specs.Codes.{large_utf8, timestamp_utc}
use Rattle.chrono.specs.Grammar.{fits, leads, leads_many}
use Rattle.chrono.specs.Date.{blank, minus, dot, 0', 9', colon, T', Z', naive_date, naive_time, naive_datetime, utc_datetime}
use Rattle.chrono.specs.Text.{first_fit, text_type}

-- the digits that stand below
abbrev 1' : ℕ
1' = 49

abbrev 2' : ℕ
2' = 50

abbrev 3' : ℕ
3' = 51

abbrev 4' : ℕ
4' = 52

abbrev 5' : ℕ
5' = 53

-- 2024, 2024-01-02 and 03:04:05
abbrev year : List ℕ
year = 2' ∷ 0' ∷ 2' ∷ 4' ∷ []

abbrev day : List ℕ
day = year ++ minus ∷ 0' ∷ 1' ∷ minus ∷ 0' ∷ 2' ∷ []

abbrev clock : List ℕ
clock = 0' ∷ 3' ∷ colon ∷ 0' ∷ 4' ∷ colon ∷ 0' ∷ 5' ∷ []

-- no range is tested: 99:99:99 is a time
pub nines : fits naive_time (9' ∷ 9' ∷ colon ∷ 9' ∷ 9' ∷ colon ∷ 9' ∷ 9' ∷ []) ≡ true
unfolding fits leads leads_many
nines = refl

-- a dot wants digits
pub bare_dot : fits naive_time (clock ++ dot ∷ []) ≡ false
unfolding fits leads leads_many
bare_dot = refl

-- 2024-1-2, -2024-01-02, and one digit too many
pub short_date : fits naive_date (year ++ minus ∷ 1' ∷ minus ∷ 2' ∷ []) ≡ true
unfolding fits leads leads_many
short_date = refl

pub signed_date : fits naive_date (minus ∷ day) ≡ true
unfolding fits leads leads_many
signed_date = refl

pub long_date : fits naive_date (day ++ 3' ∷ []) ≡ false
unfolding fits leads leads_many
long_date = refl

-- 2024-01-02 03:04:05 is no datetime; with T it is a naive one
pub blank_naive : fits naive_datetime (day ++ blank ∷ clock) ≡ false
unfolding fits leads leads_many
blank_naive = refl

pub T-naive : fits naive_datetime (day ++ T' ∷ clock) ≡ true
unfolding fits leads leads_many
T-naive = refl

pub blank_utc : fits utc_datetime (day ++ blank ∷ clock) ≡ false
unfolding fits leads leads_many
blank_utc = refl

-- the default options, and bit 8 for guess_dates
abbrev guessing : ℕ
guessing = 30 + 2 ^ 8

-- P9: it is a string; P10: with Z it is a UTC datetime
pub blank_string : text_type guessing (day ++ blank ∷ clock) ≡ large_utf8
unfolding text_type first_fit when◌then◌else◌ fits leads leads_many
blank_string = refl

pub Z-utc : text_type guessing (day ++ blank ∷ clock ++ Z' ∷ []) ≡ timestamp_utc
unfolding text_type first_fit when◌then◌else◌ fits leads leads_many
Z-utc = refl
