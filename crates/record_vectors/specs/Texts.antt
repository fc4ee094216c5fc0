-- When a stored text and chrono agree.
use Rattle.std.specs.Prelude.{Bool, ◌&&◌, List, ℕ, ◌+◌, eqb, leb, length, get_or, drop}
use Rattle.logic.specs.Test.{when◌then◌else◌}
use Rattle.chrono.specs.Grammar.{fits}
use Rattle.chrono.specs.Date.{naive_datetime, utc_datetime, naive_time, naive_date}
use Rattle.chrono.specs.Text.{text_type}

-- guess_dates, and string_as_large_utf8 with it
abbrev pub guessing : ℕ
guessing = 256

abbrev pub guessing_large : ℕ
guessing_large = 264

-- a matcher's answer as a bit
unfoldable pub bit_of : Bool → ℕ → ℕ
bit_of matches weight = when matches then weight else 0

-- the four answers
unfoldable pub matchers_of : List ℕ → ℕ
matchers_of text =
    bit_of (fits naive_datetime text) 1 + bit_of (fits utc_datetime text) 2
    + bit_of (fits naive_time text) 4 + bit_of (fits naive_date text) 8

-- a record: the matchers' answers, the types observed without and with string_as_large_utf8, the text
unfoldable pub text_agrees : List ℕ → Bool
text_agrees stored =
    leb 3 (length stored)
    && (eqb (matchers_of (drop 3 stored)) (get_or stored 0 0)
    && (eqb (text_type guessing (drop 3 stored)) (get_or stored 1 0) && eqb (text_type guessing_large (drop 3 stored)) (get_or stored 2 0)))
