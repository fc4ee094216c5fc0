-- The type that a text observes, as in document 01's "Date texts".
use Rattle.std.specs.Prelude.{List, [], ◌∷◌, ℕ}
use Rattle.logic.specs.Test.{when◌then◌else◌}
use Rattle.datatype.specs.Codes.{timestamp_naive, timestamp_utc, time64, date32}
use Rattle.options.specs.Word.{guess_dates, string_type}
use Rattle.chrono.specs.Grammar.{Grammar, fits}
use Rattle.chrono.specs.Date.{naive_datetime, utc_datetime, naive_time, naive_date}

-- what a text is tried as, and the type that it has then
abbrev pub date_texts : List (Grammar × ℕ)
date_texts =
    (naive_datetime, timestamp_naive) ∷
    (utc_datetime, timestamp_utc) ∷
    (naive_time, time64) ∷
    (naive_date, date32) ∷
    []

-- the first fit wins, else it is a string
unfoldable pub first_fit : List (Grammar × ℕ) → List ℕ → ℕ → ℕ
first_fit [] s string = string
first_fit (tried ∷ rest) s string =
    let other = first_fit rest s string in
    when fits tried.0 s then tried.1 else other

-- with guess_dates the whole text is tried, else it is a string
unfoldable pub text_type : ℕ → List ℕ → ℕ
text_type word s =
    let guessed = first_fit date_texts s (string_type word) in
    when guess_dates word then guessed else string_type word
