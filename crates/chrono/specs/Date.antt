-- Dates and times, as in document 01's "Date texts".
use Rattle.std.specs.Prelude.{Bool, ◌&&◌, List, [], ◌∷◌, ℕ, leb}
use Rattle.chrono.specs.Grammar.{Grammar, nothing, one, many, ◌then◌, ◌or◌, byte, word, optional}

-- the bytes that stand in dates and times, in ASCII
abbrev pub blank : ℕ
blank = 32

abbrev pub plus : ℕ
plus = 43

abbrev pub minus : ℕ
minus = 45

abbrev pub dot : ℕ
dot = 46

abbrev pub 0' : ℕ
0' = 48

abbrev pub 9' : ℕ
9' = 57

abbrev pub colon : ℕ
colon = 58

abbrev pub T' : ℕ
T' = 84

abbrev pub Z' : ℕ
Z' = 90

abbrev pub z' : ℕ
z' = 122

-- digits are those of ASCII; no range is tested
abbrev pub is_digit : ℕ → Bool
is_digit b = leb 0' b && leb b 9'

-- a digit; digits, one or more
abbrev pub digit : Grammar
digit = one is_digit

abbrev pub digits : Grammar
digits = many is_digit

abbrev pub one_or_two_digits : Grammar
one_or_two_digits = digit then optional digit

abbrev pub optional_sign : Grammar
optional_sign = byte plus or byte minus or nothing

-- optional sign, digits, -, one or two digits, -, one or two digits
abbrev pub naive_date : Grammar
naive_date =
    optional_sign then
    digits then
    byte minus then
    one_or_two_digits then
    byte minus then
    one_or_two_digits

-- a dot and digits
abbrev pub subsecond : Grammar
subsecond = byte dot then digits

-- one or two digits three times with colons, then optionally a dot and digits
abbrev pub naive_time : Grammar
naive_time =
    one_or_two_digits then
    byte colon then
    one_or_two_digits then
    byte colon then
    one_or_two_digits then
    optional subsecond

-- date, T, time
abbrev pub naive_datetime : Grammar
naive_datetime = naive_date then byte T' then naive_time

-- a sign and 0000, a sign and 00:00
abbrev pub short_offset : ℕ → List ℕ
short_offset sign = sign ∷ 0' ∷ 0' ∷ 0' ∷ 0' ∷ []

abbrev pub long_offset : ℕ → List ℕ
long_offset sign = sign ∷ 0' ∷ 0' ∷ colon ∷ 0' ∷ 0' ∷ []

-- one of +0000 -0000 +00:00 -00:00
abbrev pub zero_offset : Grammar
zero_offset =
    word (short_offset plus) or
    word (short_offset minus) or
    word (long_offset plus) or
    word (long_offset minus)

-- one of Z z +0000 -0000 +00:00 -00:00
abbrev pub utc_zone : Grammar
utc_zone = byte Z' or byte z' or zero_offset

-- T or blank
abbrev pub separator : Grammar
separator = byte T' or byte blank

-- date, T or blank, time, then a zone
abbrev pub utc_datetime : Grammar
utc_datetime = naive_date then separator then naive_time then utc_zone
