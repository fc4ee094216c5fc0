-- What one reading of a text tells of its type.
use Rattle.std.specs.Prelude.{List, ℕ, Option, Some, None}
use Rattle.logic.specs.Test.{when◌then◌else◌}
use Rattle.datatype.specs.declared.DataType.{DataType}
use Rattle.datatype.specs.Codes.{code_of, timestamp_naive, timestamp_utc, date32}
use Rattle.chrono.specs.Grammar.{◌then◌, byte, leads, is_empty}
use Rattle.chrono.specs.Date.{T', separator, utc_zone, naive_time}

-- the type that was found, or else that of a string
abbrev pub type_or : Option DataType → ℕ → ℕ
type_or (Some t) string = code_of t
type_or None string = string

-- the type of a text that begins with a date, by what is left after the date
unfoldable pub after_date : List ℕ → ℕ → ℕ
after_date s string =
    when leads (byte T' then naive_time) s is_empty then timestamp_naive else
    when leads (separator then naive_time then utc_zone) s is_empty then timestamp_utc else
    when is_empty s then date32 else
    string
