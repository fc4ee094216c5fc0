-- P1 to P12 of document 01's "Soundings", in one table. The theorem is that every call that is handed one of these batches gives what the
-- table says (`fasthrom`, Demands).
use Rattle.std.specs.Prelude.{List, [], ◌∷◌, ◌++◌, ℕ, zero, suc, ◌+◌, ◌*◌, ◌≤◌, length, take}
use Rattle.datatype.specs.Codes.{uint8, uint64, int64, float32, float64, large_utf8, timestamp_utc, union}
use Rattle.refusal.specs.Number.{no_joint, too_many_slots}
use Rattle.model.specs.Answer.{table_words, record_bytes, Answer, Batch, Buffers}

-- the Rust's default options, and those named
abbrev default : ℕ
default = 30

abbrev coerce : ℕ
coerce = default + 64

abbrev to_string : ℕ
to_string = default + 128

abbrev guess_dates : ℕ
guess_dates = default + 256

-- the field `x` has the values, one in each record; the text follows the field's name
pub record Sounding : Type 0 where
  pub options : ℕ
  pub shown : List (List ℕ)
  pub text : List ℕ
  -- the refusal and 0, or 0, how many field records there are, and the field's own
  pub gives : List ℕ

-- 15, 16 with the name at offset 0 of length 1, the value, 17
abbrev records : List (List ℕ) → List ℕ
records [] = []
records (v ∷ vs) = (0x15 ∷ 0x16 ∷ 0 ∷ 0 ∷ 1 ∷ 0 ∷ v) ++ (0x17 ∷ records vs)

abbrev pub batch : Sounding → Batch
batch s = record { options = s.options; commands = records s.shown; text = 120 ∷ s.text }

-- the most field records and name bytes that one of them has: P11's field and 128 slots; the field's name and the variant's
abbrev pub most_records : ℕ
most_records = 129

abbrev pub most_bytes : ℕ
most_bytes = 2

-- buffers with room for each, whatever they hold
pub record Roomy (lent : Buffers) : Type 0 where
  pub table : table_words ≤ length lent.table
  pub fields : record_bytes * most_records ≤ length lent.fields
  pub names : most_bytes ≤ length lent.names

-- the first of so many field records
abbrev pub first_of : ℕ → List ℕ → List ℕ
first_of zero fields = []
first_of (suc n) fields = take record_bytes fields

-- the refusal, how many field records there are, and the first of them
abbrev pub outcome : Answer → List ℕ
outcome a = a.refusal ∷ a.field_records ∷ first_of a.field_records a.left.fields

-- the field `x` with so many children, none of which has any, and its record: type, nullable byte, and how many children
abbrev record_with : ℕ → ℕ → ℕ → List ℕ
record_with type nullable children = 0 ∷ (1 + children) ∷ type ∷ nullable ∷ 0 ∷ 0 ∷ 1 ∷ 0 ∷ children ∷ 0 ∷ []

abbrev field : ℕ → ℕ → List ℕ
field type children = record_with type 0 children

-- a field without children whose place saw two different types: 2 in the nullable byte (document 02, 1/14)
abbrev widened : ℕ → List ℕ
widened type = record_with type 2 0

abbrev refusal : ℕ → List ℕ
refusal number = number ∷ 0 ∷ []

-- commands: bool, i8, i32, u8, u16, f32
abbrev bool : List ℕ
bool = 0x01 ∷ []

abbrev i8 : List ℕ
i8 = 0x02 ∷ []

abbrev i32 : List ℕ
i32 = 0x04 ∷ []

abbrev u8 : List ℕ
u8 = 0x06 ∷ []

abbrev u16 : List ℕ
u16 = 0x07 ∷ []

abbrev f32 : List ℕ
f32 = 0x0A ∷ []

-- the text behind the name, of so many bytes
abbrev string : ℕ → List ℕ
string n = 0x0D ∷ 1 ∷ 0 ∷ n ∷ 0 ∷ []

-- a newtype variant of that number with an i32 inside; its name is the field's
abbrev variant : ℕ → List ℕ
variant number = (0x19 ∷ number ∷ 0 ∷ 0 ∷ 0 ∷ 1 ∷ 0 ∷ []) ++ i32

-- `2024-01-02 03:04:05`
abbrev blank_datetime : List ℕ
blank_datetime =
    50 ∷ 48 ∷ 50 ∷ 52 ∷ 45 ∷ 48 ∷ 49 ∷ 45 ∷ 48 ∷ 50 ∷ 32 ∷ 48 ∷ 51 ∷ 58 ∷ 48 ∷ 52 ∷ 58 ∷ 48 ∷ 53 ∷ []

abbrev row : ℕ → List (List ℕ) → List ℕ → List ℕ → Sounding
row options shown text gives = record { options = options; shown = shown; text = text; gives = gives }

unfoldable pub soundings : List Sounding
soundings =
    row default (u8 ∷ u8 ∷ []) [] (field uint8 0) ∷
    row coerce (u8 ∷ u16 ∷ []) [] (widened uint64) ∷
    row coerce (u8 ∷ i8 ∷ []) [] (widened int64) ∷
    row coerce (f32 ∷ f32 ∷ []) [] (field float32 0) ∷
    row coerce (f32 ∷ i8 ∷ []) [] (widened float64) ∷
    row default (u8 ∷ u16 ∷ []) [] (refusal no_joint) ∷
    row to_string (bool ∷ string 0 ∷ i32 ∷ []) [] (widened large_utf8) ∷
    row to_string (bool ∷ i32 ∷ string 0 ∷ []) [] (refusal no_joint) ∷
    row guess_dates (string 19 ∷ []) blank_datetime (field large_utf8 0) ∷
    row guess_dates (string 20 ∷ []) (blank_datetime ++ (90 ∷ [])) (field timestamp_utc 0) ∷
    row default (variant 127 ∷ []) [] (field union 128) ∷
    row default (variant 128 ∷ []) [] (refusal too_many_slots) ∷
    []
