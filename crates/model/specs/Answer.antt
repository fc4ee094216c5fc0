-- The answer of the whole call, for whatever is handed in: refusal, place, counts, both buffers with their tails, and the work table.
use Rattle.std.specs.Prelude.{Bool, true, false, ◌||◌, List, ◌++◌, ◌≡◌, ℕ, ◌*◌, ◌≤◌, ltb, length, drop, replicate}
use Rattle.logic.specs.Test.{when◌then◌else◌}
use Rattle.options.specs.Word.{unknown_bit}
use Rattle.refusal.specs.Number.{unknown_option, short_table, long_input, short_buffer}
use Rattle.model.specs.Result.{Result, accepted, refused, ◌>>=◌}
use Rattle.model.specs.Reading.{values, all_whole}
use Rattle.model.specs.Tracing.{trace}
use Rattle.model.specs.Emission.{Fields, to_schema, records_in, names_in, columns_in, count_in}

-- words of 32 bits that the work table has at least
abbrev pub table_words : ℕ
table_words = 16384

-- commands and text have at most so many bytes
abbrev pub input_limit : ℕ
input_limit = 65535

-- the eight bytes of a field record
abbrev pub record_bytes : ℕ
record_bytes = 8

-- what is handed in, beside the buffers that are lent
pub record Batch : Type 0 where
  pub options : ℕ
  pub commands : List ℕ
  pub text : List ℕ

-- the work table and the two output buffers
pub record Buffers : Type 0 where
  pub table : List ℕ
  pub fields : List ℕ
  pub names : List ℕ

-- on success refusal and place are 0; on a refusal every count is 0
pub record Answer : Type 0 where
  pub refusal : ℕ
  pub place : ℕ
  pub field_records : ℕ
  pub name_bytes : ℕ
  pub columns : ℕ
  -- what is left in what was lent
  pub left : Buffers

-- Tracer::from_samples with the bound on places, and then Tracer::to_schema: refusals 4 to 17
unfoldable pub schema_of : Batch → Result Fields
schema_of b =
    trace b.options (values b.options b.commands b.text)
    >>= λ traced. to_schema b.options (length b.commands) traced.what

-- a batch is well-formed if, read through without tracing, none of refusals 1 and 3 to 6 applies
pub record WellFormed (b : Batch) : Type 0 where
  pub known : unknown_bit b.options ≡ false
  pub commands : length b.commands ≤ input_limit
  pub text : length b.text ≤ input_limit
  pub whole : all_whole (values b.options b.commands b.text) ≡ true

-- a refusal changes neither output buffer
abbrev pub turned_down : ℕ → ℕ → Buffers → Answer
turned_down refusal place left = record { refusal = refusal; place = place; field_records = 0; name_bytes = 0; columns = 0; left = left }

-- the first bytes written, and past them the buffer untouched
abbrev pub written : List ℕ → List ℕ → List ℕ
written bytes buffer = bytes ++ drop (length bytes) buffer

-- a work table with its first words zero, and the others as they were
unfoldable pub cleared : List ℕ → ℕ → List ℕ
cleared table count = replicate count 0 ++ drop count table

-- from refusal 4 on, and on success, the work table's first words end as zeros
abbrev pub zeroed : Buffers → Buffers
zeroed lent = record { table = cleared lent.table table_words; fields = lent.fields; names = lent.names }

abbrev pub with_schema : Fields → Buffers → Answer
with_schema schema lent =
    record {
      refusal = 0;
      place = 0;
      field_records = count_in schema;
      name_bytes = length (names_in schema);
      columns = columns_in schema;
      left = record {
        table = cleared lent.table table_words;
        fields = written (records_in schema) lent.fields;
        names = written (names_in schema) lent.names;
      };
    }

-- an output buffer is too short
abbrev pub is_short : Fields → Buffers → Bool
is_short schema lent = ltb (length lent.fields) (record_bytes * count_in schema) || ltb (length lent.names) (length (names_in schema))

unfoldable pub answer_of : Batch → Buffers → Result Fields → Answer
answer_of b lent (refused refusal place) = turned_down refusal place (zeroed lent)
answer_of b lent (accepted schema) =
    when is_short schema lent then turned_down short_buffer (length b.commands) (zeroed lent)
    else with_schema schema lent

unfoldable pub answer : Batch → Buffers → Answer
answer b lent =
    when unknown_bit b.options then turned_down unknown_option 0 lent
    else when ltb (length lent.table) table_words then turned_down short_table 0 lent
    else when ltb input_limit (length b.commands) || ltb input_limit (length b.text) then turned_down long_input 0 lent
    else answer_of b lent (schema_of b)
