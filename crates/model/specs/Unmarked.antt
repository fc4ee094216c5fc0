-- The marks taken off, as "the Rust is compared with the mark taken off" (document 02, 1/14): of a schema, and of the field records of an
-- answer, whose nullable bytes then are 1 where null is admitted and else 0.
use Rattle.std.specs.Prelude.{false, List, ◌∷◌, ◌++◌, ℕ, zero, suc, ◌-◌, leb, take, drop}
use Rattle.logic.specs.Test.{when◌then◌else◌}
use Rattle.model.specs.Result.{Result, accepted, refused}
use Rattle.model.specs.Tracing.{marks}
use Rattle.model.specs.Emission.{Field, mk, Fields, no_fields, more}
use Rattle.model.specs.Answer.{Answer}

-- ---- of a schema
unfoldable mutual
  pub unmarked_of : Field → Field
  unmarked_of (mk type m strategy number name fs) = mk type (marks m.null false) strategy number name (unmarked_in fs)

  pub unmarked_in : Fields → Fields
  unmarked_in no_fields = no_fields
  unmarked_in (more f fs) = more (unmarked_of f) (unmarked_in fs)

abbrev pub unmarked : Result Fields → Result Fields
unmarked (accepted schema) = accepted (unmarked_in schema)
unmarked (refused refusal place) = refused refusal place

-- ---- of an answer
-- 2 taken off a nullable byte, where it was added
unfoldable pub mark_off : ℕ → ℕ
mark_off nullable = when leb 2 nullable then nullable - 2 else nullable

-- the first of so many field records, and those after it: the type, the nullable byte, six more
unfoldable pub bytes_unmarked : ℕ → List ℕ → List ℕ
bytes_unmarked zero bytes = bytes
bytes_unmarked (suc records) (type ∷ nullable ∷ bytes) = type ∷ mark_off nullable ∷ take 6 bytes ++ bytes_unmarked records (drop 6 bytes)
bytes_unmarked (suc records) bytes = bytes

abbrev pub answer_unmarked : Answer → Answer
answer_unmarked a =
    record {
      refusal = a.refusal;
      place = a.place;
      field_records = a.field_records;
      name_bytes = a.name_bytes;
      columns = a.columns;
      left = record {
        table = a.left.table;
        fields = bytes_unmarked a.field_records a.left.fields;
        names = a.left.names;
      };
    }
