-- Taken off an answer, the marks are taken off its schema.
use Rattle.std.specs.Prelude.{◌≡◌, refl, Bool, true, false, List, ◌++◌, ℕ, suc, ◌+◌, length, drop}
use Rattle.std.proofs.Common.{ap, arith, append_assoc, length-append}
use Rattle.std.proofs.Math.Nat.{add_assoc}
use Rattle.logic.specs.Test.{when◌then◌else◌}
use Rattle.logic.specs.laws.Test.{cases}
use Rattle.model.specs.Result.{Result, accepted, refused}
use Rattle.model.specs.Tracing.{marks}
use Rattle.model.specs.Emission.{Field, mk, Fields, no_fields, more, child_count, nullable_byte, records_of, records_in, names_of, names_in, columns_of, columns_in, count_of, count_in}
use Rattle.model.specs.Answer.{Batch, Buffers, Answer, turned_down, with_schema, written, is_short, answer_of}
use Rattle.model.specs.Unmarked.{unmarked_of, unmarked_in, unmarked, mark_off, bytes_unmarked, answer_unmarked}

-- the byte without 2, where it was added
byte_unmarked : (null widened : Bool) → mark_off (nullable_byte (marks null widened)) ≡ nullable_byte (marks null false)
unfolding mark_off when◌then◌else◌
byte_unmarked true true = refl
byte_unmarked true false = refl
byte_unmarked false true = refl
byte_unmarked false false = refl

children_unmarked : (fs : Fields) → child_count (unmarked_in fs) ≡ child_count fs
unfolding unmarked_of
children_unmarked no_fields = refl
children_unmarked (more f fs) = ap suc (children_unmarked fs)

mutual
  unfolding unmarked_of count_of

  count_unmarked_of : (f : Field) → count_of (unmarked_of f) ≡ count_of f
  count_unmarked_of (mk type m strategy number name fs) = ap suc (count_unmarked fs)

  count_unmarked : (fs : Fields) → count_in (unmarked_in fs) ≡ count_in fs
  count_unmarked no_fields = refl
  count_unmarked (more f fs) = rw (count_unmarked_of f, count_unmarked fs) refl

mutual
  unfolding unmarked_of names_of

  names_unmarked_of : (f : Field) → names_of (unmarked_of f) ≡ names_of f
  names_unmarked_of (mk type m strategy number name fs) = ap (λ (x : List ℕ). name ++ x) (names_unmarked fs)

  names_unmarked : (fs : Fields) → names_in (unmarked_in fs) ≡ names_in fs
  names_unmarked no_fields = refl
  names_unmarked (more f fs) = rw (names_unmarked_of f, names_unmarked fs) refl

mutual
  unfolding unmarked_of columns_of

  columns_unmarked_of : (f : Field) → columns_of (unmarked_of f) ≡ columns_of f
  columns_unmarked_of (mk type m strategy number name fs) = rw (children_unmarked fs, columns_unmarked fs) refl

  columns_unmarked : (fs : Fields) → columns_in (unmarked_in fs) ≡ columns_in fs
  columns_unmarked no_fields = refl
  columns_unmarked (more f fs) = rw (columns_unmarked_of f, columns_unmarked fs) refl

-- record by record, whatever follows
mutual
  unfolding unmarked_of count_of records_of bytes_unmarked

  bytes_of : (f : Field) (n : ℕ) (rest : List ℕ) → bytes_unmarked (count_of f + n) (records_of f ++ rest) ≡ records_of (unmarked_of f) ++ bytes_unmarked n rest
  bytes_of (mk type m strategy number name fs) n rest =
      let e : suc (count_in fs) + n ≡ suc (count_in fs + n) = omega arith in
      rw (e, byte_unmarked m.null m.widened, children_unmarked fs, bytes_in fs n rest) refl

  bytes_in : (fs : Fields) (n : ℕ) (rest : List ℕ) → bytes_unmarked (count_in fs + n) (records_in fs ++ rest) ≡ records_in (unmarked_in fs) ++ bytes_unmarked n rest
  bytes_in no_fields n rest = let e : 0 + n ≡ n = omega arith in rw e refl
  bytes_in (more f fs) n rest =
      rw (
        append_assoc (records_of f) (records_in fs) rest,
        add_assoc (count_of f) (count_in fs) n,
        bytes_of f (count_in fs + n) (records_in fs ++ rest),
        bytes_in fs n rest,
        append_assoc (records_of (unmarked_of f)) (records_in (unmarked_in fs)) (bytes_unmarked n rest),
      )
      refl

mutual
  unfolding unmarked_of records_of

  length_of : (f : Field) → length (records_of (unmarked_of f)) ≡ length (records_of f)
  length_of (mk type m strategy number name fs) = rw (length_in fs) refl

  length_in : (fs : Fields) → length (records_in (unmarked_in fs)) ≡ length (records_in fs)
  length_in no_fields = refl
  length_in (more f fs) =
      rw (length-append (records_of (unmarked_of f)) (records_in (unmarked_in fs)), length-append (records_of f) (records_in fs), length_of f, length_in fs) refl

-- of a whole buffer: what stands past the records is as it was
buffer_unmarked : (fs : Fields) (buffer : List ℕ) → bytes_unmarked (count_in fs) (written (records_in fs) buffer) ≡ written (records_in (unmarked_in fs)) buffer
unfolding bytes_unmarked
buffer_unmarked fs buffer =
    let e : count_in fs + 0 ≡ count_in fs = omega arith in
    rw (length_in fs) (rw e at (bytes_in fs 0 (drop (length (records_in fs)) buffer)))

schema_unmarked : (fs : Fields) (lent : Buffers) → answer_unmarked (with_schema fs lent) ≡ with_schema (unmarked_in fs) lent
schema_unmarked fs lent = rw (count_unmarked fs, names_unmarked fs, columns_unmarked fs, buffer_unmarked fs lent.fields) refl

short_unmarked : (fs : Fields) (lent : Buffers) → is_short (unmarked_in fs) lent ≡ is_short fs lent
short_unmarked fs lent = rw (count_unmarked fs, names_unmarked fs) refl

pub marks_off : (b : Batch) (lent : Buffers) (r : Result Fields) → answer_unmarked (answer_of b lent r) ≡ answer_of b lent (unmarked r)
unfolding answer_of bytes_unmarked when◌then◌else◌
marks_off b lent (refused refusal place) = refl
marks_off b lent (accepted schema) =
    cases (is_short schema lent)
    (λ e. rw (short_unmarked schema lent, e) refl)
    (λ e. rw (short_unmarked schema lent, e) (schema_unmarked schema lent))

-- what turns a batch down has no marks
pub turned_unmarked : (refusal place : ℕ) (left : Buffers) → answer_unmarked (turned_down refusal place left) ≡ turned_down refusal place left
unfolding bytes_unmarked
turned_unmarked refusal place left = refl

-- and an answer without field records has none to take off
pub none_unmarked : (a : Answer) → a.field_records ≡ 0 → answer_unmarked a ≡ a
unfolding bytes_unmarked
none_unmarked a e = rw e refl
