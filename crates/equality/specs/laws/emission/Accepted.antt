-- What an accepted answer tells, and when an answer is accepted.
use Rattle.std.specs.Prelude.{◌≡◌, refl, false, ◌||◌, ◌*◌, ◌≤◌, ltb, length}
use Rattle.std.proofs.Common.{arith, take_at, ltb-false, le-ltb}
use Rattle.logic.specs.Test.{when◌then◌else◌}
use Rattle.logic.specs.laws.Test.{cases}
use Rattle.options.specs.Word.{unknown_bit}
use Rattle.model.specs.Result.{Result, accepted, refused}
use Rattle.model.specs.Emission.{Fields, records_in, names_in, count_in}
use Rattle.model.specs.Answer.{table_words, Batch, Buffers, input_limit, record_bytes, schema_of, with_schema, is_short, answer_of, answer}
use Rattle.model.specs.Demand3.{Accepted, Holds}
use Rattle.equality.specs.laws.Base.{or_left_false, or_right_false}
use Rattle.equality.specs.laws.emission.Records.{length_records}
use Rattle.equality.specs.laws.tracing.Refusals.{Between, schema_of_between}

-- the batch and what is lent pass refusals 1 to 3, and the schema fits
pub record Passes (b : Batch) (lent : Buffers) (schema : Fields) : Type 0 where
  pub known : unknown_bit b.options ≡ false
  pub table : table_words ≤ length lent.table
  pub commands : length b.commands ≤ input_limit
  pub text : length b.text ≤ input_limit
  pub fields : record_bytes * count_in schema ≤ length lent.fields
  pub names : length (names_in schema) ≤ length lent.names

pub answers : (b : Batch) (lent : Buffers) (schema : Fields) → Passes b lent schema → schema_of b ≡ accepted schema → answer b lent ≡ with_schema schema lent
unfolding answer answer_of when◌then◌else◌
answers b lent schema p e =
    let a = p.table in let c = p.commands in let t = p.text in let f = p.fields in let n = p.names in
    rw (
      p.known,
      le-ltb (length lent.table) table_words a,
      le-ltb input_limit (length b.commands) c,
      le-ltb input_limit
          (length b.text) t,
      e,
      le-ltb (length lent.fields) (record_bytes * count_in schema) f,
      le-ltb (length lent.names)
          (length (names_in schema)) n,
    )

pub record Took (b : Batch) (lent : Buffers) : Type 0 where
  pub schema : Fields
  pub passes : Passes b lent schema
  pub gives : schema_of b ≡ accepted schema

pub took : (b : Batch) (lent : Buffers) → Accepted (answer b lent) → Took b lent
unfolding answer answer_of when◌then◌else◌
took b lent e =
    cases (unknown_bit b.options) (λ x. absurd (omega (arith, rw x at e))) λ known.
    cases (ltb (length lent.table) table_words) (λ x. absurd (omega (arith, rw (known, x) at e))) λ long.
    cases (ltb input_limit (length b.commands) || ltb input_limit (length b.text)) (λ x. absurd (omega (arith, rw (known, long, x) at e))) λ short.
    from known long short (schema_of b) refl (schema_of_between b) (rw (known, long, short) at e)
  where
    from : unknown_bit b.options ≡ false → ltb (length lent.table) table_words ≡ false → (ltb input_limit (length b.commands) || ltb input_limit (length b.text)) ≡ false
        → (r : Result Fields) → schema_of b ≡ r → Between 4 17 (length b.commands) r → Accepted (answer_of b lent r) → Took b lent
    from known long short (refused n at) q h z = absurd (let l = h.0 in omega arith)
    from known long short (accepted schema) q h z =
        cases (is_short schema lent) (λ x. absurd (omega (arith, rw x at z))) λ x.
        record {
          schema = schema;
          passes = record {
            known = known;
            table = ltb-false (length lent.table) table_words long;
            commands = ltb-false input_limit (length b.commands) (or_left_false (ltb input_limit (length b.commands)) (ltb input_limit (length b.text)) short);
            text = ltb-false input_limit (length b.text) (or_right_false (ltb input_limit (length b.commands)) (ltb input_limit (length b.text)) short);
            fields = ltb-false (length lent.fields) (record_bytes * count_in schema)
                (or_left_false (ltb (length lent.fields) (record_bytes * count_in schema)) (ltb (length lent.names) (length (names_in schema))) x);
            names = ltb-false (length lent.names) (length (names_in schema))
                (or_right_false (ltb (length lent.fields) (record_bytes * count_in schema))
                (ltb (length lent.names) (length (names_in schema))) x);
          };
          gives = q;
        }

-- ---- the bytes of a schema that was written
pub holds : (b : Batch) (lent : Buffers) (t : Took b lent) → Holds t.schema (answer b lent)
holds b lent t =
    rw (answers b lent t.schema t.passes t.gives)
    (record {
      records = refl;
      names = refl;
      bytes_of_records = take_at (records_in t.schema) _ (record_bytes * count_in t.schema) (length_records t.schema);
      name_bytes = take_at (names_in t.schema) _ (length (names_in t.schema)) refl;
    })
