-- P1 to P12 hold of the whole answer, from bytes.
use Rattle.std.specs.Prelude.{◌≡◌, refl, Bool, true, not, ◌&&◌, ◌||◌, List, [], ◌∷◌, map, ℕ, zero, suc, ◌*◌, leb, ltb, length}
use Rattle.std.proofs.Common.{ap, ◌∙◌, arith, le-ltb, leb-true}
use Rattle.std.proofs.lemmas.Bool.{not-true}
use Rattle.logic.specs.Test.{when◌then◌else◌}
use Rattle.logic.specs.laws.Test.{both, neither}
use Rattle.logic.specs.All.{All}
use Rattle.options.specs.Word.{unknown_bit}
use Rattle.text.specs.Name.{eq_name, dots}
use Rattle.text.specs.Utf8 as U
use Rattle.chrono.specs.Grammar as G
use Rattle.chrono.specs.Text.{text_type, first_fit}
use Rattle.coerce.specs.Joint as J
use Rattle.commands.specs.Commands as C
use Rattle.model.specs.Result.{Result, accepted, refused}
use Rattle.model.specs.Kinds.{same}
use Rattle.model.specs.Reading as R
use Rattle.model.specs.Tracing as T
use Rattle.model.specs.Emission as E
use Rattle.model.specs.Answer.{input_limit, table_words, record_bytes, Batch, Buffers, schema_of, written, answer_of, answer}
use Rattle.model.specs.Soundings.{Sounding, batch, most_records, most_bytes, Roomy, first_of, outcome, soundings}

-- what an outcome says in buffers that have room
abbrev told : Result E.Fields → List ℕ
told (refused number place) = number ∷ 0 ∷ []
told (accepted schema) = 0 ∷ E.count_in schema ∷ first_of (E.count_in schema) (E.records_in schema)

-- a schema that has room
abbrev has_room : Result E.Fields → Bool
has_room (refused number place) = true
has_room (accepted schema) = leb (E.count_in schema) most_records && leb (length (E.names_in schema)) most_bytes

-- the first record stands first
first_written : (n : ℕ) (f : E.Field) (fs : E.Fields) (buffer : List ℕ) →
    first_of n (written (E.records_in (E.more f fs)) buffer) ≡ first_of n (E.records_in (E.more f fs))
unfolding E.records_in
first_written zero f fs buffer = refl
first_written (suc n) (E.mk type nullable strategy number name gs) fs buffer = refl

written_told : (schema : E.Fields) (buffer : List ℕ) → first_of (E.count_in schema) (written (E.records_in schema) buffer) ≡ first_of (E.count_in schema) (E.records_in schema)
unfolding E.count_in
written_told E.no_fields buffer = refl
written_told (E.more f fs) buffer = first_written (E.count_in (E.more f fs)) f fs buffer

outcome_told : (b : Batch) (lent : Buffers) → Roomy lent → (r : Result E.Fields) → has_room r ≡ true → outcome (answer_of b lent r) ≡ told r
unfolding answer_of when◌then◌else◌
outcome_told b lent roomy (refused number place) h = refl
outcome_told b lent roomy (accepted schema) h =
    both (leb (E.count_in schema) most_records) (leb (length (E.names_in schema)) most_bytes) h λ a c.
    let k = roomy.fields in
    let l = roomy.names in
    rw (
      le-ltb (length lent.fields) (record_bytes * E.count_in schema) (omega (arith, leb-true (E.count_in schema) most_records a)),
      le-ltb (length lent.names) (length (E.names_in schema)) (omega (arith, leb-true (length (E.names_in schema)) most_bytes c)),
    )
    (ap (λ (bytes : List ℕ). 0 ∷ E.count_in schema ∷ bytes) (written_told schema lent.fields))

-- none of refusals 1 and 3 applies
abbrev is_taken : Batch → Bool
is_taken b = not (unknown_bit b.options || ltb input_limit (length b.commands) || ltb input_limit (length b.text))

answer_told : (b : Batch) (lent : Buffers) → Roomy lent → is_taken b ≡ true → has_room (schema_of b) ≡ true → outcome (answer b lent) ≡ told (schema_of b)
unfolding answer when◌then◌else◌
answer_told b lent roomy t h =
    neither (unknown_bit b.options || ltb input_limit (length b.commands)) (ltb input_limit (length b.text)) (not-true _ t) λ a text.
    neither (unknown_bit b.options) (ltb input_limit (length b.commands)) a λ known commands.
    rw (known, le-ltb (length lent.table) table_words roomy.table, commands, text) (outcome_told b lent roomy (schema_of b) h)

-- the table, computed
abbrev computed : Sounding → Bool × List ℕ
computed s = (is_taken (batch s) && has_room (schema_of (batch s)), told (schema_of (batch s)))

abbrev given : Sounding → Bool × List ℕ
given s = (true, s.gives)

table : map computed soundings ≡ map given soundings
unfolding soundings when◌then◌else◌ eq_name dots text_type first_fit same schema_of U.within U.due_in U.reads U.fits G.leads_many G.leads G.fits J.number_joint J.joint_of_numbers J.joint_with_string J.joint_of_timestamps J.joint_of_unequal J.joint C.form_of C.operands C.made C.name_in C.bad_command C.bad_name C.read_command R.shape_of R.next_part R.records_from R.values R.read_value R.read_shape R.read_parts T.meet T.steps_of T.has T.kid_at T.put T.clashes T.room T.made T.make T.holds T.tally T.observe_all T.trace T.observe T.observe_parts E.insert_variant E.by_number E.dataless_from E.type_of E.strategy_of E.insert_field E.by_name E.gaps E.arranged E.to_schema E.place_of E.places_of E.walk E.walks E.field_of E.fields_of E.records_of E.records_in E.names_of E.names_in E.count_of E.count_in
table = refl

abbrev pub Sounds : Sounding → Type 0
Sounds s = (lent : Buffers) → Roomy lent → outcome (answer (batch s) lent) ≡ s.gives

each : (ss : List Sounding) → map computed ss ≡ map given ss → All Sounds ss
each [] e = tt
each (s ∷ ss) e =
    let here : computed s ≡ given s = cc in
    let others : map computed ss ≡ map given ss = cc in (
      λ lent roomy. both (is_taken (batch s)) (has_room (schema_of (batch s))) (ap (λ (p : Bool × List ℕ). p.0) here) λ t h.
          answer_told (batch s) lent roomy t h ∙ ap (λ (p : Bool × List ℕ). p.1) here,
      each ss others,
    )

pub sounded : All Sounds soundings
sounded = each soundings table
