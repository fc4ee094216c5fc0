-- When a stored question and the call agree: the model's answer, which the call gives, is the one that is stored, and what is left in the
-- table and the buffers, in the parts that were lent and in the others, is what must be.
use Rattle.std.specs.Prelude.{◌≡◌, Bool, ◌&&◌, List, ◌++◌, ℕ, min, eqb, leb, length, take, drop, replicate}
use Rattle.logic.specs.Slices.{MutSlice}
use Rattle.text.specs.Name.{eq_name}
use Rattle.files.specs.Bytes.{two_bytes, between}
use Rattle.questions.specs.Question.{number_at, names_from, commands_in, text_in, records_in, names_in, question_end}
use Rattle.questions.specs.Left.{lent_word, lent_buffer, written_over, left_table}
use Rattle.replay.specs.declared.Tally.{Tally}
use Rattle.replay.specs.Tally.{tally}
use Rattle.model.specs.Answer.{Batch, Buffers, Answer, answer}
use Rattle.model.specs.Demand3.{batch}
use Rattle.call.specs.Call.{lent, lent_in, left_in}
use Rattle.fasthrom.specs.declared.Answer as R
use Rattle.answers_vectors.specs.declared.Parts.{Parts}
use Rattle.fasthrom.specs.Called.{said}

-- ---- the call over a part of each buffer
-- the first of a buffer, as many as a number says, or all
abbrev pub first : ℕ → List ℕ → List ℕ
first n buffer = take (min n (length buffer)) buffer

-- the whole buffer, with what is left of that part
abbrev pub whole : ℕ → List ℕ → List ℕ → List ℕ
whole n buffer part = part ++ drop (min n (length buffer)) buffer

-- as much of the table and the buffers as a question lends
abbrev pub lent_of : List ℕ → Buffers → Buffers
lent_of question all =
    lent (first (number_at question 0) all.table) (first (number_at question 3) all.fields) (first (number_at question 4) all.names)

-- an answer, with what it leaves in the whole of them
abbrev pub in_all : List ℕ → Buffers → Answer → Answer
in_all question all a =
    record {
      refusal = a.refusal;
      place = a.place;
      field_records = a.field_records;
      name_bytes = a.name_bytes;
      columns = a.columns;
      left =
          lent (whole (number_at question 0) all.table a.left.table) (whole (number_at question 3) all.fields a.left.fields)
          (whole (number_at question 4) all.names a.left.names);
    }

-- the model's answer where a question lends parts, said of the whole
unfoldable pub answer_over : List ℕ → Batch → Buffers → Answer
answer_over question b all = in_all question all (answer b (lent_of question all))

-- ---- a question and its answer
-- words of the table, of which a question lends the first
abbrev pub table_lent : ℕ
table_lent = 16400

-- all of the table and the buffers, before the call
unfoldable pub patterned : Buffers
patterned = lent (replicate table_lent lent_word) lent_buffer lent_buffer

-- the answer that is stored, and what must be left
unfoldable pub stored : (question records names : List ℕ) → Answer
stored question records names =
    record {
      refusal = number_at question 5;
      place = number_at question 6;
      field_records = number_at question 7;
      name_bytes = number_at question 8;
      columns = number_at question 9;
      left = lent (left_table (number_at question 5) table_lent) (written_over records) (written_over names);
    }

-- what is handed in with a question
abbrev pub handed : (question commands text : List ℕ) → Batch
handed question commands text = batch (two_bytes question 0) commands text

-- the call gives what is stored
abbrev pub Gives : (question commands text records names : List ℕ) → Type 0
Gives question commands text records names = answer_over question (handed question commands text) patterned ≡ stored question records names

-- equality as a test (eq_name is that of lists)
abbrev pub same_buffers : Buffers → Buffers → Bool
same_buffers a b = eq_name a.table b.table && (eq_name a.fields b.fields && eq_name a.names b.names)

unfoldable pub same_answer : Answer → Answer → Bool
same_answer a b =
    (eqb a.refusal b.refusal && (eqb a.place b.place && eqb a.columns b.columns))
    && ((eqb a.field_records b.field_records && eqb a.name_bytes b.name_bytes) && same_buffers a.left b.left)

-- the question is whole, and the call gives its answer
unfoldable pub agrees : List ℕ → Bool
agrees question =
    leb (names_from question) (length question)
    && same_answer (answer_over question (handed question (commands_in question) (text_in question)) patterned)
    (stored question (records_in question) (names_in question))

-- the questions of a file: how many there are, and how many do not agree
abbrev pub question_tally : List ℕ → Tally
question_tally vectors = tally (length vectors) (question_end vectors) (λ at. agrees (between at (question_end vectors at) vectors))

-- ---- the same of a question's parts, as contracts have them
-- the call, lent as much of the table and the buffers as the question says
abbrev pub CalledOver : Parts → (table fields names : MutSlice) → R.Answer → Type 0
CalledOver parts table fields names r =
    said r (left_in table fields names)
    ≡ answer_over parts.question.bytes.now (handed parts.question.bytes.now parts.commands.now parts.text.now) (lent_in table fields names)

abbrev pub Met : Parts → Type 0
Met parts = Gives parts.question.bytes.now parts.commands.now parts.text.now parts.records.now parts.names.now
