-- What the call promises: its answer, and what it leaves in what was lent, are the model's `answer` of what was handed in.
use Rattle.std.specs.Prelude.{◌≡◌, Result, Ok, Err, List, ℕ, length}
use Rattle.logic.specs.Slices.{Slice, MutSlice, now_of, at_entry, at_exit}
use Rattle.refusal.specs.declared.Refusal.{Refusal}
use Rattle.refusal.specs.declared.Refused.{Refused}
use Rattle.refusal.specs.Number.{number_of}
use Rattle.model.specs.Answer as M
use Rattle.model.specs.Answer.{Batch, Buffers, schema_of, turned_down, answer_of, answer}
use Rattle.model.specs.Demand3.{batch}
use Rattle.words.specs.Word.{zeros}
use Rattle.walk.specs.declared.Counts.{Counts}
use Rattle.leaves.specs.Leaves.{Out, out}
use Rattle.samples.specs.Samples.{from_samples}
use Rattle.order.specs.Sort.{sorted_places}
use Rattle.schema.specs.Emit.{Answered, answered, to_schema_at}

abbrev pub lent : List ℕ → List ℕ → List ℕ → Buffers
lent table fields names = record { table = table; fields = fields; names = names }

-- what is handed in, and what is lent, by the slices of a call; and what it leaves in them
abbrev pub handed_in : ℕ → Slice → Slice → Batch
handed_in options commands text = batch options (now_of commands) (now_of text)

abbrev pub lent_in : MutSlice → MutSlice → MutSlice → Buffers
lent_in table fields names = lent (at_entry table) (at_entry fields) (at_entry names)

abbrev pub left_in : MutSlice → MutSlice → MutSlice → Buffers
left_in table fields names = lent (at_exit table) (at_exit fields) (at_exit names)

-- a refusal, at a place
abbrev pub refused_at : Refusal → ℕ → Refused
refused_at refusal place = record { refusal = refusal; place = place }

-- what the call answers
abbrev pub Outcome : Type 0
Outcome = Result Counts Refused

-- document 01's numbers for each case of an outcome
abbrev pub answer_by : Outcome → Buffers → M.Answer
answer_by (Ok counts) left =
    record { refusal = 0; place = 0; field_records = counts.records; name_bytes = counts.names; columns = counts.columns; left = left }
answer_by (Err r) left = turned_down (number_of r.refusal) r.place left

-- the answer where none of 1 to 3 applies
abbrev pub answer_read : Batch → Buffers → M.Answer
answer_read b lent = answer_of b lent (schema_of b)

-- what the call promises of its outcome, whatever is handed in; and what it promises where none of 1 to 3 applies
abbrev pub Answers : Batch → Buffers → Outcome → Buffers → Type 0
Answers b lent r left = answer_by r left ≡ answer b lent

abbrev pub AnswersRead : Batch → Buffers → Outcome → Buffers → Type 0
AnswersRead b lent r left = answer_by r left ≡ answer_read b lent

-- ---- over the words of a table
-- an outcome and both buffers
pub data Given : Type 0 where
  given : Outcome → (fields names : List ℕ) → Given

abbrev pub as_given : ℕ → Answered → Given
as_given end (answered (Ok counts) fields names) = given (Ok counts) fields names
as_given end (answered (Err refusal) fields names) = given (Err (refused_at refusal end)) fields names

-- what follows tracing: the children are put in order, and the schema is emitted
abbrev pub emitted_from : ℕ → List ℕ → List ℕ → List ℕ → List ℕ → Out → Given
emitted_from options commands text fields names (out (Err refused) t) = given (Err refused) fields names
emitted_from options commands text fields names (out (Ok traced) t) =
    as_given (length commands) (to_schema_at options text (sorted_places text t traced.count) fields names)

-- Tracer::from_samples and then Tracer::to_schema, on the words of a table that is lent and ends as zeros
abbrev pub TracesAndEmits : ℕ → Slice → Slice → MutSlice → MutSlice → MutSlice → Outcome → Type 0
TracesAndEmits options commands text table fields names r =
    (given r (at_exit fields) (at_exit names)
    ≡ emitted_from options (now_of commands) (now_of text) (at_entry fields) (at_entry names)
    (from_samples (now_of commands) (now_of text) options (at_entry table))) × (at_exit table ≡ zeros)
