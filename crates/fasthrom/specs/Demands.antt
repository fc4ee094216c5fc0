-- What the user demands of the call `fasthrom_trace`, in three theorems: demand_1, demand_2 and demand_3; document 01's soundings P1 to P12
-- in a fourth; and what demand_2 says of the Rust, said of the definitions in either edition, in a fifth: as_defined. Each is said of any
-- call that its contract allows, so of every call that is made; that a call ends at all is part of what is proved of a function.
--
-- The words are those of the model: Batch, Buffers, Answer, schema_of, with_schema, turned_down (Answer), from commands to values (Reading),
-- places (Tracing, Unbounded), how many they are and which command needs them (Bound), field records (Emission), the mark of a widened
-- place taken off (Unmarked), the census (Census), equal schemas and records in another order (Demand3), P1 to P12 (Soundings).
use Rattle.std.specs.Prelude.{◌≡◌, refl, false, ◌⊎◌, ◌↔◌, ℕ, ◌≤◌, length}
use Rattle.std.proofs.Common.{ap, sym, ◌∙◌, inl, inr, zero-le, arith}
use mathlib.Core.List.{List, Permᴰ}
use Rattle.logic.specs.All.{All}
use Rattle.logic.specs.laws.All.{all_map}
use Rattle.options.specs.Word.{edition2}
use Rattle.refusal.specs.Number.{too_many_places}
use Rattle.model.specs.Result.{Result, accepted, ◌>>=◌}
use Rattle.model.specs.Tracing.{Tree, fresh, place_limit}
use Rattle.model.specs.Unbounded.{see_all}
use Rattle.model.specs.Bound.{AtMost, Exceeds}
use Rattle.model.specs.Emission.{Fields, to_schema}
use Rattle.model.specs.Answer.{table_words, Batch, Buffers, Answer, WellFormed, schema_of, is_short, cleared, turned_down, zeroed, with_schema, answer_of, answer}
use Rattle.model.specs.Unmarked.{unmarked, answer_unmarked}
use Rattle.model.specs.laws.Unmarked.{marks_off, turned_unmarked, none_unmarked}
use Rattle.model.specs.Census.{SameCensus}
use Rattle.model.specs.Demand3.{Plain, Accepted, SameSchema, StructRecords, NoPlaceBoth, Split, NoShorter, SameButOrder, with_records, records_of}
use Rattle.model.specs.Soundings.{Sounding, batch, Roomy, outcome, soundings}
use Rattle.model.specs.laws.Sounded.{sounded}
use Rattle.fasthrom.specs.declared.Answer as R
use Rattle.fasthrom.specs.Called.{said, Called}
use Rattle.equality.specs.laws.emission.Answers.{Ending, barred, turned, whole, answer_ends}
use Rattle.equality.specs.laws.emission.Bounded.{read_through, as_unbounded, as_demanded, exactly, by_census, past_reading}
use Rattle.call.specs.laws.Demand3.{Took, alike, apart, again}

-- One call: what was handed in and lent, the numbers answered and what was left in the buffers, tied by the function's contract.
pub record Call : Type 0 where
  pub batch : Batch
  pub lent : Buffers
  pub numbers : R.Answer
  pub left : Buffers
  pub contract : Called batch lent numbers left

-- the five numbers of its answer, and what it left
abbrev pub gave : Call → Answer
gave call = said call.numbers call.left

is : (call : Call) → gave call ≡ answer call.batch call.lent
unfolding Called
is call = call.contract

-- ---- Demand 1
-- "Whatever commands, texts, options word and buffers are handed in, the call ends with the whole schema or with one of eighteen refusals
-- and a place. A refusal changes neither output buffer; from refusal 4 on, and on success, the work table's first 16,384 words end as
-- zeros. Callers need test nothing first."

-- the whole schema, in buffers that it fits; what stands past it is untouched, and the table is zeroed
pub record Whole (b : Batch) (lent : Buffers) (a : Answer) : Type 0 where
  pub schema : Fields
  pub traced : schema_of b ≡ accepted schema
  pub fits : is_short schema lent ≡ false
  pub given : a ≡ with_schema schema lent

-- one of eighteen refusals and a place
pub record TurnedDown (b : Batch) (lent : Buffers) (a : Answer) : Type 0 where
  pub least : 1 ≤ a.refusal
  pub most : a.refusal ≤ 18
  pub place : a.place ≤ length b.commands
  pub field_records : a.field_records ≡ 0
  pub name_bytes : a.name_bytes ≡ 0
  pub columns : a.columns ≡ 0
  -- a refusal changes neither output buffer
  pub fields : a.left.fields ≡ lent.fields
  pub names : a.left.names ≡ lent.names
  -- 1 to 3 leave the work table alone
  pub early : a.refusal ≤ 3 → (a.place ≡ 0) × (a.left.table ≡ lent.table)
  -- from refusal 4 on its first 16,384 words end as zeros
  pub late : 4 ≤ a.refusal → a.left.table ≡ cleared lent.table table_words

abbrev pub Demand1 : Batch → Buffers → Answer → Type 0
Demand1 b lent a = Whole b lent a ⊎ TurnedDown b lent a

ends : (b : Batch) (lent : Buffers) (a : Answer) → Ending b lent a → Demand1 b lent a
ends b lent a (whole schema traced fits) = inl (record { schema = schema; traced = traced; fits = fits; given = refl })
ends b lent a (barred n low high) =
    inr (record {
      least = low;
      most = omega arith;
      place = zero-le;
      field_records = refl;
      name_bytes = refl;
      columns = refl;
      fields = refl;
      names = refl;
      early = λ h. (refl, refl);
      late = λ h. absurd (omega arith);
    })
ends b lent a (turned n place low high inside short) =
    inr (record {
      least = omega arith;
      most = high;
      place = inside;
      field_records = refl;
      name_bytes = refl;
      columns = refl;
      fields = refl;
      names = refl;
      early = λ h. absurd (omega arith);
      late = λ h. refl;
    })

pub demand_1 : (call : Call) → Demand1 call.batch call.lent (gave call)
demand_1 call = rw (is call) (ends call.batch call.lent (answer call.batch call.lent) (answer_ends call.batch call.lent))

-- ---- Demand 2
-- "Answer, field records and name bytes: on every well-formed batch of at most 1,024 places whose schema fits, given a full-length work
-- table, they equal what Tracer::from_samples and then Tracer::to_schema give, refusal causes included, proved against definitions from
-- Arrow's Schema.fbs, the Serde data model and document 01." Document 02, 4/14: "Edition 1 is compared with the Rust, edition 2 with the
-- definition alone"; 1/14: "The Rust is compared with the mark taken off".

-- tracing from samples as the definitions have it, in either edition, without a bound on places
abbrev pub unbounded : Batch → Result Tree
unbounded b = see_all b.options 0 (records_of b) fresh

-- Tracer::from_samples, which knows edition 1 alone
abbrev pub from_samples : (b : Batch) → edition2 b.options ≡ false → Result Tree
from_samples b first = unbounded b

-- and then the schema, as the definitions have it
abbrev pub then_to_schema : Batch → Result Tree → Result Fields
then_to_schema b traced = traced >>= to_schema b.options (length b.commands)

-- Tracer::to_schema, which knows no mark
abbrev pub then_unmarked : Batch → Result Tree → Result Fields
then_unmarked b traced = unmarked (then_to_schema b traced)

-- the answer equals what such tracing gives, and then such a schema
pub record AsTraced (b : Batch) (lent : Buffers) (a : Answer) (traced : Result Tree) (schema : Result Fields) : Type 0 where
  -- a batch of at most 1,024 places, read off its census, gets what that gives: its refusal and place, or its schema, which fits or
  -- gets 18
  pub within : AtMost place_limit b.options (records_of b) → a ≡ answer_of b lent schema
  -- so does every other in which no command needs a 1,025th place, or something is refused before
  pub equal : ((p : ℕ) → Exceeds b.options (records_of b) p → ⊥) → a ≡ answer_of b lent schema
  -- 11 is said at p exactly if the command there is the first that needs a 1,025th place, and nothing is refused before p
  pub eleven : (p : ℕ) → (a ≡ turned_down too_many_places p (zeroed lent)) ↔ Exceeds b.options (records_of b) p
  -- of what is traced to the end it is said exactly if the census knows more than 1,024 places
  pub places : (tree : Tree) → traced ≡ accepted tree
      → (a.refusal ≡ too_many_places) ↔ (AtMost place_limit b.options (records_of b) → ⊥)
  -- a well-formed batch is turned down for none of 1 to 6
  pub read : (a.refusal ≡ 0) ⊎ (7 ≤ a.refusal)

-- in either edition, by the definitions
pub as_defined : (call : Call) → WellFormed call.batch → table_words ≤ length call.lent.table →
    AsTraced call.batch call.lent (gave call) (unbounded call.batch) (then_to_schema call.batch (unbounded call.batch))
as_defined call w t =
    let b = call.batch in
    let lent = call.lent in
    rw (is call ∙ read_through b lent w t)
    (record {
      within = as_demanded b lent w;
      equal = as_unbounded b lent w;
      eleven = exactly b lent w;
      places = by_census b lent w;
      read = past_reading b lent w;
    })

-- the mark taken off both
without_mark : (b : Batch) (lent : Buffers) (a : Answer) (traced : Result Tree) → AsTraced b lent a traced (then_to_schema b traced) →
    AsTraced b lent (answer_unmarked a) traced (then_unmarked b traced)
without_mark b lent a traced d =
    record {
      within = λ few. ap answer_unmarked (d.within few) ∙ marks_off b lent (then_to_schema b traced);
      equal = λ none. ap answer_unmarked (d.equal none) ∙ marks_off b lent (then_to_schema b traced);
      eleven = λ p. (
        λ e. (d.eleven p).0 (sym (none_unmarked a (ap (λ (x : Answer). x.field_records) e)) ∙ e),
        λ x. ap answer_unmarked ((d.eleven p).1 x) ∙ turned_unmarked too_many_places p (zeroed lent),
      );
      places = d.places;
      read = d.read;
    }

-- in edition 1, by the Rust, with the mark taken off
pub demand_2 : (call : Call) → (first : edition2 call.batch.options ≡ false) → WellFormed call.batch →
    table_words ≤ length call.lent.table →
    let rust = from_samples call.batch first in
    AsTraced call.batch call.lent (answer_unmarked (gave call)) rust (then_unmarked call.batch rust)
demand_2 call first w t = without_mark call.batch call.lent (gave call) (unbounded call.batch) (as_defined call w t)

-- ---- Demand 3
-- "For every options word with allow_to_string and enums_without_data_as_strings off, and every two batches of struct records accepted
-- under it, in whatever order their records come and whichever fields they leave out, the two schemas are equal exactly when the two
-- censuses are, provided neither batch shows one place both as struct and as map. Schemas are equal when they have equally many field
-- records and name bytes, and the same bytes in them, whatever the buffers held before. Put such a batch's records in any other order,
-- the buffers no shorter, and it is accepted again, with nothing changed in its schema but the order of struct fields. The census is
-- counted from the records without merging anything." Document 02, 4/14: "equal censuses decide equal schemas in either [edition], for two
-- batches of one edition"; the options word says which, and both calls have the same.

-- a call with struct records, accepted under that options word
pub record Taken (options : ℕ) (call : Call) : Type 0 where
  pub under : call.batch.options ≡ options
  pub taken : Accepted (gave call)
  pub structs : StructRecords call.batch
  pub not_both : NoPlaceBoth call.batch

took : {options : ℕ} {call : Call} → Taken options call → Took call.batch (gave call)
took a = (a.taken, a.structs, a.not_both)

pub record Reordered (call : Call) : Type 0 where
  -- the batch is made up of records, in one way only
  pub split : Split call.batch
  -- in any other order, the buffers no shorter, they are accepted again, and only the order of struct fields changes
  pub again : (others : List (List ℕ)) → Permᴰ split.records others
      → (other : Call) → other.batch ≡ with_records call.batch others → NoShorter call.lent other.lent
      → Accepted (gave other) × SameButOrder (gave call) (gave other)

pub record Demand3 : Type 0 where
  -- schemas are equal exactly when censuses are
  pub equal : (options : ℕ) → Plain options → (call other : Call) → Taken options call → Taken options other
      → SameSchema (gave call) (gave other) ↔ SameCensus options (records_of call.batch) (records_of other.batch)
  -- and the records of such a batch may come in any other order
  pub reordered : (options : ℕ) → Plain options → (call : Call) → Taken options call → Reordered call

reorder : (options : ℕ) → Plain options → (call : Call) → Taken options call → Reordered call
reorder options plain call a =
    let s = apart call.batch call.lent (gave call) (is call) a.taken in
    record {
      split = s;
      again = λ others perm other e long.
          again options plain call.batch other.batch call.lent other.lent (gave call) (gave other)
          (is call) (is other) a.under (took a) s.records others s.are perm e long;
    }

pub demand_3 : Demand3
demand_3 =
    record {
      equal = λ options plain call other a b.
          alike options plain call.batch other.batch call.lent other.lent (gave call) (gave other)
          (is call) (is other) a.under b.under (took a) (took b);
      reordered = reorder;
    }

-- ---- Soundings
-- P1 to P12 of document 01, of every call that is handed one of their batches, with buffers long enough
pub p1_to_p12 : All (λ (s : Sounding). (call : Call) → call.batch ≡ batch s → Roomy call.lent → outcome (gave call) ≡ s.gives)
    soundings
p1_to_p12 =
    all_map _ _ soundings
    (λ s h call e roomy. ap outcome (is call ∙ ap (λ (b : Batch). answer b call.lent) e) ∙ h call.lent roomy) sounded
