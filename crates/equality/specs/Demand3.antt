-- Demand 3, entire: a single claim about two whole batches. Its words (accepted, equal schemas, struct records, records in another order)
-- are defined in the model's Demand3, the census in the model's Census, the answer in the model's Answer.
--
-- "For every options word with allow_to_string and enums_without_data_as_strings off, and every two batches of struct records accepted
-- under it, in whatever order their records come and whichever fields they leave out, the two schemas are equal exactly when the two
-- censuses are, provided neither batch shows one place both as struct and as map. Schemas are equal when they have equally many field
-- records and name bytes, and the same bytes in them, whatever the buffers held before. Put such a batch's records in any other order,
-- the buffers no shorter, and it is accepted again, with nothing changed in its schema but the order of struct fields."
use mathlib.Core.List.{List, Permᴰ}
use Rattle.std.specs.Prelude.{◌↔◌, ℕ}
use Rattle.model.specs.Answer.{Batch, Buffers, answer}
use Rattle.model.specs.Census.{SameCensus}
use Rattle.model.specs.Demand3.{Plain, Accepted, SameSchema, StructRecords, NoPlaceBoth, AreRecords, Split, NoShorter, SameButOrder, batch, with_records, records_of}

pub record Demand3 : Type 0 where
  -- schemas are equal exactly when censuses are
  pub equal : (options : ℕ) → Plain options
      → (commands text : List ℕ) (lent : Buffers) → Accepted (answer (batch options commands text) lent)
      → StructRecords (batch options commands text) → NoPlaceBoth (batch options commands text)
      → (commands' text' : List ℕ) (lent' : Buffers) → Accepted (answer (batch options commands' text') lent')
      → StructRecords (batch options commands' text') → NoPlaceBoth (batch options commands' text')
      → SameSchema (answer (batch options commands text) lent) (answer (batch options commands' text') lent')
      ↔ SameCensus options (records_of (batch options commands text)) (records_of (batch options commands' text'))
  -- an accepted batch is made up of records, in one way only
  pub split : (b : Batch) (lent : Buffers) → Accepted (answer b lent) → Split b
  -- these in another order are accepted again, and only the order of struct fields changes
  pub reordered : (b : Batch) → Plain b.options → (lent : Buffers) → Accepted (answer b lent) → StructRecords b → NoPlaceBoth b
      → (records others : List (List ℕ)) → AreRecords b records → Permᴰ records others
      → (lent' : Buffers) → NoShorter lent lent'
      → Accepted (answer (with_records b others) lent') × SameButOrder (answer b lent) (answer (with_records b others) lent')
