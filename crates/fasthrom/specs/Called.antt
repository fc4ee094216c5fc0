-- What `fasthrom_trace` promises: its five numbers, and what it leaves in what was lent, are the model's `answer` of what was handed in.
use Rattle.std.specs.Prelude.{◌≡◌}
use Rattle.model.specs.Answer as M
use Rattle.model.specs.Answer.{Batch, Buffers, answer}
use Rattle.fasthrom.specs.declared.Answer.{Answer}

-- the five numbers, and what is left in what was lent
abbrev pub said : Answer → Buffers → M.Answer
said r left =
    record {
      refusal = r.refusal;
      place = r.place;
      field_records = r.field_records;
      name_bytes = r.name_bytes;
      columns = r.columns;
      left = left;
    }

-- the contract: handed a batch and lent buffers, it answers so and leaves the buffers so
unfoldable pub Called : Batch → Buffers → Answer → Buffers → Type 0
Called b lent r left = said r left ≡ answer b lent
