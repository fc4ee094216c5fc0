-- The batches of a file one after another: each is the options word, the lengths of its commands and of its text, two bytes each, and both.
use Rattle.std.specs.Prelude.{◌≡◌, List, ℕ, Option, None, Some, ◌+◌, ◌<◌, ◌≤◌, length, drop}
use Rattle.files.specs.Bytes.{two_bytes, between}
use Rattle.samples_vectors.specs.declared.Batch.{Batch}
use Rattle.samples_vectors.specs.declared.Batches.{Batches}

-- where the commands of a batch end, whose first byte is the first of these, and where its text ends, and with it the batch
abbrev pub commands_end : List ℕ → ℕ
commands_end bytes = 6 + two_bytes bytes 2

abbrev pub batch_end : List ℕ → ℕ
batch_end bytes = commands_end bytes + two_bytes bytes 4

-- the next batch is the first of what is left, and goes with its bytes; where that is cut off or nothing is left there is none
abbrev pub GivesBatch : Batches → Option Batch → Batches → Type 0
GivesBatch old None new = (length old.0.now < batch_end old.0.now) × (new ≡ old)
GivesBatch old (Some batch) new =
    (batch_end old.0.now ≤ length old.0.now)
    × (batch.options ≡ two_bytes old.0.now 0)
    × (batch.commands.now ≡ between 6 (commands_end old.0.now) old.0.now)
    × (batch.text.now ≡ between (commands_end old.0.now) (batch_end old.0.now) old.0.now)
    × (new.0.now ≡ drop (batch_end old.0.now) old.0.now)
