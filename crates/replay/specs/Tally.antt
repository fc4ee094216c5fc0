-- What a program that replays a file counts: how many records there are, and how many of them do not agree.
use Rattle.std.specs.Prelude.{Bool, List, ℕ, suc, ◌+◌, ltb, length}
use Rattle.logic.specs.Test.{when◌then◌else◌}
use Rattle.logic.specs.Turns.{Turn, again, done, turns}
use Rattle.files.specs.Bytes.{between}
use Rattle.replay.specs.Records.{record_end}
use Rattle.replay.specs.declared.Tally.{Tally}

-- at an offset of the file, with so many records passed, of which so many differ
pub record Passed : Type 0 where
  pub at : ℕ
  pub records : ℕ
  pub differ : ℕ

abbrev pub tally_of : Passed → Tally
tally_of p = record { records = p.records; differ = p.differ }

-- a record passed, in a file of so many bytes: where the one at an offset ends, and whether it agrees
unfoldable pub pass : ℕ → (ℕ → ℕ) → (ℕ → Bool) → Passed → Turn Passed Tally
pass size ends agrees p =
    when ltb p.at size
    then again (record { at = ends p.at; records = p.records + 1; differ = p.differ + (when agrees p.at then 0 else 1) })
    else done (tally_of p)

-- record after record to the end; there are no more than bytes
unfoldable pub tally_from : ℕ → (ℕ → ℕ) → (ℕ → Bool) → Passed → Tally
tally_from size ends agrees p = turns (pass size ends agrees) tally_of (suc size) p

-- from the file's start
abbrev pub tally : ℕ → (ℕ → ℕ) → (ℕ → Bool) → Tally
tally size ends agrees = tally_from size ends agrees (record { at = 0; records = 0; differ = 0 })

-- of records behind a byte that counts them
abbrev pub record_tally : (List ℕ → Bool) → List ℕ → Tally
record_tally agrees vectors = tally (length vectors) (record_end vectors) (λ at. agrees (between (at + 1) (record_end vectors at) vectors))
