-- What a replay counts, by what the check of a record answers.
use Rattle.std.specs.Prelude.{◌≡◌, Bool, List, ℕ, Option, None, Some, ◌+◌, ◌<◌, ◌≤◌, length}
use Rattle.std.specs.Fn.{FnReturnsAt}
use denote.Ref.{Bor}
use denote.Param.Members.{Shared}
use Rattle.files.specs.Bytes.{between}
use Rattle.replay.specs.Tally.{tally}
use Rattle.replay.specs.declared.Records.{Records}
use Rattle.replay.specs.declared.Tally.{Tally}

-- of stored bytes the check gives that answer
abbrev pub Answers : {F : Type 0} → Shared F (Bor (List ℕ) × Unit {0}) Bool → F → (List ℕ → Bool) → Type 0
Answers check f answer = (stored : List ℕ) (r : Bool) → FnReturnsAt check f stored r → r ≡ answer stored

-- the tally of a file whose records end there, and have so many bytes before those that are checked
abbrev pub replayed : ℕ → (List ℕ → ℕ → ℕ) → (List ℕ → Bool) → List ℕ → Tally
replayed head end answer vectors = tally (length vectors) (end vectors) (λ at. answer (between (at + head) (end vectors at) vectors))

-- the next record is handed on without the bytes at its start that are not, or none is left
abbrev pub GivesRecord : {L : Type 0} → ℕ → (List ℕ → ℕ → ℕ) → Records L → Option (Bor (List ℕ)) → Records L → Type 0
GivesRecord head end old None new = (length old.vectors.now ≤ old.at) × (new ≡ old)
GivesRecord head end old (Some stored) new =
    (old.at < length old.vectors.now)
    × (stored.now ≡ between (old.at + head) (end old.vectors.now old.at) old.vectors.now)
    × (new.at ≡ end old.vectors.now old.at)
    × (new.vectors ≡ old.vectors)
    × (new.layout ≡ old.layout)
