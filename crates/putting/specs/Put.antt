-- Field records and names in the output buffers, each written where there is room.
use Rattle.std.specs.Prelude.{◌≡◌, List, [], ◌∷◌, ◌-◌, ℕ, zero, suc, ◌+◌, ◌/◌, ◌%◌, ◌≤◌, eqb, ltb, length}
use Rattle.logic.specs.Test.{when◌then◌else◌}
use Rattle.logic.specs.Slices.{MutSlice, at_entry, at_exit}
use Rattle.logic.specs.Buffer.{written}
use Rattle.datatype.specs.Codes.{null, struct, no_strategy, unknown_variant}
use Rattle.model.specs.Kinds.{map_kind}
use Rattle.model.specs.Emission.{entries_name}
use Rattle.walk.specs.Walk.{sum_of}
use Rattle.putting.specs.declared.Record.{Record}
use Rattle.putting.specs.declared.Ends.{Ends}

-- a buffer and where the next byte goes
pub data Put : Type 0 where
  put : ℕ → List ℕ → Put

unfoldable pub put_bytes : List ℕ → List ℕ → ℕ → Put
put_bytes bytes buffer at =
    when ltb (length buffer - at) (length bytes) then put at buffer
    else put (at + length bytes) (written buffer at bytes)

-- these bytes are put into a buffer, and the end behind them answered
abbrev pub Puts : List ℕ → MutSlice → ℕ → ℕ → Type 0
Puts bytes buffer at r = (put r (at_exit buffer) ≡ put_bytes bytes (at_entry buffer) at) × (r ≤ length (at_exit buffer))

-- type; nullable byte; strategy; variant number; name length; child count
abbrev pub record_of : ℕ → ℕ → ℕ → ℕ → ℕ → ℕ → List ℕ
record_of type nullable strategy number length children =
    type ∷ nullable ∷ strategy ∷ number ∷ length % 256 ∷ length / 256 % 256 ∷ children % 256 ∷ children / 256 % 256 ∷ []

abbrev pub record_bytes : Record → List ℕ
record_bytes r = record_of r.kind r.nullable r.strategy r.number r.name_length r.children

-- so many union slots never seen, from a slot on
unfoldable pub put_gaps : ℕ → ℕ → ℕ → Put → Put
put_gaps slot i zero (put at buffer) = put at buffer
put_gaps slot i (suc count) (put at buffer) =
    put_gaps slot (suc i) count (put_bytes (record_of null 1 unknown_variant (sum_of slot i % 256) 0 0) buffer at)

-- ---- both buffers
-- where the next record and the next name go, and both buffers
pub data Writing : Type 0 where
  writing : (i j : ℕ) → (fields names : List ℕ) → Writing

abbrev pub as_writing : Put → Put → Writing
as_writing (put i fields) (put j names) = writing i j fields names

-- a record, or a name
unfoldable pub with_record : List ℕ → Writing → Writing
with_record bytes (writing i j fields names) = as_writing (put_bytes bytes fields i) (put j names)

unfoldable pub with_name : List ℕ → Writing → Writing
with_name name (writing i j fields names) = as_writing (put i fields) (put_bytes name names j)

-- a record and a name
unfoldable pub both : List ℕ → List ℕ → Writing → Writing
both bytes name (writing i j fields names) = as_writing (put_bytes bytes fields i) (put_bytes name names j)

unfoldable pub gaps_in : ℕ → ℕ → Writing → Writing
gaps_in slot count (writing i j fields names) = as_writing (put_gaps slot 0 count (put i fields)) (put j names)

-- a map's entries
unfoldable pub entries_in : ℕ → Writing → Writing
entries_in kind w =
    when eqb kind map_kind then both (record_of struct 0 no_strategy 0 (length entries_name) 2) entries_name w
    else w

-- the ends stand inside the buffers
abbrev pub Within : Ends → List ℕ → List ℕ → Type 0
Within ends fields names = (ends.records ≤ length fields) × (ends.names ≤ length names)
