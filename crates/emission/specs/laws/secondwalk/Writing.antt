-- Bytes written one after another: records and names, where there is room for them.
use Rattle.logic.specs.Test.{when◌then◌else◌}
use Rattle.std.specs.Prelude.{◌≡◌, refl, false, List, [], ◌∷◌, ◌++◌, ◌-◌, ℕ, zero, suc, ◌+◌, ◌/◌, ◌%◌, ◌<◌, ◌≤◌, eqb, length}
use Rattle.std.proofs.Common.{sym, append_assoc, add-zero, add_assoc, arith, length-append, take-append-drop, le-ltb}
use Rattle.logic.specs.Buffer.{written}
use Rattle.logic.specs.laws.Buffer.{length_written, written_next}
use Rattle.datatype.specs.Codes.{null, struct, no_strategy, unknown_variant}
use Rattle.model.specs.Kinds.{map_kind}
use Rattle.model.specs.Emission.{Fields, gap, gaps, entries_name, two_bytes, records_of, records_in, names_of, names_in, child_count}
use Rattle.walk.specs.Walk.{sum_of}
use Rattle.putting.specs.Put.{put, put_bytes, record_of, put_gaps, Writing, writing, both, gaps_in, entries_in}

-- what is left when records and names were written
abbrev pub wrote : List ℕ → List ℕ → Writing → Writing
wrote r n (writing i j fields names) = writing (i + length r) (j + length n) (written fields i r) (written names j n)

-- there is room for them
abbrev pub Room : List ℕ → List ℕ → Writing → Type 0
Room r n (writing i j fields names) = (i + length r ≤ length fields) × (j + length n ≤ length names)

-- a writer of just them
abbrev pub Writes : (Writing → Writing) → List ℕ → List ℕ → Type 0
Writes f r n = (w : Writing) → Room r n w → f w ≡ wrote r n w

written_none : (buffer : List ℕ) (at : ℕ) → written buffer at [] ≡ buffer
written_none buffer at = rw (add-zero at, take-append-drop at buffer) refl

pub writes_none : Writes (λ w. w) [] []
writes_none (writing i j fields names) h = rw (written_none fields i, written_none names j, add-zero i, add-zero j) refl

pub writes_next : (f g : Writing → Writing) (r n r' n' : List ℕ) → Writes f r n → Writes g r' n' → Writes (λ w. g (f w)) (r ++ r') (n ++ n')
writes_next f g r n r' n' a b (writing i j fields names) h =
    let x : i + length r + length r' ≤ length fields = omega (arith, h.0, length-append r r') in
    let y : j + length n + length n' ≤ length names = omega (arith, h.1, length-append n n') in
    let p : length (written fields i r) ≡ length fields = length_written fields i r (omega arith) in
    let q : length (written names j n) ≡ length names = length_written names j n (omega arith) in
    rw (
      a (writing i j fields names) (omega arith, omega arith),
      b (wrote r n (writing i j fields names)) (omega arith, omega arith),
      written_next fields i r r' x,
      written_next names j n n' y,
      length-append r r',
      length-append n n',
      add_assoc i (length r) (length r'),
      add_assoc j (length n) (length n'),
    ) refl

pub writes_as : (f : Writing → Writing) (r n r' n' : List ℕ) → r ≡ r' → n ≡ n' → Writes f r n → Writes f r' n'
writes_as f r n r' n' a b h = rw (a, b) at h

put_bytes_lem : (bytes buffer : List ℕ) (at : ℕ) → at + length bytes ≤ length buffer → put_bytes bytes buffer at ≡ put (at + length bytes) (written buffer at bytes)
unfolding put_bytes when◌then◌else◌
put_bytes_lem bytes buffer at h = rw (le-ltb (length buffer - at) (length bytes) (omega arith)) refl

pub writes_both : (bytes name : List ℕ) → Writes (both bytes name) bytes name
unfolding both
writes_both bytes name (writing i j fields names) h = rw (put_bytes_lem bytes fields i h.0, put_bytes_lem name names j h.1) refl

-- ---- a record
pub record_is : (type nullable strategy number : ℕ) (name : List ℕ) (children : ℕ) → length name < 65536 → children < 65536
    → record_of type nullable strategy number (length name) children ≡ (type ∷ nullable ∷ strategy ∷ number ∷ two_bytes (length name) ++ two_bytes children)
record_is type nullable strategy number name children l c =
    let e : length name / 256 % 256 ≡ length name / 256 = omega arith in
    let f : children / 256 % 256 ≡ children / 256 = omega arith in
    rw (e, f) refl

-- ---- slots never seen
abbrev pub gap_records : ℕ → ℕ → List ℕ
gap_records slot zero = []
gap_records slot (suc n) = records_of (gap slot) ++ gap_records (slot + 1) n

pub gap_records_lem : (slot n : ℕ) (fs : Fields) → records_in (gaps slot n fs) ≡ gap_records slot n ++ records_in fs
unfolding records_in gaps
gap_records_lem slot zero fs = refl
gap_records_lem slot (suc n) fs = rw (gap_records_lem (slot + 1) n fs) (sym (append_assoc (records_of (gap slot)) (gap_records (slot + 1) n) (records_in fs)))

pub gap_names : (slot n : ℕ) (fs : Fields) → names_in (gaps slot n fs) ≡ names_in fs
unfolding names_in names_of gaps
gap_names slot zero fs = refl
gap_names slot (suc n) fs = gap_names (slot + 1) n fs

pub gap_count : (slot n : ℕ) (fs : Fields) → child_count (gaps slot n fs) ≡ n + child_count fs
unfolding gaps
gap_count slot zero fs = omega arith
gap_count slot (suc n) fs = rw (gap_count (slot + 1) n fs) (omega arith)

gap_record : (slot i : ℕ) → slot + i < 256 → record_of null 1 unknown_variant (sum_of slot i % 256) 0 0 ≡ records_of (gap (slot + i))
unfolding records_of records_in
gap_record slot i l =
    let e : sum_of slot i % 256 ≡ slot + i = omega arith in
    rw e refl

gaps_put : (slot i n at : ℕ) (buffer : List ℕ) → slot + i + n ≤ 256 → at + length (gap_records (slot + i) n) ≤ length buffer
    → put_gaps slot i n (put at buffer) ≡ put (at + length (gap_records (slot + i) n)) (written buffer at (gap_records (slot + i) n))
unfolding put_gaps
gaps_put slot i zero at buffer l h = rw (written_none buffer at, add-zero at) refl
gaps_put slot i (suc n) at buffer l h =
    let r : List ℕ = records_of (gap (slot + i)) in
    let z : List ℕ = gap_records (slot + i + 1) n in
    let e : slot + suc i ≡ slot + i + 1 = omega arith in
    let k : at + length r + length z ≤ length buffer = omega (arith, h, length-append r z) in
    let a : length (written buffer at r) ≡ length buffer = length_written buffer at r (omega arith) in
    let ih = gaps_put slot (suc i) n (at + length r) (written buffer at r) (omega arith) (rw e (omega arith)) in
    rw (gap_record slot i (omega arith), put_bytes_lem r buffer at (omega arith), ih, e, written_next buffer at r z k, length-append r z, add_assoc at (length r) (length z)) refl

pub writes_gaps : (slot n : ℕ) → slot + n ≤ 256 → Writes (gaps_in slot n) (gap_records slot n) []
unfolding gaps_in
writes_gaps slot n l (writing i j fields names) h =
    let e : slot + 0 ≡ slot = add-zero slot in
    let g = gaps_put slot 0 n i fields (omega arith) (rw e h.0) in
    rw (g, e, written_none names j, add-zero j) refl

-- ---- a map's entries
pub writes_entries : Writes (entries_in map_kind) (record_of struct 0 no_strategy 0 (length entries_name) 2) entries_name
unfolding entries_in when◌then◌else◌
writes_entries w h = writes_both (record_of struct 0 no_strategy 0 (length entries_name) 2) entries_name w h

pub entries_none : (k : ℕ) (w : Writing) → eqb k map_kind ≡ false → entries_in k w ≡ w
unfolding entries_in when◌then◌else◌
entries_none k w e = rw e refl
