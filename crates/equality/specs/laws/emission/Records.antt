-- Field records in preorder with the bytes of their names determine the fields: they can be read back. Eight bytes are written for each record.
use Rattle.std.specs.Prelude.{◌≡◌, refl, List, [], ◌∷◌, ◌++◌, Bool, true, false, ℕ, zero, suc, ◌+◌, ◌*◌, ◌/◌, ◌%◌, ◌≤◌, eqb, leb, length, get_or, take, drop}
use Rattle.std.proofs.Common.{ap, ap₂, sym, ◌∙◌, append_assoc, le_refl, arith, length-append, take_at, drop_at}
use Rattle.model.specs.Tracing.{Marks, marks}
use Rattle.model.specs.Emission.{Field, mk, Fields, no_fields, more, child_count, two_bytes, nullable_byte, records_of, records_in, names_in, count_of, count_in}

-- 16 bits, low byte first
abbrev word_at : List ℕ → ℕ → ℕ
word_at bytes i = get_or bytes i 0 + 256 * get_or bytes (suc i) 0

-- the marks that a nullable byte says
abbrev marks_read : ℕ → Marks
marks_read byte = marks (eqb (byte % 2) 1) (leb 2 byte)

-- at most n fields with all below them, and the bytes and names behind them; none where the bytes end
unfoldable pub read_fields : ℕ → ℕ → List ℕ → List ℕ → Fields × List ℕ × List ℕ
read_fields zero n bytes names = (no_fields, bytes, names)
read_fields (suc deep) zero bytes names = (no_fields, bytes, names)
read_fields (suc deep) (suc n) [] names = (no_fields, [], names)
read_fields (suc deep) (suc n) (type ∷ bytes) names =
    let size = word_at bytes 3 in
    let kids = read_fields deep (word_at bytes 5) (drop 7 bytes) (drop size names) in
    let rest = read_fields deep n kids.1 kids.2 in
    (more (mk type (marks_read (get_or bytes 0 0)) (get_or bytes 1 0) (get_or bytes 2 0) (take size names) kids.0) rest.0, rest.1, rest.2)

word_back : (n : ℕ) → n % 256 + 256 * (n / 256) ≡ n
word_back n = omega arith

marks_back : (m : Marks) → marks_read (nullable_byte m) ≡ m
marks_back m = each m.null m.widened
  where
    each : (a b : Bool) → marks_read (nullable_byte (marks a b)) ≡ marks a b
    each true true = refl
    each true false = refl
    each false true = refl
    each false false = refl

read_more : (deep n type : ℕ) (m : Marks) (σ v : ℕ) (name : List ℕ) (fs gs : Fields) (bs cs ds ms ns os : List ℕ) →
    read_fields deep (child_count fs) bs ms ≡ (fs, cs, ns) → read_fields deep n cs ns ≡ (gs, ds, os) →
    read_fields (suc deep) (suc n) (type ∷ nullable_byte m ∷ σ ∷ v ∷ two_bytes (length name) ++ (two_bytes (child_count fs) ++ bs)) (name ++ ms) ≡ (more (mk type m σ v name fs) gs, ds, os)
unfolding read_fields
read_more deep n type m σ v name fs gs bs cs ds ms ns os p q =
    rw (read_fields, word_back (length name), word_back (child_count fs), marks_back m, take_at name ms, drop_at name ms, p, q)

-- fields that something follows
pub read_back : (deep : ℕ) (fs : Fields) (cs ms : List ℕ) → count_in fs ≤ deep → read_fields deep (child_count fs) (records_in fs ++ cs) (names_in fs ++ ms) ≡ (fs, cs, ms)
unfolding read_fields records_in names_in count_in
read_back zero no_fields cs ms h = refl
read_back zero (more (mk τ m σ v x gs) fs) cs ms h = absurd (omega arith)
read_back (suc deep) no_fields cs ms h = refl
read_back (suc deep) (more (mk τ m σ v x gs) fs) cs ms h =
    rw (append_assoc (records_in gs) (records_in fs) cs, append_assoc (x ++ names_in gs) (names_in fs) ms, append_assoc x (names_in gs) (names_in fs ++ ms))
    (read_more deep (child_count fs) τ m σ v x gs fs (records_in gs ++ (records_in fs ++ cs)) (records_in fs ++ cs) cs (names_in gs ++ (names_in fs ++ ms)) (names_in fs ++ ms) ms
    (read_back deep gs (records_in fs ++ cs) (names_in fs ++ ms) (omega arith)) (read_back deep fs cs ms (omega arith)))

-- ---- a whole schema: fields up to the end of the records
abbrev pub read_schema : List ℕ → List ℕ → Fields
read_schema records names = (read_fields (length records) (length records) records names).0

-- eight bytes a record
mutual
  unfolding records_of count_of

  length_record : (f : Field) → length (records_of f) ≡ 8 * count_of f
  length_record (mk τ m σ v x fs) = let h = length_records fs in omega arith

  pub length_records : (fs : Fields) → length (records_in fs) ≡ 8 * count_in fs
  length_records no_fields = refl
  length_records (more f fs) =
      let h = length_record f in
      let k = length_records fs in
      rw (length-append (records_of f) (records_in fs)) (omega arith)

child_count_lem : (fs : Fields) → child_count fs ≤ count_in fs
unfolding count_in
child_count_lem no_fields = le_refl 0
child_count_lem (more (mk τ m σ v x gs) fs) = let h : child_count fs ≤ count_in fs = child_count_lem fs in omega arith

read_whole : (deep n : ℕ) (fs : Fields) → count_in fs ≤ deep → child_count fs ≤ n → read_fields deep n (records_in fs) (names_in fs) ≡ (fs, [], [])
unfolding read_fields records_in names_in count_in
read_whole zero n no_fields h k = refl
read_whole zero n (more (mk τ m σ v x gs) fs) h k = absurd (omega arith)
read_whole (suc deep) zero no_fields h k = refl
read_whole (suc deep) zero (more f fs) h k = absurd (omega arith)
read_whole (suc deep) (suc n) no_fields h k = refl
read_whole (suc deep) (suc n) (more (mk τ m σ v x gs) fs) h k =
    rw (append_assoc x (names_in gs) (names_in fs))
    (read_more deep n τ m σ v x gs fs (records_in gs ++ records_in fs) (records_in fs) [] (names_in gs ++ names_in fs) (names_in fs) []
    (read_back deep gs (records_in fs) (names_in fs) (omega arith)) (read_whole deep n fs (omega arith) (omega arith)))

-- what is written for a schema is read as this schema
pub schema_back : (fs : Fields) → read_schema (records_in fs) (names_in fs) ≡ fs
schema_back fs =
    let h : length (records_in fs) ≡ 8 * count_in fs = length_records fs in
    let k : child_count fs ≤ count_in fs = child_count_lem fs in
    ap (λ (t : Fields × List ℕ × List ℕ). t.0) (read_whole (length (records_in fs)) (length (records_in fs)) fs (omega arith) (omega arith))

-- equal records and equal names are those of equal fields
pub schema_encoded : (fs gs : Fields) → records_in fs ≡ records_in gs → names_in fs ≡ names_in gs → fs ≡ gs
schema_encoded fs gs e h = sym (schema_back fs) ∙ ap₂ read_schema e h ∙ schema_back gs
