-- What bytes put into a buffer give, with room for them and without.
use mathlib.Core.Path.{◌≡◌, refl, ◌∙◌}
use mathlib.Core.List.{List}
use Prim.Native.Nat.{ℕ}
use Rattle.logic.specs.laws.Test.{if_passed, if_failed}
use Rattle.logic.specs.laws.Buffer.{length_written}
use Rattle.places.specs.laws.Reading.{field_inside, variant_inside}
use Rattle.putting.specs.Put.{Put, put, put_bytes, Writing, writing, as_writing, with_record, with_name, both}

-- bytes are put where there is room for them, and a name that the text gave ends inside it
pub ruleset in_room = (if_passed, if_failed, length_written)

pub ruleset names_end = (field_inside, variant_inside)

-- the record's part of what was written
pub record_part : (bytes : List ℕ) (i j a b : ℕ) (fields names out kept : List ℕ) → writing a b out kept ≡ with_record bytes (writing i j fields names) →
    (put a out ≡ put_bytes bytes fields i) × (b ≡ j) × (kept ≡ names)
unfolding with_record
record_part bytes i j a b fields names out kept e = go (put_bytes bytes fields i) refl e
  where
    go : (p : Put) → p ≡ put_bytes bytes fields i → writing a b out kept ≡ as_writing p (put j names) → (put a out ≡ put_bytes bytes fields i) × (b ≡ j) × (kept ≡ names)
    go (put x y) q e = (let h : put a out ≡ put x y = cc in h ∙ q, cc, cc)

pub name_then_record : (bytes name : List ℕ) (w : Writing) → with_record bytes (with_name name w) ≡ both bytes name w
unfolding with_record with_name both
name_then_record bytes name (writing i j fields names) = go (put_bytes name names j) refl
  where
    go : (p : Put) → put_bytes name names j ≡ p → with_record bytes (as_writing (put i fields) p) ≡ as_writing (put_bytes bytes fields i) p
    go (put x y) q = refl

pub record_then_name : (bytes name : List ℕ) (w : Writing) → with_name name (with_record bytes w) ≡ both bytes name w
unfolding with_record with_name both
record_then_name bytes name (writing i j fields names) = go (put_bytes bytes fields i) refl
  where
    go : (p : Put) → put_bytes bytes fields i ≡ p → with_name name (as_writing p (put j names)) ≡ as_writing p (put_bytes name names j)
    go (put x y) q = refl

pub ruleset entries = (if_passed, if_failed, record_then_name)
