-- Laws of bytes written into a buffer.
use Rattle.std.specs.Prelude.{◌≡◌, ℕ, suc, ◌+◌, ◌≤◌, ◌<◌, List, [], ◌∷◌, ◌++◌, length, take, drop, set}
use Rattle.std.proofs.Common.{sym, ap, ◌∙◌, add_assoc, add-one, arith, append_assoc, length-append, length-drop, length-take, drop_at, take_at, drop-drop}
use Rattle.std.proofs.lemmas.List.{take-set-le, set_split}
use Rattle.std.proofs.Math.Seq.{append_snoc}
use Rattle.logic.specs.Buffer.{written}

-- it is as long as before
pub length_written : (buffer : List ℕ) (at : ℕ) (bytes : List ℕ) → at + length bytes ≤ length buffer → length (written buffer at bytes) ≡ length buffer
length_written buffer at bytes h = simp (length-append, length-take, length-drop) (omega arith)

-- a store writes one byte
pub written_one : (buffer : List ℕ) (at d : ℕ) → at < length buffer → set buffer at d ≡ written buffer at (d ∷ [])
written_one buffer at d h = rw (add-one, set_split buffer at d)

-- a store behind bytes that are to be written writes one more
pub written_last : (buffer : List ℕ) (at i d : ℕ) (bytes : List ℕ) → i ≡ at + length bytes → i < length buffer →
    written (set buffer i d) at bytes ≡ written buffer at (bytes ++ (d ∷ []))
written_last buffer at i d bytes e h =
    let g : at ≤ i = omega arith in
    let n : length (take i buffer) ≡ at + length bytes = rw length-take (omega arith) in
    let m : at + length (bytes ++ (d ∷ [])) ≡ suc i = rw length-append (omega arith) in
    rw (take-set-le at buffer i d g, set_split buffer i d h, drop_at (take i buffer) (d ∷ drop (suc i) buffer) (at + length bytes) n, m, append_snoc)

-- bytes written behind others are written with them
pub written_next : (buffer : List ℕ) (at : ℕ) (x y : List ℕ) → at + length x + length y ≤ length buffer →
    written (written buffer at x) (at + length x) y ≡ written buffer at (x ++ y)
written_next buffer at x y h =
    let p : List ℕ = take at buffer ++ x in
    let q : List ℕ = drop (at + length x) buffer in
    let n : length p ≡ at + length x = simp (length-append, length-take) (omega arith) in
    let m : drop (at + length x + length y) (p ++ q) ≡ drop (at + length x + length y) buffer =
    sym (drop-drop (length y) (at + length x) (p ++ q)) ∙ ap (drop (length y)) (drop_at p q (at + length x) n) ∙ drop-drop (length y) (at + length x) buffer in
    rw (← append_assoc (take at buffer) x q, take_at p q (at + length x) n, m, length-append x y, ← add_assoc at (length x) (length y)) (simp append_assoc)
