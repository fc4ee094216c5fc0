-- What is left of the bytes is UTF-8 exactly where the whole is: past a first byte with what is due after it, and past a byte below 80.
use mathlib.Core.Path.{◌≡◌, refl, sym, ◌∙◌}
use Prim.Native.Nat.{ℕ, ◌+◌, ◌≤◌, ◌<◌}
use native.Mathlib.Omega.{arith}
use mathlib.Core.Bool.{Bool, true, not}
use mathlib.Core.List.{List, []}
use mathlib.Core.Option.{some}
use borrow.Author.Tests.{leb-false}
use lib.ListN.{length, get_or, drop}
use Rattle.text.specs.Utf8.{Range, table, due_in, reads, is_utf8}
use Rattle.text.specs.laws.Utf8.{due_at, reads_first}
use Rattle.text.specs.Block.{any_from, is_high}
use Rattle.text.proofs.Steps.{drop_at}
use Rattle.text.proofs.Blocks.{passed}

module _ (bytes : List ℕ) (i : ℕ) (inv : is_utf8 (drop i bytes) ≡ is_utf8 bytes) (h : i < length bytes) where
  pub taken : (due : List Range) → due_in table (get_or bytes i 0) ≡ some due → reads due (drop (i + 1) bytes) ≡ is_utf8 bytes
  taken due e = sym (reads_first (get_or bytes i 0) due (drop (i + 1) bytes) e) ∙ (rw (drop_at bytes i h) at inv)

  pub ascii : get_or bytes i 0 < 0x80 → is_utf8 (drop (i + 1) bytes) ≡ is_utf8 bytes
  ascii g = taken [] (due_at 0 (get_or bytes i 0) 0x00 0x7F [] refl (omega arith) (omega arith))

-- past a block of such bytes, from anywhere in it
pub ascii_block : (bytes : List ℕ) (at count i end : ℕ) (low : Bool) → low ≡ not (any_from (is_high bytes) at count) → low ≡ true → is_utf8 (drop i bytes) ≡ is_utf8 bytes →
    at ≤ i → i ≤ end → end ≡ at + count → end ≤ length bytes → is_utf8 (drop end bytes) ≡ is_utf8 bytes
ascii_block bytes at count i end low e t p h g q l =
    passed (is_high bytes) at (λ k. is_utf8 (drop k bytes) ≡ is_utf8 bytes) i end count low
    (λ k m f r. ascii bytes k r (omega arith) (leb-false 0x80 (get_or bytes k 0) f)) e t h g q p
