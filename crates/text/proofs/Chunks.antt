-- A slice as arrays of one size: four bytes of the array at an index are four of the slice.
use Rattle.std.proofs.Common.{◌≡◌, ◌∙◌, ℕ, zero, suc, ◌+◌, ◌*◌, ◌<◌, ◌≤◌, List, [], get_or, take, drop, arith, drop-drop, get_or-take, get_or-drop}
use Rattle.std.specs.Simd.{first_chunks}
use Rattle.text.specs.Tag.{four_of}

module _ (size : ℕ) where
  array_at : (count : ℕ) (bytes : List ℕ) (i : ℕ) → i < count → get_or (first_chunks size count bytes) i [] ≡ take size (drop (size * i) bytes)
  array_at zero bytes i h = absurd (omega arith)
  array_at (suc count) bytes zero h = let first : size * 0 ≡ 0 = omega arith in rw first
  array_at (suc count) bytes (suc i) h =
      let next : size + size * i ≡ size * suc i = omega arith in
      array_at count (drop size bytes) i (omega arith) ∙ rw (drop-drop, next)

  array_byte : (count : ℕ) (bytes : List ℕ) (i k at : ℕ) → i < count → k < size → at ≡ k + size * i → get_or (get_or (first_chunks size count bytes) i []) k 0 ≡ get_or bytes at 0
  array_byte count bytes i k at h g e =
      let here : size * i + k ≡ at = omega arith in
      rw (array_at count bytes i h, get_or-take size (drop (size * i) bytes) k 0 g, get_or-drop, here)

  pub array_four : (count : ℕ) (bytes : List ℕ) (i k : ℕ) → i < count → k + 4 ≤ size → four_of (get_or (first_chunks size count bytes) i []) k ≡ four_of bytes (k + size * i)
  unfolding four_of
  array_four count bytes i k h g =
      rw (
        array_byte count bytes i k (k + size * i) h (omega arith) (omega arith),
        array_byte count bytes i (k + 1) (k + size * i + 1) h (omega arith) (omega arith),
        array_byte count bytes i (k + 2) (k + size * i + 2) h (omega arith) (omega arith),
        array_byte count bytes i (k + 3) (k + size * i + 3) h (omega arith) (omega arith),
      )
