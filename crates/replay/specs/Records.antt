-- Records in a file of vectors.
use Rattle.std.specs.Prelude.{List, ℕ, ◌+◌, ◌<◌, ◌≤◌, min, length, get_or}

-- a record is a byte that counts the bytes after it; one that is cut off ends with the file
abbrev pub record_end : List ℕ → ℕ → ℕ
record_end vectors at = min (length vectors) (at + 1 + get_or vectors at 0)

-- an end that a record at an offset may have, of whose bytes the first few are not handed on
abbrev pub IsEnd : List ℕ → ℕ → ℕ → ℕ → Type 0
IsEnd vectors at head end = (at < end) × (at + head ≤ end) × (end ≤ length vectors)
