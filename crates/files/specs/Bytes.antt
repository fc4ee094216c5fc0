-- What stands in a file: numbers of several bytes, low byte first, and parts.
use Rattle.std.specs.Prelude.{List, ℕ, ◌+◌, ◌-◌, ◌*◌, get_or, take, drop}

abbrev pub two_bytes : List ℕ → ℕ → ℕ
two_bytes bytes at = get_or bytes at 0 + get_or bytes (at + 1) 0 * 256

abbrev pub three_bytes : List ℕ → ℕ → ℕ
three_bytes bytes at = two_bytes bytes at + get_or bytes (at + 2) 0 * 65536

-- the bytes from an offset up to another
abbrev pub between : ℕ → ℕ → List ℕ → List ℕ
between from to bytes = take (to - from) (drop from bytes)
