-- Bytes that are all below 80; and many of them that are all looked at, without leaving early, which the compiler does several at a time.
use Rattle.std.specs.Prelude.{ℕ, zero, suc, ◌+◌, Bool, false, ◌||◌, List, leb, ltb, get_or}
use Rattle.std.specs.List.{list_all}

-- all bytes are below 80
unfoldable pub is_ascii : List ℕ → Bool
is_ascii = list_all (λ byte. ltb byte 0x80)

-- one of so many indices, from one on, passes a test
unfoldable pub any_from : (ℕ → Bool) → ℕ → ℕ → Bool
any_from test at zero = false
any_from test at (suc count) = any_from test at count || test (at + count)

-- the byte there is not below 80
abbrev pub is_high : List ℕ → ℕ → Bool
is_high bytes i = leb 0x80 (get_or bytes i 0)
