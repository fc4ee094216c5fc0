-- A name's tag, by which names are told apart before their bytes are compared. Nothing that is promised of the call speaks of it.
use Rattle.std.specs.Prelude.{ℕ, zero, suc, ◌+◌, ◌*◌, ◌-◌, ◌/◌, ◌%◌, ◌^◌, List, ltb, eqb, length, get_or}
use Rattle.logic.specs.Test.{when◌then◌else◌}

-- Equal names have equal tags, and unequal ones nearly never, so that finding a field costs one reading of its name. A tag is below this.
abbrev pub tag_limit : ℕ
tag_limit = 2 ^ 32

-- What is multiplied by these, odd numbers without a pattern, tells in all higher bits: the state of a name over twelve bytes, and the
-- first four bytes, the middle four and the last four of another.
abbrev pub mixer : ℕ
mixer = 1540483477

abbrev pub first_mixer : ℕ
first_mixer = 506832829

abbrev pub middle_mixer : ℕ
middle_mixer = 668265263

abbrev pub last_mixer : ℕ
last_mixer = 374761393

-- of a product the bits from the 16th on, for the lower ones tell of few bits of its factors
abbrev pub tag_bits : ℕ → ℕ
tag_bits product = product / 65536 % tag_limit

-- four bytes as a number, low byte first
abbrev pub joined_of : ℕ → ℕ → ℕ → ℕ → ℕ
joined_of a b c d = a + 256 * b + 65536 * c + 16777216 * d

-- the four from an offset on
unfoldable pub four_of : List ℕ → ℕ → ℕ
four_of bytes at = joined_of (get_or bytes at 0) (get_or bytes (at + 1) 0) (get_or bytes (at + 2) 0) (get_or bytes (at + 3) 0)

-- four bytes more mixed into a state
unfoldable pub mixed_of : ℕ → ℕ → ℕ
mixed_of state more = tag_bits ((state + more) * mixer)

-- a lane's state after so many steps of eight bytes each: a step mixes four of them in, the first one those from an offset on
unfoldable pub lane_of : List ℕ → ℕ → ℕ → ℕ → ℕ
lane_of bytes at state zero = state
lane_of bytes at state (suc steps) = mixed_of (lane_of bytes at state steps) (four_of bytes (at + 8 * steps))

-- the tag of a name of so many bytes, up to three
unfoldable pub short_tag : List ℕ → ℕ → ℕ
short_tag bytes n = when eqb n 0 then 0 else joined_of n (get_or bytes 0 0) (get_or bytes (n / 2) 0) (get_or bytes (n - 1) 0)

-- of four to twelve, which all are among the first four, the middle four and the last four
abbrev pub middle_tag : List ℕ → ℕ → ℕ
middle_tag bytes n =
    tag_bits (four_of bytes 0 * first_mixer + four_of bytes (n / 2 - 2) * middle_mixer + four_of bytes (n - 4) * last_mixer)

-- of more: all are mixed in, eight a step in two lanes, the last eight once more. So names which differ in one byte, wherever it stands,
-- mostly have different tags
unfoldable pub long_tag : List ℕ → ℕ → ℕ
long_tag bytes n =
    mixed_of (mixed_of (lane_of bytes 0 n (n / 8)) (four_of bytes (n - 8))) (mixed_of (lane_of bytes 4 0 (n / 8)) (four_of bytes (n - 4)))

-- a name's tag
unfoldable pub tag_of : List ℕ → ℕ
tag_of bytes =
    when ltb (length bytes) 4 then short_tag bytes (length bytes)
    else when ltb 12 (length bytes) then long_tag bytes (length bytes)
    else middle_tag bytes (length bytes)
