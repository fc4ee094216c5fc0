-- The refusals by their numbers, as in document 01's "Eighteen ways to be turned down".
use Rattle.std.specs.Prelude.{ℕ}
use Rattle.refusal.specs.declared.Refusal.{Refusal}
use Rattle.refusal.specs.declared.Refusal.TheVariants as R

-- an options bit above 10 is set
abbrev pub unknown_option : ℕ
unknown_option = 1

-- the work table has fewer than 16,384 words
abbrev pub short_table : ℕ
short_table = 2

-- commands or text exceed 65,535 bytes
abbrev pub long_input : ℕ
long_input = 3

-- a command is unknown, cut off, or cannot stand there
abbrev pub bad_command : ℕ
bad_command = 4

-- a name's offset plus length exceeds the text, or it is not UTF-8
abbrev pub bad_name : ℕ
bad_name = 5

-- under map_as_struct a key is not 0D
abbrev pub bad_key : ℕ
bad_key = 6

-- a container or variant stands at depth 20 or more
abbrev pub too_deep : ℕ
too_deep = 7

-- container and other container, or container and non-null primitive, meet
abbrev pub mismatch : ℕ
mismatch = 8

-- a variant number has two names
abbrev pub two_names : ℕ
two_names = 9

-- two primitive types have no joint
abbrev pub no_joint : ℕ
no_joint = 10

-- a 1,025th place is needed
abbrev pub too_many_places : ℕ
too_many_places = 11

-- a Null or unknown place is emitted without allow_null_fields
abbrev pub null_field : ℕ
null_field = 12

-- a union of only dataless variants without gaps has neither option 9 nor option 0
abbrev pub dataless_union : ℕ
dataless_union = 13

-- emission reaches variant slot 128
abbrev pub too_many_slots : ℕ
too_many_slots = 14

-- the root is nullable
abbrev pub nullable_root : ℕ
nullable_root = 15

-- the root is Null
abbrev pub null_root : ℕ
null_root = 16

-- the root is not Struct
abbrev pub root_not_struct : ℕ
root_not_struct = 17

-- an output buffer is too short
abbrev pub short_buffer : ℕ
short_buffer = 18

-- the number of each case
abbrev pub number_of : Refusal → ℕ
number_of R.UnknownOption = unknown_option
number_of R.ShortTable = short_table
number_of R.LongInput = long_input
number_of R.BadCommand = bad_command
number_of R.BadName = bad_name
number_of R.BadKey = bad_key
number_of R.TooDeep = too_deep
number_of R.Mismatch = mismatch
number_of R.TwoNames = two_names
number_of R.NoJoint = no_joint
number_of R.TooManyPlaces = too_many_places
number_of R.NullField = null_field
number_of R.DatalessUnion = dataless_union
number_of R.TooManySlots = too_many_slots
number_of R.NullableRoot = nullable_root
number_of R.NullRoot = null_root
number_of R.RootNotStruct = root_not_struct
number_of R.ShortBuffer = short_buffer
