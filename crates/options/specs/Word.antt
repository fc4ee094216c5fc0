-- The options word, as in document 01's "Options word" and document 02's 4/14.
use Rattle.std.specs.Prelude.{ℕ, ◌/◌, ◌%◌, ◌^◌, Bool, leb, eqb}
use Rattle.logic.specs.Test.{when◌then◌else◌}
use Rattle.datatype.specs.Codes.{utf8, large_utf8, binary, large_binary, list, large_list, dictionary_utf8, dictionary_large_utf8}

-- whether bit k of the word is set
abbrev pub bit : ℕ → ℕ → Bool
bit k word = eqb (word / 2 ^ k % 2) 1

-- bits 0 to 10 have a meaning
abbrev pub known_bits : ℕ
known_bits = 11

-- refusal 1, which "now covers bits 11 to 15" (laws/Word has it bit by bit)
abbrev pub unknown_bit : ℕ → Bool
unknown_bit word = leb (2 ^ known_bits) word

-- fields that are Null are emitted
abbrev pub allow_null_fields : ℕ → Bool
allow_null_fields = bit 0

-- a map is traced as a struct
abbrev pub map_as_struct : ℕ → Bool
map_as_struct = bit 1

-- a sequence is a LargeList
abbrev pub sequence_as_large_list : ℕ → Bool
sequence_as_large_list = bit 2

-- a string is a LargeUtf8
abbrev pub string_as_large_utf8 : ℕ → Bool
string_as_large_utf8 = bit 3

-- bytes are a LargeBinary
abbrev pub bytes_as_large_binary : ℕ → Bool
bytes_as_large_binary = bit 4

-- strings are dictionary encoded
abbrev pub string_dictionary_encoding : ℕ → Bool
string_dictionary_encoding = bit 5

-- unequal number types have a joint
abbrev pub coerce_numbers : ℕ → Bool
coerce_numbers = bit 6

-- strings and bools or numbers have a joint
abbrev pub allow_to_string : ℕ → Bool
allow_to_string = bit 7

-- texts are tried as dates and times
abbrev pub guess_dates : ℕ → Bool
guess_dates = bit 8

-- a union of only dataless variants is a dictionary
abbrev pub enums_without_data_as_strings : ℕ → Bool
enums_without_data_as_strings = bit 9

-- "bit 10 set means edition 2" of the exchange standard, clear edition 1
abbrev pub edition2 : ℕ → Bool
edition2 = bit 10

abbrev pub string_type : ℕ → ℕ
string_type word = when string_as_large_utf8 word then large_utf8 else utf8

abbrev pub binary_type : ℕ → ℕ
binary_type word = when bytes_as_large_binary word then large_binary else binary

abbrev pub list_type : ℕ → ℕ
list_type word = when sequence_as_large_list word then large_list else list

abbrev pub dictionary_type : ℕ → ℕ
dictionary_type word = when string_as_large_utf8 word then dictionary_large_utf8 else dictionary_utf8
