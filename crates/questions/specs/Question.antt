-- How a stored question is laid out (vectors/README.md): the header, the commands, the text, and the answer's field records and names.
use Rattle.std.specs.Prelude.{List, ℕ, ◌+◌, ◌-◌, ◌*◌, min, ltb, length, drop}
use Rattle.logic.specs.Test.{when◌then◌else◌}
use Rattle.files.specs.Bytes.{three_bytes, between}

-- the options word and ten numbers of three bytes
abbrev pub header_bytes : ℕ
header_bytes = 32

-- 0 words of the table lent, 1 length of the commands, 2 of the text, 3 and 4 bytes of both buffers lent; of the answer 5 refusal, 6 place,
-- 7 field records, 8 name bytes, 9 columns
abbrev pub number_at : List ℕ → ℕ → ℕ
number_at question index = three_bytes question (2 + index * 3)

-- where the text begins, the field records and the names
abbrev pub text_from : List ℕ → ℕ
text_from question = header_bytes + number_at question 1

abbrev pub records_from : List ℕ → ℕ
records_from question = text_from question + number_at question 2

abbrev pub names_from : List ℕ → ℕ
names_from question = records_from question + number_at question 7 * 8

-- its parts
abbrev pub commands_in : List ℕ → List ℕ
commands_in question = between header_bytes (text_from question) question

abbrev pub text_in : List ℕ → List ℕ
text_in question = between (text_from question) (records_from question) question

abbrev pub records_in : List ℕ → List ℕ
records_in question = between (records_from question) (names_from question) question

abbrev pub names_in : List ℕ → List ℕ
names_in question = drop (names_from question) question

-- how many bytes it has
abbrev pub question_size : List ℕ → ℕ
question_size question = names_from question + number_at question 8

-- where the question at an offset of the file ends: with the file, if that is cut off
unfoldable pub question_end : List ℕ → ℕ → ℕ
question_end vectors at =
    when ltb (length vectors - at) header_bytes then length vectors
    else min (length vectors) (at + question_size (drop at vectors))
