-- What a call must leave, where all that it was lent held a pattern.
use Rattle.std.specs.Prelude.{◌≡◌, Bool, ◌&&◌, List, ◌++◌, ℕ, ◌-◌, leb, length, drop, replicate}
use Rattle.logic.specs.Test.{when◌then◌else◌}
use Rattle.words.specs.Word.{table_words, zeros}
use Rattle.questions.specs.Question.{number_at}

-- the pattern: A5 in each byte
abbrev pub lent_byte : ℕ
lent_byte = 0xA5

abbrev pub lent_word : ℕ
lent_word = 0xA5A5A5A5

-- an output buffer as it is lent
abbrev pub lent_bytes : ℕ
lent_bytes = 16384

unfoldable pub lent_buffer : List ℕ
lent_buffer = replicate lent_bytes lent_byte

-- such a buffer with bytes written at its start
abbrev pub written_over : List ℕ → List ℕ
written_over bytes = bytes ++ drop (length bytes) lent_buffer

-- refusals 1 to 3 leave the work table alone
abbrev pub early : ℕ → Bool
early refusal = leb 1 refusal && leb refusal 3

-- a table of so many words: its first 16,384 zero and the others as they were, or all as they were
unfoldable pub left_table : ℕ → ℕ → List ℕ
left_table refusal n =
    when early refusal then replicate n lent_word
    else zeros ++ replicate (n - table_words) lent_word

-- refusal, place, field records, name bytes and columns are those of the question
abbrev pub Answered : List ℕ → ℕ → ℕ → ℕ → ℕ → ℕ → Type 0
Answered question refusal place records names columns =
    (refusal ≡ number_at question 5) × (place ≡ number_at question 6) × (records ≡ number_at question 7) × (names ≡ number_at question 8)
    × (columns ≡ number_at question 9)
