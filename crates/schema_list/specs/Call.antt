-- The call that schema-list makes (document 01, "Soundings").
use Rattle.std.specs.Prelude.{◌≡◌, ℕ}
use Rattle.logic.specs.Slices.{Slice, MutSlice, at_entry, at_exit}
use Rattle.words.specs.Word.{zeros}
use Rattle.model.specs.Answer.{Answer, answer}
use Rattle.call.specs.Call.{lent, handed_in}
use Rattle.fasthrom.specs.declared.Answer as R
use Rattle.fasthrom.specs.Called.{said}

-- its two output buffers have 65,536 bytes each
abbrev pub output_bytes : ℕ
output_bytes = 65536

-- the model's answer over a table of its own, which is zero
abbrev pub answer_into : ℕ → (commands text : Slice) (fields names : MutSlice) → Answer
answer_into options commands text fields names = answer (handed_in options commands text) (lent zeros (at_entry fields) (at_entry names))

-- the five numbers and what is left in the buffers are that answer's
abbrev pub TracedInto : ℕ → (commands text : Slice) (fields names : MutSlice) → R.Answer → Type 0
TracedInto options commands text fields names r =
    said r (lent (answer_into options commands text fields names).left.table (at_exit fields) (at_exit names))
    ≡ answer_into options commands text fields names
