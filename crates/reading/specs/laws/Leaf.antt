-- A value whose command is one byte, before text, is observed where it stands.
use Rattle.std.specs.Prelude.{◌≡◌, refl, false, not, List, ℕ, ◌+◌, ◌<◌, eqb, length, get_or}
use Rattle.std.proofs.lemmas.Bool.{not-true}
use Rattle.logic.specs.laws.Table.{all_below, below_at}
use Rattle.commands.specs.declared.Due.TheVariants as D
use Rattle.commands.specs.Commands.{form_of, made, text_byte, read_command}
use Rattle.shapes.specs.Shapes.{shape_at}
use Rattle.shapes.specs.laws.Bytes.{bare_read, before_text}
use Rattle.shapes.specs.Leaf.{plain_kind}
use Rattle.shapes.specs.laws.Leaf.{plain_shape}
use Rattle.reading.specs.Reading.{value_at}
use Rattle.leaves.specs.Leaves.{Out, observed}
use Rattle.leaves.specs.Marks.{is_mark, past_marks}
use Rattle.reading.specs.laws.Readers.{value_parted, parted_leaf}
use Rattle.leaves.specs.laws.Marks.{past_other}

-- by going through them: no mark
no_mark : (byte : ℕ) → byte < text_byte → is_mark byte ≡ false
unfolding all_below
no_mark byte h = not-true (is_mark byte) (below_at text_byte (λ b. not (is_mark b)) refl byte h)

pub value_plain : (commands text : List ℕ) (at byte options levels place n : ℕ) (t : List ℕ) (o : Out) → get_or commands at 0 ≡ byte → at < length commands → byte < text_byte →
    o ≡ observed options (eqb byte 0) (plain_kind byte) levels at (at + 1) place n t → o ≡ value_at commands text options levels at place n t
value_plain commands text at byte options levels place n t o is inside small e =
    value_parted commands text options at place n t at t
    (past_other commands place at t (past_marks commands at place t) refl inside byte (rw is refl) (is_mark byte) refl (no_mark byte small))
    levels o
    (parted_leaf commands text options levels at place n t (read_command commands text at D.Value) refl (made (form_of byte) commands (at + 1)) (at + 1)
    (bare_read commands text at byte D.Value is inside (before_text byte small) refl)
    (shape_at options text (made (form_of byte) commands (at + 1))) refl o (eqb byte 0) (plain_kind byte) (plain_shape text commands (at + 1) options byte small) e)
