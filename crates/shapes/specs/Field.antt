-- What stands where a field of a struct, or of a map in map mode, or the end is due.
use Rattle.std.specs.Prelude.{List, ℕ, ◌+◌, eqb, Ok, Err, Some, None, Option, Result}
use Rattle.logic.specs.Test.{when◌then◌else◌}
use Rattle.text.specs.declared.Name.{Name}
use Rattle.refusal.specs.declared.Refusal.{Refusal}
use Rattle.commands.specs.declared.Due.{Due}
use Rattle.commands.specs.declared.Due.TheVariants as D
use Rattle.commands.specs.Commands.{name_at, text_byte, field_byte, read_command, Read}
use Rattle.model.specs.Kinds.{struct_kind}
use Rattle.shapes.specs.Shapes.{named_at}

-- the byte that opens a field, and what is due there
abbrev pub opener_of : ℕ → ℕ
opener_of kind = when eqb kind struct_kind then field_byte else text_byte

abbrev pub due_of : ℕ → Due
due_of kind = when eqb kind struct_kind then D.FieldOrEnd else D.KeyOrEnd

-- a name, or the end, or a refusal
abbrev pub Field : Type 0
Field = Result (Option Name) Refusal

-- what was read where no name stands
abbrev pub end_or : Read → Field
end_or (Ok (command, behind)) = Ok None
end_or (Err r) = Err r.refusal

-- the name that stands behind the opening byte, if it ends inside the text; else the end, or a refusal
unfoldable pub field_at : List ℕ → List ℕ → ℕ → ℕ → Field
field_at commands text kind at =
    when named_at commands text (opener_of kind) at then Ok (Some (name_at commands (at + 1)))
    else end_or (read_command commands text at (due_of kind))
