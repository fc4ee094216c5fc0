-- What a command begins, and what stands before a part of a container (document 01, "Commands and texts"), with names by their operands.
use Rattle.std.specs.Prelude.{Bool, true, false, not, ◌&&◌, ◌||◌, List, ℕ, ◌+◌, ◌%◌, eqb, leb, ltb, length, get_or, Result, Ok, Err}
use Rattle.logic.specs.Test.{when◌then◌else◌}
use Rattle.datatype.specs.Codes.{null, boolean, int8, int16, int32, int64, uint8, uint16, uint32, uint64, float32, float64}
use Rattle.refusal.specs.declared.Refused.{Refused}
use Rattle.options.specs.Word.{map_as_struct, binary_type}
use Rattle.text.specs.Name.{inside, bytes_of}
use Rattle.chrono.specs.Text.{text_type}
use Rattle.commands.specs.declared.Command.{Command}
use Rattle.commands.specs.declared.Command.TheVariants as C
use Rattle.commands.specs.declared.Due.{Due}
use Rattle.commands.specs.declared.Due.TheVariants as D
use Rattle.commands.specs.Commands.{read_command, name_at, text_byte, end_byte, Read}
use Rattle.model.specs.Kinds.{sequence_kind, struct_kind, map_kind, tuple_kind, map_mode_kind, is_struct}
use Rattle.shapes.specs.declared.Step.{Step}
use Rattle.shapes.specs.declared.Step.TheVariants as S
use Rattle.shapes.specs.declared.Contents.TheVariants as N
use Rattle.shapes.specs.declared.Shape.{Shape}
use Rattle.shapes.specs.declared.Shape.TheVariants as H
use Rattle.shapes.specs.declared.Part.{Part}
use Rattle.shapes.specs.declared.Part.TheVariants as P

-- ---- what a command begins
-- the parts of a container of that kind, with so many positions
abbrev pub parts_of : ℕ → ℕ → Shape
parts_of kind positions = H.Parts (record { kind = kind; positions = positions })

abbrev pub map_kind_of : ℕ → ℕ
map_kind_of options = when map_as_struct options then map_mode_kind else map_kind

unfoldable pub shape_at : ℕ → List ℕ → Command → Shape
shape_at options text C.Unit = H.Leaf true null
shape_at options text C.Bool = H.Leaf false boolean
shape_at options text C.I8 = H.Leaf false int8
shape_at options text C.I16 = H.Leaf false int16
shape_at options text C.I32 = H.Leaf false int32
shape_at options text C.I64 = H.Leaf false int64
shape_at options text C.U8 = H.Leaf false uint8
shape_at options text C.U16 = H.Leaf false uint16
shape_at options text C.U32 = H.Leaf false uint32
shape_at options text C.U64 = H.Leaf false uint64
shape_at options text C.F32 = H.Leaf false float32
shape_at options text C.F64 = H.Leaf false float64
shape_at options text C.Char = H.Leaf false uint32
shape_at options text (C.Text name) = H.Leaf false (text_type options (bytes_of text name))
shape_at options text C.Bytes = H.Leaf false (binary_type options)
shape_at options text C.None = H.Leaf true null
shape_at options text C.Some = H.NoValue
shape_at options text C.NewtypeStruct = H.NoValue
shape_at options text C.Sequence = parts_of sequence_kind 0
shape_at options text (C.Tuple n) = parts_of tuple_kind n
shape_at options text C.Map = parts_of (map_kind_of options) 0
shape_at options text C.Struct = parts_of struct_kind 0
shape_at options text (C.Field name) = H.NoValue
shape_at options text C.End = H.NoValue
shape_at options text (C.UnitVariant k name) = H.Variant k name N.Unit
shape_at options text (C.NewtypeVariant k name) = H.Variant k name N.Value
shape_at options text (C.TupleVariant k name n) = H.Variant k name (N.Positions n)
shape_at options text (C.StructVariant k name) = H.Variant k name N.Fields

-- the kinds of containers that commands open
unfoldable pub is_parted : ℕ → Bool
is_parted kind = is_struct kind || eqb kind sequence_kind || eqb kind map_kind || eqb kind tuple_kind

-- ---- what stands before a part of a container, or a refusal
abbrev pub PartRead : Type 0
PartRead = Result Part Refused

abbrev pub value_part : List ℕ → Step → ℕ → Read → PartRead
value_part commands step at (Ok (command, behind)) =
    when eqb (get_or commands at 0) end_byte then Ok (P.Ended behind) else Ok (P.Step step at)
value_part commands step at (Err r) = Err r

abbrev pub field_part : List ℕ → ℕ → Read → PartRead
field_part commands at (Ok (command, behind)) =
    when eqb (get_or commands at 0) end_byte then Ok (P.Ended behind)
    else Ok (P.Step (S.Field (name_at commands (at + 1))) behind)
field_part commands at (Err r) = Err r

unfoldable pub part_at : List ℕ → List ℕ → ℕ → ℕ → ℕ → ℕ → PartRead
part_at commands text kind positions i at =
    when eqb kind sequence_kind then value_part commands S.Element at (read_command commands text at D.ValueOrEnd)
    else when eqb kind struct_kind then field_part commands at (read_command commands text at D.FieldOrEnd)
    else when eqb kind map_mode_kind then field_part commands at (read_command commands text at D.KeyOrEnd)
    else when eqb kind map_kind && eqb (i % 2) 0 then value_part commands S.Key at (read_command commands text at D.ValueOrEnd)
    else when eqb kind map_kind then value_part commands S.Value at (read_command commands text at D.Value)
    else when ltb i positions then value_part commands (S.Position i) at (read_command commands text at D.Value)
    else Ok (P.Ended at)

-- ---- what the first bytes tell of a part, before its command is read
-- a value with no operands: of the commands up to struct, text and tuple have some
abbrev pub sequence_byte : ℕ
sequence_byte = 0x12

abbrev pub tuple_byte : ℕ
tuple_byte = 0x13

abbrev pub struct_byte : ℕ
struct_byte = 0x15

unfoldable pub plain_byte : ℕ → Bool
plain_byte byte = leb byte struct_byte && not (eqb byte text_byte) && not (eqb byte tuple_byte)

-- one stands there
unfoldable pub plain_at : List ℕ → ℕ → Bool
plain_at commands at = ltb at (length commands) && plain_byte (get_or commands at 0)

-- values can stand where that is due
abbrev pub takes_value : Due → Bool
takes_value D.Value = true
takes_value D.ValueOrEnd = true
takes_value D.FieldOrEnd = false
takes_value D.KeyOrEnd = false

-- the command with that byte stands there, and the name behind it is inside the text
unfoldable pub named_at : List ℕ → List ℕ → ℕ → ℕ → Bool
named_at commands text byte at =
    leb (at + 5) (length commands) && eqb (get_or commands at 0) byte && inside text (name_at commands (at + 1))

-- a command with that byte begins there
unfoldable pub begins_at : List ℕ → ℕ → ℕ → Bool
begins_at commands byte at = ltb at (length commands) && eqb (get_or commands at 0) byte

-- a sequence does
abbrev pub sequence_at : List ℕ → ℕ → Bool
sequence_at commands at = begins_at commands sequence_byte at

-- a struct does
abbrev pub struct_at : List ℕ → ℕ → Bool
struct_at commands at = begins_at commands struct_byte at
