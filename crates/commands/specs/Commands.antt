-- The commands, as in document 01's "Commands and texts", and what refuses one (4, 5 and 6 of "Eighteen ways to be turned down").
use Rattle.std.specs.Prelude.{ℕ, ◌+◌, ◌*◌, Bool, false, not, ◌&&◌, ◌||◌, List, [], ◌∷◌, eqb, leb, ltb, length, get_or, Result, Ok, Err}
use Rattle.std.proofs.Math.Option.{Option, none, some}
use Rattle.logic.specs.Test.{when◌then◌else◌}
use Rattle.text.specs.declared.Name.{Name}
use Rattle.text.specs.Name.{inside, bytes_of}
use Rattle.text.specs.Utf8.{is_utf8}
use Rattle.refusal.specs.declared.Refusal.{Refusal}
use Rattle.refusal.specs.declared.Refusal.TheVariants as F
use Rattle.refusal.specs.declared.Refused.{Refused}
use Rattle.commands.specs.declared.Command.{Command}
use Rattle.commands.specs.declared.Command.TheVariants as C
use Rattle.commands.specs.declared.Due.{Due}
use Rattle.commands.specs.declared.Due.TheVariants as D

-- the operand at an offset: a u16, low byte first
abbrev pub operand_at : List ℕ → ℕ → ℕ
operand_at commands at = get_or commands at 0 + get_or commands (at + 1) 0 * 256

-- a name takes two: its offset and its length in the text
abbrev pub name_at : List ℕ → ℕ → Name
name_at commands at = record { offset = operand_at commands at; length = operand_at commands (at + 2) }

-- a command by what its operands are: none; a count (n); a name; a variant number, then a name; these two, then a count
pub data Form : Type 0 where
  plain : Command → Form
  counted : (ℕ → Command) → Form
  named : (Name → Command) → Form
  variant : (ℕ → Name → Command) → Form
  counted_variant : (ℕ → Name → ℕ → Command) → Form

-- the commands in the order of their bytes, from 00 to 1B
abbrev pub forms : List Form
forms =
    plain C.Unit ∷
    plain C.Bool ∷
    plain C.I8 ∷
    plain C.I16 ∷
    plain C.I32 ∷
    plain C.I64 ∷
    plain C.U8 ∷
    plain C.U16 ∷
    plain C.U32 ∷
    plain C.U64 ∷
    plain C.F32 ∷
    plain C.F64 ∷
    plain C.Char ∷
    named C.Text ∷
    plain C.Bytes ∷
    plain C.None ∷
    -- from 10
    plain C.Some ∷
    plain C.NewtypeStruct ∷
    plain C.Sequence ∷
    counted C.Tuple ∷
    plain C.Map ∷
    plain C.Struct ∷
    named C.Field ∷
    plain C.End ∷
    variant C.UnitVariant ∷
    variant C.NewtypeVariant ∷
    counted_variant C.TupleVariant ∷
    variant C.StructVariant ∷
    []

-- the form of the command with a byte; which one stands for an unknown byte does not matter
unfoldable pub form_of : ℕ → Form
form_of byte = get_or forms byte (plain C.Unit)

-- how many operands a command has
unfoldable pub operands : Form → ℕ
operands (plain f) = 0
operands (counted f) = 1
operands (named f) = 2
operands (variant f) = 3
operands (counted_variant f) = 4

-- how many bytes it takes with them
abbrev pub width : Form → ℕ
width form = 1 + 2 * operands form

-- the command whose operands start at an offset
unfoldable pub made : Form → List ℕ → ℕ → Command
made (plain command) commands at = command
made (counted f) commands at = f (operand_at commands at)
made (named f) commands at = f (name_at commands at)
made (variant f) commands at = f (operand_at commands at) (name_at commands (at + 2))
made (counted_variant f) commands at = f (operand_at commands at) (name_at commands (at + 2)) (operand_at commands (at + 6))

-- its name, where it has one
unfoldable pub name_in : Form → List ℕ → ℕ → Option Name
name_in (plain f) commands at = none
name_in (counted f) commands at = none
name_in (named f) commands at = some (name_at commands at)
name_in (variant f) commands at = some (name_at commands (at + 2))
name_in (counted_variant f) commands at = some (name_at commands (at + 2))

-- the bytes of text, field and end
abbrev pub text_byte : ℕ
text_byte = 0x0D

abbrev pub field_byte : ℕ
field_byte = 0x16

abbrev pub end_byte : ℕ
end_byte = 0x17

-- the bytes that can stand where something is due: a value is any but field and end
abbrev pub stands : Due → ℕ → Bool
stands D.Value byte = not (eqb byte field_byte) && not (eqb byte end_byte)
stands D.ValueOrEnd byte = not (eqb byte field_byte)
stands D.FieldOrEnd byte = eqb byte field_byte || eqb byte end_byte
stands D.KeyOrEnd byte = not (eqb byte field_byte)

-- refusal 4: no command is left, or it is unknown, cut off, or cannot stand there
unfoldable pub bad_command : List ℕ → ℕ → Due → Bool
bad_command commands at due =
    let byte : ℕ = get_or commands at 0 in
    leb (length commands) at || leb (length forms) byte || ltb (length commands) (at + width (form_of byte)) || not (stands due byte)

-- refusal 5: a name's offset plus length exceeds the text, or it is not UTF-8
unfoldable pub bad_name : List ℕ → Option Name → Bool
bad_name text none = false
bad_name text (some name) = not (inside text name && is_utf8 (bytes_of text name))

-- refusal 6: under map_as_struct a key is not 0D
abbrev pub bad_key : Due → ℕ → Bool
bad_key D.Value byte = false
bad_key D.ValueOrEnd byte = false
bad_key D.FieldOrEnd byte = false
bad_key D.KeyOrEnd byte = not (eqb byte text_byte) && not (eqb byte end_byte)

-- what reading gives: a command and the offset behind it, or a refusal and its place
abbrev pub Read : Type 0
Read = Result (Command × ℕ) Refused

-- a refusal at a place, whatever was to be read
abbrev pub refused_at : {A : Type 0} → Refusal → ℕ → Result A Refused
refused_at refusal place = Err (record { refusal = refusal; place = place })

-- reading at an offset: the first refusal that applies, with the offset as its place, or the command and the offset behind it
unfoldable pub read_command : List ℕ → List ℕ → ℕ → Due → Read
read_command commands text at due =
    let byte : ℕ = get_or commands at 0 in
    let form : Form = form_of byte in
    when bad_command commands at due then refused_at F.BadCommand at
    else (when bad_name text (name_in form commands (at + 1)) then refused_at F.BadName at
    else (when bad_key due byte then refused_at F.BadKey at
    else Ok (made form commands (at + 1), at + width form)))
