-- The value at an offset, where it is a primitive.
use Rattle.std.specs.Prelude.{◌≡◌, Bool, true, not, ◌&&◌, List, ℕ, eqb, ltb, Ok, Err, Some, None, Option}
use Rattle.logic.specs.Test.{when◌then◌else◌}
use Rattle.datatype.specs.Codes.{null, uint32}
use Rattle.options.specs.declared.TracingOptions.{TracingOptions}
use Rattle.text.specs.Block.{is_ascii}
use Rattle.commands.specs.declared.Due.TheVariants as D
use Rattle.commands.specs.Commands.{read_command, Read}
use Rattle.shapes.specs.declared.Shape.{Shape}
use Rattle.shapes.specs.declared.Shape.TheVariants as H
use Rattle.shapes.specs.declared.Leaf.{Leaf}
use Rattle.shapes.specs.Shapes.{shape_at}

-- what the options tell of the text that goes with them is so
abbrev pub Told : TracingOptions → List ℕ → Type 0
Told options text = options.ascii ≡ true → is_ascii text ≡ true

-- the type of a value before text has its command's number, and a char is a UInt32
abbrev pub char_byte : ℕ
char_byte = 0x0C

unfoldable pub plain_kind : ℕ → ℕ
plain_kind byte = when eqb byte char_byte then uint32 else byte

-- a type whose code is its command's byte, and not Null
unfoldable pub is_own_byte : ℕ → Bool
is_own_byte kind = not (eqb kind null) && ltb kind char_byte

-- a primitive: whether it is null, its type and the offset behind it
abbrev pub leaf_of : Bool → ℕ → ℕ → Option Leaf
leaf_of is_null kind behind = Some (record { null = is_null; kind = kind; next = behind })

-- a shape as a leaf
abbrev pub leaf_by : ℕ → Shape → Option Leaf
leaf_by behind (H.Leaf is_null kind) = leaf_of is_null kind behind
leaf_by behind (H.Parts container) = None
leaf_by behind (H.Variant number name contents) = None
leaf_by behind H.NoValue = None

-- what was read as a leaf
abbrev pub leaf_read : ℕ → List ℕ → Read → Option Leaf
leaf_read options text (Ok (command, behind)) = leaf_by behind (shape_at options text command)
leaf_read options text (Err r) = None

-- the primitive that stands where a value is due
unfoldable pub leaf_at : ℕ → List ℕ → List ℕ → ℕ → Option Leaf
leaf_at options commands text at = leaf_read options text (read_command commands text at D.Value)
