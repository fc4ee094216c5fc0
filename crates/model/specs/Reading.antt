-- From commands and text to values (document 01, "Commands and texts"). Reading is total: where a command cannot be read, a leaf `cut`
-- with the refusal (4, 5 or 6) and its place stands in the value, and nothing follows it.
use Rattle.std.specs.Prelude.{Bool, true, false, ◌&&◌, List, [], ◌∷◌, ℕ, zero, suc, ◌+◌, ◌*◌, ◌%◌, eqb, ltb, length, get_or, Ok, Err}
use Rattle.std.proofs.Math.Option.{Option, none, some}
use Rattle.logic.specs.Test.{when◌then◌else◌}
use Rattle.datatype.specs.Codes.{null, boolean, int8, int16, int32, int64, uint8, uint16, uint32, uint64, float32, float64}
use Rattle.options.specs.Word.{map_as_struct, binary_type}
use Rattle.refusal.specs.Number.{bad_command, number_of}
use Rattle.text.specs.Name.{bytes_of}
use Rattle.chrono.specs.Text.{text_type}
use Rattle.commands.specs.declared.Command.{Command}
use Rattle.commands.specs.declared.Command.TheVariants as C
use Rattle.commands.specs.declared.Due.TheVariants as D
use Rattle.commands.specs.Commands.{read_command, name_at, end_byte, Read}
use Rattle.model.specs.Kinds.{sequence_kind, struct_kind, map_kind, tuple_kind, union_kind, map_mode_kind, Step, field, element, position, key, value, variant}

-- A value: the offset of its command, whether none, some or Null was seen, its kind, the number of positions of a tuple, and its parts.
-- `some` (10) and newtype struct (11) make no value of their own: 10 marks the value that follows.
mutual
  pub data Value : Type 0 where
    val : (at : ℕ) → (null : Bool) → (kind positions : ℕ) → Parts → Value
    cut : (refusal place : ℕ) → Value

  -- the parts of a container in their order, each with the offset of its first command and the step to it
  pub data Parts : Type 0 where
    no_parts : Parts
    cut_off : (refusal place : ℕ) → Parts
    part : (at : ℕ) → Step → Value → Parts → Parts

-- ---- what a command begins
pub data Shape : Type 0 where
  leaf : (null : Bool) → (type : ℕ) → Shape
  -- one value follows, which is marked or not
  follows : (marked : Bool) → Shape
  -- the parts of a container follow
  parts : (kind positions : ℕ) → Shape
  -- a variant, and what its contents begin
  chosen : (number : ℕ) → (name : List ℕ) → Shape → Shape
  -- 16 and 17 begin no value
  no_value : Shape

-- the commands of document 01, one by one
unfoldable pub shape_of : ℕ → List ℕ → Command → Shape
shape_of options text C.Unit = leaf true null
shape_of options text C.Bool = leaf false boolean
shape_of options text C.I8 = leaf false int8
shape_of options text C.I16 = leaf false int16
shape_of options text C.I32 = leaf false int32
shape_of options text C.I64 = leaf false int64
shape_of options text C.U8 = leaf false uint8
shape_of options text C.U16 = leaf false uint16
shape_of options text C.U32 = leaf false uint32
shape_of options text C.U64 = leaf false uint64
shape_of options text C.F32 = leaf false float32
shape_of options text C.F64 = leaf false float64
shape_of options text C.Char = leaf false uint32
shape_of options text (C.Text name) = leaf false (text_type options (bytes_of text name))
shape_of options text C.Bytes = leaf false (binary_type options)
shape_of options text C.None = leaf true null
shape_of options text C.Some = follows true
shape_of options text C.NewtypeStruct = follows false
shape_of options text C.Sequence = parts sequence_kind 0
shape_of options text (C.Tuple n) = parts tuple_kind n
shape_of options text C.Map = parts (when map_as_struct options then map_mode_kind else map_kind) 0
shape_of options text C.Struct = parts struct_kind 0
shape_of options text (C.Field name) = no_value
shape_of options text C.End = no_value
shape_of options text (C.UnitVariant k name) = chosen k (bytes_of text name) (leaf true null)
shape_of options text (C.NewtypeVariant k name) = chosen k (bytes_of text name) (follows false)
shape_of options text (C.TupleVariant k name n) = chosen k (bytes_of text name) (parts tuple_kind n)
shape_of options text (C.StructVariant k name) = chosen k (bytes_of text name) (parts struct_kind 0)

-- ---- what stands before a part of a container: its end and the offset behind it, a step and the offset of the part's value, or a refusal
pub data Next : Type 0 where
  ended : (behind : ℕ) → Next
  next : Step → (at : ℕ) → Next
  bad : (refusal place : ℕ) → Next

-- a value, with the step to it, or the end
abbrev pub value_next : List ℕ → Step → ℕ → Read → Next
value_next commands step at (Ok (command, behind)) = when eqb (get_or commands at 0) end_byte then ended behind else next step at
value_next commands step at (Err e) = bad (number_of e.refusal) e.place

-- a field (16) or a key (0D), whose operands are its name, or the end
abbrev pub field_next : List ℕ → List ℕ → ℕ → Read → Next
field_next commands text at (Ok (command, behind)) =
    when eqb (get_or commands at 0) end_byte then ended behind else next (field (bytes_of text (name_at commands (at + 1)))) behind
field_next commands text at (Err e) = bad (number_of e.refusal) e.place

-- before part i of a container of that kind, with so many positions
unfoldable pub next_part : List ℕ → List ℕ → ℕ → ℕ → ℕ → ℕ → Next
next_part commands text kind positions i at =
    when eqb kind sequence_kind then value_next commands element at (read_command commands text at D.ValueOrEnd)
    else when eqb kind struct_kind then field_next commands text at (read_command commands text at D.FieldOrEnd)
    else when eqb kind map_mode_kind then field_next commands text at (read_command commands text at D.KeyOrEnd)
    else when eqb kind map_kind && eqb (i % 2) 0 then value_next commands key at (read_command commands text at D.ValueOrEnd)
    else when eqb kind map_kind then value_next commands value at (read_command commands text at D.Value)
    else when ltb i positions then value_next commands (position i) at (read_command commands text at D.Value)
    else ended at

-- ---- what was read, and the offset behind it: none where the reading was cut
abbrev pub Got : Type 0 → Type 0
Got A = A × Option ℕ

-- a `some` before a value
abbrev pub marked : Bool → Value → Value
marked mark (val at null kind n ps) = val at (when mark then true else null) kind n ps
marked mark (cut refusal place) = cut refusal place

abbrev pub cut_at : ℕ → ℕ → Got Value
cut_at refusal place = (cut refusal place, none)

-- a part, and those that follow it where it was not cut
abbrev pub rest : Option ℕ → (ℕ → Got Parts) → Got Parts
rest none more = (no_parts, none)
rest (some behind) more = more behind

abbrev pub and_then : ℕ → Step → Got Value → (ℕ → Got Parts) → Got Parts
and_then at step got more = let others = rest got.1 more in (part at step got.0 others.0, others.1)

-- Each takes a bound on how many calls deep it goes; `enough` is above what any reading needs (proved in `equality`, reading/Locality).
unfoldable mutual
  pub read_value : ℕ → ℕ → List ℕ → List ℕ → ℕ → Got Value
  read_value zero options commands text at = cut_at bad_command at
  read_value (suc deep) options commands text at =
      elim (read_command commands text at D.Value) [
        | Ok (command, behind) ↦ read_shape deep options commands text at behind (shape_of options text command)
        | Err e ↦ cut_at (number_of e.refusal) e.place
      ]

  -- the value that a command at `at` begins, whose operands end at `behind`
  pub read_shape : ℕ → ℕ → List ℕ → List ℕ → ℕ → ℕ → Shape → Got Value
  read_shape zero options commands text at behind shape = cut_at bad_command at
  read_shape (suc deep) options commands text at behind shape =
      elim shape [
        | leaf null type ↦ (val at null type 0 no_parts, some behind)
        | follows mark ↦ (let got = read_value deep options commands text behind in (marked mark got.0, got.1))
        | parts kind n ↦ (let got = read_parts deep options commands text kind n 0 behind in (val at false kind n got.0, got.1))
        | chosen number name contents ↦ (let got = read_shape deep options commands text at behind contents in
            (val at false union_kind 0 (part at (variant number name) got.0 no_parts), got.1))
        | no_value ↦ cut_at bad_command at
      ]

  -- the parts of a container from part i on
  pub read_parts : ℕ → ℕ → List ℕ → List ℕ → ℕ → ℕ → ℕ → ℕ → Got Parts
  read_parts zero options commands text kind n i at = (cut_off bad_command at, none)
  read_parts (suc deep) options commands text kind n i at =
      elim (next_part commands text kind n i at) [
        | ended behind ↦ (no_parts, some behind)
        | next step start ↦ and_then at step (read_value deep options commands text start)
            (λ behind. read_parts deep options commands text kind n (i + 1) behind)
        | bad refusal place ↦ (cut_off refusal place, none)
      ]

abbrev pub enough : List ℕ → ℕ
enough commands = 4 * length commands + 4

-- the records of a batch: values up to the end
unfoldable pub records_from : ℕ → ℕ → List ℕ → List ℕ → ℕ → List Value
records_from zero options commands text at = []
records_from (suc deep) options commands text at =
    elim (ltb at (length commands)) [
      | false ↦ []
      | true ↦ (let got = read_value (enough commands) options commands text at in
          got.0 ∷ elim got.1 [ none ↦ [] | some behind ↦ records_from deep options commands text behind ])
    ]

unfoldable pub values : ℕ → List ℕ → List ℕ → List Value
values options commands text = records_from (length commands) options commands text 0

-- ---- well-formed: read through without tracing, nothing was cut (and refusals 1 and 3 do not apply: see Answer)
unfoldable mutual
  pub is_whole : Value → Bool
  is_whole (val at null kind n ps) = are_whole ps
  is_whole (cut refusal place) = false

  pub are_whole : Parts → Bool
  are_whole no_parts = true
  are_whole (cut_off refusal place) = false
  are_whole (part at step v ps) = is_whole v && are_whole ps

unfoldable pub all_whole : List Value → Bool
all_whole [] = true
all_whole (v ∷ vs) = is_whole v && all_whole vs
