-- What is known of a part and of a shape that was read.
use Prim.{Unit, tt}
use Rattle.std.specs.Prelude.{◌≡◌, Bool, true, false, ◌&&◌, List, ℕ, ◌+◌, ◌%◌, ◌<◌, ◌≤◌, ltb, length, get_or, Ok, Err}
use Rattle.std.proofs.Math.Path.{refl}
use Rattle.std.proofs.Common.{sym, ◌∙◌, le_refl, arith}
use Rattle.std.proofs.lemmas.Bool.{false≢true}
use Rattle.std.proofs.Math.Option.{some}
use Rattle.std.proofs.Math.Dec.{eqb}
use Rattle.logic.specs.Test.{when◌then◌else◌}
use Rattle.datatype.specs.Codes.{null}
use Rattle.options.specs.Word.{map_as_struct, string_type, bytes_as_large_binary, string_as_large_utf8, guess_dates}
use Rattle.text.specs.declared.Name.{Name}
use Rattle.text.specs.Utf8.{reads}
use Rattle.chrono.specs.Text.{text_type, first_fit}
use Rattle.commands.specs.declared.Command.{Command}
use Rattle.commands.specs.declared.Command.TheVariants as C
use Rattle.commands.specs.declared.Due.{Due}
use Rattle.commands.specs.declared.Due.TheVariants as D
use Rattle.commands.specs.Commands.{read_command, name_at, end_byte, Read}
use Rattle.commands.specs.laws.Commands as L
use Rattle.model.specs.Kinds.{sequence_kind, struct_kind, map_kind, tuple_kind, map_mode_kind}
use Rattle.shapes.specs.declared.Step.{Step}
use Rattle.shapes.specs.declared.Step.TheVariants as S
use Rattle.shapes.specs.declared.Contents.{Contents}
use Rattle.shapes.specs.declared.Container.{Container}
use Rattle.shapes.specs.declared.Shape.{Shape}
use Rattle.shapes.specs.declared.Shape.TheVariants as H
use Rattle.shapes.specs.declared.Part.TheVariants as P
use Rattle.shapes.specs.Steps.{no_name, name_of, Inside, Good}
use Rattle.shapes.specs.Shapes.{shape_at, is_parted, value_part, field_part, part_at, PartRead}

-- a choice has what both its sides have
if_has : {A : Type 0} (P : A → Type 0) (t : Bool) {a b : A} → (t ≡ true → P a) → (t ≡ false → P b) → P (when t then a else b)
unfolding when◌then◌else◌
if_has P true p q = p refl
if_has P false p q = q refl

-- ---- names
-- no name is a good one
pub no_name_good : (text : List ℕ) → Good text no_name
unfolding reads
no_name_good text = record { inside = omega arith; utf8 = refl }

-- and so is the name of a command that was read
pub name_good : (commands text : List ℕ) (at : ℕ) (due : Due) (answer : Read) (command : Command) (next : ℕ) →
    answer ≡ read_command commands text at due → answer ≡ Ok (command, next) → (name : Name) → L.name_of command ≡ some name → Good text name
name_good commands text at due answer command next e h name n =
    record { inside = L.name_within commands text at due answer command next e h command name refl n; utf8 = L.name_utf8 commands text at due answer command next e h command name refl n }

-- ---- a part
-- what is known of it: the name of a step is inside the text and UTF-8, and its value inside the commands and no earlier than the part
abbrev pub KnownPart : List ℕ → List ℕ → ℕ → PartRead → Type 0
KnownPart commands text at (Ok (P.Ended behind)) = (at ≤ behind) × (at ≤ length commands → behind ≤ length commands)
KnownPart commands text at (Ok (P.Step step value)) = Good text (name_of step) × (at ≤ value) × (value ≤ length commands)
KnownPart commands text at (Err r) = Unit {0}

module _ (commands text : List ℕ) (at : ℕ) where
  value_known : (step : Step) (due : Due) → Good text (name_of step) → (answer : Read) → answer ≡ read_command commands text at due → KnownPart commands text at (value_part commands step at answer)
  value_known step due good (Ok (command, behind)) e =
      let above : at < behind = L.next_above commands text at due _ command behind e refl in
      let within : behind ≤ length commands = L.next_within commands text at due _ command behind e refl in
      if_has (KnownPart commands text at) (eqb (get_or commands at 0) end_byte) (λ end. (omega arith, λ h. within)) (λ end. (good, le_refl at, omega arith))
  value_known step due good (Err r) e = tt

  field_known : (due : Due) (named : Name → Command) → ((name : Name) → L.name_of (named name) ≡ some name) →
      ((command : Command) (next : ℕ) → eqb (get_or commands at 0) end_byte ≡ false → read_command commands text at due ≡ Ok (command, next) → command ≡ named (name_at commands (at + 1))) →
      (answer : Read) → answer ≡ read_command commands text at due → KnownPart commands text at (field_part commands at answer)
  field_known due named has is (Ok (command, behind)) e =
      let above : at < behind = L.next_above commands text at due _ command behind e refl in
      let within : behind ≤ length commands = L.next_within commands text at due _ command behind e refl in
      if_has (KnownPart commands text at) (eqb (get_or commands at 0) end_byte) (λ end. (omega arith, λ h. within))
      (λ end. (name_good commands text at due _ command behind e refl _ (rw (is command behind end (sym e)) (has _)), omega arith, within))
  field_known due named has is (Err r) e = tt

  pub part_known : (kind positions i : ℕ) → KnownPart commands text at (part_at commands text kind positions i at)
  unfolding part_at
  part_known kind positions i =
      let P : PartRead → Type 0 = KnownPart commands text at in
      if_has P (eqb kind sequence_kind) (λ e. value_known S.Element D.ValueOrEnd (no_name_good text) _ refl)
      (λ e. if_has P (eqb kind struct_kind) (λ e. field_known D.FieldOrEnd C.Field (λ n. refl) (λ c n end. L.field_due commands text at c n end) _ refl)
      (λ e. if_has P (eqb kind map_mode_kind) (λ e. field_known D.KeyOrEnd C.Text (λ n. refl) (λ c n end. L.key_due commands text at c n end) _ refl)
      (λ e. if_has P (eqb kind map_kind && eqb (i % 2) 0) (λ e. value_known S.Key D.ValueOrEnd (no_name_good text) _ refl)
      (λ e. if_has P (eqb kind map_kind) (λ e. value_known S.Value D.Value (no_name_good text) _ refl)
      (λ e. if_has P (ltb i positions) (λ e. value_known (S.Position i) D.Value (no_name_good text) _ refl)
      (λ e. (le_refl at, λ h. h)))))))

-- the same of an answer that reading gave
module _ (commands text : List ℕ) (kind positions i at : ℕ) (part : PartRead) (e : part ≡ part_at commands text kind positions i at) where
  known : KnownPart commands text at part
  known = rw e (part_known commands text at kind positions i)

  pub step_above : (step : Step) (value : ℕ) → part ≡ Ok (P.Step step value) → at ≤ value
  step_above step value h = (rw h at known).1

  pub step_within : (step : Step) (value : ℕ) → part ≡ Ok (P.Step step value) → value ≤ length commands
  step_within step value h = (rw h at known).2

-- at one kind: for the loop over one container
module _ (commands text : List ℕ) (positions i at : ℕ) where
  pub sequence_part : part_at commands text sequence_kind positions i at ≡ value_part commands S.Element at (read_command commands text at D.ValueOrEnd)
  unfolding part_at when◌then◌else◌
  sequence_part = refl

  pub tuple_part : part_at commands text tuple_kind positions i at ≡ (when ltb i positions then value_part commands (S.Position i) at (read_command commands text at D.Value) else Ok (P.Ended at))
  unfolding part_at when◌then◌else◌
  tuple_part = refl

  -- a map has no positions
  pub map_part : part_at commands text map_kind positions i at ≡ part_at commands text map_kind 0 i at
  unfolding part_at when◌then◌else◌
  map_part = refl

-- ---- a shape
-- a text observes a primitive type
text_below : (options : ℕ) (s : List ℕ) → text_type options s < sequence_kind
unfolding text_type first_fit
text_below options s =
    let P : ℕ → Type 0 = λ (type : ℕ). type < sequence_kind in
    let string : string_type options < sequence_kind = if_has P (string_as_large_utf8 options) (λ e. omega arith) (λ e. omega arith) in
    if_has P (guess_dates options)
    (λ e. if_has P _ (λ e. omega arith) (λ e. if_has P _ (λ e. omega arith) (λ e. if_has P _ (λ e. omega arith) (λ e. if_has P _ (λ e. omega arith) (λ e. string)))))
    (λ e. string)

-- what is known of the shape of a command: a leaf is of a primitive type, a null of none, parts are those of a container, and a variant has the command's name
abbrev pub KnownShape : Command → Shape → Type 0
KnownShape command (H.Leaf is_null type) = (type < sequence_kind) × (is_null ≡ true → type ≡ null)
KnownShape command (H.Parts container) = is_parted container.kind ≡ true
KnownShape command (H.Variant number name contents) = L.name_of command ≡ some name
KnownShape command H.NoValue = Unit {0}

pub shape_known : (options : ℕ) (text : List ℕ) (command : Command) → KnownShape command (shape_at options text command)
unfolding shape_at is_parted
shape_known options text C.Unit = (omega arith, λ e. refl)
shape_known options text C.Bool = (omega arith, λ e. absurd (false≢true e))
shape_known options text C.I8 = (omega arith, λ e. absurd (false≢true e))
shape_known options text C.I16 = (omega arith, λ e. absurd (false≢true e))
shape_known options text C.I32 = (omega arith, λ e. absurd (false≢true e))
shape_known options text C.I64 = (omega arith, λ e. absurd (false≢true e))
shape_known options text C.U8 = (omega arith, λ e. absurd (false≢true e))
shape_known options text C.U16 = (omega arith, λ e. absurd (false≢true e))
shape_known options text C.U32 = (omega arith, λ e. absurd (false≢true e))
shape_known options text C.U64 = (omega arith, λ e. absurd (false≢true e))
shape_known options text C.F32 = (omega arith, λ e. absurd (false≢true e))
shape_known options text C.F64 = (omega arith, λ e. absurd (false≢true e))
shape_known options text C.Char = (omega arith, λ e. absurd (false≢true e))
shape_known options text (C.Text name) = (text_below options _, λ e. absurd (false≢true e))
shape_known options text C.Bytes = (if_has (λ (type : ℕ). type < sequence_kind) (bytes_as_large_binary options) (λ e. omega arith) (λ e. omega arith), λ e. absurd (false≢true e))
shape_known options text C.None = (omega arith, λ e. refl)
shape_known options text C.Some = tt
shape_known options text C.NewtypeStruct = tt
shape_known options text C.Sequence = refl
shape_known options text (C.Tuple n) = refl
shape_known options text C.Map = if_has (λ (kind : ℕ). is_parted kind ≡ true) (map_as_struct options) (λ e. refl) (λ e. refl)
shape_known options text C.Struct = refl
shape_known options text (C.Field name) = tt
shape_known options text C.End = tt
shape_known options text (C.UnitVariant k name) = refl
shape_known options text (C.NewtypeVariant k name) = refl
shape_known options text (C.TupleVariant k name n) = refl
shape_known options text (C.StructVariant k name) = refl

-- the same of an answer, for a command that was read
module _ (commands text : List ℕ) (at : ℕ) (due : Due) (answer : Read) (command : Command) (next : ℕ) (e : answer ≡ read_command commands text at due) (h : answer ≡ Ok (command, next)) where
  -- what `shape_of` asks
  pub text_inside : (name : Name) → command ≡ C.Text name → Inside text name
  text_inside name t = L.name_within commands text at due answer command next e h _ name t refl

  pub variant_good : (options : ℕ) (shape : Shape) → shape ≡ shape_at options text command → (number : ℕ) (name : Name) (contents : Contents) → shape ≡ H.Variant number name contents → Good text name
  variant_good options shape s number name contents v =
      name_good commands text at due answer command next e h name (rw (sym s ∙ v) at (shape_known options text command))

module _ (options : ℕ) (text : List ℕ) (command : Command) (shape : Shape) (e : shape ≡ shape_at options text command) where
  pub leaf_below : (is_null : Bool) (type : ℕ) → shape ≡ H.Leaf is_null type → type < sequence_kind
  leaf_below is_null type h = (rw (sym e ∙ h) at (shape_known options text command)).0

  pub null_untyped : (type : ℕ) → shape ≡ H.Leaf true type → type ≡ null
  null_untyped type h = (rw (sym e ∙ h) at (shape_known options text command)).1 refl

  pub parts_parted : (container : Container) → shape ≡ H.Parts container → is_parted container.kind ≡ true
  parts_parted container h = rw (sym e ∙ h) at (shape_known options text command)
