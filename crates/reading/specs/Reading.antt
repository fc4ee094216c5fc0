-- What reading and tracing does to the words of the table, function by function.
use Rattle.std.specs.Prelude.{true, List, ℕ, zero, suc, ◌+◌, length, Ok, Err}
use Rattle.logic.specs.Turns.{Turn, again, done, turns}
use Rattle.datatype.specs.Codes.{null}
use Rattle.refusal.specs.declared.Refusal.TheVariants as F
use Rattle.text.specs.declared.Name.{Name}
use Rattle.text.specs.Name.{bytes_of, dots}
use Rattle.commands.specs.declared.Due.TheVariants as D
use Rattle.commands.specs.Commands.{Read, read_command, refused_at}
use Rattle.model.specs.Kinds.{struct_kind, tuple_kind}
use Rattle.shapes.specs.declared.Step.{Step}
use Rattle.shapes.specs.declared.Contents.{Contents}
use Rattle.shapes.specs.declared.Contents.TheVariants as N
use Rattle.shapes.specs.declared.Shape.{Shape}
use Rattle.shapes.specs.declared.Shape.TheVariants as H
use Rattle.shapes.specs.declared.Part.TheVariants as P
use Rattle.shapes.specs.Steps.{name_of}
use Rattle.shapes.specs.Shapes.{PartRead, shape_at, part_at}
use Rattle.growth.specs.Growth.{Ensuring, ensuring, Making, making}
use Rattle.leaves.specs.Marks.{Chain, chain, past_marks}
use Rattle.leaves.specs.Leaves.{Out, traced_to, observed, out}
use Rattle.opening.specs.Opening.{container_made, held, variant_held}

-- with the children that were made, or at the child that is held
abbrev pub on_made : ℕ → (ℕ → List ℕ → Out) → Making → Out
on_made here k (making (Ok n) t) = k n t
on_made here k (making (Err refusal) t) = out (refused_at refusal here) t

abbrev pub on_held : ℕ → (ℕ → ℕ → List ℕ → Out) → Ensuring → Out
on_held here k (ensuring (Ok f) t) = k f.child f.count t
on_held here k (ensuring (Err refusal) t) = out (refused_at refusal here) t

-- ---- readers: of a value at an offset and a place, with the count of places and the table
abbrev pub Reader : Type 0
Reader = ℕ → ℕ → ℕ → List ℕ → Out

-- those one level down, less so many dots: of a value or a variant's contents, whose command stands at an offset
abbrev pub Readers : Type 0
Readers = ℕ → Contents → ℕ → Reader

abbrev pub dots_in : List ℕ → Name → ℕ
dots_in text name = dots (bytes_of text name)

unfoldable pub part_read : List ℕ → Readers → Step → ℕ → ℕ → ℕ → ℕ → List ℕ → Out
part_read text inner step here at place n t = on_held here (inner (dots_in text (name_of step)) N.Value here at) (held text place step n t)

-- ---- the parts of a container
pub data State : Type 0 where
  state : ℕ → ℕ → ℕ → List ℕ → State

abbrev pub after_part : ℕ → Out → Turn State Out
after_part i (out (Ok to) t) = again (state i to.next to.count t)
after_part i (out (Err r) t) = done (out (Err r) t)

abbrev pub on_part : List ℕ → Readers → ℕ → ℕ → ℕ → ℕ → List ℕ → PartRead → Turn State Out
on_part text inner place i at n t (Ok (P.Ended behind)) = done (out (traced_to behind n) t)
on_part text inner place i at n t (Ok (P.Step step value)) = after_part (i + 1) (part_read text inner step at value place n t)
on_part text inner place i at n t (Err r) = done (out (Err r) t)

unfoldable pub part_turn : List ℕ → List ℕ → Readers → ℕ → ℕ → ℕ → State → Turn State Out
part_turn commands text inner kind positions place (state i at n t) =
    on_part text inner place i at n t (part_at commands text kind positions i at)

abbrev pub part_stop : State → Out
part_stop (state i at n t) = out (refused_at F.BadCommand at) t

-- from part i on
unfoldable pub parts_from : List ℕ → List ℕ → Readers → ℕ → ℕ → ℕ → ℕ → ℕ → ℕ → List ℕ → Out
parts_from commands text inner kind positions place i at n t =
    turns (part_turn commands text inner kind positions place) part_stop (length commands + 1) (state i at n t)

abbrev pub parts_by : List ℕ → List ℕ → Readers → ℕ → ℕ → ℕ → ℕ → ℕ → List ℕ → Out
parts_by commands text inner kind positions place at n t = parts_from commands text inner kind positions place 0 at n t

-- ---- a container, whose command stands at `here`, and a variant
unfoldable pub container_by : List ℕ → List ℕ → ℕ → ℕ → Readers → ℕ → ℕ → ℕ → Reader
container_by commands text options levels inner kind positions here at place n t =
    on_made here (parts_by commands text inner kind positions place at) (container_made text options levels kind positions place n t)

unfoldable pub variant_by : List ℕ → ℕ → ℕ → Readers → ℕ → Name → Contents → ℕ → Reader
variant_by text options levels inner number name contents here at place n t =
    on_held here (inner (dots_in text name) contents here at) (variant_held text options levels number name place n t)

-- ---- a value
abbrev pub at_shape : List ℕ → List ℕ → ℕ → ℕ → Readers → ℕ → ℕ → ℕ → ℕ → List ℕ → Shape → Out
at_shape commands text options levels inner here behind place n t (H.Leaf null kind) =
    observed options null kind levels here behind place n t
at_shape commands text options levels inner here behind place n t (H.Parts container) =
    container_by commands text options levels inner container.kind container.positions here behind place n t
at_shape commands text options levels inner here behind place n t (H.Variant number name contents) =
    variant_by text options levels inner number name contents here behind place n t
at_shape commands text options levels inner here behind place n t H.NoValue = out (refused_at F.BadCommand here) t

abbrev pub at_read : List ℕ → List ℕ → ℕ → ℕ → Readers → ℕ → ℕ → ℕ → List ℕ → Read → Out
at_read commands text options levels inner here place n t (Ok (command, behind)) =
    at_shape commands text options levels inner here behind place n t (shape_at options text command)
at_read commands text options levels inner here place n t (Err r) = out (Err r) t

abbrev pub after_chain : List ℕ → List ℕ → ℕ → ℕ → Readers → ℕ → ℕ → Chain → Out
after_chain commands text options levels inner place n (chain here t) =
    at_read commands text options levels inner here place n t (read_command commands text here D.Value)

unfoldable pub value_by : List ℕ → List ℕ → ℕ → ℕ → Readers → Contents → ℕ → Reader
value_by commands text options levels inner N.Unit here at place n t = observed options true null levels here at place n t
value_by commands text options levels inner N.Value here at place n t =
    after_chain commands text options levels inner place n (past_marks commands at place t)
value_by commands text options levels inner (N.Positions positions) here at place n t =
    container_by commands text options levels inner tuple_kind positions here at place n t
value_by commands text options levels inner N.Fields here at place n t =
    container_by commands text options levels inner struct_kind 0 here at place n t

-- with no level left a container is refused before anything below it is read
abbrev pub none_left : Readers
none_left down contents here at place n t = out (refused_at F.TooDeep here) t

-- with so many levels left, less so many dots
unfoldable pub readers : List ℕ → List ℕ → ℕ → ℕ → Readers
readers commands text options zero down = value_by commands text options 0 none_left
readers commands text options (suc levels) zero = value_by commands text options (suc levels) (readers commands text options levels)
readers commands text options (suc levels) (suc down) = readers commands text options levels down

abbrev pub inner_of : List ℕ → List ℕ → ℕ → ℕ → Readers
inner_of commands text options zero = none_left
inner_of commands text options (suc levels) = readers commands text options levels

abbrev pub value_at : List ℕ → List ℕ → ℕ → ℕ → Reader
value_at commands text options levels at place n t = readers commands text options levels 0 N.Value 0 at place n t

-- past its marks
unfoldable pub parted : List ℕ → List ℕ → ℕ → ℕ → ℕ → ℕ → ℕ → List ℕ → Out
parted commands text options levels here place n t =
    at_read commands text options levels (inner_of commands text options levels) here place n t (read_command commands text here D.Value)
