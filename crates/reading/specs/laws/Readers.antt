-- The ways through the readers: what each answers where its callees answered so.
use Rattle.std.specs.Prelude.{◌≡◌, Bool, true, List, ◌-◌, ℕ, zero, suc, ◌+◌, ◌<◌, length, Option, Ok, Err}
use Rattle.std.proofs.Math.Path.{refl}
use Rattle.std.proofs.Common.{sym, ap, ◌∙◌, arith}
use Rattle.std.proofs.lemmas.Bool.{lt-leb}
use Rattle.logic.specs.Test.{when◌then◌else◌}
use Rattle.datatype.specs.Codes.{null}
use Rattle.refusal.specs.declared.Refusal.{Refusal}
use Rattle.refusal.specs.declared.Refused.{Refused}
use Rattle.refusal.specs.declared.Refusal.TheVariants as F
use Rattle.text.specs.declared.Name.{Name}
use Rattle.text.specs.Name.{dots}
use Rattle.commands.specs.declared.Command.{Command}
use Rattle.commands.specs.declared.Due.TheVariants as D
use Rattle.commands.specs.Commands.{Read, read_command, refused_at}
use Rattle.model.specs.Kinds.{sequence_kind, struct_kind, tuple_kind}
use Rattle.shapes.specs.declared.Step.{Step}
use Rattle.shapes.specs.declared.Contents.{Contents}
use Rattle.shapes.specs.declared.Contents.TheVariants as N
use Rattle.shapes.specs.declared.Container.{Container}
use Rattle.shapes.specs.declared.Shape.{Shape}
use Rattle.shapes.specs.declared.Shape.TheVariants as H
use Rattle.shapes.specs.Steps.{no_name, name_of, Unnamed, Good}
use Rattle.shapes.specs.laws.Shapes.{no_name_good}
use Rattle.shapes.specs.Shapes.{shape_at, begins_at, sequence_at, struct_at}
use Rattle.shapes.specs.laws.Bytes.{sequence_read, struct_read, begins_inside}
use Rattle.growth.specs.Growth.{Ensured, Made, found, ensuring, making}
use Rattle.kinds.specs.Meeting.{meeting}
use Rattle.shapes.specs.declared.Leaf.{Leaf}
use Rattle.shapes.specs.Leaf.{leaf_at, leaf_of}
use Rattle.shapes.specs.laws.Leaf.{LeafThere, leaf_there}
use Rattle.reading.specs.Reading.{dots_in, part_read, parts_by, container_by, variant_by, at_shape, value_by, readers, inner_of, value_at, parted}
use Rattle.opening.specs.Opening.{held, container_made, variant_held}
use Rattle.leaves.specs.Leaves.{Outcome, Out, out, observed}
use Rattle.leaves.specs.Marks.{chain, past_marks}
use Rattle.reading.specs.laws.Progress.{less}

-- with a level left
inner_is : (commands text : List ℕ) (options levels : ℕ) → 0 < levels → inner_of commands text options levels ≡ readers commands text options (levels - 1)
inner_is commands text options zero h = absurd (omega arith)
inner_is commands text options (suc levels) h = let e : levels ≡ suc levels - 1 = omega arith in ap (readers commands text options) e

module _ (commands text : List ℕ) (options levels : ℕ) where
  module _ (kind positions here at place n : ℕ) (t u : List ℕ) (did : Made) (d : making did u ≡ container_made text options levels kind positions place n t) where
    pub container_parts : (m : ℕ) (o : Out) → did ≡ Ok m → 0 < levels → o ≡ parts_by commands text (readers commands text options (levels - 1)) kind positions place at m u →
        o ≡ container_by commands text options levels (inner_of commands text options levels) kind positions here at place n t
    unfolding container_by
    container_parts m o e left p = rw (← d, e, inner_is commands text options levels left) p

    pub container_refused : (refusal : Refusal) (r : Outcome) → did ≡ Err refusal → r ≡ refused_at refusal here →
        out r u ≡ container_by commands text options levels (inner_of commands text options levels) kind positions here at place
        n t
    unfolding container_by
    container_refused refusal r e p = rw (← d, e, p) refl

  module _ (number : ℕ) (name : Name) (contents : Contents) (here at place n : ℕ) (t u : List ℕ) (did : Ensured) (d : ensuring did u ≡ variant_held text options levels number name place n t) where
    pub variant_child : (child m lower : ℕ) (o : Out) → did ≡ Ok (found child m) → 0 < levels → lower ≡ levels - 1 - dots_in text name →
        o ≡ readers commands text options lower 0 contents here at child m u →
        o ≡ variant_by text options levels (inner_of commands text options levels) number name contents here at place n t
    unfolding variant_by
    variant_child child m lower o e left l p =
        rw (← d, e, inner_is commands text options levels left, less commands text options (levels - 1) (dots_in text name), ← l) p

    pub variant_refused : (refusal : Refusal) (r : Outcome) → did ≡ Err refusal → r ≡ refused_at refusal here →
        out r u ≡ variant_by text options levels (inner_of commands text options levels) number name contents here at place n t
    unfolding variant_by
    variant_refused refusal r e p = rw (← d, e, p) refl

-- ---- at a child
value_here : (commands text : List ℕ) (options levels here at place n : ℕ) (t : List ℕ) →
    value_at commands text options levels at place n t ≡ readers commands text options levels 0 N.Value here at place n t
unfolding readers value_by
value_here commands text options zero here at place n t = refl
value_here commands text options (suc levels) here at place n t = refl

-- below a name
pub value_below : (commands text : List ℕ) (options levels : ℕ) (name : Name) (here at place n : ℕ) (t : List ℕ) →
    value_at commands text options (levels - dots_in text name) at place n t ≡ readers commands text options levels (dots_in text name) N.Value here at place n t
value_below commands text options levels name here at place n t = value_here commands text options (levels - dots_in text name) here at place n t ∙ rw
    (less commands text options levels (dots_in text name)) refl

no_dots : (text : List ℕ) → dots_in text no_name ≡ 0
unfolding dots
no_dots text = refl

module _ (commands text : List ℕ) (options levels : ℕ) (step : Step) (here at place n : ℕ) (t u : List ℕ) (did : Ensured) (d : ensuring did u ≡ held text place step n t) where
  pub part_child : (child m : ℕ) (o : Out) → did ≡ Ok (found child m) → Unnamed step → o ≡ value_at commands text options levels at child m u →
      o ≡ part_read text (readers commands text options levels) step here at place n t
  unfolding part_read
  part_child child m o e k p =
      rw (← d, e, k.name, no_dots text) (p ∙ value_here commands text options levels here at child m u)

  pub part_refused : (refusal : Refusal) (r : Outcome) → did ≡ Err refusal → r ≡ refused_at refusal here → out r u ≡ part_read text (readers commands text options levels) step here at place n t
  unfolding part_read
  part_refused refusal r e p = rw (← d, e, p) refl

-- ---- contents and values
readers_are : (commands text : List ℕ) (options levels : ℕ) → readers commands text options levels 0 ≡ value_by commands text options levels (inner_of commands text options levels)
unfolding readers
readers_are commands text options zero = refl
readers_are commands text options (suc levels) = refl

module _ (commands text : List ℕ) (options levels : ℕ) (contents : Contents) (here at place n : ℕ) (t : List ℕ) (o : Out) where
  pub contents_unit : contents ≡ N.Unit → o ≡ observed options true null levels here at place n t → o ≡ readers commands text options levels 0 contents here at place n t
  unfolding value_by
  contents_unit e p = rw (readers_are commands text options levels, e) p

  pub contents_value : contents ≡ N.Value → o ≡ value_at commands text options levels at place n t → o ≡ readers commands text options levels 0 contents here at place n t
  contents_value e p = rw e (p ∙ value_here commands text options levels here at place n t)

  pub contents_positions : (positions : ℕ) → contents ≡ N.Positions positions →
      o ≡ container_by commands text options levels (inner_of commands text options levels) tuple_kind positions here at place n t →
      o ≡ readers commands text options levels 0 contents here at place n t
  unfolding value_by
  contents_positions positions e p = rw (readers_are commands text options levels, e) p

  pub contents_fields : contents ≡ N.Fields →
      o ≡ container_by commands text options levels (inner_of commands text options levels) struct_kind 0 here at place n t →
      o ≡ readers commands text options levels 0 contents here at place n t
  unfolding value_by
  contents_fields e p = rw (readers_are commands text options levels, e) p

module _ (commands text : List ℕ) (options at place n : ℕ) (t : List ℕ) (here : ℕ) (u : List ℕ) (past : chain here u ≡ past_marks commands at place t) where
  value_is : (levels : ℕ) → parted commands text options levels here place n u ≡ value_at commands text options levels at place n t
  unfolding value_by parted
  value_is levels = rw (readers_are commands text options levels, ← past) refl

  pub value_parted : (levels : ℕ) (o : Out) → o ≡ parted commands text options levels here place n u → o ≡ value_at commands text options levels at place n t
  value_parted levels o p = p ∙ value_is levels

  pub named_parted : (levels below : ℕ) (name : Name) (o : Out) → below ≡ levels - dots_in text name →
      o ≡ parted commands text options below here place n u → o ≡ value_at commands text options (levels - dots_in text name) at place n t
  named_parted levels below name o l p = value_parted (levels - dots_in text name) o (rw l at p)

  -- a leaf asks for no level, so that the dots of a name need not be counted
  module _ (leaf : Option Leaf) (l : leaf ≡ leaf_at options commands text here) (is_null : Bool) (kind behind : ℕ) (v : leaf ≡ leaf_of is_null kind behind) where
    leaf_is : LeafThere options commands text here is_null kind behind
    leaf_is = leaf_there options commands text here leaf l is_null kind behind v

    leaf_parted : (levels : ℕ) → observed options is_null kind levels here behind place n u ≡ parted commands text options levels here place n u
    unfolding parted
    leaf_parted levels = rw (leaf_is.read, leaf_is.shape) refl

    any_level : (levels lower : ℕ) → observed options is_null kind levels here behind place n u ≡ observed options is_null kind lower here behind place n u
    unfolding observed meeting when◌then◌else◌
    any_level levels lower = rw (lt-leb sequence_kind kind leaf_is.below) refl

    pub value_leaf : (levels lower : ℕ) (o : Out) → o ≡ observed options is_null kind levels here behind place n u → o ≡ value_at commands text options lower at place n t
    value_leaf levels lower o p = p ∙ any_level levels lower ∙ leaf_parted lower ∙ value_is lower

-- a step without a name has a good one
pub unnamed : (text : List ℕ) (step : Step) → Unnamed step → Good text (name_of step)
unnamed text step u = rw u.name (no_name_good text)

-- what begins there is inside the commands
pub begun_fits : (commands : List ℕ) (byte here most : ℕ) (is : Bool) → is ≡ begins_at commands byte here → is ≡ true → length commands < most → here + 1 < most
begun_fits commands byte here most is s e l = let h : here < length commands = begins_inside commands byte here is s e in omega arith

-- ---- past its marks
module _ (commands text : List ℕ) (options levels here place n : ℕ) (t : List ℕ) where
  pub parted_struct : (is : Bool) (o : Out) → is ≡ struct_at commands here → is ≡ true →
      o ≡ container_by commands text options levels (inner_of commands text options levels) struct_kind 0 here (here + 1) place n t →
      o ≡ parted commands text options levels here place n t
  unfolding parted shape_at
  parted_struct is o s e p = rw (struct_read commands text here (sym s ∙ e)) p

  pub parted_sequence : (is : Bool) (o : Out) → is ≡ sequence_at commands here → is ≡ true →
      o ≡ container_by commands text options levels (inner_of commands text options levels) sequence_kind 0 here (here + 1) place n t →
      o ≡ parted commands text options levels here place n t
  unfolding parted shape_at
  parted_sequence is o s e p = rw (sequence_read commands text here (sym s ∙ e)) p

  module _ (read : Read) (r : read ≡ read_command commands text here D.Value) where
    pub parted_refused : (x : Refused) (o : Outcome) → read ≡ Err x → o ≡ Err x →
        out o t ≡ parted commands text options levels here place n t
    unfolding parted
    parted_refused x o e p = rw (← r, e, p) refl

    module _ (command : Command) (next : ℕ) (c : read ≡ Ok (command, next)) (shape : Shape) (s : shape ≡ shape_at options text command) where
      shape_is : at_shape commands text options levels (inner_of commands text options levels) here next place n t shape ≡ parted commands text options levels here place n t
      unfolding parted
      shape_is = rw (← r, c, s) refl

      pub parted_none : shape ≡ H.NoValue → out (refused_at F.BadCommand here) t ≡ parted commands text options levels here place n t
      parted_none e = rw e at shape_is

      module _ (o : Out) where
        pub parted_leaf : (is_null : Bool) (kind : ℕ) → shape ≡ H.Leaf is_null kind → o ≡ observed options is_null kind levels here next place n t → o ≡ parted commands text options levels here place n t
        parted_leaf is_null kind e p = p ∙ (rw e at shape_is)

        pub parted_parts : (container : Container) → shape ≡ H.Parts container →
            o ≡ container_by commands text options levels (inner_of commands text options levels) container.kind container.positions here next place n t →
            o ≡ parted commands text options levels here place n t
        parted_parts container e p = p ∙ (rw e at shape_is)

        pub parted_variant : (number : ℕ) (name : Name) (contents : Contents) → shape ≡ H.Variant number name contents →
            o ≡ variant_by text options levels (inner_of commands text options levels) number name contents here next place n t →
            o ≡ parted commands text options levels here place n t
        parted_variant number name contents e p = p ∙ (rw e at shape_is)
