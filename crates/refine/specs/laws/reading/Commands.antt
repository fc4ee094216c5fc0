-- The flat reading and the model's read the same commands: shapes, parts and the marks 10 and 11, with names by their operands and by their bytes.
use Rattle.std.specs.Prelude.{◌≡◌, Bool, true, false, ◌&&◌, List, [], ◌∷◌, ℕ, zero, suc, ◌+◌, ◌%◌, ◌<◌, ltb, length, get_or, Ok}
use Rattle.std.proofs.Math.Path.{refl, sym}
use Rattle.std.proofs.Common.{subst, ◌∙◌, true≢false, arith}
use Rattle.std.proofs.Math.Option.{Option, none, some}
use Rattle.std.proofs.Math.Dec.{eqb}
use Rattle.std.proofs.Math.ListN.{get_or-map}
use borrow.Author.Tests.{eqb-true, leb-true, not-false}
use Rattle.logic.specs.Test.{when◌then◌else◌}
use Rattle.logic.specs.laws.Test.{cases, both}
use Rattle.datatype.specs.Codes.{null}
use Rattle.options.specs.Word.{map_as_struct, string_as_large_utf8, bytes_as_large_binary, guess_dates, string_type, binary_type}
use Rattle.chrono.specs.Grammar.{fits}
use Rattle.chrono.specs.Date.{naive_datetime, utc_datetime, naive_time, naive_date}
use Rattle.chrono.specs.Text.{text_type, first_fit}
use Rattle.refusal.specs.declared.Refusal.{Refusal}
use Rattle.refusal.specs.Number.{number_of}
use Rattle.text.specs.declared.Name.{Name}
use Rattle.text.specs.Name.{inside, bytes_of}
use Rattle.text.specs.Utf8.{is_utf8}
use Rattle.commands.specs.declared.Command.{Command}
use Rattle.commands.specs.declared.Command.TheVariants as C
use Rattle.commands.specs.declared.Due.{Due}
use Rattle.commands.specs.declared.Due.TheVariants as D
use Rattle.commands.specs.laws.Commands as Laws
use Rattle.commands.specs.Commands.{operand_at, name_at, Form, plain, counted, named, variant, counted_variant, forms, form_of, operands, made, name_in, bad_name, refused_at, read_command, text_byte, field_byte, end_byte}
use Rattle.commands.specs.laws.Commands.{byte_of, name_of}
use Rattle.model.specs.Kinds as K
use Rattle.model.specs.Kinds.{Step, sequence_kind, struct_kind, map_kind, tuple_kind, map_mode_kind, is_container}
use Rattle.model.specs.Reading.{Shape, leaf, follows, parts, chosen, no_value, shape_of, Next, ended, next, bad, value_next, field_next, next_part}
use Rattle.equality.specs.laws.Base.{or_cases, choice}
use Rattle.equality.specs.laws.reading.Commands.{Good, good, good_read, lies, lies_known}
use Rattle.equality.specs.laws.reading.Steps.{read_cases}
use Rattle.shapes.specs.declared.Step as Flat
use Rattle.shapes.specs.declared.Step.TheVariants as S
use Rattle.shapes.specs.declared.Contents.{Contents}
use Rattle.shapes.specs.declared.Contents.TheVariants as N
use Rattle.shapes.specs.declared.Shape as FlatShape
use Rattle.shapes.specs.declared.Shape.TheVariants as H
use Rattle.shapes.specs.declared.Part.TheVariants as P
use Rattle.shapes.specs.Steps.{Inside}
use Rattle.shapes.specs.Shapes.{PartRead, parts_of, shape_at, value_part, field_part, part_at}
use Rattle.leaves.specs.Marks.{some_byte, newtype_byte}
use Rattle.refine.specs.laws.reading.Steps.{Stands}
use Rattle.commands.specs.Bytes.{Bytes}

-- what holds of two choices by one test
pub choices : {A B : Type 0} (R : A → B → Type 0) (t : Bool) {a b : A} {c d : B} → R a c → R b d → R (when t then a else b) (when t then c else d)
unfolding when◌then◌else◌
choices R true p q = p
choices R false p q = q

byte_at : (commands : List ℕ) (i : ℕ) → Bytes commands → get_or commands i 0 < 256
byte_at [] i h = omega arith
byte_at (b ∷ bs) zero h = h.0
byte_at (b ∷ bs) (suc i) h = byte_at bs i h.1

operand_below : (commands : List ℕ) (at : ℕ) → Bytes commands → operand_at commands at < 65536
operand_below commands at h = let a = byte_at commands at h in let b = byte_at commands (at + 1) h in omega arith

-- a name that ends inside the text, and whose length fits 16 bits
abbrev pub NameGood : List ℕ → Option Name → Type 0
NameGood text none = Unit {0}
NameGood text (some name) = Inside text name × (name.length < 65536)

module _ (commands text : List ℕ) (bytes : Bytes commands) where
  name_good : (at : ℕ) → bad_name text (some (name_at commands at)) ≡ false → NameGood text (some (name_at commands at))
  unfolding bad_name
  name_good at e =
      let name : Name = name_at commands at in
      (both (inside text name) (is_utf8 (bytes_of text name)) (not-false (inside text name && is_utf8 (bytes_of text name)) e) (λ i u. leb-true _ _ i), operand_below commands (at + 2) bytes)

  names_good : (form : Form) (at : ℕ) → bad_name text (name_in form commands at) ≡ false → NameGood text (name_in form commands at)
  unfolding name_in
  names_good (plain f) at e = tt
  names_good (counted f) at e = tt
  names_good (named f) at e = name_good at e
  names_good (variant f) at e = name_good (at + 2) e
  names_good (counted_variant f) at e = name_good (at + 2) e

  made_name : (byte at : ℕ) → name_of (made (form_of byte) commands at) ≡ name_in (form_of byte) commands at
  unfolding made form_of name_in
  made_name byte at =
      sym (get_or-map (λ (form : Form). name_of (made form commands at)) forms byte (plain C.Unit)) ∙ get_or-map (λ (form : Form). name_in form commands at) forms byte (plain C.Unit)

  -- the name of a command that was read
  pub command_name : (at : ℕ) (due : Due) (c : Command) (b : ℕ) → read_command commands text at due ≡ Ok (c, b) → NameGood text (name_of c)
  command_name at due c b e =
      let g : Good commands text at due c b = good commands text at due c b e in
      rw (g.what, made_name (get_or commands at 0) (at + 1)) (names_good (form_of (get_or commands at 0)) (at + 1) g.named)

  -- where a field or a key is due and no end stands, a name follows
  named_by : (at : ℕ) (due : Due) (c : Command) (b byte : ℕ) → read_command commands text at due ≡ Ok (c, b) → eqb (get_or commands at 0) byte ≡ true
      → name_in (form_of byte) commands (at + 1) ≡ some (name_at commands (at + 1)) → NameGood text (some (name_at commands (at + 1)))
  named_by at due c b byte e q n =
      let g : Good commands text at due c b = good commands text at due c b e in
      subst (NameGood text) n (names_good (form_of byte) (at + 1) (rw (eqb-true (get_or commands at 0) byte q) at g.named))

  field_name : (at : ℕ) (c : Command) (b : ℕ) → read_command commands text at D.FieldOrEnd ≡ Ok (c, b) → eqb (get_or commands at 0) end_byte ≡ false → NameGood text (some (name_at commands (at + 1)))
  unfolding form_of name_in
  field_name at c b e n =
      or_cases (eqb (get_or commands at 0) field_byte) (eqb (get_or commands at 0) end_byte) (lies commands at D.FieldOrEnd (good commands text at D.FieldOrEnd c b e).known).stood
      (λ q. named_by at D.FieldOrEnd c b field_byte e q refl) (λ q. absurd (true≢false (sym q ∙ n)))

  key_name_lem : (at : ℕ) (c : Command) (b : ℕ) → read_command commands text at D.KeyOrEnd ≡ Ok (c, b) → eqb (get_or commands at 0) end_byte ≡ false → NameGood text (some (name_at commands (at + 1)))
  unfolding form_of name_in
  key_name_lem at c b e n =
      cases (eqb (get_or commands at 0) text_byte) (λ q. named_by at D.KeyOrEnd c b text_byte e q refl)
      (λ q. absurd (true≢false (rw (q, n) at (good commands text at D.KeyOrEnd c b e).keyed)))

-- ---- what stands before a part
pub data Says (text : List ℕ) : PartRead → Next → Type 0 where
  says_end : {b : ℕ} → Says text (Ok (P.Ended b)) (ended b)
  says_step : {f : Flat.Step} {s : Step} {a : ℕ} → Stands text f s → Says text (Ok (P.Step f a)) (next s a)
  says_bad : {x : Refusal} {p : ℕ} → Says text (refused_at x p) (bad (number_of x) p)

pub element_stands : (text : List ℕ) → Stands text S.Element K.element
element_stands text = record { code = refl; inside = omega arith; bytes = refl; short = omega arith }

pub key_stands : (text : List ℕ) → Stands text S.Key K.key
key_stands text = record { code = refl; inside = omega arith; bytes = refl; short = omega arith }

pub value_stands : (text : List ℕ) → Stands text S.Value K.value
value_stands text = record { code = refl; inside = omega arith; bytes = refl; short = omega arith }

pub position_stands : (text : List ℕ) (i : ℕ) → Stands text (S.Position i) (K.position i)
position_stands text i = record { code = refl; inside = omega arith; bytes = refl; short = omega arith }

field_stands : (text : List ℕ) (name : Name) → NameGood text (some name) → Stands text (S.Field name) (K.field (bytes_of text name))
field_stands text name g = record { code = refl; inside = g.0; bytes = refl; short = g.1 }

variant_stands : (text : List ℕ) (k : ℕ) (name : Name) → NameGood text (some name) → Stands text (S.Variant k name) (K.variant k (bytes_of text name))
variant_stands text k name g = record { code = refl; inside = g.0; bytes = refl; short = g.1 }

module _ (commands text : List ℕ) (bytes : Bytes commands) (at : ℕ) where
  value_says : (f : Flat.Step) (s : Step) (due : Due) → Stands text f s →
      Says text (value_part commands f at (read_command commands text at due)) (value_next commands s at (read_command commands text at due))
  value_says f s due st =
      read_cases (read_command commands text at due)
      (λ c b e. rw e (choices (Says text) (eqb (get_or commands at 0) end_byte) says_end (says_step st)))
      (λ x p e. rw e says_bad)

  name_says : (due : Due) → ((c : Command) (b : ℕ) → read_command commands text at due ≡ Ok (c, b) → eqb (get_or commands at 0) end_byte ≡ false → NameGood text (some (name_at commands (at + 1))))
      → Says text (field_part commands at (read_command commands text at due)) (field_next commands text at (read_command commands text at due))
  unfolding when◌then◌else◌
  name_says due k =
      read_cases (read_command commands text at due)
      (λ c b e. rw e (cases (eqb (get_or commands at 0) end_byte) (λ n. rw n says_end) (λ n. rw n (says_step (field_stands text (name_at commands (at + 1)) (k c b e n))))))
      (λ x p e. rw e says_bad)

  pub part_says : (kind positions i : ℕ) → Says text (part_at commands text kind positions i at) (next_part commands text kind positions i at)
  unfolding part_at next_part
  part_says kind positions i =
      choices (Says text) (eqb kind sequence_kind) (value_says S.Element K.element D.ValueOrEnd (element_stands text)) (
      choices (Says text) (eqb kind struct_kind) (name_says D.FieldOrEnd (field_name commands text bytes at)) (
      choices (Says text) (eqb kind map_mode_kind) (name_says D.KeyOrEnd (key_name_lem commands text bytes at)) (
      choices (Says text) (eqb kind map_kind && eqb (i % 2) 0) (value_says S.Key K.key D.ValueOrEnd (key_stands text)) (
      choices (Says text) (eqb kind map_kind) (value_says S.Value K.value D.Value (value_stands text)) (
      choices (Says text) (ltb i positions) (value_says (S.Position i) (K.position i) D.Value (position_stands text i)) says_end)))))

-- ---- what a command begins
-- the contents of a variant as a shape
abbrev pub shape_in : Contents → Shape
shape_in N.Unit = leaf true null
shape_in N.Value = follows false
shape_in (N.Positions n) = parts tuple_kind n
shape_in N.Fields = parts struct_kind 0

pub data Shapes (text : List ℕ) : FlatShape.Shape → Shape → Type 0 where
  leaves : {b : Bool} {k : ℕ} → is_container k ≡ false → Shapes text (H.Leaf b k) (leaf b k)
  opens : {k n : ℕ} → is_container k ≡ true → Shapes text (parts_of k n) (parts k n)
  chooses : {k : ℕ} {name : Name} {c : Contents} → Stands text (S.Variant k name) (K.variant k (bytes_of text name)) → Shapes text (H.Variant k name c) (chosen k (bytes_of text name) (shape_in c))
  nothing : Shapes text H.NoValue no_value

string_plain : (options : ℕ) → is_container (string_type options) ≡ false
unfolding when◌then◌else◌
string_plain options = cases (string_as_large_utf8 options) (λ e. rw e) (λ e. rw e)

binary_plain : (options : ℕ) → is_container (binary_type options) ≡ false
unfolding when◌then◌else◌
binary_plain options = cases (bytes_as_large_binary options) (λ e. rw e) (λ e. rw e)

text_plain : (options : ℕ) (s : List ℕ) → is_container (text_type options s) ≡ false
unfolding text_type first_fit
text_plain options s =
    let P : ℕ → Type 0 = λ kind. is_container kind ≡ false in
    choice P (guess_dates options)
    (λ _. choice P (fits naive_datetime s) (λ _. refl) λ _.
    choice P (fits utc_datetime s) (λ _. refl) λ _.
    choice P (fits naive_time s) (λ _. refl) λ _.
    choice P (fits naive_date s) (λ _. refl) λ _. string_plain options)
    (λ _. string_plain options)

-- all but 10 and 11, which begin no value of their own
pub shape_says : (options : ℕ) (text : List ℕ) (c : Command) → NameGood text (name_of c) → (byte_of c ≡ some_byte → ⊥) → (byte_of c ≡ newtype_byte → ⊥) →
    Shapes text (shape_at options text c) (shape_of options text c)
unfolding shape_at shape_of when◌then◌else◌
shape_says options text C.Unit g x y = leaves refl
shape_says options text C.Bool g x y = leaves refl
shape_says options text C.I8 g x y = leaves refl
shape_says options text C.I16 g x y = leaves refl
shape_says options text C.I32 g x y = leaves refl
shape_says options text C.I64 g x y = leaves refl
shape_says options text C.U8 g x y = leaves refl
shape_says options text C.U16 g x y = leaves refl
shape_says options text C.U32 g x y = leaves refl
shape_says options text C.U64 g x y = leaves refl
shape_says options text C.F32 g x y = leaves refl
shape_says options text C.F64 g x y = leaves refl
shape_says options text C.Char g x y = leaves refl
shape_says options text (C.Text name) g x y = leaves (text_plain options (bytes_of text name))
shape_says options text C.Bytes g x y = leaves (binary_plain options)
shape_says options text C.None g x y = leaves refl
shape_says options text C.Some g x y = absurd (x refl)
shape_says options text C.NewtypeStruct g x y = absurd (y refl)
shape_says options text C.Sequence g x y = opens refl
shape_says options text (C.Tuple n) g x y = opens refl
shape_says options text C.Map g x y = cases (map_as_struct options) (λ e. rw e (opens refl)) (λ e. rw e (opens refl))
shape_says options text C.Struct g x y = opens refl
shape_says options text (C.Field name) g x y = nothing
shape_says options text C.End g x y = nothing
shape_says options text (C.UnitVariant k name) g x y = chooses {c = N.Unit} (variant_stands text k name g)
shape_says options text (C.NewtypeVariant k name) g x y = chooses {c = N.Value} (variant_stands text k name g)
shape_says options text (C.TupleVariant k name n) g x y = chooses {c = N.Positions n} (variant_stands text k name g)
shape_says options text (C.StructVariant k name) g x y = chooses {c = N.Fields} (variant_stands text k name g)

-- ---- the byte of a command that was read
pub byte_is : (commands text : List ℕ) (at : ℕ) (due : Due) (c : Command) (b : ℕ) → read_command commands text at due ≡ Ok (c, b) → byte_of c ≡ get_or commands at 0
byte_is commands text at due c b e = (Laws.good commands text at due c b e).byte

pub starts : (commands text : List ℕ) (at : ℕ) (due : Due) (c : Command) (b : ℕ) → read_command commands text at due ≡ Ok (c, b) → at < length commands
starts commands text at due c b e = (lies commands at due (good commands text at due c b e).known).starts

-- ---- the marks 10 and 11 are read
module _ (commands text : List ℕ) (at : ℕ) (h : at < length commands) where
  pub some_read : get_or commands at 0 ≡ some_byte → read_command commands text at D.Value ≡ Ok (C.Some, at + 1)
  unfolding made form_of name_in bad_name operands
  some_read e =
      good_read commands text at D.Value C.Some (at + 1) (record {
        known = lies_known commands at D.Value (record { starts = h; known = rw e (omega arith); inside = rw e (omega arith); stood = rw e refl });
        named = rw e refl;
        keyed = refl;
        what = rw e refl;
        ends = rw e refl;
      })

  pub newtype_read : get_or commands at 0 ≡ newtype_byte → read_command commands text at D.Value ≡ Ok (C.NewtypeStruct, at + 1)
  unfolding made form_of name_in bad_name operands
  newtype_read e =
      good_read commands text at D.Value C.NewtypeStruct (at + 1) (record {
        known = lies_known commands at D.Value (record { starts = h; known = rw e (omega arith); inside = rw e (omega arith); stood = rw e refl });
        named = rw e refl;
        keyed = refl;
        what = rw e refl;
        ends = rw e refl;
      })
