-- What the first bytes at an offset tell of the command that is read there.
use Rattle.std.specs.Prelude.{◌≡◌, Bool, true, false, not, List, ℕ, ◌+◌, ◌<◌, ◌≤◌, eqb, leb, ltb, get_or, Ok}
use Rattle.std.proofs.Math.Path.{refl}
use Rattle.std.proofs.Common.{sym, ◌∙◌, arith, eqb-true, ltb-true, leb-true, le-leb, eq-eqb, ne_eqb}
use Rattle.std.proofs.lemmas.Bool.{false≢true}
use Rattle.std.proofs.Math.Option.{some}
use Rattle.std.proofs.Math.ListN.{length}
use Rattle.logic.specs.Test.{when◌then◌else◌}
use Rattle.logic.specs.laws.Test.{both}
use Rattle.logic.specs.laws.Table.{all_below, below_at}
use Rattle.text.specs.declared.Name.{Name}
use Rattle.text.specs.Name.{inside, bytes_of}
use Rattle.text.specs.Utf8.{is_utf8}
use Rattle.refusal.specs.declared.Refusal.TheVariants as F
use Rattle.commands.specs.declared.Command.{Command}
use Rattle.commands.specs.declared.Command.TheVariants as C
use Rattle.commands.specs.declared.Due.{Due}
use Rattle.commands.specs.declared.Due.TheVariants as D
use Rattle.commands.specs.Commands.{Form, plain, counted, variant, counted_variant, text_byte, field_byte, name_at, named, forms, form_of, operands, width, made, name_in, stands, bad_name, bad_key, end_byte, read_command, refused_at}
use Rattle.commands.specs.laws.Commands.{name_of, Good, good, name_inside, read_made, read_misnamed}
use Rattle.shapes.specs.declared.Step.TheVariants as S
use Rattle.shapes.specs.declared.Part.TheVariants as P
use Rattle.shapes.specs.Steps.{Inside}
use Rattle.shapes.specs.Shapes.{value_part, tuple_byte, sequence_byte, struct_byte, plain_byte, takes_value, begins_at, sequence_at, struct_at, named_at}

-- ---- a value with no operands
is_bare : Form → Bool
is_bare (plain command) = true
is_bare (counted f) = false
is_bare (named f) = false
is_bare (variant f) = false
is_bare (counted_variant f) = false

bare_form : {P : Type 0} (form : Form) → is_bare form ≡ true → ((command : Command) → form ≡ plain command → P) → P
unfolding is_bare
bare_form (plain command) e k = k command refl
bare_form (counted f) e k = absurd (false≢true e)
bare_form (named f) e k = absurd (false≢true e)
bare_form (variant f) e k = absurd (false≢true e)
bare_form (counted_variant f) e k = absurd (false≢true e)

-- each byte that is told to be such a value is one, by going through them
bare_told : all_below 22 (λ b. when plain_byte b then is_bare (form_of b) else true) ≡ true
unfolding is_bare form_of all_below plain_byte when◌then◌else◌
bare_told = refl

bare_byte : {P : Type 0} (byte : ℕ) → plain_byte byte ≡ true → (byte ≤ struct_byte → is_bare (form_of byte) ≡ true → P) → P
unfolding plain_byte when◌then◌else◌
bare_byte byte e k =
    both _ (not (eqb byte tuple_byte)) e λ d n.
    both (leb byte struct_byte) (not (eqb byte text_byte)) d λ l m.
    let small : byte ≤ struct_byte = leb-true byte struct_byte l in
    k small (rw e at (below_at 22 (λ b. when plain_byte b then is_bare (form_of b) else true) bare_told byte (omega arith)))

-- it can stand where a value is due, and is no key
value_stands : (due : Due) (byte : ℕ) → takes_value due ≡ true → byte ≤ struct_byte → (stands due byte ≡ true) × (bad_key due byte ≡ false)
value_stands D.Value byte t h = (rw (ne_eqb byte field_byte (omega arith), ne_eqb byte end_byte (omega arith)), refl)
value_stands D.ValueOrEnd byte t h = (rw (ne_eqb byte field_byte (omega arith)), refl)
value_stands D.FieldOrEnd byte t h = absurd (false≢true t)
value_stands D.KeyOrEnd byte t h = absurd (false≢true t)

-- so it is read
pub bare_read : (commands text : List ℕ) (at byte : ℕ) (due : Due) → get_or commands at 0 ≡ byte → at < length commands → plain_byte byte ≡ true → takes_value due ≡ true →
    read_command commands text at due ≡ Ok (made (form_of byte) commands (at + 1), at + 1)
unfolding bad_name operands name_in
bare_read commands text at byte due is there bare t =
    bare_byte byte bare λ small b.
    let s = value_stands due byte t small in
    bare_form (form_of byte) b λ command form.
    let fits : at + 1 ≤ length commands = omega arith in
    rw form (rw form at (read_made commands text at due byte is (omega arith) (rw form fits) s.0 (rw form refl) s.1))

pub bare_no_end : (byte : ℕ) → plain_byte byte ≡ true → eqb byte end_byte ≡ false
bare_no_end byte bare = bare_byte byte bare λ small b. ne_eqb byte end_byte (omega arith)

-- the commands before text are such values
pub before_text : (byte : ℕ) → byte < text_byte → plain_byte byte ≡ true
unfolding plain_byte
before_text byte h = rw (le-leb byte struct_byte (omega arith), ne_eqb byte text_byte (λ e. omega arith), ne_eqb byte tuple_byte (λ e. omega arith)) refl

-- ---- a struct, and an end
begun : {P : Type 0} (commands : List ℕ) (byte at : ℕ) (flag : Bool) → flag ≡ begins_at commands byte at → flag ≡ true → (at < length commands → get_or commands at 0 ≡ byte → P) → P
unfolding begins_at
begun commands byte at flag f e k =
    both (ltb at (length commands)) (eqb (get_or commands at 0) byte) (sym f ∙ e) λ l b.
    k (ltb-true at (length commands) l) (eqb-true (get_or commands at 0) byte b)

module _ (commands text : List ℕ) (at : ℕ) where
  begins_read : (byte : ℕ) → begins_at commands byte at ≡ true → plain_byte byte ≡ true → read_command commands text at D.Value ≡ Ok (made (form_of byte) commands (at + 1), at + 1)
  begins_read byte e bare = begun commands byte at _ refl e λ there is. bare_read commands text at byte D.Value is there bare refl

  pub sequence_read : sequence_at commands at ≡ true → read_command commands text at D.Value ≡ Ok (C.Sequence, at + 1)
  unfolding form_of made plain_byte
  sequence_read e = begins_read sequence_byte e refl

  pub struct_read : struct_at commands at ≡ true → read_command commands text at D.Value ≡ Ok (C.Struct, at + 1)
  unfolding form_of made plain_byte
  struct_read e = begins_read struct_byte e refl

pub begins_inside : (commands : List ℕ) (byte at : ℕ) (flag : Bool) → flag ≡ begins_at commands byte at → flag ≡ true → at < length commands
begins_inside commands byte at flag f e = begun commands byte at flag f e λ there is. there

pub end_read : (commands text : List ℕ) (at : ℕ) (due : Due) (flag : Bool) → stands due end_byte ≡ true → bad_key due end_byte ≡ false →
    flag ≡ begins_at commands end_byte at → flag ≡ true → read_command commands text at due ≡ Ok (C.End, at + 1)
unfolding form_of operands made name_in bad_name
end_read commands text at due flag s k f e = begun commands end_byte at flag f e λ there is. read_made commands text at due end_byte is (omega arith) (omega arith) s refl k

-- the end of a sequence
pub end_part : (commands text : List ℕ) (at : ℕ) (flag : Bool) → flag ≡ begins_at commands end_byte at → flag ≡ true →
    Ok (P.Ended (at + 1)) ≡ value_part commands S.Element at (read_command commands text at D.ValueOrEnd)
unfolding when◌then◌else◌
end_part commands text at flag f e =
    begun commands end_byte at flag f e λ there is. rw (end_read commands text at D.ValueOrEnd flag refl refl f e, is) refl

-- ---- a command with a name
module _ (commands text : List ℕ) (byte at : ℕ) (flag : Bool) (f : flag ≡ named_at commands text byte at) (e : flag ≡ true) where
  stood : {P : Type 0} → (at + 5 ≤ length commands → get_or commands at 0 ≡ byte → inside text (name_at commands (at + 1)) ≡ true → P) → P
  unfolding named_at
  stood k =
      both _ (inside text (name_at commands (at + 1))) (sym f ∙ e) λ c i.
      both (leb (at + 5) (length commands)) (eqb (get_or commands at 0) byte) c λ l b.
      k (leb-true (at + 5) (length commands) l) (eqb-true (get_or commands at 0) byte b) i

  pub named_fits : at + 5 ≤ length commands
  named_fits = stood λ l b i. l

  pub named_byte : get_or commands at 0 ≡ byte
  named_byte = stood λ l b i. b

  pub named_inside : Inside text (name_at commands (at + 1))
  named_inside = stood λ l b i. leb-true _ _ i

  module _ (due : Due) (which : Name → Command) (form : form_of byte ≡ named which) (small : byte < length forms) (s : stands due byte ≡ true) where
    -- where it can stand it is read, or refused for a name that is not UTF-8
    pub named_read : is_utf8 (bytes_of text (name_at commands (at + 1))) ≡ true → bad_key due byte ≡ false → read_command commands text at due ≡ Ok (which (name_at commands (at + 1)), at + 5)
    unfolding bad_name operands made name_in
    named_read u k =
        stood λ l b i.
        let wide : at + width (form_of byte) ≤ length commands = rw form l in
        rw form at (read_made commands text at due byte b small wide s (rw (form, i, u)) k)

    pub named_refused : is_utf8 (bytes_of text (name_at commands (at + 1))) ≡ false → read_command commands text at due ≡ refused_at F.BadName at
    unfolding bad_name operands name_in
    named_refused u =
        stood λ l b i.
        let wide : at + width (form_of byte) ≤ length commands = rw form l in
        read_misnamed commands text at due byte b small wide s (rw (form, i, u))

-- one that is read stands there
pub read_named : (commands text : List ℕ) (byte at : ℕ) (due : Due) (which : Name → Command) → form_of byte ≡ named which →
    ((name : Name) → name_of (which name) ≡ some name) → get_or commands at 0 ≡ byte →
    (command : Command) (next : ℕ) → read_command commands text at due ≡ Ok (command, next) → named_at commands text byte at ≡ true
unfolding named_at operands made
read_named commands text byte at due which form has is command next e =
    let g : Good commands text at due command next = good commands text at due command next e in
    let this : command ≡ which (name_at commands (at + 1)) = rw (is, form) at g.form in
    let behind : next ≡ at + 5 = rw (is, form) at g.behind in
    let within : next ≤ length commands = g.within in
    rw (le-leb (at + 5) (length commands) (omega arith), eq-eqb (get_or commands at 0) byte is) (name_inside commands text at due _ command next refl e _ _ this (has _))
