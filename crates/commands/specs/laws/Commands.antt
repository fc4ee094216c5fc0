-- What a command that was read is known to be: where it ends, that it can stand where it stood, that its name is good, and that it is the
-- one with its byte.
use Prim.{tt}
use Prim.Native.Nat.{ℕ, zero, suc, ◌+◌, ◌<◌, ◌≤◌}
use Rattle.std.proofs.Common.{zero-add, le_of_suc-le-suc, not-suc-le-zero, arith, sym, ap, ◌∙◌, true≢false}
use Rattle.std.specs.Prelude.{◌≡◌, refl, Bool, true, false, not, ◌&&◌, ◌||◌, List, [], ◌∷◌, eqb, leb, ltb, Ok, Err}
use Rattle.std.proofs.lemmas.Bool.{false≢true}
use Rattle.std.proofs.Math.Option.{Option, none, some}
use borrow.Author.Tests.{leb-true, leb-false, lt-leb, ltb-false, le-ltb, eqb-true, not-false}
use Rattle.std.proofs.Math.ListN.{length, get_or, get_or-map}
use Rattle.logic.specs.Test.{when◌then◌else◌}
use Rattle.logic.specs.laws.Test.{cases, both, neither}
use Rattle.logic.specs.laws.Flag.{if_either}
use Rattle.text.specs.declared.Name.{Name}
use Rattle.text.specs.Name.{inside, bytes_of}
use Rattle.text.specs.Utf8.{is_utf8}
use Rattle.refusal.specs.declared.Refusal.{Refusal}
use Rattle.refusal.specs.declared.Refusal.TheVariants as F
use Rattle.commands.specs.declared.Command.{Command}
use Rattle.commands.specs.declared.Command.TheVariants as C
use Rattle.commands.specs.declared.Due.{Due}
use Rattle.commands.specs.declared.Due.TheVariants as D
use Rattle.commands.specs.Commands.{name_at, Form, plain, forms, form_of, width, made, name_in, text_byte, field_byte, end_byte, stands, bad_command, bad_name, bad_key, read_command, Read, refused_at}

-- the byte of each command
abbrev pub byte_of : Command → ℕ
byte_of C.Unit = 0x00
byte_of C.Bool = 0x01
byte_of C.I8 = 0x02
byte_of C.I16 = 0x03
byte_of C.I32 = 0x04
byte_of C.I64 = 0x05
byte_of C.U8 = 0x06
byte_of C.U16 = 0x07
byte_of C.U32 = 0x08
byte_of C.U64 = 0x09
byte_of C.F32 = 0x0A
byte_of C.F64 = 0x0B
byte_of C.Char = 0x0C
byte_of (C.Text name) = 0x0D
byte_of C.Bytes = 0x0E
byte_of C.None = 0x0F
byte_of C.Some = 0x10
byte_of C.NewtypeStruct = 0x11
byte_of C.Sequence = 0x12
byte_of (C.Tuple n) = 0x13
byte_of C.Map = 0x14
byte_of C.Struct = 0x15
byte_of (C.Field name) = 0x16
byte_of C.End = 0x17
byte_of (C.UnitVariant v name) = 0x18
byte_of (C.NewtypeVariant v name) = 0x19
byte_of (C.TupleVariant v name n) = 0x1A
byte_of (C.StructVariant v name) = 0x1B

-- the name that a command holds
abbrev pub name_of : Command → Option Name
name_of C.Unit = none
name_of C.Bool = none
name_of C.I8 = none
name_of C.I16 = none
name_of C.I32 = none
name_of C.I64 = none
name_of C.U8 = none
name_of C.U16 = none
name_of C.U32 = none
name_of C.U64 = none
name_of C.F32 = none
name_of C.F64 = none
name_of C.Char = none
name_of (C.Text name) = some name
name_of C.Bytes = none
name_of C.None = none
name_of C.Some = none
name_of C.NewtypeStruct = none
name_of C.Sequence = none
name_of (C.Tuple n) = none
name_of C.Map = none
name_of C.Struct = none
name_of (C.Field name) = some name
name_of C.End = none
name_of (C.UnitVariant v name) = some name
name_of (C.NewtypeVariant v name) = some name
name_of (C.TupleVariant v name n) = some name
name_of (C.StructVariant v name) = some name

-- the command made for a byte has that byte: the forms stand in the order of their bytes
up_from : ℕ → ℕ → List ℕ
up_from i zero = []
up_from i (suc n) = i ∷ up_from (suc i) n

up_at : (n i k : ℕ) → k < n → get_or (up_from i n) k 0 ≡ i + k
unfolding up_from
up_at zero i k h = absurd (not-suc-le-zero h)
up_at (suc n) i zero h = omega arith
up_at (suc n) i (suc k) h = let e : get_or (up_from (suc i) n) k 0 ≡ suc i + k = up_at n (suc i) k (le_of_suc-le-suc h) in omega arith

made_byte : (byte : ℕ) (commands : List ℕ) (at : ℕ) → byte < length forms → byte_of (made (form_of byte) commands at) ≡ byte
unfolding made form_of up_from
made_byte byte commands at h =
    sym (get_or-map (λ (form : Form). byte_of (made form commands at)) forms byte (plain C.Unit)) ∙ up_at (length forms) 0 byte h ∙ zero-add byte

-- and the name that its form tells
made_name : (byte : ℕ) (commands : List ℕ) (at : ℕ) → name_of (made (form_of byte) commands at) ≡ name_in (form_of byte) commands at
unfolding made form_of name_in
made_name byte commands at =
    sym (get_or-map (λ (form : Form). name_of (made form commands at)) forms byte (plain C.Unit)) ∙ get_or-map (λ (form : Form). name_in form commands at) forms byte (plain C.Unit)

-- a choice that gives something else than its first side went on
went_on : {A P : Type 0} (test : Bool) (a b x : A) → (when test then a else b) ≡ x → (a ≡ x → ⊥) → (test ≡ false → b ≡ x → P) → P
unfolding when◌then◌else◌
went_on true a b x e n k = absurd (n e)
went_on false a b x e n k = k refl e

refused : (refusal : Refusal) (place next : ℕ) (command : Command) → refused_at {A = Command × ℕ} refusal place ≡ Ok (command, next) → ⊥
refused refusal place next command e = let z : ◌≡◌ {A = ℕ} 0 1 = cc in omega arith

-- equal commands that were read, and the offsets behind them
pub same_read : {P : Type 0} {c d : Command} {b n : ℕ} → ◌≡◌ {A = Read} (Ok (c, b)) (Ok (d, n)) → (c ≡ d → b ≡ n → P) → P
same_read {c = c} {d = d} {b = b} {n = n} e k =
    let p : ◌≡◌ {A = Command × ℕ} (c, b) (d, n) = cc in
    k (ap (λ (q : Command × ℕ). q.0) p) (ap (λ (q : Command × ℕ). q.1) p)

none_passed :
    {P : Type 0} (s t u v : Bool) → (s || t || u || v) ≡ false → (s ≡ false → t ≡ false → u ≡ false → v ≡ false → P) → P
none_passed s t u v e k =
    neither (s || t || u) v e λ e₃ ev. neither (s || t) u e₃ λ e₂ eu. neither s t e₂ λ es et. k es et eu ev

-- what is known of a command that was read at an offset, and of the offset behind it
pub record Good (commands text : List ℕ) (at : ℕ) (due : Due) (command : Command) (next : ℕ) : Type 0 where
  pub above : at < next
  pub within : next ≤ length commands
  pub standing : stands due (byte_of command) ≡ true
  pub key : bad_key due (byte_of command) ≡ false
  pub name : bad_name text (name_of command) ≡ false
  pub byte : byte_of command ≡ get_or commands at 0
  pub form : command ≡ made (form_of (get_or commands at 0)) commands (at + 1)
  pub behind : next ≡ at + width (form_of (get_or commands at 0))

module _ (commands text : List ℕ) (at : ℕ) (due : Due) where
  good_made :
      bad_command commands at due ≡ false →
      bad_name text (name_in (form_of (get_or commands at 0)) commands (at + 1)) ≡ false →
      bad_key due (get_or commands at 0) ≡ false →
      Good commands text at due (made (form_of (get_or commands at 0)) commands (at + 1)) (at + width (form_of (get_or commands at 0)))
  unfolding bad_command
  good_made e f g =
      let byte : ℕ = get_or commands at 0 in
      none_passed (leb (length commands) at) (leb (length forms) byte) (ltb (length commands) (at + width (form_of byte))) (not (stands due byte)) e λ left known whole placed.
      let small : byte < length forms = leb-false _ _ known in
      let fits : at + width (form_of byte) ≤ length commands = ltb-false _ _ whole in
      record {
        above = omega arith;
        within = fits;
        standing = rw (made_byte byte commands (at + 1) small) (not-false _ placed);
        key = rw (made_byte byte commands (at + 1) small) g;
        name = rw made_name f;
        byte = made_byte byte commands (at + 1) small;
        form = refl;
        behind = refl;
      }

  pub good : (command : Command) (next : ℕ) → read_command commands text at due ≡ Ok (command, next) → Good commands text at due command next
  unfolding read_command
  good command next h =
      went_on _ _ _ _ h (refused _ _ _ _) λ e h₁.
      went_on _ _ _ _ h₁ (refused _ _ _ _) λ f h₂.
      went_on _ _ _ _ h₂ (refused _ _ _ _) λ g h₃.
      same_read h₃ λ c n. rw (← c, ← n) (good_made e f g)

-- a refusal's place is the offset where something was due
RefusedAt : ℕ → Read → Type 0
RefusedAt at (Ok (command, next)) = Unit {0}
RefusedAt at (Err e) = e.place ≡ at

pub refused_place : (commands text : List ℕ) (at : ℕ) (due : Due) (refusal : Refusal) (place : ℕ) → read_command commands text at due ≡ refused_at refusal place → place ≡ at
unfolding read_command RefusedAt
refused_place commands text at due refusal place e =
    let P : Read → Type 0 = RefusedAt at in
    let byte : ℕ = get_or commands at 0 in
    let known : RefusedAt at (read_command commands text at due) = if_either P (bad_command commands at due) refl
    (if_either P (bad_name text (name_in (form_of byte) commands (at + 1))) refl (if_either P (bad_key due byte) refl tt)) in
    rw e at known

-- the converse of what is known: a command that is whole and can stand there is read, unless its name is bad
module _ (commands text : List ℕ) (at : ℕ) (due : Due) (byte : ℕ) (is : get_or commands at 0 ≡ byte) (small : byte < length forms)
    (fits : at + width (form_of byte) ≤ length commands) (s : stands due byte ≡ true) where
  whole : bad_command commands at due ≡ false
  unfolding bad_command
  whole = rw (is, lt-leb (length commands) at (omega arith), lt-leb (length forms) byte small, le-ltb (length commands) (at + width (form_of byte)) fits, s)

  pub read_made : bad_name text (name_in (form_of byte) commands (at + 1)) ≡ false → bad_key due byte ≡ false →
      read_command commands text at due ≡ Ok (made (form_of byte) commands (at + 1), at + width (form_of byte))
  unfolding read_command when◌then◌else◌
  read_made n k = rw (whole, is, n, k)

  pub read_misnamed : bad_name text (name_in (form_of byte) commands (at + 1)) ≡ true → read_command commands text at due ≡ refused_at F.BadName at
  unfolding read_command when◌then◌else◌
  read_misnamed n = rw (whole, is, n)

-- where no end stands, a field that is due is one (16), and a key under map_as_struct is text (0D), with the name behind the byte
module _ (commands text : List ℕ) (at : ℕ) (command : Command) (next : ℕ) (no_end : eqb (get_or commands at 0) end_byte ≡ false) where
  pub field_due : read_command commands text at D.FieldOrEnd ≡ Ok (command, next) → command ≡ C.Field (name_at commands (at + 1))
  unfolding made form_of
  field_due e =
      let g : Good commands text at D.FieldOrEnd command next = good commands text at D.FieldOrEnd command next e in
      cases (eqb (get_or commands at 0) field_byte) (λ f. rw (eqb-true (get_or commands at 0) field_byte f) at g.form)
      (λ f. absurd (false≢true (rw (g.byte, f, no_end) at g.standing)))

  pub key_due : read_command commands text at D.KeyOrEnd ≡ Ok (command, next) → command ≡ C.Text (name_at commands (at + 1))
  unfolding made form_of
  key_due e =
      let g : Good commands text at D.KeyOrEnd command next = good commands text at D.KeyOrEnd command next e in
      cases (eqb (get_or commands at 0) text_byte) (λ f. rw (eqb-true (get_or commands at 0) text_byte f) at g.form)
      (λ f. absurd (true≢false (rw (g.byte, f, no_end) at g.key)))

-- the same of an answer that reading gave
module _ (commands text : List ℕ) (at : ℕ) (due : Due) (answer : Read) (command : Command) (next : ℕ) (e : answer ≡ read_command commands text at due) (h : answer ≡ Ok (command, next)) where
  pub read_good : Good commands text at due command next
  read_good = good commands text at due command next (sym e ∙ h)

  pub next_above : at < next
  next_above = read_good.above

  pub next_within : next ≤ length commands
  next_within = read_good.within

  -- the name in a command is inside the text and UTF-8
  name_good : (which : Command) (name : Name) → command ≡ which → name_of which ≡ some name → (inside text name && is_utf8 (bytes_of text name)) ≡ true
  unfolding bad_name
  name_good which name w n = not-false _ (rw (w, n) at read_good.name)

  pub name_inside : (which : Command) (name : Name) → command ≡ which → name_of which ≡ some name → inside text name ≡ true
  name_inside which name w n = both _ _ (name_good which name w n) λ i u. i

  pub name_within : (which : Command) (name : Name) → command ≡ which → name_of which ≡ some name → name.offset + name.length ≤ length text
  name_within which name w n = leb-true _ _ (name_inside which name w n)

  pub name_utf8 : (which : Command) (name : Name) → command ≡ which → name_of which ≡ some name → is_utf8 (bytes_of text name) ≡ true
  name_utf8 which name w n = both (inside text name) _ (name_good which name w n) λ i u. u
