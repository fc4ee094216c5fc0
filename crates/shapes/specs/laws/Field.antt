-- Laws of a field, or the end, where one is due: the parts of a container are its fields, and what is known of one.
use Rattle.std.proofs.Math.Path.{◌≡◌, refl, sym}
use Rattle.std.proofs.Common.{◌∙◌, true≢false, arith, eqb-true}
use Rattle.std.specs.Prelude.{true, false, List, ℕ, ◌+◌, ◌<◌, ◌≤◌, eqb, length, Ok, Err, Some, None}
use Rattle.std.proofs.Math.Option.{some}
use Rattle.std.proofs.Math.ListN.{get_or}
use Rattle.logic.specs.Test.{when◌then◌else◌}
use Rattle.logic.specs.laws.Test.{cases}
use Rattle.text.specs.declared.Name.{Name}
use Rattle.text.specs.Name.{bytes_of}
use Rattle.text.specs.Utf8.{is_utf8}
use Rattle.refusal.specs.declared.Refusal.TheVariants as F
use Rattle.commands.specs.declared.Command.{Command}
use Rattle.commands.specs.declared.Command.TheVariants as C
use Rattle.commands.specs.declared.Due.{Due}
use Rattle.commands.specs.declared.Due.TheVariants as D
use Rattle.commands.specs.Commands.{named, forms, form_of, operands, name_at, text_byte, field_byte, end_byte, stands, bad_key, read_command, Read, refused_at}
use Rattle.commands.specs.laws.Commands.{byte_of, name_of, Good, good, refused_place, field_due, key_due}
use Rattle.model.specs.Kinds.{struct_kind, map_mode_kind, is_struct}
use Rattle.shapes.specs.declared.Step.TheVariants as S
use Rattle.shapes.specs.declared.Part.TheVariants as P
use Rattle.shapes.specs.Steps.{Inside}
use Rattle.shapes.specs.Shapes.{field_part, named_at, part_at, PartRead}
use Rattle.shapes.specs.laws.Bytes.{named_fits, named_byte, named_inside, named_read, named_refused, read_named}
use Rattle.shapes.specs.Field.{due_of, end_or, field_at, opener_of, Field}

-- the part that it is, which a name that is not UTF-8 refuses
abbrev pub part_of : List ℕ → ℕ → Field → PartRead
part_of text at (Ok (Some name)) = when is_utf8 (bytes_of text name) then Ok (P.Step (S.Field name) (at + 5)) else refused_at F.BadName at
part_of text at (Ok None) = Ok (P.Ended (at + 1))
part_of text at (Err refusal) = refused_at refusal at

-- ---- the parts of a container are its fields
module _ (commands text : List ℕ) (at byte : ℕ) (due : Due) (which : Name → Command) (form : form_of byte ≡ named which) (small : byte < length forms)
    (s : stands due byte ≡ true) (k : bad_key due byte ≡ false)
    (has : (name : Name) → name_of (which name) ≡ some name) (of_byte : (name : Name) → byte_of (which name) ≡ byte) (no_end : eqb byte end_byte ≡ false)
    (is-due : (command : Command) (next : ℕ) → eqb (get_or commands at 0) end_byte ≡ false → read_command commands text at due ≡ Ok (command, next) → command ≡ which (name_at commands (at + 1))) where
  -- where no name stands: the end, or a refusal
  unnamed : (answer : Read) → read_command commands text at due ≡ answer → named_at commands text byte at ≡ false → field_part commands at answer ≡ part_of text at (end_or answer)
  unfolding when◌then◌else◌ form_of operands
  unnamed (Ok (command, next)) e fails =
      let g : Good commands text at due command next = good commands text at due command next e in
      cases (eqb (get_or commands at 0) end_byte)
      (λ q. let behind : next ≡ at + 1 = rw (eqb-true (get_or commands at 0) end_byte q) at g.behind in rw (q, behind))
      (λ q. let is : get_or commands at 0 ≡ byte = sym g.byte ∙ rw (is-due command next q e) (of_byte (name_at commands (at + 1))) in
      absurd (true≢false (sym (read_named commands text byte at due which form has is command next e) ∙ fails)))
  unnamed (Err r) e fails = rw (refused_place commands text at due r.refusal r.place e)

  field_as : field_part commands at (read_command commands text at due) ≡ part_of text at
      (when named_at commands text byte at then Ok (Some (name_at commands (at + 1))) else end_or (read_command commands text at due))
  unfolding when◌then◌else◌
  field_as =
      cases (named_at commands text byte at)
      (λ p. cases (is_utf8 (bytes_of text (name_at commands (at + 1))))
      (λ u. rw (p, u, named_read commands text byte at _ refl p due which form small s u k, named_byte commands text byte at _ refl p, no_end))
      (λ u. rw (p, u, named_refused commands text byte at _ refl p due which form small s u)))
      (λ p. rw p (unnamed (read_command commands text at due) refl p))

pub field_part_lem : (commands text : List ℕ) (kind positions i at : ℕ) → is_struct kind ≡ true → part_at commands text kind positions i at ≡ part_of text at (field_at commands text kind at)
unfolding part_at field_at when◌then◌else◌ form_of
field_part_lem commands text kind positions i at e =
    cases (eqb kind struct_kind)
    (λ q. rw (eqb-true kind struct_kind q)
    (field_as commands text at field_byte D.FieldOrEnd C.Field refl (omega arith) refl refl (λ n. refl) (λ n. refl) refl
    (λ c n end. field_due commands text at c n end)))
    (λ q. let m : eqb kind map_mode_kind ≡ true = rw q at e in
    rw (eqb-true kind map_mode_kind m) (field_as commands text at text_byte D.KeyOrEnd C.Text refl (omega arith) refl refl (λ n. refl) (λ n. refl) refl (λ c n end. key_due commands text at c n end)))

-- ---- what is known of it
module _ (commands text : List ℕ) (kind at : ℕ) (field : Field) (f : field ≡ field_at commands text kind at) where
  module _ (name : Name) (e : field ≡ Ok (Some name)) where
    no_name_lem : {P : Type 0} (answer : Read) → end_or answer ≡ Ok (Some name) → P
    no_name_lem (Ok (command, next)) h = let z : ◌≡◌ {A = ℕ} 0 1 = cc in absurd (omega arith)
    no_name_lem (Err r) h = let z : ◌≡◌ {A = ℕ} 0 1 = cc in absurd (omega arith)

    stood : {P : Type 0} → (named_at commands text (opener_of kind) at ≡ true → name ≡ name_at commands (at + 1) → P) → P
    unfolding field_at when◌then◌else◌
    stood k =
        let h : field_at commands text kind at ≡ Ok (Some name) = sym f ∙ e in
        cases (named_at commands text (opener_of kind) at)
        (λ p. let n : Ok (Some (name_at commands (at + 1))) ≡ Ok (Some name) = rw p at h in k p (cc))
        (λ p. no_name_lem (read_command commands text at (due_of kind)) (rw p at h))

    pub field_name : name ≡ name_at commands (at + 1)
    field_name = stood λ p n. n

    pub field_inside : Inside text name
    field_inside = stood λ p n. rw n (named_inside commands text (opener_of kind) at _ refl p)

    pub field_within : at + 5 ≤ length commands
    field_within = stood λ p n. named_fits commands text (opener_of kind) at _ refl p

  module _ (e : field ≡ Ok None) where
    read_end : (answer : Read) → read_command commands text at (due_of kind) ≡ answer → end_or answer ≡ Ok None → at < length commands
    read_end (Ok (command, next)) r h =
        let g : Good commands text at (due_of kind) command next = good commands text at (due_of kind) command next r in
        let above : at < next = g.above in
        let within : next ≤ length commands = g.within in
        omega arith
    read_end (Err x) r h = let z : ◌≡◌ {A = ℕ} 0 1 = cc in absurd (omega arith)

    pub end_inside : at < length commands
    unfolding field_at when◌then◌else◌
    end_inside =
        let h : field_at commands text kind at ≡ Ok None = sym f ∙ e in
        cases (named_at commands text (opener_of kind) at)
        (λ p. let n : Ok (Some (name_at commands (at + 1))) ≡ Ok None = rw p at h in let z : ◌≡◌ {A = ℕ} 0 1 = cc in absurd (omega arith))
        (λ p. read_end (read_command commands text at (due_of kind)) refl (rw p at h))
