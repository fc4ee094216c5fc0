-- `field_at`: a law for each way.
use Rattle.std.specs.Prelude.{Ok, Err, Some, None}
use borrow.Author.Rules.{rules}
use mathlib.Core.Path.{◌≡◌, refl, sym, ◌∙◌}
use mathlib.Core.Bool.{Bool, true, false}
use mathlib.Core.List.{List}
use Prim.Native.Nat.{ℕ, ◌+◌}
use native.Mathlib.Omega.{arith}
use lib.Dec.{eqb}
use Rattle.logic.specs.Test.{when◌then◌else◌}
use Rattle.logic.specs.laws.Flag.{if_either}
use Rattle.text.specs.declared.Name.{Name}
use Rattle.refusal.specs.declared.Refused.{Refused}
use Rattle.commands.specs.declared.Command.{Command}
use Rattle.commands.specs.declared.Due.{Due}
use Rattle.commands.specs.declared.Due.TheVariants as D
use Rattle.commands.specs.Commands.{name_at, end_byte, stands, bad_key, read_command, Read}
use Rattle.model.specs.Kinds.{struct_kind}
use Rattle.shapes.specs.Shapes.{begins_at, named_at}
use Rattle.shapes.specs.laws.Bytes.{named_fits, end_read}
use Rattle.shapes.specs.Field.{opener_of, due_of, end_or, field_at}
use Rattle.shapes.proofs.field_at.Goals as goal

due_has : (P : Due → Type 0) (kind : ℕ) → P D.FieldOrEnd → P D.KeyOrEnd → P (due_of kind)
due_has P kind p q = if_either P (eqb kind struct_kind) p q

module _ (commands text : List ℕ) (kind at byte : ℕ) (flag : Bool) (b : byte ≡ opener_of kind) (f : flag ≡ named_at commands text byte at) where
  a_name : (name : Name) → flag ≡ true → name ≡ name_at commands (at + 1) → Ok (Some name) ≡ field_at commands text kind at
  unfolding field_at when◌then◌else◌
  a_name name is n = rw (← b, sym f ∙ is, n)

  -- the end stands where a field can
  at_once : (last : Bool) → flag ≡ false → last ≡ begins_at commands end_byte at → last ≡ true → Ok None ≡ field_at commands text kind at
  unfolding field_at when◌then◌else◌
  at_once last fails l is =
      rw (
        ← b,
        sym f ∙ fails,
        end_read commands text at (due_of kind) last (due_has (λ due. stands due end_byte ≡ true) kind refl refl)
            (due_has (λ due. bad_key due end_byte ≡ false) kind refl refl) l is,
      ) refl

  module _ (due : Due) (answer : Read) (fails : flag ≡ false) (d : due ≡ due_of kind) (e : answer ≡ read_command commands text at due) where
    read_on : end_or answer ≡ field_at commands text kind at
    unfolding field_at when◌then◌else◌
    read_on = rw (← b, sym f ∙ fails, e, d)

    an_end : (read : Command × ℕ) → answer ≡ Ok read → Ok None ≡ field_at commands text kind at
    an_end read h = rw h at read_on

    a_refusal : (refused : Refused) → answer ≡ Err refused → Err refused.refusal ≡ field_at commands text kind at
    a_refusal refused h = rw h at read_on

pub overflow_add-at : goal.overflow_add-at
overflow_add-at c = record { fits = omega (arith, named_fits _ _ _ _ _ c.is_named.ensures c.if-is_named.true) }

pub read_name-requires : goal.read_name-requires
read_name-requires c = omega (arith, named_fits _ _ _ _ _ c.is_named.ensures c.if-is_named.true)

pub returns-then-is_named : goal.returns-then-is_named
returns-then-is_named c = search (a_name, rules)

pub returns-then-begins_at : goal.returns-then-begins_at
returns-then-begins_at c = search (at_once, rules)

pub returns : goal.returns
returns c = search (a_refusal, rules)

pub returns-in_default : goal.returns-in_default
returns-in_default c = search (an_end, rules)
