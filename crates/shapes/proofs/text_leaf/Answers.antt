-- `text_leaf`: a law for each way.
use Rattle.std.specs.Prelude.{Ok, Err, None}
use borrow.Author.Rules.{rules}
use mathlib.Core.Path.{◌≡◌, refl, sym, ◌∙◌}
use mathlib.Core.Bool.{Bool, true, false, true≢false}
use mathlib.Core.List.{List}
use Prim.Native.Nat.{ℕ, ◌+◌}
use native.Mathlib.Omega.{arith}
use lib.ListN.{get_or}
use Rattle.text.specs.declared.Name.{Name}
use Rattle.text.specs.Name.{bytes_of}
use Rattle.text.specs.Utf8.{is_utf8}
use Rattle.chrono.specs.Text.{text_type}
use Rattle.commands.specs.declared.Command.TheVariants as C
use Rattle.commands.specs.declared.Due.TheVariants as D
use Rattle.commands.specs.Commands.{name_at, form_of, text_byte, read_command, Read}
use Rattle.shapes.specs.Steps.{Inside}
use Rattle.shapes.specs.Shapes.{shape_at, named_at}
use Rattle.shapes.specs.laws.Bytes.{named_fits, named_inside, named_read, named_refused, read_named}
use Rattle.shapes.specs.Leaf.{leaf_read, leaf_at, leaf_of}
use Rattle.shapes.proofs.text_leaf.Goals as goal

module _ (options : ℕ) (commands text : List ℕ) (at : ℕ) (flag : Bool) (f : flag ≡ named_at commands text text_byte at) where
  by_read : (answer : Read) → read_command commands text at D.Value ≡ answer → get_or commands at 0 ≡ text_byte → flag ≡ false → None ≡ leaf_read options text answer
  unfolding form_of
  by_read (Ok (command, next)) e is fails = absurd (true≢false (sym (read_named commands text text_byte at D.Value C.Text refl (λ name. refl) is command next e) ∙ sym f ∙ fails))
  by_read (Err r) e is fails = refl

  unnamed : get_or commands at 0 ≡ text_byte → flag ≡ false → None ≡ leaf_at options commands text at
  unfolding leaf_at
  unnamed is fails = by_read (read_command commands text at D.Value) refl is fails

  module _ (name : Name) (good : Bool) (is : flag ≡ true) (n : name ≡ name_at commands (at + 1)) where
    inside : Inside text name
    inside = rw n (named_inside commands text text_byte at flag f is)

    misnamed : good ≡ is_utf8 (bytes_of text name) → good ≡ false → None ≡ leaf_at options commands text at
    unfolding leaf_at form_of
    misnamed g fails = rw (named_refused commands text text_byte at flag f is D.Value C.Text refl (omega arith) refl (sym (rw n at g) ∙ fails))

    a_text : (kind : ℕ) → good ≡ is_utf8 (bytes_of text name) → good ≡ true → kind ≡ text_type options (bytes_of text name) → leaf_of false kind (at + 5) ≡ leaf_at options commands text at
    unfolding leaf_at form_of shape_at
    a_text kind g holds k = rw (named_read commands text text_byte at flag f is D.Value C.Text refl (omega arith) refl (sym (rw n at g) ∙ holds) refl, k, n)

pub read_name-name-requires : goal.read_name-name-requires
read_name-name-requires c = omega (arith, named_fits _ _ _ _ _ c.is_named.ensures c.if-is_named.true)

pub is_good-requires : goal.is_good-requires
is_good-requires c = search (inside, rules)

pub text_kind-requires : goal.text_kind-requires
text_kind-requires c = search (inside, rules)

pub returns-then-is_good : goal.returns-then-is_good
returns-then-is_good c = search (a_text, rules)

pub returns-else-is_good : goal.returns-else-is_good
returns-else-is_good c = search (misnamed, rules)

pub returns-else-is_named : goal.returns-else-is_named
returns-else-is_named c = search (unnamed, rules)
