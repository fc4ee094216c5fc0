-- `leaf_at` goes by the byte: a law for each way.
use Rattle.std.specs.Prelude.{Ok, Err, None, Option}
use borrow.Author.Rules.{rules}
use borrow.Author.Tests.{le-leb}
use mathlib.Core.Path.{◌≡◌, refl, sym, ◌∙◌}
use mathlib.Core.Bool.{true, false}
use mathlib.Core.List.{List}
use Prim.Native.Nat.{ℕ, ◌+◌, ◌<◌, ◌≤◌}
use native.Mathlib.Omega.{arith}
use lib.ListN.{length, get_or}
use Rattle.logic.specs.Test.{when◌then◌else◌}
use Rattle.datatype.specs.Codes.{null}
use Rattle.options.specs.Word.{binary_type}
use Rattle.commands.specs.declared.Command.{Command}
use Rattle.commands.specs.declared.Command.TheVariants as C
use Rattle.commands.specs.declared.Due.TheVariants as D
use Rattle.commands.specs.Commands.{plain, form_of, made, text_byte, bad_command, read_command, Read}
use Rattle.commands.specs.laws.Commands.{byte_of, good}
use Rattle.shapes.specs.declared.Leaf.{Leaf}
use Rattle.shapes.specs.Shapes.{shape_at, plain_byte}
use Rattle.shapes.specs.Leaf.{leaf_by, leaf_read, leaf_at, leaf_of}
use Rattle.shapes.specs.laws.Leaf.{past_none, plain_leaf}
use Rattle.shapes.specs.laws.Bytes.{bare_read}
use Rattle.shapes.proofs.leaf_at.Goals as goal

ended : (options : ℕ) (commands text : List ℕ) (at : ℕ) → length commands ≤ at → None ≡ leaf_at options commands text at
unfolding leaf_at read_command bad_command when◌then◌else◌
ended options commands text at h = rw (le-leb _ _ h)

module _ (options : ℕ) (commands text : List ℕ) (at byte : ℕ) (there : at < length commands) (is : byte ≡ get_or commands at 0) where
  by_read : (answer : Read) → read_command commands text at D.Value ≡ answer → 15 < byte → None ≡ leaf_read options text answer
  by_read (Ok (command, next)) e h =
      let b : byte_of command ≡ get_or commands at 0 = (good commands text at D.Value command next e).byte in
      past_none options text command next (omega arith)
  by_read (Err r) e h = refl

  none_follows : text_byte ≤ byte → (byte ≡ 0x0D → ⊥) → (byte ≡ 0x0E → ⊥) → (byte ≡ 0x0F → ⊥) → None ≡ leaf_at options commands text at
  unfolding leaf_at
  none_follows h a b c = by_read (read_command commands text at D.Value) refl (omega arith)

  -- a command with no operands
  alone : (which : ℕ) (command : Command) (leaf : Option Leaf) → byte ≡ which → form_of which ≡ plain command → plain_byte which ≡ true →
      leaf ≡ leaf_by (at + 1) (shape_at options text command) → leaf ≡ leaf_at options commands text at
  unfolding leaf_at made
  alone which command leaf b form bare l = rw (bare_read commands text at which D.Value (sym is ∙ b) there bare refl, form) l

  bytes_there : (kind code : ℕ) → byte ≡ 0x0E → kind ≡ code → code ≡ binary_type options → leaf_of false kind (at + 1) ≡ leaf_at options commands text at
  unfolding shape_at form_of plain_byte
  bytes_there kind code b k t = alone 0x0E C.Bytes (leaf_of false kind (at + 1)) b refl refl (rw (k, t))

  none_there : byte ≡ 0x0F → leaf_of true null (at + 1) ≡ leaf_at options commands text at
  unfolding shape_at form_of plain_byte
  none_there b = alone 0x0F C.None (leaf_of true null (at + 1)) b refl refl refl

pub returns-then-commands-at : goal.returns-then-commands-at
returns-then-commands-at c = search (ended, rules)

pub returns-then-byte-lt-TEXT : goal.returns-then-byte-lt-TEXT
returns-then-byte-lt-TEXT c = search (plain_leaf, rules)

pub returns-in-14 : goal.returns-in-14
returns-in-14 c = search (bytes_there, rules)

pub returns-in-15 : goal.returns-in-15
returns-in-15 c = search (none_there, rules)

pub returns-in_default : goal.returns-in_default
returns-in_default c = search (none_follows, rules)
