-- `utf8::past_ascii` passes a block a turn, and at the end those of the last eight bytes that are behind the blocks.
use borrow.Author.Rules.{rules}
use mathlib.Core.Path.{◌≡◌, refl}
use Prim.Native.Nat.{ℕ, ◌+◌, ◌-◌, ◌≤◌, ◌<◌}
use native.Mathlib.Omega.{arith}
use mathlib.Core.Bool.{Bool, true, not}
use mathlib.Core.List.{List}
use lib.ListN.{length, drop}
use Rattle.text.specs.Utf8.{is_utf8}
use Rattle.text.specs.Block.{any_from, is_high}
use Rattle.text.proofs.Ascii.{ascii_block}
use Rattle.text.proofs.utf8.past_ascii.Goals as goal

module _ (bytes : List ℕ) (i : ℕ) (low : Bool) where
  block : (count : ℕ) → low ≡ not (any_from (is_high bytes) i count) → low ≡ true → is_utf8 (drop i bytes) ≡ is_utf8 bytes → i ≤ length bytes → count ≤ length bytes - i →
      is_utf8 (drop (i + count) bytes) ≡ is_utf8 bytes
  block count e t p h g = ascii_block bytes i count i (i + count) low e t p (omega arith) (omega arith) refl (omega arith)

  last : low ≡ not (any_from (is_high bytes) (length bytes - 8) 8) → low ≡ true → is_utf8 (drop i bytes) ≡ is_utf8 bytes → i ≤ length bytes → length bytes - i < 8 →
      8 ≤ length bytes → is_utf8 (drop (length bytes) bytes) ≡ is_utf8 bytes
  last e t p h g l = ascii_block bytes (length bytes - 8) 8 i (length bytes) low e t p (omega arith) h (omega arith) (omega arith)

pub loop-i-preserved : goal.loop-i-preserved
loop-i-preserved c = (search rules, search (block, rules))

pub loop-i-2-preserved : goal.loop-i-2-preserved
loop-i-2-preserved c = (search rules, search (block, rules))

pub returns-then-are_ascii-3 : goal.returns-then-are_ascii-3
returns-then-are_ascii-3 c = (search rules, search (last, rules))
