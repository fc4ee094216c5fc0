-- `utf8::past_few` passes the first four bytes, and then those of the last four that are behind them.
use borrow.Author.Rules.{rules}
use mathlib.Core.Path.{◌≡◌, refl}
use Prim.Native.Nat.{ℕ, ◌-◌, ◌≤◌, ◌<◌}
use native.Mathlib.Omega.{arith}
use mathlib.Core.Bool.{Bool, true, not, ◌&&◌}
use mathlib.Core.List.{List}
use lib.ListN.{length, drop}
use Rattle.logic.specs.laws.Test.{both}
use Rattle.text.specs.Utf8.{is_utf8}
use Rattle.text.specs.Block.{any_from, is_high}
use Rattle.text.proofs.Ascii.{ascii_block}
use Rattle.text.proofs.utf8.past_few.Goals as goal

two : (bytes : List ℕ) (first last : Bool) → first ≡ not (any_from (is_high bytes) 0 4) → last ≡ not (any_from (is_high bytes) (length bytes - 4) 4) →
    (first && last) ≡ true → 4 ≤ length bytes → length bytes < 8 → is_utf8 (drop (length bytes) bytes) ≡ is_utf8 bytes
two bytes first last e f t h g =
    both first last t λ p q.
    ascii_block bytes (length bytes - 4) 4 4 (length bytes) last f q (ascii_block bytes 0 4 0 4 first e p refl (omega arith) (omega arith) refl h)
    (omega arith) h (omega arith) (omega arith)

pub returns-then-are_ascii : goal.returns-then-are_ascii
returns-then-are_ascii c = (search rules, search (two, rules))
