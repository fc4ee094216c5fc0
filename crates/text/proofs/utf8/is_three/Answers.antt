-- `utf8::is_three` compares three bytes with the row's ranges.
use borrow.Author.Rules.{rules}
use mathlib.Core.Path.{◌≡◌, sym}
use Prim.Native.Nat.{ℕ, ◌+◌, ◌-◌, ◌≤◌, ◌<◌}
use native.Mathlib.Omega.{arith}
use mathlib.Core.Bool.{false, ◌&&◌, and-true, and_assoc}
use mathlib.Core.List.{List, [], ◌∷◌}
use lib.Dec.{leb}
use lib.ListN.{length, get_or, drop, length-drop}
use Rattle.logic.specs.laws.Test.{cases}
use Rattle.text.specs.Utf8.{◌to◌, within}
use Rattle.text.specs.Due.{trailing, begins}
use Rattle.text.proofs.Steps.{drop_at}
use Rattle.text.proofs.Begins.{begins_length}
use Rattle.text.proofs.utf8.is_three.Goals as goal

module _ (bytes : List ℕ) (at : ℕ) where
  few : length bytes - at < 3 → false ≡ begins (0xE1 to 0xEC ∷ trailing ∷ trailing ∷ []) (drop at bytes)
  few h =
      cases (begins (0xE1 to 0xEC ∷ trailing ∷ trailing ∷ []) (drop at bytes))
      (λ e. absurd (omega (arith, begins_length (0xE1 to 0xEC ∷ trailing ∷ trailing ∷ []) (drop at bytes) e, length-drop at bytes))) sym

  compared : 3 ≤ length bytes - at →
      (leb 0xE1 (get_or bytes at 0) && leb (get_or bytes at 0) 0xEC && leb 0x80 (get_or bytes (at + 1) 0) && leb (get_or bytes (at + 1) 0) 0xBF && leb 0x80
      (get_or bytes (at + 2) 0) && leb (get_or bytes (at + 2) 0) 0xBF) ≡ begins (0xE1 to 0xEC ∷ trailing ∷ trailing ∷ []) (drop at bytes)
  unfolding begins within
  compared h =
      let two : at + 1 + 1 ≡ at + 2 = omega arith in
      rw (drop_at bytes at (omega arith), drop_at bytes (at + 1) (omega arith), two, drop_at bytes (at + 2) (omega arith)) (simp (and_assoc, and-true))

pub returns-then-bytes-at-lt3 : goal.returns-then-bytes-at-lt3
returns-then-bytes-at-lt3 c = search (few, rules)

pub returns : goal.returns
returns c = search (compared, rules)
