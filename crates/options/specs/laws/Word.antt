-- An unknown bit, read off the word's size, is a bit above 10. No proof cites this: it says that the definition is refusal 1's.
use Rattle.std.specs.Prelude.{◌≡◌, refl, Bool, true, false, ◌||◌, ℕ, ◌/◌, ◌%◌, ◌^◌, ◌<◌, eqb, leb}
use Rattle.std.proofs.Common.{sym, arith, leb-true, leb-false, ne_eqb}
use Rattle.std.proofs.Math.Nat.{div-div-eq-div-mul}
use Rattle.logic.specs.laws.Test.{cases}
use Rattle.logic.specs.laws.Table.{all_below, below_at}
use Rattle.options.specs.Word.{bit, unknown_bit}

-- the five bits of a number below 32
abbrev any_of : ℕ → Bool
any_of q = eqb (q % 2) 1 || eqb (q / 2 % 2) 1 || eqb (q / 4 % 2) 1 || eqb (q / 8 % 2) 1 || eqb (q / 16 % 2) 1

-- a number below 32 is not zero exactly when one of them is set
five : all_below 32 (λ q. eqb q 0 || any_of q) ≡ true
unfolding all_below
five = refl

above : (word : ℕ) → word < 2 ^ 16 → unknown_bit word ≡ any_of (word / 2048)
above word h =
    cases (leb 2048 word)
    (λ e.
    let l = leb-true 2048 word e in
    let q : word / 2048 < 32 = omega arith in
    let n : eqb (word / 2048) 0 ≡ false = ne_eqb (word / 2048) 0 (λ z. omega arith) in
    rw e (sym (rw n at (below_at 32 (λ q. eqb q 0 || any_of q) five (word / 2048) q))))
    (λ e.
    let l = leb-false 2048 word e in
    let z : word / 2048 ≡ 0 = omega arith in
    rw (e, z))

pub unknown_bit_lem : (word : ℕ) → word < 2 ^ 16 → unknown_bit word ≡ (bit 11 word || bit 12 word || bit 13 word || bit 14 word || bit 15 word)
unknown_bit_lem word h =
    rw (
      ← (div-div-eq-div-mul word 2048 2),
      ← (div-div-eq-div-mul word 2048 4),
      ← (div-div-eq-div-mul word 2048 8),
      ← (div-div-eq-div-mul word 2048 16),
    ) (above word h)
