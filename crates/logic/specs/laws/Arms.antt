-- What the last arm of a match on a number knows, where the arms before it are 0, 1, 2 and so on.
use Rattle.std.specs.Prelude.{◌≡◌, ℕ, zero, suc, ◌≤◌}
use Rattle.std.proofs.Common.{zero-le, arith}

-- the number is none of those below n
abbrev pub NoneBelow : ℕ → ℕ → Type 0
NoneBelow x zero = Unit {0}
NoneBelow x (suc n) = NoneBelow x n × (x ≡ n → ⊥)

-- so it is n or more
pub none_below : (n : ℕ) {x : ℕ} → NoneBelow x n → n ≤ x
none_below zero h = zero-le
none_below (suc n) {x} h =
    let below : n ≤ x = none_below n h.0 in
    let other : x ≡ n → ⊥ = h.1 in
    omega arith
