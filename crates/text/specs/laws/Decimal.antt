-- Laws of decimal numerals: how they are made, and their length.
use Rattle.std.specs.Prelude.{◌≡◌, refl, ℕ, zero, suc, ◌+◌, ◌*◌, ◌/◌, ◌%◌, ◌^◌, ◌≤◌, ◌<◌, List, [], ◌∷◌, ◌++◌, ltb, length, max}
use Rattle.std.proofs.Common.{sym, ap, ◌∙◌, le_refl, not-suc-le-zero, pow-suc, arith, length-append, ltb-true, ltb-false, lt-ltb, le-ltb}
use Rattle.std.proofs.Math.Nat.{one-le-pow}
use Rattle.std.proofs.lemmas.Fmt.{decimal_from_appends, length-decimal-le}
use Rattle.std.specs.Fmt.{decimal as decimal_text}
use Rattle.logic.specs.laws.Test.{cases}
use Rattle.text.specs.Decimal.{zero_digit, numeral, decimal}

-- a numeral with digits to spare
numeral_small : (fuel n : ℕ) → n < 10 → numeral (suc fuel) n ≡ (zero_digit + n) ∷ []
unfolding numeral
numeral_small fuel n h = rw (lt-ltb n 10 h, numeral)

numeral_step : (fuel n : ℕ) → 10 ≤ n → numeral (suc fuel) n ≡ numeral fuel (n / 10) ++ ((zero_digit + n % 10) ∷ [])
unfolding numeral
numeral_step fuel n h = rw (le-ltb n 10 h, numeral)

numeral_enough : (f g n : ℕ) → n < f → n < g → numeral f n ≡ numeral g n
numeral_enough zero g n p q = absurd (not-suc-le-zero p)
numeral_enough (suc f) zero n p q = absurd (not-suc-le-zero q)
numeral_enough (suc f) (suc g) n p q =
    cases (ltb n 10) (λ e. numeral_small f n (ltb-true n 10 e) ∙ sym (numeral_small g n (ltb-true n 10 e)))
    (λ e.
    let h : 10 ≤ n = ltb-false n 10 e in
    numeral_step f n h ∙ ap (λ (l : List ℕ). l ++ ((zero_digit + n % 10) ∷ [])) (numeral_enough f g (n / 10) (omega arith) (omega arith)) ∙ sym (numeral_step g n h))

-- the numeral of a number below ten is its digit; any other is that of the number without its last digit, and that digit
pub decimal_small : (n : ℕ) → n < 10 → decimal n ≡ (zero_digit + n) ∷ []
unfolding decimal
decimal_small n h = numeral_small n n h

pub decimal_step : (n : ℕ) → 10 ≤ n → decimal n ≡ decimal (n / 10) ++ ((zero_digit + n % 10) ∷ [])
unfolding decimal
decimal_step n h =
    numeral_step n n h
    ∙ ap (λ (l : List ℕ). l ++ ((zero_digit + n % 10) ∷ [])) (numeral_enough n (suc (n / 10)) (n / 10) (omega arith) (le_refl (suc (n / 10))))

-- what holds below ten, and of a number where it holds without the last digit, holds of all
by_digits : (P : ℕ → Type 0) → ((n : ℕ) → n < 10 → P n) → ((n : ℕ) → 10 ≤ n → P (n / 10) → P n) → (n : ℕ) → P n
by_digits P small step n = go (suc n) n (le_refl (suc n))
  where
    go : (fuel n : ℕ) → n < fuel → P n
    go zero n h = absurd (not-suc-le-zero h)
    go (suc fuel) n h =
        cases (ltb n 10) (λ e. small n (ltb-true n 10 e))
        (λ e. let g : 10 ≤ n = ltb-false n 10 e in step n g (go fuel (n / 10) (omega arith)))

-- a digit more
pub length_step : (n : ℕ) → 10 ≤ n → length (decimal n) ≡ length (decimal (n / 10)) + 1
length_step n h = rw (decimal_step n h, length-append)

pub length_positive : (n : ℕ) → 0 < length (decimal n)
length_positive =
    by_digits (λ n. 0 < length (decimal n)) (λ n h. rw (decimal_small n h) (le_refl 1)) (λ n h e. rw (length_step n h) (omega arith))

-- a number below 10 to the k + 1 has at most k + 1 digits, and one from 10 to the k on has more than k
pub length_most : (k n : ℕ) → n < 10 ^ suc k → length (decimal n) ≤ suc k
length_most zero n h = rw (decimal_small n h) (le_refl 1)
length_most (suc k) n h =
    let g : n < 10 ^ suc k * 10 = rw pow-suc at h in
    cases (ltb n 10) (λ e. rw (decimal_small n (ltb-true n 10 e)) (omega arith))
    (λ e. let m : length (decimal (n / 10)) ≤ suc k = length_most k (n / 10) (omega arith) in rw (length_step n (ltb-false n 10 e)) (omega arith))

pub length_least : (k n : ℕ) → 10 ^ k ≤ n → k < length (decimal n)
length_least zero n h = length_positive n
length_least (suc k) n h =
    let g : 10 ^ k * 10 ≤ n = rw pow-suc at h in
    let o : 1 ≤ 10 ^ k = one-le-pow k 10 (omega arith) in
    let m : k < length (decimal (n / 10)) = length_least k (n / 10) (omega arith) in
    rw (length_step n (omega arith)) (omega arith)

-- how many digits those are; zero has as many as one
length_is : (k n : ℕ) → 10 ^ k ≤ n → n < 10 * 10 ^ k → k + 1 ≡ length (decimal n)
length_is k n h g =
    let next : 10 ^ suc k ≡ 10 ^ k * 10 = pow-suc 10 k in
    let most : length (decimal n) ≤ suc k = length_most k n (omega arith) in
    let least : k < length (decimal n) = length_least k n h in
    omega arith

pub length_logarithm : (k n : ℕ) → 10 ^ k ≤ max n 1 → max n 1 < 10 * 10 ^ k → k + 1 ≡ length (decimal n)
length_logarithm k zero h g = length_is k 1 h g ∙ ap length (decimal_small 1 (omega arith)) ∙ sym (ap length (decimal_small 0 (omega arith)))
length_logarithm k (suc n) h g = length_is k (suc n) (omega arith) (omega arith)

-- a number of 16 bits has at most five digits
pub length_u16 : (n : ℕ) → n < 2 ^ 16 → length (decimal n) ≤ 5
length_u16 n h = length_most 4 n (omega arith)

-- No proof cites this: it is what the library writes.
pub decimal_written : (n : ℕ) → n < 2 ^ 16 → decimal_text n ≡ decimal n
unfolding decimal
decimal_written n h =
    let short : length (decimal_text n) ≤ 5 = length-decimal-le 5 n (omega arith) (omega arith) (omega arith) in
    sym (decimal_from_appends numeral (record { one = numeral_small; more = numeral_step }) (n + 6) n (omega arith) (omega (arith, short)))
    ∙ numeral_enough (n + 6) (suc n) n (omega arith) (omega arith)

-- No proof cites these: the numerals of the least and of the greatest position.
zero_is : decimal 0 ≡ 0x30 ∷ []
unfolding decimal numeral
zero_is = refl

largest_is : decimal 65535 ≡ 0x36 ∷ 0x35 ∷ 0x35 ∷ 0x33 ∷ 0x35 ∷ []
unfolding decimal numeral
largest_is = refl
