-- What the library's methods answer, in the words of specs/: equality and order of names, how many dots they have, and whether bytes are below 80.
use Rattle.std.proofs.Common.{◌≡◌, ◌∙◌, refl, sym, ap, drop, take, drop_of_length-le, take_all, length-drop, if◌then◌else◌, zero, ℕ, suc, ◌+◌, ◌-◌, ◌<◌, ◌≤◌, Bool, true, false, ◌&&◌, ◌||◌, cond, List, [], ◌∷◌, eqb, ltb, length, get_or, Ordering, Less, Equal, Greater, arith, ltb-true, ltb-false, lt-ltb, le-ltb, true≢false}
use Rattle.std.specs.Bool.{MatchBool}
use Rattle.std.specs.Str.{IsAscii, IsNotAscii}
use Rattle.std.proofs.lemmas.Bool.{false≢true}
use Rattle.std.proofs.lemmas.List.{get_or_past}
use Rattle.std.specs.Cmp.Lexicographic.{pointwise, slice_cmp}
use Rattle.std.specs.Ordering.{nat_cmp, is_lt, ordering_then}
use Rattle.std.proofs.lemmas.List.{at_drop_more}
use Rattle.memchr.specs.Find.{is_byte, places, places_from, Passes, Nowhere, NoneBefore}
use Rattle.std.proofs.lemmas.List.Recursion.{and_is}
use Rattle.logic.specs.Test.{when◌then◌else◌}
use Rattle.logic.specs.laws.Test.{cases}
use Rattle.text.specs.Block.{is_ascii}
use Rattle.text.specs.Name.{eq_name, lt_name, dot, dots}

pub equal_bytes : (x y : List ℕ) → pointwise eqb x y ≡ eq_name x y
unfolding eq_name
equal_bytes [] [] = refl
equal_bytes [] (b ∷ y) = refl
equal_bytes (a ∷ x) [] = refl
equal_bytes (a ∷ x) (b ∷ y) = ap (λ (t : Bool). eqb a b && t) (equal_bytes x y)

lesser : (less same rest : Bool) (order : Ordering) → is_lt order ≡ rest →
    is_lt (ordering_then (cond less Less (cond same Equal Greater)) order) ≡ less || (same && rest)
lesser true same rest order e = refl
lesser false true rest order e = e
lesser false false rest order e = refl

pub lesser_bytes : (x y : List ℕ) → is_lt (slice_cmp nat_cmp x y) ≡ lt_name x y
unfolding lt_name
lesser_bytes [] [] = refl
lesser_bytes [] (b ∷ y) = refl
lesser_bytes (a ∷ x) [] = refl
lesser_bytes (a ∷ x) (b ∷ y) = lesser (ltb a b) (eqb a b) (lt_name x y) (slice_cmp nat_cmp x y) (lesser_bytes x y)

placed : (test : Bool) (i : ℕ) (later : List ℕ) → (when test then suc (length later) else length later) ≡ length (if test then i ∷ later else later)
unfolding when◌then◌else◌
placed true i later = refl
placed false i later = refl

dots_placed : (bytes : List ℕ) (i n : ℕ) → i + n ≡ length bytes → dots (drop i bytes) ≡ length (places_from (is_byte dot) bytes i n)
unfolding dots places_from
dots_placed bytes i zero e = ap dots (drop_of_length-le bytes {i = i} (omega arith))
dots_placed bytes i (suc n) e =
    let later : List ℕ = places_from (is_byte dot) bytes (i + 1) n in
    at_drop_more dots bytes i 0 (omega arith) ∙ ap (λ m. when eqb (get_or bytes i 0) dot then suc m else m) (dots_placed bytes (i + 1) n (omega arith)) ∙
    placed (eqb (get_or bytes i 0) dot) i later

dots_counted : (bytes : List ℕ) → length (places (is_byte dot) bytes) ≡ dots bytes
dots_counted bytes =
    let none : length bytes - 0 ≡ length bytes = omega arith in
    rw none (sym (dots_placed bytes 0 (length bytes) (omega arith)))

dots_behind : (bytes : List ℕ) (i n j : ℕ) → i + n ≡ j → j ≤ length bytes → Nowhere (Passes (is_byte dot) bytes) i j → dots (drop i bytes) ≡ dots (drop j bytes)
unfolding dots when◌then◌else◌
dots_behind bytes i zero j e h none = let here : i ≡ j = omega arith in rw here
dots_behind bytes i (suc n) j e h none =
    let no_dot : eqb (get_or bytes i 0) dot ≡ false = cases (eqb (get_or bytes i 0) dot) (λ y. absurd (none i (omega arith) (omega arith) y)) (λ y. y) in
    at_drop_more dots bytes i 0 (omega arith) ∙ rw no_dot (dots_behind bytes (i + 1) n j (omega arith) h (λ k low high. none k (omega arith) high))

pub dots_from_first : (bytes : List ℕ) (first : ℕ) → NoneBefore (Passes (is_byte dot) bytes) 0 (length bytes) first →
    length (places (is_byte dot) (take (length bytes - first) (drop first bytes))) ≡ dots bytes
dots_from_first bytes first h =
    rw (take_all (length bytes - first) (drop first bytes) (omega (arith, length-drop first bytes)))
    (dots_counted (drop first bytes) ∙ sym (dots_behind bytes 0 first first (omega arith) (omega (arith, h.high)) h.before))

pub dotless : (bytes : List ℕ) → Nowhere (Passes (is_byte dot) bytes) 0 (length bytes) → 0 ≡ dots bytes
unfolding dots
dotless bytes none = sym (dots_behind bytes 0 (length bytes) (length bytes) (omega arith) (omega arith) none ∙ ap dots (drop_of_length-le bytes {i = length bytes} (omega arith)))

high_somewhere : (bytes : List ℕ) → IsNotAscii bytes → (i : ℕ) × (i < length bytes) × (ltb (get_or bytes i 0) 0x80 ≡ false)
high_somewhere bytes (i, high) =
    cases (ltb i (length bytes)) (λ e. (i, ltb-true i (length bytes) e, le-ltb (get_or bytes i 0) 0x80 high))
    (λ e. let none : get_or bytes i 0 ≡ 0 = get_or_past bytes i 0 (ltb-false i (length bytes) e) in absurd (omega arith))

pub ascii_bytes : (bytes : List ℕ) (low : Bool) → MatchBool low (IsAscii bytes) (IsNotAscii bytes) → low ≡ is_ascii bytes
unfolding is_ascii
ascii_bytes bytes true low = and_is is_ascii (λ b. ltb b 0x80) refl (λ _ _. refl) bytes 0 true (λ _ i h. lt-ltb (get_or bytes i 0) 0x80 (low i)) (λ e. absurd (true≢false e))
ascii_bytes bytes false high = and_is is_ascii (λ b. ltb b 0x80) refl (λ _ _. refl) bytes 0 false (λ e. absurd (false≢true e)) (λ _. high_somewhere bytes high)
