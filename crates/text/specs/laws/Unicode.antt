-- The computed test of UTF-8, which says what the table says, says what the library says: the bytes are the UTF-8 of some characters.
use Rattle.std.specs.Prelude.{◌≡◌, refl, ℕ, zero, suc, ◌+◌, ◌-◌, ◌*◌, ◌/◌, ◌%◌, ◌≤◌, ◌<◌, true, List, [], ◌∷◌, ◌++◌}
use Rattle.std.proofs.Common.{sym, subst, ◌∙◌, arith, ltb-true, ltb-false, lt-ltb, le-ltb}
use Rattle.std.proofs.lemmas.Bool.{false≢true}
use Rattle.std.proofs.lemmas.Str.{encode_ascii, IsUtf8-nil, IsUtf8-append, IsUtf8-encode}
use Rattle.std.proofs.Math.Option.{some}
use Rattle.std.proofs.Math.ListN.{get_elem?}
use Rattle.std.proofs.Math.Utf8.{scalar, scalars, encode, encodes, low_scalar}
use Rattle.std.specs.Str.{IsUtf8}
use borrow.Author.Tests.{leb-true, le-leb}
use lib.Dec.{leb, ltb}
use Rattle.logic.specs.laws.Test.{cases, both}
use Rattle.text.specs.Utf8.{Range, ◌to◌, table, within, reads, is_utf8, fits, Utf8, empty, next}
use Rattle.text.specs.laws.Utf8.{within_true, within_bounds, is_utf8_next, is_utf8_sound}

below : {P : Type 0} (c n : ℕ) → (c < n → P) → (n ≤ c → P) → P
below c n less more = cases (ltb c n) (λ e. less (ltb-true c n e)) (λ e. more (ltb-false c n e))

high_scalar : (c : ℕ) → 0xE000 ≤ c → c < 0x110000 → scalar c ≡ true
high_scalar c p q = rw (le-ltb c 0xD800 (omega arith), le-leb 0xE000 c p, lt-ltb c 0x110000 q)

scalar_bounds : {P : Type 0} (c : ℕ) → scalar c ≡ true → 0xD800 ≤ c → (0xE000 ≤ c → c < 0x110000 → P) → P
scalar_bounds c e h k =
    both (leb 0xE000 c) (ltb c 0x110000) (rw (le-ltb c 0xD800 h) at e) λ p q. k (leb-true 0xE000 c p) (ltb-true c 0x110000 q)

-- the bytes of a character, where they are two, three or four
module _ (c : ℕ) where
  two_bytes : 0x80 ≤ c → c < 0x800 → encode c ≡ (192 + c / 64) ∷ (128 + c % 64) ∷ []
  unfolding encode
  two_bytes h g = rw (le-ltb c 0x80 h, lt-ltb c 0x800 g)

  three_bytes : 0x800 ≤ c → c < 0x10000 → encode c ≡ (224 + c / 4096) ∷ (128 + c / 64 % 64) ∷ (128 + c % 64) ∷ []
  unfolding encode
  three_bytes h g = rw (le-ltb c 0x80 (omega arith), le-ltb c 0x800 h, lt-ltb c 0x10000 g)

  four_bytes : 0x10000 ≤ c → encode c ≡ (240 + c / 262144) ∷ (128 + c / 4096 % 64) ∷ (128 + c / 64 % 64) ∷ (128 + c % 64) ∷ []
  unfolding encode
  four_bytes h = rw (le-ltb c 0x80 (omega arith), le-ltb c 0x800 (omega arith), le-ltb c 0x10000 h)

-- a byte more in its range
fits_more : (low high b : ℕ) (row : List Range) (bytes : List ℕ) → low ≤ b → b ≤ high → fits row bytes ≡ true →
    fits (low to high ∷ row) (b ∷ bytes) ≡ true
unfolding fits
fits_more low high b row bytes p q e = rw (within_true low high b p q) e

fits_none : fits [] [] ≡ true
unfolding fits
fits_none = refl

-- a character's bytes are a sequence of a row
encoded : (c : ℕ) → scalar c ≡ true → (more : List ℕ) → is_utf8 (encode c ++ more) ≡ is_utf8 more
encoded c e more =
    below c 0x80
    (λ h. rw (encode_ascii c h) (is_utf8_next 0 _ _ more refl (fits_more 0x00 0x7F _ _ _ (omega arith) (omega arith) fits_none)))
    λ h.
    below c 0x800
    (λ g.
    rw (two_bytes c h g)
    (is_utf8_next 1 _ _ more refl
    (fits_more 0xC2 0xDF _ _ _ (omega arith) (omega arith) (fits_more 0x80 0xBF _ _ _ (omega arith) (omega arith) fits_none))))
    λ h.
    below c 0x1000 (λ g. three 2 0xE0 0xE0 0xA0 0xBF refl h (omega arith) (omega arith) (omega arith) (omega arith) (omega arith)) λ h.
    below c 0xD000
    (λ g. three 3 0xE1 0xEC 0x80 0xBF refl (omega arith) (omega arith) (omega arith) (omega arith) (omega arith) (omega arith))
    λ h.
    below c 0xD800
    (λ g. three 4 0xED 0xED 0x80 0x9F refl (omega arith) (omega arith) (omega arith) (omega arith) (omega arith) (omega arith))
    λ h.
    scalar_bounds c e h λ h t.
    below c 0x10000
    (λ g. three 5 0xEE 0xEF 0x80 0xBF refl (omega arith) (omega arith) (omega arith) (omega arith) (omega arith) (omega arith))
    λ h.
    below c 0x40000 (λ g. four 6 0xF0 0xF0 0x90 0xBF refl h (omega arith) (omega arith) (omega arith) (omega arith)) λ h.
    below c 0x100000 (λ g. four 7 0xF1 0xF3 0x80 0xBF refl (omega arith) (omega arith) (omega arith) (omega arith) (omega arith)) λ h.
    four 8 0xF4 0xF4 0x80 0x8F refl (omega arith) (omega arith) (omega arith) (omega arith) (omega arith)
  where
    three : (k low high least most : ℕ) → get_elem? table k ≡ some (low to high ∷ least to most ∷ 0x80 to 0xBF ∷ []) →
        0x800 ≤ c → c < 0x10000 → low ≤ 224 + c / 4096 → 224 + c / 4096 ≤ high → least ≤ 128 + c / 64 % 64 → 128 + c / 64 % 64 ≤ most →
        is_utf8 (encode c ++ more) ≡ is_utf8 more
    three k low high least most row h g p q r s =
        rw (three_bytes c h g)
        (is_utf8_next k _ _ more row
        (fits_more low high _ _ _ p q (fits_more least most _ _ _ r s (fits_more 0x80 0xBF _ _ _ (omega arith) (omega arith) fits_none))))

    four : (k low high least most : ℕ) → get_elem? table k ≡ some (low to high ∷ least to most ∷ 0x80 to 0xBF ∷ 0x80 to 0xBF ∷ []) →
        0x10000 ≤ c → low ≤ 240 + c / 262144 → 240 + c / 262144 ≤ high → least ≤ 128 + c / 4096 % 64 → 128 + c / 4096 % 64 ≤ most →
        is_utf8 (encode c ++ more) ≡ is_utf8 more
    four k low high least most row h p q r s =
        rw (four_bytes c h)
        (is_utf8_next k _ _ more row
        (fits_more low high _ _ _ p q (fits_more least most _ _ _ r s
        (fits_more 0x80 0xBF _ _ _ (omega arith) (omega arith) (fits_more 0x80 0xBF _ _ _ (omega arith) (omega arith) fits_none)))))

-- the UTF-8 of characters passes the test
all_pass : (characters : List ℕ) → scalars characters ≡ true → is_utf8 (encodes characters) ≡ true
unfolding reads
all_pass [] e = refl
all_pass (c ∷ characters) e = both (scalar c) (scalars characters) e λ p q. encoded c p (encodes characters) ∙ all_pass characters q

pub utf8_passes : (bytes : List ℕ) → IsUtf8 bytes → is_utf8 bytes ≡ true
utf8_passes bytes u = subst (λ (l : List ℕ). is_utf8 l ≡ true) u.1.1 (all_pass u.0 u.1.0)

-- a sequence of a row is a character's bytes: its first byte, and then the others
first_fits : {P : Type 0} (low high : ℕ) (row : List Range) (bytes : List ℕ) → fits (low to high ∷ row) bytes ≡ true
    → ((b : ℕ) (rest : List ℕ) → bytes ≡ b ∷ rest → low ≤ b → b ≤ high → fits row rest ≡ true → P) → P
unfolding fits
first_fits low high row [] e k = absurd (false≢true e)
first_fits low high row (b ∷ bytes) e k =
    both (within (low to high) b) (fits row bytes) e λ p q. within_bounds low high b p λ r s. k b bytes refl r s q

none_fits : (bytes : List ℕ) → fits [] bytes ≡ true → bytes ≡ []
unfolding fits
none_fits [] e = refl
none_fits (b ∷ bytes) e = absurd (false≢true e)

abbrev IsCharacter : List Range → Type 0
IsCharacter row = (bytes : List ℕ) → fits row bytes ≡ true → IsUtf8 bytes

spelt : (c : ℕ) (bytes : List ℕ) → scalar c ≡ true → encode c ≡ bytes → IsUtf8 bytes
spelt c bytes e p = subst IsUtf8 p (IsUtf8-encode c e)

-- the number that two bytes spell, three or four
abbrev second : ℕ → ℕ → ℕ
second a b = (a - 192) * 64 + (b - 128)

abbrev third : ℕ → ℕ → ℕ → ℕ
third a b d = (a - 224) * 4096 + (b - 128) * 64 + (d - 128)

abbrev fourth : ℕ → ℕ → ℕ → ℕ → ℕ
fourth a b d f = (a - 240) * 262144 + (b - 128) * 4096 + (d - 128) * 64 + (f - 128)

second_back : (a b : ℕ) → 0xC2 ≤ a → a ≤ 0xDF → 0x80 ≤ b → b ≤ 0xBF → encode (second a b) ≡ a ∷ b ∷ []
second_back a b h g r s =
    let one : 192 + second a b / 64 ≡ a = omega arith in
    let last : 128 + second a b % 64 ≡ b = omega arith in
    rw (two_bytes (second a b) (omega arith) (omega arith), one, last)

third_back : (a b d : ℕ) → 224 ≤ a → 0x80 ≤ b → b ≤ 0xBF → 0x80 ≤ d → d ≤ 0xBF → 0x800 ≤ third a b d → third a b d < 0x10000 →
    encode (third a b d) ≡ a ∷ b ∷ d ∷ []
third_back a b d p q r s t h g =
    let one : 224 + third a b d / 4096 ≡ a = omega arith in
    let more : 128 + third a b d / 64 % 64 ≡ b = omega arith in
    let last : 128 + third a b d % 64 ≡ d = omega arith in
    rw (three_bytes (third a b d) h g, one, more, last)

fourth_back : (a b d f : ℕ) → 240 ≤ a → 0x80 ≤ b → b ≤ 0xBF → 0x80 ≤ d → d ≤ 0xBF → 0x80 ≤ f → f ≤ 0xBF →
    0x10000 ≤ fourth a b d f → encode (fourth a b d f) ≡ a ∷ b ∷ d ∷ f ∷ []
fourth_back a b d f p q r s t v w h =
    let one : 240 + fourth a b d f / 262144 ≡ a = omega arith in
    let more : 128 + fourth a b d f / 4096 % 64 ≡ b = omega arith in
    let middle : 128 + fourth a b d f / 64 % 64 ≡ d = omega arith in
    let last : 128 + fourth a b d f % 64 ≡ f = omega arith in
    rw (four_bytes (fourth a b d f) h, one, more, middle, last)

one : IsCharacter (0x00 to 0x7F ∷ [])
one bytes e =
    first_fits 0x00 0x7F [] bytes e λ a x p low high f.
    spelt a bytes (low_scalar a (omega arith)) (encode_ascii a (omega arith) ∙ sym (rw (none_fits x f) at p))

two : IsCharacter (0xC2 to 0xDF ∷ 0x80 to 0xBF ∷ [])
two bytes e =
    first_fits 0xC2 0xDF (0x80 to 0xBF ∷ []) bytes e λ a x p h g f.
    first_fits 0x80 0xBF [] x f λ b y q r s i.
    spelt (second a b) bytes (low_scalar (second a b) (omega arith)) (second_back a b h g r s ∙ sym (rw (q, none_fits y i) at p))

module _ (low high least most : ℕ) (lead : 0x80 ≤ least) (trail : most ≤ 0xBF) where
  three : 0xE0 ≤ low → high ≤ 0xEF →
      ((a b d : ℕ) → low ≤ a → a ≤ high → least ≤ b → b ≤ most → 0x80 ≤ d → d ≤ 0xBF →
      (0x800 ≤ third a b d) × (scalar (third a b d) ≡ true)) →
      IsCharacter (low to high ∷ least to most ∷ 0x80 to 0xBF ∷ [])
  three start end is bytes e =
      first_fits low high (least to most ∷ 0x80 to 0xBF ∷ []) bytes e λ a x p h g i.
      first_fits least most (0x80 to 0xBF ∷ []) x i λ b y q j k l.
      first_fits 0x80 0xBF [] y l λ d z r m n o.
      let known = is a b d h g j k m n in
      spelt (third a b d) bytes known.1
      (third_back a b d (omega arith) (omega arith) (omega arith) m n known.0 (omega arith) ∙ sym (rw (q, r, none_fits z o) at p))

  four : 0xF0 ≤ low →
      ((a b d f : ℕ) → low ≤ a → a ≤ high → least ≤ b → b ≤ most → 0x80 ≤ d → d ≤ 0xBF → 0x80 ≤ f → f ≤ 0xBF →
      (0x10000 ≤ fourth a b d f) × (scalar (fourth a b d f) ≡ true)) →
      IsCharacter (low to high ∷ least to most ∷ 0x80 to 0xBF ∷ 0x80 to 0xBF ∷ [])
  four start is bytes e =
      first_fits low high (least to most ∷ 0x80 to 0xBF ∷ 0x80 to 0xBF ∷ []) bytes e λ a x p h g i.
      first_fits least most (0x80 to 0xBF ∷ 0x80 to 0xBF ∷ []) x i λ b y q j k l.
      first_fits 0x80 0xBF (0x80 to 0xBF ∷ []) y l λ d z r m n o.
      first_fits 0x80 0xBF [] z o λ f u s t v w.
      let known = is a b d f h g j k m n t v in
      spelt (fourth a b d f) bytes known.1
      (fourth_back a b d f (omega arith) (omega arith) (omega arith) m n t v known.0 ∙ sym (rw (q, r, s, none_fits u w) at p))

-- the rows of three bytes, and of four
e0 : IsCharacter (0xE0 to 0xE0 ∷ 0xA0 to 0xBF ∷ 0x80 to 0xBF ∷ [])
e0 =
    three 0xE0 0xE0 0xA0 0xBF (omega arith) (omega arith) (omega arith) (omega arith)
    λ a b d p q r s t v. (omega arith, low_scalar (third a b d) (omega arith))

e1_ec : IsCharacter (0xE1 to 0xEC ∷ 0x80 to 0xBF ∷ 0x80 to 0xBF ∷ [])
e1_ec =
    three 0xE1 0xEC 0x80 0xBF (omega arith) (omega arith) (omega arith) (omega arith)
    λ a b d p q r s t v. (omega arith, low_scalar (third a b d) (omega arith))

ed : IsCharacter (0xED to 0xED ∷ 0x80 to 0x9F ∷ 0x80 to 0xBF ∷ [])
ed =
    three 0xED 0xED 0x80 0x9F (omega arith) (omega arith) (omega arith) (omega arith)
    λ a b d p q r s t v. (omega arith, low_scalar (third a b d) (omega arith))

ee_ef : IsCharacter (0xEE to 0xEF ∷ 0x80 to 0xBF ∷ 0x80 to 0xBF ∷ [])
ee_ef =
    three 0xEE 0xEF 0x80 0xBF (omega arith) (omega arith) (omega arith) (omega arith)
    λ a b d p q r s t v. (omega arith, high_scalar (third a b d) (omega arith) (omega arith))

f0 : IsCharacter (0xF0 to 0xF0 ∷ 0x90 to 0xBF ∷ 0x80 to 0xBF ∷ 0x80 to 0xBF ∷ [])
f0 =
    four 0xF0 0xF0 0x90 0xBF (omega arith) (omega arith) (omega arith)
    λ a b d f p q r s t v w x. (omega arith, high_scalar (fourth a b d f) (omega arith) (omega arith))

f1_f3 : IsCharacter (0xF1 to 0xF3 ∷ 0x80 to 0xBF ∷ 0x80 to 0xBF ∷ 0x80 to 0xBF ∷ [])
f1_f3 =
    four 0xF1 0xF3 0x80 0xBF (omega arith) (omega arith) (omega arith)
    λ a b d f p q r s t v w x. (omega arith, high_scalar (fourth a b d f) (omega arith) (omega arith))

f4 : IsCharacter (0xF4 to 0xF4 ∷ 0x80 to 0x8F ∷ 0x80 to 0xBF ∷ 0x80 to 0xBF ∷ [])
f4 =
    four 0xF4 0xF4 0x80 0x8F (omega arith) (omega arith) (omega arith)
    λ a b d f p q r s t v w x. (omega arith, high_scalar (fourth a b d f) (omega arith) (omega arith))

-- each row of the table
abbrev AllCharacters : List (List Range) → Type 0
AllCharacters [] = Unit {0}
AllCharacters (row ∷ rows) = IsCharacter row × AllCharacters rows

all_characters : AllCharacters table
all_characters = (one, (two, (e0, (e1_ec, (ed, (ee_ef, (f0, (f1_f3, (f4, tt)))))))))

row_character : (rows : List (List Range)) → AllCharacters rows → (k : ℕ) (row : List Range) → get_elem? rows k ≡ some row →
    IsCharacter row
row_character [] all k row e = let z : ◌≡◌ {A = ℕ} 0 1 = cc in absurd (omega arith)
row_character (first ∷ rows) all zero row e = let same : first ≡ row = cc in subst IsCharacter same all.0
row_character (first ∷ rows) all (suc k) row e = row_character rows all.1 k row e

-- what passes the test is the UTF-8 of characters (no proof cites `passes_utf8`: with `utf8_passes`, the library's UTF-8 is the table's)
spelt_out : {bytes : List ℕ} → Utf8 bytes → IsUtf8 bytes
spelt_out empty = IsUtf8-nil
spelt_out (next k row bytes more e f u) = IsUtf8-append bytes more (row_character table all_characters k row e bytes f) (spelt_out u)

pub passes_utf8 : (bytes : List ℕ) → is_utf8 bytes ≡ true → IsUtf8 bytes
passes_utf8 bytes e = spelt_out (is_utf8_sound bytes e)
