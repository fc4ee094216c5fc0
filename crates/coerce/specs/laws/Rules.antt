-- Rules of the joint, each checked at all types that fit by one test that antt computes. The joint depends on the options
-- word only through four bits. Of these allow_to_string is off here, and the edition matters only with coerce_numbers: six words
-- stand for all.
use Rattle.std.specs.Prelude.{◌≡◌, refl, Bool, ◌&&◌, ◌||◌, [], ◌∷◌, ℕ, ◌≤◌, ◌<◌, eqb, ltb}
use Rattle.std.proofs.Common.{sym, ◌∙◌, ap₂, arith, ltb-true, ltb-false, eqb-true}
use Rattle.std.proofs.Math.Path.{fun_ext}
use Rattle.std.proofs.Math.Bool.{true, false}
use Rattle.std.specs.Bool.{beq}
use Rattle.std.proofs.lemmas.Bool.{false≢true}
use Rattle.std.proofs.Math.Option.{Option, none, some}
use Rattle.logic.specs.Test.{when◌then◌else◌}
use Rattle.logic.specs.laws.Test.{both, cases, if_passed}
use Rattle.logic.specs.All.{has}
use Rattle.logic.specs.Maybe.{and_then, same_maybe}
use Rattle.logic.specs.laws.Maybe.{same_maybe_lem}
use Rattle.logic.specs.laws.Table.{all_below, below_at}
use Rattle.datatype.specs.Codes.{null, dictionary_utf8}
use Rattle.options.specs.Word.{coerce_numbers, allow_to_string, edition2, string_as_large_utf8, string_type}
use Rattle.coerce.specs.Joint.{is_string, is_float, is_signed, number_joint, joint_of_numbers, joint_with_string, joint_of_timestamps, joint_of_unequal, joint}
use Rattle.coerce.specs.Census.{is_other, is_string_or_timestamp, several_seen}

-- every type that a value can show is among these: those before the dictionaries, and of the string types only the options' own
unfoldable pub fitting : ℕ → ℕ → Bool
fitting string t = ltb t dictionary_utf8 && (when is_string t then eqb t string else true)

abbrev pub Fits : ℕ → ℕ → Type 0
Fits word t = fitting (string_type word) t ≡ true

pub null_fits : (word : ℕ) → Fits word null
unfolding fitting when◌then◌else◌
null_fits word = refl

-- a word for each setting of coerce_numbers, string_as_large_utf8 and the edition
abbrev plain : Bool → Bool → Bool → ℕ
plain false false e = 0
plain false true e = 8
plain true false false = 64
plain true true false = 72
plain true false true = 1088
plain true true true = 1096

module _ (word : ℕ) (off : allow_to_string word ≡ false) where
  alike : (c l e : Bool) → coerce_numbers word ≡ c → string_as_large_utf8 word ≡ l → edition2 word ≡ e → (a b : ℕ) → joint word a b ≡ joint (plain c l e) a b
  unfolding joint joint_of_unequal joint_of_numbers joint_with_string joint_of_timestamps when◌then◌else◌
  alike false false e p q r a b = simp (p, q, off)
  alike false true e p q r a b = simp (p, q, off)
  alike true false false p q r a b = simp (p, q, r, off)
  alike true true false p q r a b = simp (p, q, r, off)
  alike true false true p q r a b = simp (p, q, r, off)
  alike true true true p q r a b = simp (p, q, r, off)

  alike_string : (c l e : Bool) → string_as_large_utf8 word ≡ l → string_type word ≡ string_type (plain c l e)
  unfolding when◌then◌else◌
  alike_string false false e q = rw q
  alike_string false true e q = rw q
  alike_string true false false q = rw q
  alike_string true true false q = rw q
  alike_string true false true q = rw q
  alike_string true true true q = rw q

-- a rule of the joint and the string type, under a word
abbrev Rule : Type 0
Rule = (ℕ → ℕ → Option ℕ) → ℕ → Bool

abbrev under : Rule → ℕ → Bool
under rule word = rule (joint word) (string_type word)

-- a rule that passes under those six words passes under every word with allow_to_string off
settled : (rule : Rule) → ((c l e : Bool) → under rule (plain c l e) ≡ true) → (word : ℕ) → allow_to_string word ≡ false → under rule word ≡ true
settled rule t word off =
    let c = coerce_numbers word in
    let l = string_as_large_utf8 word in
    let e = edition2 word in
    let j : joint word ≡ joint (plain c l e) = fun_ext λ a. fun_ext λ b. alike word off c l e refl refl refl a b in
    ap₂ rule j (alike_string word off c l e refl) ∙ t c l e

-- the test passes at every type below n that fits
for_fitting : ℕ → ℕ → (ℕ → Bool) → Bool
for_fitting string n p = all_below n (λ t. when fitting string t then p t else true)

-- and at every type that fits
for_all : ℕ → (ℕ → Bool) → Bool
unfolding for_fitting
for_all string p = for_fitting string dictionary_utf8 p

for_fitting_lem : (string n : ℕ) (p : ℕ → Bool) → for_fitting string n p ≡ true → (t : ℕ) → t < n → fitting string t ≡ true → p t ≡ true
unfolding for_fitting
for_fitting_lem string n p e t h f = sym (if_passed true f) ∙ below_at n (λ t. when fitting string t then p t else true) e t h

for_all_lem : (string : ℕ) (p : ℕ → Bool) → for_all string p ≡ true → (t : ℕ) → fitting string t ≡ true → p t ≡ true
unfolding for_all fitting
for_all_lem string p e t f =
    both (ltb t dictionary_utf8) (when is_string t then eqb t string else true) f λ below own.
    for_fitting_lem string dictionary_utf8 p e t (ltb-true t dictionary_utf8 below) f

-- what the test says of the joint, where there is one
on_some : Option ℕ → (ℕ → Bool) → Bool
on_some none p = true
on_some (some u) p = p u

on_some_lem : (o : Option ℕ) (p : ℕ → Bool) (u : ℕ) → on_some o p ≡ true → o ≡ some u → p u ≡ true
unfolding on_some
on_some_lem o p u t e = rw e at t

-- two types may change places; the second of them is below the first, which is enough
abbrev swaps : Rule
swaps joint string =
    for_all string λ t. for_all string λ a. for_fitting string a λ b.
    same_maybe (and_then (joint t a) (λ u. joint u b)) (and_then (joint t b) (λ u. joint u a))

swaps_hold : (c l e : Bool) → under swaps (plain c l e) ≡ true
unfolding for_all for_fitting all_below fitting same_maybe and_then joint joint_of_unequal joint_of_numbers number_joint joint_with_string joint_of_timestamps when◌then◌else◌
swaps_hold false false e = refl
swaps_hold false true e = refl
swaps_hold true false false = refl
swaps_hold true true false = refl
swaps_hold true false true = refl
swaps_hold true true true = refl

-- what holds of two types a and b and their joint u, each part as a test
abbrev pub is_signed_or_float : ℕ → Bool
is_signed_or_float t = is_signed t || is_float t

abbrev shows : (ℕ → Bool) → ℕ → ℕ → ℕ → Bool
shows p a b u = beq (p u) (p a || p b)

abbrev pub takes_in : ℕ → ℕ → ℕ → Bool
takes_in a b u = eqb u a && (is_other null b && is_other a b)

abbrev joins : Rule
joins joint string =
    for_all string λ a. for_all string λ b.
    on_some (joint a b) λ u.
    same_maybe (joint u b) (some u) &&
    (fitting string u &&
    (shows is_string_or_timestamp a b u &&
    (shows is_float a b u &&
    (shows is_signed_or_float a b u &&
    (when takes_in a b u then eqb u (several_seen string (u ∷ [])) else true)))))

joins_hold : (c l e : Bool) → under joins (plain c l e) ≡ true
unfolding for_all for_fitting on_some all_below fitting same_maybe several_seen has joint joint_of_unequal joint_of_numbers number_joint joint_with_string joint_of_timestamps when◌then◌else◌
joins_hold false false e = refl
joins_hold false true e = refl
joins_hold true false false = refl
joins_hold true true false = refl
joins_hold true false true = refl
joins_hold true true true = refl

beq_true : (s t : Bool) → beq s t ≡ true → s ≡ t
beq_true true true e = refl
beq_true true false e = absurd (false≢true e)
beq_true false true e = absurd (false≢true e)
beq_true false false e = refl

-- what is known of the joint u of a and b
pub record Joins (word a b u : ℕ) : Type 0 where
  -- u takes b in
  pub absorbs : joint word u b ≡ some u
  pub fits : Fits word u
  -- u is of a family where either type is
  pub texts : is_string_or_timestamp u ≡ (is_string_or_timestamp a || is_string_or_timestamp b)
  pub floats : is_float u ≡ (is_float a || is_float b)
  pub signs : is_signed_or_float u ≡ (is_signed_or_float a || is_signed_or_float b)
  -- a type that takes another in is that of several
  pub several : takes_in a b u ≡ true → u ≡ several_seen (string_type word) (u ∷ [])

module _ (word : ℕ) (off : allow_to_string word ≡ false) where
  abbrev Swap : ℕ → ℕ → ℕ → Type 0
  Swap t a b = and_then (joint word t a) (λ u. joint word u b) ≡ and_then (joint word t b) (λ u. joint word u a)

  swap_below : (t a b : ℕ) → Fits word t → Fits word a → Fits word b → b < a → Swap t a b
  swap_below t a b ft fa fb h =
      let string = string_type word in
      same_maybe_lem _ _ (for_fitting_lem string a _ (for_all_lem string _ (for_all_lem string _ (settled swaps swaps_hold word off) t ft) a fa) b h fb)

  -- two types that meet a third may change places
  pub joint_swap : (t a b : ℕ) → Fits word t → Fits word a → Fits word b → Swap t a b
  joint_swap t a b ft fa fb =
      cases (ltb b a)
      (λ e. swap_below t a b ft fa fb (ltb-true b a e))
      (λ e. cases (ltb a b)
      (λ f. sym (swap_below t b a ft fb fa (ltb-true a b f)))
      (λ f.
      let l : a ≤ b = ltb-false b a e in
      let m : b ≤ a = ltb-false a b f in
      let same : a ≡ b = omega arith in
      rw same))

  pub joint_joins : (a b u : ℕ) → Fits word a → Fits word b → joint word a b ≡ some u → Joins word a b u
  joint_joins a b u fa fb e =
      let string = string_type word in
      let all = on_some_lem (joint word a b) _ u (for_all_lem string _ (for_all_lem string _ (settled joins joins_hold word off) a fa) b fb) e in
      both _ _ all λ h₁ r₁. both _ _ r₁ λ h₂ r₂. both _ _ r₂ λ h₃ r₃. both _ _ r₃ λ h₄ r₄. both _ _ r₄ λ h₅ h₆.
      record {
        absorbs = same_maybe_lem _ _ h₁;
        fits = h₂;
        texts = beq_true _ _ h₃;
        floats = beq_true _ _ h₄;
        signs = beq_true _ _ h₅;
        several = λ t. eqb-true _ _ (sym (if_passed true t) ∙ h₆);
      }
