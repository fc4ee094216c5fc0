-- Laws of the joint. Where types that meet at a place one after the other give a type, it is the one that the census reads off
-- the set of them.
use Rattle.std.specs.Prelude.{◌≡◌, refl, Bool, true, false, not, ◌&&◌, ◌||◌}
use Rattle.std.proofs.Math.Path.{sym, ap, subst}
use Rattle.std.proofs.Common.{◌∙◌, arith, eqb-true, eq-eqb}
use Rattle.std.proofs.Math.Bool.{or_assoc, or-false}
use Rattle.std.proofs.Math.Option.{Option, some, some-injective}
use mathlib.Core.List.{List, [], ◌∷◌}
use Prim.Native.Nat.{ℕ, ◌≤◌, ◌<◌}
use Rattle.std.proofs.Math.Dec.{eqb}
use Rattle.std.proofs.lemmas.Bool.{not-true}
use Rattle.logic.specs.Test.{when◌then◌else◌}
use Rattle.logic.specs.laws.Test.{cases, if_passed, if_failed}
use Rattle.logic.specs.laws.Flag.{if_either}
use Rattle.logic.specs.All.{All, has}
use Rattle.logic.specs.laws.All.{all_map, all_both, has_none, all_has, has_or}
use Rattle.logic.specs.Maybe.{and_then, OnSome}
use Rattle.logic.specs.laws.Maybe.{then_some, then_agree}
use Rattle.datatype.specs.Codes.{null, int64, uint64, float64, dictionary_utf8}
use Rattle.options.specs.Word.{coerce_numbers, allow_to_string, string_as_large_utf8, string_type}
use Rattle.coerce.specs.Joint.{is_string, is_timestamp, is_number, is_float, is_signed, is_forbidden, yields_to_string, number_joint, joint_of_numbers, joint_with_string, joint_of_timestamps, joint_of_unequal, joint, paired, pairing}
use Rattle.coerce.specs.Census.{is_other, is_string_or_timestamp, several_seen, type_seen, non_null}
use Rattle.coerce.specs.laws.Rules.{Fits, Joins, is_signed_or_float, joint_swap, joint_joins}

-- what becomes of a type that meets others one after the other, and of a place where those were observed
unfoldable pub joined_from : ℕ → ℕ → List ℕ → Option ℕ
joined_from word t [] = some t
joined_from word t (u ∷ us) = and_then (joint word t u) (λ v. joined_from word v us)

abbrev pub joined : ℕ → List ℕ → Option ℕ
joined word = joined_from word null

-- ---- under any options

-- a Null changes nothing
pub joint_null : (word t : ℕ) → joint word t null ≡ some t
unfolding joint when◌then◌else◌
joint_null word t = cases (eqb t null) (λ e. rw (e, eqb-true t null e)) (λ e. rw e)

pub null_joint : (word t : ℕ) → joint word null t ≡ some t
unfolding joint when◌then◌else◌
null_joint word t = refl

-- equal types stay
pub joint_same : (word t : ℕ) → joint word t t ≡ some t
unfolding joint when◌then◌else◌
joint_same word t = cases (eqb t null) (λ e. rw e) (λ e. rw (e, eq-eqb t t refl))

-- and they do not differ
pub pairing_null : (word t : ℕ) → pairing word t null ≡ paired (some t) false
unfolding pairing
pairing_null word t = rw joint_null (cases (eqb t null) (λ e. rw e) (λ e. rw e))

pub null_pairing : (word t : ℕ) → pairing word null t ≡ paired (some t) false
unfolding pairing
null_pairing word t = rw null_joint refl

pub pairing_same : (word t : ℕ) → pairing word t t ≡ paired (some t) false
unfolding pairing
pairing_same word t = rw joint_same (cases (eqb t null) (λ e. rw e) (λ e. rw (e, eq-eqb t t refl)))

-- the joint is one of the two types, a wide number type or the string type
pub joint_among : (P : ℕ → Type 0) (word a b u : ℕ) → P a → P b → P float64 → P int64 → P uint64 → P (string_type word) → joint word a b ≡ some u → P u
unfolding joint joint_of_unequal joint_of_numbers number_joint joint_with_string joint_of_timestamps
joint_among P word a b u pa pb pf pi pu ps e =
    subst (OnSome P) e
    (if_either (OnSome P) (eqb a null) pb
    (if_either (OnSome P) (eqb b null) pa
    (if_either (OnSome P) (eqb a b) pa
    (if_either (OnSome P) (is_number a && is_number b)
    (if_either (OnSome P) (not (coerce_numbers word)) tt
    (if_either (OnSome P) (is_forbidden word a b) tt
    (if_either P (eqb a b) pa (if_either P (is_float a || is_float b) pf (if_either P (is_signed a || is_signed b) pi pu)))))
    (if_either (OnSome P) (is_string a) (if_either (OnSome P) (yields_to_string word b) pa tt)
    (if_either (OnSome P) (is_string b) (if_either (OnSome P) (yields_to_string word a) pb tt)
    (if_either (OnSome P) (is_timestamp a && is_timestamp b) (if_either P (eqb a b) pa ps) tt)))))))

-- the joint of types is a type, and of primitive ones a primitive one
pub joint_below : (n word a b u : ℕ) → dictionary_utf8 ≤ n → a < n → b < n → joint word a b ≡ some u → u < n
joint_below n word a b u h p q e =
    joint_among (λ t. t < n) word a b u p q (omega arith) (omega arith) (omega arith) (if_either (λ t. t < n) (string_as_large_utf8 word) (omega arith) (omega arith)) e

-- the Nulls observed change nothing
pub joined_non_null : (word t : ℕ) (xs : List ℕ) → joined_from word t (non_null xs) ≡ joined_from word t xs
unfolding joined_from non_null and_then when◌then◌else◌
joined_non_null word t [] = refl
joined_non_null word t (x ∷ xs) =
    cases (eqb x null)
    (λ e. rw (e, eqb-true x null e, joint_null word t) (joined_non_null word t xs))
    (λ e. rw e (then_agree (joint word t x) _ _ (λ v p. joined_non_null word v xs)))

-- a type that takes in all that it meets stays
pub joined_absorbed : (word t : ℕ) (xs : List ℕ) → All (λ x. joint word t x ≡ some t) xs → joined_from word t xs ≡ some t
unfolding joined_from and_then
joined_absorbed word t [] h = refl
joined_absorbed word t (x ∷ xs) h = rw h.0 (joined_absorbed word t xs h.1)

-- ---- the census

pub all_non_null : (P : ℕ → Type 0) (codes : List ℕ) → All P codes → All P (non_null codes)
unfolding non_null when◌then◌else◌
all_non_null P [] h = tt
all_non_null P (t ∷ ts) h = cases (eqb t null) (λ e. rw e (all_non_null P ts h.1)) (λ e. rw e (h.0, all_non_null P ts h.1))

pub non_null_all : (codes : List ℕ) → All (λ t. eqb t null ≡ false) (non_null codes)
unfolding non_null when◌then◌else◌
non_null_all [] = tt
non_null_all (t ∷ ts) = cases (eqb t null) (λ e. rw e (non_null_all ts)) (λ e. rw e (e, non_null_all ts))

-- several types are told by three families
pub same_several : (string : ℕ) (xs ys : List ℕ) → has is_string_or_timestamp xs ≡ has is_string_or_timestamp ys → has is_float xs ≡ has is_float ys →
    has is_signed_or_float xs ≡ has is_signed_or_float ys → several_seen string xs ≡ several_seen string ys
unfolding several_seen when◌then◌else◌
same_several string xs ys p q r =
    cases (has is_float ys)
    (λ e. rw (p, q, e))
    (λ e.
    let signed : (zs : List ℕ) → has is_float zs ≡ false →
    has is_signed_or_float zs ≡ has is_signed zs = λ zs d. has_or is_signed is_float zs ∙ ap (λ (b : Bool). has is_signed zs || b) d ∙ or-false
    (has is_signed zs) in
    rw (p, q, e, sym (signed xs (q ∙ e)) ∙ r ∙ signed ys e))

-- ---- with allow_to_string off, of types that fit the options
module _ (word : ℕ) (off : allow_to_string word ≡ false) where
  -- a joint fits too
  pub joined_fits : (t u : ℕ) (xs : List ℕ) → Fits word t → All (Fits word) xs → joined_from word t xs ≡ some u → Fits word u
  unfolding joined_from
  joined_fits t u [] f h e = subst (Fits word) (some-injective t u e) f
  joined_fits t u (x ∷ xs) f h e =
      then_some (joint word t x) (λ v. joined_from word v xs) u e λ v p q.
      joined_fits v u xs (joint_joins word off t x v f h.0 p).fits h.1 q

  -- a type that takes x in still does so after more types
  keeps : (t u x : ℕ) (xs : List ℕ) → Fits word t → Fits word x → All (Fits word) xs → joint word t x ≡ some t → joined_from word t xs ≡ some u → joint word u x ≡ some u
  unfolding joined_from and_then
  keeps t u x [] f g h a e = subst (λ (v : ℕ). joint word v x ≡ some v) (some-injective t u e) a
  keeps t u x (y ∷ ys) f g h a e =
      then_some (joint word t y) (λ v. joined_from word v ys) u e λ v p q.
      let s : joint word v x ≡ some v = sym (rw (a, p) at (joint_swap word off t x y f g h.0)) in
      keeps v u x ys (joint_joins word off t y v f h.0 p).fits g h.1 s q

  -- absorption: what came of all types takes in each of them
  pub joined_absorbs : (t u : ℕ) (xs : List ℕ) → Fits word t → All (Fits word) xs → joined_from word t xs ≡ some u → All (λ x. joint word u x ≡ some u) xs
  unfolding joined_from
  joined_absorbs t u [] f h e = tt
  joined_absorbs t u (x ∷ xs) f h e =
      then_some (joint word t x) (λ v. joined_from word v xs) u e λ v p q.
      let j = joint_joins word off t x v f h.0 p in
      (keeps v u x xs j.fits h.0 h.1 j.absorbs q, joined_absorbs v u xs j.fits h.1 q)

  -- what came of all types is of a family where one of them is
  joined_shows : (p : ℕ → Bool) → ((a b u : ℕ) → Joins word a b u → p u ≡ (p a || p b)) → (t u : ℕ) (xs : List ℕ) → Fits word t → All (Fits word) xs →
      joined_from word t xs ≡ some u → p u ≡ (p t || has p xs)
  unfolding joined_from has
  joined_shows p w t u [] f h e = ap p (sym (some-injective t u e)) ∙ sym (or-false (p t))
  joined_shows p w t u (x ∷ xs) f h e =
      then_some (joint word t x) (λ v. joined_from word v xs) u e λ v q r.
      let j = joint_joins word off t x v f h.0 q in
      joined_shows p w v u xs j.fits h.1 r ∙ ap (λ (b : Bool). b || has p xs) (w t x v j) ∙ or_assoc (p t) (p x) (has p xs)

  -- a type that took another one in is the type of several
  widest : (t u : ℕ) → Fits word t → Fits word u → joint word t u ≡ some t → eqb u null ≡ false → eqb u t ≡ false → t ≡ several_seen (string_type word) (t ∷ [])
  widest t u f g a n d = (joint_joins word off t u t f g a).several (rw (eq-eqb t t refl, n, d))

  -- several types
  joined_several : (s t : ℕ) (ss : List ℕ) → All (Fits word) (s ∷ ss) → All (λ u. eqb u null ≡ false) (s ∷ ss) → joined_from word s ss ≡ some t →
      has (is_other s) ss ≡ true → t ≡ several_seen (string_type word) (s ∷ ss)
  unfolding has
  joined_several s t ss h n e o =
      let f : Fits word t = joined_fits s t ss h.0 h.1 e in
      let shown : (p : ℕ → Bool) → ((a b u : ℕ) → Joins word a b u → p u ≡ (p a || p b)) → has p (t ∷ []) ≡ has p (s ∷ ss) = λ p w. or-false (p t) ∙ joined_shows p w s t ss h.0 h.1 e in
      let wide : t ≡ several_seen (string_type word) (t ∷ []) =
      cases (eqb s t)
      (λ q. all_has (λ u. (joint word t u ≡ some t) × ((eqb u null ≡ false) × Fits word u)) (is_other s) ss
      (all_both _ _ ss (joined_absorbs s t ss h.0 h.1 e) (all_both _ _ ss n.1 h.1)) o
      λ u k d. widest t u f k.1.1 k.0 k.1.0 (rw (eqb-true s t q) at (not-true (eqb u s) d)))
      (λ q. widest t s f h.0 (keeps s t s ss h.0 h.0 h.1 (joint_same word s) e) n.0 q) in
      wide ∙ same_several (string_type word) (t ∷ []) (s ∷ ss)
      (shown is_string_or_timestamp (λ a b u j. j.texts)) (shown is_float (λ a b u j. j.floats)) (shown is_signed_or_float (λ a b u j. j.signs))

  joined_seen_non_null : (t : ℕ) (seen : List ℕ) → All (Fits word) seen → All (λ u. eqb u null ≡ false) seen → joined word seen ≡ some t → t ≡ type_seen word seen
  unfolding joined_from and_then type_seen
  joined_seen_non_null t [] h n e = sym (some-injective null t e)
  joined_seen_non_null t (s ∷ ss) h n e =
      let d : joined_from word s ss ≡ some t = rw (null_joint word s) at e in
      cases (has (is_other s) ss)
      (λ o. joined_several s t ss h n d o ∙ sym (if_passed s o))
      (λ o. some-injective t s (sym d ∙ joined_absorbed word s ss (all_map _ _ ss (λ u q. rw (eqb-true u s q) (joint_same word s)) (has_none (λ u. eqb u s) ss o))) ∙ sym (if_failed _ o))

  -- the type that came of all observed is the one that the census reads off the set
  pub joined_seen : (t : ℕ) (codes : List ℕ) → All (Fits word) codes → joined word codes ≡ some t → t ≡ type_seen word (non_null codes)
  joined_seen t codes h e =
      joined_seen_non_null t (non_null codes) (all_non_null (Fits word) codes h) (non_null_all codes) (joined_non_null word null codes ∙ e)
