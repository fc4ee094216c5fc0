-- What depends on the set of types seen alone, as document 01 says it: the type that the census reads off them; and, with allow_to_string
-- off and in either edition, the joint of them, which is there in any order or in none; and that in edition 2 types that have a joint are
-- never both integers and floats. No proof cites `joined_same`.
use Rattle.std.specs.Prelude.{◌≡◌, refl, true, false, ◌&&◌, ◌||◌, eqb, leb}
use Rattle.std.proofs.Math.Path.{sym, ap}
use Rattle.std.proofs.Common.{◌∙◌, arith, eqb-true, eq-eqb, ne_eqb, leb-true, le-leb}
use Rattle.std.proofs.Math.Bool.{Bool, not, or-true, and-false}
use Rattle.std.proofs.lemmas.Bool.{false≢true, not-false}
use Rattle.std.proofs.Math.Option.{Option, none, some, none-ne-some}
use mathlib.Core.List.{List, [], ◌∷◌}
use Prim.Native.Nat.{ℕ, ◌≤◌}
use Rattle.logic.specs.Test.{when◌then◌else◌}
use Rattle.logic.specs.laws.Test.{both, cases, neither}
use Rattle.logic.specs.laws.Flag.{if_either}
use Rattle.logic.specs.All.{All, has}
use Rattle.logic.specs.laws.All.{all_map, all_both, has_none, none_has, all_has}
use Rattle.logic.specs.Maybe.{and_then, same_maybe}
use Rattle.logic.specs.laws.Maybe.{then_some, then_agree, then_is, then_then, same_maybe_lem, maybe_same, same_answers}
use Rattle.datatype.specs.Codes.{null, int8, uint64, float32, float64}
use Rattle.options.specs.Word.{coerce_numbers, allow_to_string, edition2, string_type}
use Rattle.coerce.specs.Joint.{is_integer, is_float, joint_of_numbers, joint_of_unequal, joint}
use Rattle.coerce.specs.Census.{is_other, is_string_or_timestamp, type_seen, non_null}
use Rattle.coerce.specs.laws.Rules.{Fits, is_signed_or_float, null_fits, joint_swap, joint_joins}
use Rattle.coerce.specs.laws.Joined.{joined_from, joined, null_joint, joined_absorbed, same_several, joined_fits, joined_absorbs, joined_seen}

-- Lists hold the same if no test tells them apart.
abbrev pub Same : List ℕ → List ℕ → Type 0
Same xs ys = (p : ℕ → Bool) → has p xs ≡ has p ys

one_seen : (x y : ℕ) (xs ys : List ℕ) → Same (x ∷ xs) (y ∷ ys) → has (is_other x) xs ≡ false → (x ≡ y) × (has (is_other y) ys ≡ false)
unfolding has
one_seen x y xs ys s e =
    let first : (is_other x x || has (is_other x) xs) ≡ false = rw (eq-eqb x x refl) e in
    neither (is_other x y) (has (is_other x) ys) (sym (s (is_other x)) ∙ first) λ here rest.
    let same : y ≡ x = eqb-true y x (not-false (eqb y x) here) in
    (sym same, rw same rest)

pub type_seen_same : (word : ℕ) (xs ys : List ℕ) → Same xs ys → type_seen word xs ≡ type_seen word ys
unfolding type_seen has when◌then◌else◌
type_seen_same word [] [] s = refl
type_seen_same word [] (y ∷ ys) s = absurd (false≢true (s (λ t. true)))
type_seen_same word (x ∷ xs) [] s = absurd (false≢true (sym (s (λ t. true))))
type_seen_same word (x ∷ xs) (y ∷ ys) s =
    cases (has (is_other x) xs)
    (λ e. cases (has (is_other y) ys)
    (λ f. rw (e, f) (same_several (string_type word) (x ∷ xs) (y ∷ ys) (s is_string_or_timestamp) (s is_float) (s is_signed_or_float)))
    (λ f. absurd (false≢true (sym (one_seen y x ys xs (λ p. sym (s p)) f).1 ∙ e))))
    (λ e. let one = one_seen x y xs ys s e in rw (e, one.1) one.0)

-- Nulls aside they hold the same too
has_non_null : (p : ℕ → Bool) (ts : List ℕ) → has p (non_null ts) ≡ has (λ t. is_other null t && p t) ts
unfolding non_null has when◌then◌else◌
has_non_null p [] = refl
has_non_null p (t ∷ ts) = cases (eqb t null) (λ e. rw e (has_non_null p ts)) (λ e. rw (e, has_non_null p ts))

same_non_null : (xs ys : List ℕ) → Same xs ys → Same (non_null xs) (non_null ys)
same_non_null xs ys s p = has_non_null p xs ∙ s (λ t. is_other null t && p t) ∙ sym (has_non_null p ys)

-- in edition 2 a float and an integer have no joint
apart : (word : ℕ) → edition2 word ≡ true → (a b : ℕ) → is_float a ≡ true → is_integer b ≡ true → joint word a b ≡ none
unfolding joint joint_of_unequal joint_of_numbers when◌then◌else◌
apart word second a b f i =
    both (leb float32 a) (leb a float64) f λ above below.
    both (leb int8 b) (leb b uint64) i λ low high.
    let a_low : float32 ≤ a = leb-true float32 a above in
    let b_low : int8 ≤ b = leb-true int8 b low in
    let b_high : b ≤ uint64 = leb-true b uint64 high in
    simp (
      ne_eqb a null (λ e. omega arith),
      ne_eqb b null (λ e. omega arith),
      ne_eqb a b (λ e. omega arith),
      le-leb int8 a (omega arith),
      le-leb b float64 (omega arith),
      second,
      above,
      below,
      low,
      high,
      or-true,
    ) (if_either (λ (o : Option ℕ). o ≡ none) (not (coerce_numbers word)) refl refl)

-- ---- with allow_to_string off, of types that fit the options
module _ (word : ℕ) (off : allow_to_string word ≡ false) where
  -- a type met first may as well be met last
  met_last : (t x : ℕ) (xs : List ℕ) → Fits word t → Fits word x → All (Fits word) xs →
      and_then (joint word t x) (λ u. joined_from word u xs) ≡ and_then (joined_from word t xs) (λ u. joint word u x)
  unfolding joined_from and_then
  met_last t x [] f g h = then_is (joint word t x)
  met_last t x (y ∷ ys) f g h =
      sym (then_then (joint word t x) (λ u. joint word u y) (λ v. joined_from word v ys))
      ∙ ap (λ (o : Option ℕ). and_then o (λ v. joined_from word v ys)) (joint_swap word off t x y f g h.0)
      ∙ then_then (joint word t y) (λ u. joint word u x) (λ v. joined_from word v ys)
      ∙ then_agree (joint word t y) _ _ (λ v p. met_last v x ys (joint_joins word off t y v f h.0 p).fits g h.1)
      ∙ sym (then_then (joint word t y) (λ v. joined_from word v ys) (λ u. joint word u x))

  -- what came of types takes in all of any others that hold the same, which so have a joint, and by the census the same one
  joined_as : (xs ys : List ℕ) → All (Fits word) xs → All (Fits word) ys → Same xs ys → (t : ℕ) → joined word xs ≡ some t → joined word ys ≡ some t
  unfolding and_then
  joined_as xs ys f g s t e =
      let takes : ℕ → Bool = λ x. same_maybe (joint word t x) (some t) in
      let all = all_map _ _ ys (λ x p. same_maybe_lem (joint word t x) (some t) p)
      (has_none takes ys (sym (s (λ x. not (takes x))) ∙ none_has takes xs (all_map _ _ xs (λ x p. maybe_same _ _ p) (joined_absorbs word off null t xs (null_fits word) f e)))) in
      let first : joined_from word t ys ≡ some t = joined_absorbed word t ys all in
      let last = rw (null_joint word t) at (met_last null t ys (null_fits word) (joined_fits word off null t xs (null_fits word) f e) g) in
      then_some (joined word ys) (λ u. joint word u t) t (sym last ∙ first) λ u p q.
      p ∙ ap {B = Option ℕ} some (joined_seen word off u ys g p ∙ type_seen_same word _ _ (same_non_null ys xs (λ r. sym (s r))) ∙ sym (joined_seen word off t xs f e))

  -- the joint of types one after the other depends on the set of them alone, and is there in any order or in none
  pub joined_same : (xs ys : List ℕ) → All (Fits word) xs → All (Fits word) ys → Same xs ys → joined word xs ≡ joined word ys
  joined_same xs ys f g s = same_answers (joined word xs) (joined word ys) (joined_as xs ys f g s) (joined_as ys xs g f (λ p. sym (s p)))

  -- in edition 2 types that have a joint are never both integers and floats, so what the census reads off them stays document 01's
  pub never_both : edition2 word ≡ true → (t : ℕ) (codes : List ℕ) → All (Fits word) codes → joined word codes ≡ some t →
      (has is_integer codes && has is_float codes) ≡ false
  never_both second t codes h e =
      let all = all_both _ _ codes h (joined_absorbs word off null t codes (null_fits word) h e) in
      cases (has is_integer codes)
      (λ i. cases (has is_float codes)
      (λ f.
      all_has _ is_integer codes all i λ a absorbs integer.
      all_has _ is_float codes all f λ b takes float.
      let g = (joint_joins word off t b t (joined_fits word off null t codes (null_fits word) h e) takes.0 takes.1).floats in
      let u : is_float t ≡ true = g ∙ rw float (or-true (is_float t)) in
      absurd (none-ne-some t (sym (apart word second t a u integer) ∙ absorbs.1)))
      (λ f. rw f (and-false (has is_integer codes))))
      (λ i. rw i)
