-- Small laws of results, tests and steps.
use Rattle.std.specs.Prelude.{◌≡◌, refl, Bool, true, false, not, ◌&&◌, ◌||◌, List, [], ◌∷◌, ℕ, zero, suc}
use Rattle.std.proofs.Common.{sym, ap, ◌∙◌, true≢false, arith}
use Rattle.std.proofs.lemmas.Bool.{false≢true}
use Rattle.logic.specs.Test.{when◌then◌else◌}
use Rattle.logic.specs.laws.Test.{same_test}
use Rattle.text.specs.laws.Name.{eq_name_true, eq_name_refl}
use Rattle.model.specs.Result.{Result, accepted, refused, ◌>>=◌}
use Rattle.model.specs.Kinds.{Step, field, element, position, key, value, variant, step_code, same}

-- ---- results
-- what an accepted outcome of two steps tells of the first
pub bind_ok : {A B P : Type 0} (r : Result A) (f : A → Result B) (b : B) → (r >>= f) ≡ accepted b → ((a : A) → r ≡ accepted a → f a ≡ accepted b → P) → P
bind_ok (accepted a) f b e k = k a refl e
bind_ok (refused n at) f b e k = absurd (let z : ◌≡◌ {A = ℕ} 0 1 = cc in omega arith)

pub bind_bind : {A B C : Type 0} (r : Result A) (f : A → Result B) (g : B → Result C) (h : A → Result C) → ((a : A) → h a ≡ (f a >>= g)) → (r >>= h) ≡ ((r >>= f) >>= g)
bind_bind (accepted a) f g h e = e a
bind_bind (refused n at) f g h e = refl

pub not_refused : {A P : Type 0} {n at : ℕ} {a : A} → refused n at ≡ accepted a → P
not_refused e = absurd (let z : ◌≡◌ {A = ℕ} 0 1 = cc in omega arith)

-- ---- tests
pub if_ap : {A B : Type 0} (f : A → B) (t : Bool) (a b : A) → f (when t then a else b) ≡ (when t then f a else f b)
unfolding when◌then◌else◌
if_ap f true a b = refl
if_ap f false a b = refl

pub and_left : (s t : Bool) → (s && t) ≡ true → s ≡ true
and_left true t e = refl
and_left false t e = e

pub and_right : (s t : Bool) → (s && t) ≡ true → t ≡ true
and_right true t e = e
and_right false t e = absurd (false≢true e)

pub and_both : {s t : Bool} → s ≡ true → t ≡ true → (s && t) ≡ true
and_both p q = rw (p, q)

pub or_left_false : (s t : Bool) → (s || t) ≡ false → s ≡ false
or_left_false true t e = e
or_left_false false t e = refl

pub or_right_false : (s t : Bool) → (s || t) ≡ false → t ≡ false
or_right_false true t e = absurd (true≢false e)
or_right_false false t e = e

pub or_cases : {P : Type 0} (s t : Bool) → (s || t) ≡ true → (s ≡ true → P) → (t ≡ true → P) → P
or_cases true t e f g = f refl
or_cases false t e f g = g e

pub not_is_true : (t : Bool) → not t ≡ true → t ≡ false
not_is_true true e = absurd (false≢true e)
not_is_true false e = refl

-- ---- a step is its code
abbrev head_or : List ℕ → ℕ
head_or [] = 0
head_or (n ∷ ns) = n

abbrev tail_of : List ℕ → List ℕ
tail_of [] = []
tail_of (n ∷ ns) = ns

abbrev of_tag : ℕ → List ℕ → Step
of_tag zero ns = field ns
of_tag (suc zero) ns = element
of_tag (suc (suc zero)) ns = position (head_or ns)
of_tag (suc (suc (suc zero))) ns = key
of_tag (suc (suc (suc (suc zero)))) ns = value
of_tag (suc (suc (suc (suc (suc n))))) ns = variant (head_or ns) (tail_of ns)

abbrev decoded : List ℕ → Step
decoded ns = of_tag (head_or ns) (tail_of ns)

decoded_code : (s : Step) → decoded (step_code s) ≡ s
decoded_code (field name) = refl
decoded_code element = refl
decoded_code (position i) = refl
decoded_code key = refl
decoded_code value = refl
decoded_code (variant number name) = refl

pub step_injective : (s r : Step) → step_code s ≡ step_code r → s ≡ r
step_injective s r e = sym (decoded_code s) ∙ ap decoded e ∙ decoded_code r

pub same_true : (s r : Step) → same s r ≡ true → s ≡ r
unfolding same
same_true s r e = step_injective s r (eq_name_true (step_code s) (step_code r) e)

pub same_refl : (s : Step) → same s s ≡ true
unfolding same
same_refl s = eq_name_refl (step_code s)

pub same_sym : (s r : Step) → same s r ≡ same r s
same_sym s r = same_test (same s r) (same r s) (λ e. rw (same_true s r e) (same_refl r)) (λ e. rw (same_true r s e) (same_refl s))

-- what holds of both of a choice, or of two choices by one test
pub choice : {A : Type 0} (P : A → Type 0) (t : Bool) {a b : A} → (t ≡ true → P a) → (t ≡ false → P b) → P (when t then a else b)
unfolding when◌then◌else◌
choice P true f g = f refl
choice P false f g = g refl

pub choices : {A : Type 0} (R : A → A → Type 0) (t : Bool) {a b c d : A} → R a c → R b d → R (when t then a else b) (when t then c else d)
unfolding when◌then◌else◌
choices R true p q = p
choices R false p q = q
