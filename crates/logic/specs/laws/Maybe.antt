-- Laws of answers that may be none.
use Rattle.std.specs.Prelude.{◌≡◌, refl, true, ℕ}
use Rattle.std.proofs.Common.{sym, ap, eqb-true, eq-eqb}
use Rattle.std.proofs.lemmas.Bool.{false≢true}
use Rattle.std.proofs.Math.Option.{Option, none, some, none-ne-some}
use Rattle.logic.specs.Maybe.{and_then, same_maybe}

-- two steps that gave something each gave something
pub then_some : {A B P : Type 0} (o : Option A) (f : A → Option B) (b : B) → and_then o f ≡ some b → ((a : A) → o ≡ some a → f a ≡ some b → P) → P
unfolding and_then
then_some none f b e k = absurd (none-ne-some b e)
then_some (some a) f b e k = k a refl e

-- a second step that changes nothing
pub then_is : {A : Type 0} (o : Option A) → and_then o some ≡ o
unfolding and_then
then_is none = refl
then_is (some a) = refl

-- three steps, however they are taken together
pub then_then : {A B C : Type 0} (o : Option A) (f : A → Option B) (g : B → Option C) → and_then (and_then o f) g ≡ and_then o (λ a. and_then (f a) g)
unfolding and_then
then_then none f g = refl
then_then (some a) f g = refl

-- second steps that agree on what the first gave
pub then_agree : {A B : Type 0} (o : Option A) (f g : A → Option B) → ((a : A) → o ≡ some a → f a ≡ g a) → and_then o f ≡ and_then o g
unfolding and_then
then_agree none f g h = refl
then_agree (some a) f g h = h a refl

pub same_maybe_lem : (x y : Option ℕ) → same_maybe x y ≡ true → x ≡ y
unfolding same_maybe
same_maybe_lem none none e = refl
same_maybe_lem none (some b) e = absurd (false≢true e)
same_maybe_lem (some a) none e = absurd (false≢true e)
same_maybe_lem (some a) (some b) e = ap {B = Option ℕ} some (eqb-true a b e)

pub maybe_same : (x y : Option ℕ) → x ≡ y → same_maybe x y ≡ true
unfolding same_maybe
maybe_same none y e = rw (← e)
maybe_same (some a) y e = rw (← e) (eq-eqb a a refl)

-- each gives what the other gives
pub same_answers : {A : Type 0} (x y : Option A) → ((a : A) → x ≡ some a → y ≡ some a) → ((a : A) → y ≡ some a → x ≡ some a) → x ≡ y
same_answers (some a) y f g = sym (f a refl)
same_answers none none f g = refl
same_answers none (some a) f g = g a refl
