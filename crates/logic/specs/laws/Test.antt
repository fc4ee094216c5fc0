-- Laws of tests: the choice by a test, and what a test tells.
use Rattle.std.specs.Prelude.{◌≡◌, refl, Bool, true, false, ◌&&◌, ◌||◌}
use Rattle.std.proofs.Common.{sym, ap, ◌∙◌, true≢false}
use Rattle.std.proofs.lemmas.Bool.{false≢true}
use Rattle.logic.specs.Test.{when◌then◌else◌}

-- what a choice gives where its test passed, or failed
pub if_passed : {A : Type 0} {t : Bool} {a : A} (b : A) → t ≡ true → (when t then a else b) ≡ a
unfolding when◌then◌else◌
if_passed b e = rw e

pub if_failed : {A : Type 0} {t : Bool} (a : A) {b : A} → t ≡ false → (when t then a else b) ≡ b
unfolding when◌then◌else◌
if_failed a e = rw e

pub ruleset choice = (if_passed, if_failed)

-- the same from a flag that holds the test
pub chosen : {A : Type 0} (flag test : Bool) (a b : A) → flag ≡ test → flag ≡ true → a ≡ (when test then a else b)
chosen flag test a b e p = sym (if_passed b (sym e ∙ p))

pub other : {A : Type 0} (flag test : Bool) (a b : A) → flag ≡ test → flag ≡ false → b ≡ (when test then a else b)
other flag test a b e p = sym (if_failed a (sym e ∙ p))

-- case analysis on a test, with its outcome at hand
pub cases : {P : Type 0} (t : Bool) → (t ≡ true → P) → (t ≡ false → P) → P
cases true f g = f refl
cases false f g = g refl

pub both : {P : Type 0} (s t : Bool) → (s && t) ≡ true → (s ≡ true → t ≡ true → P) → P
both true t e k = k refl e
both false t e k = absurd (false≢true e)

pub neither : {P : Type 0} (s t : Bool) → (s || t) ≡ false → (s ≡ false → t ≡ false → P) → P
neither true t e k = absurd (true≢false e)
neither false t e k = k refl e

-- two tests that imply one another are one
pub same_test : (s t : Bool) → (s ≡ true → t ≡ true) → (t ≡ true → s ≡ true) → s ≡ t
same_test true t f g = sym (f refl)
same_test false true f g = g refl
same_test false false f g = refl

-- what a function gives at a value that is known to be another
pub told : {A B : Type 0} (f : A → B) (x y : A) (b : B) → x ≡ y → b ≡ f y → b ≡ f x
told f x y b e p = p ∙ ap f (sym e)
