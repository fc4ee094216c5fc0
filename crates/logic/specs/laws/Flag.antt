-- What a flag that holds a test tells of `&&` and `||`, as code tests them one side after the other.
use Rattle.std.specs.Prelude.{◌≡◌, Bool, true, false, ◌&&◌, ◌||◌}
use Rattle.std.proofs.Common.{sym, ◌∙◌}
use Rattle.logic.specs.Test.{when◌then◌else◌}

-- a test, by the flag that holds it
pub flagged : (flag test outcome : Bool) → flag ≡ test → flag ≡ outcome → test ≡ outcome
flagged flag test outcome e p = sym e ∙ p

pub and_passed : (s t r : Bool) → s ≡ true → r ≡ t → r ≡ (s && t)
and_passed s t r p e = rw p e

pub and_failed : (s t r : Bool) → r ≡ s → s ≡ false → r ≡ (s && t)
and_failed s t r e p = rw p (e ∙ p)

pub or_passed : (s t r : Bool) → r ≡ s → s ≡ true → r ≡ (s || t)
or_passed s t r e p = rw p (e ∙ p)

pub or_failed : (s t r : Bool) → s ≡ false → r ≡ t → r ≡ (s || t)
or_failed s t r p e = rw p e

-- what holds of both choices holds of the one taken
pub if_either : {A : Type 0} (P : A → Type 0) (t : Bool) {a b : A} → P a → P b → P (when t then a else b)
unfolding when◌then◌else◌
if_either P true pa pb = pa
if_either P false pa pb = pb
