-- A child that is none, and one that is.
use Rattle.std.specs.Prelude.{◌≡◌, true, false, ◌<◌, ℕ, zero, suc, Option, Some, None, IfSome, is_some}
use Rattle.std.proofs.Math.Path.{refl}
use Rattle.std.proofs.Common.{sym, arith, true≢false}
use Rattle.std.proofs.lemmas.Option.{none-some}
use Rattle.search.specs.Child.{child_of}

pub child_none : (n : ℕ) → n ≡ 0 → None ≡ child_of n
unfolding child_of
child_none n e = rw e refl

pub child_some : (n : ℕ) → (n ≡ 0 → ⊥) → Some n ≡ child_of n
unfolding child_of
child_some zero e = absurd (e refl)
child_some (suc n) e = refl

pub none_child : (n : ℕ) → None ≡ child_of n → n ≡ 0
unfolding child_of
none_child zero e = refl
none_child (suc n) e = absurd (none-some (suc n) e)

pub some_child : (n child : ℕ) → Some child ≡ child_of n → (child ≡ n) × (n ≡ 0 → ⊥)
unfolding child_of
some_child zero child e = absurd (none-some child (sym e))
some_child (suc n) child e = (grind arith, grind arith)

-- what a search that answers 0 for none says of a child
pub none_is : (r : ℕ) → 0 ≡ r → None ≡ child_of r
none_is r e = child_none r (sym e)

pub some_is : (child r : ℕ) → (child ≡ 0 → ⊥) → child ≡ r → Some child ≡ child_of r
some_is child r z e = rw (← e) (child_some child z)

-- and it is below a bound that the search keeps to
pub child_below : (r : Option ℕ) (n bound : ℕ) → r ≡ child_of n → n < bound → IfSome r (λ child. child < bound)
unfolding child_of
child_below r zero bound e h = rw e tt
child_below r (suc n) bound e h = rw e h

-- whether there is one
pub is_child : (n : ℕ) → true ≡ is_some (child_of n) → n ≡ 0 → ⊥
unfolding child_of
is_child n e z = true≢false (rw z at e)

pub no_child : (n : ℕ) → false ≡ is_some (child_of n) → n ≡ 0
unfolding child_of
no_child zero e = refl
no_child (suc n) e = absurd (true≢false (sym e))
