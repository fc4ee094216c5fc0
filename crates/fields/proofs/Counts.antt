-- The count of fields over the children as a list.
use Rattle.std.proofs.Common.{◌≡◌, refl, false, ℕ, zero, suc, List, arith, ne_eqb}
use Rattle.std.specs.List.{fold}
use Rattle.places.specs.Reading.{next_child}
use Rattle.places.specs.Children.{children_from}
use Rattle.fields.specs.Fields.{count_with, count_from}

-- it is what is counted from one child to the next
pub same_count : (t : List ℕ) (kind place left count child : ℕ) →
    fold (λ count child. count_with kind t child count) count (children_from t false kind place left child) ≡ count_from t kind place left count child
unfolding children_from count_from
same_count t kind place zero count child = refl
same_count t kind place (suc left) count zero = refl
same_count t kind place (suc left) count (suc n) =
    let some : suc n ≡ 0 → ⊥ = λ e. omega arith in
    rw (children_from, count_from, ne_eqb (suc n) 0 some)
    (same_count t kind place left (count_with kind t (suc n) count) (next_child t false kind place (suc n)))
