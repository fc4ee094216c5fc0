-- The ways through the second walk: what the definitions give where the code's tests came out so.
use Rattle.std.proofs.Math.Dec.{eqb-suc-zero}
use Rattle.std.proofs.Math.Bool.{or-true}
use mathlib.Core.Path.{◌≡◌, refl}
use mathlib.Core.Bool.{Bool, true, false, not}
use mathlib.Core.List.{List, [], ◌∷◌}
use Prim.Native.Nat.{ℕ, zero, suc, ◌-◌, ◌≤◌}
use native.Mathlib.Omega.{arith}
use lib.Dec.{eqb}
use Rattle.logic.specs.Test.{when◌then◌else◌}
use Rattle.words.specs.Word.{word}
use Rattle.model.specs.Kinds.{is_container}
use Rattle.places.specs.Layout.{kind_word}
use Rattle.places.specs.Reading.{next_child}
use Rattle.places.specs.Children.{children_from}
use Rattle.walk.specs.Walk.{slot_behind}
use Rattle.putting.specs.Put.{Writing}
use Rattle.fields.specs.Fields.{nullable_at, is_leaf}
use Rattle.schema.specs.Emit.{Writer, field_at, child_in, fields_from, fields_below, emitted_by, emitted_at}

-- ---- over the children as a list
abbrev pub fields_over : List ℕ → Writer → ℕ → ℕ → ℕ → List ℕ → Writing → Writing
fields_over t inner kind place slot [] w = w
fields_over t inner kind place slot (child ∷ more) w =
    fields_over t inner kind place (slot_behind t child) more (child_in t inner kind place slot child w)

-- it is what is written from one child to the next
module _ (t : List ℕ) (inner : Writer) (kind place : ℕ) where
  pub same_fields : (left slot child : ℕ) (w : Writing) →
      fields_over t inner kind place slot (children_from t true kind place left child) w ≡ fields_from t inner kind place left slot child w
  unfolding children_from fields_from
  same_fields zero slot child w = refl
  same_fields (suc left) slot zero w = refl
  same_fields (suc left) slot (suc m) w =
      rw (children_from, fields_from, eqb-suc-zero m)
      (same_fields left (slot_behind t (suc m)) (next_child t true kind place (suc m)) (child_in t inner kind place slot (suc m) w))

-- ---- a place, by whether anything is emitted below it
module _ (options : ℕ) (t : List ℕ) (place : ℕ) (is : Bool) where
  pub some_level : (levels : ℕ) → is ≡ is_leaf options t (eqb levels 0) place → is ≡ false → 1 ≤ levels
  unfolding is_leaf
  some_level zero e f = grind (arith, or-true (not (is_container (word t place kind_word))))
  some_level (suc m) e f = omega arith

  module _ (text : List ℕ) (lacking : Bool) (nullable number : ℕ) (own w : Writing) (n : nullable ≡ nullable_at t place lacking)
      (o : own ≡ field_at options text t place nullable number w) where
    pub leaf : (levels : ℕ) → is ≡ is_leaf options t (eqb levels 0) place → is ≡ true → own ≡ emitted_at options text t levels place lacking number w
    unfolding emitted_at emitted_by when◌then◌else◌
    leaf zero e p = grind arith
    leaf (suc m) e p = grind (arith, eqb-suc-zero m)

    pub opened : (levels kind : ℕ) (after : Writing) → is ≡ is_leaf options t (eqb levels 0) place → is ≡ false → kind ≡ word t place kind_word →
        after ≡ fields_below t (emitted_at options text t (levels - 1)) kind place own → after ≡ emitted_at options text t levels place lacking number w
    unfolding emitted_at emitted_by when◌then◌else◌
    opened zero kind after e p k a = absurd (omega (arith, some_level zero e p))
    opened (suc m) kind after e p k a = grind (arith, eqb-suc-zero m)
