-- `find_linked`: from each child on the search gives what the whole gives.
use borrow.Author.Rules.{rules}
use mathlib.Core.Path.{◌≡◌, ◌∙◌}
use mathlib.Core.Bool.{Bool, true, false}
use mathlib.Core.List.{List}
use Rattle.std.specs.Prelude.{Some, None}
use Prim.Native.Nat.{ℕ, ◌<◌}
use Rattle.words.specs.Word.{word}
use Rattle.text.specs.declared.Name.{Name}
use Rattle.shapes.specs.Steps.{field_code}
use Rattle.places.specs.Layout.{first_word, next_word, Ready}
use Rattle.search.specs.Child.{child_of}
use Rattle.search.specs.laws.Child.{none_is, some_is}
use Rattle.search.specs.Search.{find_from}
use Rattle.search.specs.Scan.{is_field}
use Rattle.places.specs.laws.Layout.{first_below, next_below}
use Rattle.search.specs.laws.Search.{children_left, left_falls, find_first, find_none, find_found, find_next}
use Rattle.search.specs.laws.Scan.{child_field}
use Rattle.search.proofs.find_linked.Goals as goal
use Rattle.search.proofs.find_linked.Invariants.{Child}

module _ (text t : List ℕ) (n place : ℕ) (ready : Ready text t n place) where
  first_child : (x : ℕ) → x ≡ word t place first_word → Child t place x
  first_child x e = rw e (ready.sound.siblings.first place)

  module _ (link : ℕ) (h : link < n) (known : link ≡ 0 → ⊥) (own : Child t place link) (child : ℕ) (same : child ≡ link) where
    next_child_lem : (x : ℕ) → x ≡ word t child next_word → Child t place x
    next_child_lem x e = rw (e, same) (λ z. ready.sound.siblings.next link z ∙ own known)

    next_falls : (x : ℕ) → x ≡ word t child next_word → children_left x < children_left link
    next_falls x e = left_falls text t n link x ready.sound h known (rw same at e)

    next_within : (x : ℕ) → x ≡ word t child next_word → x < n
    next_within x e = next_below text t n link x ready.sound h (rw same at e)

    module _ (name : Name) (r : ℕ) (at : Bool) (whole : find_from text field_code name t link ≡ r) (at_there : at ≡ is_field text place name child t) where
      here : at ≡ true → Some child ≡ child_of r
      here e =
          let there : at ≡ is_field text place name link t = rw same at at_there in
          rw same (some_is link r known (find_found text t n field_code name ready.sound link r h whole at known (there ∙ child_field text t place name link known (own known)) e))

      onward : (x : ℕ) → at ≡ false → x ≡ word t child next_word → find_from text field_code name t x ≡ r
      onward x e f =
          let there : at ≡ is_field text place name link t = rw same at at_there in
          find_next text t n field_code name ready.sound link r h whole at known (there ∙ child_field text t place name link known (own known)) x e (rw same at f)

  none : (name : Name) (child r : ℕ) → child < n → find_from text field_code name t child ≡ r → child ≡ 0 → None ≡ child_of r
  none name child r h whole z = none_is r (find_none text t n field_code name ready.sound child r h whole z)

pub loop-link-init : goal.loop-link-init
loop-link-init c = (search (find_first, rules), search (first_below, rules), search (first_child, rules))

pub returns-then-is_field-clause-found : goal.returns-then-is_field-clause-found
returns-then-is_field-clause-found c = search (here, rules)

pub loop-link-smaller : goal.loop-link-smaller
loop-link-smaller c = search (next_falls, rules)

pub loop-link-preserved : goal.loop-link-preserved
loop-link-preserved c = (search (onward, rules), search (next_within, rules), search (next_child_lem, rules))

pub returns-clause-found : goal.returns-clause-found
returns-clause-found c = search (none, rules)
