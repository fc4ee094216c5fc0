-- `hold_field`: a field that was seen has the name; another is new.
use Rattle.std.proofs.Common.{◌≡◌, ℕ, ◌<◌, List, refl, le_refl, Option, Some, None, IfSome, Ok, sym, ◌∙◌, rules}
use Rattle.text.specs.declared.Name.{Name}
use Rattle.shapes.specs.Steps.{field_code}
use Rattle.places.specs.Layout.{Sound}
use Rattle.search.specs.Child.{child_of}
use Rattle.search.specs.Search.{find_in}
use Rattle.search.specs.laws.Child.{none_child, some_child}
use Rattle.growth.specs.Growth.{found, touched}
use Rattle.growth.specs.laws.Growth.{sound_touched}
use Rattle.opening.specs.Opening.{opening, field_held}
use Rattle.opening.specs.laws.Opening.{known_child}
use Rattle.opening.proofs.hold_field.Goals as goal

module _ (text t : List ℕ) (n place : ℕ) (name : Name) (at : Option ℕ) (is : at ≡ child_of (find_in text place field_code name t)) where
  absent : at ≡ None → find_in text place field_code name t ≡ 0
  absent e = none_child _ (sym e ∙ is)

  module _ (child : ℕ) (v : List ℕ) (s : Sound text t n) (e : at ≡ Some child) (h : v ≡ touched place child t) where
    there : place < n → opening (Ok (Some (found child n))) v ≡ field_held text place name n t
    there b =
        let p = some_child (find_in text place field_code name t) child (sym e ∙ is) in
        known_child text t n place name (record { sound = s; here = b }) child p.0 (λ z. p.1 (sym p.0 ∙ z)) v h

    here : IfSome at (λ c. c < n) → child < n
    here below = rw e at below

    sound : IfSome at (λ c. c < n) → Sound text v n
    sound below = sound_touched text t v n place child h (here below) s

pub new_field-requires-clause-absent : goal.new_field-requires-clause-absent
new_field-requires-clause-absent c = search (absent, rules)

pub invariant_of-places-2 : goal.invariant_of-places-2
invariant_of-places-2 c =
    let f = c.find_field.ensures in
    record { sound = sound _ _ _ _ _ _ f.found _ _ c.args.places.now.sound c.in-Some.is c.touch.ensures f.below }

pub returns : goal.returns
returns c =
    let f = c.find_field.ensures in
    record {
      opened = there _ _ _ _ _ _ f.found _ _ c.args.places.now.sound c.in-Some.is c.touch.ensures c.requires.here;
      still = tt;
      here = here _ _ _ _ _ _ f.found _ _ c.args.places.now.sound c.in-Some.is c.touch.ensures f.below;
      same = record { text = refl; table = refl; grows = le_refl _ };
    }
