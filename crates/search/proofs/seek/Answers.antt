-- `seek`: from each link on the search gives what the whole gives.
use borrow.Author.Rules.{rules}
use mathlib.Core.Path.{◌≡◌, refl, sym, ◌∙◌}
use mathlib.Core.List.{List}
use Prim.Native.Nat.{ℕ, ◌-◌, ◌/◌, ◌<◌, ◌≤◌}
use Rattle.std.specs.Prelude.{Option, Some, None}
use Rattle.words.specs.Word.{word}
use Rattle.model.specs.Tracing.{place_limit}
use Rattle.places.specs.Layout.{step_word}
use Rattle.search.specs.Child.{child_of}
use Rattle.search.specs.Tree.{Slot, follow, seeking, seek_from, side_word}
use Rattle.search.specs.laws.Child.{child_none, child_some, none_child, some_child}
use Rattle.search.specs.laws.Tree.{leads_below, ahead_falls, seek_none, seek_found, seek_next}
use Rattle.search.proofs.seek.Goals as goal

-- the answer's parts, where it is that link
abbrev Ends : Option ℕ → ℕ → ℕ → Slot → Type 0
Ends child place field r = (child ≡ child_of r.child) × (place ≡ r.place) × (field ≡ r.field)

-- the link leads to a child, or to none
module _ (code n : ℕ) (t : List ℕ) (bits place field : ℕ) (next : Option ℕ) (leads : next ≡ child_of (follow place field n t)) where
  module _ (child : ℕ) (is : next ≡ Some child) where
    led : (child ≡ follow place field n t) × (child ≡ 0 → ⊥)
    led = let p = some_child (follow place field n t) child (sym is ∙ leads) in (p.0, λ z. p.1 (sym p.0 ∙ z))

    below : child < n
    below = leads_below place field n child t led.0 led.1

    falls : n - child < n - place
    falls = ahead_falls place field n child t led.0 led.1

  module _ (r : Slot) (most : n ≤ place_limit) (here : place < n) (whole : seek_from code n t (seeking bits place field) ≡ r) where
    none : next ≡ None → Ends None place field r
    none is =
        let z : follow place field n t ≡ 0 = none_child _ (sym is ∙ leads) in
        rw (← seek_none code n t bits place field 0 r most here (sym z) whole refl) (child_none 0 refl, refl, refl)

    module _ (child : ℕ) (is : next ≡ Some child) (step : ℕ) (at : step ≡ word t child step_word) where
      found : step ≡ code → Ends (Some child) place field r
      found e =
          let p = led child is in
          rw (← seek_found code n t bits place field child r most here p.0 whole p.1 step at e) (child_some child p.1, refl, refl)

      onward : (side : ℕ) → (step ≡ code → ⊥) → side ≡ side_word bits → seek_from code n t (seeking (bits / 2) child side) ≡ r
      onward = let p = led child is in seek_next code n t bits place field child r most here p.0 whole p.1 step at

pub returns-then-get-code : goal.returns-then-get-code
returns-then-get-code c =
    let i = c.loop-next.invariant in
    found _ _ _ _ _ _ _ i.1 _ c.requires.within i.2 i.0 _ c.in-Some.is _ c.get.ensures c.if-get-code.true

pub loop-next-smaller : goal.loop-next-smaller
loop-next-smaller c = search (falls, rules)

pub loop-next-preserved : goal.loop-next-preserved
loop-next-preserved c = (search (onward, rules), search rules, search (below, rules))

pub returns : goal.returns
returns c = let i = c.loop-next.invariant in none _ _ _ _ _ _ _ i.1 _ c.requires.within i.2 i.0 (search rules)
