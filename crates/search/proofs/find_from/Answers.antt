-- `find_from` passes a few places at a time.
use borrow.Author.Rules.{rules}
use mathlib.Core.Path.{◌≡◌, refl, sym, ap, ◌∙◌}
use mathlib.Core.Bool.{Bool, true, false}
use mathlib.Core.List.{List}
use Prim.Native.Nat.{ℕ, ◌+◌, ◌<◌}
use Rattle.std.specs.Prelude.{Option, None, IfSome, is_some}
use Rattle.text.specs.declared.Name.{Name}
use Rattle.words.specs.Word.{word}
use Rattle.shapes.specs.Steps.{field_code}
use Rattle.places.specs.Layout.{last_word, Ready}
use Rattle.places.specs.laws.Layout.{first_below}
use Rattle.search.specs.Child.{child_of}
use Rattle.search.specs.Search.{find_in}
use Rattle.search.specs.Scan.{few_places, field_among, Passed}
use Rattle.search.specs.laws.Child.{none_is, child_below, is_child, no_child}
use Rattle.search.specs.laws.Search.{find_below}
use Rattle.search.specs.laws.Scan.{passed_among, found_among, passed_all}
use Rattle.search.proofs.find_from.Goals as goal

module _ (text t : List ℕ) (n place : ℕ) (name : Name) (here : ℕ) (ready : Ready text t n place) (p : Passed text t n place name here) where
  ended : (last : ℕ) → last ≡ word t place last_word → last < here → None ≡ child_of (find_in text place field_code name t)
  ended last e l = none_is _ (passed_all text t n place name ready.sound here p last e l)

  module _ (r : Option ℕ) (e : r ≡ child_of (field_among text place name t here few_places)) (some : Bool) (is : some ≡ is_some r) where
    found : some ≡ true → r ≡ child_of (find_in text place field_code name t)
    found y = e ∙ ap child_of (found_among text t n place name ready.sound few_places here p (is_child _ (sym y ∙ is ∙ ap is_some e)))

    below : some ≡ true → IfSome r (λ child. child < n)
    below y = child_below r _ n (found y) (find_below text t n field_code name ready.sound _ (first_below text t n place _ ready.sound ready.here refl))

    onward : some ≡ false → Passed text t n place name (here + few_places)
    onward y = passed_among text t n place name ready.sound few_places here p (no_child _ (sym y ∙ is ∙ ap is_some e))

pub returns-then-is_some-clause-found : goal.returns-then-is_some-clause-found
returns-then-is_some-clause-found c = search (found, rules)

pub returns-then-is_some-clause-below : goal.returns-then-is_some-clause-below
returns-then-is_some-clause-below c = below _ _ _ _ _ _ c.requires.ready.0 c.loop-here.invariant.0 _ c.find_among-found.ensures _ c.is_some.ensures c.if-is_some.true

pub loop-here-preserved : goal.loop-here-preserved
loop-here-preserved c = (search (onward, rules), search rules, search rules)

pub returns-clause-found : goal.returns-clause-found
returns-clause-found c = search (ended, rules)
