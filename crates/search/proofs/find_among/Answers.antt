-- `find_among`: none where none has the tag; else from each place on it finds what it finds from the first on.
use borrow.Author.Rules.{rules}
use borrow.Author.Tests.{not-true}
use mathlib.Core.Path.{◌≡◌, sym, ◌∙◌}
use mathlib.Core.Bool.{Bool, true, false, not}
use mathlib.Core.List.{List}
use Rattle.std.specs.Prelude.{Some, None}
use Prim.Native.Nat.{ℕ, suc, ◌+◌, ◌-◌, ◌<◌, ◌≤◌}
use native.Mathlib.Omega.{arith}
use Rattle.logic.specs.Test.{when◌then◌else◌}
use Rattle.text.specs.declared.Name.{Name}
use Rattle.text.specs.Name.{bytes_of}
use Rattle.text.specs.Tag.{tag_of}
use Rattle.words.specs.Word.{has_among}
use Rattle.words.specs.laws.Word.{has_none}
use Rattle.places.specs.Layout.{tag_word, Ready}
use Rattle.search.specs.Child.{child_of}
use Rattle.search.specs.Scan.{few_places, is_field, field_among}
use Rattle.search.specs.laws.Child.{none_is, some_is}
use Rattle.search.specs.laws.Scan.{none_among, field_known}
use Rattle.search.proofs.find_among.Goals as goal

module _ (text t : List ℕ) (n place : ℕ) (ready : Ready text t n place) where
  none : (name : Name) (tag from : ℕ) (some : Bool) → tag ≡ tag_of (bytes_of text name) → some ≡ has_among t from few_places tag_word tag → not some ≡ true →
      None ≡ child_of (field_among text place name t from few_places)
  none name tag from some e has f =
      none_is _ (none_among text t n place name ready.sound tag e few_places from (has_none t from few_places tag_word tag (rw has at (not-true some f))))

module _ (text t : List ℕ) (place : ℕ) (name : Name) (end child r : ℕ) (whole : field_among text place name t child (end - child) ≡ r) where
  module _ (at : Bool) (at_there : at ≡ is_field text place name child t) (more : child < end) where
    one_more : end - child ≡ suc (end - (child + 1))
    one_more = omega arith

    found : at ≡ true → Some child ≡ child_of r
    unfolding field_among when◌then◌else◌
    found e = some_is child r (field_known text t place name child (sym at_there ∙ e)).known (rw (one_more, ← at_there, e) at whole)

    onward : at ≡ false → field_among text place name t (child + 1) (end - (child + 1)) ≡ r
    unfolding field_among when◌then◌else◌
    onward e = rw (one_more, ← at_there, e) at whole

  ended : end ≤ child → None ≡ child_of r
  unfolding field_among
  ended l = let k : end - child ≡ 0 = omega arith in none_is r (rw k at whole)

pub returns-then-not-has : goal.returns-then-not-has
returns-then-not-has c = search (none, rules)

pub returns-then-is_field : goal.returns-then-is_field
returns-then-is_field c = search (found, rules)

pub loop-number-preserved : goal.loop-number-preserved
loop-number-preserved c = (search (onward, rules), search rules)

pub returns : goal.returns
returns c = search (ended, rules)
