-- What the quick way passes is read so, and where it passes nothing all is as it was.
use Rattle.std.specs.Prelude.{◌≡◌, refl, Bool, false, not, List, ℕ, ◌<◌, get_or}
use Rattle.std.proofs.lemmas.Bool.{not-true}
use Rattle.logic.specs.laws.Table.{all_below, below_at}
use Rattle.shapes.specs.Leaf.{leaf_at}
use Rattle.shapes.specs.laws.Leaf.{LeafThere, leaf_inside, leaf_byte}
use Rattle.places.specs.Layout.{Sound, Ready}
use Rattle.leaves.specs.Leaves.{traced_to, out}
use Rattle.leaves.specs.Marks.{chain, is_mark, past_marks}
use Rattle.leaves.specs.Quick.{quick_at}
use Rattle.leaves.specs.laws.Marks.{past_other, observed_sound}
use Rattle.leaves.specs.laws.Quick.{Quick, quick_is}
use Rattle.reading.specs.Reading.{value_at}
use Rattle.reading.specs.laws.Readers.{value_leaf}

-- by going through them: a leaf's command is no mark
unmarked : (byte : ℕ) → byte < 16 → is_mark byte ≡ false
unfolding all_below
unmarked byte h = not-true (is_mark byte) (below_at 16 (λ b. not (is_mark b)) refl byte h)

module _ (commands text : List ℕ) (options at place n : ℕ) (t : List ℕ) where
  no_marks : (is_null : Bool) (kind behind : ℕ) → LeafThere options commands text at is_null kind behind → chain at t ≡ past_marks commands at place t
  no_marks is_null kind behind leaf =
      past_other commands place at t (past_marks commands at place t) refl (leaf_inside options commands text at kind behind is_null leaf)
      (get_or commands at 0) refl (is_mark (get_or commands at 0)) refl (unmarked (get_or commands at 0) (leaf_byte options commands text at kind behind is_null leaf))

  module _ (behind : ℕ) (u : List ℕ) (q : chain behind u ≡ quick_at options commands text at place t) (some : behind ≡ 0 → ⊥) where
    quick : Quick options commands text at place n t behind u
    quick = quick_is options commands text at place n t behind u some q

    pub quick_read : (levels : ℕ) → out (traced_to behind n) u ≡ value_at commands text options levels at place n t
    quick_read levels =
        value_leaf commands text options at place n t at t (no_marks quick.is_null quick.kind behind quick.leaf)
        (leaf_at options commands text at) refl quick.is_null quick.kind behind quick.is levels levels (out (traced_to behind n) u) (quick.seen levels)

    pub quick_sound : Ready text t n place → Sound text u n
    quick_sound ready = (observed_sound text t n place ready options quick.is_null quick.kind 0 at behind (traced_to behind n) u (quick.seen 0)).0
