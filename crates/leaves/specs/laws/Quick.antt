-- Laws of the quick way: what each of its answers is, and that what it passes is observed so.
use Rattle.std.specs.Prelude.{◌≡◌, Bool, ◌&&◌, List, ℕ, ◌+◌, ◌<◌, ltb, Option, Some, None, Ok}
use Rattle.std.proofs.Math.Path.{refl}
use Rattle.std.proofs.Common.{sym, ap, ◌∙◌, arith}
use Rattle.std.proofs.Math.Bool.{true, false}
use borrow.Author.Tests.{eqb-true, eq-eqb, ne_eqb, ltb-true}
use Rattle.std.proofs.Math.Dec.{eqb}
use Rattle.std.proofs.Math.ListN.{length, get_or}
use Rattle.logic.specs.Test.{when◌then◌else◌}
use Rattle.logic.specs.laws.Test.{cases, both}
use Rattle.datatype.specs.Codes.{null}
use Rattle.coerce.specs.laws.Joined.{pairing_null}
use Rattle.words.specs.Word.{word}
use Rattle.words.specs.laws.Word.{with_word_lem}
use Rattle.model.specs.Kinds.{is_container}
use Rattle.shapes.specs.declared.Leaf.{Leaf}
use Rattle.shapes.specs.Leaf.{is_own_byte, leaf_at, leaf_of}
use Rattle.shapes.specs.laws.Leaf.{LeafThere, leaf_there, leaf_above, leaf_untyped, own_leaf}
use Rattle.kinds.specs.Meeting.{met, meeting}
use Rattle.places.specs.Layout.{kind_word}
use Rattle.places.specs.Nullable.{with_null}
use Rattle.leaves.specs.Marks.{chain}
use Rattle.leaves.specs.Leaves.{traced_to, out, stored, observed}
use Rattle.leaves.specs.laws.Leaves.{observe_kind, observed_again}
use Rattle.leaves.specs.Quick.{same_at, quick_leaf, quick_at}

-- ---- the answers
pub same_fits : (commands : List ℕ) (at place : ℕ) (t : List ℕ) (same : Bool) (most : ℕ) → same ≡ same_at commands at place t → same ≡ true → length commands < most → at + 1 < most
unfolding same_at
same_fits commands at place t same most s e h =
    both (ltb at (length commands) && eqb (get_or commands at 0) (word t place kind_word)) (is_own_byte (word t place kind_word)) (sym s ∙ e) λ p own.
    both (ltb at (length commands)) (eqb (get_or commands at 0) (word t place kind_word)) p λ l b.
    let there : at < length commands = ltb-true at (length commands) l in omega arith

module _ (options : ℕ) (commands text : List ℕ) (at place : ℕ) (t : List ℕ) where
  pub quick_same : (same : Bool) → same ≡ same_at commands at place t → same ≡ true → chain (at + 1) t ≡ quick_at options commands text at place t
  unfolding same_at quick_at when◌then◌else◌
  quick_same same s e =
      both (ltb at (length commands) && eqb (get_or commands at 0) (word t place kind_word)) (is_own_byte (word t place kind_word)) (sym s ∙ e) λ p own.
      both (ltb at (length commands)) (eqb (get_or commands at 0) (word t place kind_word)) p λ l b.
      let is : get_or commands at 0 ≡ word t place kind_word = eqb-true (get_or commands at 0) (word t place kind_word) b in
      let there : at < length commands = ltb-true at (length commands) l in
      rw (← own_leaf options commands text at there (rw is own), eq-eqb (word t place kind_word) (get_or commands at 0) (sym is)) refl

  module _ (leaf : Option Leaf) (l : leaf ≡ leaf_at options commands text at) where
    pub quick_other : leaf ≡ None → chain 0 t ≡ quick_at options commands text at place t
    unfolding quick_at
    quick_other e = rw (← l, e) refl

    module _ (is_null : Bool) (kind behind : ℕ) (v : leaf ≡ leaf_of is_null kind behind) where
      pub quick_null : (u : List ℕ) → is_null ≡ true → u ≡ with_null place t → chain behind u ≡ quick_at options commands text at place t
      unfolding quick_at when◌then◌else◌
      quick_null u e d = rw (← l, v, e, d) refl

      module _ (before : ℕ) (b : before ≡ word t place kind_word) (e : is_null ≡ false) where
        pub quick_known : before ≡ kind → chain behind t ≡ quick_at options commands text at place t
        unfolding quick_at when◌then◌else◌
        quick_known k = rw (← l, v, e, ← b, eq-eqb before kind k) refl

        pub quick_changes : (before ≡ kind → ⊥) → chain 0 t ≡ quick_at options commands text at place t
        unfolding quick_at when◌then◌else◌
        quick_changes k = rw (← l, v, e, ← b, ne_eqb before kind k) refl

-- ---- a null meets what is there, and leaves it so
meets_null : (options levels kind : ℕ) → Ok (met kind false) ≡ meeting options levels kind null
unfolding meeting when◌then◌else◌
meets_null options levels kind = cases (is_container kind) (λ e. rw e refl) (λ e. rw (e, pairing_null options kind) refl)

observed_null : (options levels here behind place n : ℕ) (t : List ℕ) → out (traced_to behind n) (with_null place t) ≡ observed options true null levels here behind place n t
unfolding stored when◌then◌else◌
observed_null options levels here behind place n t =
    let there = met (word t place kind_word) false in
    observe_kind options levels (word t place kind_word) null place t (Ok there) refl (meets_null options levels (word t place kind_word))
    true here behind n there (with_null place t) refl (sym (ap (with_null place) (with_word_lem t place kind_word)))

-- ---- what is passed is a leaf, and is observed so
pub record Quick (options : ℕ) (commands text : List ℕ) (at place n : ℕ) (t : List ℕ) (behind : ℕ) (u : List ℕ) : Type 0 where
  pub is_null : Bool
  pub kind : ℕ
  pub is : leaf_at options commands text at ≡ leaf_of is_null kind behind
  pub leaf : LeafThere options commands text at is_null kind behind
  pub seen : (levels : ℕ) → out (traced_to behind n) u ≡ observed options is_null kind levels at behind place n t

module _ (options : ℕ) (commands text : List ℕ) (at place n : ℕ) (t : List ℕ) (behind : ℕ) (u : List ℕ) (some : behind ≡ 0 → ⊥) where
  nothing : chain behind u ≡ chain 0 t → Quick options commands text at place n t behind u
  nothing e = absurd (some cc)

  by_value : (is_null : Bool) (kind next : ℕ) → leaf_at options commands text at ≡ leaf_of is_null kind next → LeafThere options commands text at is_null kind next →
      chain behind u ≡ quick_leaf place t (leaf_of is_null kind next) → Quick options commands text at place n t behind u
  unfolding when◌then◌else◌
  by_value true kind next l there e =
      let b : next ≡ behind = cc in
      let d : with_null place t ≡ u = cc in
      let leaf : LeafThere options commands text at true kind behind = rw b at there in
      record {
        is_null = true;
        kind = kind;
        is = rw b at l;
        leaf = leaf;
        seen = λ levels. rw (← d, leaf_untyped options commands text at kind behind leaf) (observed_null options levels at behind place n t);
      }
  by_value false kind next l there e =
      cases (eqb (word t place kind_word) kind)
      (λ q.
      let f : chain behind u ≡ chain next t = rw q at e in
      let b : next ≡ behind = cc in
      let d : t ≡ u = cc in
      let leaf : LeafThere options commands text at false kind behind = rw b at there in
      record {
        is_null = false;
        kind = kind;
        is = rw b at l;
        leaf = leaf;
        seen = λ levels. rw (← d) (observed_again options kind levels at behind place n t (eqb-true (word t place kind_word) kind q) leaf.below);
      })
      (λ q. nothing (rw q at e))

  by_leaf : (leaf : Option Leaf) → leaf ≡ leaf_at options commands text at → chain behind u ≡ quick_leaf place t leaf → Quick options commands text at place n t behind u
  by_leaf (Some leaf) l e = by_value leaf.null leaf.kind leaf.next (sym l) (leaf_there options commands text at _ l leaf.null leaf.kind leaf.next refl) e
  by_leaf None l e = nothing e

  pub quick_is : chain behind u ≡ quick_at options commands text at place t → Quick options commands text at place n t behind u
  unfolding quick_at
  quick_is e = by_leaf (leaf_at options commands text at) refl e

-- where nothing is passed the table is as it was
module _ (options : ℕ) (commands text : List ℕ) (at place : ℕ) (t u : List ℕ) where
  none_value : (is_null : Bool) (kind behind : ℕ) → leaf_of is_null kind behind ≡ leaf_at options commands text at →
      chain 0 u ≡ quick_leaf place t (leaf_of is_null kind behind) → u ≡ t
  unfolding when◌then◌else◌
  none_value true kind behind l e =
      let b : 0 ≡ behind = cc in
      let there : at < behind = leaf_above options commands text at kind behind true (leaf_there options commands text at _ l true kind behind refl) in
      absurd (omega arith)
  none_value false kind behind l e =
      cases (eqb (word t place kind_word) kind) (λ q. let f : chain 0 u ≡ chain behind t = rw q at e in cc) (λ q. let f : chain 0 u ≡ chain 0 t = rw q at e in cc)

  none_by : (leaf : Option Leaf) → leaf ≡ leaf_at options commands text at → chain 0 u ≡ quick_leaf place t leaf → u ≡ t
  none_by (Some leaf) l e = none_value leaf.null leaf.kind leaf.next l e
  none_by None l e = cc

  pub quick_none : (behind : ℕ) → behind ≡ 0 → chain behind u ≡ quick_at options commands text at place t → u ≡ t
  unfolding quick_at
  quick_none behind z e = none_by (leaf_at options commands text at) refl (rw z at e)
