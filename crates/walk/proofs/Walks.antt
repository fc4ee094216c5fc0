-- The ways through the walk: what the definitions give where the code's tests came out so.
use Rattle.std.proofs.Common.{◌≡◌, Ok, Err, ℕ, zero, suc, ◌-◌, Bool, true, false, eqb, List, [], ◌∷◌, sym, refl, ◌∙◌, arith, ne_eqb}
use Rattle.logic.specs.Test.{when◌then◌else◌}
use Rattle.logic.specs.laws.Test.{cases}
use Rattle.refusal.specs.declared.Refusal.{Refusal}
use Rattle.refusal.specs.declared.Refusal.TheVariants as F
use Rattle.words.specs.Word.{word}
use Rattle.model.specs.Kinds.{is_container}
use Rattle.places.specs.Layout.{kind_word}
use Rattle.walk.specs.declared.Counts.{Counts}
use Rattle.places.specs.Reading.{next_child}
use Rattle.places.specs.Children.{children_from as listed}
use Rattle.walk.specs.Walk.{Walked, counts, counts_with, with_child, slot_behind, is_beyond, children_from, walked_by, walked}

-- ---- over the children as a list
abbrev pub walk_over : List ℕ → List ℕ → (ℕ → Walked) → ℕ → Counts → ℕ → List ℕ → Walked
walk_over text t inner kind so_far slot [] = Ok so_far
walk_over text t inner kind so_far slot (child ∷ more) =
    elim (is_beyond kind t child) [
      | true ↦ Err F.TooManySlots
      | false ↦ with_child (λ r n c. walk_over text t inner kind (counts r n c) (slot_behind t child) more)
          text t kind so_far.records so_far.names so_far.columns slot child (inner child)
    ]

-- what goes on alike after a child gives the same
module _ (text t : List ℕ) (kind slot child : ℕ) (so_far : Counts) where
  same_turn : (beyond : Bool) (below : Walked) (f g : ℕ → ℕ → ℕ → Walked) → ((r n c : ℕ) → f r n c ≡ g r n c) →
      Path Walked
      (elim beyond [
        | true ↦ Err F.TooManySlots
        | false ↦ with_child f text t kind so_far.records so_far.names so_far.columns slot child below
      ])
      (elim beyond [
        | true ↦ Err F.TooManySlots
        | false ↦ with_child g text t kind so_far.records so_far.names so_far.columns slot child below
      ])
  same_turn true below f g h = refl
  same_turn false (Err refusal) f g h = refl
  same_turn false (Ok c) f g h = h _ _ _

-- it is what is walked from one child to the next
module _ (text t : List ℕ) (inner : ℕ → Walked) (kind place : ℕ) where
  pub same_walk : (left : ℕ) (so_far : Counts) (slot child : ℕ) →
      walk_over text t inner kind so_far slot (listed t false kind place left child)
      ≡ children_from text t inner kind place left so_far.records so_far.names so_far.columns slot child
  unfolding listed children_from
  same_walk zero so_far slot child = refl
  same_walk (suc left) so_far slot zero = refl
  same_walk (suc left) so_far slot (suc m) =
      let some : suc m ≡ 0 → ⊥ = λ e. omega arith in
      rw (listed, children_from, ne_eqb (suc m) 0 some)
      (same_turn text t kind slot (suc m) so_far (is_beyond kind t (suc m)) (inner (suc m)) _ _
      (λ r n c. same_walk left (counts r n c) (slot_behind t (suc m)) (next_child t false kind place (suc m))))

-- ---- a turn over a child: what is left gives what the whole gives
module _ (text t : List ℕ) (inner : ℕ → Walked) (kind slot : ℕ) (so_far : Counts) (left : List ℕ) (whole : Walked)
    (w : walk_over text t inner kind so_far slot left ≡ whole) where
  module _ (child : ℕ) (more : List ℕ) (n : left ≡ child ∷ more) (is : Bool) (b : is ≡ is_beyond kind t child) where
    pub beyond : is ≡ true → Err F.TooManySlots ≡ whole
    beyond e = rw (n, walk_over, sym b ∙ e) at w

    pub refused : (answer r : Walked) (refusal same : Refusal) → is ≡ false → answer ≡ inner child → answer ≡ Err refusal →
        r ≡ Err same → same ≡ refusal → r ≡ whole
    refused answer r refusal same f a e p q = rw (p, q) (rw (n, walk_over, sym b ∙ f, sym a ∙ e) at w)

    pub next : (answer : Walked) (below after : Counts) (further : ℕ) → is ≡ false →
        answer ≡ inner child → answer ≡ Ok below → after ≡ counts_with kind text t slot child so_far below →
        further ≡ slot_behind t child → walk_over text t inner kind after further more ≡ whole
    next answer below after further f a e p s = rw (p, s) (rw (n, walk_over, sym b ∙ f, sym a ∙ e) at w)

pub ruleset turns = (same_walk, beyond, refused, next)

-- ---- a place: that no level is left is one test more, for then nothing below it is looked at
flat_alike : (options : ℕ) (text t : List ℕ) (inner other : ℕ → Walked) (place : ℕ) → walked_by options text t true inner place ≡ walked_by options text t true other place
unfolding walked_by when◌then◌else◌
flat_alike options text t inner other place = cases (is_container (word t place kind_word)) (λ e. rw e) (λ e. rw e)

pub by_levels : (options : ℕ) (text t : List ℕ) (levels place : ℕ) → walked options text t levels place ≡ walked_by options text t (eqb levels 0) (walked options text t (levels - 1)) place
unfolding walked
by_levels options text t zero place = flat_alike options text t _ _ place
by_levels options text t (suc m) place =
    let l : suc m - 1 ≡ m = omega arith in
    rw (l, ne_eqb (suc m) 0 (λ e. omega arith)) refl
