-- A place with all below it in the order of their steps: trees that differ in the order of places below alone have one sorted place, and one
-- size.
use Rattle.std.specs.Prelude.{◌≡◌, refl, Bool, true, false, ◌&&◌, ◌||◌, List, [], ◌∷◌, ℕ, suc, ◌+◌, eqb, ltb}
use Rattle.std.proofs.Math.Path.{ap}
use Rattle.std.proofs.Common.{ap₂, sym, ◌∙◌, arith}
use Rattle.std.proofs.Math.Option.{Option, none, some}
use Rattle.logic.specs.Test.{when◌then◌else◌}
use Rattle.logic.specs.laws.Test.{cases}
use Rattle.logic.specs.Maybe.{and_then}
use Rattle.model.specs.Kinds.{union_kind, is_struct, Step, same, variant_of}
use Rattle.model.specs.Tracing.{Tree, node, Kids, no_kids, kid, marks_of, kind_of, samples_of, kids_of, steps_of, has, kid_at}
use Rattle.model.specs.Emission.{Place, shown, Places, none_below, below, insert_variant, by_number, is_missing, place_of, places_of}
use Rattle.model.specs.Census.{Said, as_set}
use Rattle.equality.specs.laws.Proper.{steps_below}
use Rattle.equality.specs.laws.emission.Canon.{insert_place, in_order}
use Rattle.equality.specs.Widened.{place_at}
use Rattle.equality.specs.laws.tracing.Place.{held_at}
use Rattle.equality.specs.laws.reordering.Sorting.{precedes, distinct, distinct_set, same_set, steps_in_order, find, find_in_order}
use Rattle.equality.specs.laws.census.View.{view, find_places, places_in, find_ordered, set_ordered, Distinct, same_view}
use Rattle.equality.specs.laws.tracing.Count.{size, sizes}

-- ---- a place with all below it in the order of their steps
unfoldable mutual
  pub sorted_place : Place → Place
  sorted_place (shown m kind ps) = shown m kind (in_order (sorted_below ps))

  pub sorted_below : Places → Places
  sorted_below none_below = none_below
  sorted_below (below s p ps) = below s (sorted_place p) (sorted_below ps)

pub steps_sorted : (ps : Places) → steps_below (sorted_below ps) ≡ steps_below ps
unfolding sorted_below steps_below
steps_sorted none_below = refl
steps_sorted (below s p ps) = ap (λ (ss : List Step). s ∷ ss) (steps_sorted ps)

abbrev sorted_at : Option Place → Option Place
sorted_at none = none
sorted_at (some p) = some (sorted_place p)

find_sorted : (s : Step) (ps : Places) → find s (sorted_below ps) ≡ sorted_at (find s ps)
unfolding sorted_below find when◌then◌else◌
find_sorted s none_below = refl
find_sorted s (below r p ps) = cases (same s r) (λ e. rw e) (λ e. rw e (find_sorted s ps))

-- ---- the sorted places of a tree
module _ (k n : ℕ) (ks : Kids) (d : distinct (steps_of ks) ≡ true) where
  steps_tree : steps_below (in_order (sorted_below (places_in k n ks))) ≡ as_set (steps_of ks)
  steps_tree = steps_in_order (sorted_below (places_in k n ks)) ∙ ap as_set (steps_sorted (places_in k n ks)) ∙ set_ordered k n ks d

  find_tree : (s : Step) → find s (in_order (sorted_below (places_in k n ks)))
      ≡ (when has s (steps_of ks) then some (sorted_place (place_of (is_missing k n (held_at s ks)) (kid_at s ks))) else none)
  unfolding when◌then◌else◌
  find_tree s =
      find_in_order s (sorted_below (places_in k n ks)) ∙ find_sorted s (places_in k n ks) ∙ ap sorted_at (find_ordered k n ks d s ∙ find_places s k n ks)
      ∙ cases (has s (steps_of ks)) (λ e. rw e) (λ e. rw e)

-- ---- trees alike but for the order of the places below
pub record Alike (t u : Tree) : Type 0 where
  pub marks : marks_of t ≡ marks_of u
  pub kind : kind_of t ≡ kind_of u
  pub samples : samples_of t ≡ samples_of u
  pub steps : (s : Step) → has s (steps_of (kids_of t)) ≡ has s (steps_of (kids_of u))
  pub held : (s : Step) → held_at s (kids_of t) ≡ held_at s (kids_of u)
  pub once : distinct (steps_of (kids_of t)) ≡ true
  pub other_once : distinct (steps_of (kids_of u)) ≡ true

-- and so at every place
abbrev pub AlikeBelow : Tree → Tree → Type 0
AlikeBelow t u = (steps : List Step) → Alike (place_at steps t) (place_at steps u)

-- say the same, once sorted
view_alike : (steps : List Step) (lacking : Bool) (t u : Tree) → AlikeBelow t u → view steps (sorted_place (place_of lacking t)) ≡ view steps (sorted_place (place_of lacking u))
unfolding view sorted_place place_of place_at when◌then◌else◌ and_then
view_alike [] lacking (node b k n ks) (node b' k' n' ks') h =
    let a = h [] in
    let c = steps_tree k n ks a.once ∙ same_set (steps_of ks) (steps_of ks') a.once a.other_once a.steps ∙ sym (steps_tree k' n' ks' a.other_once) in
    λ i. some (record { null = lacking || (a.marks i).null; widened = (a.marks i).widened; kind = a.kind i; children = c i })
view_alike (s ∷ steps) lacking (node b k n ks) (node b' k' n' ks') h =
    let a = h [] in
    let m : is_missing k n (held_at s ks) ≡ is_missing k' n' (held_at s ks') = ap₂ ◌&&◌ (ap is_struct a.kind) (ap₂ ltb (a.held s) a.samples) in
    let ih = view_alike steps (is_missing k n (held_at s ks)) (kid_at s ks) (kid_at s ks') (λ q. h (s ∷ q)) in
    rw (find_tree k n ks a.once s, find_tree k' n' ks' a.other_once s, a.steps s)
    (go _ _ (has s (steps_of ks')) (ih ∙ ap (λ (l : Bool). view steps (sorted_place (place_of l (kid_at s ks')))) m))
  where
    go : (p q : Place) (t : Bool) → view steps p ≡ view steps q → and_then (when t then some p else none) (view steps) ≡ and_then (when t then some q else none) (view steps)
    go p q true e = e
    go p q false e = refl

abbrev said_steps : Option Said → List Step
said_steps none = []
said_steps (some i) = i.children

sorted_distinct : (lacking : Bool) (t : Tree) → ((steps : List Step) → distinct (steps_of (kids_of (place_at steps t))) ≡ true) → Distinct (sorted_place (place_of lacking t))
unfolding Distinct view sorted_place place_of place_at when◌then◌else◌ and_then
sorted_distinct lacking (node b k n ks) h [] i e =
    let q = ap said_steps e in
    rw (← q, steps_tree k n ks (h []), distinct_set (steps_of ks)) (h [])
sorted_distinct lacking (node b k n ks) h (s ∷ steps) i e =
    go (has s (steps_of ks)) (sorted_distinct (is_missing k n (held_at s ks)) (kid_at s ks) (λ q. h (s ∷ q)) steps i) (rw (find_tree k n ks (h []) s) at e)
  where
    go : (t : Bool) → (view steps (sorted_place (place_of (is_missing k n (held_at s ks)) (kid_at s ks))) ≡ some i → distinct i.children ≡ true)
        → and_then (when t then some (sorted_place (place_of (is_missing k n (held_at s ks)) (kid_at s ks))) else none) (view steps) ≡ some i → distinct i.children ≡ true
    go true f g = f g
    go false f g = absurd (let z : ◌≡◌ {A = ℕ} 0 1 = cc in omega arith)

-- so that they have one sorted place
pub alike_sorted : (lacking : Bool) (t u : Tree) → AlikeBelow t u → sorted_place (place_of lacking t) ≡ sorted_place (place_of lacking u)
alike_sorted lacking t u h = same_view (sorted_place (place_of lacking t)) (sorted_place (place_of lacking u)) (sorted_distinct lacking t (λ q. (h q).once)) (λ q. view_alike q lacking t u h)

-- ---- how many places: sorting keeps their number
unfoldable mutual
  pub place_count : Place → ℕ
  place_count (shown m kind ps) = suc (count_below ps)

  pub count_below : Places → ℕ
  count_below none_below = 0
  count_below (below s p ps) = place_count p + count_below ps

count_insert : (s : Step) (p : Place) (ps : Places) → count_below (insert_place s p ps) ≡ place_count p + count_below ps
unfolding insert_place count_below when◌then◌else◌
count_insert s p none_below = refl
count_insert s p (below r q ps) = cases (precedes r s) (λ e. rw (e, count_below) (omega (arith, count_insert s p ps))) (λ e. rw e)

count_in_order : (ps : Places) → count_below (in_order ps) ≡ count_below ps
unfolding in_order count_below
count_in_order none_below = refl
count_in_order (below s p ps) = count_insert s p (in_order ps) ∙ ap (◌+◌ (place_count p)) (count_in_order ps)

count_variant : (s : Step) (p : Place) (ps : Places) → count_below (insert_variant s p ps) ≡ place_count p + count_below ps
unfolding insert_variant count_below when◌then◌else◌
count_variant s p none_below = refl
count_variant s p (below r q ps) = cases (ltb (variant_of s) (variant_of r)) (λ e. rw e) (λ e. rw (e, count_below) (omega (arith, count_variant s p ps)))

count_by_number : (ps : Places) → count_below (by_number ps) ≡ count_below ps
unfolding by_number count_below
count_by_number none_below = refl
count_by_number (below s p ps) = count_variant s p (by_number ps) ∙ ap (◌+◌ (place_count p)) (count_by_number ps)

mutual
  unfolding sorted_place place_count

  count_sorted : (c : Place) → place_count (sorted_place c) ≡ place_count c
  count_sorted (shown m kind ps) = ap suc (count_in_order (sorted_below ps) ∙ counts_sorted ps)

  counts_sorted : (ps : Places) → count_below (sorted_below ps) ≡ count_below ps
  counts_sorted none_below = refl
  counts_sorted (below s p ps) = ap₂ ◌+◌ (count_sorted p) (counts_sorted ps)

mutual
  unfolding place_of place_count size when◌then◌else◌

  count_tree : (lacking : Bool) (t : Tree) → place_count (place_of lacking t) ≡ size t
  count_tree lacking (node b k n ks) =
      let h = counts_tree k n ks in
      cases (eqb k union_kind) (λ e. rw e (ap suc (count_by_number (places_of k n ks) ∙ h))) (λ e. rw e (ap suc h))

  counts_tree : (k n : ℕ) (ks : Kids) → count_below (places_of k n ks) ≡ sizes ks
  counts_tree k n no_kids = refl
  counts_tree k n (kid s held t ks) = ap₂ ◌+◌ (count_tree (is_missing k n held) t) (counts_tree k n ks)

pub sorted_size : (lacking : Bool) (t u : Tree) → sorted_place (place_of lacking t) ≡ sorted_place (place_of lacking u) → size t ≡ size u
sorted_size lacking t u e =
    sym (count_sorted (place_of lacking t) ∙ count_tree lacking t) ∙ ap place_count e ∙ count_sorted (place_of lacking u) ∙ count_tree lacking u
