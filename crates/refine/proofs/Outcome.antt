-- The tree that the words of the table say is the numbered tree, numbers and samples' marks forgotten; so the outcome of the flat run is that of the walk.
use Rattle.std.specs.Prelude.{◌≡◌, refl, List, ℕ, zero, suc, ◌+◌, ◌*◌, ◌≤◌}
use Rattle.std.proofs.Common.{ap₂, arith}
use Rattle.words.specs.Word.{zeros}
use Rattle.model.specs.Result.{Result}
use Rattle.model.specs.Kinds.{Step}
use Rattle.model.specs.Reading.{values}
use Rattle.model.specs.Tracing.{Marks, marks, place_limit, Counted}
use Rattle.model.specs.Emission.{nullable_byte}
use Rattle.places.specs.laws.Nullable.{byte_null, byte_widened}
use Rattle.samples.specs.Samples.{from_samples}
use Rattle.leaves.specs.Leaves.{Out}
use Rattle.refine.specs.laws.numbered.Tree.{Spot, spot, Spots, no_spots, child, num, new_spot, walk_all}
use Rattle.refine.specs.Tree.{marks_by, step_at, tree_at, kids_at, tree_of, outcome}
use Rattle.refine.specs.laws.reading.Steps.{step_back_lem}
use Rattle.refine.specs.laws.numbered.Numbers.{first_of, Good, GoodIn, bounded, self}
use Rattle.refine.specs.laws.words.Places.{Cell, Rep, RepIn}
use Rattle.refine.specs.laws.numbered.Erased.{erase, erase_in, erased}
use Rattle.commands.specs.Bytes.{Bytes}
use Rattle.refine.proofs.words.Batch.{Ends, ends, turned_down_lem, flat_is_walk}

marks_are : (b : Marks) → marks_by (nullable_byte b) ≡ b
marks_are b = ap₂ marks (byte_null b.null b.widened) (byte_widened b.null b.widened)

step_at_lem : {text t : List ℕ} {q x p : ℕ} {s : Step} {h m : ℕ} → Cell text t q x p s h m → step_at text t q ≡ s
step_at_lem {s = s} c = grind (arith, c.row 2, c.row 3, c.says, step_back_lem s)

mutual
  unfolding tree_at

  tree_is : (f n : ℕ) (text t : List ℕ) (u : Spot) → 2 * n ≤ 2 * num u + f → Good n u → Rep text t u → tree_at f text t (num u) ≡ erase u
  tree_is zero n text t (spot p b k m ks) l g r = absurd (omega (arith, g.0))
  tree_is (suc f) n text t (spot p b k m ks) l g r = grind (arith, g.2, r.0 0, r.0 1, r.0 2, r.0 3, marks_are b, kids_are f n text t p p ks)

  kids_are : (f n : ℕ) (text t : List ℕ) (p c : ℕ) (ks : Spots) → 2 * n ≤ 2 * c + f + 1 → GoodIn n c ks → RepIn text t p ks → kids_at f text t (first_of ks) ≡ erase_in ks
  kids_are zero n text t p c no_spots l g r = refl
  kids_are (suc f) n text t p c no_spots l g r = refl
  kids_are zero n text t p c (child s h x u ks) l g r = absurd (let b = bounded n (num u) u g.1 (self u) in omega (arith, g.0))
  kids_are (suc f) n text t p c (child s h x u ks) l g r =
      grind (arith, g.0, g.1, g.3, r.1, r.2, r.0.row 0, r.0.row 4, step_at_lem r.0, tree_is f n text t u, kids_are f n text t p (num u) ks)

-- the tree that a table says, from its root on
pub tree_of_lem : (n : ℕ) (text t : List ℕ) (u : Spot) → n ≤ place_limit → num u ≡ 0 → Good n u → Rep text t u → tree_of text t ≡ erase u
unfolding tree_of
tree_of_lem n text t u l z g r = rw z at (tree_is (2 * place_limit) n text t u (omega arith) g r)

same_outcome : {text : List ℕ} {x : Result (Counted Spot)} {y : Out} → Ends text x y → outcome text y ≡ erased x
unfolding outcome
same_outcome {text = text} (ends {n = n} {t = t} {u = u} z h) = rw (tree_of_lem n text t u h.most z h.good h.rep) refl
same_outcome turned_down_lem = refl

-- The flat run over a table of zeros gives the outcome of the walk over the values of the batch.
pub flat_outcome : (options : ℕ) (commands text : List ℕ) → Bytes commands →
    outcome text (from_samples commands text options zeros) ≡ erased (walk_all options (values options commands text) 1 (new_spot 0))
flat_outcome options commands text bytes = same_outcome (flat_is_walk options commands text bytes)
