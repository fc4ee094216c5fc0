-- Emission over the words of a table whose children are in order is the model's.
use Prim.{tt}
use Rattle.std.specs.Prelude.{Ok, Err, ◌≡◌, Bool, true, List, ℕ, ◌≤◌, length, eqb}
use Rattle.std.proofs.Math.Path.{refl}
use Rattle.std.proofs.Common.{sym, arith}
use Rattle.std.proofs.Math.Bool.{false}
use Rattle.std.proofs.Math.Option.{none, some}
use Rattle.logic.specs.Test.{when◌then◌else◌}
use Rattle.datatype.specs.Codes.{null, struct}
use Rattle.refusal.specs.Number.{nullable_root, null_root, root_not_struct}
use Rattle.equality.specs.laws.Base.{not_refused}
use Rattle.model.specs.Result.{Result, accepted, refused}
use Rattle.model.specs.Tracing.{place_limit, Counted, counted}
use Rattle.model.specs.Emission.{place_of, walk, Field, mk, Fields, field_of, root_fields, root_name, to_schema, names_in, columns_in, count_in}
use Rattle.leaves.specs.Leaves.{traced_to, out}
use Rattle.refine.specs.laws.numbered.Tree.{Spot, spot, Spots, no_spots, child, num}
use Rattle.refine.specs.laws.numbered.Numbers.{Good}
use Rattle.refine.specs.laws.words.Places.{Rep, Fits}
use Rattle.refine.specs.laws.numbered.Erased.{erase}
use Rattle.refine.proofs.words.Batch.{Ends, ends}
use Rattle.walk.specs.Walk.{Walked, walked}
use Rattle.schema.specs.Emit.{Answered, level_limit, finished, on_walked, to_schema_at}
use Rattle.emission.specs.laws.order.Arranged.{Orders, FitS}
use Rattle.emission.specs.laws.firstwalk.Places.{many_s}
use Rattle.emission.specs.laws.firstwalk.Children.{fields_of_field}
use Rattle.emission.specs.laws.firstwalk.Walk.{Sane, SaneIn, WalkSays, first_walk}
use Rattle.emission.specs.laws.secondwalk.Words.{Neat, NeatIn}
use Rattle.emission.proofs.secondwalk.Root.{finishes}
use Rattle.emission.specs.Emits.{Finishes, Emits}

-- the root's fields, where they are accepted
accepted_if : (t : Bool) (fs : Fields) (refusal place : ℕ) (r : Result Fields) (schema : Fields) → accepted schema ≡ (when t then refused refusal place else r) → accepted schema ≡ r
unfolding when◌then◌else◌
accepted_if true fs refusal place r schema e = not_refused (sym e)
accepted_if false fs refusal place r schema e = e

root_fields_lem : (end : ℕ) (f : Field) (schema : Fields) → accepted schema ≡ root_fields end f → schema ≡ fields_of_field f
unfolding when◌then◌else◌
root_fields_lem end (mk type m strategy number name fs) schema e =
    last (eqb type struct) (accepted_if (eqb type null) fs null_root end _ schema (accepted_if m.null fs nullable_root end _ schema e))
  where
    last : (t : Bool) → accepted schema ≡ (when t then accepted fs else refused root_not_struct end) → schema ≡ fs
    last true q = cc
    last false q = not_refused (sym q)

-- what the first walk asks of a tree follows from what the second asks
mutual
  neat_sane : (u : Spot) → Neat u → Sane u
  neat_sane (spot p b k m ks) (a, two, is) = (a, (λ e. let c : many_s ks ≡ 2 = two e in omega arith), neat_sane_in k ks is)

  neat_sane_in : (k : ℕ) (ks : Spots) → NeatIn k ks → SaneIn ks
  neat_sane_in k no_spots is = tt
  neat_sane_in k (child s h m u ks) (v, i, is) = (neat_sane u i, neat_sane_in k ks is)

module _ (options end : ℕ) (text t fields names : List ℕ) (n : ℕ) (u : Spot) (most : n ≤ place_limit) (good : Good n u) (rep : Rep text t u)
    (root : num u ≡ 0) (fit : FitS u) (neat : Neat u) (orders : Orders t u) where
  abbrev fs : Fields
  fs = fields_of_field (field_of options root_name 0 (place_of false (erase u)))

  counts_are : (records bytes columns : ℕ) (result : Result Fields) (a : Answered) →
      result ≡ root_fields end (field_of options root_name 0 (place_of false (erase u))) → records ≡ count_in fs → bytes ≡ length (names_in fs) →
      columns ≡ columns_in fs →
      Finishes fields names records bytes columns result a → Emits fields names result a
  counts_are records bytes columns (refused number place) a e r b c h = h
  counts_are records bytes columns (accepted schema) a e r b c h =
      let is : schema ≡ fs = root_fields_lem end (field_of options root_name 0 (place_of false (erase u))) schema e in
      rw is (rw (is, r, b, c) at h)

  pub emitted_is_model : Emits fields names (to_schema options end (erase u)) (to_schema_at options text t fields names)
  unfolding to_schema to_schema_at
  emitted_is_model =
      go (walked options text t level_limit 0)
      (rw root at (first_walk options text t n u false root_name 0 level_limit most good rep fit orders (neat_sane u neat) (omega arith)))
    where
      go : (w : Walked) → WalkSays w (walk options (place_of false (erase u))) fs →
          Emits fields names (elim (walk options (place_of false (erase u)))
          [ some refusal ↦ refused refusal end | none ↦ root_fields end (field_of options root_name 0 (place_of false (erase u))) ])
          (on_walked (finished options text t fields names) fields names w)
      go (Err refusal) e = rw e (refusal, refl, refl)
      go (Ok x) (e, r, b, c) =
          rw e (counts_are x.records x.names x.columns _ _ refl r b c
          (finishes options text t fields names end x.records x.names x.columns n u root_name most root good rep fit orders neat e r b))

-- ---- of a batch that was traced
-- the numbered tree that the table says
pub tree_said : {text : List ℕ} {behind n : ℕ} {t : List ℕ} {x : Result (Counted Spot)} → Ends text x (out (traced_to behind n) t) → (u : Spot) × (x ≡ counted n u) × (num u ≡ 0) × Fits text t n u
tree_said (ends {u = u} z h) = (u, refl, z, h)
