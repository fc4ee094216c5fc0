-- Schemas are equal exactly when censuses are, of two accepted batches of struct records.
use Rattle.equality.specs.laws.census.Equal.{Traced, traced_schema, root_struct, root_unwidened, bytes_same, same_bytes, accepted_injective}
use Rattle.equality.proofs.Canon.{distinct_canon, same_root, root_canon}
use Rattle.std.specs.Prelude.{◌≡◌, ◌↔◌, List, ℕ, length}
use Rattle.std.proofs.Math.Path.{ap, sym}
use Rattle.std.proofs.Common.{◌∙◌}
use Rattle.std.proofs.Math.Bool.{false}
use Rattle.model.specs.Emission.{Fields, place_of}
use Rattle.model.specs.Answer.{Batch, Buffers, answer}
use Rattle.model.specs.Census.{SameCensus}
use Rattle.model.specs.Demand3.{Plain, Accepted, SameSchema, StructRecords, records_of}
use Rattle.equality.specs.laws.emission.Canon.{canon}
use Rattle.equality.specs.laws.census.View.{view, view_census, same_view}
use Rattle.equality.specs.laws.tracing.Fitting.{tree_fits, tree_ascends}
use Rattle.equality.specs.laws.emission.Accepted.{took, holds}

-- ---- two batches under one options word
module _ (o : ℕ) (off : Plain o) (cs text cs' text' : List ℕ) where
  abbrev first : Batch
  first = record { options = o; commands = cs; text = text }

  abbrev second : Batch
  second = record { options = o; commands = cs'; text = text' }

  module _ (fs gs : Fields) (t : Traced first fs) (u : Traced second gs) (r : StructRecords first) (q : StructRecords second) where
    same_schema : fs ≡ gs → SameCensus o (records_of first) (records_of second)
    unfolding SameCensus
    same_schema e steps =
        let c = same_root o (length cs) (length cs') (place_of false t.tree) (place_of false u.tree) gs off.enums_off
        (tree_fits o 0 (records_of first) t.tree false t.proper t.seen) (tree_fits o 0 (records_of second) u.tree false u.proper u.seen)
        (tree_ascends o 0 (records_of first) t.tree false t.proper t.seen) (tree_ascends o 0 (records_of second) u.tree false u.proper u.seen)
        (root_struct first fs off r t ∙ sym (root_struct second gs off q u))
        (root_unwidened first fs off r t ∙ sym (root_unwidened second gs off q u)) (rw e at t.root) u.root in
        sym (view_census o off.to_string_off 0 steps false (records_of first) t.tree t.proper t.seen)
        ∙ ap (view steps) c
        ∙ view_census o off.to_string_off 0 steps false (records_of second) u.tree u.proper u.seen

    same_census : SameCensus o (records_of first) (records_of second) → fs ≡ gs
    unfolding SameCensus
    same_census h =
        let c = same_view (canon (place_of false t.tree)) (canon (place_of false u.tree)) (distinct_canon o off.to_string_off 0 (records_of first) t.tree t.proper t.seen)
        (λ steps. view_census o off.to_string_off 0 steps false (records_of first) t.tree t.proper t.seen ∙ h steps
        ∙ sym (view_census o off.to_string_off 0 steps false (records_of second) u.tree u.proper u.seen)) in
        let e = root_canon o (length cs) (length cs') (place_of false t.tree) (place_of false u.tree) fs off.enums_off
        (tree_fits o 0 (records_of first) t.tree false t.proper t.seen) (tree_fits o 0 (records_of second) u.tree false u.proper u.seen)
        (tree_ascends o 0 (records_of first) t.tree false t.proper t.seen) (tree_ascends o 0 (records_of second) u.tree false u.proper u.seen)
        c t.root in
        accepted_injective (sym e ∙ u.root)

  -- schemas are equal exactly when censuses are
  pub equal_exactly : (lent lent' : Buffers) → Accepted (answer first lent) → Accepted (answer second lent') → StructRecords first → StructRecords second
      → SameSchema (answer first lent) (answer second lent') ↔ SameCensus o (records_of first) (records_of second)
  equal_exactly lent lent' a a' r q =
      let x = took first lent a in
      let y = took second lent' a' in
      let t = traced_schema first x.schema x.gives in
      let u = traced_schema second y.schema y.gives in (
        λ s. same_schema x.schema y.schema t u r q (bytes_same x.schema y.schema (answer first lent) (answer second lent') (holds first lent x) (holds second lent' y) s),
        λ h. same_bytes x.schema y.schema (answer first lent) (answer second lent') (holds first lent x) (holds second lent' y) (same_census x.schema y.schema t u r q h),
      )
