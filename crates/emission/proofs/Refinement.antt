-- Emission over the words of the table is the model's: the same refusal, both buffers untouched, or the model's counts, records and names,
-- what stands past them untouched.
use Rattle.std.specs.Prelude.{◌≡◌, List, ℕ, ◌≤◌, length}
use Rattle.std.proofs.Common.{sym, ap, ◌∙◌}
use Rattle.words.specs.Word.{zeros}
use Rattle.model.specs.Reading.{values}
use Rattle.model.specs.Tracing.{trace, counted}
use Rattle.model.specs.Answer.{input_limit, schema_of}
use Rattle.samples.specs.Samples.{from_samples}
use Rattle.leaves.specs.Leaves.{traced_to, out}
use Rattle.commands.specs.Bytes.{Bytes}
use Rattle.refine.specs.laws.numbered.Erased.{erase, erased, walk_is_model}
use Rattle.refine.proofs.words.Batch.{flat_is_walk}
use Rattle.schema.specs.Emit.{to_schema_at}
use Rattle.order.specs.Sort.{sorted_places}
use Rattle.emission.specs.laws.order.Arranged.{FitS}
use Rattle.emission.specs.laws.order.Links.{orders, says_ordered}
use Rattle.emission.specs.laws.tree.Cover.{cover}
use Rattle.emission.specs.laws.tree.Fit.{fit}
use Rattle.emission.specs.laws.secondwalk.Neat.{neat}
use Rattle.emission.specs.Emits.{Emits}
use Rattle.emission.proofs.Emitted.{emitted_is_model, tree_said}

-- what is emitted of a batch that was traced, its children put in order, is what the model gives
pub schema_is_model : (options : ℕ) (commands text : List ℕ) → Bytes commands → length commands ≤ input_limit →
    (behind n : ℕ) (traced fields names : List ℕ) → from_samples commands text options zeros ≡ out (traced_to behind n) traced →
    Emits fields names (schema_of (record { options = options; commands = commands; text = text }))
    (to_schema_at options text (sorted_places text traced n) fields names)
unfolding schema_of
schema_is_model options commands text bytes short behind n traced fields names e =
    let (u, is, root, fits) = tree_said (rw e at (flat_is_walk options commands text bytes)) in
    let tree : trace options (values options commands text) ≡ counted n (erase u) =
    sym (walk_is_model options commands text short) ∙ ap erased is in
    let fitting : FitS u = fit options commands text bytes n u is in
    let in_order_lem =
    orders text traced n fits.most fits.room u fits.good fits.rep fitting (cover options commands text n u is) in
    rw tree (emitted_is_model options (length commands) text (sorted_places text traced n) fields names n u fits.most fits.good
    (says_ordered text traced n u fits.most fits.rep) root fitting (neat options commands text n u short is) in_order_lem)
