-- Tracing in the words of the work table is the model's tracing: the same refusal and place, or a table that reads as the model's tree.
use Rattle.std.specs.Prelude.{◌≡◌, List, ℕ, ◌≤◌, length}
use Rattle.std.proofs.Common.{◌∙◌}
use Rattle.words.specs.Word.{zeros}
use Rattle.model.specs.Answer.{input_limit}
use Rattle.model.specs.Reading.{values}
use Rattle.model.specs.Tracing.{trace}
use Rattle.samples.specs.Samples.{from_samples}
use Rattle.refine.specs.Tree.{outcome}
use Rattle.commands.specs.Bytes.{Bytes}
use Rattle.refine.proofs.Outcome.{flat_outcome}
use Rattle.refine.specs.laws.numbered.Erased.{walk_is_model}

pub traced_is_model : (options : ℕ) (commands text : List ℕ) → Bytes commands → length commands ≤ input_limit →
    outcome text (from_samples commands text options zeros) ≡ trace options (values options commands text)
traced_is_model options commands text bytes short = flat_outcome options commands text bytes ∙ walk_is_model options commands text short
