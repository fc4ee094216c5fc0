-- `finish` tests for refusals 15 to 18 in turn, and writes the schema where none is met.
use borrow.Author.Rules.{rules}
use Rattle.std.specs.Prelude.{◌≡◌, Bool, true, false, List, ℕ, Err}
use Rattle.std.proofs.Common.{arith}
use Rattle.std.proofs.lemmas.Grind.{common_steps}
use Rattle.logic.specs.Test.{when◌then◌else◌}
use Rattle.datatype.specs.Codes.{null}
use Rattle.refusal.specs.declared.Refusal.TheVariants as F
use Rattle.words.specs.Word.{word}
use Rattle.places.specs.Layout.{kind_word, nullable_word, root_place}
use Rattle.places.specs.Nullable.{is_null}
use Rattle.schema.specs.Emit.{answered, finished}
use Rattle.schema.proofs.finish.Goals as goal

module _ (options : ℕ) (text t fields names : List ℕ) (records bytes below kind : ℕ) (nulls : Bool) (k : kind ≡ word t root_place kind_word)
    (u : nulls ≡ is_null (word t root_place nullable_word)) where
  nullable_root_lem : nulls ≡ true → answered (Err F.NullableRoot) fields names ≡ finished options text t fields names records bytes below
  unfolding finished when◌then◌else◌
  nullable_root_lem e = grind arith

  module _ (n : nulls ≡ false) where
    null_root_lem : kind ≡ null → answered (Err F.NullRoot) fields names ≡ finished options text t fields names records bytes below
    unfolding finished when◌then◌else◌
    null_root_lem e = grind arith

pub returns-then-is_null : goal.returns-then-is_null
returns-then-is_null c = search (nullable_root_lem, rules)

pub returns-then-kind-eq-UNKNOWN : goal.returns-then-kind-eq-UNKNOWN
returns-then-kind-eq-UNKNOWN c = search (null_root_lem, rules)

pub returns-then-not-emits_struct : goal.returns-then-not-emits_struct
unfolding finished when◌then◌else◌
returns-then-not-emits_struct c = grind (arith, common_steps)

pub returns-then-fields-counts : goal.returns-then-fields-counts
unfolding finished when◌then◌else◌
returns-then-fields-counts c = grind (arith, common_steps)

pub returns-then-names-counts : goal.returns-then-names-counts
unfolding finished when◌then◌else◌
returns-then-names-counts c = grind (arith, common_steps)

pub returns : goal.returns
unfolding finished when◌then◌else◌
returns c = grind (arith, common_steps)
