-- `trace` lends a table of zeros, and forgets what is left in it.
use mathlib.Core.Path.{◌≡◌, refl, sym, ap, ◌∙◌}
use mathlib.Core.List.{List}
use Prim.Native.Nat.{ℕ}
use lib.ListN.{replicate}
use Rattle.words.specs.Word.{table_words, zeros}
use Rattle.model.specs.Answer.{Batch, Answer, answer}
use Rattle.call.specs.Call.{lent}
use Rattle.fasthrom.specs.declared.Answer as R
use Rattle.fasthrom.specs.Called.{said, Called}
use Rattle.schema_list.proofs.trace.Goals as goal

all_zero : zeros ≡ replicate table_words 0
unfolding zeros
all_zero = refl

module _ (b : Batch) (table t f n fields names : List ℕ) (r : R.Answer) (zero : zeros ≡ table) where
  into : Called b (lent table fields names) r (lent t f n) →
      said r (lent (answer b (lent zeros fields names)).left.table f n) ≡ answer b (lent zeros fields names)
  unfolding Called
  into call = rw zero (ap (λ (x : List ℕ). said r (lent x f n)) (sym (ap (λ (a : Answer). a.left.table) call)) ∙ call)

pub returns : goal.returns
returns c = into _ _ _ _ _ _ _ _ all_zero c.fasthrom_trace.ensures
