-- `call` lends no more than there is, and what it lent comes back in its place.
use mathlib.Core.Path.{◌≡◌, ap}
use mathlib.Core.List.{List, ◌++◌}
use Prim.Native.Nat.{ℕ, min}
use lib.ListN.{length, take, drop}
use Rattle.files.specs.Bytes.{two_bytes}
use Rattle.questions.specs.Question.{number_at}
use Rattle.model.specs.Demand3.{batch}
use Rattle.call.specs.Call.{lent}
use Rattle.fasthrom.specs.declared.Answer.{Answer}
use Rattle.fasthrom.specs.Called.{said, Called}
use Rattle.answers_vectors.specs.Agrees.{in_all, answer_over, handed}
use Rattle.answers_vectors.proofs.Parts.call.Goals as goal

module _ (question commands text table fields names : List ℕ) (options a b d t f n : ℕ) (r : Answer) (t' f' n' : List ℕ) where
  over : options ≡ two_bytes question 0 → a ≡ number_at question 0 → t ≡ min a (length table) → b ≡ number_at question 3 → f ≡ min b (length fields) →
      d ≡ number_at question 4 → n ≡ min d (length names) →
      Called (batch options commands text) (lent (take t table) (take f fields) (take n names)) r (lent t' f' n') →
      said r (lent (t' ++ drop t table) (f' ++ drop f fields) (n' ++ drop n names))
      ≡ answer_over question (handed question commands text) (lent table fields names)
  unfolding Called answer_over
  over o ea et eb ef ed en call =
      rw (et, ef, en, ea, eb, ed) (ap (in_all question (lent table fields names)) (rw (o, et, ef, en, ea, eb, ed) at call))

pub returns : goal.returns
returns c =
    over _ _ _ _ _ _ _ _ _ _ _ _ _ _ _ _ _ c.options.ensures
    c.number.ensures.value
    c.min-words.ensures
    c.number-2.ensures.value
    c.min-record_bytes.ensures
    c.number-3.ensures.value
    c.min-name_bytes.ensures
    c.fasthrom_trace.ensures
