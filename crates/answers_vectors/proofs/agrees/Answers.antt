-- `agrees` finds the parts of the question, if it is whole.
use Rattle.std.proofs.Common.{rules, ◌≡◌, List, ℕ, arith, ap, ◌∙◌}
use Rattle.questions.specs.Question.{number_at}
use Rattle.answers_vectors.specs.laws.Agrees.{agrees_short, agrees_by}
use Rattle.answers_vectors.proofs.agrees.Goals as goal

-- a number of the header, read where the bytes stand
of_bytes : {question bytes : List ℕ} → question ≡ bytes → (index n : ℕ) → n ≡ number_at question index → n ≡ number_at bytes index
of_bytes same index n e = e ∙ ap (λ xs. number_at xs index) same

pub returns-in_default : goal.returns-in_default
returns-in_default c = agrees_short _ (search rules)

pub returns-then-bytes-names : goal.returns-then-bytes-names
returns-then-bytes-names c =
    let same = c.in-Some.ensures in
    let text = of_bytes same 1 _ c.number-text.ensures.value in
    let records = of_bytes same 2 _ c.number.ensures.value in
    let names = of_bytes same 7 _ c.number-2.ensures.value in
    agrees_short _ (omega (arith, text, records, names, c.if-bytes-names.true))

pub returns : goal.returns
returns c =
    let same = c.in-Some.ensures in
    agrees_by c.args.bytes.now _ _ _ _ (of_bytes same 1 _ c.number-text.ensures.value) (of_bytes same 2 _ c.number.ensures.value)
    (of_bytes same 7 _ c.number-2.ensures.value) (search rules) (rw same at c.is_met.ensures)
