-- `is_met` looks at the five numbers, both buffers and the table.
use Rattle.std.proofs.Common.{rules, sym, ◌∙◌}
use Rattle.questions.specs.laws.Left.{unlike}
use Rattle.answers_vectors.specs.laws.Agrees.{other_numbers, other_fields, other_names, met_left}
use Rattle.answers_vectors.proofs.Parts.is_met.Goals as goal
use Rattle.answers_vectors.proofs.Parts.is_met.Goals.{then-is_answered, else-is_answered, then-is_written, else-is_written}

pub returns-then-is_written-2 : goal.returns-then-is_written-2
returns-then-is_written-2 c =
    elim c.if-is_written.branch [
      | then-is_written w ↦ elim c.if-is_answered.branch [
        | then-is_answered v ↦
            met_left _ _ _ _ _ _ _ _ _ c.call-answer.ensures _ c.is_answered.ensures v.if-is_answered.true _
            v.is_written.ensures (sym v.value-is ∙ w.if-is_written.true) _
            w.is_written-then-is_written.ensures (sym w.value-is ∙ c.if-is_written-2.true) _ (search rules) c.is_left.ensures
        | else-is_answered v ↦ absurd (unlike _ (v.value-is ∙ v.if-is_answered.false) w.if-is_written.true)
      ]
      | else-is_written w ↦ absurd (unlike _ (w.value-is ∙ w.if-is_written.false) c.if-is_written-2.true)
    ]

pub returns-else-is_written-2 : goal.returns-else-is_written-2
returns-else-is_written-2 c =
    rw (c.if-is_written-2.false)
    (elim c.if-is_written.branch [
      | then-is_written w ↦ elim c.if-is_answered.branch [
        | then-is_answered v ↦
            other_names _ _ _ _ _ _ _ _ _ c.call-answer.ensures _ c.is_answered.ensures v.if-is_answered.true _
            v.is_written.ensures (sym v.value-is ∙ w.if-is_written.true) _
            w.is_written-then-is_written.ensures (sym w.value-is ∙ c.if-is_written-2.false)
        | else-is_answered v ↦ absurd (unlike _ (v.value-is ∙ v.if-is_answered.false) w.if-is_written.true)
      ]
      | else-is_written w ↦ elim c.if-is_answered.branch [
        | then-is_answered v ↦
            other_fields _ _ _ _ _ _ _ _ _ c.call-answer.ensures _ c.is_answered.ensures v.if-is_answered.true _
            v.is_written.ensures (sym v.value-is ∙ w.if-is_written.false)
        | else-is_answered v ↦
            other_numbers _ _ _ _ _ _ _ _ _ c.call-answer.ensures _ c.is_answered.ensures v.if-is_answered.false
      ]
    ])
