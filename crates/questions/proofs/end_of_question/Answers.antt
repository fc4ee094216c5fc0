-- `end_of_question` looks for a header, and then for all that it counts.
use Rattle.std.proofs.Common.{rules, ◌≡◌, ◌+◌, ◌-◌, ◌<◌, ◌≤◌, ℕ, List, length, take, drop, arith, sym, ap, ◌∙◌}
use Rattle.std.specs.Prelude.{min}
use Rattle.std.proofs.lemmas.Bool.{lt-ltb, le-ltb}
use Rattle.std.proofs.lemmas.List.{length-drop}
use Rattle.logic.specs.laws.Test.{if_passed, if_failed}
use Rattle.questions.specs.Question.{header_bytes, question_size, question_end}
use Rattle.questions.specs.laws.Left.{rest_is}
use Rattle.questions.proofs.end_of_question.Goals as goal

module _ (vectors : List ℕ) (at : ℕ) where
  -- what the file has from there on, as code lends it
  abbrev lent : List ℕ
  lent = take (length vectors - at) (drop at vectors)

  size_lent : length lent ≡ length vectors - at
  size_lent = ap length (rest_is at vectors) ∙ length-drop at vectors

  cut : length lent < header_bytes → length vectors ≡ question_end vectors at
  unfolding question_end
  cut h = sym (if_passed _ (lt-ltb _ _ (omega (arith, size_lent, h))))

  whole : (bytes : List ℕ) (size r : ℕ) → bytes ≡ lent → header_bytes ≤ length bytes → size ≡ question_size bytes → r ≡ min (length vectors) (at + size) →
      r ≡ question_end vectors at
  unfolding question_end
  whole bytes size r lends h e f =
      let room : header_bytes ≤ length vectors - at = omega (arith, size_lent, h, ap length lends) in
      f ∙ ap (λ (n : ℕ). min (length vectors) (at + n)) (e ∙ ap question_size (lends ∙ rest_is at vectors))
      ∙ sym (if_failed (length vectors) (le-ltb _ _ room))

pub returns-in-Some : goal.returns-in-Some
returns-in-Some c =
    (whole _ _ _ _ _ c.in-Some.ensures c.in-Some.question.has_header c.size.ensures.value c.end_of.ensures.value, search rules, search rules)

pub returns-in-None : goal.returns-in-None
returns-in-None c = search (cut, rules)
