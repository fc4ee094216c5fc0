-- Laws of agreement: what is left of the call is what is stored if each part of it is.
use Rattle.std.specs.Prelude.{◌≡◌, refl, Bool, true, false, List, ◌↔◌, ℕ, ◌+◌, ◌-◌, ◌*◌, ◌<◌, ◌≤◌, ltb, length, replicate}
use Rattle.std.proofs.Math.Path.{sym, ap}
use Rattle.std.proofs.Common.{subst, ◌∙◌, arith, eqb-true, eq-eqb, le-leb}
use Rattle.std.proofs.lemmas.Bool.{lt-leb}
use Rattle.logic.specs.laws.Test.{both, same_test}
use Rattle.logic.specs.laws.Flag.{if_either}
use Rattle.text.specs.laws.Name.{eq_name_true, eq_name_refl}
use Rattle.files.specs.Bytes.{between}
use Rattle.questions.specs.Question.{header_bytes, number_at, names_from, commands_in, text_in, records_in, question_end}
use Rattle.questions.specs.Left.{lent_byte, lent_word, lent_bytes, lent_buffer, written_over, left_table, Answered}
use Rattle.questions.specs.laws.Left.{no, unlike, rest_is}
use Rattle.replay.specs.Records.{IsEnd}
use Rattle.model.specs.Answer.{Answer}
use Rattle.call.specs.Call.{lent}
use Rattle.fasthrom.specs.declared.Answer as R
use Rattle.fasthrom.specs.Called.{said}
use Rattle.answers_vectors.specs.Agrees.{answer_over, table_lent, patterned, stored, handed, Gives, same_answer, agrees}

module _ (question commands text records names : List ℕ) (r : R.Answer) (t f n : List ℕ)
    (call : said r (lent t f n)
    ≡ answer_over question (handed question commands text) (lent (replicate table_lent lent_word) (replicate lent_bytes lent_byte) (replicate lent_bytes lent_byte)))
  where
    abbrev Met : Type 0
    Met = Gives question commands text records names

    gave : said r (lent t f n) ≡ answer_over question (handed question commands text) patterned
    unfolding patterned lent_buffer
    gave = call

    abbrev Numbers : Type 0
    Numbers = Answered question r.refusal r.place r.field_records r.name_bytes r.columns

    met_numbers : Met → Numbers
    unfolding stored
    met_numbers g =
        let same = gave ∙ g in (
          ap (λ (a : Answer). a.refusal) same,
          ap (λ (a : Answer). a.place) same,
          ap (λ (a : Answer). a.field_records) same,
          ap (λ (a : Answer). a.name_bytes) same,
          ap (λ (a : Answer). a.columns) same,
        )

    met_fields : Met → f ≡ written_over records
    unfolding stored
    met_fields g = ap (λ (a : Answer). a.left.fields) (gave ∙ g)

    met_names : Met → n ≡ written_over names
    unfolding stored
    met_names g = ap (λ (a : Answer). a.left.names) (gave ∙ g)

    met_table : Met → t ≡ left_table (number_at question 5) table_lent
    unfolding stored
    met_table g = ap (λ (a : Answer). a.left.table) (gave ∙ g)

    met : Numbers → f ≡ written_over records → n ≡ written_over names → t ≡ left_table (number_at question 5) table_lent → Met
    unfolding stored
    met h ef en et = sym gave ∙ rw (h.0, h.1, h.2, h.3, h.4, ef, en, et)

    -- ---- by what looking at each part answers
    module _ (answered : Bool) (da : (answered ≡ true) ↔ Numbers) where
      pub other_numbers : answered ≡ false → (false ≡ true) ↔ Met
      other_numbers h = no Met (λ g. unlike answered h (da.1 (met_numbers g)))

      module _ (ha : answered ≡ true) (fields : Bool) (df : (fields ≡ true) ↔ (f ≡ written_over records)) where
        pub other_fields : fields ≡ false → (false ≡ true) ↔ Met
        other_fields h = no Met (λ g. unlike fields h (df.1 (met_fields g)))

        module _ (hf : fields ≡ true) (named : Bool) (dn : (named ≡ true) ↔ (n ≡ written_over names)) where
          pub other_names : named ≡ false → (false ≡ true) ↔ Met
          other_names h = no Met (λ g. unlike named h (dn.1 (met_names g)))

          pub met_left : named ≡ true → (left : Bool) → length t ≡ table_lent → (left ≡ true) ↔ (t ≡ left_table r.refusal (length t)) → (left ≡ true) ↔ Met
          met_left hn left size dl =
              ((λ h. met (da.0 ha) (df.0 hf) (dn.0 hn) (dl.0 h ∙ as_stored)), λ g. dl.1 (met_table g ∙ sym as_stored))
            where
              as_stored : left_table r.refusal (length t) ≡ left_table (number_at question 5) table_lent
              as_stored = rw ((da.0 ha).0, size)

-- ---- equality as a test
same_answer_lem : (a : Answer) → same_answer a a ≡ true
unfolding same_answer
same_answer_lem a =
    rw (
      eq-eqb a.refusal a.refusal refl,
      eq-eqb a.place a.place refl,
      eq-eqb a.columns a.columns refl,
      eq-eqb a.field_records a.field_records refl,
      eq-eqb a.name_bytes a.name_bytes refl,
      eq_name_refl a.left.table,
      eq_name_refl a.left.fields,
      eq_name_refl a.left.names,
    )

made : (refusal place records bytes columns : ℕ) (table fields names : List ℕ) → Answer
made refusal place records bytes columns table fields names =
    record { refusal = refusal; place = place; field_records = records; name_bytes = bytes; columns = columns; left = lent table fields names }

made_same : {r r' p p' f f' n n' c c' : ℕ} {t t' g g' h h' : List ℕ} → r ≡ r' → p ≡ p' → f ≡ f' → n ≡ n' → c ≡ c' → t ≡ t' → g ≡ g' → h ≡ h' →
    made r p f n c t g h ≡ made r' p' f' n' c' t' g' h'
made_same er ep ef en ec et eg eh = cc

is_answer : (a b : Answer) → same_answer a b ≡ true → a ≡ b
unfolding same_answer made
is_answer a b e =
    both _ _ e (λ x y. both _ _ x (λ r x'. both _ _ x' (λ p c. both _ _ y (λ z w. both _ _ z (λ f n. both _ _ w (λ t w'. both _ _ w' (λ g h.
    made_same (eqb-true _ _ r) (eqb-true _ _ p) (eqb-true _ _ f) (eqb-true _ _ n) (eqb-true _ _ c) (eq_name_true _ _ t) (eq_name_true _ _ g)
    (eq_name_true _ _ h))))))))

-- an answer that decides an equation is its test
tested : (a b : Answer) (r : Bool) → (r ≡ true) ↔ (a ≡ b) → r ≡ same_answer a b
tested a b r d =
    same_test r (same_answer a b) (λ e. subst (λ (x : Answer). same_answer a x ≡ true) (d.0 e) (same_answer_lem a)) (λ e. d.1 (is_answer a b e))

-- ---- a question by its parts, as code lends them
pub agrees_short : (question : List ℕ) → length question < names_from question → false ≡ agrees question
unfolding agrees
agrees_short question h = rw (lt-leb (names_from question) (length question) h)

parts : (question : List ℕ) (room : names_from question ≤ length question) (r : Bool) →
    (r ≡ true) ↔ Gives question (commands_in question) (text_in question) (records_in question) (between (names_from question) (length question) question) →
    r ≡ agrees question
unfolding agrees
parts question room r d =
    let d' = rw (rest_is (names_from question) question) at d in
    rw (le-leb (names_from question) (length question) room) (tested _ _ r d')

pub agrees_by : (question : List ℕ) (a b d : ℕ) (r : Bool) → a ≡ number_at question 1 → b ≡ number_at question 2 → d ≡ number_at question 7 →
    32 + a + b + d * 8 ≤ length question →
    (r ≡ true) ↔ Gives question (between 32 (32 + a) question) (between (32 + a) (32 + a + b) question) (between (32 + a + b) (32 + a + b + d * 8) question)
    (between (32 + a + b + d * 8) (length question) question) → r ≡ agrees question
agrees_by question a b d r ea eb ed room iff = parts question (omega arith) r (rw (ea, eb, ed) at iff)

-- ---- the questions of a file
pub question_is_end : (vectors : List ℕ) (at : ℕ) → at < length vectors → IsEnd vectors at 0 (question_end vectors at)
unfolding question_end
question_is_end vectors at h =
    if_either (λ n. IsEnd vectors at 0 n) (ltb (length vectors - at) header_bytes) (omega arith, omega arith, omega arith)
    (omega arith, omega arith, omega arith)
