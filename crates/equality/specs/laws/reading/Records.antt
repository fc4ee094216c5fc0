-- One step of the records.
use Rattle.std.specs.Prelude.{◌≡◌, true, List, [], ◌∷◌, ltb, length}
use Rattle.std.proofs.Math.Path.{refl, ap}
use Rattle.std.proofs.Common.{sym, ◌∙◌, true≢false, ltb-true, ltb-false, lt-ltb, le-ltb}
use Rattle.std.proofs.Math.Option.{none, some}
use Prim.Native.Nat.{ℕ, zero, suc, ◌≤◌, ◌<◌}
use Rattle.logic.specs.laws.Test.{cases}
use Rattle.model.specs.Reading.{Value, Got, read_value, enough, records_from, values, is_whole, all_whole}
use Rattle.equality.specs.laws.Base.{and_left, and_right, and_both}
use Rattle.equality.specs.laws.Proper.{all_proper}
use Rattle.equality.specs.laws.reading.Steps.{option_cases}
use Rattle.equality.specs.laws.reading.Proper.{value_proper}
use Rattle.equality.specs.laws.reading.Values.{done, value_whole}

-- ---- one step of the records
module _ (options : ℕ) (commands text : List ℕ) where
  abbrev pub record_at : ℕ → Got Value
  record_at at = read_value (enough commands) options commands text at

  pub records_end : (f at : ℕ) → length commands ≤ at → records_from f options commands text at ≡ []
  unfolding records_from
  records_end zero at h = refl
  records_end (suc f) at h = rw (le-ltb at (length commands) h, records_from)

  pub records_cut : (f at : ℕ) → at < length commands → (record_at at).1 ≡ none → records_from (suc f) options commands text at ≡ (record_at at).0 ∷ []
  unfolding records_from
  records_cut f at h e = rw (lt-ltb at (length commands) h, records_from) (rw e)

  pub records_more : (f at b : ℕ) → at < length commands → (record_at at).1 ≡ some b →
      records_from (suc f) options commands text at ≡ (record_at at).0 ∷ records_from f options commands text b
  unfolding records_from
  records_more f at b h e = rw (lt-ltb at (length commands) h, records_from) (rw e)

pub record_cases : {P : Type 0} (options : ℕ) (commands text : List ℕ) (at : ℕ) → (length commands ≤ at → P) → (at < length commands → (record_at options commands text at).1 ≡ none → P) →
    ((b : ℕ) → at < length commands → (record_at options commands text at).1 ≡ some b → P) → P
record_cases options commands text at k l m =
    cases (ltb at (length commands))
    (λ e. option_cases (record_at options commands text at).1 (l (ltb-true at (length commands) e)) (λ b. m b (ltb-true at (length commands) e)))
    (λ e. k (ltb-false at (length commands) e))

module _ (options : ℕ) (commands text : List ℕ) where
  records_proper : (f at : ℕ) → all_whole (records_from f options commands text at) ≡ true → all_proper options (records_from f options commands text at) ≡ true
  unfolding records_from all_whole all_proper
  records_proper zero at = λ _. refl
  records_proper (suc f) at =
      record_cases options commands text at
      (λ h. rw (records_end options commands text (suc f) at h) (λ _. refl))
      (λ h e. rw (records_cut options commands text f at h e) (λ w. absurd (true≢false (sym (and_left _ _ w) ∙ value_whole options commands text (enough commands) at ∙ ap done e))))
      (λ b h e. rw (records_more options commands text f at b h e)
      (λ w. and_both (value_proper options commands text (enough commands) at (and_left _ _ w))
      (records_proper f b (and_right (is_whole (record_at options commands text at).0) _ w))))

  -- the values of a batch that is read through are proper
  pub values_proper : all_whole (values options commands text) ≡ true → all_proper options (values options commands text) ≡ true
  unfolding values
  values_proper = records_proper (length commands) 0
