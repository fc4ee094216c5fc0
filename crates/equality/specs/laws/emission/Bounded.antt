-- The answer to a well-formed batch is what tracing without the bound on places and emission give, or 11, which is said where a 1,025th place
-- is needed and nowhere else.
use Rattle.std.specs.Prelude.{◌≡◌, true, ◌||◌, List, [], ◌∷◌, ◌++◌, ◌⊎◌, ◌↔◌, ℕ, suc, ◌≤◌, length}
use Rattle.std.proofs.Math.Path.{refl, ap}
use Rattle.std.proofs.Common.{sym, ◌∙◌, length-append}
use Rattle.std.proofs.Math.Bool.{false}
use Rattle.std.proofs.Math.Logic.{inl, inr}
use native.Mathlib.Omega.{arith}
use Rattle.std.proofs.Math.Dec.{eqb}
use borrow.Author.Tests.{le-ltb, eqb-true, eqb-false}
use Rattle.logic.specs.Test.{when◌then◌else◌}
use Rattle.logic.specs.laws.Test.{cases, neither}
use Rattle.refusal.specs.Number.{too_many_places, bad_command, bad_name, bad_key}
use Rattle.model.specs.Result.{Result, accepted, refused, ◌>>=◌}
use Rattle.model.specs.Tracing.{Tree, fresh, place_limit, Counted, trace}
use Rattle.model.specs.Unbounded.{see_all}
use Rattle.model.specs.Bound.{AtMost, needs_all, Exceeds}
use Rattle.model.specs.Emission.{Fields, to_schema}
use Rattle.model.specs.Answer.{table_words, Batch, Buffers, Answer, WellFormed, input_limit, schema_of, turned_down, zeroed, is_short, answer_of, answer}
use Rattle.model.specs.Demand3.{records_of}
use Rattle.equality.specs.laws.Base.{choice, not_refused}
use Rattle.equality.specs.laws.tracing.Refusals.{Between, schema_of_between, schema_between}
use Rattle.equality.specs.laws.reading.WellFormed.{of_reading, Past, schema_of_past}
use Rattle.equality.specs.laws.tracing.Count.{traced}
use Rattle.equality.specs.laws.tracing.Bound.{trace_refused}
use Rattle.equality.specs.laws.tracing.Needs.{trace_reaches, trace_within, accepted_within}
use Rattle.equality.specs.laws.tracing.Ascending.{trace_first}
use Rattle.equality.specs.laws.Proper.{all_proper}
use Rattle.equality.specs.laws.census.Room.{room_enough}
use Rattle.equality.specs.laws.census.Listed.{few_places_lem}
use Rattle.equality.specs.laws.reading.Records.{values_proper}

-- none of 1 to 3 applies
pub read_through : (b : Batch) (lent : Buffers) → WellFormed b → table_words ≤ length lent.table → answer b lent ≡ answer_of b lent (schema_of b)
unfolding answer when◌then◌else◌
read_through b lent w t =
    rw (w.known, le-ltb (length lent.table) table_words t, le-ltb input_limit (length b.commands) w.commands, le-ltb input_limit (length b.text) w.text) refl

-- entries after equally many are the same
same_entry : (xs ys : List ℕ) (p q : ℕ) (us vs : List ℕ) → xs ++ (p ∷ us) ≡ ys ++ (q ∷ vs) → length xs ≡ length ys → p ≡ q
same_entry [] [] p q us vs e h = cc
same_entry [] (y ∷ ys) p q us vs e h = absurd (omega arith)
same_entry (x ∷ xs) [] p q us vs e h = absurd (omega arith)
same_entry (x ∷ xs) (y ∷ ys) p q us vs e h = let f : xs ++ (p ∷ us) ≡ ys ++ (q ∷ vs) = cc in same_entry xs ys p q us vs f (omega arith)

module _ (b : Batch) (lent : Buffers) where
  abbrev gave : Result Fields → Answer
  gave r = answer_of b lent r

  -- without the bound
  abbrev rust : Result Fields
  rust = see_all b.options 0 (records_of b) fresh >>= to_schema b.options (length b.commands)

  unless_eleven : ((gave (schema_of b)).refusal ≡ too_many_places → ⊥) → gave (schema_of b) ≡ gave rust
  unfolding schema_of answer_of
  unless_eleven h = go (trace b.options (records_of b)) refl
    where
      go : (r : Result (Counted Tree)) → r ≡ trace b.options (records_of b) → gave (schema_of b) ≡ gave rust
      go (accepted c) e = rw (← e, (traced b.options (records_of b) c (sym e)).0) refl
      go (refused n place) e =
          let h' : n ≡ too_many_places → ⊥ = rw (← e) at h in
          rw (← e, trace_refused b.options (records_of b) n place (sym e) h') refl

  -- emission does not refuse for places
  not_eleven : (r : Result Fields) → Between 12 17 (length b.commands) r → (gave r).refusal ≡ too_many_places → ⊥
  unfolding answer_of
  not_eleven (refused n place) (low, high, at) e = omega arith
  not_eleven (accepted schema) k e = choice (λ (a : Answer). a.refusal ≡ too_many_places → ⊥) (is_short schema lent) (λ _ e. omega arith) (λ _ e. omega arith) e

  -- where the answer is 11, tracing was refused so, at that place
  eleven_traced : {P : Type 0} → (gave (schema_of b)).refusal ≡ too_many_places
      → ((p : ℕ) → trace b.options (records_of b) ≡ refused too_many_places p → gave (schema_of b) ≡ turned_down too_many_places p (zeroed lent) → P) → P
  unfolding schema_of answer_of
  eleven_traced {P} h k = go (trace b.options (records_of b)) refl
    where
      go : (r : Result (Counted Tree)) → r ≡ trace b.options (records_of b) → P
      go (accepted c) e =
          let h' : (gave (to_schema b.options (length b.commands) c.what)).refusal ≡ too_many_places = rw (← e) at h in
          absurd (not_eleven (to_schema b.options (length b.commands) c.what) (schema_between b.options (length b.commands) c.what) h')
      go (refused n p) e =
          let h' : n ≡ too_many_places = rw (← e) at h in
          k p (sym e ∙ ap (λ (m : ℕ). refused m p) h') (rw (← e, h') refl)

  proper : WellFormed b → all_proper b.options (records_of b) ≡ true
  proper w = values_proper b.options b.commands b.text w.whole

  -- 11 at p is said exactly where the command at p is the first that needs a 1,025th place
  exceeds : WellFormed b → (p : ℕ) → trace b.options (records_of b) ≡ refused too_many_places p → Exceeds b.options (records_of b) p
  exceeds w p e =
      let r = trace_reaches b.options (records_of b) p w.whole e in
      record {
        before = r.before;
        after = r.after;
        is = r.is;
        full = omega (arith, r.full);
        unrefused = λ m q f. trace_first b.options b.commands b.text p m q w.whole e f;
      }

  said : WellFormed b → (p : ℕ) → Exceeds b.options (records_of b) p → trace b.options (records_of b) ≡ refused too_many_places p
  said w p x = go (trace b.options (records_of b)) refl
    where
      long : suc (length (needs_all b.options (records_of b) fresh)) ≤ place_limit → ⊥
      long l = omega (arith, l, x.full, ap length x.is, length-append x.before (p ∷ x.after))

      there : (n q : ℕ) → trace b.options (records_of b) ≡ refused n q → n ≡ too_many_places → ◌≡◌ {A = Result (Counted Tree)} (refused n q) (refused too_many_places p)
      there n q e is =
          let r = trace_reaches b.options (records_of b) q w.whole (e ∙ ap (λ (m : ℕ). refused m q) is) in
          let same_place : q ≡ p = same_entry r.before x.before q p r.after x.after (sym r.is ∙ x.is) (omega (arith, r.full, x.full)) in
          rw (is, same_place) refl

      go : (r : Result (Counted Tree)) → trace b.options (records_of b) ≡ r → r ≡ refused too_many_places p
      go (accepted c) e = absurd (long (accepted_within b.options (records_of b) c e))
      go (refused n q) e =
          cases (eqb n too_many_places)
          (λ f. there n q e (eqb-true n too_many_places f))
          (λ f. absurd (long (trace_within b.options (records_of b) n q (eqb-false n too_many_places f) e)))

  pub exactly : WellFormed b → (p : ℕ) → (gave (schema_of b) ≡ turned_down too_many_places p (zeroed lent)) ↔ Exceeds b.options (records_of b) p
  unfolding schema_of answer_of
  exactly w p = (
    λ h.
        eleven_traced (ap (λ (a : Answer). a.refusal) h) λ q e is.
        let same_place : q ≡ p = ap (λ (a : Answer). a.place) (sym is ∙ h) in
        rw (← same_place) (exceeds w q e),
    λ x. rw (said w p x) refl,
  )

  -- there is room for a batch of at most 1,024 places
  not_crowded : WellFormed b → AtMost place_limit b.options (records_of b) → (gave (schema_of b)).refusal ≡ too_many_places → ⊥
  not_crowded w few h = eleven_traced h λ p e _. room_enough b.options (records_of b) p w.whole (proper w) few e

  pub as_demanded : WellFormed b → AtMost place_limit b.options (records_of b) → gave (schema_of b) ≡ gave rust
  as_demanded w few = unless_eleven (not_crowded w few)

  pub as_unbounded : WellFormed b → ((p : ℕ) → Exceeds b.options (records_of b) p → ⊥) → gave (schema_of b) ≡ gave rust
  as_unbounded w none = unless_eleven λ h. eleven_traced h λ p e _. none p (exceeds w p e)

  -- of what is traced to the end without the bound, 11 is said exactly if the census knows more places
  pub by_census : WellFormed b → (tree : Tree) → see_all b.options 0 (records_of b) fresh ≡ accepted tree
      → ((gave (schema_of b)).refusal ≡ too_many_places) ↔ (AtMost place_limit b.options (records_of b) → ⊥)
  unfolding schema_of answer_of
  by_census w tree seen = (λ h few. not_crowded w few h, λ many. go many (trace b.options (records_of b)) refl)
    where
      go : (AtMost place_limit b.options (records_of b) → ⊥) → (r : Result (Counted Tree)) → trace b.options (records_of b) ≡ r → (gave (schema_of b)).refusal ≡ too_many_places
      go many (accepted c) e = absurd (many (few_places_lem b.options (records_of b) c e (proper w)))
      go many (refused n p) e =
          cases (eqb n too_many_places)
          (λ f. rw (e, eqb-true n too_many_places f) refl)
          (λ f. not_refused (sym (trace_refused b.options (records_of b) n p e (eqb-false n too_many_places f)) ∙ seen))

  read_past : (r : Result Fields) → Past r → Between 4 17 (length b.commands) r → ((gave r).refusal ≡ 0) ⊎ (7 ≤ (gave r).refusal)
  unfolding answer_of
  read_past (refused n place) p (low, high, at) = inr (seven n low p)
    where
      seven : (n : ℕ) → 4 ≤ n → of_reading n ≡ false → 7 ≤ n
      seven n low p =
          neither (eqb n bad_command || eqb n bad_name) (eqb n bad_key) p λ rest six. neither (eqb n bad_command) (eqb n bad_name) rest λ four five.
          let a : n ≡ bad_command → ⊥ = eqb-false n bad_command four in
          let c : n ≡ bad_name → ⊥ = eqb-false n bad_name five in
          let d : n ≡ bad_key → ⊥ = eqb-false n bad_key six in
          omega arith
  read_past (accepted schema) p k = choice (λ (a : Answer). (a.refusal ≡ 0) ⊎ (7 ≤ a.refusal)) (is_short schema lent) (λ _. inr (omega arith)) (λ _. inl refl)

  pub past_reading : WellFormed b → ((gave (schema_of b)).refusal ≡ 0) ⊎ (7 ≤ (gave (schema_of b)).refusal)
  past_reading w = read_past (schema_of b) (schema_of_past b w.whole) (schema_of_between b)
