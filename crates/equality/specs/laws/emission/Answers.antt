-- How a call ends: turned down before the commands are read, turned down later, or with the whole schema.
use Rattle.std.specs.Prelude.{◌≡◌, refl, false, ◌||◌, ℕ, ◌≤◌, ltb, length}
use Rattle.std.proofs.Common.{zero-le, le_refl, arith, ltb-false}
use Rattle.logic.specs.laws.Test.{neither}
use Rattle.refusal.specs.Number.{short_buffer}
use Rattle.model.specs.Result.{Result, accepted, refused}
use Rattle.model.specs.Emission.{Fields}
use Rattle.model.specs.Answer.{Batch, Buffers, Answer, input_limit, schema_of, is_short, turned_down, zeroed, with_schema, answer_of, answer}
use Rattle.equality.specs.laws.Base.{choice}
use Rattle.equality.specs.laws.tracing.Refusals.{Between, schema_of_between}

pub data Ending (b : Batch) (lent : Buffers) : Answer → Type 0 where
  barred : (n : ℕ) → 1 ≤ n → n ≤ 3 → Ending b lent (turned_down n 0 lent)
  turned : (n place : ℕ) → 4 ≤ n → n ≤ 18 → place ≤ length b.commands → length b.commands ≤ input_limit → Ending b lent (turned_down n place (zeroed lent))
  whole : (schema : Fields) → schema_of b ≡ accepted schema → is_short schema lent ≡ false → Ending b lent (with_schema schema lent)

outcome_ends : (b : Batch) (lent : Buffers) (r : Result Fields) → schema_of b ≡ r → Between 4 17 (length b.commands) r → length b.commands ≤ input_limit → Ending b lent (answer_of b lent r)
unfolding answer_of
outcome_ends b lent (refused n place) e h l = turned n place h.0 (let k = h.1 in omega arith) h.2 l
outcome_ends b lent (accepted schema) e h l =
    choice (Ending b lent) (is_short schema lent) (λ _. turned short_buffer (length b.commands) (omega arith) (omega arith) (le_refl (length b.commands)) l) (λ s. whole schema e s)

pub answer_ends : (b : Batch) (lent : Buffers) → Ending b lent (answer b lent)
unfolding answer
answer_ends b lent =
    choice (Ending b lent) _ (λ _. barred 1 (omega arith) (omega arith)) λ _.
    choice (Ending b lent) _ (λ _. barred 2 (omega arith) (omega arith)) λ _.
    choice (Ending b lent) (ltb input_limit (length b.commands) || ltb input_limit (length b.text)) (λ _. barred 3 (omega arith) (omega arith)) λ s.
    outcome_ends b lent (schema_of b) refl (schema_of_between b) (neither (ltb input_limit (length b.commands)) _ s λ p q. ltb-false input_limit (length b.commands) p)

-- a place fits the 16 bits of an offset
small : (b : Batch) (lent : Buffers) (a : Answer) → Ending b lent a → a.place ≤ input_limit
small b lent a (barred n l h) = zero-le
small b lent a (turned n place l h p q) = omega arith
small b lent a (whole schema e s) = zero-le

pub answer_small : (b : Batch) (lent : Buffers) → (answer b lent).place ≤ input_limit
answer_small b lent = small b lent (answer b lent) (answer_ends b lent)
