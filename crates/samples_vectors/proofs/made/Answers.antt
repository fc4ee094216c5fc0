-- `made` has the highest of the numbers that it passes.
use Rattle.std.proofs.Common.{rules, tests, ap, ◌≡◌, ◌∙◌, ◌+◌, ◌<◌, ◌≤◌, ℕ, List, refl, arith, add-one, add-zero}
use Rattle.std.specs.Prelude.{max, zero, suc}
use Rattle.std.specs.List.{fold, range_with_len}
use Rattle.std.specs.Option.{unwrap_or}
use Rattle.std.proofs.lemmas.Iterator.{YieldsList-from_range, YieldsList-from_map}
use Rattle.std.proofs.lemmas.Iterator.Consumers.{reduce_from_yields_List}
use Rattle.std.proofs.lemmas.List.Folds.{max_of_map}
use Rattle.model.specs.Tracing.{place_limit}
use Rattle.places.specs.Layout.{last_word}
use Rattle.places.specs.Reading.{link_at}
use Rattle.places.specs.laws.Reading.{link_below}
use Rattle.samples_vectors.specs.Made.{newest_of, made_in}
use Rattle.samples_vectors.proofs.made.Goals as goal

module _ (t : List ℕ) where
  abbrev last : ℕ → ℕ
  last place = link_at t place last_word

  -- from a place on, with the highest number of those before it
  passed : (n a newest : ℕ) → newest ≡ newest_of t a → fold (λ b place. max b (last place)) newest (range_with_len a n) ≡ newest_of t (a + n)
  unfolding newest_of
  passed zero a newest e = rw add-zero e
  passed (suc n) a newest e =
      let q : a + 1 + n ≡ a + suc n = omega arith in rw q at (passed n (a + 1) (max newest (last a)) (rw (add-one, ← e) refl))

  none : 0 ≡ newest_of t 0
  unfolding newest_of
  none = refl

  all : fold (λ b place. max b (last place)) 0 (range_with_len 0 place_limit) ≡ newest_of t place_limit
  all = passed place_limit 0 0 none

  below : (n : ℕ) → newest_of t n < place_limit
  unfolding newest_of
  below zero = omega arith
  below (suc n) = let l = link_below t n last_word in omega (arith, l, below n)

  made : (newest : ℕ) → newest ≡ newest_of t place_limit → (newest + 1 ≡ made_in t) × (newest + 1 ≤ place_limit)
  made newest e = let b = below place_limit in (ap (λ n. n + 1) e, omega (arith, e, b))

pub returns : goal.returns
returns c =
    let t = c.args.table.now in
    made t _
    (c.unwrap_or-newest.ensures
    ∙ ap (λ o. unwrap_or o 0)
    (reduce_from_yields_List _ c.map.result _ c.max.ensures.ran
    (YieldsList-from_map _ (last t) (YieldsList-from_range 0 place_limit place_limit c.map.ensures.source refl) c.map.ensures.closure
    (λ x r q k. search (rules, tests))))
    ∙ max_of_map (last t) (range_with_len 0 place_limit)
    ∙ all t)
