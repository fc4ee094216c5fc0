-- A result whose refusal was given a place.
use Rattle.std.specs.Prelude.{◌≡◌, Result, Ok, Err}
use Rattle.std.specs.Result.{MatchResult, IsErrAnd}
use Rattle.refusal.specs.declared.Refusal.{Refusal}
use Rattle.refusal.specs.declared.Refused.{Refused}

-- where it is good, it was good before
pub placed_ok : {A : Type 0} (Q : Refusal → Refused → Type 0) (r : Result A Refusal) (q : Result A Refused) →
    MatchResult r (λ x. q ≡ Ok x) (λ e. IsErrAnd q (Q e)) → (x : A) → q ≡ Ok x → r ≡ Ok x
placed_ok {A = A} Q (Ok y) q h x e = let p : ◌≡◌ {A = Result A Refused} (Ok y) (Ok x) = cc in cc
placed_ok Q (Err e) (Ok y) h x p = absurd h
placed_ok Q (Err e) (Err r) h x p = absurd cc
