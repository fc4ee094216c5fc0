-- An outcome: what was asked for, or a refusal with its place.
use Rattle.std.proofs.Math.Option.{Option, none, some}
use Rattle.std.specs.Prelude.{ℕ}

-- a refusal has its number and its place (document 01, "Eighteen ways to be turned down")
pub data Result (A : Type 0) : Type 0 where
  accepted : A → Result A
  refused : ℕ → ℕ → Result A

infixl 10 ◌>>=◌
-- one step after another, as long as none is refused
abbrev pub ◌>>=◌ : {A B : Type 0} → Result A → (A → Result B) → Result B
accepted a >>= f = f a
refused number place >>= f = refused number place

-- an answer where there is one, or else a refusal
abbrev pub or_refused : {A : Type 0} → ℕ → ℕ → Option A → Result A
or_refused number place none = refused number place
or_refused number place (some a) = accepted a
