-- A child that was ensured or added, and then touched.
use Rattle.std.proofs.Common.{◌≡◌, ℕ, ◌<◌, List, Result, Ok, Err, IfOk}
use Rattle.refusal.specs.declared.Refusal.{Refusal}
use Rattle.places.specs.Layout.{Sound}
use Rattle.growth.specs.Growth.{found, counted, touched}
use Rattle.growth.specs.laws.Growth.{sound_touched}

module _ (r : Result ℕ Refusal) (m : ℕ) where
  pub was_child : (child : ℕ) → r ≡ Ok child → counted r m ≡ Ok (found child m)
  was_child child is = rw is

  pub was_refused : (refusal : Refusal) → r ≡ Err refusal → counted r m ≡ Err refusal
  was_refused refusal is = rw is

  pub child_here : (child : ℕ) → r ≡ Ok child → IfOk r (λ c. c < m) → child < m
  child_here child is h = rw is at h

  pub touched_sound : (text u v : List ℕ) (place child : ℕ) → v ≡ touched place child u → r ≡ Ok child → IfOk r (λ c. c < m) → Sound text u m → Sound text v m
  touched_sound text u v place child e is h s = sound_touched text u v m place child e (child_here child is h) s

pub none_here : (s : Result ℕ Refusal) (refusal : Refusal) (m : ℕ) → s ≡ Err refusal → IfOk s (λ c. c < m)
none_here s refusal m is = rw is tt
