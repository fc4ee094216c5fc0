-- `text_kind`: where dates are not guessed a text is a string.
use borrow.Author.Rules.{rules}
use mathlib.Core.Path.{◌≡◌, ◌∙◌}
use mathlib.Core.Bool.{Bool, false}
use mathlib.Core.List.{List}
use Prim.Native.Nat.{ℕ}
use Rattle.logic.specs.Test.{when◌then◌else◌}
use Rattle.options.specs.Word.{guess_dates, string_type}
use Rattle.chrono.specs.Text.{text_type}
use Rattle.shapes.proofs.text_kind.Goals as goal

no_date : (word : ℕ) (s : List ℕ) (guess : Bool) (kind code : ℕ) → guess ≡ guess_dates word → guess ≡ false → kind ≡ code → code ≡ string_type word → kind ≡ text_type word s
unfolding text_type when◌then◌else◌
no_date word s guess kind code g e k c = rw (← g, e) (k ∙ c)

pub returns : goal.returns
returns c = search (no_date, rules)
