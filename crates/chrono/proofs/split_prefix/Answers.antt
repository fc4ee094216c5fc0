-- `split_prefix`: what the library strips is what the grammar of the word leaves.
use Rattle.std.proofs.Common.{◌≡◌, refl, ap, ◌∙◌, true, false, nat_eq, List, [], ◌∷◌, ℕ, ◌+◌, length, take, drop, Option, Some, None, option_copied, MatchOption}
use Rattle.std.specs.Borrow.{Bor}
use Rattle.std.specs.Cmp.Lexicographic.{pointwise}
use Rattle.std.proofs.lemmas.Bool.{false≢true}
use Rattle.logic.specs.laws.Test.{cases}
use Rattle.chrono.specs.Grammar.{word}
use Rattle.chrono.specs.Scan.{scan}
use Rattle.chrono.proofs.split_prefix.Goals as goal

stripped : (w s : List ℕ) → pointwise nat_eq (take (length w) s) w ≡ true → Some (drop (length w) s) ≡ scan (word w) s
unfolding scan
stripped [] s e = refl
stripped (b ∷ w) [] e = absurd (false≢true e)
stripped (b ∷ w) (c ∷ s) e = cases (nat_eq c b) (λ p. rw p (stripped w s (rw p at e))) (λ p. absurd (false≢true (rw p at e)))

left : (w s : List ℕ) → pointwise nat_eq (take (length w) s) w ≡ false → None ≡ scan (word w) s
unfolding scan
left [] s e = cc
left (b ∷ w) [] e = refl
left (b ∷ w) (c ∷ s) e = cases (nat_eq c b) (λ p. rw p (left w s (rw p at e))) (λ p. rw p)

split : (w s : List ℕ) (r : Option (Bor (List ℕ))) → MatchOption r (pointwise nat_eq (take (length w) s) w ≡ false) (λ x. (pointwise nat_eq (take (length w) s) w ≡ true) × (x.now ≡ drop (length w) s) × (length x.now + length w ≡ length s)) → option_copied r ≡ scan (word w) s
split w s None h = left w s h
split w s (Some x) h = ap Some h.1 ∙ stripped w s h.0

pub returns : goal.returns
returns c = split _ _ _ c.strip_prefix.ensures.cases
