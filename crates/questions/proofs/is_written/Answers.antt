-- `is_written` compares the first bytes, and then the others.
use Rattle.std.proofs.Common.{◌≡◌, ◌↔◌, ◌+◌, ◌-◌, true, List, ℕ, Bool, length, take, drop, replicate, refl, sym, ap, ◌∙◌, subst, arith}
use Rattle.std.proofs.lemmas.Bool.Decides.{Decides-eqb}
use Rattle.std.proofs.lemmas.List.{take-replicate, drop-replicate}
use Rattle.std.proofs.lemmas.Slice.Eq.{slice_eq-Decides}
use Rattle.questions.specs.Left.{lent_byte, lent_bytes}
use Rattle.questions.specs.laws.Left.{all_alike, rest_is, written_other, written_by_rest}
use Rattle.questions.proofs.is_written.Goals as goal

module _ (buffer bytes part : List ℕ) (r : Bool) (size : length buffer ≡ lent_bytes) (enough : length part + length bytes ≡ length buffer) where
  abbrev lent : List ℕ
  lent = take (lent_bytes - length bytes) (drop (length bytes) (replicate lent_bytes lent_byte))

  as_lent : replicate (length part) lent_byte ≡ lent
  as_lent =
      let all : length part ≡ lent_bytes - length bytes = omega (arith, size, enough) in
      ap (λ n. replicate n lent_byte) all
      ∙ sym (ap (take (lent_bytes - length bytes)) (drop-replicate (length bytes) lent_bytes lent_byte)
      ∙ take-replicate (lent_bytes - length bytes) (lent_bytes - length bytes) lent_byte (omega arith))

  of_rest : part ≡ drop (length bytes) buffer → (r ≡ true) ↔ (part ≡ replicate (length part) lent_byte) →
      (r ≡ true) ↔ (take (length buffer - length bytes) (drop (length bytes) buffer) ≡ lent)
  of_rest e d =
      subst (λ xs. (r ≡ true) ↔ (xs ≡ lent)) (e ∙ sym (rest_is (length bytes) buffer))
      (subst (λ xs. (r ≡ true) ↔ (part ≡ xs)) as_lent d)

pub returns-in-Some : goal.returns-in-Some
returns-in-Some c =
    let rest = c.in-Some.ensures.cases in
    written_by_rest _ _ _ (slice_eq-Decides Decides-eqb _ _ _ refl) rest.0 _
    (of_rest _ _ _ _ c.requires rest.2 rest.1 (all_alike _ _ _ c.is_all.ensures))

pub returns-in-None : goal.returns-in-None
returns-in-None c = written_other _ _ _ (slice_eq-Decides Decides-eqb _ _ _ refl) c.in-None.ensures.cases
