-- Laws of reading a place: a step comes back from its word and its name, names end inside the text, links are places.
use Rattle.std.specs.Prelude.{◌≡◌, refl, List, ℕ, ◌+◌, ◌*◌, ◌%◌, ◌<◌, eqb, ltb}
use Rattle.std.proofs.Common.{sym, ap, arith, eq-eqb, ne_eqb, ltb-true}
use Rattle.logic.specs.Test.{when◌then◌else◌}
use Rattle.logic.specs.laws.Test.{cases}
use Rattle.logic.specs.laws.Flag.{if_either}
use Rattle.words.specs.Word.{IsRow, word}
use Rattle.text.specs.declared.Name.{Name}
use Rattle.model.specs.Kinds.{variant_of}
use Rattle.model.specs.Tracing.{place_limit}
use Rattle.shapes.specs.declared.Step.{Step}
use Rattle.shapes.specs.declared.Step.TheVariants as S
use Rattle.shapes.specs.Steps.{code_of, field_code, Inside}
use Rattle.places.specs.Layout.{step_word, Linked}
use Rattle.places.specs.Reading.{given_name, number_in, step_of, step_at, variant_in, step_in, link_at}

-- ---- a step and its word
-- the number that its word holds
abbrev pub number_of : Step → ℕ
number_of S.Element = 0
number_of S.Key = 0
number_of S.Value = 0
number_of (S.Field name) = 0
number_of (S.Position i) = i
number_of (S.Variant number name) = number

-- its name, where it has one, is the one that the text gave
abbrev pub HasName : Name → Step → Type 0
HasName given S.Element = Unit {0}
HasName given S.Key = Unit {0}
HasName given S.Value = Unit {0}
HasName given (S.Field name) = name ≡ given
HasName given (S.Position i) = Unit {0}
HasName given (S.Variant number name) = name ≡ given

-- it comes back from its word and the name given, where its number is of 16 bits
pub step_back_lem : (given : Name) (s : Step) → number_of s < 65536 → HasName given s → step_of (code_of s) given ≡ s
unfolding step_of when◌then◌else◌
step_back_lem given S.Element l h = refl
step_back_lem given S.Key l h = refl
step_back_lem given S.Value l h = refl
step_back_lem given (S.Field name) l h = ap S.Field (sym h)
step_back_lem given (S.Position i) l h =
    let n : number_in (4 + 2 * i) ≡ i = omega arith in
    rw (ne_eqb (4 + 2 * i) 0 (omega arith), ne_eqb (4 + 2 * i) 1 (omega arith), ne_eqb (4 + 2 * i) 2 (omega arith), ne_eqb (4 + 2 * i) 3 (omega arith), eq-eqb ((4 + 2 * i) % 2) 0 (omega arith), n)
step_back_lem given (S.Variant number name) l h =
    let n : number_in (5 + 2 * number) ≡ number = omega arith in
    rw (
      ne_eqb (5 + 2 * number) 0 (omega arith),
      ne_eqb (5 + 2 * number) 1 (omega arith),
      ne_eqb (5 + 2 * number) 2 (omega arith),
      ne_eqb
          (5 + 2 * number) 3 (omega arith),
      ne_eqb ((5 + 2 * number) % 2) 0 (omega arith),
      n,
    )
    (ap (S.Variant number) (sym h))

-- its variant number is the model's
pub variant_in_lem : (text : List ℕ) (s : Step) → variant_in s ≡ variant_of (step_in text s)
variant_in_lem text S.Element = refl
variant_in_lem text S.Key = refl
variant_in_lem text S.Value = refl
variant_in_lem text (S.Field name) = refl
variant_in_lem text (S.Position i) = refl
variant_in_lem text (S.Variant number name) = refl

-- and whatever the word is, a step that is read has no other name
has_name : (code : ℕ) (given : Name) → HasName given (step_of code given)
unfolding step_of
has_name code given =
    if_either (HasName given) (eqb code 0) tt
    (if_either (HasName given) (eqb code 1) tt
    (if_either (HasName given) (eqb code 2) tt
    (if_either (HasName given) (eqb code field_code) refl
    (if_either (HasName given) (eqb (code % 2) 0) tt refl))))

module _ (text t : List ℕ) (child : ℕ) where
  named : (step : Step) → step_at t child ≡ step → HasName (given_name t child) step
  named step e = rw e at (has_name (word t child step_word) (given_name t child))

  pub field_inside : (name : Name) → Linked text t place_limit → IsRow child → step_at t child ≡ S.Field name → Inside text name
  field_inside name links here e = rw (named (S.Field name) e) (links.names child here)

  pub variant_inside : (number : ℕ) (name : Name) → Linked text t place_limit → IsRow child → step_at t child ≡ S.Variant number name → Inside text name
  variant_inside number name links here e = rw (named (S.Variant number name) e) (links.names child here)

-- ---- a link leads to a place
pub link_below : (t : List ℕ) (place field : ℕ) → IsRow (link_at t place field)
unfolding link_at when◌then◌else◌
link_below t place field = cases (ltb (word t place field) place_limit) (λ e. rw e (ltb-true (word t place field) place_limit e)) (λ e. rw e (omega arith))
