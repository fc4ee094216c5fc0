-- Elements of a sequence that change nothing: the present sample holds one already, and they are of the type that it has.
use Rattle.std.specs.Prelude.{◌≡◌, true, not, ◌&&◌, Ok}
use Rattle.std.proofs.Math.Path.{refl, ap}
use Rattle.std.proofs.Common.{◌∙◌, drop-cons}
use mathlib.Core.List.{List, [], ◌∷◌}
use Prim.Native.Nat.{ℕ, suc, ◌+◌, ◌<◌}
use native.Mathlib.Omega.{arith}
use borrow.Author.Tests.{eqb-true, eqb-false, eq-eqb, ne_eqb, not-true}
use Rattle.std.proofs.Math.Dec.{eqb}
use Rattle.std.proofs.Math.ListN.{length, get_or, drop, length-drop}
use Rattle.std.proofs.Math.Numerals.{add-one}
use Rattle.std.proofs.Math.Nat.{add-zero}
use Rattle.logic.specs.Test.{when◌then◌else◌}
use Rattle.logic.specs.laws.Test.{cases, both}
use Rattle.logic.specs.Turns.{done, after, turns}
use Rattle.text.specs.Name.{eq_name}
use Rattle.words.specs.Word.{word}
use Rattle.commands.specs.declared.Due.TheVariants as D
use Rattle.commands.specs.Commands.{end_byte}
use Rattle.model.specs.Kinds.{sequence_kind}
use Rattle.model.specs.Tracing.{place_limit}
use Rattle.shapes.specs.declared.Step.TheVariants as S
use Rattle.shapes.specs.declared.Part.TheVariants as P
use Rattle.shapes.specs.Steps.{code_of, no_name}
use Rattle.shapes.specs.Shapes.{part_at}
use Rattle.places.specs.Layout.{kind_word, samples_word, first_word, step_word, name_word, mark_word}
use Rattle.growth.specs.Growth.{found, confirmed, ensuring, ensured_by, ensured, touched}
use Rattle.search.specs.Search.{is_at, find_turn, find_from, child_at}
use Rattle.reading.specs.Reading.{part_read, parts_from, readers}
use Rattle.leaves.specs.Leaves.{traced_to, Out, out, observed}
use Rattle.reading.specs.laws.Readers.{part_child}
use Rattle.opening.specs.laws.Opening.{held_child}
use Rattle.reading.specs.laws.Loops.{element_unnamed, elements_more}
use Rattle.shapes.specs.laws.Bytes.{bare_read, before_text}
use Rattle.shapes.specs.Leaf.{char_byte, plain_kind, is_own_byte}
use Rattle.shapes.specs.laws.Leaf.{own_known}
use Rattle.reading.specs.laws.Leaf.{value_plain}
use Rattle.leaves.specs.laws.Leaves.{observed_again}
use Rattle.runs.specs.Runs.{behind_run, is_held, past_held, past_same, run_of}

own_observed : (options kind levels here behind place n : ℕ) (t : List ℕ) → is_own_byte kind ≡ true → word t place kind_word ≡ kind →
    out (traced_to behind n) t ≡ observed options (eqb kind 0) (plain_kind kind) levels here behind place n t
unfolding plain_kind when◌then◌else◌
own_observed options kind levels here behind place n t own e =
    let small : kind < char_byte = (own_known kind own).1 in
    rw (ne_eqb kind char_byte (λ q. omega arith), ne_eqb kind 0 (own_known kind own).0) (observed_again options kind levels here behind place n t e (omega arith))

-- ---- one such element
-- the child is found, and is not counted again
module _ (place : ℕ) (t : List ℕ) (held : is_held place (word t place first_word) t ≡ true) where
  child : ℕ
  child = word t place first_word

  held_known : (child ≡ 0 → ⊥) × (word t child step_word ≡ 0) × (word t child name_word ≡ 0) × (word t child mark_word ≡ word t place samples_word)
  unfolding is_held child
  held_known =
      both (not (eqb child 0) && eqb (word t child step_word) 0 && eqb (word t child name_word) 0) (eqb (word t child mark_word) (word t place samples_word)) held λ p mark.
      both (not (eqb child 0) && eqb (word t child step_word) 0) (eqb (word t child name_word) 0) p λ q name.
      both (not (eqb child 0)) (eqb (word t child step_word) 0) q λ some step. (
        eqb-false child 0 (not-true (eqb child 0) some),
        eqb-true (word t child step_word) 0 step,
        eqb-true (word t child name_word) 0 name,
        eqb-true
            (word t child mark_word) (word t place samples_word) mark,
      )

  held_touched : t ≡ touched place (word t place first_word) t
  unfolding touched when◌then◌else◌ child
  held_touched = rw (eq-eqb (word t child mark_word) (word t place samples_word) held_known.3) refl

  held_turn : (text : List ℕ) → find_turn text (code_of S.Element) no_name t child ≡ done child
  unfolding find_turn is_at when◌then◌else◌
  held_turn text = rw (ne_eqb child 0 held_known.0, held_known.1) refl

  held_found : (text : List ℕ) → find_from text (code_of S.Element) no_name t child ≡ child
  unfolding find_from turns after
  held_found text = ap (after (λ s. turns (find_turn text (code_of S.Element) no_name t) (λ c. 0) place_limit s)) (held_turn text)

  held_confirmed : (text : List ℕ) (n : ℕ) → confirmed text no_name child n t ≡ Ok (found child n)
  unfolding confirmed eq_name when◌then◌else◌
  held_confirmed text n = rw held_known.2 refl

  held_ensured : (text : List ℕ) (n : ℕ) → ensuring (Ok (found (word t place first_word) n)) t ≡ ensured text place S.Element n t
  unfolding ensured ensured_by child_at when◌then◌else◌ child
  held_ensured text n = rw (held_found text, ne_eqb child 0 held_known.0, held_confirmed text n) refl

-- ---- a run of them
module _ (commands text : List ℕ) (options levels place n : ℕ) (t : List ℕ) (kind : ℕ)
    (held : is_held place (word t place first_word) t ≡ true) (own : is_own_byte kind ≡ true) (has : word t (word t place first_word) kind_word ≡ kind) where
  abbrev rest : ℕ → Out
  rest at = parts_from commands text (readers commands text options levels) sequence_kind 0 place 0 at n t

  module _ (at : ℕ) (inside : at < length commands) (byte : get_or commands at 0 ≡ kind) where
    small : kind < char_byte
    small = (own_known kind own).1

    is_step : Ok (P.Step S.Element at) ≡ part_at commands text sequence_kind 0 0 at
    unfolding part_at when◌then◌else◌
    is_step = let h : kind < char_byte = small in rw (bare_read commands text at kind D.ValueOrEnd byte inside (before_text kind (omega arith)) refl, byte, ne_eqb kind end_byte (λ q. omega arith)) refl

    element : out (traced_to (at + 1) n) t ≡ part_read text (readers commands text options levels) S.Element at at place n t
    element =
        part_child commands text options levels S.Element at at place n t t (Ok (found (word t place first_word) n))
        (held_child text t t n place S.Element (Ok (found (word t place first_word) n)) (held_ensured place t held text n) (found (word t place first_word) n) t refl (held_touched place t held))
        (word t place first_word) n (out (traced_to (at + 1) n) t) refl element_unnamed
        (let h : kind < char_byte = small in
        value_plain commands text at kind options levels (word t place first_word) n t (out (traced_to (at + 1) n) t) byte inside (omega arith)
        (own_observed options kind levels at (at + 1) (word t place first_word) n t own has))

    goes : rest (at + 1) ≡ rest at
    goes =
        elements_more commands text options levels place at n t (rest at) refl (Ok (P.Step S.Element at)) is_step S.Element at refl
        (traced_to (at + 1) n) t element (at + 1) n refl

  same_run : (xs : List ℕ) (at : ℕ) → drop at commands ≡ xs → rest (at + run_of kind xs) ≡ rest at
  unfolding run_of when◌then◌else◌
  same_run [] at e = rw add-zero refl
  same_run (b ∷ bs) at e =
      let inside : at < length commands = omega (arith, length-drop at commands, ap length e) in
      let front : drop at commands ≡ get_or commands at 0 ∷ drop (at + 1) commands = rw add-one (drop-cons commands at 0 inside) in
      let is : get_or commands at 0 ≡ b = cc in
      let others : drop (at + 1) commands ≡ bs = cc in
      cases (eqb b kind)
      (λ q. let shift : at + suc (run_of kind bs) ≡ at + 1 + run_of kind bs = omega arith in rw (q, shift) (same_run bs (at + 1) others ∙ goes at inside (is ∙ eqb-true b kind q)))
      (λ q. rw (q, add-zero) refl)

-- what is left behind them is what was left
module _ (commands text : List ℕ) (options levels place at n : ℕ) (t : List ℕ) where
  abbrev left : ℕ → Out
  left a = parts_from commands text (readers commands text options levels) sequence_kind 0 place 0 a n t

  past_rest : left (past_same commands at place t) ≡ left at
  unfolding past_same past_held behind_run when◌then◌else◌
  past_rest =
      cases (is_held place (word t place first_word) t)
      (λ held. cases (is_own_byte (word t (word t place first_word) kind_word))
      (λ own. rw (held, own) (same_run commands text options levels place n t (word t (word t place first_word) kind_word) held own refl (drop at commands) at refl))
      (λ other. rw (held, other) refl))
      (λ other. rw other refl)

  pub elements_same : (behind : ℕ) (r : Out) → behind ≡ past_same commands at place t → left at ≡ r → left behind ≡ r
  elements_same behind r e whole = rw e (past_rest ∙ whole)
