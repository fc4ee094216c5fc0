-- Laws of runs of one byte, and of what the present sample holds.
use Rattle.std.specs.Prelude.{◌≡◌, Bool, true, false, List, ◌∷◌, eqb, length, get_or, drop}
use Rattle.std.proofs.Math.Path.{refl}
use Rattle.std.proofs.Common.{sym, ◌∙◌, drop_of_length-le, drop-cons, add-one, add-zero, le_refl}
use Prim.Native.Nat.{ℕ, zero, suc, ◌+◌, ◌<◌, ◌≤◌}
use native.Mathlib.Omega.{arith}
use borrow.Author.Tests.{eq-eqb, ne_eqb, eqb-true}
use Rattle.logic.specs.Test.{when◌then◌else◌}
use Rattle.logic.specs.laws.Test.{both}
use Rattle.logic.specs.laws.Flag.{if_either}
use Rattle.words.specs.Word.{word}
use Rattle.places.specs.Layout.{kind_word, samples_word, first_word, step_word, name_word, mark_word}
use Rattle.shapes.specs.Leaf.{char_byte, is_own_byte}
use Rattle.shapes.specs.laws.Leaf.{own_known}
use Rattle.runs.specs.Runs.{are_all, behind_run, is_held, past_held, past_same, run_of}

-- ---- one test of a held element after the other
module _ (place child : ℕ) (t : List ℕ) where
  pub no_child : child ≡ 0 → false ≡ is_held place child t
  unfolding is_held
  no_child e = rw (eq-eqb child 0 e) refl

  module _ (some : child ≡ 0 → ⊥) (step : ℕ) (s : step ≡ word t child step_word) where
    pub other_step : (step ≡ 0 → ⊥) → false ≡ is_held place child t
    unfolding is_held
    other_step d = rw (ne_eqb child 0 some, ← s, ne_eqb step 0 d) refl

    module _ (element : step ≡ 0) (name : ℕ) (m : name ≡ word t child name_word) where
      pub other_name : (name ≡ 0 → ⊥) → false ≡ is_held place child t
      unfolding is_held
      other_name d = rw (ne_eqb child 0 some, ← s, eq-eqb step 0 element, ← m, ne_eqb name 0 d) refl

      pub held_by_mark : name ≡ 0 → (mark samples : ℕ) → mark ≡ word t child mark_word → samples ≡ word t place samples_word → eqb mark samples ≡ is_held place child t
      unfolding is_held
      held_by_mark e mark samples p q = rw (ne_eqb child 0 some, ← s, eq-eqb step 0 element, ← m, eq-eqb name 0 e, p, q) refl

-- ---- the ways past elements that change nothing
module _ (commands : List ℕ) (kind at : ℕ) (own : Bool) (is : own ≡ is_own_byte kind) where
  pub held_run : (r : ℕ) → own ≡ true → r ≡ behind_run commands kind at → r ≡ past_held commands kind at
  unfolding past_held when◌then◌else◌
  held_run r e p = rw (← is, e) p

  pub held_none : own ≡ false → at ≡ past_held commands kind at
  unfolding past_held when◌then◌else◌
  held_none e = rw (← is, e) refl

module _ (commands : List ℕ) (at place : ℕ) (t : List ℕ) (child : ℕ) (c : child ≡ word t place first_word) (held : Bool) (h : held ≡ is_held place child t) where
  pub none_held : held ≡ false → at ≡ past_same commands at place t
  unfolding past_same when◌then◌else◌
  none_held e = rw (← c, ← h, e) refl

  pub one_held : (type r : ℕ) → held ≡ true → type ≡ word t child kind_word → r ≡ past_held commands type at → r ≡ past_same commands at place t
  unfolding past_same when◌then◌else◌
  one_held type r e k p = rw (← c, ← h, e, ← k) p

-- ---- the loop over a run: what is left of it gives the same as the whole
module _ (commands : List ℕ) (byte here r : ℕ) (whole : behind_run commands byte here ≡ r) where
  pub run_cut : length commands ≤ here → here ≡ r
  unfolding behind_run run_of
  run_cut h = rw (drop_of_length-le commands h, add-zero) at whole

  module _ (inside : here < length commands) where
    front : drop here commands ≡ get_or commands here 0 ∷ drop (here + 1) commands
    front = rw add-one (drop-cons commands here 0 inside)

    pub run_other : (b : ℕ) → b ≡ get_or commands here 0 → (b ≡ byte → ⊥) → here ≡ r
    unfolding behind_run run_of when◌then◌else◌
    run_other b is d = rw (front, ← is, ne_eqb b byte d, add-zero) at whole

    pub run_more : (b : ℕ) → b ≡ get_or commands here 0 → b ≡ byte → behind_run commands byte (here + 1) ≡ r
    unfolding behind_run run_of when◌then◌else◌
    run_more b is e = let shift : here + 1 + run_of byte (drop (here + 1) commands) ≡ here + suc (run_of byte (drop (here + 1) commands)) =
        omega arith in shift ∙ (rw (front, ← is, eq-eqb b byte e) at whole)

-- past several commands that all are that byte
pub run_block : (commands : List ℕ) (byte here r : ℕ) → behind_run commands byte here ≡ r → (count : ℕ) → here + count ≤ length commands → are_all commands byte here count ≡ true →
    behind_run commands byte (here + count) ≡ r
unfolding are_all
run_block commands byte here r whole zero h e = rw add-zero whole
run_block commands byte here r whole (suc count) h e =
    both (are_all commands byte here count) (eqb (get_or commands (here + count) 0) byte) e λ before is.
    let q : here + count + 1 ≡ here + suc count = omega arith in
    rw q at (run_more commands byte (here + count) r (run_block commands byte here r whole count (omega arith) before) (omega arith) _ refl (eqb-true _ _ is))

pub own_fits : (kind : ℕ) (own : Bool) → own ≡ is_own_byte kind → own ≡ true → kind < 256
own_fits kind own e p = let small : kind < char_byte = (own_known kind (sym e ∙ p)).1 in omega arith

pub same_above : (commands : List ℕ) (at place : ℕ) (t : List ℕ) (behind : ℕ) → behind ≡ past_same commands at place t → at ≤ behind
unfolding past_same past_held behind_run
same_above commands at place t behind e =
    rw e
    (if_either (λ x. at ≤ x) (is_held place (word t place first_word) t)
    (if_either (λ x. at ≤ x) (is_own_byte (word t (word t place first_word) kind_word)) (omega arith) (le_refl at))
    (le_refl at))
