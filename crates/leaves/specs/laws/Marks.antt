-- Laws of the marks before a value: the loop past them, and where it ends.
use Prim.{tt}
use Rattle.std.specs.Prelude.{◌≡◌, refl, Bool, true, false, List, ◌-◌, ℕ, ◌+◌, ◌<◌, ◌≤◌, ltb, eqb, get_or}
use Rattle.std.proofs.Math.Path.{sym}
use Rattle.std.proofs.Common.{◌∙◌, le_refl, arith}
use borrow.Author.Tests.{ltb-true, lt-ltb, le-ltb}
use Rattle.std.proofs.Math.ListN.{length}
use Rattle.logic.specs.Test.{when◌then◌else◌}
use Rattle.logic.specs.Turns.{Turn, again, done}
use Rattle.logic.specs.laws.Turns.{Says, Falls, holds, goes_on, ends}
use Rattle.leaves.specs.Marks.{Chain, chain, is_mark, past_turn, past_marks, marked, some_byte}
use Rattle.logic.specs.laws.Flag.{if_either}
use Rattle.refusal.specs.declared.Refusal.{Refusal}
use Rattle.words.specs.Word.{word, with_word}
use Rattle.std.specs.Prelude as M
use Rattle.places.specs.Layout.{kind_word, nullable_word, Sound, Ready}
use Rattle.kinds.specs.declared.Met.{Met}
use Rattle.kinds.specs.Meeting.{meeting}
use Rattle.places.specs.laws.Layout.{sound_plain}
use Rattle.leaves.specs.Leaves.{Outcome, traced_to, Out, out, on_met, with_met, stored, observed, SoundTraced}

-- ---- the marks before a value
pub turn_has : {S R : Type 0} (P : S → Type 0) (Q : R → Type 0) (t : Bool) (a b : Turn S R) → (t ≡ true → Says P Q a) → (t ≡ false → Says P Q b) → Says P Q (when t then a else b)
unfolding when◌then◌else◌
turn_has P Q true a b p q = p refl
turn_has P Q false a b p q = q refl

module _ (commands : List ℕ) where
  abbrev pub left_at : ℕ → ℕ
  left_at at = length commands - at

  abbrev pub left_chain : Chain → ℕ
  left_chain (chain at t) = left_at at

  pub past_falls : (place : ℕ) (s : Chain) → Falls left_chain (left_chain s) (past_turn commands place s)
  unfolding past_turn
  past_falls place (chain at t) =
      turn_has _ _ (ltb at (length commands)) _ _
      (λ e. let p : at < length commands = ltb-true at (length commands) e in
      turn_has _ _ (is_mark (get_or commands at 0)) _ _ (λ f. omega arith) (λ f. tt))
      (λ e. tt)

  abbrev pub FromChain : ℕ → Chain → Type 0
  FromChain low (chain at t) = low ≤ at

  pub past_on : (at place : ℕ) (t : List ℕ) → FromChain at (past_marks commands at place t)
  unfolding past_marks past_turn
  past_on at place t = holds (past_turn commands place) (λ s. s) (FromChain at) (FromChain at) kept (λ s h. h) (length commands + 1) (chain at t) (le_refl at)
    where
      kept : (s : Chain) → FromChain at s → Says (FromChain at) (FromChain at) (past_turn commands place s)
      kept (chain here t) h =
          turn_has (FromChain at) (FromChain at) (ltb here (length commands)) _ _
          (λ e. turn_has (FromChain at) (FromChain at) (is_mark (get_or commands here 0)) _ _ (λ f. omega arith) (λ f. h))
          (λ e. h)

-- ---- the marks before a value
module _ (commands : List ℕ) (place here : ℕ) (t : List ℕ) (r : Chain) (whole : past_marks commands here place t ≡ r) where
  past_ends : (s : Chain) → past_turn commands place (chain here t) ≡ done s → s ≡ r
  unfolding past_marks
  past_ends s e = sym (ends (past_turn commands place) (λ s. s) (left_chain commands) (past_falls commands place) (length commands + 1) (chain here t) s (omega arith) e) ∙ whole

  past_goes : (s : ℕ) (u : List ℕ) → past_turn commands place (chain here t) ≡ again (chain s u) → past_marks commands s place u ≡ r
  unfolding past_marks
  past_goes s u e = sym (goes_on (past_turn commands place) (λ s. s) (left_chain commands) (past_falls commands place) (length commands + 1) (chain here t) (chain s u) (omega arith) e) ∙ whole

  pub past_cut : length commands ≤ here → chain here t ≡ r
  unfolding past_turn when◌then◌else◌
  past_cut h = past_ends (chain here t) (rw (le-ltb here (length commands) h) refl)

  module _ (inside : here < length commands) (byte : ℕ) (b : byte ≡ get_or commands here 0) (is : Bool) (m : is ≡ is_mark byte) where
    pub past_mark : (u : List ℕ) → is ≡ true → u ≡ marked byte place t → past_marks commands (here + 1) place u ≡ r
    unfolding past_turn when◌then◌else◌
    past_mark u e s = past_goes (here + 1) u (rw (lt-ltb here (length commands) inside, ← b, ← m, e, s) refl)

    pub past_other : is ≡ false → chain here t ≡ r
    unfolding past_turn when◌then◌else◌
    past_other e = past_ends (chain here t) (rw (lt-ltb here (length commands) inside, ← b, ← m, e) refl)

module _ (text t : List ℕ) (n place : ℕ) (ready : Ready text t n place) where
  -- past the marks before a value
  pub past_ready : (commands : List ℕ) (at here : ℕ) (u : List ℕ) → chain here u ≡ past_marks commands at place t → Ready text u n place
  unfolding past_marks past_turn marked
  past_ready commands at here u e =
      record { sound = rw (← e) at (holds (past_turn commands place) (λ s. s) Ok Ok kept (λ s h. h) (length commands + 1) (chain at t) ready.sound); here = ready.here }
    where
      Ok : Chain → Type 0
      Ok (chain i x) = Sound text x n

      kept : (s : Chain) → Ok s → Says Ok Ok (past_turn commands place s)
      kept (chain i x) h =
          if_either (Says Ok Ok) (ltb i (length commands))
          (if_either (Says Ok Ok) (is_mark (get_or commands i 0))
          (if_either (λ y. Sound text y n) (eqb (get_or commands i 0) some_byte) (sound_plain text x n place nullable_word _ refl ready.here h) h) h)
          h

  -- a primitive
  stored_sound : (is_null : Bool) (met : Met) → Sound text (stored is_null met place t) n
  unfolding stored
  stored_sound is_null met = if_either (λ x. Sound text x n) is_null (sound_plain text _ n place nullable_word _ refl ready.here with_kind) with_kind
    where
      typed : Sound text (with_word t place kind_word met.kind) n
      typed = sound_plain text t n place kind_word met.kind refl ready.here ready.sound

      with_kind : Sound text (with_met met place t) n
      with_kind = if_either (λ x. Sound text x n) met.widened (sound_plain text _ n place nullable_word _ refl ready.here typed) typed

  pub observed_sound : (options : ℕ) (is_null : Bool) (kind levels here behind : ℕ) (r : Outcome) (u : List ℕ) →
      out r u ≡ observed options is_null kind levels here behind place n t → SoundTraced text u n r
  unfolding observed
  observed_sound options is_null kind levels here behind r u e = rw (← e) at (go (meeting options levels (word t place kind_word) kind))
    where
      Ok : Out → Type 0
      Ok (out r x) = SoundTraced text x n r

      go : (met : M.Result Met Refusal) → Ok (on_met here t (λ met. out (traced_to behind n) (stored is_null met place t)) met)
      go (M.Ok met) = (stored_sound is_null met, le_refl n)
      go (M.Err refusal) = tt

  -- and the table stays sound, whatever is answered
  pub observed_kept : (options : ℕ) (is_null : Bool) (kind levels here behind : ℕ) (r : Outcome) (u : List ℕ) →
      out r u ≡ observed options is_null kind levels here behind place n t → Sound text u n
  unfolding observed
  observed_kept options is_null kind levels here behind r u e = rw (← e) at (go (meeting options levels (word t place kind_word) kind))
    where
      Kept : Out → Type 0
      Kept (out r x) = Sound text x n

      go : (met : M.Result Met Refusal) → Kept (on_met here t (λ met. out (traced_to behind n) (stored is_null met place t)) met)
      go (M.Ok met) = stored_sound is_null met
      go (M.Err refusal) = ready.sound
