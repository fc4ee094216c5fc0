-- Laws of the loop over records.
use Prim.{tt}
use Rattle.std.specs.Prelude.{List, ℕ, ◌<◌, ◌-◌, suc, ◌+◌, ◌≤◌, ltb, ◌≡◌, refl, Ok, Err}
use Rattle.std.proofs.Common.{arith, ◌∙◌}
use borrow.Author.Tests.{ltb-true, lt-ltb, le-ltb}
use Rattle.std.proofs.Math.ListN.{length}
use Rattle.logic.specs.laws.Turns.{Falls, goes_on, ends}
use Rattle.shapes.specs.declared.Contents.TheVariants as N
use Rattle.reading.specs.Reading.{State, state, value_at}
use Rattle.samples.specs.Samples.{level_limit, record_turn, record_stop, records_at}
use Rattle.leaves.specs.laws.Marks.{turn_has}
use Rattle.reading.specs.laws.Progress.{after_falls, left_state, readers_on}
use Rattle.reading.specs.laws.Loops.{moved_at}
use Rattle.std.proofs.Math.Path.{sym}
use Rattle.logic.specs.Test.{when◌then◌else◌}
use Rattle.refusal.specs.declared.Refused.{Refused}
use Rattle.leaves.specs.declared.Traced.{Traced}
use Rattle.leaves.specs.Leaves.{Outcome, traced_to, Out, out, SoundTraced}
use Rattle.places.specs.Layout.{Sound, Ready}

-- ---- the records
module _ (commands text : List ℕ) (options : ℕ) where
  pub records_fall : (s : State) → Falls (left_state commands) (left_state commands s) (record_turn commands text options s)
  unfolding record_turn
  records_fall (state i at n t) =
      turn_has _ _ (ltb at (length commands)) _ _
      (λ e. let p : at < length commands = ltb-true at (length commands) e in
      after_falls commands i at _ (readers_on commands text options level_limit 0 N.Value 0 at 0 n t (omega arith)))
      (λ e. tt)

module _ (commands text : List ℕ) (options at n : ℕ) (t : List ℕ) (r : Out) (whole : records_at commands text options at n t ≡ r) where
  pub records_end : length commands ≤ at → out (traced_to at n) t ≡ r
  unfolding records_at record_turn when◌then◌else◌
  records_end h =
      sym (ends (record_turn commands text options) record_stop (left_state commands) (records_fall commands text options) (length commands + 1) (state 0 at n t) (out (traced_to at n) t) (omega arith)
      (rw (le-ltb at (length commands) h) refl)) ∙ whole

  module _ (inside : at < length commands) (traced : Outcome) (u : List ℕ) (q : out traced u ≡ value_at commands text options level_limit at 0 n t) where
    pub records_stopped : (x : Refused) (o : Outcome) → traced ≡ Err x → o ≡ Err x → out o u ≡ r
    unfolding records_at record_turn when◌then◌else◌
    records_stopped x o e p =
        sym (ends (record_turn commands text options) record_stop (left_state commands) (records_fall commands text options) (length commands + 1)
        (state 0 at n t) (out o u) (omega arith)
        (rw (lt-ltb at (length commands) inside, ← q, e, p) refl)) ∙ whole

    module _ (to : Traced) (e : traced ≡ Ok to) where
      pub records_more : records_at commands text options to.next to.count u ≡ r
      unfolding records_at record_turn when◌then◌else◌
      records_more =
          sym (goes_on (record_turn commands text options) record_stop (left_state commands) (records_fall commands text options) (length commands + 1) (state 0 at n t) (state 0 to.next to.count u) (omega arith)
          (rw (lt-ltb at (length commands) inside, ← q, e) refl)) ∙ whole

-- fewer bytes are left behind a record, however many levels it was read with
pub records_less : (commands text : List ℕ) (options levels at n : ℕ) (t : List ℕ) (traced : Outcome) (u : List ℕ) → at < length commands →
    out traced u ≡ value_at commands text options levels at 0 n t → (to : Traced) → traced ≡ Ok to →
    length commands - to.next < length commands - at
records_less commands text options levels at n t traced u inside q to e =
    let on = moved_at (suc at) (length commands) to.next to.count u (rw (← q, e) at (readers_on commands text options levels 0 N.Value 0 at 0 n t (omega arith))) in
    omega (arith, on.0, on.1)

-- ---- the root
pub root_ready : (text t : List ℕ) → Sound text t 1 → Ready text t 1 0
root_ready text t s = record { sound = s; here = omega arith }

pub root_sound : (text t : List ℕ) (n at : ℕ) → Ready text t n 0 → SoundTraced text t 1 (traced_to at n)
root_sound text t n at ready = let h : 0 < n = ready.here in (ready.sound, omega arith)
