-- Laws of the tally: a loop that goes from record to record counts it.
use Rattle.std.specs.Prelude.{◌≡◌, Bool, List, ℕ, suc, ◌+◌, ◌-◌, ◌<◌, ◌≤◌, ltb, length}
use Rattle.std.proofs.Math.Path.{sym}
use Rattle.std.proofs.Common.{subst, ◌∙◌, arith, lt-ltb, le-ltb, ltb-true, ltb-false}
use Rattle.logic.specs.Test.{when◌then◌else◌}
use Rattle.logic.specs.laws.Test.{if_passed, if_failed, cases}
use Rattle.logic.specs.Turns.{again, done}
use Rattle.logic.specs.laws.Turns.{Falls, goes_on, ends}
use Rattle.files.specs.Bytes.{between}
use Rattle.replay.specs.Records.{IsEnd}
use Rattle.replay.specs.Tally.{Passed, tally_of, pass, tally_from}
use Rattle.replay.specs.declared.Tally.{Tally}

module _ (size : ℕ) (end : ℕ → ℕ) (agrees : ℕ → Bool) (later : (at : ℕ) → at < size → at < end at) where
  abbrev left : Passed → ℕ
  left p = size - p.at

  abbrev next : Passed → Passed
  next p = record { at = end p.at; records = p.records + 1; differ = p.differ + (when agrees p.at then 0 else 1) }

  within : (p : Passed) → p.at < size → pass size end agrees p ≡ again (next p)
  unfolding pass
  within p h = if_passed (done (tally_of p)) (lt-ltb p.at size h)

  at_end : (p : Passed) → size ≤ p.at → pass size end agrees p ≡ done (tally_of p)
  unfolding pass
  at_end p h = if_failed (again (next p)) (le-ltb p.at size h)

  -- a record brings the end nearer
  falls : (p : Passed) → Falls left (left p) (pass size end agrees p)
  falls p =
      cases (ltb p.at size)
      (λ e.
      let inside : p.at < size = ltb-true p.at size e in
      let l : p.at < end p.at = later p.at inside in
      subst (Falls left (left p)) (sym (within p inside)) (omega arith))
      (λ e. subst (Falls left (left p)) (sym (at_end p (ltb-false p.at size e))) tt)

  module _ (at records differ : ℕ) where
    abbrev here : Passed
    here = record { at = at; records = records; differ = differ }

    -- within the file there is one more
    pub tally_on : (behind : ℕ) (flag : Bool) (one : ℕ) (all : Tally) → at < size → behind ≡ end at → flag ≡ agrees at → one ≡ (when flag then 0 else 1) →
        tally_from size end agrees here ≡ all → tally_from size end agrees (record { at = behind; records = records + 1; differ = differ + one }) ≡ all
    unfolding tally_from
    tally_on behind flag one all h en ef eo e =
        rw (eo, ef, en) (sym (goes_on (pass size end agrees) tally_of left falls (suc size) here (next here) (omega arith) (within here h)) ∙ e)

    -- at its end there is none
    pub tally_ends : (all : Tally) → size ≤ at → tally_from size end agrees here ≡ all → tally_of here ≡ all
    unfolding tally_from
    tally_ends all h e = sym (ends (pass size end agrees) tally_of left falls (suc size) here (tally_of here) (omega arith) (at_end here h)) ∙ e

-- ---- the records of a file
module _ (head : ℕ) (end : List ℕ → ℕ → ℕ) (answer : List ℕ → Bool) (vectors : List ℕ) (all : Tally) where
  -- the rest of the file, with what is passed, gives that
  abbrev pub RestGives : ℕ → ℕ → ℕ → Type 0
  RestGives at records differ =
      tally_from (length vectors) (end vectors) (λ at'. answer (between (at' + head) (end vectors at') vectors))
      (record { at = at; records = records; differ = differ })
      ≡ all

  module _ (ending : (at : ℕ) → at < length vectors → IsEnd vectors at head (end vectors at)) (at records differ : ℕ) where
    pub replayed_on : (skipped behind : ℕ) (flag : Bool) (one : ℕ) → at < length vectors → skipped ≡ head → behind ≡ end vectors at →
        flag ≡ answer (between (at + skipped) behind vectors) → one ≡ (when flag then 0 else 1) → RestGives at records differ →
        RestGives behind (records + 1) (differ + one)
    replayed_on skipped behind flag one h es en ef eo e =
        tally_on (length vectors) (end vectors) _ (λ a below. (ending a below).0) at records differ behind flag one all h en (ef ∙ rw (en, es)) eo e

    pub replayed_ends : length vectors ≤ at → RestGives at records differ →
        tally_of (record { at = at; records = records; differ = differ }) ≡ all
    replayed_ends h e = tally_ends (length vectors) (end vectors) _ (λ a below. (ending a below).0) at records differ all h e
