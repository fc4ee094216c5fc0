-- Kinds meet alike in the words of the table and in the model, with 20 levels less the depth.
use Rattle.std.specs.Prelude.{◌≡◌, refl, Bool, true, false, not, ◌||◌, ◌&&◌, ◌-◌, ℕ, ◌≤◌, eqb, leb}
use Rattle.std.proofs.Math.Option.{Option, none, some}
use Rattle.std.proofs.Math.Bool.{or-true}
use Rattle.std.proofs.Common.{ap, sym, arith, eqb-true, eq-eqb, leb-true, le-leb}
use Rattle.logic.specs.Test.{when◌then◌else◌}
use Rattle.logic.specs.laws.Test.{cases, same_test}
use Rattle.datatype.specs.Codes.{null}
use Rattle.refusal.specs.declared.Refusal.{Refusal}
use Rattle.refusal.specs.declared.Refusal.TheVariants as F
use Rattle.refusal.specs.Number.{number_of, no_joint}
use Rattle.coerce.specs.Joint.{joint, differ, pairing}
use Rattle.model.specs.Result.{Result, accepted, refused, or_refused}
use Rattle.model.specs.Kinds.{is_container}
use Rattle.model.specs.Tracing.{depth_limit, same_container, meet, widens}
use Rattle.std.specs.Prelude as M
use Rattle.kinds.specs.declared.Met.{Met}
use Rattle.kinds.specs.Meeting.{met, of_joint, meeting}
use Rattle.refine.specs.laws.reading.Commands.{choices}

-- ---- kinds meet alike, with 20 levels less the depth
abbrev pub of_met : ℕ → M.Result Met Refusal → Result ℕ
of_met at (M.Ok met) = accepted met.kind
of_met at (M.Err refusal) = refused (number_of refusal) at

of_joint_lem : (at : ℕ) (differed : Bool) (o : Option ℕ) → or_refused no_joint at o ≡ of_met at (of_joint differed o)
of_joint_lem at differed none = refl
of_joint_lem at differed (some kind) = refl

pub meets : (options depth levels at kind other : ℕ) → depth_limit - depth ≡ levels → meet options depth at kind other ≡ of_met at (meeting options levels kind other)
unfolding meet meeting pairing
meets options depth levels at kind other e =
    let Same : Result ℕ → M.Result Met Refusal → Type 0 = λ x y. x ≡ of_met at y in
    rw (same_level)
    (choices Same (is_container other && eqb levels 0) refl (
    choices Same (not (is_container kind || is_container other)) (of_joint_lem at (differ kind other) (joint options kind other)) (
    choices Same (eqb other null) refl (
    choices Same (eqb kind null) refl (
    choices Same (same_container kind other) refl refl)))))
  where
    same_level : leb depth_limit depth ≡ eqb levels 0
    same_level =
        same_test (leb depth_limit depth) (eqb levels 0)
        (λ d. let l : depth_limit ≤ depth = leb-true depth_limit depth d in eq-eqb levels 0 (omega arith))
        (λ d. let l : levels ≡ 0 = eqb-true levels 0 d in le-leb depth_limit depth (omega arith))

-- a container that meets its place has a level left
pub met_level : (options levels kind other : ℕ) (j : Met) → is_container other ≡ true → meeting options levels kind other ≡ M.Ok j → levels ≡ 0 → ⊥
unfolding meeting when◌then◌else◌
met_level options levels kind other j c e z = let w : M.Err F.TooDeep ≡ M.Ok j = rw (c, eq-eqb levels 0 z) at e in let y : ◌≡◌ {A = ℕ} 0 1 = cc in omega arith

-- and what met is widened as the model has it
joint_widened : (differed : Bool) (o : Option ℕ) (j : Met) → of_joint differed o ≡ M.Ok j → j.widened ≡ differed
joint_widened differed none j e = let z : ◌≡◌ {A = ℕ} 0 1 = cc in absurd (omega arith)
joint_widened differed (some kind) j e = let z : met kind differed ≡ j = cc in sym (ap (λ (m : Met). m.widened) z)

kept_widened : (kind : ℕ) (j : Met) → ◌≡◌ {A = M.Result Met Refusal} (M.Ok (met kind false)) (M.Ok j) → j.widened ≡ false
kept_widened kind j e = joint_widened false (some kind) j e

pub met_widened : (options levels kind other : ℕ) (j : Met) → meeting options levels kind other ≡ M.Ok j → j.widened ≡ widens kind other
unfolding meeting pairing when◌then◌else◌
met_widened options levels kind other j e =
    cases (is_container other && eqb levels 0)
    (λ a. let w : ◌≡◌ {A = M.Result Met Refusal} (M.Err F.TooDeep) (M.Ok j) = rw a at e in let z : ◌≡◌ {A = ℕ} 0 1 = cc in absurd (omega arith)) λ a.
    cases (not (is_container kind || is_container other))
    (λ b. rw b (joint_widened (differ kind other) (joint options kind other) j (rw (a, b) at e))) λ b.
    cases (eqb other null) (λ c. rw b (kept_widened kind j (rw (a, b, c) at e))) λ c.
    cases (eqb kind null) (λ d. rw b (kept_widened other j (rw (a, b, c, d) at e))) λ d.
    cases (same_container kind other)
    (λ f. rw b (kept_widened kind j (rw (a, b, c, d, f) at e)))
    (λ f. let w : ◌≡◌ {A = M.Result Met Refusal} (M.Err F.Mismatch) (M.Ok j) = rw (a, b, c, d, f) at e in let z : ◌≡◌ {A = ℕ} 0 1 = cc in absurd (omega arith))

-- a container widens nothing
pub no_widening : (kind other : ℕ) → is_container other ≡ true → widens kind other ≡ false
no_widening kind other c = rw (c, or-true (is_container kind))
