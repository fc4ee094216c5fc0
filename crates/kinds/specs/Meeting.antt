-- Kinds that meet at a place, with so many levels left: what they give, or refusal 7, 8 or 10.
use Rattle.std.specs.Prelude.{Bool, false, not, ◌&&◌, ◌||◌, ℕ, eqb, Result, Ok, Err}
use Rattle.std.proofs.Math.Option.{Option, none, some}
use Rattle.logic.specs.Test.{when◌then◌else◌}
use Rattle.refusal.specs.declared.Refusal.{Refusal}
use Rattle.refusal.specs.declared.Refusal.TheVariants as F
use Rattle.coerce.specs.Joint.{Paired, pairing}
use Rattle.model.specs.Kinds.{is_container}
use Rattle.model.specs.Tracing.{same_container}
use Rattle.datatype.specs.Codes.{null}
use Rattle.kinds.specs.declared.Met.{Met}

-- the place's kind then, and whether the value widened it
abbrev pub met : ℕ → Bool → Met
met kind widened = record { kind = kind; widened = widened }

-- primitive types meet
abbrev pub of_joint : Bool → Option ℕ → Result Met Refusal
of_joint differed none = Err F.NoJoint
of_joint differed (some kind) = Ok (met kind differed)

abbrev pub of_pairing : Paired → Result Met Refusal
of_pairing p = of_joint p.differed p.gives

unfoldable pub meeting : ℕ → ℕ → ℕ → ℕ → Result Met Refusal
meeting options levels kind other =
    when is_container other && eqb levels 0 then Err F.TooDeep
    else when not (is_container kind || is_container other) then of_pairing (pairing options kind other)
    else when eqb other null then Ok (met kind false)
    else when eqb kind null then Ok (met other false)
    else when same_container kind other then Ok (met kind false)
    else Err F.Mismatch
