-- Near steps: a step is its code and its name, so the names of near steps tell whether the steps are equal or two names of one variant.
use Rattle.std.specs.Prelude.{◌≡◌, true, false}
use Rattle.std.proofs.Common.{sym, ap₂, ◌∙◌, arith}
use Rattle.text.specs.Name.{eq_name}
use Rattle.text.specs.laws.Name.{eq_name_true, eq_name_refl}
use Rattle.model.specs.Kinds.{Step, same}
use Rattle.model.specs.Tracing.{renames}
use Rattle.equality.specs.laws.Base.{same_true, same_refl}
use Rattle.refine.specs.Tree.{step_by}
use Rattle.refine.specs.laws.reading.Steps.{step_code_of, name_in, near, step_back_lem, sought_all, variant_code_lem, number_code, near_codes, near_names}

step_is : (s r : Step) → step_code_of s ≡ step_code_of r → name_in s ≡ name_in r → s ≡ r
step_is s r e f = sym (step_back_lem s) ∙ ap₂ step_by e f ∙ step_back_lem r

-- the names of near steps are equal exactly where the steps are
pub near_name : (s r : Step) → near s r ≡ true → eq_name (name_in r) (name_in s) ≡ same s r
near_name s r e = grind (arith, step_is, near_codes, eq_name_true, same_refl, same_true, eq_name_refl)

-- near steps that are not equal are two names of one variant
pub near_renames : (s r : Step) → near s r ≡ true → same s r ≡ false → renames s r ≡ true
near_renames s r e f = grind (arith, near_codes, variant_code_lem, number_code, sought_all, near_names, step_is, same_refl)
