-- `trace_part` zeroes the part before.
use native.Mathlib.Omega.{arith}
use Rattle.std.proofs.lemmas.Grind.{common_steps}
use Rattle.commands.specs.Bytes.{Bytes}
use Rattle.places.specs.laws.Layout.{sound_zeros}
use Rattle.call.specs.laws.Call.{bytes_known, given_is_answer}
use Rattle.call.proofs.trace_part.Goals as goal

pub trace_and_emit-requires : goal.trace_and_emit-requires
trace_and_emit-requires c = grind (arith, common_steps, sound_zeros c.args.text.now)

pub returns : goal.returns
returns c =
    let bytes : Bytes c.args.commands.now = bytes_known _ (λ i. omega (arith, c.type_inv.commands i)) in
    grind (arith, common_steps, given_is_answer)
