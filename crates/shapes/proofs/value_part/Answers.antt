-- `value_part` reads a command, and goes by its byte; where that is a value with no operands, at once.
use Rattle.std.specs.Prelude.{Ok}
use borrow.Author.Rules.{rules}
use borrow.Author.Tests.{eq-eqb, ne_eqb, ltb-true}
use mathlib.Core.Path.{◌≡◌, refl, sym, ◌∙◌}
use mathlib.Core.Bool.{Bool, true}
use mathlib.Core.List.{List}
use Prim.Native.Nat.{ℕ}
use lib.Dec.{ltb}
use lib.ListN.{length, get_or}
use native.Mathlib.Omega.{arith}
use Rattle.logic.specs.Test.{when◌then◌else◌}
use Rattle.logic.specs.laws.Test.{both}
use Rattle.commands.specs.declared.Due.{Due}
use Rattle.commands.specs.Commands.{read_command}
use Rattle.commands.specs.laws.Commands.{next_above, next_within}
use Rattle.shapes.specs.declared.Step.{Step}
use Rattle.shapes.specs.declared.Part.TheVariants as P
use Rattle.shapes.specs.Shapes.{value_part, plain_byte, plain_at, takes_value}
use Rattle.shapes.specs.laws.Bytes.{bare_read, bare_no_end}
use Rattle.shapes.proofs.value_part.Goals as goal

value_at_once : (commands text : List ℕ) (at : ℕ) (due : Due) (step : Step) (flag : Bool) → takes_value due ≡ true → flag ≡ plain_at commands at → flag ≡ true →
    Ok (P.Step step at) ≡ value_part commands step at (read_command commands text at due)
unfolding plain_at when◌then◌else◌
value_at_once commands text at due step flag t f e =
    let byte : ℕ = get_or commands at 0 in
    both (ltb at (length commands)) (plain_byte byte) (sym f ∙ e) λ p q.
    rw (bare_read commands text at byte due refl (ltb-true at (length commands) p) q t, bare_no_end byte q)

pub returns-then-is_plain : goal.returns-then-is_plain
returns-then-is_plain c = search (value_at_once, rules)

pub read_byte-requires : goal.read_byte-requires
read_byte-requires c =
    let e = c.read_command.ensures in
    omega (arith, next_above _ _ _ _ _ _ _ e c.in_ok-next.was, next_within _ _ _ _ _ _ _ e c.in_ok-next.was)

pub returns-then-read_byte-eq-END : goal.returns-then-read_byte-eq-END
unfolding when◌then◌else◌
returns-then-read_byte-eq-END c = rw (← c.read_command.ensures, c.in_ok-next.was, ← c.read_byte.ensures, eq-eqb _ _ c.if-read_byte-eq-END.true)

pub returns-else-read_byte-eq-END : goal.returns-else-read_byte-eq-END
unfolding when◌then◌else◌
returns-else-read_byte-eq-END c = rw (← c.read_command.ensures, c.in_ok-next.was, ← c.read_byte.ensures, ne_eqb _ _ c.if-read_byte-eq-END.false)
