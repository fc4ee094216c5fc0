-- The command with a byte: one law for each form, from a byte that is known.
use Rattle.std.specs.Prelude.{◌≡◌, List, ℕ, ◌+◌, ◌*◌, ◌≤◌, eqb, leb, T}
use Rattle.std.proofs.Common.{arith, leb→le, eqb-true}
use Rattle.std.proofs.lemmas.Bool.{eqb-false}
use Rattle.logic.specs.laws.Test.{told, cases, if_passed, if_failed}
use Rattle.commands.specs.declared.Command.{Command}
use Rattle.commands.specs.Commands.{form_of, operands, made}
use Rattle.commands.specs.laws.Counted.{among_is}

-- the operands of a known byte have room for one that starts behind so many bytes
pub room : (byte k at size n : ℕ) → byte ≡ k → at + 2 * operands (form_of byte) ≤ n → T (leb size (2 * operands (form_of k))) → at + size ≤ n
room byte k at size n e h t = let p : size ≤ 2 * operands (form_of k) = leb→le _ _ t in let q : at + 2 * operands (form_of k) ≤ n = rw (← e) h in omega arith

pub room_behind : (byte k at first size n : ℕ) → byte ≡ k → at + 2 * operands (form_of byte) ≤ n → T (leb (first + size) (2 * operands (form_of k))) → at + first + size ≤ n
room_behind byte k at first size n e h t = let p : at + (first + size) ≤ n = room byte k at (first + size) n e h t in omega arith

pub is_made : (byte k : ℕ) (commands : List ℕ) (at : ℕ) (command : Command) → byte ≡ k → command ≡ made (form_of k) commands at → command ≡ made (form_of byte) commands at
is_made byte k commands at = told (λ byte. made (form_of byte) commands at) byte k

pub ruleset arms = (room, room_behind, is_made)

pub counts : (byte k count : ℕ) → byte ≡ k → count ≡ operands (form_of k) → count ≡ operands (form_of byte)
counts = told (λ byte. operands (form_of byte))

-- the same of two that stand side by side
pub counts_both : (byte k count : ℕ) → k ≤ byte → byte ≤ k + 1 → count ≡ operands (form_of k) → count ≡ operands (form_of (k + 1)) → count ≡ operands (form_of byte)
counts_both byte k count low high e f =
    cases (eqb byte k) (λ q. counts byte k count (eqb-true byte k q) e)
    (λ q. let d : (byte ≡ k → ⊥) = eqb-false byte k q in let s : byte ≡ k + 1 = omega arith in counts byte (k + 1) count s f)

-- what reading goes by: its tests, and the name among counted operands
pub ruleset readings = (if_passed, if_failed, among_is)
