-- `pairing_agrees` decodes both types, and asks what they give.
use borrow.Author.Rules.{rules}
use borrow.Author.Tests.{eq-eqb, ne_eqb}
use mathlib.Core.Path.{◌≡◌, sym, ◌∙◌}
use mathlib.Core.Bool.{Bool, false}
use mathlib.Core.List.{List}
use Prim.Native.Nat.{ℕ}
use lib.Dec.{eqb}
use lib.ListN.{length, get_or}
use Rattle.files.specs.Bytes.{two_bytes}
use Rattle.datatype.specs.declared.DataType.{DataType}
use Rattle.datatype.specs.declared.UnknownCode.{UnknownCode}
use Rattle.std.specs.Prelude.{Result, Ok, Err}
use Rattle.datatype.specs.Codes.{code_of, decoded}
use Rattle.coerce.specs.Joint.{pairing}
use Rattle.record_vectors.specs.Joints.{stored_as, is_pairing, pairing_agrees}
use Rattle.record_vectors.proofs.pairing_agrees.Goals as goal

other : (stored : List ℕ) → (length stored ≡ 5 → ⊥) → false ≡ pairing_agrees stored
unfolding pairing_agrees
other stored h = rw (ne_eqb (length stored) 5 h)

whole : (stored : List ℕ) (r : Bool) → length stored ≡ 5 →
    r ≡ is_pairing (two_bytes stored 0) (decoded (get_or stored 2 0)) (decoded (get_or stored 3 0)) (get_or stored 4 0) → r ≡ pairing_agrees stored
unfolding pairing_agrees
whole stored r h e = rw (eq-eqb (length stored) 5 h) e

module _ (word a b code : ℕ) (x : Result DataType UnknownCode) (dx : x ≡ decoded a) where
  no_first : (u : UnknownCode) → x ≡ Err u → false ≡ is_pairing word (decoded a) (decoded b) code
  unfolding is_pairing
  no_first u e = rw (sym dx ∙ e)

  module _ (y : Result DataType UnknownCode) (dy : y ≡ decoded b) (first : DataType) (e : x ≡ Ok first) where
    no_second : (u : UnknownCode) → y ≡ Err u → false ≡ is_pairing word (decoded a) (decoded b) code
    unfolding is_pairing
    no_second u f = rw (sym dx ∙ e, sym dy ∙ f)

    both : (second : DataType) (answer given two : ℕ) → y ≡ Ok second → two ≡ word → given ≡ two →
        answer ≡ stored_as (pairing given (code_of first) (code_of second)) → eqb answer code ≡ is_pairing word (decoded a) (decoded b) code
    unfolding is_pairing
    both second answer given two f t o g = rw (sym dx ∙ e, sym dy ∙ f, g, o, t)

pub returns-in_default : goal.returns-in_default
returns-in_default c = search (other, rules)

pub returns-in_default-2 : goal.returns-in_default-2
returns-in_default-2 c = search (other, rules)

pub returns-in_default-try_from : goal.returns-in_default-try_from
returns-in_default-try_from c = whole _ _ (search rules) (search (no_first, rules))

pub returns-in_default-try_from-2 : goal.returns-in_default-try_from-2
returns-in_default-try_from-2 c = whole _ _ (search rules) (search (no_second, rules))

pub returns : goal.returns
returns c = whole _ _ (search rules) (search (both, rules))
