-- `text_agrees` compares the three answers one after the other.
use Rattle.std.proofs.Common.{rules, ◌≡◌, ◌-◌, ◌<◌, ◌≤◌, ℕ, true, false, List, length, take, drop, get_or, eqb, arith, sym, ◌∙◌}
use Rattle.std.proofs.lemmas.Bool.{le-leb, lt-leb, eq-eqb, ne_eqb, eqb-true}
use Rattle.std.proofs.lemmas.List.{length-drop}
use Rattle.std.proofs.Math.Seq.{take_all}
use Rattle.chrono.specs.Text.{text_type}
use Rattle.record_vectors.specs.Texts.{guessing, guessing_large, matchers_of, text_agrees}
use Rattle.record_vectors.proofs.text_agrees.Goals as goal
use Rattle.record_vectors.proofs.text_agrees.Goals.{then-matchers-bits, else-matchers-bits}

short : (stored : List ℕ) → length stored < 3 → false ≡ text_agrees stored
unfolding text_agrees
short stored h = rw (lt-leb 3 (length stored) h)

-- what the text is, as the code lends it
abbrev text_in : List ℕ → List ℕ
text_in stored = take (length stored - 3) (drop 3 stored)

all : (stored : List ℕ) → text_in stored ≡ drop 3 stored
all stored = take_all (length stored - 3) (drop 3 stored) (simp length-drop (omega arith))

module _ (stored : List ℕ) (long : 3 ≤ length stored) (bits : ℕ) (matched : bits ≡ matchers_of (text_in stored)) where
  unmatched : (bits ≡ get_or stored 0 0 → ⊥) → false ≡ text_agrees stored
  unfolding text_agrees
  unmatched h = rw (le-leb 3 (length stored) long, ← all stored, ← matched, ne_eqb bits (get_or stored 0 0) h)

  module _ (same : bits ≡ get_or stored 0 0) (code : ℕ) (observed : code ≡ text_type guessing (text_in stored)) where
    another : eqb code (get_or stored 1 0) ≡ false → false ≡ text_agrees stored
    unfolding text_agrees
    another h = rw (le-leb 3 (length stored) long, ← all stored, ← matched, eq-eqb bits (get_or stored 0 0) same, ← observed, h)

    last : eqb code (get_or stored 1 0) ≡ true → (large : ℕ) → large ≡ text_type guessing_large (text_in stored) →
        eqb large (get_or stored 2 0) ≡ text_agrees stored
    unfolding text_agrees
    last h large e = rw (le-leb 3 (length stored) long, ← all stored, ← matched, eq-eqb bits (get_or stored 0 0) same, ← observed, h, ← e)

pub returns-in_default : goal.returns-in_default
returns-in_default c = search (short, rules)

pub returns-then-observed-plain : goal.returns-then-observed-plain
returns-then-observed-plain c =
    elim c.if-matchers-bits.branch [
      | then-matchers-bits w ↦
          last _ (search rules) _ c.matchers.ensures w.if-matchers-bits.true _ w.observed.ensures (sym w.value-is ∙ c.if-observed-plain.true) _
          c.observed-then-observed-plain.ensures
      | else-matchers-bits w ↦
          absurd (w.if-matchers-bits.false (eqb-true _ _ (sym w.value-is ∙ c.if-observed-plain.true)))
    ]

pub returns-else-observed-plain : goal.returns-else-observed-plain
returns-else-observed-plain c =
    c.if-observed-plain.false
    ∙ elim c.if-matchers-bits.branch [
      | then-matchers-bits w ↦
          another _ (search rules) _ c.matchers.ensures w.if-matchers-bits.true _ w.observed.ensures (sym w.value-is ∙ c.if-observed-plain.false)
      | else-matchers-bits w ↦ unmatched _ (search rules) _ c.matchers.ensures w.if-matchers-bits.false
    ]
