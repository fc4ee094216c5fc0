-- `name_agrees` looks at the length, and then at the first byte by what the others are.
use Rattle.std.proofs.Common.{rules, ◌≡◌, ◌-◌, ◌<◌, ◌≤◌, ℕ, Bool, true, false, List, length, take, drop, get_or, eqb, arith, sym, ap, ◌∙◌}
use Rattle.std.proofs.lemmas.Bool.{le-leb, lt-leb}
use Rattle.std.proofs.lemmas.List.{length-drop}
use Rattle.std.proofs.Math.Seq.{take_all}
use Rattle.std.specs.Int.{from_bool}
use Rattle.logic.specs.Test.{when◌then◌else◌}
use Rattle.text.specs.Utf8.{is_utf8}
use Rattle.record_vectors.specs.Names.{name_agrees}
use Rattle.record_vectors.proofs.name_agrees.Goals as goal
use Rattle.record_vectors.proofs.name_agrees.Goals.{then-is_empty-via-then-is_empty, then-is_empty-via-else-is_empty+then-record-gt256}

none : (stored : List ℕ) → length stored ≡ 0 → false ≡ name_agrees stored
unfolding name_agrees
none stored e = rw (lt-leb 1 (length stored) (omega arith))

long : (stored : List ℕ) → 256 < length stored → false ≡ name_agrees stored
unfolding name_agrees
long stored h = rw (le-leb 1 (length stored) (omega arith), lt-leb (length stored) 256 h)

as_byte : (b : Bool) → (when b then 1 else 0) ≡ from_bool b
unfolding when◌then◌else◌
as_byte true = search rules
as_byte false = search rules

byte : (stored : List ℕ) (flag : Bool) (n : ℕ) → 1 ≤ length stored → length stored ≤ 256 → flag ≡ is_utf8 (take (length stored - 1) (drop 1 stored)) →
    n ≡ from_bool flag → eqb (get_or stored 0 0) n ≡ name_agrees stored
unfolding name_agrees
byte stored flag n some few told e =
    let all : take (length stored - 1) (drop 1 stored) ≡ drop 1 stored = take_all (length stored - 1) (drop 1 stored) (simp length-drop (omega arith)) in
    let same : (when is_utf8 (drop 1 stored) then 1 else 0) ≡ n = as_byte (is_utf8 (drop 1 stored)) ∙ ap from_bool (sym (told ∙ ap is_utf8 all)) ∙ sym e in
    rw (le-leb 1 (length stored) some, le-leb (length stored) 256 few, same)

pub returns-then-is_empty : goal.returns-then-is_empty
returns-then-is_empty c =
    elim c.then-is_empty.branch [
      | then-is_empty-via-then-is_empty w ↦ search (none, rules)
      | then-is_empty-via-else-is_empty+then-record-gt256 w ↦ search (long, rules)
    ]

pub returns : goal.returns
returns c = byte _ _ _ (search rules) (search rules) c.is_utf8.ensures c.from.ensures
