-- `due_after` finds the row by the last first byte of each.
use borrow.Author.Rules.{rules}
use mathlib.Core.Path.{◌≡◌, refl, sym}
use Prim.Native.Nat.{ℕ, ◌≤◌, ◌<◌}
use mathlib.Core.List.{List, ◌∷◌}
use mathlib.Core.Option.{none, some}
use lib.ListN.{get_elem?}
use Rattle.text.specs.Utf8.{Range, ◌to◌, table, due_in}
use Rattle.text.specs.laws.Utf8.{due_at, due_gap, due_past}
use Rattle.text.proofs.utf8.due_after.Goals as goal

row : (k : ℕ) {low high : ℕ} {due : List Range} → get_elem? table k ≡ some (low to high ∷ due) → (b : ℕ) → low ≤ b → b ≤ high → some due ≡ due_in table b
row k {low} {high} {due} e b p q = sym (due_at k b low high due e p q)

gap : (b : ℕ) → 0x80 ≤ b → b ≤ 0xC1 → none ≡ due_in table b
gap b p q = sym (due_gap b p (search rules))

past : (b : ℕ) → 0xF4 < b → none ≡ due_in table b
past b p = sym (due_past b p)

pub returns-then-first-le193 : goal.returns-then-first-le193
returns-then-first-le193 c = search (gap, rules)

pub returns-then-first-le223 : goal.returns-then-first-le223
returns-then-first-le223 c = search (row 1 refl, rules)

pub returns-then-first-le224 : goal.returns-then-first-le224
returns-then-first-le224 c = search (row 2 refl, rules)

pub returns-then-first-le236 : goal.returns-then-first-le236
returns-then-first-le236 c = search (row 3 refl, rules)

pub returns-then-first-le237 : goal.returns-then-first-le237
returns-then-first-le237 c = search (row 4 refl, rules)

pub returns-then-first-le239 : goal.returns-then-first-le239
returns-then-first-le239 c = search (row 5 refl, rules)

pub returns-then-first-le240 : goal.returns-then-first-le240
returns-then-first-le240 c = search (row 6 refl, rules)

pub returns-then-first-le243 : goal.returns-then-first-le243
returns-then-first-le243 c = search (row 7 refl, rules)

pub returns-then-first-le244 : goal.returns-then-first-le244
returns-then-first-le244 c = search (row 8 refl, rules)

pub returns : goal.returns
returns c = search (past, rules)
