-- Laws of levels: how the search for the next one goes up.
use Rattle.std.specs.Prelude.{◌≡◌, refl, List, ℕ, zero, suc, ◌+◌, ◌-◌, ◌<◌, ◌≤◌, get_or, set}
use Rattle.std.proofs.Common.{sym, ap, subst, ◌∙◌, arith, ltb, lt-ltb, le-ltb, ltb-true, ltb-false, eq-eqb, ne_eqb}
use Rattle.logic.specs.laws.Test.{if_passed, if_failed, cases}
use Rattle.listing.specs.Levels.{level_after, one_fewer, next_level, next_due}

-- where another is due at a level, it stands there
stays : (due : List ℕ) (level : ℕ) → 0 < level → 1 < get_or due level 0 → level ≡ level_after due level
unfolding level_after
stays due zero low more = absurd (omega arith)
stays due (suc level) low more = rw (if_passed (level_after due level) (lt-ltb _ _ more))

-- where none is, it stands where it would stand after a record one level up
rises : (due : List ℕ) (level : ℕ) → 0 < level → get_or due level 0 ≤ 1 → level_after due level ≡ level_after due (level - 1)
unfolding level_after
rises due zero low none = absurd (omega arith)
rises due (suc level) low none =
    let up : level ≡ suc level - 1 = omega arith in
    if_failed (suc level) (le-ltb _ _ none) ∙ ap (level_after due) up

-- it stands at the lowest level, from that one up, at which another is due, or at 0
pub level_is : (due : List ℕ) (from level : ℕ) → level ≤ from → (0 < level → 1 < get_or due level 0) →
    ((k : ℕ) → level < k → k ≤ from → get_or due k 0 ≤ 1) → level ≡ level_after due from
unfolding level_after
level_is due zero level within more none = omega arith
level_is due (suc from) level within more none =
    cases (ltb level (suc from))
    (λ e.
    let below : level < suc from = ltb-true level (suc from) e in
    let up : suc from - 1 ≡ from = omega arith in
    level_is due from level (omega arith) more (λ k above most. none k above (omega arith))
    ∙ sym (rises due (suc from) (omega arith) (none (suc from) below (omega arith)) ∙ ap (level_after due) up))
    (λ e.
    let same : level ≡ suc from = omega (arith, ltb-false level (suc from) e) in
    same ∙ stays due (suc from) (omega arith) (subst (λ n. 1 < get_or due n 0) same (more (omega arith))))

-- ---- what is due, with one passed
pub counts : (due : List ℕ) (level : ℕ) → 0 < level → set due level (get_or due level 0 - 1) ≡ one_fewer due level
unfolding one_fewer
counts due level low = rw (if_failed due (ne_eqb level 0 (λ e. omega arith)))

-- at level 0 nothing is counted
pub at_root : (due : List ℕ) → due ≡ one_fewer due 0
unfolding one_fewer
at_root due = rw (if_passed (set due 0 (get_or due 0 0 - 1)) (eq-eqb 0 0 refl))

-- ---- the next record
-- after one without children
pub next_after : (due : List ℕ) (level children r : ℕ) → children ≡ 0 → r ≡ level_after due level → r ≡ next_level due level children
unfolding next_level
next_after due level children r none e = rw (if_passed (level + 1) (eq-eqb children 0 none)) e

pub due_after : (due left : List ℕ) (level children r : ℕ) → children ≡ 0 → r ≡ level_after due level → left ≡ one_fewer due r → left ≡ next_due due level children
unfolding next_due
due_after due left level children r none e f = rw (if_passed (set due (level + 1) children) (eq-eqb children 0 none)) (f ∙ ap (one_fewer due) e)

-- and after one with children
pub next_child_lem : (due : List ℕ) (level children : ℕ) → (children ≡ 0 → ⊥) → level + 1 ≡ next_level due level children
unfolding next_level
next_child_lem due level children some = rw (if_failed (level_after due level) (ne_eqb children 0 some))

pub due_child : (due : List ℕ) (level children : ℕ) → (children ≡ 0 → ⊥) → set due (level + 1) children ≡ next_due due level children
unfolding next_due
due_child due level children some = rw (if_failed (one_fewer due (level_after due level)) (ne_eqb children 0 some))

-- what `pass` goes by
pub ruleset next = (next_after, due_after, next_child_lem, due_child)
