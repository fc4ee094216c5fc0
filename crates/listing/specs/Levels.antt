-- At which level a field record stands: 0 for the root's fields, else one more than its parent. Records stand in preorder, each with its
-- child count, so what is still due says where the next one stands. `due` has for each level how many records are due there among the
-- children of one parent, the one passed last among them. At level 0 nothing is counted: what comes when nothing is due below is a field
-- of the root.
use Rattle.std.specs.Prelude.{List, ℕ, zero, suc, ◌+◌, ◌-◌, eqb, ltb, get_or, set}
use Rattle.logic.specs.Test.{when◌then◌else◌}

-- the level of the record after one that has no children: its own, if another is due there; else the nearest above at which one is; else 0
unfoldable pub level_after : List ℕ → ℕ → ℕ
level_after due zero = 0
level_after due (suc level) = when ltb 1 (get_or due (suc level) 0) then suc level else level_after due level

-- what is due with one record passed at a level
unfoldable pub one_fewer : List ℕ → ℕ → List ℕ
one_fewer due level = when eqb level 0 then due else set due level (get_or due level 0 - 1)

-- the level of the record after one with so many children: its first child is the next one
unfoldable pub next_level : List ℕ → ℕ → ℕ → ℕ
next_level due level children = when eqb children 0 then level_after due level else level + 1

-- what is due then: all its children, or one fewer where the next one stands
unfoldable pub next_due : List ℕ → ℕ → ℕ → List ℕ
next_due due level children = when eqb children 0 then one_fewer due (level_after due level) else set due (level + 1) children
