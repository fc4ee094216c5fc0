-- A child as code hands it on. In the words of the table place 0 stands for none, for it is nobody's child.
use Rattle.std.specs.Prelude.{◌≡◌, ℕ, zero, suc, Option, Some, None}
use Rattle.words.specs.Numbers.{half_number}
use Rattle.search.specs.declared.Slot.{Slot}
use Rattle.search.specs.Tree as T

unfoldable pub child_of : ℕ → Option ℕ
child_of zero = None
child_of (suc n) = Some (suc n)

-- a link as code hands it on
abbrev pub IsSlot : Slot → T.Slot → Type 0
IsSlot slot found = (slot.child ≡ child_of found.child) × (slot.place ≡ found.place) × (half_number slot.field ≡ found.field)
