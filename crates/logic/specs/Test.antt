-- The choice by a test.
use Rattle.std.specs.Prelude.{Bool, true, false}

infix 1 when◌then◌else◌
-- the choice by a test
unfoldable pub when◌then◌else◌ : {A : Type 0} → Bool → A → A → A
when true then a else b = a
when false then a else b = b
