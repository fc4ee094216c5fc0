-- The table of the joints of number types, as it stands in the code, and its rule, at all of its entries by one test.
use borrow.Author.Tests.{leb-true, eqb-true}
use mathlib.Core.Path.{◌≡◌, refl}
use mathlib.Core.Bool.{Bool, true, ◌&&◌}
use mathlib.Core.List.{List, [], ◌∷◌}
use Prim.Native.Nat.{ℕ, ◌+◌, ◌-◌, ◌≤◌}
use native.Mathlib.Omega.{arith}
use lib.Dec.{eqb, leb}
use lib.ListN.{get_or}
use Rattle.logic.specs.Test.{when◌then◌else◌}
use Rattle.logic.specs.laws.Test.{both}
use Rattle.logic.specs.laws.Table.{every, every_row, row_at}
use Rattle.datatype.specs.declared.DataType.{DataType}
use Rattle.datatype.specs.declared.DataType.TheVariants.{Null, Int8 as I8, Int16 as I16, Int32 as I32, Int64 as I64, UInt8 as U8, UInt16 as U16, UInt32 as U32, UInt64 as U64, Float32 as F32, Float64 as F64}
use Rattle.datatype.specs.Codes.{code_of, int8, float64}
use Rattle.coerce.specs.Joint.{is_number, number_joint}

abbrev pub Numbers : ℕ → ℕ → Type 0
Numbers a b = (int8 ≤ a) × (a ≤ float64) × (int8 ≤ b) × (b ≤ float64)

pub numbers : (a b : ℕ) → (is_number a && is_number b) ≡ true → Numbers a b
numbers a b t =
    both (is_number a) (is_number b) t λ first second.
    both (leb int8 a) (leb a float64) first λ low high.
    both (leb int8 b) (leb b float64) second λ low' high'.
    (leb-true int8 a low, leb-true a float64 high, leb-true int8 b low', leb-true b float64 high')

-- what stands in the table, counted from Int8
abbrev pub right : ℕ → ℕ → DataType → Bool
right i j t = eqb (code_of t) (number_joint (int8 + i) (int8 + j))

unfoldable pub table : List (List DataType)
table =
    (I8 ∷ I64 ∷ I64 ∷ I64 ∷ I64 ∷ I64 ∷ I64 ∷ I64 ∷ F64 ∷ F64 ∷ []) ∷
    (I64 ∷ I16 ∷ I64 ∷ I64 ∷ I64 ∷ I64 ∷ I64 ∷ I64 ∷ F64 ∷ F64 ∷ []) ∷
    (I64 ∷ I64 ∷ I32 ∷ I64 ∷ I64 ∷ I64 ∷ I64 ∷ I64 ∷ F64 ∷ F64 ∷ []) ∷
    (I64 ∷ I64 ∷ I64 ∷ I64 ∷ I64 ∷ I64 ∷ I64 ∷ I64 ∷ F64 ∷ F64 ∷ []) ∷
    (I64 ∷ I64 ∷ I64 ∷ I64 ∷ U8 ∷ U64 ∷ U64 ∷ U64 ∷ F64 ∷ F64 ∷ []) ∷
    (I64 ∷ I64 ∷ I64 ∷ I64 ∷ U64 ∷ U16 ∷ U64 ∷ U64 ∷ F64 ∷ F64 ∷ []) ∷
    (I64 ∷ I64 ∷ I64 ∷ I64 ∷ U64 ∷ U64 ∷ U32 ∷ U64 ∷ F64 ∷ F64 ∷ []) ∷
    (I64 ∷ I64 ∷ I64 ∷ I64 ∷ U64 ∷ U64 ∷ U64 ∷ U64 ∷ F64 ∷ F64 ∷ []) ∷
    (F64 ∷ F64 ∷ F64 ∷ F64 ∷ F64 ∷ F64 ∷ F64 ∷ F64 ∷ F32 ∷ F64 ∷ []) ∷
    (F64 ∷ F64 ∷ F64 ∷ F64 ∷ F64 ∷ F64 ∷ F64 ∷ F64 ∷ F64 ∷ F64 ∷ []) ∷
    []

pub rule : (a b : ℕ) → Numbers a b → code_of (get_or (get_or table (a - int8) []) (b - int8) Null) ≡ number_joint a b
unfolding table every_row every number_joint when◌then◌else◌
rule a b (p, q, r, s) =
    let x : int8 + (a - int8) ≡ a = omega arith in
    let y : int8 + (b - int8) ≡ b = omega arith in
    let entry = row_at right 10 table Null refl (a - int8) (b - int8) (omega arith) (omega arith) in
    eqb-true (code_of (get_or (get_or table (a - int8) []) (b - int8) Null)) (number_joint a b) (rw (x, y) at entry)
