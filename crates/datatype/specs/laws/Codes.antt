-- Laws of the codes of types.
use Rattle.std.specs.Prelude.{◌≡◌, refl, Ok}
use Rattle.std.proofs.Common.{ap}
use Rattle.datatype.specs.declared.Zone.TheVariants as Z
use Rattle.datatype.specs.declared.DataType.{DataType}
use Rattle.datatype.specs.declared.DataType.TheVariants as D
use Rattle.datatype.specs.Codes.{code_of, decoded}

-- a type is found again by its code
pub decoded_code : (t : DataType) → decoded (code_of t) ≡ Ok t
unfolding decoded
decoded_code D.Null = refl
decoded_code D.Boolean = refl
decoded_code D.Int8 = refl
decoded_code D.Int16 = refl
decoded_code D.Int32 = refl
decoded_code D.Int64 = refl
decoded_code D.UInt8 = refl
decoded_code D.UInt16 = refl
decoded_code D.UInt32 = refl
decoded_code D.UInt64 = refl
decoded_code D.Float32 = refl
decoded_code D.Float64 = refl
decoded_code D.Utf8 = refl
decoded_code D.LargeUtf8 = refl
decoded_code D.Binary = refl
decoded_code D.LargeBinary = refl
decoded_code D.Date32 = refl
decoded_code D.Time64 = refl
decoded_code (D.Timestamp Z.Naive) = refl
decoded_code (D.Timestamp Z.Utc) = refl
decoded_code D.DictionaryUtf8 = refl
decoded_code D.DictionaryLargeUtf8 = refl
decoded_code D.List = refl
decoded_code D.LargeList = refl
decoded_code D.Struct = refl
decoded_code D.Map = refl
decoded_code D.Union = refl

-- No proof cites this: types that have one code are one type, so that a contract which says a type's code determines the type.
pub code_injective : (t u : DataType) → code_of t ≡ code_of u → t ≡ u
code_injective t u e = cc (decoded_code t, decoded_code u, ap decoded e)
