-- The codes of types and strategies, as in document 01's "Field records".
use Rattle.std.specs.Prelude.{ℕ, List, [], ◌∷◌, Result, slice_get, ok_or}
use Rattle.datatype.specs.declared.Zone.TheVariants as Z
use Rattle.datatype.specs.declared.DataType.{DataType}
use Rattle.datatype.specs.declared.DataType.TheVariants as D
use Rattle.datatype.specs.declared.UnknownCode.{UnknownCode}
use Rattle.datatype.specs.declared.Strategy.{Strategy}
use Rattle.datatype.specs.declared.Strategy.TheVariants as S

-- the types of document 01, each by its code
abbrev pub null : ℕ
null = 0

abbrev pub boolean : ℕ
boolean = 1

abbrev pub int8 : ℕ
int8 = 2

abbrev pub int16 : ℕ
int16 = 3

abbrev pub int32 : ℕ
int32 = 4

abbrev pub int64 : ℕ
int64 = 5

abbrev pub uint8 : ℕ
uint8 = 6

abbrev pub uint16 : ℕ
uint16 = 7

abbrev pub uint32 : ℕ
uint32 = 8

abbrev pub uint64 : ℕ
uint64 = 9

abbrev pub float32 : ℕ
float32 = 10

abbrev pub float64 : ℕ
float64 = 11

abbrev pub utf8 : ℕ
utf8 = 12

abbrev pub large_utf8 : ℕ
large_utf8 = 13

abbrev pub binary : ℕ
binary = 14

abbrev pub large_binary : ℕ
large_binary = 15

abbrev pub date32 : ℕ
date32 = 16

abbrev pub time64 : ℕ
time64 = 17

abbrev pub timestamp_naive : ℕ
timestamp_naive = 18

abbrev pub timestamp_utc : ℕ
timestamp_utc = 19

abbrev pub dictionary_utf8 : ℕ
dictionary_utf8 = 20

abbrev pub dictionary_large_utf8 : ℕ
dictionary_large_utf8 = 21

abbrev pub list : ℕ
list = 22

abbrev pub large_list : ℕ
large_list = 23

abbrev pub struct : ℕ
struct = 24

abbrev pub map : ℕ
map = 25

abbrev pub union : ℕ
union = 26

-- the type byte of a field record
abbrev pub code_of : DataType → ℕ
code_of D.Null = null
code_of D.Boolean = boolean
code_of D.Int8 = int8
code_of D.Int16 = int16
code_of D.Int32 = int32
code_of D.Int64 = int64
code_of D.UInt8 = uint8
code_of D.UInt16 = uint16
code_of D.UInt32 = uint32
code_of D.UInt64 = uint64
code_of D.Float32 = float32
code_of D.Float64 = float64
code_of D.Utf8 = utf8
code_of D.LargeUtf8 = large_utf8
code_of D.Binary = binary
code_of D.LargeBinary = large_binary
code_of D.Date32 = date32
code_of D.Time64 = time64
code_of (D.Timestamp Z.Naive) = timestamp_naive
code_of (D.Timestamp Z.Utc) = timestamp_utc
code_of D.DictionaryUtf8 = dictionary_utf8
code_of D.DictionaryLargeUtf8 = dictionary_large_utf8
code_of D.List = list
code_of D.LargeList = large_list
code_of D.Struct = struct
code_of D.Map = map
code_of D.Union = union

-- the strategies of document 01, each by its code
abbrev pub no_strategy : ℕ
no_strategy = 0

abbrev pub tuple_as_struct : ℕ
tuple_as_struct = 1

abbrev pub map_as_struct : ℕ
map_as_struct = 2

abbrev pub unknown_variant : ℕ
unknown_variant = 3

-- the strategy byte of a field record
abbrev pub strategy_code : Strategy → ℕ
strategy_code S.None = no_strategy
strategy_code S.TupleAsStruct = tuple_as_struct
strategy_code S.MapAsStruct = map_as_struct
strategy_code S.UnknownVariant = unknown_variant

-- the types in the order of their codes
abbrev pub types : List DataType
types =
    D.Null ∷
    D.Boolean ∷
    D.Int8 ∷
    D.Int16 ∷
    D.Int32 ∷
    D.Int64 ∷
    D.UInt8 ∷
    D.UInt16 ∷
    D.UInt32 ∷
    D.UInt64 ∷
    D.Float32 ∷
    D.Float64 ∷
    D.Utf8 ∷
    D.LargeUtf8 ∷
    D.Binary ∷
    D.LargeBinary ∷
    D.Date32 ∷
    D.Time64 ∷
    D.Timestamp Z.Naive ∷
    D.Timestamp Z.Utc ∷
    D.DictionaryUtf8 ∷
    D.DictionaryLargeUtf8 ∷
    D.List ∷
    D.LargeList ∷
    D.Struct ∷
    D.Map ∷
    D.Union ∷
    []

-- the type with a code, where there is one
unfoldable pub decoded : ℕ → Result DataType UnknownCode
decoded code = ok_or (slice_get types code) (record { code = code })
