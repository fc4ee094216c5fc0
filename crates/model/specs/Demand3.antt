-- The words of demand 3: accepted, equal schemas, struct records, a place shown both as struct and as map, records in another order.
use Rattle.std.specs.Prelude.{Bool, true, false, not, ◌&&◌, ◌||◌, ◌≡◌, ℕ, ◌*◌, ◌≤◌, eqb, length, take}
use mathlib.Core.List.{List, [], ◌∷◌, flatten}
use Rattle.logic.specs.Test.{when◌then◌else◌}
use Rattle.logic.specs.All.{All}
use Rattle.datatype.specs.Codes.{struct, map, no_strategy}
use Rattle.options.specs.Word.{allow_to_string, enums_without_data_as_strings}
use Rattle.model.specs.Kinds.{struct_kind, map_kind, map_mode_kind, Step}
use Rattle.model.specs.Reading.{Value, values, is_whole}
use Rattle.model.specs.Emission.{Field, mk, Fields, no_fields, more, records_in, names_in, count_in, by_name}
use Rattle.model.specs.Answer.{Batch, Buffers, Answer, record_bytes}
use Rattle.model.specs.Census.{kind_in, standing}

-- an options word with allow_to_string and enums_without_data_as_strings off, in either edition
pub record Plain (options : ℕ) : Type 0 where
  pub to_string_off : allow_to_string options ≡ false
  pub enums_off : enums_without_data_as_strings options ≡ false

-- accepted is refusal 0
abbrev pub Accepted : Answer → Type 0
Accepted a = a.refusal ≡ 0

-- schemas are equal when they have equally many field records and name bytes, and the same bytes in them, whatever the buffers held before
pub record SameSchema (a b : Answer) : Type 0 where
  pub records : a.field_records ≡ b.field_records
  pub names : a.name_bytes ≡ b.name_bytes
  pub bytes_of_records : take (record_bytes * a.field_records) a.left.fields ≡ take (record_bytes * b.field_records) b.left.fields
  pub name_bytes : take a.name_bytes a.left.names ≡ take b.name_bytes b.left.names

abbrev pub batch : ℕ → List ℕ → List ℕ → Batch
batch options commands text = record { options = options; commands = commands; text = text }

abbrev pub records_of : Batch → List Value
records_of b = values b.options b.commands b.text

-- every record is a struct record: a 15, past any 10 and 11
abbrev pub StructRecords : Batch → Type 0
StructRecords b = All (λ (v : Value). kind_in v ≡ struct_kind) (records_of b)

-- some value of these shows its place so
unfoldable pub shows : (ℕ → Bool) → List Value → Bool
shows p [] = false
shows p (v ∷ vs) = p (kind_in v) || shows p vs

abbrev pub as_struct : ℕ → Bool
as_struct kind = eqb kind struct_kind

-- 14, traced as a struct or not
abbrev pub as_map : ℕ → Bool
as_map kind = eqb kind map_kind || eqb kind map_mode_kind

-- the batch shows no place both as struct and as map
abbrev pub NoPlaceBoth : Batch → Type 0
NoPlaceBoth b =
    (steps : List Step) → (shows as_struct (standing steps (records_of b)) && shows as_map (standing steps (records_of b))) ≡ false

-- ---- a batch's records in another order
-- one whole record, and nothing else
abbrev pub IsRecord : ℕ → List ℕ → List ℕ → Type 0
IsRecord options text commands = (v : Value) × (values options commands text ≡ v ∷ []) × (is_whole v ≡ true)

-- the batch with these records instead, one after another
abbrev pub with_records : Batch → List (List ℕ) → Batch
with_records b records = batch b.options (flatten records) b.text

-- the records of a batch: each is read by itself as one whole record, and one after another they are the batch
pub record AreRecords (b : Batch) (records : List (List ℕ)) : Type 0 where
  pub each : All (IsRecord b.options b.text) records
  pub together : with_records b records ≡ b

-- a batch is made up of records in one way only
pub record Split (b : Batch) : Type 0 where
  pub records : List (List ℕ)
  pub are : AreRecords b records
  pub only : (others : List (List ℕ)) → AreRecords b others → others ≡ records

-- the buffers no shorter
pub record NoShorter (lent other : Buffers) : Type 0 where
  pub table : length lent.table ≤ length other.table
  pub fields : length lent.fields ≤ length other.fields
  pub names : length lent.names ≤ length other.names

-- a struct whose fields are listed in order of first sight: neither a tuple nor a map traced as a struct, nor the entries of a map, whose
-- fields are key and value; `above` is the type of the field that it stands in
abbrev pub is_listed : ℕ → ℕ → ℕ → Bool
is_listed above type strategy = eqb type struct && eqb strategy no_strategy && not (eqb above map)

-- "only listed struct order can change, each field moving with all below it": the fields of every such struct, each with all below it, in
-- the order of their names; all others as they stand
unfoldable mutual
  pub in_name_order_of : ℕ → Field → Field
  in_name_order_of above (mk type m strategy number name fs) =
      mk type m strategy number name
      (when is_listed above type strategy then by_name (in_name_order_below type fs) else in_name_order_below type fs)

  pub in_name_order_below : ℕ → Fields → Fields
  in_name_order_below above no_fields = no_fields
  in_name_order_below above (more f fs) = more (in_name_order_of above f) (in_name_order_below above fs)

-- of a schema: the root is a struct
unfoldable pub in_name_order : Fields → Fields
in_name_order fs = by_name (in_name_order_below struct fs)

-- the answer holds the fields of a schema
pub record Holds (schema : Fields) (a : Answer) : Type 0 where
  pub records : a.field_records ≡ count_in schema
  pub names : a.name_bytes ≡ length (names_in schema)
  pub bytes_of_records : take (record_bytes * a.field_records) a.left.fields ≡ records_in schema
  pub name_bytes : take a.name_bytes a.left.names ≡ names_in schema

-- two schemas of struct records that differ in the order of struct fields alone
abbrev pub SameButOrder : Answer → Answer → Type 0
SameButOrder a b = (schema other : Fields) × Holds schema a × Holds other b × (in_name_order schema ≡ in_name_order other)
