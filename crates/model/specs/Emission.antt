-- From the tree of places to the schema: refusals 12 to 17, the fields, and their records and names (document 01, "Field records";
-- Tracer::to_schema).
use Rattle.std.specs.Prelude.{Bool, true, false, not, ◌&&◌, ◌||◌, List, [], ◌∷◌, ◌++◌, ℕ, zero, suc, ◌+◌, ◌-◌, ◌*◌, ◌/◌, ◌%◌, eqb, leb, ltb, length}
use Rattle.std.proofs.Math.Option.{Option, none, some}
use Rattle.logic.specs.Test.{when◌then◌else◌}
use Rattle.datatype.specs.Codes.{null, utf8, large_utf8, struct, no_strategy, tuple_as_struct, map_as_struct, unknown_variant}
use Rattle.options.specs.Word.{allow_null_fields, string_dictionary_encoding, enums_without_data_as_strings, list_type, dictionary_type}
use Rattle.refusal.specs.Number.{null_field, dataless_union, too_many_slots, nullable_root, null_root, root_not_struct}
use Rattle.text.specs.Name.{lt_name}
use Rattle.text.specs.Decimal.{decimal}
use Rattle.model.specs.Result.{Result, accepted, refused}
use Rattle.model.specs.Kinds.{sequence_kind, map_kind, union_kind, tuple_kind, map_mode_kind, is_struct, Step, field, element, position, key, value, variant, variant_of}
use Rattle.model.specs.Tracing.{Marks, marks, Tree, node, Kids, no_kids, kid, one}

-- ---- the places as the walk finds them: whether null is admitted and whether it was widened, the kind, and the places below, in order of
-- first sight, the variants of a union by their numbers
mutual
  pub data Place : Type 0 where
    shown : Marks → (kind : ℕ) → Places → Place

  pub data Places : Type 0 where
    none_below : Places
    below : Step → Place → Places → Places

-- by number
unfoldable pub insert_variant : Step → Place → Places → Places
insert_variant s p none_below = below s p none_below
insert_variant s p (below r q ps) =
    when ltb (variant_of s) (variant_of r) then below s p (below r q ps)
    else below r q (insert_variant s p ps)

unfoldable pub by_number : Places → Places
by_number none_below = none_below
by_number (below s p ps) = insert_variant s p (by_number ps)

-- a struct field missing from any of that struct's samples becomes nullable
abbrev pub is_missing : ℕ → ℕ → ℕ → Bool
is_missing kind samples held = is_struct kind && ltb held samples

-- null is admitted too, if so
abbrev pub admitted : Bool → Marks → Marks
admitted null m = marks (null || m.null) m.widened

unfoldable mutual
  pub place_of : Bool → Tree → Place
  place_of missing (node m kind samples kids) =
      shown (admitted missing m) kind
      (when eqb kind union_kind then by_number (places_of kind samples kids) else places_of kind samples kids)

  pub places_of : ℕ → ℕ → Kids → Places
  places_of kind samples no_kids = none_below
  places_of kind samples (kid s held tree kids) = below s (place_of (is_missing kind samples held) tree) (places_of kind samples kids)

-- ---- a union of only dataless variants (unknown or Null places) without gaps
abbrev pub is_dataless : Place → Bool
is_dataless (shown m kind ps) = eqb kind null

unfoldable pub dataless_from : ℕ → Places → Bool
dataless_from slot none_below = true
dataless_from slot (below s p ps) = (eqb (variant_of s) slot && is_dataless p) && dataless_from (slot + 1) ps

abbrev pub dataless : Places → Bool
dataless ps = dataless_from 0 ps

-- emission reaches no slot from here on (refusal 14)
abbrev pub slot_limit : ℕ
slot_limit = 128

-- ---- the refusal that the walk meets first, 12 to 14
abbrev pub first_of : Option ℕ → Option ℕ → Option ℕ
first_of none other = other
first_of (some refusal) other = some refusal

unfoldable mutual
  pub walk : ℕ → Place → Option ℕ
  walk options (shown m kind ps) =
      when eqb kind null then (when allow_null_fields options then none else some null_field)
      else when eqb kind union_kind && dataless ps && enums_without_data_as_strings options then none
      else when eqb kind union_kind && dataless ps && not (allow_null_fields options) then some dataless_union
      else walks options kind ps

  pub walks : ℕ → ℕ → Places → Option ℕ
  walks options kind none_below = none
  walks options kind (below s p ps) =
      when eqb kind union_kind && leb slot_limit (variant_of s) then some too_many_slots
      else first_of (walk options p) (walks options kind ps)

-- ---- a field of the schema, with all below it: type, whether it is nullable and whether its place was widened, strategy, variant number,
-- name, children
mutual
  pub data Field : Type 0 where
    mk : (type : ℕ) → Marks → (strategy number : ℕ) → (name : List ℕ) → Fields → Field

  pub data Fields : Type 0 where
    no_fields : Fields
    more : Field → Fields → Fields

-- a struct in either mode and a tuple are emitted as Struct
abbrev pub emits_struct : ℕ → Bool
emits_struct kind = is_struct kind || eqb kind tuple_kind

-- a string under option 5 is a dictionary
unfoldable pub type_of : ℕ → ℕ → ℕ
type_of options kind =
    when eqb kind sequence_kind then list_type options
    else when emits_struct kind then struct
    else when (eqb kind utf8 || eqb kind large_utf8) && string_dictionary_encoding options then dictionary_type options
    else kind

unfoldable pub strategy_of : ℕ → ℕ
strategy_of kind = when eqb kind tuple_kind then tuple_as_struct else when eqb kind map_mode_kind then map_as_struct else no_strategy

-- the fixed names, as byte strings
abbrev pub element_name : List ℕ
element_name = 101 ∷ 108 ∷ 101 ∷ 109 ∷ 101 ∷ 110 ∷ 116 ∷ []

abbrev pub key_name : List ℕ
key_name = 107 ∷ 101 ∷ 121 ∷ []

abbrev pub value_name : List ℕ
value_name = 118 ∷ 97 ∷ 108 ∷ 117 ∷ 101 ∷ []

abbrev pub entries_name : List ℕ
entries_name = 101 ∷ 110 ∷ 116 ∷ 114 ∷ 105 ∷ 101 ∷ 115 ∷ []

abbrev pub name_of : Step → List ℕ
name_of (field name) = name
name_of element = element_name
name_of (position i) = decimal i
name_of key = key_name
name_of value = value_name
name_of (variant number name) = name

abbrev pub name_in : Field → List ℕ
name_in (mk type m strategy number name fs) = name

-- sorted by name bytes
unfoldable pub insert_field : Field → Fields → Fields
insert_field f no_fields = more f no_fields
insert_field f (more g fs) = when lt_name (name_in g) (name_in f) then more g (insert_field f fs) else more f (more g fs)

unfoldable pub by_name : Fields → Fields
by_name no_fields = no_fields
by_name (more f fs) = insert_field f (by_name fs)

-- a union slot never seen is an unnamed nullable Null with strategy 3
abbrev pub gap : ℕ → Field
gap slot = mk null (marks true false) unknown_variant slot [] no_fields

unfoldable pub gaps : ℕ → ℕ → Fields → Fields
gaps slot zero fs = fs
gaps slot (suc n) fs = more (gap slot) (gaps (slot + 1) n fs)

-- a map's key and value stand in its entries; map-mode fields are sorted
unfoldable pub arranged : ℕ → Fields → Fields
arranged kind fs =
    when eqb kind map_kind then more (mk struct (marks false false) no_strategy 0 entries_name fs) no_fields
    else when eqb kind map_mode_kind then by_name fs
    else fs

-- the field of a place with that name and variant number
unfoldable mutual
  pub field_of : ℕ → List ℕ → ℕ → Place → Field
  field_of options name number (shown m kind ps) =
      when eqb kind union_kind && dataless ps && enums_without_data_as_strings options
      then mk (dictionary_type options) m no_strategy number name no_fields
      else mk (type_of options kind) m (strategy_of kind) number name (arranged kind (fields_of options kind 0 ps))

  -- of a union from that slot on, with the slots never seen
  pub fields_of : ℕ → ℕ → ℕ → Places → Fields
  fields_of options kind slot none_below = no_fields
  fields_of options kind slot (below s p ps) =
      gaps slot (when eqb kind union_kind then variant_of s - slot else 0)
      (more (field_of options (name_of s) (variant_of s) p) (fields_of options kind (variant_of s + 1) ps))

-- ---- refusals 15 to 17, of the root's emitted field
abbrev pub root_fields : ℕ → Field → Result Fields
root_fields end (mk type m strategy number name fs) =
    when m.null then refused nullable_root end
    else when eqb type null then refused null_root end
    else when eqb type struct then accepted fs
    else refused root_not_struct end

-- the root's name: the walk never emits it
abbrev pub root_name : List ℕ
root_name = 36 ∷ []

-- the fields of the schema; `end` is the commands' length, the place of these refusals
unfoldable pub to_schema : ℕ → ℕ → Tree → Result Fields
to_schema options end tree =
    let root = place_of false tree in
    elim (walk options root) [
      | some refusal ↦ refused refusal end
      | none ↦ root_fields end (field_of options root_name 0 root)
    ]

-- ---- records and names, in preorder
abbrev pub child_count : Fields → ℕ
child_count no_fields = 0
child_count (more f fs) = suc (child_count fs)

-- 16 bits, low byte first
abbrev pub two_bytes : ℕ → List ℕ
two_bytes n = n % 256 ∷ n / 256 ∷ []

-- the nullable byte: 1 where null is admitted, "and the nullable byte gets 2 added where a place saw two different non-null primitive
-- types" (document 02, 1/14)
abbrev pub nullable_byte : Marks → ℕ
nullable_byte m = one m.null + 2 * one m.widened

-- type; nullable byte; strategy; variant number; name length; child count
unfoldable mutual
  pub records_of : Field → List ℕ
  records_of (mk type m strategy number name fs) =
      (type ∷ nullable_byte m ∷ strategy ∷ number ∷ two_bytes (length name) ++ two_bytes (child_count fs)) ++ records_in fs

  pub records_in : Fields → List ℕ
  records_in no_fields = []
  records_in (more f fs) = records_of f ++ records_in fs

unfoldable mutual
  pub names_of : Field → List ℕ
  names_of (mk type m strategy number name fs) = name ++ names_in fs

  pub names_in : Fields → List ℕ
  names_in no_fields = []
  names_in (more f fs) = names_of f ++ names_in fs

-- a column is a field record without children whose type is not Struct (document 02, 6/14), whatever its strategy: an empty struct, an
-- empty tuple and an empty map-mode struct are none; a Null field, a slot never seen and a dictionary are
abbrev pub is_column : (type children : ℕ) → Bool
is_column type children = eqb children 0 && not (eqb type struct)

unfoldable mutual
  pub columns_of : Field → ℕ
  columns_of (mk type m strategy number name fs) = one (is_column type (child_count fs)) + columns_in fs

  pub columns_in : Fields → ℕ
  columns_in no_fields = 0
  columns_in (more f fs) = columns_of f + columns_in fs

unfoldable mutual
  pub count_of : Field → ℕ
  count_of (mk type m strategy number name fs) = suc (count_in fs)

  pub count_in : Fields → ℕ
  count_in no_fields = 0
  count_in (more f fs) = count_of f + count_in fs
