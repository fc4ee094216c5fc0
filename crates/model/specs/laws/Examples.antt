-- Worked examples of the definitions, each computed: what a wrong definition would break.
use Rattle.std.specs.Prelude.{◌≡◌, refl, true, false, List, [], ◌∷◌, ◌++◌, ℕ, replicate, take}
use Rattle.std.proofs.Math.Option.{Option, some}
use Rattle.std.proofs.Common.{arith}
use Rattle.logic.specs.Test.{when◌then◌else◌}
use Rattle.logic.specs.All.{has}
use Rattle.datatype.specs.Codes.{uint8, uint32, uint64, float64, dictionary_utf8, struct, map, no_strategy}
use Rattle.refusal.specs.Number.{too_deep, no_joint, null_root, null_field, root_not_struct}
use Rattle.text.specs.Name.{dot, eq_name, lt_name, dots}
use Rattle.text.specs.Utf8 as U
use Rattle.chrono.specs.Text.{text_type}
use Rattle.coerce.specs.Census as Y
use Rattle.coerce.specs.Joint as J
use Rattle.commands.specs.Commands as C
use Rattle.model.specs.Result.{Result, accepted, refused}
use Rattle.model.specs.Kinds.{field, same}
use Rattle.model.specs.Reading as R
use Rattle.model.specs.Tracing as T
use Rattle.model.specs.Emission as E
use Rattle.model.specs.Unbounded as N
use Rattle.model.specs.Census as S
use Rattle.model.specs.Bound as B
use Rattle.model.specs.Answer.{schema_of}
use Rattle.model.specs.Demand3.{in_name_order_of, in_name_order}

abbrev pub refusal_of : Result E.Fields → List ℕ
refusal_of (accepted schema) = 0 ∷ 0 ∷ []
refusal_of (refused refusal place) = refusal ∷ place ∷ []

-- the schema of a batch
unfoldable pub schema_in : ℕ → List ℕ → List ℕ → Result E.Fields
unfolding when◌then◌else◌ eq_name dots same schema_of U.within U.due_in U.reads U.fits C.form_of C.operands C.made C.name_in C.bad_command C.bad_name C.read_command R.shape_of R.next_part R.records_from R.values R.read_value R.read_shape R.read_parts T.meet T.steps_of T.has T.kid_at T.put T.clashes T.room T.made T.make T.holds T.tally T.observe_all T.trace T.observe T.observe_parts E.insert_variant E.by_number E.dataless_from E.type_of E.strategy_of E.insert_field E.by_name E.gaps E.arranged E.to_schema E.place_of E.places_of E.walk E.walks E.field_of E.fields_of J.number_joint J.joint_of_numbers J.joint_with_string J.joint_of_timestamps J.joint_of_unequal J.joint
schema_in options commands text = schema_of (record { options = options; commands = commands; text = text })

-- the refusal of a batch and its place, or 0 and 0
abbrev pub outcome : ℕ → List ℕ → List ℕ → List ℕ
outcome options commands text = refusal_of (schema_in options commands text)

-- a field with a name of so many dots, which holds an empty struct
abbrev pub deep : ℕ → List ℕ
deep n = outcome 30 (0x15 ∷ 0x16 ∷ 0 ∷ 0 ∷ n ∷ 0 ∷ 0x15 ∷ 0x17 ∷ 0x17 ∷ []) (replicate n dot)

-- depth is counted by dots, and a name's own dots count: a struct at depth 19 passes, at 20 it is refused at its own command
pub depth_19 : deep 18 ≡ 0 ∷ 0 ∷ []
unfolding schema_in
depth_19 = refl

pub depth_20 : deep 19 ≡ too_deep ∷ 6 ∷ []
unfolding schema_in
depth_20 = refl

-- the empty batch: refusal 12, and with allow_null_fields 16
pub empty_batch : outcome 30 [] [] ≡ null_field ∷ 0 ∷ []
unfolding schema_in
empty_batch = refl

pub empty_null : outcome 31 [] [] ≡ null_root ∷ 0 ∷ []
unfolding schema_in
empty_null = refl

-- ---- columns (document 02, 6/14)
abbrev pub counts_of : Result E.Fields → List ℕ
counts_of (accepted schema) = E.count_in schema ∷ E.columns_in schema ∷ []
counts_of (refused refusal place) = []

-- how many field records and how many columns there are where the field `r` holds this value
abbrev pub remarks : List ℕ → List ℕ
remarks value = counts_of (schema_in 31 ((0x15 ∷ 0x16 ∷ 0 ∷ 0 ∷ 1 ∷ 0 ∷ value) ++ 0x17 ∷ []) (114 ∷ []))

-- an empty struct, an empty tuple and an empty map-mode struct are no columns
pub empty_struct : remarks (0x15 ∷ 0x17 ∷ []) ≡ 1 ∷ 0 ∷ []
unfolding schema_in E.count_of E.columns_of
empty_struct = refl

pub empty_tuple : remarks (0x13 ∷ 0 ∷ 0 ∷ []) ≡ 1 ∷ 0 ∷ []
unfolding schema_in E.count_of E.columns_of
empty_tuple = refl

pub empty_map_mode : remarks (0x14 ∷ 0x17 ∷ []) ≡ 1 ∷ 0 ∷ []
unfolding schema_in E.count_of E.columns_of
empty_map_mode = refl

-- a Null field is one
pub null_column : remarks (0x00 ∷ []) ≡ 1 ∷ 1 ∷ []
unfolding schema_in E.count_of E.columns_of
null_column = refl

-- ---- the editions (document 02, 4/14)
-- two records with a length, an f64 in the first and a u32 in the second
abbrev pub lengths : ℕ → List ℕ
lengths options =
    outcome options (0x15 ∷ 0x16 ∷ 0 ∷ 0 ∷ 1 ∷ 0 ∷ 0x0B ∷ 0x17 ∷ 0x15 ∷ 0x16 ∷ 0 ∷ 0 ∷ 1 ∷ 0 ∷ 0x08 ∷ 0x17 ∷ []) (108 ∷ [])

-- in edition 1 both numbers have a joint, in edition 2 the u32 is refused
pub first_edition : lengths 94 ≡ 0 ∷ 0 ∷ []
unfolding schema_in
first_edition = refl

pub second_edition : lengths 1118 ≡ no_joint ∷ 14 ∷ []
unfolding schema_in
second_edition = refl

-- what the census says of the field `a`
unfoldable pub said : List ℕ → Option S.Said
unfolding has when◌then◌else◌ eq_name lt_name same U.within U.due_in U.reads U.fits C.form_of C.operands C.made C.name_in C.bad_command C.bad_name C.read_command R.shape_of R.next_part R.records_from R.values R.read_value R.read_shape R.read_parts T.has T.holds Y.several_seen Y.type_seen Y.non_null S.parts_at S.below S.standing S.any_null S.samples S.holders S.kinds_seen S.types_seen S.container_seen S.kind_seen S.fixed_steps S.steps_in S.sight S.sights S.steps_seen S.insert_step S.as_set S.census
said commands = S.census 30 (field (97 ∷ []) ∷ []) false (R.values 30 commands (97 ∷ []))

-- of two records the first has the field and the second has not: null is admitted there, since fewer samples of its struct hold it than exist
pub lacking_null : said (0x15 ∷ 0x16 ∷ 0 ∷ 0 ∷ 1 ∷ 0 ∷ 0x06 ∷ 0x17 ∷ 0x15 ∷ 0x17 ∷ []) ≡ some (record { null = true; widened = false; kind = uint8; children = [] })
unfolding said
lacking_null = refl

-- ---- columns that were widened (document 02, 1/14)
-- records with the one field `a`, which holds these values
abbrev pub of_a : List (List ℕ) → List ℕ
of_a [] = []
of_a (value ∷ values) = (0x15 ∷ 0x16 ∷ 0 ∷ 0 ∷ 1 ∷ 0 ∷ value) ++ (0x17 ∷ of_a values)

-- a value that is one byte
abbrev pub bare : ℕ → List ℕ
bare byte = byte ∷ []

-- the type of the field's record and its nullable byte; or the refusal and its place
abbrev pub typed : Result E.Fields → List ℕ
typed (accepted schema) = take 2 (E.records_in schema)
typed (refused refusal place) = refusal ∷ place ∷ []

abbrev pub widening : ℕ → List (List ℕ) → List ℕ
widening options values = typed (schema_in options (of_a values) (97 ∷ []))

-- an f64 and then a u32: a Float64 as before, but two types were seen
pub float_then_integer : widening 94 (bare 0x0B ∷ bare 0x08 ∷ []) ≡ float64 ∷ 2 ∷ []
unfolding schema_in E.records_of
float_then_integer = refl

-- a u32 and a char are one type; Null is none, and is admitted besides
pub char_is_integer : widening 94 (bare 0x08 ∷ bare 0x00 ∷ bare 0x0C ∷ []) ≡ uint32 ∷ 1 ∷ []
unfolding schema_in E.records_of
char_is_integer = refl

pub null_between : widening 94 (bare 0x08 ∷ bare 0x00 ∷ bare 0x06 ∷ []) ≡ uint64 ∷ 3 ∷ []
unfolding schema_in E.records_of
null_between = refl

-- a string's dictionary carries the mark (a text and then a bool), an enum's never (variants 0 and 1)
pub string_dictionary : widening 160 ((0x0D ∷ 0 ∷ 0 ∷ 1 ∷ 0 ∷ []) ∷ bare 0x01 ∷ []) ≡ dictionary_utf8 ∷ 2 ∷ []
unfolding schema_in text_type E.records_of
string_dictionary = refl

pub enum_dictionary : widening 512 ((0x18 ∷ 0 ∷ 0 ∷ 0 ∷ 0 ∷ 1 ∷ 0 ∷ []) ∷ (0x18 ∷ 1 ∷ 0 ∷ 0 ∷ 0 ∷ 0 ∷ 0 ∷ []) ∷ []) ≡ dictionary_utf8 ∷ 0 ∷ []
unfolding schema_in E.records_of
enum_dictionary = refl

-- the census says the same of both
pub said_not_widened : said (of_a (bare 0x08 ∷ bare 0x00 ∷ bare 0x0C ∷ [])) ≡ some (record { null = true; widened = false; kind = uint32; children = [] })
unfolding said
said_not_widened = refl

pub said_widened : said (of_a (bare 0x08 ∷ bare 0x00 ∷ bare 0x06 ∷ [])) ≡ some (record { null = true; widened = true; kind = uint64; children = [] })
unfolding said
said_widened = refl

-- a root of two types has refusal 17 and not 15, for null is not admitted there
pub root_widened : outcome 64 (0x06 ∷ 0x07 ∷ []) [] ≡ root_not_struct ∷ 2 ∷ []
unfolding schema_in
root_widened = refl

-- ---- which commands need places
unfoldable pub needing : ℕ → List ℕ → List ℕ
unfolding when◌then◌else◌ eq_name dots same C.form_of C.operands C.made C.name_in C.bad_command C.bad_name C.read_command R.shape_of R.next_part R.records_from R.values R.read_value R.read_shape R.read_parts T.meet T.steps_of T.has T.kid_at T.put T.clashes T.made T.holds T.tally N.make_all N.allowed N.see N.see_parts B.needed B.needs B.needs_in B.needs_all J.number_joint J.joint_of_numbers J.joint_with_string J.joint_of_timestamps J.joint_of_unequal J.joint
needing options commands = B.needs_all options (R.values options commands []) T.fresh

-- a tuple of two and one of three: the first needs both its positions at its own command, the second its third at that position's value
pub tuples_need : needing 30 (0x13 ∷ 2 ∷ 0 ∷ 1 ∷ 1 ∷ 0x13 ∷ 3 ∷ 0 ∷ 1 ∷ 1 ∷ 1 ∷ []) ≡ 0 ∷ 0 ∷ 10 ∷ []
unfolding needing
tuples_need = refl

-- behind a refusal (bool and u8 have no joint) nothing is needed
pub refused_needs : needing 0 (0x01 ∷ 0x06 ∷ 0x13 ∷ 2 ∷ 0 ∷ 1 ∷ 1 ∷ []) ≡ []
unfolding needing
refused_needs = refl

-- ---- nothing changed but the order of struct fields
abbrev leaf : List ℕ → E.Field
leaf name = E.mk uint8 (T.marks false false) no_strategy 0 name E.no_fields

abbrev alone : E.Field → E.Fields
alone f = E.more f E.no_fields

-- a struct with two fields, by their names
abbrev pair : List ℕ → E.Field → E.Field → E.Field
pair name f g = E.mk struct (T.marks false false) no_strategy 0 name (E.more f (alone g))

-- the schema of one field, a map with these entries
abbrev map_of : E.Field → E.Field → E.Fields
map_of f g = alone (E.mk map (T.marks false false) no_strategy 0 (109 ∷ []) (alone (pair E.entries_name f g)))

-- the fields `a` and `b` of a struct, in both orders
abbrev ab : List ℕ → E.Field
ab name = pair name (leaf (97 ∷ [])) (leaf (98 ∷ []))

abbrev ba : List ℕ → E.Field
ba name = pair name (leaf (98 ∷ [])) (leaf (97 ∷ []))

-- a struct's fields in two orders are the same, below a map's value too
pub struct_reordered : in_name_order (alone (ba (115 ∷ []))) ≡ in_name_order (alone (ab (115 ∷ [])))
unfolding in_name_order in_name_order_of E.by_name E.insert_field lt_name when◌then◌else◌
struct_reordered = refl

pub below_map_reordered : in_name_order (map_of (leaf E.key_name) (ba E.value_name)) ≡ in_name_order (map_of (leaf E.key_name) (ab E.value_name))
unfolding in_name_order in_name_order_of E.by_name E.insert_field lt_name when◌then◌else◌
below_map_reordered = refl

-- a map's key and value in two orders are not: each stands as it was
pub map_kept : in_name_order (map_of (leaf E.value_name) (leaf E.key_name)) ≡ map_of (leaf E.value_name) (leaf E.key_name)
unfolding in_name_order in_name_order_of E.by_name E.insert_field lt_name when◌then◌else◌
map_kept = refl

pub map_not_reordered : in_name_order (map_of (leaf E.key_name) (leaf E.value_name)) ≡ in_name_order (map_of (leaf E.value_name) (leaf E.key_name)) → ⊥
unfolding in_name_order in_name_order_of E.by_name E.insert_field lt_name when◌then◌else◌
map_not_reordered e = let z : ◌≡◌ {A = ℕ} 0 1 = cc in omega arith
