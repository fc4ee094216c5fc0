-- The second walk: what it writes; and the schema, with refusals 15 to 18.
use Rattle.std.specs.Prelude.{◌≡◌, Result, Ok, Err, Bool, true, false, not, ◌||◌, List, ℕ, zero, suc, ◌*◌, ◌%◌, eqb, ltb, length}
use Rattle.logic.specs.Test.{when◌then◌else◌}
use Rattle.logic.specs.Slices.{Slice, MutSlice, now_of, at_entry, at_exit}
use Rattle.datatype.specs.Codes.{null, no_strategy}
use Rattle.options.specs.Word.{dictionary_type}
use Rattle.refusal.specs.declared.Refusal.{Refusal}
use Rattle.refusal.specs.declared.Refusal.TheVariants as F
use Rattle.words.specs.Word.{word}
use Rattle.model.specs.Emission.{emits_struct, type_of, strategy_of}
use Rattle.model.specs.Tracing.{place_limit}
use Rattle.places.specs.Layout.{kind_word, nullable_word, root_place}
use Rattle.places.specs.Nullable.{is_null}
use Rattle.places.specs.Reading.{variant_at, child_name, child_limit, next_child}
use Rattle.order.specs.Sort.{sorted_places}
use Rattle.walk.specs.declared.Counts.{Counts}
use Rattle.walk.specs.declared.Source.{Source}
use Rattle.walk.specs.Walk.{counts, Walked, sum_of, gaps_at, walked}
use Rattle.putting.specs.Put.{record_of, Writing, writing, both, gaps_in, entries_in}
use Rattle.fields.specs.Fields.{field_count, nullable_at, lacking_at, is_dictionary, is_leaf}

-- the record and the name of a place, with that nullable byte and variant number, and nothing below it
unfoldable pub field_at : ℕ → List ℕ → List ℕ → ℕ → ℕ → ℕ → Writing → Writing
field_at options text t place nullable number w =
    let kind = word t place kind_word in
    let name = child_name text t place in
    let own : ℕ → ℕ → ℕ → Writing = λ type strategy children.
    both (record_of type nullable strategy number (length name) children) name w in
    when is_dictionary options t place then own (dictionary_type options) no_strategy 0
    else own (type_of options kind % 256) (strategy_of kind) (field_count t kind place)

-- a writer of the field of a place, which a sample lacks or not, with a variant number
abbrev pub Writer : Type 0
Writer = ℕ → Bool → ℕ → Writing → Writing

-- a child, after the slots of a union never seen
unfoldable pub child_in : List ℕ → Writer → ℕ → ℕ → ℕ → ℕ → Writing → Writing
child_in t inner kind place slot child w =
    inner child (lacking_at t kind place child) (variant_at t child % 256) (gaps_in slot (gaps_at kind t slot child) w)

-- the fields below a place, from a child on
unfoldable pub fields_from : List ℕ → Writer → ℕ → ℕ → ℕ → ℕ → ℕ → Writing → Writing
fields_from t inner kind place zero slot child w = w
fields_from t inner kind place (suc left) slot child w =
    elim (eqb child 0) [
      | true ↦ w
      | false ↦ fields_from t inner kind place left
          (sum_of (variant_at t child) 1) (next_child t true kind place child) (child_in t inner kind place slot child w)
    ]

abbrev pub fields_below : List ℕ → Writer → ℕ → ℕ → Writing → Writing
fields_below t inner kind place w = fields_from t inner kind place child_limit 0 (next_child t true kind place 0) (entries_in kind w)

unfoldable pub emitted_by : ℕ → List ℕ → List ℕ → Bool → (ℕ → ℕ → Writing → Writing) → Writer
emitted_by options text t flat inner place lacking number w =
    let own = field_at options text t place (nullable_at t place lacking) number w in
    when is_leaf options t flat place then own else inner (word t place kind_word) place own

-- with so many levels left
unfoldable pub emitted_at : ℕ → List ℕ → List ℕ → ℕ → Writer
emitted_at options text t zero = emitted_by options text t true (λ kind place w. w)
emitted_at options text t (suc levels) = emitted_by options text t false (fields_below t (emitted_at options text t levels))

-- the fields below a place, and one of them, with so many levels left
abbrev pub emitted_below : ℕ → List ℕ → List ℕ → ℕ → ℕ → ℕ → Writing → Writing
emitted_below options text t levels = fields_below t (emitted_at options text t levels)

abbrev pub child_at : ℕ → List ℕ → List ℕ → ℕ → ℕ → ℕ → ℕ → ℕ → Writing → Writing
child_at options text t levels = child_in t (emitted_at options text t levels)

-- any of these of what emission reads
abbrev pub over : {A : Type 0} → (ℕ → List ℕ → List ℕ → A) → Source → A
over f source = f source.options.word source.text.now source.table.now

-- ---- the schema of what was traced
-- more levels than the tree is deep: a place's number is above its parent's
abbrev pub level_limit : ℕ
level_limit = place_limit

-- what emission answers: counts of field records, name bytes and columns, or a refusal (12 to 18)
abbrev pub Emitted : Type 0
Emitted = Result Counts Refusal

-- what is answered, and both buffers then
pub data Answered : Type 0 where
  answered : Emitted → List ℕ → List ℕ → Answered

abbrev pub as_answered : Emitted → Writing → Answered
as_answered e (writing i j fields names) = answered e fields names

unfoldable pub finished : ℕ → List ℕ → List ℕ → List ℕ → List ℕ → ℕ → ℕ → ℕ → Answered
finished options text t fields names records bytes below =
    when is_null (word t root_place nullable_word) then answered (Err F.NullableRoot) fields names
    else when eqb (word t root_place kind_word) null then answered (Err F.NullRoot) fields names
    else when not (emits_struct (word t root_place kind_word)) then answered (Err F.RootNotStruct) fields names
    else when ltb (length fields) (records * 8) || ltb (length names) bytes then answered (Err F.ShortBuffer) fields names
    else as_answered (Ok (counts records bytes below))
    (fields_below t (emitted_at options text t level_limit) (word t root_place kind_word) root_place (writing 0 0 fields names))

abbrev pub on_walked : (ℕ → ℕ → ℕ → Answered) → List ℕ → List ℕ → Walked → Answered
on_walked k fields names (Err refusal) = answered (Err refusal) fields names
on_walked k fields names (Ok c) = k c.records c.names c.columns

unfoldable pub to_schema_at : ℕ → List ℕ → List ℕ → List ℕ → List ℕ → Answered
to_schema_at options text t fields names =
    on_walked (finished options text t fields names) fields names (walked options text t level_limit root_place)

-- ---- what `finish` and `to_schema` answer for
abbrev pub Finishes : Source → (fields names : MutSlice) → Counts → Emitted → Type 0
Finishes source fields names counts r =
    answered r (at_exit fields) (at_exit names)
    ≡ over finished source (at_entry fields) (at_entry names) counts.records counts.names counts.columns

-- the children of the first so many places are put in order first
abbrev pub Emits : (options count : ℕ) → (text : Slice) (table fields names : MutSlice) → Emitted → Type 0
Emits options count text table fields names r =
    let ordered = sorted_places (now_of text) (at_entry table) count in
    (answered r (at_exit fields) (at_exit names) ≡ to_schema_at options (now_of text) ordered (at_entry fields) (at_entry names))
    × (at_exit table ≡ ordered)
