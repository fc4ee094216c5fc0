-- What is read whole is proper; a value that was cut may lack positions.
use Rattle.std.specs.Prelude.{◌≡◌, refl, Bool, false, not, ◌&&◌, ◌||◌, List, ℕ, zero, suc, ◌+◌, ◌%◌, ◌≤◌, ◌<◌, leb, ltb, get_or, Ok}
use Rattle.std.proofs.Common.{sym, subst, ◌∙◌, true≢false, zero-le, add-one, arith}
use Rattle.std.proofs.Math.Bool.{true}
use Rattle.std.proofs.lemmas.Bool.{false≢true}
use Rattle.std.proofs.Math.Option.{Option, none, some}
use Rattle.std.proofs.Math.Dec.{eqb}
use borrow.Author.Tests.{leb-true, ltb-true, ltb-false, eqb-true, eq-eqb, ne_eqb}
use Rattle.datatype.specs.Codes.{dictionary_utf8}
use Rattle.logic.specs.Test.{when◌then◌else◌}
use Rattle.logic.specs.laws.Test.{cases}
use Rattle.text.specs.Name.{bytes_of}
use Rattle.options.specs.Word.{map_as_struct, string_as_large_utf8, bytes_as_large_binary, guess_dates, string_type, binary_type}
use Rattle.chrono.specs.Grammar.{fits}
use Rattle.chrono.specs.Date.{naive_datetime, utc_datetime, naive_time, naive_date}
use Rattle.chrono.specs.Text.{text_type, first_fit}
use Rattle.commands.specs.declared.Command.{Command}
use Rattle.commands.specs.declared.Command.TheVariants as C
use Rattle.commands.specs.declared.Due.{Due}
use Rattle.commands.specs.declared.Due.TheVariants as D
use Rattle.commands.specs.Commands.{read_command, end_byte, field_byte}
use Rattle.model.specs.Kinds.{sequence_kind, struct_kind, map_kind, tuple_kind, union_kind, map_mode_kind, is_struct, Step, element, position, key, value, variant}
use Rattle.model.specs.Reading.{Value, val, cut, Parts, no_parts, part, Shape, leaf, follows, parts, chosen, no_value, shape_of, Next, ended, next, bad, value_next, field_next, next_part, Got, marked, rest, read_value, read_shape, read_parts, is_whole, are_whole}
use Rattle.equality.specs.laws.Base.{and_left, and_right, and_both, not_is_true, choice}
use Rattle.equality.specs.laws.Proper.{is_container_kind, type_fits, kind_fits, part_fits, end_fits, is_proper, are_proper}
use Rattle.equality.specs.laws.reading.Commands.{good, lies}
use Rattle.equality.specs.laws.reading.Steps.{next_cases, parts_bad, parts_ended, parts_next, read_cases, value_command, value_refused}
use Rattle.equality.specs.laws.reading.Values.{done, value_whole}

-- ---- what is read whole is proper; a value that was cut may lack positions
-- the kinds of containers that have parts in the commands
abbrev pub has_parts : ℕ → Bool
has_parts kind = eqb kind sequence_kind || eqb kind struct_kind || eqb kind map_mode_kind || eqb kind map_kind || eqb kind tuple_kind

abbrev pub shape_fits : ℕ → Shape → Bool
shape_fits options (leaf null type) = type_fits options type
shape_fits options (follows mark) = true
shape_fits options (parts kind n) = has_parts kind
shape_fits options (chosen number name contents) = shape_fits options contents
shape_fits options no_value = true

or_right : (s : Bool) {t : Bool} → t ≡ true → (s || t) ≡ true
or_right true e = refl
or_right false e = e

string_fits : (options : ℕ) → type_fits options (string_type options) ≡ true
unfolding when◌then◌else◌
string_fits options = cases (string_as_large_utf8 options) (λ e. rw e) (λ e. rw e)

binary_fits : (options : ℕ) → type_fits options (binary_type options) ≡ true
unfolding when◌then◌else◌
binary_fits options = cases (bytes_as_large_binary options) (λ e. rw e) (λ e. rw e)

text_fits : (options : ℕ) (s : List ℕ) → type_fits options (text_type options s) ≡ true
unfolding text_type first_fit
text_fits options s =
    let P : ℕ → Type 0 = λ kind. type_fits options kind ≡ true in
    choice P (guess_dates options)
    (λ _. choice P (fits naive_datetime s) (λ _. unfold when◌then◌else◌ in refl) λ _.
    choice P (fits utc_datetime s) (λ _. unfold when◌then◌else◌ in refl) λ _.
    choice P (fits naive_time s) (λ _. unfold when◌then◌else◌ in refl) λ _.
    choice P (fits naive_date s) (λ _. unfold when◌then◌else◌ in refl) λ _. string_fits options)
    (λ _. string_fits options)

-- how many calls a shape takes before its value or parts are read
abbrev pub layers : Shape → ℕ
layers (leaf null type) = 0
layers (follows mark) = 1
layers (parts kind n) = 2
layers (chosen number name contents) = suc (layers contents)
layers no_value = 0

shape_good : (options : ℕ) (text : List ℕ) (c : Command) → (shape_fits options (shape_of options text c) && leb (layers (shape_of options text c)) 3) ≡ true
unfolding shape_of when◌then◌else◌
shape_good options text C.Unit = refl
shape_good options text C.Bool = refl
shape_good options text C.I8 = refl
shape_good options text C.I16 = refl
shape_good options text C.I32 = refl
shape_good options text C.I64 = refl
shape_good options text C.U8 = refl
shape_good options text C.U16 = refl
shape_good options text C.U32 = refl
shape_good options text C.U64 = refl
shape_good options text C.F32 = refl
shape_good options text C.F64 = refl
shape_good options text C.Char = refl
shape_good options text (C.Text name) = and_both (text_fits options (bytes_of text name)) refl
shape_good options text C.Bytes = and_both (binary_fits options) refl
shape_good options text C.None = refl
shape_good options text C.Some = refl
shape_good options text C.NewtypeStruct = refl
shape_good options text C.Sequence = refl
shape_good options text (C.Tuple n) = refl
shape_good options text C.Map = cases (map_as_struct options) (λ e. rw e) (λ e. rw e)
shape_good options text C.Struct = refl
shape_good options text (C.Field name) = refl
shape_good options text C.End = refl
shape_good options text (C.UnitVariant k name) = refl
shape_good options text (C.NewtypeVariant k name) = refl
shape_good options text (C.TupleVariant k name n) = refl
shape_good options text (C.StructVariant k name) = refl

pub shape_fits_lem : (options : ℕ) (text : List ℕ) (c : Command) → shape_fits options (shape_of options text c) ≡ true
shape_fits_lem options text c = and_left (shape_fits options (shape_of options text c)) (leb (layers (shape_of options text c)) 3) (shape_good options text c)

pub few_layers : (options : ℕ) (text : List ℕ) (c : Command) → layers (shape_of options text c) ≤ 3
few_layers options text c = leb-true (layers (shape_of options text c)) 3 (and_right (shape_fits options (shape_of options text c)) (leb (layers (shape_of options text c)) 3) (shape_good options text c))

-- where a value is due no end stands
no_end : (commands text : List ℕ) (at : ℕ) (c : Command) (b : ℕ) → read_command commands text at D.Value ≡ Ok (c, b) → eqb (get_or commands at 0) end_byte ≡ false
no_end commands text at c b e =
    let byte : ℕ = get_or commands at 0 in
    not_is_true (eqb byte end_byte) (and_right (not (eqb byte field_byte)) (not (eqb byte end_byte)) (lies commands at D.Value (good commands text at D.Value c b e).known).stood)

-- what stands before part i fits: the step, and the end
abbrev NextFits : ℕ → ℕ → ℕ → Next → Type 0
NextFits kind n i (ended b) = end_fits kind n i ≡ true
NextFits kind n i (next s a) = (part_fits kind i s ≡ true) × (eqb kind tuple_kind ≡ true → suc i ≤ n)
NextFits kind n i (bad m p) = Unit {0}

-- a container that may end anywhere
abbrev Unbounded : ℕ → ℕ → ℕ → Type 0
Unbounded kind n i = (eqb kind tuple_kind ≡ false) × (end_fits kind n i ≡ true)

module _ (commands text : List ℕ) (kind n i at : ℕ) where
  open_fits : (s : Step) (due : Due) → part_fits kind i s ≡ true → Unbounded kind n i → NextFits kind n i (value_next commands s at (read_command commands text at due))
  open_fits s due p q =
      read_cases (read_command commands text at due)
      (λ c b r. rw r (choice (NextFits kind n i) (eqb (get_or commands at 0) end_byte) (λ _. q.1) (λ _. (p, λ x. absurd (true≢false (sym x ∙ q.0))))))
      (λ m l r. rw r tt)

  due_fits : (s : Step) → part_fits kind i s ≡ true → (eqb kind tuple_kind ≡ true → suc i ≤ n) → NextFits kind n i (value_next commands s at (read_command commands text at D.Value))
  due_fits s p t =
      read_cases (read_command commands text at D.Value)
      (λ c b r. rw r (choice (NextFits kind n i) (eqb (get_or commands at 0) end_byte) (λ x. absurd (true≢false (sym x ∙ no_end commands text at c b r))) (λ _. (p, t))))
      (λ m q r. rw r tt)

  field_fits : (due : Due) → is_struct kind ≡ true → Unbounded kind n i → NextFits kind n i (field_next commands text at (read_command commands text at due))
  field_fits due p q =
      read_cases (read_command commands text at due)
      (λ c b r. rw r (choice (NextFits kind n i) (eqb (get_or commands at 0) end_byte) (λ _. q.1) (λ _. (p, λ x. absurd (true≢false (sym x ∙ q.0))))))
      (λ m l r. rw r tt)

  unbounded : (k : ℕ) → eqb kind k ≡ true → Unbounded k n i → Unbounded kind n i
  unbounded k e p = subst (λ j. Unbounded j n i) (sym (eqb-true kind k e)) p

  next_fits : has_parts kind ≡ true → (eqb kind tuple_kind ≡ true → i ≤ n) → NextFits kind n i (next_part commands text kind n i at)
  unfolding next_part when◌then◌else◌
  next_fits h t =
      let P : Next → Type 0 = NextFits kind n i in
      choice P (eqb kind sequence_kind) (λ e. open_fits element D.ValueOrEnd e (unbounded sequence_kind e (refl, refl))) λ e1.
      choice P (eqb kind struct_kind) (λ e. field_fits D.FieldOrEnd (rw e) (unbounded struct_kind e (refl, refl))) λ e2.
      choice P (eqb kind map_mode_kind) (λ e. field_fits D.KeyOrEnd (rw (e2, e)) (unbounded map_mode_kind e (refl, refl))) λ e3.
      choice P (eqb kind map_kind && eqb (i % 2) 0) (λ e. let m = and_left (eqb kind map_kind) (eqb (i % 2) 0) e in open_fits key D.ValueOrEnd m (unbounded map_kind m (refl, refl))) λ e4.
      choice P (eqb kind map_kind) (λ e. due_fits value e (λ x. absurd (true≢false (sym x ∙ (unbounded map_kind e (refl, refl)).0)))) λ e5.
      let k : eqb kind tuple_kind ≡ true = rw (e1, e2, e3, e5) at h in
      choice P (ltb i n) (λ e. due_fits (position i) (and_both k (eq-eqb i i refl)) (λ _. ltb-true i n e)) λ e.
      let q : i ≤ n = t k in
      let r : n ≤ i = ltb-false i n e in
      rw k (eq-eqb i n (omega arith))

abbrev pub Proper : ℕ → Value → Type 0
Proper options v = is_whole v ≡ true → is_proper options v ≡ true

proper_marked : (options : ℕ) (mark : Bool) (v : Value) → Proper options v → Proper options (marked mark v)
unfolding is_whole is_proper
proper_marked options mark (val at null kind n ps) p = p
proper_marked options mark (cut m q) p = p

abbrev pub ProperParts : ℕ → ℕ → ℕ → ℕ → Parts → Type 0
ProperParts options kind n i ps = are_whole ps ≡ true → are_proper options kind n i ps ≡ true

proper_rest : (options kind n i at : ℕ) (s : Step) (v : Value) (o : Option ℕ) (more : ℕ → Got Parts) → part_fits kind i s ≡ true → is_whole v ≡ done o → Proper options v →
    ((b : ℕ) → ProperParts options kind n (i + 1) (more b).0) → ProperParts options kind n i (part at s v (rest o more).0)
unfolding is_whole is_proper
proper_rest options kind n i at s v none more f w p h e = absurd (false≢true (rw w at e))
proper_rest options kind n i at s v (some b) more f w p h e = and_both (and_both f (p w)) (rw add-one at (h b (rw w at e)))

among : (a b c d e u t : Bool) → (a || b || c || d || e) ≡ true → (a || b || d || u || e || c || t) ≡ true
among true b c d e u t h = refl
among false true c d e u t h = refl
among false false c true e u t h = refl
among false false c false e true t h = refl
among false false c false true false t h = refl
among false false true false false false t h = refl
among false false false false false false t h = absurd (false≢true h)

proper_chosen : (options at number : ℕ) (name : List ℕ) (v : Value) → Proper options v → Proper options (val at false union_kind 0 (part at (variant number name) v no_parts))
unfolding is_whole is_proper when◌then◌else◌
proper_chosen options at number name v p = λ e. rw (p (and_left (is_whole v) true e))

kind_fits_lem : (options kind : ℕ) → has_parts kind ≡ true → kind_fits options kind ≡ true
kind_fits_lem options kind h =
    among (eqb kind sequence_kind) (eqb kind struct_kind) (eqb kind map_mode_kind) (eqb kind map_kind) (eqb kind tuple_kind) (eqb kind union_kind) (type_fits options kind) h

leaf_fits : (options type : ℕ) → type_fits options type ≡ true → (kind_fits options type && end_fits type 0 0) ≡ true
unfolding when◌then◌else◌
leaf_fits options type h =
    let l : type < dictionary_utf8 = ltb-true type dictionary_utf8 (and_left (ltb type dictionary_utf8) _ h) in
    and_both (or_right (is_container_kind type) h) (rw (ne_eqb type tuple_kind (λ e. omega arith), ne_eqb type union_kind (λ e. omega arith)))

module _ (options : ℕ) (commands text : List ℕ) where
  mutual
    unfolding read_value is_whole is_proper when◌then◌else◌

    pub value_proper : (f at : ℕ) → Proper options (read_value f options commands text at).0
    value_proper zero at = λ _. refl
    value_proper (suc f) at =
        read_cases (read_command commands text at D.Value)
        (λ c b r. rw (value_command options commands text f at c b r) (shape_proper f at b (shape_of options text c) (shape_fits_lem options text c)))
        (λ n p r. rw (value_refused options commands text f at n p r) (λ _. refl))

    pub shape_proper : (f at b : ℕ) (shape : Shape) → shape_fits options shape ≡ true → Proper options (read_shape f options commands text at b shape).0
    shape_proper zero at b shape h = λ _. refl
    shape_proper (suc f) at b (leaf null type) h = λ _. leaf_fits options type h
    shape_proper (suc f) at b (follows mark) h = proper_marked options mark (read_value f options commands text b).0 (value_proper f b)
    shape_proper (suc f) at b (parts kind n) h = λ e. and_both (kind_fits_lem options kind h) (parts_proper f kind n 0 b h (λ _. zero-le) e)
    shape_proper (suc f) at b (chosen number name contents) h =
        proper_chosen options at number name (read_shape f options commands text at b contents).0 (shape_proper f at b contents h)
    shape_proper (suc f) at b no_value h = λ _. refl

    pub parts_proper : (f kind n i at : ℕ) → has_parts kind ≡ true → (eqb kind tuple_kind ≡ true → i ≤ n) → ProperParts options kind n i (read_parts f options commands text kind n i at).0
    parts_proper zero kind n i at h t = λ _. refl
    parts_proper (suc f) kind n i at h t =
        next_cases (next_part commands text kind n i at)
        (λ b r. rw (parts_ended options commands text f kind n i at b r) (λ _. rw r at (next_fits commands text kind n i at h t)))
        (λ s a r.
        let g = rw r at (next_fits commands text kind n i at h t) in
        rw (parts_next options commands text f kind n i at s a r)
        (proper_rest options kind n i at s (read_value f options commands text a).0 (read_value f options commands text a).1 _ g.0 (value_whole options commands text f a) (value_proper f a)
        (λ b. parts_proper f kind n (i + 1) b h (λ x. let l : suc i ≤ n = g.1 x in omega arith))))
        (λ m p r. rw (parts_bad options commands text f kind n i at m p r) (λ _. refl))
