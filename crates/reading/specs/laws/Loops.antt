-- The loops of the readers: what is left of each gives the same as the whole.
use Prim.{tt}
use Rattle.std.specs.Prelude.{◌≡◌, Bool, List, eqb, length, get_or, Ok, Err, Some, None}
use Rattle.std.proofs.Math.Path.{refl, sym, ap}
use Rattle.std.proofs.Common.{◌∙◌, arith}
use Rattle.std.proofs.Math.Bool.{true, false}
use Prim.Native.Nat.{◌-◌, ℕ, zero, suc, ◌+◌, ◌%◌, ◌<◌, ◌≤◌}
use borrow.Author.Tests.{lt-ltb, le-ltb, eqb-true, ne_eqb}
use Rattle.logic.specs.Test.{when◌then◌else◌}
use Rattle.logic.specs.laws.Test.{cases}
use Rattle.logic.specs.Turns.{Turn, again, done, after, turns}
use Rattle.logic.specs.laws.Turns.{goes_on, ends}
use Rattle.refusal.specs.declared.Refusal.{Refusal}
use Rattle.refusal.specs.declared.Refused.{Refused}
use Rattle.refusal.specs.declared.Refusal.TheVariants as F
use Rattle.text.specs.declared.Name.{Name}
use Rattle.text.specs.Name.{bytes_of}
use Rattle.text.specs.Utf8.{is_utf8}
use Rattle.commands.specs.declared.Due.TheVariants as D
use Rattle.commands.specs.Commands.{Read, read_command, refused_at, name_at, end_byte}
use Rattle.model.specs.Kinds.{sequence_kind, map_kind, tuple_kind, is_struct}
use Rattle.shapes.specs.declared.Step.{Step}
use Rattle.shapes.specs.declared.Step.TheVariants as S
use Rattle.shapes.specs.declared.Contents.TheVariants as N
use Rattle.shapes.specs.declared.Part.TheVariants as P
use Rattle.shapes.specs.Steps.{Unnamed, Inside}
use Rattle.shapes.specs.Shapes.{PartRead, is_parted, value_part, part_at}
use Rattle.shapes.specs.laws.Shapes.{step_above, step_within, sequence_part, tuple_part, map_part}
use Rattle.growth.specs.Growth.{found, Ensuring, ensuring}
use Rattle.shapes.specs.Field.{Field, field_at}
use Rattle.shapes.specs.laws.Field.{part_of, field_part_lem, field_name, field_inside, field_within, end_inside}
use Rattle.reading.specs.Reading.{Readers, dots_in, part_read, State, state, after_part, on_part, part_turn, part_stop, parts_from, parts_by, readers, value_at, on_held}
use Rattle.opening.specs.Opening.{held, Opened, Opening, opening, of_held, field_held, field_opened}
use Rattle.leaves.specs.Leaves.{Outcome, traced_to, Out, out}
use Rattle.reading.specs.laws.Progress.{Moved, part_on, part_falls, left_state, readers_on}
use Rattle.reading.specs.laws.Readers.{value_below}

-- ---- what was read ends behind
pub moved_at : (low most behind m : ℕ) (u : List ℕ) → Moved low most (out (traced_to behind m) u) → (low ≤ behind) × (behind ≤ most)
unfolding Moved
moved_at low most behind m u h = h

-- ---- the parts of a container
module _ (commands text : List ℕ) (options levels kind positions place i at n : ℕ) (t : List ℕ) (r : Out)
    (whole : parts_from commands text (readers commands text options levels) kind positions place i at n t ≡ r)
    (part : PartRead) (p : part ≡ part_at commands text kind positions i at) where
  turn_is : part_turn commands text (readers commands text options levels) kind positions place (state i at n t) ≡ on_part text (readers commands text options levels) place i at n t part
  unfolding part_turn
  turn_is = rw p refl

  parts_ends : (o : Out) → on_part text (readers commands text options levels) place i at n t part ≡ done o → o ≡ r
  unfolding parts_from
  parts_ends o e =
      sym (ends (part_turn commands text (readers commands text options levels) kind positions place) part_stop (left_state commands)
      (part_falls commands text (readers commands text options levels) (readers_on commands text options levels) kind positions place)
      (length commands + 1) (state i at n t) o (omega arith) (turn_is ∙ e)) ∙ whole

  pub parts_end : (behind : ℕ) → part ≡ Ok (P.Ended behind) → out (traced_to behind n) t ≡ r
  parts_end behind e = parts_ends (out (traced_to behind n) t) (rw e refl)

  pub parts_refused : (x : Refused) (o : Outcome) → part ≡ Err x → o ≡ Err x → out o t ≡ r
  parts_refused x o e p = parts_ends (out o t) (rw (e, p) refl)

  module _ (step : Step) (value : ℕ) (s : part ≡ Ok (P.Step step value)) (traced : Outcome) (u : List ℕ)
      (q : out traced u ≡ part_read text (readers commands text options levels) step at value place n t) where
    pub parts_stopped : (x : Refused) (o : Outcome) → traced ≡ Err x → o ≡ Err x → out o u ≡ r
    parts_stopped x o e p = parts_ends (out o u) (rw (s, ← q, e, p) refl)

    module _ (behind m : ℕ) (e : traced ≡ traced_to behind m) where
      pub parts_more : parts_from commands text (readers commands text options levels) kind positions place (i + 1) behind m u ≡ r
      unfolding parts_from
      parts_more =
          let next : on_part text (readers commands text options levels) place i at n t part ≡ again (state (i + 1) behind m u) = rw (s, ← q, e) refl in
          sym (goes_on (part_turn commands text (readers commands text options levels) kind positions place) part_stop (left_state commands)
          (part_falls commands text (readers commands text options levels) (readers_on commands text options levels) kind positions place)
          (length commands + 1) (state i at n t) (state (i + 1) behind m u) (omega arith) (turn_is ∙ next)) ∙ whole

      moved_behind : (suc value ≤ behind) × (behind ≤ length commands)
      moved_behind =
          moved_at (suc value) (length commands) behind m u
          (rw (← q, e) at (part_on commands text (readers commands text options levels) (readers_on commands text options levels) step at value place
          n t (step_within commands text kind positions i at part p step value s)))

      parts_above : at < behind
      parts_above = let a : at ≤ value = step_above commands text kind positions i at part p step value s in let b : suc value ≤ behind = moved_behind.0 in omega arith

      parts_within : behind ≤ length commands
      parts_within = moved_behind.1

      -- from there on, or from further on
      pub parts_less : (further : ℕ) → behind ≤ further → length commands - further < length commands - at
      parts_less further h = let a : at < behind = parts_above in let b : behind ≤ length commands = parts_within in omega arith

      -- a part is counted, and what was counted is no more than what was read
      pub parts_counted : (further : ℕ) → behind ≤ further → i ≤ at → i + 1 ≤ further
      parts_counted further f h = let a : at < behind = parts_above in omega arith

      pub count_fits : (most : ℕ) → i ≤ at → length commands < most → i + 1 < most
      count_fits most h l = let a : at < behind = parts_above in let b : behind ≤ length commands = parts_within in omega arith

-- what was read before counts for nothing where the parts are told alike
module _ (commands text : List ℕ) (inner : Readers) (kind positions other more place : ℕ) (R : ℕ → ℕ → Type 0) (on : (i j : ℕ) → R i j → R (i + 1) (j + 1))
    (alike : (i j at : ℕ) → R i j → part_at commands text kind positions i at ≡ part_at commands text other more j at) where
  turns_alike : (f i j at n : ℕ) (t : List ℕ) → R i j →
      turns (part_turn commands text inner kind positions place) part_stop f (state i at n t) ≡ turns (part_turn commands text inner other more place) part_stop f (state j at n t)
  unfolding turns after part_turn
  turns_alike zero i j at n t r = refl
  turns_alike (suc f) i j at n t r = rw (alike i j at r) (onward (λ i j at n t r. turns_alike f i j at n t r) (part_at commands text other more j at))
    where
      first : State → Out
      first s = turns (part_turn commands text inner kind positions place) part_stop f s

      second : State → Out
      second s = turns (part_turn commands text inner other more place) part_stop f s

      Ih : Type 0
      Ih = (i j at n : ℕ) (t : List ℕ) → R i j → first (state i at n t) ≡ second (state j at n t)

      read : Ih → (o : Out) → after first (after_part (i + 1) o) ≡ after second (after_part (j + 1) o)
      read ih (out (Ok to) u) = ih (i + 1) (j + 1) to.next to.count u (on i j r)
      read ih (out (Err x) u) = refl

      onward : Ih → (part : PartRead) → after first (on_part text inner place i at n t part) ≡ after second (on_part text inner place j at n t part)
      onward ih (Ok (P.Ended behind)) = refl
      onward ih (Ok (P.Step step value)) = read ih (part_read text inner step at value place n t)
      onward ih (Err x) = refl

  parts_alike : (i j at n : ℕ) (t : List ℕ) → R i j → parts_from commands text inner kind positions place i at n t ≡ parts_from commands text inner other more place j at n t
  unfolding parts_from
  parts_alike i j at n t r = turns_alike (length commands + 1) i j at n t r

-- ---- the elements of a sequence
abbrev Any : ℕ → ℕ → Type 0
Any i j = Unit {0}

element_any : (commands text : List ℕ) (positions more i j at : ℕ) → part_at commands text sequence_kind positions i at ≡ part_at commands text sequence_kind more j at
element_any commands text positions more i j at = sequence_part commands text positions i at ∙ sym (sequence_part commands text more j at)

pub element_part : (commands text : List ℕ) (at : ℕ) (part : PartRead) →
    part ≡ value_part commands S.Element at (read_command commands text at D.ValueOrEnd) → part ≡ part_at commands text sequence_kind 0 0 at
element_part commands text at part e = e ∙ sym (sequence_part commands text 0 0 at)

module _ (commands text : List ℕ) (options levels place at n : ℕ) (t : List ℕ) (r : Out)
    (whole : parts_from commands text (readers commands text options levels) sequence_kind 0 place 0 at n t ≡ r)
    (part : PartRead) (p : part ≡ part_at commands text sequence_kind 0 0 at) (step : Step) (value : ℕ) (s : part ≡ Ok (P.Step step value))
    (traced : Outcome) (u : List ℕ) (q : out traced u ≡ part_read text (readers commands text options levels) step at value place n t) (behind m : ℕ) (e : traced ≡ traced_to behind m) where
  pub elements_more : parts_from commands text (readers commands text options levels) sequence_kind 0 place 0 behind m u ≡ r
  elements_more =
      parts_alike commands text (readers commands text options levels) sequence_kind 0 sequence_kind 0 place Any (λ i j x. tt) (λ i j at x. element_any commands text 0 0 i j at) 0 1 behind m u tt
      ∙ parts_more commands text options levels sequence_kind 0 place 0 at n t r whole part p step value s traced u q behind m e

-- a part that is a value stands at the step given
step_given : (commands : List ℕ) (at : ℕ) (step : Step) (answer : Read) (other : Step) (value : ℕ) → value_part commands step at answer ≡ Ok (P.Step other value) → other ≡ step
unfolding when◌then◌else◌
step_given commands at step (Ok (command, behind)) other value e =
    cases (eqb (get_or commands at 0) end_byte)
    (λ q. let d : ◌≡◌ {A = PartRead} (Ok (P.Ended behind)) (Ok (P.Step other value)) = rw q at e in let z : ◌≡◌ {A = ℕ} 0 1 = cc in absurd (omega arith))
    (λ q. let d : ◌≡◌ {A = PartRead} (Ok (P.Step step at)) (Ok (P.Step other value)) = rw q at e in cc)
step_given commands at step (Err x) other value e = let z : ◌≡◌ {A = ℕ} 0 1 = cc in absurd (omega arith)

pub part_unnamed : (commands : List ℕ) (at : ℕ) (given : Step) (answer : Read) (part : PartRead) → part ≡ value_part commands given at answer →
    Unnamed given → (step : Step) (value : ℕ) → part ≡ Ok (P.Step step value) → Unnamed step
part_unnamed commands at given answer part p none step value s = rw (step_given commands at given answer step value (sym p ∙ s)) none

pub element_unnamed : Unnamed S.Element
element_unnamed = record { name = refl; field = λ e. omega arith }

pub position_unnamed : (i : ℕ) → Unnamed (S.Position i)
position_unnamed i = record { name = refl; field = λ e. omega arith }

pub entry_unnamed : (commands text : List ℕ) (i at : ℕ) (part : PartRead) → part ≡ part_at commands text map_kind 0 i at → (step : Step) (value : ℕ) → part ≡ Ok (P.Step step value) → Unnamed step
unfolding part_at when◌then◌else◌
entry_unnamed commands text i at part p step value s =
    cases (eqb (i % 2) 0)
    (λ q. part_unnamed commands at S.Key (read_command commands text at D.ValueOrEnd) part (rw q at p) (record { name = refl; field = λ e. omega arith }) step value s)
    (λ q. part_unnamed commands at S.Value (read_command commands text at D.Value) part (rw q at p) (record { name = refl; field = λ e. omega arith }) step value s)

-- ---- the fields of a struct
-- a turn by what is opened
module _ (commands text : List ℕ) (options levels place at n : ℕ) (t : List ℕ) where
  abbrev inner : Readers
  inner = readers commands text options levels

  abbrev after_opened : Name → Opening → Turn State Out
  after_opened name (opening (Ok (Some f)) v) = after_part 1 (inner (dots_in text name) N.Value at (at + 5) f.child f.count v)
  after_opened name (opening (Ok None) v) = done (out (traced_to (at + 1) n) v)
  after_opened name (opening (Err refusal) v) = done (out (refused_at refusal at) v)

  by_child : (name : Name) (x : Ensuring) → after_part 1 (on_held at (inner (dots_in text name) N.Value at (at + 5)) x) ≡ after_opened name (of_held x)
  by_child name (ensuring (Ok f) v) = refl
  by_child name (ensuring (Err refusal) v) = refl

  by_name_lem : (name : Name) (good : Bool) → on_part text inner place 0 at n t (when good then Ok (P.Step (S.Field name) (at + 5)) else refused_at F.BadName at)
      ≡ after_opened name (when good then of_held (held text place (S.Field name) n t) else opening (Err F.BadName) t)
  unfolding part_read when◌then◌else◌
  by_name_lem name true = by_child name (held text place (S.Field name) n t)
  by_name_lem name false = refl

  by_field : (field : Field) → ((name : Name) → field ≡ Ok (Some name) → name ≡ name_at commands (at + 1)) →
      on_part text inner place 0 at n t (part_of text at field) ≡ after_opened (name_at commands (at + 1)) (field_opened text place n t field)
  unfolding field_held
  by_field (Ok (Some name)) is = rw (← is name refl) (by_name_lem name (is_utf8 (bytes_of text name)))
  by_field (Ok None) is = refl
  by_field (Err refusal) is = refl

module _ (commands text : List ℕ) (options levels kind place at n : ℕ) (t : List ℕ) (fields : is_struct kind ≡ true) (r : Out)
    (whole : parts_from commands text (readers commands text options levels) kind 0 place 0 at n t ≡ r)
    (did : Opened) (u : List ℕ) (d : opening did u ≡ field_opened text place n t (field_at commands text kind at)) where
  abbrev turned : Opening → Turn State Out
  turned o = after_opened commands text options levels place at n t (name_at commands (at + 1)) o

  field_turn : part_turn commands text (readers commands text options levels) kind 0 place (state 0 at n t) ≡ turned (opening did u)
  unfolding part_turn
  field_turn =
      ap (on_part text (readers commands text options levels) place 0 at n t) (field_part_lem commands text kind 0 0 at fields)
      ∙ by_field commands text options levels place at n t (field_at commands text kind at) (λ name e. field_name commands text kind at (field_at commands text kind at) refl name e) ∙ ap turned (sym d)

  -- what stands there is inside the commands
  opened_by : (field : Field) → field ≡ field_at commands text kind at → opening did u ≡ field_opened text place n t field → (P : Type 0) →
      ((name : Name) → field ≡ Ok (Some name) → P) → ((child m : ℕ) → did ≡ Ok (Some (found child m)) → P)
  opened_by (Ok (Some name)) f o P named child m e = named name refl
  opened_by (Ok None) f o P named child m e = absurd (differ (rw e at o))
    where
      differ : opening (Ok (Some (found child m))) u ≡ opening (Ok None) t → ⊥
      differ q = let z : ◌≡◌ {A = ℕ} 0 1 = cc in omega arith
  opened_by (Err refusal) f o P named child m e = absurd (differ (rw e at o))
    where
      differ : opening (Ok (Some (found child m))) u ≡ opening (Err refusal) t → ⊥
      differ q = let z : ◌≡◌ {A = ℕ} 0 1 = cc in omega arith

  module _ (child m : ℕ) (e : did ≡ Ok (Some (found child m))) where
    pub whole_field : at + 5 ≤ length commands
    whole_field = opened_by (field_at commands text kind at) refl d (at + 5 ≤ length commands) (λ name f. field_within commands text kind at (field_at commands text kind at) refl name f) child m e

    pub name_inside : (name : Name) → name ≡ name_at commands (at + 1) → Inside text name
    name_inside name k =
        rw k
        (opened_by (field_at commands text kind at) refl d (Inside text (name_at commands (at + 1)))
        (λ name f. rw (field_name commands text kind at (field_at commands text kind at) refl name f) at (field_inside commands text kind at (field_at commands text kind at) refl name f)) child m e)

    pub whole_fits : (most : ℕ) → length commands < most → at + 5 < most
    whole_fits most l = let h : at + 5 ≤ length commands = whole_field in omega arith

    pub name_fits : (most : ℕ) → length commands < most → at + 1 < most
    name_fits most l = let h : at + 5 ≤ length commands = whole_field in omega arith

    pub name_whole : at + 1 + 4 ≤ length commands
    name_whole = let h : at + 5 ≤ length commands = whole_field in omega arith

  -- the end is inside the commands
  end_there : did ≡ Ok None → (field : Field) → field ≡ field_at commands text kind at → opening did u ≡ field_opened text place n t field → at < length commands
  end_there e (Ok (Some name)) f o = let h : at + 5 ≤ length commands = field_within commands text kind at (Ok (Some name)) f name refl in omega arith
  end_there e (Ok None) f o = end_inside commands text kind at (Ok None) f refl
  end_there e (Err refusal) f o = absurd (differ (rw e at o))
    where
      differ : opening (Ok None) u ≡ opening (Err refusal) t → ⊥
      differ q = let z : ◌≡◌ {A = ℕ} 0 1 = cc in omega arith

  pub end_fits_lem : did ≡ Ok None → (most : ℕ) → length commands < most → at + 1 < most
  end_fits_lem e most l = let h : at < length commands = end_there e (field_at commands text kind at) refl d in omega arith

  fields_end : (o : Out) → turned (opening did u) ≡ done o → o ≡ r
  unfolding parts_from
  fields_end o e =
      sym (ends (part_turn commands text (readers commands text options levels) kind 0 place) part_stop (left_state commands)
      (part_falls commands text (readers commands text options levels) (readers_on commands text options levels) kind 0 place)
      (length commands + 1) (state 0 at n t) o (omega arith) (field_turn ∙ e)) ∙ whole

  pub fields_ended : did ≡ Ok None → out (traced_to (at + 1) n) u ≡ r
  fields_ended e = fields_end (out (traced_to (at + 1) n) u) (rw e refl)

  pub fields_refused : (refusal : Refusal) (o : Outcome) → did ≡ Err refusal → o ≡ refused_at refusal at → out o u ≡ r
  fields_refused refusal o e p = fields_end (out o u) (rw (e, p) refl)

  module _ (child m : ℕ) (e : did ≡ Ok (Some (found child m))) (name : Name) (k : name ≡ name_at commands (at + 1)) (traced : Outcome) (v : List ℕ)
      (q : out traced v ≡ value_at commands text options (levels - dots_in text name) (at + 5) child m u) where
    child_turn : turned (opening did u) ≡ after_part 1 (out traced v)
    child_turn =
        let w : out traced v ≡ readers commands text options levels (dots_in text (name_at commands (at + 1))) N.Value at (at + 5) child m u
        = q ∙ value_below commands text options levels name at (at + 5) child m u ∙ ap (λ x. readers commands text options levels (dots_in text x) N.Value at (at + 5) child m u) k in
        ap (λ x. turned (opening x u)) e ∙ ap (after_part 1) (sym w)

    pub fields_stopped : (x : Refused) (o : Outcome) → traced ≡ Err x → o ≡ Err x → out o v ≡ r
    fields_stopped x o f p = fields_end (out o v) (rw p (rw f at child_turn))

    module _ (behind l : ℕ) (f : traced ≡ traced_to behind l) where
      pub fields_more : parts_from commands text (readers commands text options levels) kind 0 place 0 behind l v ≡ r
      unfolding parts_from
      fields_more =
          parts_alike commands text (readers commands text options levels) kind 0 kind 0 place Any (λ i j x. tt)
          (λ i j a x. field_part_lem commands text kind 0 i a fields ∙ sym (field_part_lem commands text kind 0 j a fields)) 0 1 behind l v tt
          ∙ sym (goes_on (part_turn commands text (readers commands text options levels) kind 0 place) part_stop (left_state commands)
          (part_falls commands text (readers commands text options levels) (readers_on commands text options levels) kind 0 place)
          (length commands + 1) (state 0 at n t) (state 1 behind l v) (omega arith) (field_turn ∙ (rw f at child_turn))) ∙ whole

      fields_moved : (suc (at + 5) ≤ behind) × (behind ≤ length commands)
      fields_moved =
          moved_at (suc (at + 5)) (length commands) behind l v
          (rw (← value_below commands text options levels name at (at + 5) child m u, ← q, f) at
          (readers_on commands text options levels (dots_in text name) N.Value at (at + 5) child m u (whole_field child m e)))

      pub fields_less : length commands - behind < length commands - at
      fields_less = let a = fields_moved.0 in let b = fields_moved.1 in omega arith

-- ---- the values of a tuple
module _ (commands text : List ℕ) (positions i at : ℕ) where
  pub position_part : (part : PartRead) → i < positions → part ≡ value_part commands (S.Position i) at (read_command commands text at D.Value) → part ≡ part_at commands text tuple_kind positions i at
  unfolding when◌then◌else◌
  position_part part h e = rw (tuple_part commands text positions i at, lt-ltb i positions h) e

  pub positions_end : positions ≤ i → Ok (P.Ended at) ≡ part_at commands text tuple_kind positions i at
  unfolding when◌then◌else◌
  positions_end h = rw (tuple_part commands text positions i at, le-ltb i positions h) refl

-- ---- the parts of a container by its kind
module _ (commands text : List ℕ) (options levels kind positions place at n : ℕ) (t : List ℕ) (o : Out) where
  abbrev by : ℕ → ℕ → Out
  by kind positions = parts_by commands text (readers commands text options levels) kind positions place at n t

  pub by_fields : is_struct kind ≡ true → o ≡ by kind 0 → o ≡ by kind positions
  by_fields fields e =
      e ∙ parts_alike commands text (readers commands text options levels) kind 0 kind positions place Any (λ i j x. tt)
      (λ i j a x. field_part_lem commands text kind 0 i a fields ∙ sym (field_part_lem commands text kind positions j a fields)) 0 0 at n t tt

  pub by_elements : kind ≡ sequence_kind → o ≡ by sequence_kind 0 → o ≡ by kind positions
  by_elements k e = rw k (e ∙ parts_alike commands text (readers commands text options levels) sequence_kind 0 sequence_kind positions place Any
      (λ i j x. tt) (λ i j a x. element_any commands text 0 positions i j a) 0 0 at n t tt)

  pub by_entries : kind ≡ map_kind → o ≡ by map_kind 0 → o ≡ by kind positions
  by_entries k e = rw k (e ∙ parts_alike commands text (readers commands text options levels) map_kind 0 map_kind positions place (λ i j. i ≡ j)
      (λ i j x. ap (λ (y : ℕ). y + 1) x) (λ i j a x. rw x (sym (map_part commands text positions j a))) 0 0 at n t refl)

  pub by_positions : is_parted kind ≡ true → (fields : Bool) → fields ≡ is_struct kind → fields ≡ false → (kind ≡ sequence_kind → ⊥) →
      (kind ≡ map_kind → ⊥) → o ≡ by tuple_kind positions → o ≡ by kind positions
  unfolding is_parted
  by_positions is fields f none a b e =
      let k : kind ≡ tuple_kind = eqb-true kind tuple_kind (rw (← f, none, ne_eqb kind sequence_kind a, ne_eqb kind map_kind b) at is) in rw k e
