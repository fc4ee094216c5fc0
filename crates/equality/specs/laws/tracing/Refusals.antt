-- Which refusals there are, and where: reading gives 4 to 6, tracing 4 to 11, emission 12 to 17, and no place is past the commands' end.
use Rattle.std.specs.Prelude.{◌≡◌, refl, Bool, false, length, Ok, Err}
use mathlib.Core.List.{List, [], ◌∷◌}
use Rattle.std.proofs.Math.Option.{Option, none, some}
use Prim.Native.Nat.{ℕ, zero, suc, ◌+◌, ◌≤◌, zero-le}
use native.Mathlib.Omega.{arith}
use Rattle.refusal.specs.Number.{number_of, no_joint}
use Rattle.coerce.specs.Joint.{joint}
use Rattle.commands.specs.declared.Due.{Due}
use Rattle.commands.specs.declared.Due.TheVariants as D
use Rattle.commands.specs.Commands.{read_command, Read}
use Rattle.model.specs.Result.{Result, accepted, refused, ◌>>=◌, or_refused}
use Rattle.model.specs.Kinds.{Step, element, position, key, value}
use Rattle.model.specs.Reading.{Value, val, cut, Parts, no_parts, cut_off, part, Shape, leaf, follows, parts, chosen, no_value, shape_of, Next, ended, next, bad, value_next, field_next, next_part, Got, marked, rest, read_value, read_shape, read_parts, records_from, values, enough}
use Rattle.model.specs.Tracing.{Tree, Kids, kind_of, kids_of, kid_at, put, fresh, dots_of, meet, room, made, make, Counted, observe, observe_parts, observe_all, trace}
use Rattle.model.specs.Emission.{Place, shown, Places, none_below, below, first_of, walk, walks, Field, mk, Fields, field_of, root_fields, root_name, place_of, to_schema}
use Rattle.model.specs.Answer.{Batch, schema_of}
use Rattle.equality.specs.laws.reading.Commands.{reads_inside}
use Rattle.equality.specs.laws.reading.Values.{next_inside, value_on}
use Rattle.equality.specs.laws.reading.Records.{records_end, records_cut, records_more, record_cases}
use Rattle.equality.specs.laws.reading.Steps.{read_cases, next_cases, value_command, value_refused, parts_ended, parts_next, parts_bad}
use Rattle.equality.specs.laws.Base.{choice}

-- a refusal's number is one of these, and its place is inside the commands, or their end
abbrev pub Between : {A : Type 0} → (low high end : ℕ) → Result A → Type 0
Between low high end (accepted a) = Unit {0}
Between low high end (refused n at) = (low ≤ n) × (n ≤ high) × (at ≤ end)

pub bind_between : {A B : Type 0} (low high end : ℕ) (r : Result A) (f : A → Result B) → Between low high end r → ((a : A) → Between low high end (f a)) → Between low high end (r >>= f)
bind_between low high end (accepted a) f h k = k a
bind_between low high end (refused n at) f h k = h

-- ---- reading
-- a cut is a refusal of reading, at an offset that is not past the end
abbrev CutFits : (end refusal place : ℕ) → Type 0
CutFits end n at = (4 ≤ n) × (n ≤ 6) × (at ≤ end)

-- each cut in a value is such a one, and no offset of a command in it is past the end
unfoldable mutual
  pub ValueFits : (end : ℕ) → Value → Type 0
  ValueFits end (val at null kind n ps) = (at ≤ end) × PartsFit end ps
  ValueFits end (cut n at) = CutFits end n at

  pub PartsFit : (end : ℕ) → Parts → Type 0
  PartsFit end no_parts = Unit {0}
  PartsFit end (cut_off n at) = CutFits end n at
  PartsFit end (part at s v ps) = (at ≤ end) × ValueFits end v × PartsFit end ps

unfoldable pub AllFit : (end : ℕ) → List Value → Type 0
AllFit end [] = Unit {0}
AllFit end (v ∷ vs) = ValueFits end v × AllFit end vs

abbrev ReadFits : (end : ℕ) → Read → Type 0
ReadFits end (Ok (command, behind)) = Unit {0}
ReadFits end (Err e) = CutFits end (number_of e.refusal) e.place

abbrev NextFits : (end : ℕ) → Next → Type 0
NextFits end (ended behind) = Unit {0}
NextFits end (next s at) = Unit {0}
NextFits end (bad n at) = CutFits end n at

module _ (end : ℕ) (commands text : List ℕ) (at : ℕ) (inside : at ≤ end) where
  command_fits : (due : Due) → ReadFits end (read_command commands text at due)
  unfolding read_command
  command_fits due =
      choice (ReadFits end) _ (λ _. omega arith) λ _.
      choice (ReadFits end) _ (λ _. omega arith) λ _.
      choice (ReadFits end) _ (λ _. omega arith) λ _. tt

  value_next_lem : (s : Step) (r : Read) → ReadFits end r → NextFits end (value_next commands s at r)
  value_next_lem s (Ok (c, behind)) h = choice (NextFits end) _ (λ _. tt) (λ _. tt)
  value_next_lem s (Err e) h = h

  field_next_lem : (r : Read) → ReadFits end r → NextFits end (field_next commands text at r)
  field_next_lem (Ok (c, behind)) h = choice (NextFits end) _ (λ _. tt) (λ _. tt)
  field_next_lem (Err e) h = h

  next_fits : (kind n i : ℕ) → NextFits end (next_part commands text kind n i at)
  unfolding next_part
  next_fits kind n i =
      choice (NextFits end) _ (λ _. value_next_lem element (read_command commands text at D.ValueOrEnd) (command_fits D.ValueOrEnd)) λ _.
      choice (NextFits end) _ (λ _. field_next_lem (read_command commands text at D.FieldOrEnd) (command_fits D.FieldOrEnd)) λ _.
      choice (NextFits end) _ (λ _. field_next_lem (read_command commands text at D.KeyOrEnd) (command_fits D.KeyOrEnd)) λ _.
      choice (NextFits end) _ (λ _. value_next_lem key (read_command commands text at D.ValueOrEnd) (command_fits D.ValueOrEnd)) λ _.
      choice (NextFits end) _ (λ _. value_next_lem value (read_command commands text at D.Value) (command_fits D.Value)) λ _.
      choice (NextFits end) _ (λ _. value_next_lem (position i) (read_command commands text at D.Value) (command_fits D.Value)) λ _. tt

marked_fits : (end : ℕ) (mark : Bool) (v : Value) → ValueFits end v → ValueFits end (marked mark v)
unfolding ValueFits
marked_fits end mark (val at null kind n ps) h = h
marked_fits end mark (cut n at) h = h

rest_fits : (end : ℕ) (o : Option ℕ) (more : ℕ → Got Parts) → ((b : ℕ) → o ≡ some b → PartsFit end (more b).0) → PartsFit end (rest o more).0
unfolding ValueFits
rest_fits end none more h = tt
rest_fits end (some b) more h = h b refl

-- what is read from an offset that is not past the end
module _ (options : ℕ) (commands text : List ℕ) where
  mutual
    unfolding read_value ValueFits

    value_fits : (f at : ℕ) → at ≤ length commands → ValueFits (length commands) (read_value f options commands text at).0
    value_fits zero at h = omega arith
    value_fits (suc f) at h =
        read_cases (read_command commands text at D.Value)
        (λ c b e. rw (value_command options commands text f at c b e) (shape_fits_lem f at b (shape_of options text c) h (reads_inside commands text at D.Value c b e)))
        (λ n p e. rw (value_refused options commands text f at n p e) (rw e at (command_fits (length commands) commands text at h D.Value)))

    shape_fits_lem : (f at b : ℕ) (shape : Shape) → at ≤ length commands → b ≤ length commands → ValueFits (length commands) (read_shape f options commands text at b shape).0
    shape_fits_lem zero at b shape h l = omega arith
    shape_fits_lem (suc f) at b (leaf null type) h l = (h, tt)
    shape_fits_lem (suc f) at b (follows mark) h l = marked_fits (length commands) mark (read_value f options commands text b).0 (value_fits f b l)
    shape_fits_lem (suc f) at b (parts kind n) h l = (h, parts_fit f kind n 0 b l)
    shape_fits_lem (suc f) at b (chosen number name contents) h l = (h, (h, shape_fits_lem f at b contents h l, tt))
    shape_fits_lem (suc f) at b no_value h l = omega arith

    parts_fit : (f kind n i at : ℕ) → at ≤ length commands → PartsFit (length commands) (read_parts f options commands text kind n i at).0
    parts_fit zero kind n i at h = omega arith
    parts_fit (suc f) kind n i at h =
        next_cases (next_part commands text kind n i at)
        (λ b e. rw (parts_ended options commands text f kind n i at b e) tt)
        (λ s a e.
        let l : (at ≤ a) × (a ≤ length commands) = rw e at (next_inside commands text at kind n i h) in
        rw (parts_next options commands text f kind n i at s a e)
        (h, value_fits f a l.1, rest_fits (length commands) (read_value f options commands text a).1 _ (λ b r. parts_fit f kind n (i + 1) b (value_on options commands text f a b r).1)))
        (λ m p e. rw (parts_bad options commands text f kind n i at m p e) (rw e at (next_fits (length commands) commands text at h kind n i)))

  records_fit : (f at : ℕ) → at ≤ length commands → AllFit (length commands) (records_from f options commands text at)
  unfolding records_from AllFit
  records_fit zero at h = tt
  records_fit (suc f) at h =
      record_cases options commands text at
      (λ l. rw (records_end options commands text (suc f) at l) tt)
      (λ l e. rw (records_cut options commands text f at l e) (value_fits (enough commands) at h, tt))
      (λ b l e. rw (records_more options commands text f at b l e) (value_fits (enough commands) at h, records_fit f b (value_on options commands text (enough commands) at b e).1))

  pub values_fit : AllFit (length commands) (values options commands text)
  unfolding values
  values_fit = records_fit (length commands) 0 zero-le

-- ---- tracing
module _ (end at : ℕ) (inside : at ≤ end) where
  or_refused_between : {A : Type 0} (o : Option A) → Between 4 11 end (or_refused no_joint at o)
  or_refused_between none = omega arith
  or_refused_between (some a) = tt

  meet_between : (o d k h : ℕ) → Between 4 11 end (meet o d at k h)
  unfolding meet
  meet_between o d k h =
      choice (Between 4 11 end) _ (λ _. omega arith) λ _.
      choice (Between 4 11 end) _ (λ _. or_refused_between (joint o k h)) λ _.
      choice (Between 4 11 end) _ (λ _. tt) λ _.
      choice (Between 4 11 end) _ (λ _. tt) λ _.
      choice (Between 4 11 end) _ (λ _. tt) λ _. omega arith

  room_between : (s : Step) (n : ℕ) (ks : Kids) → Between 4 11 end (room at s n ks)
  unfolding room
  room_between s n ks =
      choice (Between 4 11 end) _ (λ _. omega arith) λ _.
      choice (Between 4 11 end) _ (λ _. tt) λ _.
      choice (Between 4 11 end) _ (λ _. tt) λ _. omega arith

  make_between : (ss : List Step) (n : ℕ) (ks : Kids) → Between 4 11 end (make at ss n ks)
  unfolding make
  make_between [] n ks = tt
  make_between (s ∷ ss) n ks = bind_between 4 11 end (room at s n ks) _ (room_between s n ks) (λ m. make_between ss m (put s (kid_at s ks) ks))

cut_between : (end n at : ℕ) → CutFits end n at → (4 ≤ n) × (n ≤ 11) × (at ≤ end)
cut_between end n at h = let q : n ≤ 6 = h.1 in (h.0, omega arith, h.2)

mutual
  unfolding observe ValueFits

  observe_between : (end o d : ℕ) (v : Value) (n : ℕ) (t : Tree) → ValueFits end v → Between 4 11 end (observe o d v n t)
  observe_between end o d (cut m at) n t h = cut_between end m at h
  observe_between end o d (val at b k m ps) n t h =
      bind_between 4 11 end (meet o d at (kind_of t) k) _ (meet_between end at h.0 o d (kind_of t) k) λ j.
      bind_between 4 11 end (make at (made k m (kind_of t)) n (kids_of t)) _ (make_between end at h.0 (made k m (kind_of t)) n (kids_of t)) λ x.
      bind_between 4 11 end (observe_parts o d ps x.places x.what) _ (parts_between end o d ps x.places x.what h.1) λ y. tt

  parts_between : (end o d : ℕ) (ps : Parts) (n : ℕ) (ks : Kids) → PartsFit end ps → Between 4 11 end (observe_parts o d ps n ks)
  parts_between end o d no_parts n ks h = tt
  parts_between end o d (cut_off m at) n ks h = cut_between end m at h
  parts_between end o d (part at s v ps) n ks h =
      bind_between 4 11 end (room at s n ks) _ (room_between end at h.0 s n ks) λ m.
      bind_between 4 11 end (observe o (d + dots_of s) v m (kid_at s ks)) _ (observe_between end o (d + dots_of s) v m (kid_at s ks) h.1) λ x.
      parts_between end o d ps x.places (put s x.what ks) h.2

all_between : (end o d : ℕ) (vs : List Value) (n : ℕ) (t : Tree) → AllFit end vs → Between 4 11 end (observe_all o d vs n t)
unfolding observe_all AllFit
all_between end o d [] n t h = tt
all_between end o d (v ∷ vs) n t h =
    bind_between 4 11 end (observe o d v n t) _ (observe_between end o d v n t h.0) λ x. all_between end o d vs x.places x.what h.1

pub trace_between : (o : ℕ) (commands text : List ℕ) → Between 4 11 (length commands) (trace o (values o commands text))
unfolding trace
trace_between o commands text = all_between (length commands) o 0 (values o commands text) 1 fresh (values_fit o commands text)

-- ---- emission
abbrev WalkFits : Option ℕ → Type 0
WalkFits none = Unit {0}
WalkFits (some n) = (12 ≤ n) × (n ≤ 14)

first_fits : (a b : Option ℕ) → WalkFits a → WalkFits b → WalkFits (first_of a b)
first_fits none b h k = k
first_fits (some n) b h k = h

mutual
  unfolding walk

  pub walk_fits : (o : ℕ) (p : Place) → WalkFits (walk o p)
  walk_fits o (shown b k ps) =
      choice WalkFits _ (λ _. choice WalkFits _ (λ _. tt) (λ _. omega arith)) λ _.
      choice WalkFits _ (λ _. tt) λ _.
      choice WalkFits _ (λ _. omega arith) λ _. walks_fit o k ps

  walks_fit : (o k : ℕ) (ps : Places) → WalkFits (walks o k ps)
  walks_fit o k none_below = tt
  walks_fit o k (below s p ps) = choice WalkFits _ (λ _. omega arith) λ _. first_fits (walk o p) (walks o k ps) (walk_fits o p) (walks_fit o k ps)

root_between : (end : ℕ) (f : Field) → Between 12 17 end (root_fields end f)
root_between end (mk type m strategy number name fs) =
    choice (Between 12 17 end) _ (λ _. omega arith) λ _.
    choice (Between 12 17 end) _ (λ _. omega arith) λ _.
    choice (Between 12 17 end) _ (λ _. tt) λ _. omega arith

pub schema_between : (o end : ℕ) (t : Tree) → Between 12 17 end (to_schema o end t)
unfolding to_schema
schema_between o end t = from (walk o (place_of false t)) (walk_fits o (place_of false t))
  where
    from : (x : Option ℕ) → WalkFits x → Between {A = Fields} 12 17 end (elim x as (λ y. Result Fields) [ some n ↦ refused n end | none ↦ root_fields end (field_of o root_name 0 (place_of false t)) ])
    from none h = root_between end (field_of o root_name 0 (place_of false t))
    from (some n) h = let a : 12 ≤ n = h.0 in let b : n ≤ 14 = h.1 in omega arith

widen : {A : Type 0} (low high low' high' end : ℕ) → low' ≤ low → high ≤ high' → (r : Result A) → Between low high end r → Between low' high' end r
widen low high low' high' end p q (accepted a) h = tt
widen low high low' high' end p q (refused n at) h = let a : low ≤ n = h.0 in let b : n ≤ high = h.1 in (omega arith, omega arith, h.2)

-- the refusals of from_samples and to_schema are 4 to 17, and none is placed past the commands' end
pub schema_of_between : (b : Batch) → Between 4 17 (length b.commands) (schema_of b)
unfolding schema_of
schema_of_between b =
    let end : ℕ = length b.commands in
    let traced : Result (Counted Tree) = trace b.options (values b.options b.commands b.text) in
    bind_between 4 17 end traced _ (widen 4 11 4 17 end (omega arith) (omega arith) traced (trace_between b.options b.commands b.text)) λ x.
    widen 12 17 4 17 end (omega arith) (omega arith) (to_schema b.options end x.what) (schema_between b.options end x.what)
