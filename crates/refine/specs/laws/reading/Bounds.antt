-- What is read: only a container has parts, and there are at most four values for each byte of the commands.
use Rattle.std.specs.Prelude.{◌≡◌, refl, Bool, true, List, [], ◌∷◌, eqb}
use Rattle.std.proofs.Math.Option.{Option, none, some}
use Prim.Native.Nat.{ℕ, zero, suc, ◌+◌, ◌*◌, ◌≤◌, ◌<◌}
use Rattle.std.proofs.Common.{arith, eqb-true}
use Rattle.std.proofs.Math.ListN.{length}
use Rattle.commands.specs.declared.Due.TheVariants as D
use Rattle.commands.specs.Commands.{read_command}
use Rattle.model.specs.Kinds.{sequence_kind, struct_kind, map_kind, tuple_kind, map_mode_kind, is_container}
use Rattle.model.specs.Reading.{Value, val, cut, Parts, no_parts, cut_off, part, Shape, leaf, follows, parts, chosen, no_value, shape_of, next_part, Got, marked, rest, read_value, read_shape, read_parts, enough, records_from, values}
use Rattle.equality.specs.laws.Base.{or_cases}
use Rattle.equality.specs.laws.reading.Commands.{reads_on, reads_inside}
use Rattle.equality.specs.laws.reading.Values.{next_inside}
use Rattle.equality.specs.laws.reading.Records.{record_at, records_end, records_cut, records_more, record_cases}
use Rattle.equality.specs.laws.reading.Proper.{has_parts, shape_fits, shape_fits_lem, layers, few_layers}
use Rattle.equality.specs.laws.reading.Steps.{read_cases, next_cases, value_command, value_refused, parts_ended, parts_next, parts_bad}

-- how many values a value is: itself and all its parts, up to where it was cut
abbrev mutual
  pub nodes : Value → ℕ
  nodes (val at null kind n ps) = suc (nodes_in ps)
  nodes (cut refusal place) = 0

  pub nodes_in : Parts → ℕ
  nodes_in no_parts = 0
  nodes_in (cut_off refusal place) = 0
  nodes_in (part at s v ps) = nodes v + nodes_in ps

abbrev pub nodes_all : List Value → ℕ
nodes_all [] = 0
nodes_all (v ∷ vs) = nodes v + nodes_all vs

-- only a container has parts
abbrev mutual
  pub Bare : Value → Type 0
  Bare (val at null kind n ps) = BareIn kind ps
  Bare (cut refusal place) = Unit {0}

  pub BareIn : ℕ → Parts → Type 0
  BareIn kind no_parts = Unit {0}
  BareIn kind (cut_off refusal place) = Unit {0}
  BareIn kind (part at s v ps) = (is_container kind ≡ true) × Bare v × BareIn kind ps

abbrev pub AllBare : List Value → Type 0
AllBare [] = Unit {0}
AllBare (v ∷ vs) = Bare v × AllBare vs

-- ---- counted by offsets: a reading that was cut may have gone to the end
abbrev up_to : List ℕ → Option ℕ → ℕ
up_to commands none = length commands
up_to commands (some behind) = behind

-- so many values were read from an offset on, with some more at the command before it
abbrev Spent : List ℕ → ℕ → ℕ → ℕ → Option ℕ → Type 0
Spent commands more count at o = (count + 4 * at ≤ 4 * up_to commands o + more) × (up_to commands o ≤ length commands)

container : (kind : ℕ) → has_parts kind ≡ true → is_container kind ≡ true
container k e =
    or_cases _ (eqb k tuple_kind) e
    (λ e₁. or_cases _ (eqb k map_kind) e₁
    (λ e₂. or_cases _ (eqb k map_mode_kind) e₂
    (λ e₃. or_cases _ (eqb k struct_kind) e₃ (λ a. rw (eqb-true k sequence_kind a)) (λ a. rw (eqb-true k struct_kind a)))
    (λ a. rw (eqb-true k map_mode_kind a)))
    (λ a. rw (eqb-true k map_kind a)))
    (λ a. rw (eqb-true k tuple_kind a))

marked_nodes : (mark : Bool) (v : Value) → nodes (marked mark v) ≡ nodes v
marked_nodes mark (val at null kind n ps) = refl
marked_nodes mark (cut refusal place) = refl

marked_bare : (mark : Bool) (v : Value) → Bare v → Bare (marked mark v)
marked_bare mark (val at null kind n ps) b = b
marked_bare mark (cut refusal place) b = b

module _ (commands : List ℕ) where
  rest_spent : (kind count at : ℕ) (o : Option ℕ) (more : ℕ → Got Parts) → Spent commands 0 count at o
      → ((b : ℕ) → b ≤ length commands → BareIn kind (more b).0 × Spent commands 0 (nodes_in (more b).0) b (more b).1)
      → BareIn kind (rest o more).0 × Spent commands 0 (count + nodes_in (rest o more).0) at (rest o more).1
  rest_spent kind count at none more s h = (tt, (omega (arith, s), s.1))
  rest_spent kind count at (some b) more s h = let g = h b s.1 in (g.0, (omega (arith, s, g.1), g.1.1))

module _ (options : ℕ) (commands text : List ℕ) where
  mutual
    unfolding read_value

    value_spent : (f at : ℕ) → at ≤ length commands
        → Bare (read_value f options commands text at).0 × Spent commands 0 (nodes (read_value f options commands text at).0) at (read_value f options commands text at).1
    value_spent zero at h = (tt, (omega arith, omega arith))
    value_spent (suc f) at h =
        read_cases (read_command commands text at D.Value)
        (λ c b r.
        let l : at < b = reads_on commands text at D.Value c b r in
        let i : b ≤ length commands = reads_inside commands text at D.Value c b r in
        let g = shape_spent f at b (shape_of options text c) i (shape_fits_lem options text c) in
        let few : layers (shape_of options text c) ≤ 3 = few_layers options text c in
        rw (value_command options commands text f at c b r) (g.0, (omega (arith, g.1.0), g.1.1)))
        (λ n p r. rw (value_refused options commands text f at n p r) (tt, (omega arith, omega arith)))

    shape_spent : (f at m : ℕ) (shape : Shape) → m ≤ length commands → shape_fits options shape ≡ true
        → Bare (read_shape f options commands text at m shape).0
        × Spent commands (suc (layers shape)) (nodes (read_shape f options commands text at m shape).0) m (read_shape f options commands text at m shape).1
    shape_spent zero at m shape h k = (tt, (omega arith, omega arith))
    shape_spent (suc f) at m (leaf null type) h k = (tt, (omega arith, h))
    shape_spent (suc f) at m (follows mark) h k =
        let g = value_spent f m h in
        let e : nodes (marked mark (read_value f options commands text m).0) ≡ nodes (read_value f options commands text m).0 = marked_nodes mark (read_value f options commands text m).0 in
        (marked_bare mark (read_value f options commands text m).0 g.0, (omega (arith, g.1.0, e), g.1.1))
    shape_spent (suc f) at m (parts kind n) h k = let g = parts_spent f kind n 0 m h (container kind k) in (g.0, (omega (arith, g.1.0), g.1.1))
    shape_spent (suc f) at m (chosen number name contents) h k = let g = shape_spent f at m contents h k in ((refl, g.0, tt), (omega (arith, g.1.0), g.1.1))
    shape_spent (suc f) at m no_value h k = (tt, (omega arith, omega arith))

    parts_spent : (f kind n i at : ℕ) → at ≤ length commands → is_container kind ≡ true
        → BareIn kind (read_parts f options commands text kind n i at).0
        × Spent commands 0 (nodes_in (read_parts f options commands text kind n i at).0) at (read_parts f options commands text kind n i at).1
    parts_spent zero kind n i at h k = (tt, (omega arith, omega arith))
    parts_spent (suc f) kind n i at h k =
        next_cases (next_part commands text kind n i at)
        (λ b r. let g : (at ≤ b) × (b ≤ length commands) = rw r at (next_inside commands text at kind n i h) in rw (parts_ended options commands text f kind n i at b r) (tt, (omega arith, g.1)))
        (λ s a r.
        let g : (at ≤ a) × (a ≤ length commands) = rw r at (next_inside commands text at kind n i h) in
        let v = value_spent f a g.1 in
        let w = rest_spent commands kind (nodes (read_value f options commands text a).0) a (read_value f options commands text a).1
        (λ behind. read_parts f options commands text kind n (i + 1) behind) v.1
        (λ b l. parts_spent f kind n (i + 1) b l k) in
        rw (parts_next options commands text f kind n i at s a r) ((k, v.0, w.0), (omega (arith, w.1.0), w.1.1)))
        (λ m p r. rw (parts_bad options commands text f kind n i at m p r) (tt, (omega arith, omega arith)))

  records_spent : (f at : ℕ) → at ≤ length commands → AllBare (records_from f options commands text at) × (nodes_all (records_from f options commands text at) + 4 * at ≤ 4 * length commands)
  unfolding records_from
  records_spent zero at h = (tt, omega arith)
  records_spent (suc f) at h =
      record_cases options commands text at
      (λ l. rw (records_end options commands text (suc f) at l) (tt, omega arith))
      (λ l e. let g = value_spent (enough commands) at h in
      let w : nodes (record_at options commands text at).0 + 4 * at ≤ 4 * length commands = let q = rw e at g.1 in omega (arith, q) in
      rw (records_cut options commands text f at l e) ((g.0, tt), omega arith))
      (λ b l e. let g = value_spent (enough commands) at h in
      let q : Spent commands 0 (nodes (record_at options commands text at).0) at (some b) = rw e at g.1 in
      let w = records_spent f b q.1 in
      rw (records_more options commands text f at b l e) ((g.0, w.0), omega (arith, q.0, w.1)))

  -- the values of a batch, cut or whole
  pub values_bare : AllBare (values options commands text)
  unfolding values
  values_bare = (records_spent (length commands) 0 (omega arith)).0

  pub values_few : nodes_all (values options commands text) ≤ 4 * length commands
  unfolding values
  values_few = let g = (records_spent (length commands) 0 (omega arith)).1 in omega (arith, g)
