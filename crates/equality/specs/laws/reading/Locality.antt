-- Reading is local: a value that is read whole is read the same under a larger bound and with further commands behind it, and commands
-- before it only move its offsets on.
use Rattle.std.specs.Prelude.{◌≡◌, refl, Bool, false, ◌&&◌, List, [], ◌∷◌, ◌++◌, ℕ, zero, suc, ◌+◌, ◌-◌, ◌*◌, ◌%◌, ◌≤◌, ◌<◌, ltb, length, get_or, Ok}
use Rattle.std.proofs.Common.{sym, ap, ◌∙◌, le_of_suc-le-suc, not-suc-le-zero}
use Rattle.std.proofs.Math.Option.{Option, none, some}
use native.Mathlib.Omega.{arith}
use Rattle.std.proofs.Math.Dec.{eqb}
use Rattle.logic.specs.Test.{when◌then◌else◌}
use Rattle.logic.specs.laws.Test.{cases}
use Rattle.text.specs.declared.Name.{Name}
use Rattle.text.specs.Name.{bytes_of}
use Rattle.commands.specs.declared.Command.{Command}
use Rattle.commands.specs.declared.Due.{Due}
use Rattle.commands.specs.declared.Due.TheVariants as D
use Rattle.commands.specs.Commands.{read_command, end_byte, form_of, width}
use Rattle.model.specs.Kinds.{sequence_kind, struct_kind, map_kind, map_mode_kind, Step, field, element, position, key, value}
use Rattle.model.specs.Reading.{Value, val, cut, Parts, no_parts, cut_off, part, Shape, leaf, follows, parts, chosen, no_value, shape_of, Next, ended, next, bad, value_next, field_next, next_part, Got, marked, rest, and_then, read_value, read_shape, read_parts}
use Rattle.equality.specs.laws.reading.Commands.{Agree, move_read, good, reads_on, reads_inside, command_kept, name_kept, field_width, key_width, command_moves, first_moved, name_moved}
use Rattle.equality.specs.laws.reading.Values.{next_inside, none_behind, rest_on, value_on, shape_on, parts_on}
use Rattle.equality.specs.laws.reading.Proper.{layers, few_layers}
use Rattle.equality.specs.laws.reading.Steps.{read_cases, next_cases, value_command, value_refused, parts_ended, parts_next, parts_bad}
use Rattle.equality.specs.laws.Base.{choices}

-- ---- a reading depends only on the bytes before its end
-- the offset behind the command at an offset
abbrev command_end : List ℕ → ℕ → ℕ
command_end commands at = at + width (form_of (get_or commands at 0))

-- what stands before a part stays, where it and the command of the part lie below the limit
abbrev NextKept : List ℕ → ℕ → Next → Next → Type 0
NextKept commands limit (ended b) y = b ≤ limit → y ≡ ended b
NextKept commands limit (next s a) y = command_end commands a ≤ limit → y ≡ next s a
NextKept commands limit (bad m p) y = Unit {0}

module _ (xs ys text : List ℕ) (limit : ℕ) (agree : Agree xs ys limit) (at : ℕ) where
  first_kept : (b : ℕ) → at < b → b ≤ limit → get_or ys at 0 ≡ get_or xs at 0
  first_kept b h l = agree.bytes at (omega arith)

  value_next_kept : (s : Step) (due : Due) → NextKept xs limit (value_next xs s at (read_command xs text at due)) (value_next ys s at (read_command ys text at due))
  unfolding when◌then◌else◌
  value_next_kept s due =
      read_cases (read_command xs text at due)
      (λ c b e.
      let on : at < b = reads_on xs text at due c b e in
      let ends : b ≡ command_end xs at = (good xs text at due c b e).ends in
      cases (eqb (get_or xs at 0) end_byte)
      (λ n. rw (e, n) (λ h. rw (command_kept xs ys limit agree at text due c b e h, first_kept b on h, n)))
      (λ n. rw (e, n) (λ h. let l : b ≤ limit = omega arith in rw (command_kept xs ys limit agree at text due c b e l, first_kept b on l, n))))
      (λ n p e. rw e tt)

  field_next_kept : (due : Due) → ((c : Command) (b : ℕ) → read_command xs text at due ≡ Ok (c, b) → eqb (get_or xs at 0) end_byte ≡ false → at + 5 ≤ b) →
      NextKept xs limit (field_next xs text at (read_command xs text at due)) (field_next ys text at (read_command ys text at due))
  unfolding when◌then◌else◌
  field_next_kept due w =
      read_cases (read_command xs text at due)
      (λ c b e.
      let on : at < b = reads_on xs text at due c b e in
      cases (eqb (get_or xs at 0) end_byte)
      (λ n. rw (e, n) (λ h. rw (command_kept xs ys limit agree at text due c b e h, first_kept b on h, n)))
      (λ n. rw (e, n) (λ h.
      let l : b ≤ limit = omega arith in
      let k : at + 5 ≤ b = w c b e n in
      rw (command_kept xs ys limit agree at text due c b e l, first_kept b on l, n)
      (ap (λ (name : Name). next (field (bytes_of text name)) b) (name_kept xs ys limit agree at (omega arith))))))
      (λ n p e. rw e tt)

  next_kept : (kind n i : ℕ) → NextKept xs limit (next_part xs text kind n i at) (next_part ys text kind n i at)
  unfolding next_part
  next_kept kind n i =
      let K : Next → Next → Type 0 = NextKept xs limit in
      choices K (eqb kind sequence_kind) (value_next_kept element D.ValueOrEnd) (
      choices K (eqb kind struct_kind) (field_next_kept D.FieldOrEnd (field_width xs text at)) (
      choices K (eqb kind map_mode_kind) (field_next_kept D.KeyOrEnd (key_width xs text at)) (
      choices K (eqb kind map_kind && eqb (i % 2) 0) (value_next_kept key D.ValueOrEnd) (
      choices K (eqb kind map_kind) (value_next_kept value D.Value) (
      choices K (ltb i n) (value_next_kept (position i) D.Value) (λ _. refl))))))

-- a value ends no earlier than its command
value_command_end : (options : ℕ) (commands text : List ℕ) (f at b : ℕ) → (read_value f options commands text at).1 ≡ some b → command_end commands at ≤ b
unfolding read_value
value_command_end options commands text zero at b e = none_behind e
value_command_end options commands text (suc f) at b e =
    read_cases (read_command commands text at D.Value)
    (λ c m k.
    let ends : m ≡ command_end commands at = (good commands text at D.Value c m k).ends in
    let on = shape_on options commands text f at m (shape_of options text c) (reads_inside commands text at D.Value c m k) b (rw (value_command options commands text f at c m k) at e) in
    omega arith)
    (λ n p k. none_behind (rw (value_refused options commands text f at n p k) at e))

then_same : (at : ℕ) (s : Step) (x y : Got Value) (m : ℕ) (more other : ℕ → Got Parts) → x ≡ y → y.1 ≡ some m → more m ≡ other m → and_then at s x more ≡ and_then at s y other
then_same at s x y m more other p q e = rw p (rw q (rw e))

-- what is read whole, to an end below the limit, is read the same there, and under every larger bound
module _ (options : ℕ) (text xs ys : List ℕ) (limit : ℕ) (agree : Agree xs ys limit) where
  mutual
    unfolding read_value

    pub value_kept : (f at g : ℕ) → f ≤ g → (b : ℕ) → b ≤ limit → (read_value f options xs text at).1 ≡ some b → read_value g options ys text at ≡ read_value f options xs text at
    value_kept zero at g h b l e = none_behind e
    value_kept (suc f) at zero h b l e = absurd (not-suc-le-zero h)
    value_kept (suc f) at (suc g) h b l e =
        read_cases (read_command xs text at D.Value)
        (λ c m k.
        let rest = rw (value_command options xs text f at c m k) at e in
        let on = shape_on options xs text f at m (shape_of options text c) (reads_inside xs text at D.Value c m k) b rest in
        value_command options ys text g at c m (command_kept xs ys limit agree at text D.Value c m k (omega arith))
        ∙ shape_kept f at m (shape_of options text c) g (le_of_suc-le-suc h) b l rest
        ∙ sym (value_command options xs text f at c m k))
        (λ n p k. none_behind (rw (value_refused options xs text f at n p k) at e))

    pub shape_kept : (f at m : ℕ) (shape : Shape) (g : ℕ) → f ≤ g → (b : ℕ) → b ≤ limit → (read_shape f options xs text at m shape).1 ≡ some b →
        read_shape g options ys text at m shape ≡ read_shape f options xs text at m shape
    shape_kept zero at m shape g h b l e = none_behind e
    shape_kept (suc f) at m shape zero h b l e = absurd (not-suc-le-zero h)
    shape_kept (suc f) at m (leaf null type) (suc g) h b l e = refl
    shape_kept (suc f) at m (follows mark) (suc g) h b l e = rw (value_kept f m g (le_of_suc-le-suc h) b l e)
    shape_kept (suc f) at m (parts kind n) (suc g) h b l e = rw (parts_kept f kind n 0 m g (le_of_suc-le-suc h) b l e)
    shape_kept (suc f) at m (chosen number name contents) (suc g) h b l e = rw (shape_kept f at m contents g (le_of_suc-le-suc h) b l e)
    shape_kept (suc f) at m no_value (suc g) h b l e = refl

    pub parts_kept : (f kind n i at g : ℕ) → f ≤ g → (b : ℕ) → b ≤ limit → (read_parts f options xs text kind n i at).1 ≡ some b →
        read_parts g options ys text kind n i at ≡ read_parts f options xs text kind n i at
    parts_kept zero kind n i at g h b l e = none_behind e
    parts_kept (suc f) kind n i at zero h b l e = absurd (not-suc-le-zero h)
    parts_kept (suc f) kind n i at (suc g) h b l e =
        next_cases (next_part xs text kind n i at)
        (λ m k.
        let same : some m ≡ some b = rw (parts_ended options xs text f kind n i at m k) at e in
        let z : m ≡ b = cc in
        parts_ended options ys text g kind n i at m ((rw k at (next_kept xs ys text limit agree at kind n i)) (omega arith)) ∙ sym (parts_ended options xs text f kind n i at m k))
        (λ t a k.
        rest_on (read_value f options xs text a).1 (λ behind. read_parts f options xs text kind n (i + 1) behind) b (rw (parts_next options xs text f kind n i at t a k) at e) λ m p q.
        let on = value_on options xs text f a m p in
        let end = value_command_end options xs text f a m p in
        let to = parts_on options xs text f kind n (i + 1) m on.1 b q in
        parts_next options ys text g kind n i at t a ((rw k at (next_kept xs ys text limit agree at kind n i)) (omega arith))
        ∙ then_same at t (read_value g options ys text a) (read_value f options xs text a) m
        (λ behind. read_parts g options ys text kind n (i + 1) behind) (λ behind. read_parts f options xs text kind n (i + 1) behind)
        (value_kept f a g (le_of_suc-le-suc h) m (omega arith) p) p (parts_kept f kind n (i + 1) m g (le_of_suc-le-suc h) b l q)
        ∙ sym (parts_next options xs text f kind n i at t a k))
        (λ m p k. none_behind (rw (parts_bad options xs text f kind n i at m p k) at e))

-- ---- the bound does not matter where it is above what any reading needs
rest_same : (o : Option ℕ) (more other : ℕ → Got Parts) → ((b : ℕ) → o ≡ some b → more b ≡ other b) → rest o more ≡ rest o other
rest_same none more other h = refl
rest_same (some b) more other h = h b refl

module _ (options : ℕ) (commands text : List ℕ) where
  mutual
    unfolding read_value

    pub value_bound : (f g at : ℕ) → 4 * (length commands - at) + 1 ≤ f → 4 * (length commands - at) + 1 ≤ g → read_value f options commands text at ≡ read_value g options commands text at
    value_bound zero g at h k = absurd (omega arith)
    value_bound (suc f) zero at h k = absurd (omega arith)
    value_bound (suc f) (suc g) at h k =
        read_cases (read_command commands text at D.Value)
        (λ c m e.
        let on : at < m = reads_on commands text at D.Value c m e in
        let inside : m ≤ length commands = reads_inside commands text at D.Value c m e in
        let few : layers (shape_of options text c) ≤ 3 = few_layers options text c in
        value_command options commands text f at c m e ∙ shape_bound f g at m (shape_of options text c) inside (omega arith) (omega arith) ∙ sym (value_command options commands text g at c m e))
        (λ n p e. value_refused options commands text f at n p e ∙ sym (value_refused options commands text g at n p e))

    pub shape_bound : (f g at m : ℕ) (shape : Shape) → m ≤ length commands → 4 * (length commands - m) + 1 + layers shape ≤ f → 4 * (length commands - m) + 1 + layers shape ≤ g →
        read_shape f options commands text at m shape ≡ read_shape g options commands text at m shape
    shape_bound zero g at m shape l h k = absurd (omega arith)
    shape_bound (suc f) zero at m shape l h k = absurd (omega arith)
    shape_bound (suc f) (suc g) at m (leaf null type) l h k = refl
    shape_bound (suc f) (suc g) at m (follows mark) l h k = rw (value_bound f g m (omega arith) (omega arith))
    shape_bound (suc f) (suc g) at m (parts kind n) l h k = rw (parts_bound f g kind n 0 m l (omega arith) (omega arith))
    shape_bound (suc f) (suc g) at m (chosen number name contents) l h k = rw (shape_bound f g at m contents l (omega arith) (omega arith))
    shape_bound (suc f) (suc g) at m no_value l h k = refl

    pub parts_bound : (f g kind n i at : ℕ) → at ≤ length commands → 4 * (length commands - at) + 2 ≤ f → 4 * (length commands - at) + 2 ≤ g →
        read_parts f options commands text kind n i at ≡ read_parts g options commands text kind n i at
    parts_bound zero g kind n i at l h k = absurd (omega arith)
    parts_bound (suc f) zero kind n i at l h k = absurd (omega arith)
    parts_bound (suc f) (suc g) kind n i at l h k =
        next_cases (next_part commands text kind n i at)
        (λ b e. parts_ended options commands text f kind n i at b e ∙ sym (parts_ended options commands text g kind n i at b e))
        (λ s a e.
        let inside : (at ≤ a) × (a ≤ length commands) = rw e at (next_inside commands text at kind n i l) in
        parts_next options commands text f kind n i at s a e
        ∙ (rw (
          value_bound f g a (omega arith) (omega arith),
          rest_same (read_value g options commands text a).1 (λ behind. read_parts f options commands text kind n (i + 1) behind) (λ behind. read_parts g options commands text kind n (i + 1) behind)
              (λ b p. let on = value_on options commands text g a b p in parts_bound f g kind n (i + 1) b on.1 (omega arith) (omega arith)),
        ))
        ∙ sym (parts_next options commands text g kind n i at s a e))
        (λ m p e. parts_bad options commands text f kind n i at m p e ∙ sym (parts_bad options commands text g kind n i at m p e))

-- ---- commands before it move a value on
unfoldable mutual
  pub moved : ℕ → Value → Value
  moved m (val at null kind n ps) = val (m + at) null kind n (moved_parts m ps)
  moved m (cut refusal place) = cut refusal (m + place)

  pub moved_parts : ℕ → Parts → Parts
  moved_parts m no_parts = no_parts
  moved_parts m (cut_off refusal place) = cut_off refusal (m + place)
  moved_parts m (part at s v ps) = part (m + at) s (moved m v) (moved_parts m ps)

unfoldable pub moved_all : ℕ → List Value → List Value
moved_all m [] = []
moved_all m (v ∷ vs) = moved m v ∷ moved_all m vs

abbrev pub move_offset : ℕ → Option ℕ → Option ℕ
move_offset m none = none
move_offset m (some b) = some (m + b)

abbrev pub move_value : ℕ → Got Value → Got Value
move_value m got = (moved m got.0, move_offset m got.1)

abbrev pub move_parts : ℕ → Got Parts → Got Parts
move_parts m got = (moved_parts m got.0, move_offset m got.1)

abbrev move_next : ℕ → Next → Next
move_next m (ended b) = ended (m + b)
move_next m (next s a) = next s (m + a)
move_next m (bad f p) = bad f (m + p)

moved_marked : (m : ℕ) (mark : Bool) (v : Value) → marked mark (moved m v) ≡ moved m (marked mark v)
unfolding moved
moved_marked m mark (val at null kind n ps) = refl
moved_marked m mark (cut f p) = refl

moved_rest : (m : ℕ) (o : Option ℕ) (more other : ℕ → Got Parts) → ((b : ℕ) → more (m + b) ≡ move_parts m (other b)) → rest (move_offset m o) more ≡ move_parts m (rest o other)
unfolding moved
moved_rest m none more other h = refl
moved_rest m (some b) more other h = h b

module _ (r cs text : List ℕ) (at : ℕ) where
  value_next_moves : (s : Step) (due : Due) →
      value_next (r ++ cs) s (length r + at) (read_command (r ++ cs) text (length r + at) due) ≡ move_next (length r)
      (value_next cs s at (read_command cs text at due))
  unfolding when◌then◌else◌
  value_next_moves s due =
      rw (command_moves r cs at text due)
      (read_cases (read_command cs text at due)
      (λ c b e. rw (e, first_moved r cs at) (cases (eqb (get_or cs at 0) end_byte) (λ n. rw n) (λ n. rw n)))
      (λ n p e. rw e))

  field_next_moves : (due : Due) → field_next (r ++ cs) text (length r + at) (read_command (r ++ cs) text (length r + at) due) ≡ move_next (length r) (field_next cs text at (read_command cs text at due))
  unfolding when◌then◌else◌
  field_next_moves due =
      rw (command_moves r cs at text due)
      (read_cases (read_command cs text at due)
      (λ c b e. rw (e, first_moved r cs at) (cases (eqb (get_or cs at 0) end_byte) (λ n. rw n) (λ n. rw n (ap (λ (name : Name). next (field (bytes_of text name)) (length r + b)) (name_moved r cs at)))))
      (λ n p e. rw e))

  next_moves : (kind n i : ℕ) → next_part (r ++ cs) text kind n i (length r + at) ≡ move_next (length r) (next_part cs text kind n i at)
  unfolding next_part
  next_moves kind n i =
      let M : Next → Next → Type 0 = λ x y. y ≡ move_next (length r) x in
      choices M (eqb kind sequence_kind) (value_next_moves element D.ValueOrEnd) (
      choices M (eqb kind struct_kind) (field_next_moves D.FieldOrEnd) (
      choices M (eqb kind map_mode_kind) (field_next_moves D.KeyOrEnd) (
      choices M (eqb kind map_kind && eqb (i % 2) 0) (value_next_moves key D.ValueOrEnd) (
      choices M (eqb kind map_kind) (value_next_moves value D.Value) (
      choices M (ltb i n) (value_next_moves (position i) D.Value) refl)))))

module _ (options : ℕ) (r cs text : List ℕ) where
  mutual
    unfolding read_value moved

    pub value_moves : (f at : ℕ) → read_value f options (r ++ cs) text (length r + at) ≡ move_value (length r) (read_value f options cs text at)
    value_moves zero at = refl
    value_moves (suc f) at =
        read_cases (read_command cs text at D.Value)
        (λ c b e.
        value_command options (r ++ cs) text f (length r + at) c (length r + b) (command_moves r cs at text D.Value ∙ ap (move_read (length r)) e)
        ∙ shape_moves f at b (shape_of options text c)
        ∙ ap (move_value (length r)) (sym (value_command options cs text f at c b e)))
        (λ n p e.
        value_refused options (r ++ cs) text f (length r + at) n (length r + p) (command_moves r cs at text D.Value ∙ ap (move_read (length r)) e)
        ∙ ap (move_value (length r)) (sym (value_refused options cs text f at n p e)))

    pub shape_moves : (f at b : ℕ) (shape : Shape) → read_shape f options (r ++ cs) text (length r + at) (length r + b) shape ≡ move_value (length r) (read_shape f options cs text at b shape)
    shape_moves zero at b shape = refl
    shape_moves (suc f) at b (leaf null type) = refl
    shape_moves (suc f) at b (follows mark) = rw (value_moves f b, moved_marked (length r) mark (read_value f options cs text b).0)
    shape_moves (suc f) at b (parts kind n) = rw (parts_moves f kind n 0 b)
    shape_moves (suc f) at b (chosen number name contents) = rw (shape_moves f at b contents)
    shape_moves (suc f) at b no_value = refl

    pub parts_moves : (f kind n i at : ℕ) → read_parts f options (r ++ cs) text kind n i (length r + at) ≡ move_parts (length r) (read_parts f options cs text kind n i at)
    parts_moves zero kind n i at = refl
    parts_moves (suc f) kind n i at =
        next_cases (next_part cs text kind n i at)
        (λ b e.
        parts_ended options (r ++ cs) text f kind n i (length r + at) (length r + b) (next_moves r cs text at kind n i ∙ ap (move_next (length r)) e)
        ∙ ap (move_parts (length r)) (sym (parts_ended options cs text f kind n i at b e)))
        (λ s a e.
        parts_next options (r ++ cs) text f kind n i (length r + at) s (length r + a) (next_moves r cs text at kind n i ∙ ap (move_next (length r)) e)
        ∙ (rw (
          value_moves f a,
          moved_rest (length r) (read_value f options cs text a).1
              (λ behind. read_parts f options (r ++ cs) text kind n (i + 1) behind) (λ behind. read_parts f options cs text kind n (i + 1) behind)
              (λ b. parts_moves f kind n (i + 1) b),
        ))
        ∙ ap (move_parts (length r)) (sym (parts_next options cs text f kind n i at s a e)))
        (λ m p e.
        parts_bad options (r ++ cs) text f kind n i (length r + at) m (length r + p) (next_moves r cs text at kind n i ∙ ap (move_next (length r)) e)
        ∙ ap (move_parts (length r)) (sym (parts_bad options cs text f kind n i at m p e)))
