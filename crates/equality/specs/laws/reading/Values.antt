-- Reading: what is read is whole exactly where an offset behind it is known, ends inside the commands, and is proper.
use Rattle.std.specs.Prelude.{◌≡◌, refl, Bool, true, false, ◌&&◌, List, ℕ, zero, suc, ◌+◌, ◌%◌, ◌≤◌, ◌<◌, ltb, length, get_or}
use Rattle.std.proofs.Common.{◌∙◌, le_refl, arith}
use Rattle.std.proofs.Math.Option.{Option, none, some}
use Rattle.std.proofs.Math.Dec.{eqb}
use Rattle.commands.specs.declared.Due.{Due}
use Rattle.commands.specs.declared.Due.TheVariants as D
use Rattle.commands.specs.Commands.{read_command, end_byte}
use Rattle.model.specs.Kinds.{sequence_kind, struct_kind, map_kind, map_mode_kind, Step, element, position, key, value}
use Rattle.model.specs.Reading.{Value, val, cut, Parts, Shape, leaf, follows, parts, chosen, no_value, shape_of, Next, ended, next, bad, value_next, field_next, next_part, Got, marked, rest, read_value, read_shape, read_parts, is_whole, are_whole}
use Rattle.equality.specs.laws.Base.{choice}
use Rattle.equality.specs.laws.reading.Commands.{reads_on, reads_inside}
use Rattle.equality.specs.laws.reading.Steps.{next_cases, parts_bad, parts_ended, parts_next, read_cases, value_command, value_refused}

-- ---- whole where an offset behind is known
abbrev pub done : Option ℕ → Bool
done none = false
done (some behind) = true

and_true : (t : Bool) → (t && true) ≡ t
and_true true = refl
and_true false = refl

pub none_behind : {P : Type 0} {b : ℕ} → none ≡ some b → P
none_behind e = absurd (let z : ◌≡◌ {A = ℕ} 0 1 = cc in omega arith)

whole_marked : (mark : Bool) (v : Value) → is_whole (marked mark v) ≡ is_whole v
unfolding is_whole
whole_marked mark (val at null kind n ps) = refl
whole_marked mark (cut n p) = refl

whole_rest : (v : Value) (o : Option ℕ) (more : ℕ → Got Parts) → is_whole v ≡ done o → ((b : ℕ) → are_whole (more b).0 ≡ done (more b).1) →
    (is_whole v && are_whole (rest o more).0) ≡ done (rest o more).1
whole_rest v none more e h = rw e
whole_rest v (some b) more e h = rw e (h b)

module _ (options : ℕ) (commands text : List ℕ) where
  mutual
    unfolding is_whole read_value

    pub value_whole : (f at : ℕ) → is_whole (read_value f options commands text at).0 ≡ done (read_value f options commands text at).1
    value_whole zero at = refl
    value_whole (suc f) at =
        read_cases (read_command commands text at D.Value)
        (λ c b e. rw (value_command options commands text f at c b e) (shape_whole f at b (shape_of options text c)))
        (λ n p e. rw (value_refused options commands text f at n p e))

    pub shape_whole : (f at b : ℕ) (shape : Shape) → is_whole (read_shape f options commands text at b shape).0 ≡ done (read_shape f options commands text at b shape).1
    shape_whole zero at b shape = refl
    shape_whole (suc f) at b (leaf null type) = refl
    shape_whole (suc f) at b (follows mark) = whole_marked mark (read_value f options commands text b).0 ∙ value_whole f b
    shape_whole (suc f) at b (parts kind n) = parts_whole f kind n 0 b
    shape_whole (suc f) at b (chosen number name contents) = rw (shape_whole f at b contents) (and_true (done (read_shape f options commands text at b contents).1))
    shape_whole (suc f) at b no_value = refl

    pub parts_whole : (f kind n i at : ℕ) → are_whole (read_parts f options commands text kind n i at).0 ≡ done (read_parts f options commands text kind n i at).1
    parts_whole zero kind n i at = refl
    parts_whole (suc f) kind n i at =
        next_cases (next_part commands text kind n i at)
        (λ b e. rw (parts_ended options commands text f kind n i at b e))
        (λ s a e. rw (parts_next options commands text f kind n i at s a e)
        (whole_rest (read_value f options commands text a).0 (read_value f options commands text a).1 _ (value_whole f a) (λ b. parts_whole f kind n (i + 1) b)))
        (λ m p e. rw (parts_bad options commands text f kind n i at m p e))

-- ---- what is read ends inside the commands, and a value behind its start
-- what stands before a part ends no earlier than it starts, and inside
abbrev pub NextInside : List ℕ → ℕ → Next → Type 0
NextInside commands at (ended b) = (at ≤ b) × (b ≤ length commands)
NextInside commands at (next s a) = (at ≤ a) × (a ≤ length commands)
NextInside commands at (bad m p) = Unit {0}

module _ (commands text : List ℕ) (at : ℕ) where
  value_next_inside : (s : Step) (due : Due) → at ≤ length commands → NextInside commands at (value_next commands s at (read_command commands text at due))
  value_next_inside s due h =
      read_cases (read_command commands text at due)
      (λ c b e.
      let l : at < b = reads_on commands text at due c b e in
      let i : b ≤ length commands = reads_inside commands text at due c b e in
      rw e (choice (NextInside commands at) (eqb (get_or commands at 0) end_byte) (λ _. omega arith) (λ _. omega arith)))
      (λ n p e. rw e tt)

  field_next_inside : (due : Due) → NextInside commands at (field_next commands text at (read_command commands text at due))
  field_next_inside due =
      read_cases (read_command commands text at due)
      (λ c b e.
      let l : at < b = reads_on commands text at due c b e in
      let i : b ≤ length commands = reads_inside commands text at due c b e in
      rw e (choice (NextInside commands at) (eqb (get_or commands at 0) end_byte) (λ _. omega arith) (λ _. omega arith)))
      (λ n p e. rw e tt)

  pub next_inside : (kind n i : ℕ) → at ≤ length commands → NextInside commands at (next_part commands text kind n i at)
  unfolding next_part
  next_inside kind n i h =
      let P : Next → Type 0 = NextInside commands at in
      choice P (eqb kind sequence_kind) (λ _. value_next_inside element D.ValueOrEnd h) λ _.
      choice P (eqb kind struct_kind) (λ _. field_next_inside D.FieldOrEnd) λ _.
      choice P (eqb kind map_mode_kind) (λ _. field_next_inside D.KeyOrEnd) λ _.
      choice P (eqb kind map_kind && eqb (i % 2) 0) (λ _. value_next_inside key D.ValueOrEnd h) λ _.
      choice P (eqb kind map_kind) (λ _. value_next_inside value D.Value h) λ _.
      choice P (ltb i n) (λ _. value_next_inside (position i) D.Value h) λ _. (le_refl at, h)

pub rest_on : (o : Option ℕ) (more : ℕ → Got Parts) (b : ℕ) {P : Type 0} → (rest o more).1 ≡ some b → ((m : ℕ) → o ≡ some m → (more m).1 ≡ some b → P) → P
rest_on none more b e k = none_behind e
rest_on (some m) more b e k = k m refl e

module _ (options : ℕ) (commands text : List ℕ) where
  mutual
    unfolding read_value

    pub value_on : (f at b : ℕ) → (read_value f options commands text at).1 ≡ some b → (at < b) × (b ≤ length commands)
    value_on zero at b e = none_behind e
    value_on (suc f) at b e =
        read_cases (read_command commands text at D.Value)
        (λ c m r.
        let l : at < m = reads_on commands text at D.Value c m r in
        let i : m ≤ length commands = reads_inside commands text at D.Value c m r in
        let h = shape_on f at m (shape_of options text c) i b (rw (value_command options commands text f at c m r) at e) in
        omega arith)
        (λ n p r. none_behind (rw (value_refused options commands text f at n p r) at e))

    pub shape_on : (f at m : ℕ) (shape : Shape) → m ≤ length commands → (b : ℕ) → (read_shape f options commands text at m shape).1 ≡ some b → (m ≤ b) × (b ≤ length commands)
    shape_on zero at m shape h b e = none_behind e
    shape_on (suc f) at m (leaf null type) h b e = let g : m ≡ b = cc in omega arith
    shape_on (suc f) at m (follows mark) h b e = let g = value_on f m b e in omega arith
    shape_on (suc f) at m (parts kind n) h b e = parts_on f kind n 0 m h b e
    shape_on (suc f) at m (chosen number name contents) h b e = shape_on f at m contents h b e
    shape_on (suc f) at m no_value h b e = none_behind e

    pub parts_on : (f kind n i at : ℕ) → at ≤ length commands → (b : ℕ) → (read_parts f options commands text kind n i at).1 ≡ some b → (at ≤ b) × (b ≤ length commands)
    parts_on zero kind n i at h b e = none_behind e
    parts_on (suc f) kind n i at h b e =
        next_cases (next_part commands text kind n i at)
        (λ m r.
        let g = rw r at (next_inside commands text at kind n i h) in
        let q : some m ≡ some b = rw (parts_ended options commands text f kind n i at m r) at e in
        let z : m ≡ b = cc in omega arith)
        (λ s a r.
        let g : (at ≤ a) × (a ≤ length commands) = rw r at (next_inside commands text at kind n i h) in
        rest_on (read_value f options commands text a).1 (λ behind. read_parts f options commands text kind n (i + 1) behind) b (rw (parts_next options commands text f kind n i at s a r) at e) λ m p q.
        let v = value_on f a m p in
        let w = parts_on f kind n (i + 1) m v.1 b q in
        omega arith)
        (λ m p r. none_behind (rw (parts_bad options commands text f kind n i at m p r) at e))
