-- Commands are read and traced in the order of their offsets: where tracing meets the bound on places, nothing was refused before, and without
-- the bound it is refused no earlier.
use Rattle.std.specs.Prelude.{◌≡◌, refl, Bool, true, false, length}
use Rattle.std.proofs.Common.{sym, ◌∙◌, true≢false, le_refl, arith}
use Rattle.std.proofs.Math.Path.{ap}
use mathlib.Core.List.{List, [], ◌∷◌}
use Rattle.std.proofs.Math.Option.{Option, none, some}
use Prim.Native.Nat.{ℕ, zero, suc, ◌+◌, ◌≤◌}
use Rattle.logic.specs.Test.{when◌then◌else◌}
use Rattle.refusal.specs.Number.{no_joint, too_many_places}
use Rattle.coerce.specs.Joint.{joint}
use Rattle.commands.specs.declared.Due.TheVariants as D
use Rattle.commands.specs.Commands.{read_command}
use Rattle.model.specs.Result.{Result, accepted, refused, ◌>>=◌, or_refused}
use Rattle.model.specs.Kinds.{Step}
use Rattle.model.specs.Reading.{Value, val, cut, Parts, no_parts, cut_off, part, Shape, leaf, follows, parts, chosen, no_value, shape_of, next_part, marked, read_value, read_shape, read_parts, records_from, values, enough, is_whole, all_whole}
use Rattle.model.specs.Tracing.{Tree, Kids, kind_of, kids_of, kid_at, put, fresh, dots_of, meet, steps_of, clashes, room, made, make, observe, observe_parts, observe_all, trace}
use Rattle.model.specs.Unbounded.{make_all, allowed, see, see_parts, see_all}
use Rattle.equality.specs.laws.Base.{choice, and_left, and_right}
use Rattle.equality.specs.laws.reading.Commands.{reads_on, reads_inside}
use Rattle.equality.specs.laws.reading.Steps.{read_cases, next_cases, value_command, value_refused, parts_ended, parts_next, parts_bad}
use Rattle.equality.specs.laws.reading.Values.{done, none_behind, value_whole, next_inside, rest_on, value_on}
use Rattle.equality.specs.laws.reading.Records.{record_at, records_end, records_cut, records_more, record_cases}
use Rattle.equality.specs.laws.tracing.Count.{counted_make, counted, room_ok}
use Rattle.equality.specs.laws.tracing.Bound.{bind_no, not_accepted, eleven_meet}

-- ---- reading
-- the commands of a value stand in order, from one offset to another; a value that was cut has no end
unfoldable mutual
  pub Spans : ℕ → ℕ → Value → Type 0
  Spans low high (val at null kind n ps) = (low ≤ at) × SpanIn at high ps
  Spans low high (cut refusal place) = ⊥

  pub SpanIn : ℕ → ℕ → Parts → Type 0
  SpanIn low high no_parts = low ≤ high
  SpanIn low high (cut_off refusal place) = ⊥
  SpanIn low high (part at s v ps) = (low ≤ at) × ((middle : ℕ) × Spans at middle v × SpanIn middle high ps)

unfoldable pub SpanAll : ℕ → List Value → Type 0
SpanAll low [] = Unit {0}
SpanAll low (v ∷ vs) = (middle : ℕ) × Spans low middle v × SpanAll middle vs

spans_from : (low low' high : ℕ) (v : Value) → low' ≤ low → Spans low high v → Spans low' high v
unfolding Spans
spans_from low low' high (val at null kind n ps) h s = let l : low ≤ at = s.0 in (omega arith, s.1)
spans_from low low' high (cut n p) h s = s

span_in_from : (low low' high : ℕ) (ps : Parts) → low' ≤ low → SpanIn low high ps → SpanIn low' high ps
unfolding Spans
span_in_from low low' high no_parts h s = omega arith
span_in_from low low' high (cut_off n p) h s = s
span_in_from low low' high (part at r v ps) h s = let l : low ≤ at = s.0 in (omega arith, s.1)

spans_marked : (low high : ℕ) (mark : Bool) (v : Value) → Spans low high v → Spans low high (marked mark v)
unfolding Spans
spans_marked low high mark (val at null kind n ps) s = s
spans_marked low high mark (cut n p) s = s

module _ (options : ℕ) (commands text : List ℕ) where
  mutual
    unfolding read_value Spans

    value_spans : (f at b : ℕ) → (read_value f options commands text at).1 ≡ some b → Spans at b (read_value f options commands text at).0
    value_spans zero at b e = none_behind e
    value_spans (suc f) at b e =
        read_cases (read_command commands text at D.Value)
        (λ c m r.
        let on = reads_on commands text at D.Value c m r in
        rw (value_command options commands text f at c m r)
        (shape_spans f at m (shape_of options text c) (omega arith) (reads_inside commands text at D.Value c m r) b (rw (value_command options commands text f at c m r) at e)))
        (λ n p r. none_behind (rw (value_refused options commands text f at n p r) at e))

    shape_spans : (f at m : ℕ) (shape : Shape) → at ≤ m → m ≤ length commands → (b : ℕ) → (read_shape f options commands text at m shape).1 ≡ some b
        → Spans at b (read_shape f options commands text at m shape).0
    shape_spans zero at m shape h i b e = none_behind e
    shape_spans (suc f) at m (leaf null type) h i b e = let g : m ≡ b = cc in (le_refl at, omega arith)
    shape_spans (suc f) at m (follows mark) h i b e =
        spans_marked at b mark (read_value f options commands text m).0 (spans_from m at b (read_value f options commands text m).0 h (value_spans f m b e))
    shape_spans (suc f) at m (parts kind n) h i b e =
        (le_refl at, span_in_from m at b (read_parts f options commands text kind n 0 m).0 h (parts_span f kind n 0 m i b e))
    shape_spans (suc f) at m (chosen number name contents) h i b e = (le_refl at, (le_refl at, (b, shape_spans f at m contents h i b e, le_refl b)))
    shape_spans (suc f) at m no_value h i b e = none_behind e

    parts_span : (f kind n i at : ℕ) → at ≤ length commands → (b : ℕ) → (read_parts f options commands text kind n i at).1 ≡ some b
        → SpanIn at b (read_parts f options commands text kind n i at).0
    parts_span zero kind n i at h b e = none_behind e
    parts_span (suc f) kind n i at h b e =
        next_cases (next_part commands text kind n i at)
        (λ m r.
        let g : (at ≤ m) × (m ≤ length commands) = rw r at (next_inside commands text at kind n i h) in
        let q : some m ≡ some b = rw (parts_ended options commands text f kind n i at m r) at e in
        let z : m ≡ b = cc in
        rw (parts_ended options commands text f kind n i at m r) (omega arith))
        (λ s a r.
        let g : (at ≤ a) × (a ≤ length commands) = rw r at (next_inside commands text at kind n i h) in
        let v : Value = (read_value f options commands text a).0 in
        let over = rw (parts_next options commands text f kind n i at s a r) at e in
        rw (parts_next options commands text f kind n i at s a r)
        (rest_on (read_value f options commands text a).1 (λ behind. read_parts f options commands text kind n (i + 1) behind) b over λ m p q.
        (le_refl at, (m, spans_from a at m v g.0 (value_spans f a m p), rw p (parts_span f kind n (i + 1) m (value_on options commands text f a m p).1 b q)))))
        (λ m p r. none_behind (rw (parts_bad options commands text f kind n i at m p r) at e))

  records_span : (f at : ℕ) → all_whole (records_from f options commands text at) ≡ true → SpanAll at (records_from f options commands text at)
  unfolding records_from all_whole SpanAll
  records_span zero at = λ _. tt
  records_span (suc f) at =
      record_cases options commands text at
      (λ h. rw (records_end options commands text (suc f) at h) (λ _. tt))
      (λ h e. rw (records_cut options commands text f at h e) (λ w. absurd (true≢false (sym (and_left _ _ w) ∙ value_whole options commands text (enough commands) at ∙ ap done e))))
      (λ b h e. rw (records_more options commands text f at b h e)
      (λ w. (b, value_spans (enough commands) at b e, records_span f b (and_right (is_whole (record_at options commands text at).0) _ w))))

  pub values_span : all_whole (values options commands text) ≡ true → SpanAll 0 (values options commands text)
  unfolding values
  values_span = records_span (length commands) 0

-- ---- where a command is refused
-- a refusal has this place
abbrev Placed : {A : Type 0} → ℕ → Result A → Type 0
Placed at (accepted a) = Unit {0}
Placed at (refused n p) = p ≡ at

placed : {A : Type 0} {at m p : ℕ} (r : Result A) → Placed at r → r ≡ refused m p → p ≡ at
placed {at = at} {p = p} r h e = let h' : p ≡ at = rw e at h in h'

or_placed : {A : Type 0} (n at : ℕ) (o : Option A) → Placed at (or_refused n at o)
or_placed n at none = refl
or_placed n at (some a) = tt

module _ (at : ℕ) where
  meet_placed : (o d k h : ℕ) → Placed at (meet o d at k h)
  unfolding meet
  meet_placed o d k h =
      choice (Placed at) _ (λ _. refl) λ _.
      choice (Placed at) _ (λ _. or_placed no_joint at (joint o k h)) λ _.
      choice (Placed at) _ (λ _. tt) λ _.
      choice (Placed at) _ (λ _. tt) λ _.
      choice (Placed at) _ (λ _. tt) (λ _. refl)

  allowed_placed : (s : Step) (ks : Kids) → Placed at (allowed at s ks)
  unfolding allowed
  allowed_placed s ks = choice (Placed at) _ (λ _. refl) (λ _. tt)

  allowed_free : (s : Step) (ks : Kids) → clashes s (steps_of ks) ≡ false → allowed at s ks ≡ accepted true
  unfolding allowed when◌then◌else◌
  allowed_free s ks e = rw e

  room_placed : (s : Step) (n : ℕ) (ks : Kids) → Placed at (room at s n ks)
  unfolding room
  room_placed s n ks = choice (Placed at) _ (λ _. refl) λ _. choice (Placed at) _ (λ _. tt) λ _. choice (Placed at) _ (λ _. tt) (λ _. refl)

  make_placed : (ss : List Step) (n : ℕ) (ks : Kids) (m p : ℕ) → make at ss n ks ≡ refused m p → p ≡ at
  unfolding make
  make_placed [] n ks m p e = not_accepted e
  make_placed (s ∷ ss) n ks m p e =
      bind_no (room at s n ks) _ m p e (λ f. placed (room at s n ks) (room_placed s n ks) f) (λ k _ f. make_placed ss k (put s (kid_at s ks) ks) m p f)

-- ---- tracing stays within the offsets of its values
mutual
  unfolding Spans

  span_order : (low high : ℕ) (v : Value) → Spans low high v → low ≤ high
  span_order low high (val at null kind n ps) s = omega (arith, s.0, span_in_order at high ps s.1)
  span_order low high (cut n p) s = absurd s

  span_in_order : (low high : ℕ) (ps : Parts) → SpanIn low high ps → low ≤ high
  span_in_order low high no_parts s = s
  span_in_order low high (cut_off n p) s = absurd s
  span_in_order low high (part at r v ps) (h, (middle, first, later)) = omega (arith, h, span_order at middle v first, span_in_order middle high ps later)

-- without the bound nothing is refused before the first of them
mutual
  unfolding see Spans

  see_from : (o d : ℕ) (v : Value) (t : Tree) (low high m q : ℕ) → Spans low high v → see o d v t ≡ refused m q → low ≤ q
  see_from o d (cut n p) t low high m q s e = absurd s
  see_from o d (val at b k n ps) t low high m q s e =
      let l : low ≤ at = s.0 in
      bind_no (meet o d at (kind_of t) k) _ m q e (λ f. let z = placed (meet o d at (kind_of t) k) (meet_placed at o d (kind_of t) k) f in omega arith) λ j _ f.
      bind_no (see_parts o d ps (make_all (made k n (kind_of t)) (kids_of t))) _ m q f
      (λ g. let z = parts_from_lem o d ps (make_all (made k n (kind_of t)) (kids_of t)) at high m q s.1 g in omega arith)
      (λ _ _ g. not_accepted g)

  parts_from_lem : (o d : ℕ) (ps : Parts) (ks : Kids) (low high m q : ℕ) → SpanIn low high ps → see_parts o d ps ks ≡ refused m q → low ≤ q
  parts_from_lem o d no_parts ks low high m q s e = not_accepted e
  parts_from_lem o d (cut_off n p) ks low high m q s e = absurd s
  parts_from_lem o d (part at r v ps) ks low high m q (h, (middle, first, later)) e =
      let l = span_order at middle v first in
      bind_no (allowed at r ks) _ m q e (λ f. let z = placed (allowed at r ks) (allowed_placed at r ks) f in omega arith) λ _ _ f.
      bind_no (see o (d + dots_of r) v (kid_at r ks)) _ m q f (λ g. let z = see_from o (d + dots_of r) v (kid_at r ks) at middle m q first g in omega arith)
      (λ t _ g. let z = parts_from_lem o d ps (put r t ks) middle high m q later g in omega arith)

all_from : (o d : ℕ) (vs : List Value) (t : Tree) (low m q : ℕ) → SpanAll low vs → see_all o d vs t ≡ refused m q → low ≤ q
unfolding see_all SpanAll
all_from o d [] t low m q s e = not_accepted e
all_from o d (v ∷ vs) t low m q (middle, first, later) e =
    let l = span_order low middle v first in
    bind_no (see o d v t) _ m q e (λ f. see_from o d v t low middle m q first f) (λ u _ f. let z = all_from o d vs u middle m q later f in omega arith)

-- with the bound nothing is refused behind the last
mutual
  unfolding observe Spans

  observe_to : (o d : ℕ) (v : Value) (n : ℕ) (t : Tree) (low high m p : ℕ) → Spans low high v → observe o d v n t ≡ refused m p → p ≤ high
  observe_to o d (cut n' p') n t low high m p s e = absurd s
  observe_to o d (val at b k l ps) n t low high m p s e =
      let i = span_in_order at high ps s.1 in
      bind_no (meet o d at (kind_of t) k) _ m p e (λ f. let z = placed (meet o d at (kind_of t) k) (meet_placed at o d (kind_of t) k) f in omega arith) λ j _ f.
      bind_no (make at (made k l (kind_of t)) n (kids_of t)) _ m p f (λ g. let z = make_placed at (made k l (kind_of t)) n (kids_of t) m p g in omega arith) λ x _ g.
      bind_no (observe_parts o d ps x.places x.what) _ m p g (λ h. parts_to o d ps x.places x.what at high m p s.1 h) (λ _ _ h. not_accepted h)

  parts_to : (o d : ℕ) (ps : Parts) (n : ℕ) (ks : Kids) (low high m p : ℕ) → SpanIn low high ps → observe_parts o d ps n ks ≡ refused m p → p ≤ high
  parts_to o d no_parts n ks low high m p s e = not_accepted e
  parts_to o d (cut_off n' p') n ks low high m p s e = absurd s
  parts_to o d (part at r v ps) n ks low high m p (h, (middle, first, later)) e =
      let i = span_order at middle v first in
      let j = span_in_order middle high ps later in
      bind_no (room at r n ks) _ m p e (λ f. let z = placed (room at r n ks) (room_placed at r n ks) f in omega arith) λ x _ f.
      bind_no (observe o (d + dots_of r) v x (kid_at r ks)) _ m p f (λ g. let z = observe_to o (d + dots_of r) v x (kid_at r ks) at middle m p first g in omega arith)
      (λ y _ g. parts_to o d ps y.places (put r y.what ks) middle high m p later g)

-- ---- refused for the bound at p, and without it at q: not before p
mutual
  unfolding observe see Spans

  value_first : (o d : ℕ) (v : Value) (n : ℕ) (t : Tree) (low high p m q : ℕ) → Spans low high v → observe o d v n t ≡ refused too_many_places p
      → see o d v t ≡ refused m q → p ≤ q
  value_first o d (cut n' p') n t low high p m q s e f = absurd s
  value_first o d (val at b k l ps) n t low high p m q s e f =
      let ss : List Step = made k l (kind_of t) in
      bind_no (meet o d at (kind_of t) k) _ too_many_places p e (λ g. eleven_meet o d at (kind_of t) k p g) λ j e₁ g.
      let f₁ : (see_parts o d ps (make_all ss (kids_of t)) >>= _) ≡ refused m q = rw e₁ at f in
      bind_no (see_parts o d ps (make_all ss (kids_of t))) _ m q f₁
      (λ f₂.
      bind_no (make at ss n (kids_of t)) _ too_many_places p g
      (λ h. let z = make_placed at ss n (kids_of t) too_many_places p h in let y = parts_from_lem o d ps (make_all ss (kids_of t)) at high m q s.1 f₂ in omega arith)
      λ x e₂ h.
      bind_no (observe_parts o d ps x.places x.what) _ too_many_places p h
      (λ i. parts_first o d ps x.places x.what at high p m q s.1 i (rw (counted_make at ss n (kids_of t) x e₂).0 at f₂))
      (λ _ _ i. not_accepted i))
      (λ _ _ f₂. not_accepted f₂)

  parts_first : (o d : ℕ) (ps : Parts) (n : ℕ) (ks : Kids) (low high p m q : ℕ) → SpanIn low high ps → observe_parts o d ps n ks ≡ refused too_many_places p
      → see_parts o d ps ks ≡ refused m q → p ≤ q
  parts_first o d no_parts n ks low high p m q s e f = not_accepted e
  parts_first o d (cut_off n' p') n ks low high p m q s e f = absurd s
  parts_first o d (part at r v ps) n ks low high p m q (h, (middle, first, later)) e f =
      let d' : ℕ = d + dots_of r in
      let from = parts_from_lem o d (part at r v ps) ks at high m q (le_refl at, (middle, first, later)) f in
      bind_no (room at r n ks) _ too_many_places p e (λ g. let z = placed (room at r n ks) (room_placed at r n ks) g in omega arith) λ x e₁ g.
      bind_no (allowed at r ks) _ m q f (λ f₁. room_ok at r n ks x e₁ λ free _ _. not_accepted (sym (allowed_free at r ks free) ∙ f₁)) λ _ _ f₁.
      bind_no (observe o d' v x (kid_at r ks)) _ too_many_places p g
      (λ i.
      bind_no (see o d' v (kid_at r ks)) _ m q f₁
      (λ f₂. value_first o d' v x (kid_at r ks) at middle p m q first i f₂)
      (λ t _ f₂. let y = observe_to o d' v x (kid_at r ks) at middle too_many_places p first i in let z = parts_from_lem o d ps (put r t ks) middle high m q later f₂ in omega arith))
      λ y e₂ i.
      parts_first o d ps y.places (put r y.what ks) middle high p m q later i (rw (counted o d' v x (kid_at r ks) y e₂).0 at f₁)

all_first : (o d : ℕ) (vs : List Value) (n : ℕ) (t : Tree) (low p m q : ℕ) → SpanAll low vs → observe_all o d vs n t ≡ refused too_many_places p
    → see_all o d vs t ≡ refused m q → p ≤ q
unfolding observe_all see_all SpanAll
all_first o d [] n t low p m q s e f = not_accepted e
all_first o d (v ∷ vs) n t low p m q (middle, first, later) e f =
    bind_no (observe o d v n t) _ too_many_places p e
    (λ g.
    bind_no (see o d v t) _ m q f
    (λ h. value_first o d v n t low middle p m q first g h)
    (λ u _ h. let y = observe_to o d v n t low middle too_many_places p first g in let z = all_from o d vs u middle m q later h in omega arith))
    λ x e₁ g.
    all_first o d vs x.places x.what middle p m q later g (rw (counted o d v n t x e₁).0 at f)

pub trace_first : (o : ℕ) (commands text : List ℕ) (p m q : ℕ) → all_whole (values o commands text) ≡ true
    → trace o (values o commands text) ≡ refused too_many_places p → see_all o 0 (values o commands text) fresh ≡ refused m q → p ≤ q
unfolding trace
trace_first o commands text p m q w e f = all_first o 0 (values o commands text) 1 fresh 0 p m q (values_span o commands text w) e f
