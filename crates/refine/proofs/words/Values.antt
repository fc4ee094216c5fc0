-- The flat run on the words is the walk over the values of the batch, on the numbered tree: a whole value, and the records.
use Rattle.std.specs.Prelude.{◌≡◌, List, Bool, ◌||◌, eqb, ltb}
use Rattle.std.proofs.Math.Path.{refl}
use Rattle.std.proofs.Common.{sym, ◌∙◌, le_refl}
use Rattle.std.proofs.Math.Option.{Option, none, some}
use Rattle.std.proofs.Math.Bool.{or-true, or-false, true, false}
use Prim.Native.Nat.{◌-◌, ℕ, zero, suc, ◌+◌, ◌*◌, ◌<◌, ◌≤◌}
use native.Mathlib.Omega.{arith}
use Rattle.std.proofs.Math.ListN.{length, get_or}
use borrow.Author.Tests.{eqb-true, eqb-false, ne_eqb, ltb-true, ltb-false, leb-false, le-ltb}
use Rattle.logic.specs.Test.{when◌then◌else◌}
use Rattle.logic.specs.laws.Test.{cases}
use Rattle.logic.specs.Turns.{turns, after}
use Rattle.datatype.specs.Codes.{null}
use Rattle.refusal.specs.declared.Refusal.{Refusal}
use Rattle.text.specs.declared.Name.{Name}
use Rattle.text.specs.Name.{bytes_of}
use Rattle.words.specs.Word.{word, with_word}
use Rattle.commands.specs.declared.Due.TheVariants as D
use Rattle.commands.specs.Commands.{read_command}
use Rattle.commands.specs.laws.Commands.{byte_of}
use Rattle.model.specs.Result.{Result, ◌>>=◌}
use Rattle.model.specs.Kinds.{sequence_kind, struct_kind, map_kind, tuple_kind, union_kind, is_container, variant}
use Rattle.model.specs.Reading.{Value, val, cut, no_parts, part, Shape, chosen, shape_of, marked, rest, read_value, read_shape, read_parts}
use Rattle.model.specs.Tracing.{Marks, marks, depth_limit, meet, marks_with, made, Counted, counted}
use Rattle.equality.specs.laws.reading.Commands.{reads_on, reads_inside}
use Rattle.equality.specs.laws.reading.Steps.{read_cases, value_command, value_refused}
use Rattle.shapes.specs.declared.Step.TheVariants as S
use Rattle.shapes.specs.declared.Contents.{Contents}
use Rattle.shapes.specs.declared.Contents.TheVariants as N
use Rattle.shapes.specs.declared.Shape as FlatShape
use Rattle.std.specs.Prelude as M
use Rattle.growth.specs.Growth.{made as madeFlat, Making, onward, sampled, ensured}
use Rattle.kinds.specs.declared.Met.{Met}
use Rattle.kinds.specs.Meeting.{met, meeting}
use Rattle.leaves.specs.Marks.{marked as markedFlat, some_byte, newtype_byte, chain, past_turn, past_marks}
use Rattle.reading.specs.Reading.{on_made, Readers, State, state, after_part, parts_from, parts_by, container_by, variant_by, at_shape, at_read, after_chain, value_by, none_left, readers, on_held, dots_in}
use Rattle.opening.specs.Opening.{holding, held, made_where, container_made, held_where, variant_held}
use Rattle.leaves.specs.Leaves.{traced_to, Out, out, on_met, with_met, stored, observed}
use Rattle.places.specs.Layout.{kind_word, samples_word}
use Rattle.places.specs.Nullable.{with_null}
use Rattle.refine.specs.laws.numbered.Tree.{Spot, spot, Spots, num, make_all_s, walk, walk_parts}
use Rattle.refine.specs.laws.reading.Steps.{Stands}
use Rattle.refine.specs.laws.words.Places.{Fits, After, stays, and_then, set_kind, set_null, set_widened, set_samples}
use Rattle.refine.proofs.words.Part.{ensure_is}
use Rattle.refine.specs.laws.reading.Commands.{command_name, shape_in, Shapes, leaves, opens, chooses, nothing, shape_says, byte_is, starts, some_read, newtype_read}
use Rattle.commands.specs.Bytes.{Bytes}
use Rattle.refine.proofs.words.Parts.{Agrees, went, balked, agrees_after, wrap, read_in, Fuel, low, Reads, after_ensure, parts_sim}
use Rattle.refine.specs.laws.words.Kinds.{meets, met_level, met_widened, no_widening, of_met}
use Rattle.refine.proofs.words.Made.{EnsuresAll, all_there, ensure_made, not_all}

-- ---- one value
walk_marked : (options depth n p : ℕ) (b : Marks) (k m : ℕ) (ks : Spots) (v : Value) → walk options depth (marked true v) n (spot p b k m ks)
    ≡ walk options depth v n (spot p (marks true b.widened) k m ks)
unfolding walk when◌then◌else◌
walk_marked options depth n p b k m ks (val at b' k' r ps) = rw (or-true b.null) refl
walk_marked options depth n p b k m ks (cut x at) = refl

-- what is no container has no parts, and is no sample
leaf_walk : (options depth : ℕ) (null : Bool) (k here n p : ℕ) (b : Marks) (j₀ m : ℕ) (ks : Spots) → is_container k ≡ false →
    walk options depth (val here null k 0 no_parts) n (spot p b j₀ m ks) ≡ (meet options depth here j₀ k >>= λ j. counted n (spot p (marks_with null j₀ k b) j m ks))
unfolding walk make_all_s made when◌then◌else◌
leaf_walk options depth null k here n p b j₀ m ks i =
    let l : k < sequence_kind = leb-false sequence_kind k i in
    rw (ne_eqb k sequence_kind (omega arith), ne_eqb k map_kind (omega arith), ne_eqb k tuple_kind (omega arith), i) refl

unmarked : (v : Value) → marked false v ≡ v
unfolding when◌then◌else◌
unmarked (val at b k r ps) = refl
unmarked (cut x at) = refl

rest_pure : (o : Option ℕ) → rest o (λ a. (no_parts, some a)) ≡ (no_parts, o)
rest_pure none = refl
rest_pure (some a) = refl

abbrev stopped : State → Out
stopped (state i a n t) = out (traced_to a n) t

done_part : (i : ℕ) (y : Out) → after stopped (after_part i y) ≡ y
unfolding after
done_part i (out (M.Ok to) t) = refl
done_part i (out (M.Err r) t) = refl

-- kind and samples are written
sample : (text t : List ℕ) (n p : ℕ) (b : Marks) (j₀ m : ℕ) (ks : Spots) → Fits text t n (spot p b j₀ m ks) → (j : ℕ) → After text t n (spot p b j₀ m ks) (sampled p j t) n (spot p b j (onward m) ks)
unfolding sampled
sample text t n p b j₀ m ks h j =
    let t₁ : List ℕ = with_word t p kind_word j in
    let A = set_kind text t n p b j₀ m ks h j in
    let w : word t p samples_word ≡ m = h.rep.0 2 (omega arith) in
    rw w (and_then _ _ _ _ _ _ _ _ _ _ A (set_samples text t₁ n p b j m ks A.fits (onward m)))

-- kind and marks are written
module _ (text t : List ℕ) (n p : ℕ) (b : Marks) (k m : ℕ) (ks : Spots) (h : Fits text t n (spot p b k m ks)) where
  met_after : (kind : ℕ) (widened : Bool) → After text t n (spot p b k m ks) (with_met (met kind widened) p t) n (spot p (marks b.null (b.widened || widened)) kind m ks)
  unfolding when◌then◌else◌
  met_after kind true =
      let A = set_kind text t n p b k m ks h kind in
      rw (or-true b.widened) (and_then _ _ _ _ _ _ _ _ _ _ A (set_widened text (with_word t p kind_word kind) n p b kind m ks A.fits))
  met_after kind false = rw (or-false b.widened) (set_kind text t n p b k m ks h kind)

  null_after : (null : Bool) → After text t n (spot p b k m ks) (when null then with_null p t else t) n (spot p (marks (b.null || null) b.widened) k m ks)
  unfolding when◌then◌else◌
  null_after true = rw (or-true b.null) (set_null text t n p b k m ks h)
  null_after false = rw (or-false b.null) (stays text t n (spot p b k m ks) h)

stored_after : (text t : List ℕ) (n p : ℕ) (b : Marks) (k m : ℕ) (ks : Spots) → Fits text t n (spot p b k m ks) → (null : Bool) (j : Met) →
    After text t n (spot p b k m ks) (stored null j p t) n (spot p (marks (b.null || null) (b.widened || j.widened)) j.kind m ks)
unfolding stored
stored_after text t n p b k m ks h null j =
    let A = met_after text t n p b k m ks h j.kind j.widened in
    and_then _ _ _ _ _ _ _ _ _ _ A (null_after text (with_met j p t) n p (marks b.null (b.widened || j.widened)) j.kind m ks A.fits null)

module _ (options : ℕ) (commands text : List ℕ) (bytes : Bytes commands) (depth levels : ℕ) (level : depth_limit - depth ≡ levels) (inner : Readers)
    (reads : (levels ≡ 0 → ⊥) → (down : ℕ) → Reads options commands text (depth + (1 + down)) (inner down)) where
  leaf_sim : (null : Bool) (k lo here a n : ℕ) (t : List ℕ) (u : Spot) → is_container k ≡ false → lo ≤ a → a ≤ length commands → Fits text t n u
      → Agrees text commands t n u lo (walk options depth (val here null k 0 no_parts) n u) (observed options null k levels here a (num u) n t) (some a)
  unfolding observed
  leaf_sim null k lo here a n t (spot p b j₀ m ks) i y z h =
      let w : word t p kind_word ≡ j₀ = h.rep.0 0 (omega arith) in
      rw (leaf_walk options depth null k here n p b j₀ m ks i, w, meets options depth levels here j₀ k level) (go (meeting options levels j₀ k) refl)
    where
      go : (x : M.Result Met Refusal) → meeting options levels j₀ k ≡ x →
          Agrees text commands t n (spot p b j₀ m ks) lo (of_met here x >>= λ j. counted n (spot p (marks_with null j₀ k b) j m ks))
          (on_met here t (λ j. out (traced_to a n) (stored null j p t)) x)
          (some a)
      go (M.Err x) e = balked
      go (M.Ok j) e = rw (← met_widened options levels j₀ k j e) (went y z (stored_after text t n p b j₀ m ks h null j))

  contents_sim : (levels ≡ 0 → ⊥) → (k r f here at n p : ℕ) (b : Marks) (j m : ℕ) (t : List ℕ) (ks : Spots) → at ≤ length commands →
      4 * length commands + 2 ≤ 4 * at + f → {x : Result (Counted Spots)} {y : Making} → EnsuresAll text p b j m ks t n here x y
      → Agrees text commands t n (spot p b j m ks) at
      (x >>= λ q. wrap p b j m (walk_parts options depth m (read_parts f options commands text k r 0 at).0 q.places q.what))
      (on_made here (parts_by commands text inner k r p at) y) (read_parts f options commands text k r 0 at).1
  unfolding parts_from
  contents_sim z k r f here at n p b j m t ks y i (all_there a) =
      agrees_after a (le_refl at) (parts_sim options commands text bytes depth inner (reads z) p b j m k r (length commands + 1) f 0 at _ _ _ y (omega arith) i a.fits)
  contents_sim z k r f here at n p b j m t ks y i not_all = balked

  container_sim : (k r f here at n : ℕ) (t : List ℕ) (u : Spot) → is_container k ≡ true → at ≤ length commands → 4 * length commands + 2 ≤ 4 * at + f → Fits text t n u
      → Agrees text commands t n u at (walk options depth (val here false k r (read_parts f options commands text k r 0 at).0) n u)
      (container_by commands text options levels inner k r here at (num u) n t) (read_parts f options commands text k r 0 at).1
  unfolding walk container_by container_made when◌then◌else◌
  container_sim k r f here at n t (spot p b j₀ m ks) c y i h =
      let w : word t p kind_word ≡ j₀ = h.rep.0 0 (omega arith) in
      rw (w, meets options depth levels here j₀ k level, no_widening j₀ k c, c, or-false b.null, or-false b.widened) (go (meeting options levels j₀ k) refl)
    where
      go : (x : M.Result Met Refusal) → meeting options levels j₀ k ≡ x → Agrees text commands t n (spot p b j₀ m ks) at
          (of_met here x >>= λ j. make_all_s here (made k r j₀) n ks >>= λ q. walk_parts options depth (onward m)
          (read_parts f options commands text k r 0 at).0 q.places q.what >>= λ q. counted q.places (spot p b j (onward m) q.what))
          (on_made here (parts_by commands text inner k r p at) (made_where t (λ j. madeFlat text p k r j₀ n (sampled p j t)) x)) (read_parts f options commands text k r 0 at).1
      go (M.Err x) e = balked
      go (M.Ok j) e =
          let A = sample text t n p b j₀ m ks h j.kind in
          let t₁ : List ℕ = sampled p j.kind t in
          agrees_after A (le_refl at)
          (contents_sim (met_level options levels j₀ k j c e) k r f here at n p b j.kind (onward m) t₁ ks y i (ensure_made text t₁ n p b j.kind (onward m) here k r j₀ ks A.fits))

  choice_sim : (c : Contents) (k : ℕ) (name : Name) (f here at n : ℕ) (t : List ℕ) (u : Spot) →
      Stands text (S.Variant k name) (variant k (bytes_of text name)) → at ≤ length commands → Fuel commands c f at → Fits text t n u
      → Agrees text commands t n u at
      (walk options depth (val here false union_kind 0
      (part here (variant k (bytes_of text name)) (read_in f options commands text c here at).0 no_parts)) n u)
      (variant_by text options levels inner k name c here at (num u) n t) (read_in f options commands text c here at).1
  unfolding walk make_all_s made variant_by variant_held held when◌then◌else◌
  choice_sim c k name f here at n t (spot p b j₀ m ks) st y i h =
      let w : word t p kind_word ≡ j₀ = h.rep.0 0 (omega arith) in
      rw (w, meets options depth levels here j₀ union_kind level, no_widening j₀ union_kind refl, or-false b.null, or-false b.widened) (go (meeting options levels j₀ union_kind) refl)
    where
      base : (c : Contents) → at ≤ low c at
      base N.Unit = omega arith
      base N.Value = omega arith
      base (N.Positions n) = omega arith
      base N.Fields = omega arith

      go : (z : M.Result Met Refusal) → meeting options levels j₀ union_kind ≡ z → Agrees text commands t n (spot p b j₀ m ks) at
          (of_met here z >>= λ j. wrap p b j (onward m) (walk_parts options depth (onward m) (part here (variant k (bytes_of text name)) (read_in f options commands text c here at).0 no_parts) n ks))
          (on_held here (inner (dots_in text name) c here at) (held_where t (λ j. holding p (ensured text p (S.Variant k name) n (sampled p j t))) z)) (read_in f options commands text c here at).1
      go (M.Err x) e = balked
      go (M.Ok j) e =
          let t₂ : List ℕ = sampled p j.kind t in
          let A = sample text t n p b j₀ m ks h j.kind in
          let E = ensure_is text t₂ n p (S.Variant k name) (variant k (bytes_of text name)) here b j.kind (onward m) ks st A.fits in
          let r = after_ensure options commands text bytes depth inner (reads (met_level options levels j₀ union_kind j refl e)) p b j.kind
          (onward m) c at here at (S.Variant k name) (variant k (bytes_of text name)) st 0 (base c) (λ a. (no_parts, some a)) stopped
          (λ a₂ n₂ t₂ ks₂ _ z h₂. went (le_refl a₂) z (stays text t₂ n₂ (spot p b j.kind (onward m) ks₂) h₂)) f y i t₂ n ks E in
          agrees_after A (le_refl at) (rw (rest_pure, done_part) at r)

  -- the shape that a command begins, at a bound that is enough for it
  choose_sim : (c : Contents) (k : ℕ) (name : Name) (f here at n : ℕ) (t : List ℕ) (u : Spot) →
      Stands text (S.Variant k name) (variant k (bytes_of text name)) → at ≤ length commands → 4 * length commands + 4 ≤ 4 * at + f → Fits text t n u
      → Agrees text commands t n u at
      (walk options depth (read_shape f options commands text here at (chosen k (bytes_of text name) (shape_in c))).0 n u)
      (variant_by text options levels inner k name c here at (num u) n t)
      (read_shape f options commands text here at (chosen k (bytes_of text name) (shape_in c))).1
  unfolding read_value
  choose_sim c k name zero here at n t u st y i h = absurd (omega arith)
  choose_sim N.Unit k name (suc f) here at n t u st y i h = choice_sim N.Unit k name f here at n t u st y (omega arith) h
  choose_sim N.Value k name (suc zero) here at n t u st y i h = absurd (omega arith)
  choose_sim N.Value k name (suc (suc f)) here at n t u st y i h = rw (unmarked (read_value f options commands text at).0) (choice_sim N.Value k name f here at n t u st y (omega arith) h)
  choose_sim (N.Positions r) k name (suc f) here at n t u st y i h = choice_sim (N.Positions r) k name f here at n t u st y (omega arith) h
  choose_sim N.Fields k name (suc f) here at n t u st y i h = choice_sim N.Fields k name f here at n t u st y (omega arith) h

  shape_sim : (f here at n : ℕ) (t : List ℕ) (u : Spot) {x : FlatShape.Shape} {s : Shape} → Shapes text x s → at ≤ length commands → 4 * length commands + 4 ≤ 4 * at + f → Fits text t n u
      → Agrees text commands t n u at (walk options depth (read_shape f options commands text here at s).0 n u)
      (at_shape commands text options levels inner here at (num u) n t x) (read_shape f options commands text here at s).1
  unfolding read_value walk
  shape_sim zero here at n t u q y i h = absurd (omega arith)
  shape_sim (suc f) here at n t u (leaves {b = b} {k = k} c) y i h = leaf_sim b k at here at n t u c (le_refl at) y h
  shape_sim (suc f) here at n t u (opens {k = k} {n = r} c) y i h = container_sim k r f here at n t u c y (omega arith) h
  shape_sim (suc f) here at n t u (chooses {k = k} {name = name} {c = c} st) y i h = choose_sim c k name (suc f) here at n t u st y i h
  shape_sim (suc f) here at n t u nothing y i h = balked

  -- where no mark stands
  stop_sim : (f at n : ℕ) (t : List ℕ) (u : Spot) →
      (at < length commands → (get_or commands at 0 ≡ some_byte → ⊥) × (get_or commands at 0 ≡ newtype_byte → ⊥)) → at ≤ length commands →
      4 * length commands + 1 ≤ 4 * at + f → Fits text t n u
      → Agrees text commands t n u (at + 1) (walk options depth (read_value f options commands text at).0 n u)
      (at_read commands text options levels inner at (num u) n t (read_command commands text at D.Value)) (read_value f options commands text at).1
  unfolding walk
  stop_sim zero at n t u free y i h = absurd (omega arith)
  stop_sim (suc f) at n t u free y i h =
      read_cases (read_command commands text at D.Value)
      (λ c m e.
      let on : at < m = reads_on commands text at D.Value c m e in
      let in_it : m ≤ length commands = reads_inside commands text at D.Value c m e in
      let b : byte_of c ≡ get_or commands at 0 = byte_is commands text at D.Value c m e in
      let z = free (starts commands text at D.Value c m e) in
      rw (value_command options commands text f at c m e, e)
      (agrees_after (stays text t n u h) (omega arith)
      (shape_sim f at m n t u (shape_says options text c (command_name commands text bytes at D.Value c m e) (λ q. z.0 (sym b ∙ q))
      (λ q. z.1 (sym b ∙ q))) in_it (omega arith) h)))
      (λ x p e. rw (value_refused options commands text f at x p e, e) balked)

  chain_sim : (g f at n : ℕ) (t : List ℕ) (u : Spot) → at ≤ length commands → length commands < at + g → 4 * length commands + 1 ≤ 4 * at + f → Fits text t n u
      → Agrees text commands t n u (at + 1) (walk options depth (read_value f options commands text at).0 n u)
      (after_chain commands text options levels inner (num u) n (turns (past_turn commands (num u)) (λ s. s) g (chain at t)))
      (read_value f options commands text at).1
  unfolding turns after past_turn markedFlat read_value shape_of when◌then◌else◌
  chain_sim zero f at n t u y e i h = absurd (omega arith)
  chain_sim (suc g) zero at n t u y e i h = absurd (omega arith)
  chain_sim (suc g) (suc zero) at n t u y e i h =
      let l : length commands ≤ at = omega arith in
      rw (le-ltb at (length commands) l) (stop_sim 1 at n t u (λ q. absurd (omega arith)) y i h)
  chain_sim (suc g) (suc (suc f)) at n t (spot p b k m ks) y e i h =
      cases (ltb at (length commands))
      (λ d.
      let l : at < length commands = ltb-true at (length commands) d in
      cases (eqb (get_or commands at 0) some_byte)
      (λ q.
      rw (
        d,
        q,
        value_command options commands text (suc f) at _ (at + 1) (some_read commands text at l (eqb-true (get_or commands at 0) some_byte q)),
        walk_marked options depth n p b k m ks (read_value f options commands text (at + 1)).0,
      )
      (agrees_after (set_null text t n p b k m ks h) (omega arith)
      (chain_sim g f (at + 1) n (with_null p t) (spot p (marks true b.widened) k m ks) (omega arith) (omega arith) (omega arith)
      (set_null text t n p b k m ks h).fits)))
      (λ q.
      cases (eqb (get_or commands at 0) newtype_byte)
      (λ v.
      rw (
        d,
        q,
        v,
        value_command options commands text (suc f) at _ (at + 1)
            (newtype_read commands text at l (eqb-true (get_or commands at 0) newtype_byte v)),
        unmarked (read_value f options commands text (at + 1)).0,
      )
      (agrees_after (stays text t n (spot p b k m ks) h) (omega arith) (chain_sim g f (at + 1) n t (spot p b k m ks) (omega arith) (omega arith) (omega arith) h)))
      (λ v. rw (d, q, v) (stop_sim (suc (suc f)) at n t (spot p b k m ks) (λ _. (eqb-false (get_or commands at 0) some_byte q, eqb-false (get_or commands at 0) newtype_byte v)) y i h))))
      (λ d.
      let l : length commands ≤ at = ltb-false at (length commands) d in
      rw d (stop_sim (suc (suc f)) at n t (spot p b k m ks) (λ q. absurd (omega arith)) y i h))

  value_reads : Reads options commands text depth (value_by commands text options levels inner)
  unfolding value_by past_marks read_value
  value_reads N.Unit zero here at n t u y i h = absurd (omega arith)
  value_reads N.Unit (suc f) here at n t u y i h = leaf_sim true null at here at n t u refl (le_refl at) y h
  value_reads N.Value f here at n t u y i h = chain_sim (length commands + 1) f at n t u y (omega arith) i h
  value_reads (N.Positions r) zero here at n t u y i h = absurd (omega arith)
  value_reads (N.Positions r) (suc f) here at n t u y i h = container_sim tuple_kind r f here at n t u refl y (omega arith) h
  value_reads N.Fields zero here at n t u y i h = absurd (omega arith)
  value_reads N.Fields (suc f) here at n t u y i h = container_sim struct_kind 0 f here at n t u refl y (omega arith) h

-- the readers with so many levels left, less so many dots
pub readers_read : (options : ℕ) (commands text : List ℕ) → Bytes commands → (levels down depth : ℕ) → depth_limit - depth ≡ levels - down →
    Reads options commands text depth (readers commands text options levels down)
unfolding readers
readers_read options commands text bytes zero down depth e = value_reads options commands text bytes depth 0 (omega arith) none_left (λ z. absurd (z refl))
readers_read options commands text bytes (suc levels) zero depth e = value_reads options commands text bytes depth (suc levels) (omega arith)
    (readers commands text options levels) (λ _ down. readers_read options commands text bytes levels down (depth + (1 + down)) (omega arith))
readers_read options commands text bytes (suc levels) (suc down) depth e = readers_read options commands text bytes levels down depth (omega arith)
