-- The flat reader on the words is the walk over the values read, on the numbered tree: the parts of a container.
use Rattle.std.specs.Prelude.{◌≡◌, List, true, length}
use Rattle.std.proofs.Math.Path.{refl}
use Rattle.std.proofs.Math.Option.{Option, some}
use Prim.Native.Nat.{ℕ, zero, suc, ◌+◌, ◌*◌, ◌<◌, ◌≤◌}
use Rattle.std.proofs.Common.{arith}
use Rattle.logic.specs.Turns.{turns, after}
use Rattle.refusal.specs.declared.Refusal.{Refusal}
use Rattle.refusal.specs.Number.{number_of}
use Rattle.text.specs.Name.{dots}
use Rattle.words.specs.Word.{word}
use Rattle.model.specs.Result.{Result, refused, ◌>>=◌}
use Rattle.model.specs.Kinds.{Step}
use Rattle.model.specs.Reading.{Value, Parts, Next, next_part, Got, rest, read_value, read_shape, read_parts}
use Rattle.model.specs.Tracing.{Marks, has, dots_of, Counted, counted}
use Rattle.equality.specs.laws.reading.Values.{NextInside, next_inside}
use Rattle.equality.specs.laws.reading.Steps.{parts_ended, parts_next, parts_bad}
use Rattle.shapes.specs.declared.Step as Flat
use Rattle.shapes.specs.declared.Contents.{Contents}
use Rattle.shapes.specs.declared.Contents.TheVariants as N
use Rattle.shapes.specs.Shapes.{PartRead}
use Rattle.shapes.specs.Steps.{name_of}
use Rattle.growth.specs.Growth.{Ensuring}
use Rattle.reading.specs.Reading.{Reader, Readers, on_held, dots_in, part_read, State, state, after_part, on_part, part_turn, part_stop}
use Rattle.opening.specs.Opening.{holding, held}
use Rattle.commands.specs.Commands.{refused_at}
use Rattle.leaves.specs.Leaves.{traced_to, Out, out}
use Rattle.places.specs.Layout.{samples_word}
use Rattle.refine.specs.laws.numbered.Tree.{Spot, spot, Spots, num, steps_s, spot_at, put_s, walk, walk_parts}
use Rattle.refine.specs.laws.reading.Steps.{name_in, dots_of_lem, Stands}
use Rattle.refine.specs.laws.words.Places.{Fits, After, stays, and_then}
use Rattle.refine.proofs.words.Part.{Ensures, there, no_place, ensure_is, touch, touched_is, child_fits, lift}
use Rattle.refine.specs.laws.reading.Commands.{Says, says_end, says_step, says_bad, part_says, shape_in}
use Rattle.commands.specs.Bytes.{Bytes}

-- ---- two answers agree: both go on, with the same count of places and a table that says the tree, or both are refused alike
pub data Agrees (text commands t : List ℕ) (n : ℕ) (u : Spot) (at : ℕ) : Result (Counted Spot) → Out → Option ℕ → Type 0 where
  went : {a n' : ℕ} {t' : List ℕ} {u' : Spot} → at ≤ a → a ≤ length commands → After text t n u t' n' u' → Agrees text commands t n u at (counted n' u') (out (traced_to a n') t') (some a)
  balked : {x : Refusal} {b : ℕ} {t' : List ℕ} {o : Option ℕ} → Agrees text commands t n u at (refused (number_of x) b) (out (refused_at x b) t') o

pub agrees_after : {text commands t t₁ : List ℕ} {n n₁ : ℕ} {u u₁ : Spot} {at at₁ : ℕ} {x : Result (Counted Spot)} {y : Out} {o : Option ℕ}
    → After text t n u t₁ n₁ u₁ → at ≤ at₁ → Agrees text commands t₁ n₁ u₁ at₁ x y o → Agrees text commands t n u at x y o
agrees_after d l (went g z b) = went (omega arith) z (and_then _ _ _ _ _ _ _ _ _ _ d b)
agrees_after d l balked = balked

abbrev pub wrap : ℕ → Marks → ℕ → ℕ → Result (Counted Spots) → Result (Counted Spot)
wrap p b k m x = x >>= λ q. counted q.places (spot p b k m q.what)

-- ---- what is read: a value, or a variant's contents
abbrev pub read_in : ℕ → ℕ → List ℕ → List ℕ → Contents → ℕ → ℕ → Got Value
read_in f options commands text N.Unit here at = read_shape f options commands text here at (shape_in N.Unit)
read_in f options commands text N.Value here at = read_value f options commands text at
read_in f options commands text (N.Positions n) here at = read_shape f options commands text here at (shape_in (N.Positions n))
read_in f options commands text N.Fields here at = read_shape f options commands text here at (shape_in N.Fields)

-- what reading takes, and where it ends at the least
abbrev pub Fuel : List ℕ → Contents → ℕ → ℕ → Type 0
Fuel commands N.Unit f at = 4 * length commands + 1 ≤ 4 * at + f
Fuel commands N.Value f at = 4 * length commands + 1 ≤ 4 * at + f
Fuel commands (N.Positions n) f at = 4 * length commands + 3 ≤ 4 * at + f
Fuel commands N.Fields f at = 4 * length commands + 3 ≤ 4 * at + f

abbrev pub low : Contents → ℕ → ℕ
low N.Unit at = at
low N.Value at = at + 1
low (N.Positions n) at = at
low N.Fields at = at

-- readers that do what the walk does at a depth
abbrev pub Reads : ℕ → List ℕ → List ℕ → ℕ → (Contents → ℕ → Reader) → Type 0
Reads options commands text depth R = (c : Contents) (f here at n : ℕ) (t : List ℕ) (u : Spot) → at ≤ length commands → Fuel commands c f at → Fits text t n u
    → Agrees text commands t n u (low c at) (walk options depth (read_in f options commands text c here at).0 n u) (R c here at (num u) n t) (read_in f options commands text c here at).1

-- ---- the parts of a container
module _ (options : ℕ) (commands text : List ℕ) (bytes : Bytes commands) (depth : ℕ) (inner : Readers)
    (reads : (down : ℕ) → Reads options commands text (depth + (1 + down)) (inner down)) (p : ℕ) (b : Marks) (j m : ℕ) where
  -- what is left agrees, from any later state
  abbrev Onwards : ℕ → ℕ → (ℕ → Got Parts) → (State → Out) → Type 0
  Onwards lo i K F = (a n : ℕ) (t : List ℕ) (ks : Spots) → lo ≤ a → a ≤ length commands → Fits text t n (spot p b j m ks)
      → Agrees text commands t n (spot p b j m ks) a (wrap p b j m (walk_parts options depth m (K a).0 n ks)) (F (state i a n t)) (K a).1

  module _ (c : Contents) (base at a : ℕ) (x : Flat.Step) (s : Step) (st : Stands text x s) (i : ℕ) (lo : base ≤ low c a) (K : ℕ → Got Parts) (F : State → Out) (ih : Onwards (low c a) i K F) where
    after_value : (t : List ℕ) (n : ℕ) (ks : Spots) (h : Fits text t n (spot p b j m ks)) (e : has s (steps_s ks) ≡ true) {x : Result (Counted Spot)} {y : Out} {o : Option ℕ}
        → Agrees text commands (touch (num (spot_at s ks)) m t) n (spot_at s ks) (low c a) x y o
        → Agrees text commands t n (spot p b j m ks) base
        (wrap p b j m (x >>= λ q. walk_parts options depth m (rest o K).0 q.places (put_s s m q.what ks))) (after F (after_part i y))
        (rest o K).1
    unfolding after
    after_value t n ks h e (went lt z A) = let B = lift text t n p s b j m ks h e _ _ _ A in agrees_after B (omega arith) (ih _ _ _ _ lt z B.fits)
    after_value t n ks h e balked = balked

    pub after_ensure : (f : ℕ) → a ≤ length commands → Fuel commands c f a → (t : List ℕ) (n : ℕ) (ks : Spots) {x₁ : Result (Counted Spots)} {y : Ensuring} → Ensures text s p b j m ks t n at x₁ y
        → Agrees text commands t n (spot p b j m ks) base
        (wrap p b j m (x₁ >>= λ r. walk options (depth + dots_of s) (read_in f options commands text c at a).0 r.places
        (spot_at s r.what) >>= λ q. walk_parts options depth m (rest (read_in f options commands text c at a).1 K).0 q.places
        (put_s s m q.what r.what)))
        (after F (after_part i (on_held at (inner (dots_in text (name_of x)) c at a) (holding p y)))) (rest (read_in f options commands text c at a).1 K).1
    unfolding after
    after_ensure f y z t n ks (there {n' = n'} {ks' = ks'} {t' = t'} e A) =
        let w : word t' p samples_word ≡ m = A.fits.rep.0 2 (omega arith) in
        rw (touched_is t' p (num (spot_at s ks')) m w, dots_of_lem s, st.bytes)
        (agrees_after A (omega arith) (after_value t' n' ks' A.fits e
        (reads (dots (name_in s)) c f at a n' (touch (num (spot_at s ks')) m t') (spot_at s ks') y z
        (child_fits text t' n' p s b j m ks' A.fits e))))
    after_ensure f y z t n ks no_place = balked

  module _ (k r : ℕ) where
    pub parts_sim : (g f i at n : ℕ) (t : List ℕ) (ks : Spots) → at ≤ length commands → length commands < at + g → 4 * length commands + 2 ≤ 4 * at + f → Fits text t n (spot p b j m ks)
        → Agrees text commands t n (spot p b j m ks) at
        (wrap p b j m (walk_parts options depth m (read_parts f options commands text k r i at).0 n ks))
        (turns (part_turn commands text inner k r p) part_stop g (state i at n t)) (read_parts f options commands text k r i at).1
    unfolding turns after part_turn part_read held walk
    parts_sim zero f i at n t ks x e z h = absurd (omega arith)
    parts_sim (suc g) zero i at n t ks x e z h = absurd (omega arith)
    parts_sim (suc g) (suc f) i at n t ks x e z h =
        go (λ a₂ n₂ t₂ ks₂ lt le h₂. parts_sim g f (i + 1) a₂ n₂ t₂ ks₂ le (omega arith) (omega arith) h₂) (part_says commands text bytes at k r i) refl (next_inside commands text at k r i x)
      where
        go : Onwards (at + 1) (i + 1) (λ a₂. read_parts f options commands text k r (i + 1) a₂) (λ s. turns (part_turn commands text inner k r p) part_stop g s)
            → {y : PartRead} {v : Next} → Says text y v → next_part commands text k r i at ≡ v → NextInside commands at v
            → Agrees text commands t n (spot p b j m ks) at (wrap p b j m (walk_parts options depth m (read_parts (suc f) options commands text k r i at).0 n ks))
            (after (λ s. turns (part_turn commands text inner k r p) part_stop g s) (on_part text inner p i at n t y)) (read_parts (suc f) options commands text k r i at).1
        go ih (says_end {b = a}) d o = rw (parts_ended options commands text f k r i at a d) (went o.0 o.1 (stays text t n (spot p b j m ks) h))
        go ih (says_step {f = y} {s = s} {a = a} st) d o =
            rw (parts_next options commands text f k r i at s a d)
            (after_ensure N.Value at at a y s st (i + 1) (omega (arith, o.0)) (λ a₂. read_parts f options commands text k r (i + 1) a₂) (λ s. turns (part_turn commands text inner k r p) part_stop g s)
            (λ a₂ n₂ t₂ ks₂ lt le h₂. ih a₂ n₂ t₂ ks₂ (omega (arith, o.0)) le h₂) f o.1 (omega (arith, o.0)) t n ks (ensure_is text t n p y s at b j m ks st h))
        go ih (says_bad {x = y} {p = q}) d o = rw (parts_bad options commands text f k r i at (number_of y) q d) balked
