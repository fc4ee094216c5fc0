-- Laws of the search tree of numbered children: a link leads up, the search ends, and what it finds in another table.
use Rattle.std.specs.Prelude.{◌≡◌, refl, ◌&&◌, List, eqb, ltb}
use Rattle.std.proofs.Math.Path.{sym, ap}
use Rattle.std.proofs.Common.{◌∙◌, arith}
use Prim.Native.Nat.{ℕ, zero, suc, ◌-◌, ◌/◌, ◌%◌, ◌<◌, ◌≤◌}
use borrow.Author.Tests.{eqb-true, eqb-false, eq-eqb, ne_eqb, ltb-true}
use Rattle.logic.specs.Test.{when◌then◌else◌}
use Rattle.logic.specs.laws.Test.{cases, both}
use Rattle.logic.specs.Turns.{Turn, done, after, turns}
use Rattle.logic.specs.laws.Invariant.{Keeps, goes_on_within, ends_within, holds_within}
use Rattle.words.specs.Word.{word}
use Rattle.model.specs.Tracing.{place_limit}
use Rattle.places.specs.Layout.{root_word, left_word, right_word, step_word, turn_limit}
use Rattle.search.specs.Tree.{Slot, Seeking, follow, seek, seek_at, seek_from, seek_stop, seek_turn, seeking, side_word, slot}

-- ---- a link
pub follow_below : (place field n : ℕ) (t : List ℕ) → (follow place field n t ≡ 0 → ⊥) → (place < follow place field n t) × (follow place field n t < n)
unfolding follow when◌then◌else◌
follow_below place field n t z =
    let w : ℕ = word t place field in
    cases (ltb place w && ltb w n)
    (λ e. rw e (both (ltb place w) (ltb w n) e λ a b. (ltb-true place w a, ltb-true w n b)))
    (λ e. absurd (rw e at z refl))

-- the same of a child that was read from it
module _ (place field n child : ℕ) (t : List ℕ) (e : child ≡ follow place field n t) (z : child ≡ 0 → ⊥) where
  pub leads_up : place < child
  leads_up = rw e (follow_below place field n t (rw e at z)).0

  pub leads_below : child < n
  leads_below = rw e (follow_below place field n t (rw e at z)).1

  pub ahead_falls : n - child < n - place
  ahead_falls = let a = leads_up in let b = leads_below in omega arith

-- the link that a search takes next is one of a child
pub side : (F : ℕ → Type 0) → F left_word → F right_word → (bits : ℕ) → F (side_word bits)
unfolding side_word when◌then◌else◌
side F l r bits = cases (eqb (bits % 2) 0) (λ e. rw e l) (λ e. rw e r)

-- ---- the search
module _ (code n : ℕ) (t : List ℕ) (F : ℕ → Type 0) (root : F root_word) (left : F left_word) (right : F right_word) where
  abbrev Before : Seeking → Type 0
  Before (seeking bits place field) = (place < n) × F field

  -- what is known of the link at which it ends
  pub record Ends (s : Slot) : Type 0 where
    pub here : s.place < n
    pub link : F s.field
    pub leads : s.child ≡ follow s.place s.field n t
    pub at : (s.child ≡ 0 → ⊥) → word t s.child step_word ≡ code

  abbrev ahead : Seeking → ℕ
  ahead (seeking bits place field) = n - place

  turn_ends : (s : Seeking) → Before s → Keeps Before Ends ahead (ahead s) (seek_turn code n t s)
  unfolding seek_turn seek_at when◌then◌else◌
  turn_ends (seeking bits place field) h =
      let child : ℕ = follow place field n t in
      cases (eqb child 0)
      (λ e. rw e (record { here = h.0; link = h.1; leads = sym (eqb-true child 0 e); at = λ z. absurd (z refl) }))
      (λ e. cases (eqb (word t child step_word) code)
      (λ d. rw (e, d) (record { here = h.0; link = h.1; leads = refl; at = λ z. eqb-true (word t child step_word) code d }))
      (λ d. let b = follow_below place field n t (eqb-false child 0 e) in rw (e, d) ((b.1, side F left right bits), omega (arith, b.0, b.1))))

  pub seek_ends : (place : ℕ) → place < n → n ≤ place_limit → Ends (seek place code n t)
  unfolding seek_from
  seek_ends place h m = holds_within (seek_turn code n t) seek_stop Before Ends ahead turn_ends turn_limit (seeking (code / 2) place root_word) (h, root) (omega arith)

-- what it finds is a place
pub seek_below : (code n : ℕ) (t : List ℕ) (place : ℕ) → place < n → n ≤ place_limit → (seek place code n t).child < n
seek_below code n t place h m =
    let e = seek_ends code n t (λ w. Unit {0}) tt tt tt place h m in
    let s : Slot = seek place code n t in
    rw e.leads (cases (eqb (follow s.place s.field n t) 0)
    (λ z. let o : follow s.place s.field n t ≡ 0 = eqb-true _ 0 z in omega arith)
    (λ z. (follow_below s.place s.field n t (eqb-false _ 0 z)).1))

-- one turn of it, in a loop that holds the child that its link leads to
module _ (code n : ℕ) (t : List ℕ) (bits place field child : ℕ) (r : Slot) (most : n ≤ place_limit) (here : place < n)
    (leads : child ≡ follow place field n t) (whole : seek_from code n t (seeking bits place field) ≡ r) where
  abbrev turn : Seeking → Turn Seeking Slot
  turn = seek_turn code n t

  abbrev Any : ℕ → Type 0
  Any field = Unit {0}

  ends_there : (s : Slot) → turn (seeking bits place field) ≡ done s → s ≡ r
  unfolding seek_from
  ends_there s e = sym (ends_within turn seek_stop (Before code n t Any tt tt tt) (Ends code n t Any tt tt tt) (ahead code n t Any tt tt tt)
      (turn_ends code n t Any tt tt tt) turn_limit (seeking bits place field) s (omega arith) e) ∙ whole

  pub seek_none : child ≡ 0 → slot 0 place field ≡ r
  unfolding seek_turn seek_at when◌then◌else◌
  seek_none z = ends_there (slot 0 place field) (rw (← leads, z))

  module _ (known : child ≡ 0 → ⊥) (step : ℕ) (at : step ≡ word t child step_word) where
    pub seek_found : step ≡ code → slot child place field ≡ r
    unfolding seek_turn seek_at when◌then◌else◌
    seek_found e = ends_there (slot child place field) (rw (← leads, ne_eqb child 0 known, ← at, eq-eqb step code e))

    pub seek_next : (next : ℕ) → (step ≡ code → ⊥) → next ≡ side_word bits → seek_from code n t (seeking (bits / 2) child next) ≡ r
    unfolding seek_from seek_turn seek_at when◌then◌else◌
    seek_next next d x =
        ap (λ (w : ℕ). seek_from code n t (seeking (bits / 2) child w)) x
        ∙ sym (goes_on_within turn seek_stop (Before code n t Any tt tt tt) (Ends code n t Any tt tt tt) (ahead code n t Any tt tt tt)
        (turn_ends code n t Any tt tt tt) turn_limit (seeking bits place field) (seeking (bits / 2) child (side_word bits)) (here, tt) (omega arith)
        (rw (← leads, ne_eqb child 0 known, ← at, ne_eqb step code d))) ∙ whole

-- ---- the search in another table, where the links that lead to a child lead to the same, with the same code: it ends at the same link
module _ (code n n' : ℕ) (t t' : List ℕ) (P : ℕ → ℕ → Type 0)
    (next : (q f : ℕ) → P q f → (follow q f n t ≡ 0 → ⊥)
    → (follow q f n' t' ≡ follow q f n t) × (word t' (follow q f n t) step_word ≡ word t (follow q f n t) step_word) × P (follow q f n t) left_word × P (follow q f n t) right_word) where
  abbrev led_to : Slot → ℕ
  led_to r = follow r.place r.field n' t'

  abbrev pub Again : Slot → Slot → Type 0
  Again r r' = P r.place r.field × (((led_to r ≡ 0 → ⊥) → word t' (led_to r) step_word ≡ code) → r' ≡ slot (led_to r) r.place r.field)

  again_from : (g bits q f : ℕ) → n - q < g → P q f → Again (turns (seek_turn code n t) seek_stop g (seeking bits q f)) (turns (seek_turn code n' t') seek_stop g (seeking bits q f))
  unfolding turns after seek_turn seek_at when◌then◌else◌
  again_from zero bits q f l p = absurd (omega arith)
  again_from (suc g) bits q f l p =
      let c : ℕ = follow q f n t in
      let c' : ℕ = follow q f n' t' in
      cases (eqb c 0)
      (λ e. rw e (
        p,
        λ h. cases (eqb c' 0)
            (λ d. let z : c' ≡ 0 = eqb-true c' 0 d in rw z)
            (λ d. rw (d, eq-eqb (word t' c' step_word) code (h (eqb-false c' 0 d)))),
      ))
      (λ e.
      let z : c ≡ 0 → ⊥ = eqb-false c 0 e in
      let x = next q f p z in
      let b = follow_below q f n t z in
      cases (eqb (word t c step_word) code)
      (λ d. rw (e, d, x.0, e, x.1, d) (p, λ h. refl))
      (λ d. rw (e, d, x.0, e, x.1, d) (again_from g (bits / 2) c (side_word bits) (omega (arith, b.0, b.1)) (side (P c) x.2 x.3 bits))))

  pub seek_again : (p : ℕ) → P p root_word → n ≤ place_limit → Again (seek p code n t) (seek p code n' t')
  unfolding seek_from
  seek_again p h m = again_from turn_limit (code / 2) p root_word (omega arith) h
