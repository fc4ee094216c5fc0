-- A batch whose census knows at most 1,024 places is not refused for them: each place that tracing makes is one of which the census says
-- something, and no two of them are one.
use Rattle.std.specs.Prelude.{◌≡◌, Bool, false, ◌&&◌, ◌||◌, ℕ, suc, ◌+◌, ◌≤◌, length}
use Rattle.std.proofs.Math.Path.{refl, ap}
use Rattle.std.proofs.Common.{sym, ◌∙◌, true≢false, inl, inr, arith, eq-eqb}
use Rattle.std.proofs.Math.Bool.{true}
use Rattle.std.proofs.lemmas.Bool.{false≢true}
use mathlib.Core.List.{List, [], ◌∷◌, ◌++◌, append-nil}
use Rattle.std.proofs.Math.Option.{some}
use Rattle.logic.specs.Test.{when◌then◌else◌}
use Rattle.logic.specs.All.{All}
use Rattle.logic.specs.laws.Test.{cases, both}
use Rattle.refusal.specs.Number.{too_many_places}
use Rattle.model.specs.Result.{refused}
use Rattle.model.specs.Kinds.{Step, field, element, position, key, value, variant, same, variant_of, is_variant}
use Rattle.model.specs.Reading.{Value, val, cut, Parts, no_parts, cut_off, part, is_whole, are_whole, all_whole}
use Rattle.model.specs.Tracing.{Tree, node, Kids, no_kids, kid, fresh, place_limit, steps_of, has, renames, clashes, made, trace}
use Rattle.model.specs.Census.{Said, census, below, parts_of, parts_at, steps_in, steps_seen, sights, fixed_steps, kind_in, is_lacking}
use Rattle.model.specs.Bound.{unnamed, without_names, Among, AtMost}
use Rattle.equality.specs.laws.Base.{and_right, and_both, or_cases, same_true, same_refl}
use Rattle.equality.specs.laws.Proper.{kind_fits, part_fits, is_proper, are_proper, all_proper}
use Rattle.equality.specs.laws.census.Standing.{below_append}
use Rattle.equality.specs.laws.tracing.Place.{or_true, or_false, has_sights_is, made_fixed}
use Rattle.equality.specs.laws.tracing.Acceptance.{seen_append}
use Rattle.equality.specs.laws.tracing.Held.{taken, Below, Held, HeldIn, Covers, CoversIn, crowd_all}
use Rattle.equality.specs.laws.tracing.Count.{size, sizes}

-- ---- places that are held are no more than the list that holds them
-- of a list, what stands behind a step, and the others
unfoldable behind : Step → List (List Step) → List (List Step)
behind s [] = []
behind s ([] ∷ ls) = behind s ls
behind s ((r ∷ l) ∷ ls) = when same s r then l ∷ behind s ls else behind s ls

unfoldable others : Step → List (List Step) → List (List Step)
others s [] = []
others s ([] ∷ ls) = [] ∷ others s ls
others s ((r ∷ l) ∷ ls) = when same s r then others s ls else (r ∷ l) ∷ others s ls

parted : (s : Step) (ls : List (List Step)) → length (behind s ls) + length (others s ls) ≡ length ls
unfolding behind others when◌then◌else◌
parted s [] = refl
parted s ([] ∷ ls) = omega (arith, parted s ls)
parted s ((r ∷ l) ∷ ls) = cases (same s r) (λ e. rw e (omega (arith, parted s ls))) (λ e. rw e (omega (arith, parted s ls)))

cons_not_nil : {s : Step} {l : List Step} → s ∷ l ≡ [] → ⊥
cons_not_nil e = let z : ◌≡◌ {A = ℕ} 1 0 = ap (λ (x : List Step). one x) e in omega arith
  where
    one : List Step → ℕ
    one [] = 0
    one (s ∷ l) = 1

among_behind : (s : Step) (l : List Step) (ls : List (List Step)) → Among (s ∷ l) ls → Among l (behind s ls)
unfolding Among behind when◌then◌else◌
among_behind s l [] i = i
among_behind s l ([] ∷ ls) (inl e) = absurd (cons_not_nil e)
among_behind s l ([] ∷ ls) (inr i) = among_behind s l ls i
among_behind s l ((r ∷ k) ∷ ls) (inl e) = let a : s ≡ r = cc in let b : l ≡ k = cc in rw (← a, same_refl s) (inl b)
among_behind s l ((r ∷ k) ∷ ls) (inr i) = cases (same s r) (λ e. rw e (inr (among_behind s l ls i))) (λ e. rw e (among_behind s l ls i))

among_others : (s r : Step) (l : List Step) (ls : List (List Step)) → same s r ≡ false → Among (r ∷ l) ls → Among (r ∷ l) (others s ls)
unfolding Among others when◌then◌else◌
among_others s r l [] f i = i
among_others s r l ([] ∷ ls) f (inl e) = absurd (cons_not_nil e)
among_others s r l ([] ∷ ls) f (inr i) = inr (among_others s r l ls f i)
among_others s r l ((q ∷ k) ∷ ls) f (inl e) = let a : r ≡ q = cc in let g : same s q ≡ false = rw a at f in rw g (inl e)
among_others s r l ((q ∷ k) ∷ ls) f (inr i) = cases (same s q) (λ e. rw e (among_others s r l ls f i)) (λ e. rw e (inr (among_others s r l ls f i)))

root_others : (s : Step) (ls : List (List Step)) → Among [] ls → Among [] (others s ls)
unfolding Among others when◌then◌else◌
root_others s [] i = i
root_others s ([] ∷ ls) (inl e) = inl e
root_others s ([] ∷ ls) (inr i) = inr (root_others s ls i)
root_others s ((q ∷ k) ∷ ls) (inl e) = absurd (cons_not_nil (sym e))
root_others s ((q ∷ k) ∷ ls) (inr i) = cases (same s q) (λ e. rw e (root_others s ls i)) (λ e. rw e (inr (root_others s ls i)))

some_there : (ls : List (List Step)) → Among [] ls → 1 ≤ length ls
unfolding Among
some_there [] i = absurd i
some_there (l ∷ ls) i = omega arith

-- what does not ask for a variant's name is the same of both
kept : {A : Type 0} (f : Step → A) → ((number : ℕ) (name : List ℕ) → f (variant number []) ≡ f (variant number name)) → (s : Step) → f (unnamed s) ≡ f s
kept f e (field name) = refl
kept f e element = refl
kept f e (position i) = refl
kept f e key = refl
kept f e value = refl
kept f e (variant number name) = e number name

-- and so the same of two steps that lead to one place
both_kept : {A : Type 0} (f : Step → A) → ((number : ℕ) (name : List ℕ) → f (variant number []) ≡ f (variant number name)) → (s r : Step) →
    unnamed s ≡ unnamed r → f s ≡ f r
both_kept f e s r h = sym (kept f e s) ∙ ap f h ∙ kept f e r

itself : (s : Step) → is_variant s ≡ false → unnamed s ≡ s
itself (field name) e = refl
itself element e = refl
itself (position i) e = refl
itself key e = refl
itself value e = refl
itself (variant number name) e = absurd (true≢false e)

-- steps that lead to one place are the same, or name a variant otherwise
one_place : (s r : Step) → unnamed s ≡ unnamed r → (same s r || renames s r) ≡ true
one_place s r e = cases (same s r) (λ f. ap (λ (b : Bool). b || renames s r) f) (λ f. ap (λ (b : Bool). same s r || b) (otherwise s r e f) ∙ or_true (same s r))
  where
    numbers : (s r : Step) → unnamed s ≡ unnamed r → variant_of s ≡ variant_of r
    numbers s r e = both_kept variant_of (λ number name. refl) s r e

    alike : (s r : Step) → unnamed s ≡ unnamed r → is_variant s ≡ is_variant r
    alike s r e = both_kept is_variant (λ number name. refl) s r e

    -- what is no variant is its own place
    both_variants : (s r : Step) → unnamed s ≡ unnamed r → same s r ≡ false → (is_variant s && is_variant r) ≡ true
    both_variants s r e f =
        cases (is_variant s)
        (λ g. rw (← (alike s r e), g) refl)
        (λ g. absurd (true≢false (sym (same_refl s) ∙ ap (same s) (sym (itself s g) ∙ e ∙ itself r (sym (alike s r e) ∙ g)) ∙ f)))

    otherwise : (s r : Step) → unnamed s ≡ unnamed r → same s r ≡ false → renames s r ≡ true
    otherwise s r e f = and_both (both_variants s r e f) (and_both (eq-eqb (variant_of s) (variant_of r) (numbers s r e)) (rw f refl))

there : (s r : Step) (ss : List Step) → (same s r || renames s r) ≡ true → has r ss ≡ true → taken s ss ≡ true
unfolding has clashes
there s r [] e h = absurd (false≢true h)
there s r (q ∷ ss) e h =
    or_cases (same r q) (has r ss) h
    (λ f. here (same s q) (renames s q) (has s ss) (clashes s ss) (rw (same_true r q f) at e))
    (λ f. later (same s q) (renames s q) (has s ss) (clashes s ss) (there s r ss e f))
  where
    here : (a b c d : Bool) → (a || b) ≡ true → ((a || c) || (b || d)) ≡ true
    here true b c d e = refl
    here false b c d e = rw e (or_true c)

    later : (a b c d : Bool) → (c || d) ≡ true → ((a || c) || (b || d)) ≡ true
    later true b c d e = refl
    later false true c d e = or_true c
    later false false c d e = e

taken_rest : (s r : Step) (ss : List Step) → taken s (r ∷ ss) ≡ false → taken s ss ≡ false
unfolding has clashes
taken_rest s r ss x = rest (same s r) (renames s r) (has s ss) (clashes s ss) x
  where
    rest : (a b c d : Bool) → ((a || c) || (b || d)) ≡ false → (c || d) ≡ false
    rest true b c d e = absurd (true≢false e)
    rest false true c d e = absurd (true≢false (sym (or_true c) ∙ e))
    rest false false c d e = e

taken_apart : (s r : Step) (ss : List Step) → taken s ss ≡ false → has r ss ≡ true → same (unnamed s) (unnamed r) ≡ false
taken_apart s r ss x h =
    cases (same (unnamed s) (unnamed r))
    (λ e. absurd (false≢true (sym x ∙ there s r ss (one_place s r (same_true (unnamed s) (unnamed r) e)) h)))
    (λ e. e)

mutual
  unfolding Held

  held_map : (S R : List Step → Type 0) → ((l : List Step) → S l → R l) → (t : Tree) → Held S t → Held R t
  held_map S R f (node b k n ks) h = held_maps S R f ks h

  held_maps : (S R : List Step → Type 0) → ((l : List Step) → S l → R l) → (ks : Kids) → HeldIn S ks → HeldIn R ks
  held_maps S R f no_kids h = tt
  held_maps S R f (kid s n t ks) h = (f (s ∷ []) h.0, h.1, held_map (Below s S) (Below s R) (λ l i. f (s ∷ l) i) t h.2, held_maps S R f ks h.3)

-- these lists, as places that may be
abbrev In : List (List Step) → List Step → Type 0
In ls steps = Among (without_names steps) ls

-- kids at other places than a step's
held_others : (s : Step) (ks : Kids) (ls : List (List Step)) → taken s (steps_of ks) ≡ false → HeldIn (In ls) ks → HeldIn (In (others (unnamed s) ls)) ks
unfolding Held without_names steps_of has clashes
held_others s no_kids ls x h = tt
held_others s (kid r n t ks) ls x h =
    let apart = taken_apart s r (r ∷ steps_of ks) x (rw same_refl refl) in (
      among_others (unnamed s) (unnamed r) [] ls apart h.0,
      h.1,
      held_map (Below r (In ls)) (Below r (In (others (unnamed s) ls))) (λ l i. among_others (unnamed s) (unnamed r) (without_names l) ls apart i) t h.2,
      held_others s ks ls (taken_rest s r (steps_of ks) x) h.3,
    )

mutual
  unfolding Held size without_names

  count : (t : Tree) (ls : List (List Step)) → Held (In ls) t → Among [] ls → size t ≤ length ls
  count (node b k n ks) ls h root = counts ks ls h root

  counts : (ks : Kids) (ls : List (List Step)) → HeldIn (In ls) ks → Among [] ls → suc (sizes ks) ≤ length ls
  counts no_kids ls h root = some_there ls root
  counts (kid s n t ks) ls h root =
      let here : Among (unnamed s ∷ []) ls = h.0 in
      let down = held_map (Below s (In ls)) (In (behind (unnamed s) ls)) (λ l i. among_behind (unnamed s) (without_names l) ls i) t h.2 in
      omega (
        arith,
        count t (behind (unnamed s) ls) down (among_behind (unnamed s) [] ls here),
        counts ks (others (unnamed s) ls) (held_others s ks ls h.1 h.3) (root_others (unnamed s) ls root),
        parted (unnamed s) ls,
      )

-- ---- what the census says something of
unfoldable seen : List Step → List Value → Bool
seen [] vs = true
seen (s ∷ steps) vs = has s (steps_seen vs []) && seen steps (below s vs)

seen_said : (o : ℕ) (steps : List Step) (lacking : Bool) (vs : List Value) → seen steps vs ≡ true → (said : Said) × (census o steps lacking vs ≡ some said)
unfolding seen census when◌then◌else◌
seen_said o [] lacking vs e = (_, refl)
seen_said o (s ∷ steps) lacking vs e =
    both (has s (steps_seen vs [])) (seen steps (below s vs)) e λ h i. rw h (seen_said o steps (is_lacking o s vs) (below s vs) i)

-- is still so with other values about
has_seen : (s : Step) (vs : List Value) (ss : List Step) → has s (steps_seen vs ss) ≡ (has s ss || has s (steps_seen vs []))
unfolding steps_seen has
has_seen s [] ss = sym (or_false (has s ss))
has_seen s (v ∷ vs) ss =
    let f : List Step = fixed_steps (kind_in v) in
    let p : List Step = steps_in (parts_of v) in
    rw (has_seen s vs (sights p (sights f ss)), has_seen s vs (sights p (sights f [])), has_sights_is s p (sights f ss), has_sights_is s f ss, has_sights_is s p (sights f []), has_sights_is s f [])
    (three (has s ss) (has s f) (has s p) (has s (steps_seen vs [])))
  where
    three : (a b c d : Bool) → (((a || b) || c) || d) ≡ (a || (((false || b) || c) || d))
    three true b c d = refl
    three false b c d = refl

seen_before : (steps : List Step) (vs ws : List Value) → seen steps vs ≡ true → seen steps (vs ++ ws) ≡ true
unfolding seen
seen_before [] vs ws e = refl
seen_before (s ∷ steps) vs ws e =
    both (has s (steps_seen vs [])) (seen steps (below s vs)) e λ h i.
    let there : has s (steps_seen (vs ++ ws) []) ≡ true = rw (seen_append vs ws [], has_seen s ws (steps_seen vs []), h) refl in
    and_both there (rw (below_append s vs ws) (seen_before steps (below s vs) (below s ws) i))

seen_after : (steps : List Step) (vs ws : List Value) → seen steps ws ≡ true → seen steps (vs ++ ws) ≡ true
unfolding seen
seen_after [] vs ws e = refl
seen_after (s ∷ steps) vs ws e =
    both (has s (steps_seen ws [])) (seen steps (below s ws)) e λ h i.
    let there : has s (steps_seen (vs ++ ws) []) ≡ true = rw (seen_append vs ws [], has_seen s ws (steps_seen vs []), h) (or_true (has s (steps_seen vs []))) in
    and_both there (rw (below_append s vs ws) (seen_after steps (below s vs) (below s ws) i))

-- of a value: what it makes at its own command, and what stands in its parts
module _ (o at : ℕ) (b : Bool) (k n : ℕ) (ps : Parts) where
  seen_made : (before : ℕ) (s : Step) → has s (made k n before) ≡ true → are_whole ps ≡ true → are_proper o k n 0 ps ≡ true → seen (s ∷ []) (val at b k n ps ∷ []) ≡ true
  unfolding seen steps_seen
  seen_made before s h w p =
      let there : has s (sights (steps_in ps) (sights (made k n before) [])) ≡ true =
      has_sights_is s (steps_in ps) (sights (made k n before) [])
      ∙ ap (λ (x : Bool). x || has s (steps_in ps)) (has_sights_is s (made k n before) [] ∙ ap (λ (x : Bool). has s [] || x) h ∙ or_true (has s [])) in
      and_both (rw (made_fixed o k n ps before [] w p) at there) refl

  seen_part : (s : Step) (steps : List Step) → has s (steps_in ps) ≡ true → seen steps (parts_at s ps) ≡ true → seen (s ∷ steps) (val at b k n ps ∷ []) ≡ true
  unfolding seen steps_seen below
  seen_part s steps h i =
      and_both (has_sights_is s (steps_in ps) (sights (fixed_steps k) []) ∙ ap (λ (x : Bool). has s (sights (fixed_steps k) []) || x) h ∙ or_true (has s (sights (fixed_steps k) [])))
      (rw (append-nil (parts_at s ps)) i)

module _ (at : ℕ) (s : Step) (v : Value) (ps : Parts) where
  part_first : has s (steps_in (part at s v ps)) ≡ true
  unfolding has steps_in
  part_first = rw (same_refl s) refl

  part_later : (r : Step) → has r (steps_in ps) ≡ true → has r (steps_in (part at s v ps)) ≡ true
  unfolding has steps_in
  part_later r h = rw h (or_true (same r s))

  seen_first : (steps : List Step) → seen steps (v ∷ []) ≡ true → seen steps (parts_at s (part at s v ps)) ≡ true
  unfolding parts_at when◌then◌else◌
  seen_first steps e = rw (same_refl s) (seen_before steps (v ∷ []) (parts_at s ps) e)

  seen_later : (r : Step) (steps : List Step) → seen steps (parts_at r ps) ≡ true → seen steps (parts_at r (part at s v ps)) ≡ true
  unfolding parts_at when◌then◌else◌
  seen_later r steps e = cases (same r s) (λ g. rw g (seen_after steps (v ∷ []) (parts_at r ps) e)) (λ g. rw g e)

seen_here : (vs : List Value) → seen [] vs ≡ true
unfolding seen
seen_here vs = refl

-- a value makes no place but such
mutual
  unfolding Covers is_whole is_proper

  covers_value : (S : List Step → Type 0) (o : ℕ) (v : Value) → is_whole v ≡ true → is_proper o v ≡ true
      → ((steps : List Step) → seen steps (v ∷ []) ≡ true → S steps) → Covers S v
  covers_value S o (cut n at) w p f = tt
  covers_value S o (val at b k n ps) w p f =
      let proper = and_right (kind_fits o k) (are_proper o k n 0 ps) p in (
        λ before s h. f (s ∷ []) (seen_made o at b k n ps before s h w proper),
        covers_parts S o k n 0 ps w proper (λ s h steps i. f (s ∷ steps) (seen_part o at b k n ps s steps h i)),
      )

  covers_parts : (S : List Step → Type 0) (o k n i : ℕ) (ps : Parts) → are_whole ps ≡ true → are_proper o k n i ps ≡ true
      → ((s : Step) → has s (steps_in ps) ≡ true → (steps : List Step) → seen steps (parts_at s ps) ≡ true → S (s ∷ steps)) → CoversIn S ps
  covers_parts S o k n i no_parts w p f = tt
  covers_parts S o k n i (cut_off m at) w p f = tt
  covers_parts S o k n i (part at s v ps) w p f =
      both (is_whole v) (are_whole ps) w λ w₁ w₂.
      both (part_fits k i s && is_proper o v) (are_proper o k n (suc i) ps) p λ p₁ p₂.
      let there = part_first at s v ps in (
        f s there [] (seen_here (parts_at s (part at s v ps))),
        covers_value (Below s S) o v w₁ (and_right (part_fits k i s) (is_proper o v) p₁) (λ steps e. f s there steps (seen_first at s v ps steps e)),
        covers_parts S o k n (suc i) ps w₂ p₂ (λ r h steps e. f r (part_later at s v ps r h) steps (seen_later at s v ps r steps e)),
      )

covers_all : (S : List Step → Type 0) (o : ℕ) (vs : List Value) → all_whole vs ≡ true → all_proper o vs ≡ true
    → ((steps : List Step) → seen steps vs ≡ true → S steps) → All (Covers S) vs
unfolding all_whole all_proper
covers_all S o [] w p f = tt
covers_all S o (v ∷ vs) w p f =
    both (is_whole v) (all_whole vs) w λ w₁ w₂.
    both (is_proper o v) (all_proper o vs) p λ p₁ p₂.
    (covers_value S o v w₁ p₁ (λ steps e. f steps (seen_before steps (v ∷ []) vs e)), covers_all S o vs w₂ p₂ (λ steps e. f steps (seen_after steps (v ∷ []) vs e)))

-- ---- so that there is room for a batch with at most 1,024 places
pub room_enough : (o : ℕ) (vs : List Value) (p : ℕ) → all_whole vs ≡ true → all_proper o vs ≡ true → AtMost place_limit o vs → trace o vs ≡ refused too_many_places p → ⊥
unfolding trace Held without_names size
room_enough o vs p w proper few e =
    let ls : List (List Step) = few.places in
    let said : (steps : List Step) → seen steps vs ≡ true → In ls steps = λ steps i. let (x, is) = seen_said o steps false vs i in few.hold steps x is in
    let crowd = crowd_all (In ls) o 0 vs 1 fresh p w (covers_all (In ls) o vs w proper said) tt e in
    let room = counts crowd.kids ls crowd.held (said [] (seen_here vs)) in
    omega (arith, room, crowd.many, few.few)
