-- Steps that fit a kind, one more of them, and those that the parts of a value show.
use Rattle.std.specs.Prelude.{◌≡◌, refl, Bool, true, false, ◌&&◌, List, [], ◌∷◌, ◌++◌, ℕ, suc, ◌+◌, ◌≤◌, ◌<◌, eqb, length}
use Rattle.std.proofs.Common.{ap, sym, ◌∙◌, true≢false, arith, length-append, eqb-true, eq-eqb}
use Rattle.std.proofs.lemmas.Bool.{false≢true, eqb-false}
use Rattle.logic.specs.Test.{when◌then◌else◌}
use Rattle.logic.specs.laws.Test.{cases, both, neither}
use Rattle.model.specs.Kinds.{sequence_kind, map_kind, tuple_kind, union_kind, is_container, is_struct, Step, field, element, position, key, value, variant, same}
use Rattle.model.specs.Reading.{Parts, no_parts, cut_off, part}
use Rattle.model.specs.Tracing.{has}
use Rattle.model.specs.Census.{fixed_steps, steps_in, sight, sights}
use Rattle.equality.specs.laws.Base.{and_left, and_right, and_both, or_cases, same_true, same_refl}
use Rattle.equality.specs.laws.Proper.{part_fits, step_fits, is_proper, are_proper}
use Rattle.equality.specs.laws.tracing.Place.{has_sight}
use Rattle.equality.specs.laws.emission.InOrder.{step_back, step_back_lem, is_field_lem}
use Rattle.equality.specs.laws.census.Kind.{struct_is_container}

-- ---- steps that fit a kind, from number i on
unfoldable pub steps_fit : ℕ → ℕ → List Step → Bool
steps_fit k i [] = true
steps_fit k i (s ∷ ss) = step_fits k i s && steps_fit k (suc i) ss

-- a step may stand anywhere, or is the only one with its number
slot : {P : Type 0} (k i : ℕ) (s : Step) → step_fits k i s ≡ true → (((j : ℕ) → step_fits k j s ≡ true) → P) → (((r : Step) → step_fits k i r ≡ true → s ≡ r) → P) → P
unfolding step_back when◌then◌else◌
slot k i (field name) f anywhere alone = anywhere (λ j. f)
slot k i element f anywhere alone = alone λ r g. rw (eqb-true k sequence_kind (and_left (eqb k sequence_kind) (eqb i 0) f)) at (step_back_lem k i r g)
slot k i (position j) f anywhere alone =
    both (eqb k tuple_kind) (eqb j i) f λ a b. alone λ r g. ap position (eqb-true j i b) ∙ rw (eqb-true k tuple_kind a) at (step_back_lem k i r g)
slot k i key f anywhere alone =
    both (eqb k map_kind) (eqb i 0) f λ a b. alone λ r g. rw (eqb-true k map_kind a, eqb-true i 0 b) at (step_back_lem k i r g)
slot k i value f anywhere alone =
    both (eqb k map_kind) (eqb i 1) f λ a b. alone λ r g. rw (eqb-true k map_kind a, eqb-true i 1 b) at (step_back_lem k i r g)
slot k i (variant number name) f anywhere alone = anywhere (λ j. f)

-- only a container has places below
step_container : (k i : ℕ) (s : Step) → step_fits k i s ≡ true → is_container k ≡ true
step_container k i (field name) f = struct_is_container k f
step_container k i element f = rw (eqb-true k sequence_kind (and_left (eqb k sequence_kind) (eqb i 0) f))
step_container k i (position j) f = rw (eqb-true k tuple_kind (and_left (eqb k tuple_kind) (eqb j i) f))
step_container k i key f = rw (eqb-true k map_kind (and_left (eqb k map_kind) (eqb i 0) f))
step_container k i value f = rw (eqb-true k map_kind (and_left (eqb k map_kind) (eqb i 1) f))
step_container k i (variant number name) f = rw (eqb-true k union_kind f)

pub no_steps : (k i : ℕ) (ss : List Step) → is_container k ≡ false → steps_fit k i ss ≡ true → ss ≡ []
unfolding steps_fit
no_steps k i [] c f = refl
no_steps k i (s ∷ ss) c f = absurd (true≢false (sym (step_container k i s (and_left (step_fits k i s) (steps_fit k (suc i) ss) f)) ∙ c))

-- the modes of a struct have the same steps
pub other_mode : (k h i : ℕ) (ss : List Step) → is_struct k ≡ true → is_struct h ≡ true → steps_fit k i ss ≡ true → steps_fit h i ss ≡ true
unfolding steps_fit
other_mode k h i [] p q f = refl
other_mode k h i (s ∷ ss) p q f =
    both (step_fits k i s) (steps_fit k (suc i) ss) f λ a b.
    and_both (ap (step_fits h i) (is_field_lem k i s p a) ∙ q) (other_mode k h (suc i) ss p q b)

-- ---- one more step
-- a step that is the only one with its number, at most that of the next, and is not there, comes next
comes_next : (k i j : ℕ) (s : Step) (ss : List Step) → ((r : Step) → step_fits k i r ≡ true → s ≡ r) → step_fits k i s ≡ true → steps_fit k j ss ≡ true → has s ss ≡ false
    → j ≤ i → i ≤ j + length ss → step_fits k (j + length ss) s ≡ true
unfolding steps_fit has
comes_next k i j s [] alone f g n l u = let e : i ≡ j + 0 = omega arith in rw e at f
comes_next k i j s (r ∷ ss) alone f g n l u =
    both (step_fits k j r) (steps_fit k (suc j) ss) g λ a b.
    neither (same s r) (has s ss) n λ x y.
    cases (eqb i j)
    (λ e. absurd (true≢false (sym (same_refl s) ∙ ap (same s) (alone r (rw (eqb-true i j e) a)) ∙ x)))
    (λ e.
    let z : i ≡ j → ⊥ = eqb-false i j e in
    let m : suc j + length ss ≡ j + suc (length ss) = omega arith in
    rw m at (comes_next k i (suc j) s ss alone f b y (omega arith) (omega arith)))

snoc_fits : (k i : ℕ) (s : Step) (ss : List Step) → steps_fit k i ss ≡ true → step_fits k (i + length ss) s ≡ true → steps_fit k i (ss ++ (s ∷ [])) ≡ true
unfolding steps_fit
snoc_fits k i s [] g f = let e : i + 0 ≡ i = omega arith in and_both (rw e at f) refl
snoc_fits k i s (r ∷ ss) g f =
    let m : i + suc (length ss) ≡ suc i + length ss = omega arith in
    both (step_fits k i r) (steps_fit k (suc i) ss) g λ a b. and_both a (snoc_fits k (suc i) s ss b (rw m at f))

-- so steps that fit still fit with one more
sight_fits : (k i : ℕ) (s : Step) (ss : List Step) → step_fits k i s ≡ true → i ≤ length ss → steps_fit k 0 ss ≡ true → steps_fit k 0 (sight s ss) ≡ true
unfolding sight when◌then◌else◌
sight_fits k i s ss f l g =
    cases (has s ss) (λ e. rw e g)
    (λ e. rw e (snoc_fits k 0 s ss g (slot k i s f (λ anywhere. anywhere _) (λ alone. comes_next k i 0 s ss alone f g e (omega arith) (omega arith)))))

longer : (s : Step) (ss : List Step) → length ss ≤ length (sight s ss)
unfolding sight when◌then◌else◌
longer s ss = cases (has s ss) (λ e. rw e (omega arith)) (λ e. rw (e, length-append ss (s ∷ [])) (omega arith))

-- ---- the parts of a value
-- the number that a step has
abbrev own : Step → ℕ
own (field name) = 0
own element = 0
own (position j) = j
own key = 0
own value = 1
own (variant number name) = 0

part_fits_lem : (k i : ℕ) (s : Step) → part_fits k i s ≡ true → step_fits k (own s) s ≡ true
part_fits_lem k i (field name) f = f
part_fits_lem k i element f = and_both f refl
part_fits_lem k i (position j) f = and_both (and_left (eqb k tuple_kind) (eqb j i) f) (eq-eqb j j refl)
part_fits_lem k i key f = and_both f refl
part_fits_lem k i value f = and_both f refl
part_fits_lem k i (variant number name) f = and_left (eqb k union_kind) (eqb i 0) f

-- whatever part i is, there is a place for it or it comes next
abbrev Room : ℕ → ℕ → List Step → Type 0
Room k i ss = (s : Step) → part_fits k i s ≡ true → own s ≤ length ss

tuple_part : (i : ℕ) (s : Step) → part_fits tuple_kind i s ≡ true → s ≡ position i
tuple_part i (field name) f = absurd (false≢true f)
tuple_part i element f = absurd (false≢true f)
tuple_part i (position j) f = ap position (eqb-true j i f)
tuple_part i key f = absurd (false≢true f)
tuple_part i value f = absurd (false≢true f)
tuple_part i (variant number name) f = absurd (false≢true f)

-- a position that is there lies within the length
position_within : (k i j : ℕ) (ss : List Step) → steps_fit k j ss ≡ true → has (position i) ss ≡ true → i < j + length ss
unfolding steps_fit has
position_within k i j [] f h = absurd (false≢true h)
position_within k i j (r ∷ ss) f h =
    both (step_fits k j r) (steps_fit k (suc j) ss) f λ a b.
    or_cases (same (position i) r) (has (position i) ss) h
    (λ e.
    let c : step_fits k j (position i) ≡ true = ap (step_fits k j) (same_true (position i) r e) ∙ a in
    let d : i ≡ j = eqb-true i j (and_right (eqb k tuple_kind) (eqb i j) c) in
    omega arith)
    (λ e. let l : i < suc j + length ss = position_within k i (suc j) ss b e in omega arith)

room_after : (k i : ℕ) (s : Step) (ss : List Step) → part_fits k i s ≡ true → steps_fit k 0 (sight s ss) ≡ true → Room k i ss → Room k (suc i) (sight s ss)
room_after k i s ss f g room (field name) h = omega arith
room_after k i s ss f g room element h = omega arith
room_after k i s ss f g room (position j) h =
    both (eqb k tuple_kind) (eqb j (suc i)) h λ a b.
    let e : s ≡ position i = tuple_part i s (rw (eqb-true k tuple_kind a) at f) in
    let l : i < 0 + length (sight s ss) = position_within k i 0 (sight s ss) g (ap (λ (r : Step). has r (sight s ss)) (sym e) ∙ has_sight s ss) in
    omega (arith, eqb-true j (suc i) b)
room_after k i s ss f g room key h = omega arith
room_after k i s ss f g room value h = omega (arith, room value h, longer s ss)
room_after k i s ss f g room (variant number name) h = omega arith

pub parts_fit : (o k n i : ℕ) (ps : Parts) (ss : List Step) → are_proper o k n i ps ≡ true → Room k i ss → steps_fit k 0 ss ≡ true → steps_fit k 0 (sights (steps_in ps) ss) ≡ true
unfolding is_proper steps_in sights
parts_fit o k n i no_parts ss p room g = g
parts_fit o k n i (cut_off l at) ss p room g = g
parts_fit o k n i (part at s v ps) ss p room g =
    both (part_fits k i s && is_proper o v) (are_proper o k n (suc i) ps) p λ q r.
    let f : part_fits k i s ≡ true = and_left (part_fits k i s) (is_proper o v) q in
    let h = sight_fits k (own s) s ss (part_fits_lem k i s f) (room s f) g in
    parts_fit o k n (suc i) ps (sight s ss) r (room_after k i s ss f h room) h

-- the places that a sequence and a map always have
seen_long : (s : Step) (ss : List Step) → 0 < length (sight s ss)
unfolding has
seen_long s ss = some_there (sight s ss) (has_sight s ss)
  where
    some_there : (rs : List Step) → has s rs ≡ true → 0 < length rs
    some_there [] h = absurd (false≢true h)
    some_there (r ∷ rs) h = omega arith

pub fixed_fit : (k : ℕ) (ss : List Step) → steps_fit k 0 ss ≡ true → steps_fit k 0 (sights (fixed_steps k) ss) ≡ true
unfolding fixed_steps sights when◌then◌else◌
fixed_fit k ss g =
    cases (eqb k sequence_kind) (λ e. rw e (sight_fits k 0 element ss (and_both e refl) (omega arith) g)) λ e.
    cases (eqb k map_kind)
    (λ f. rw (e, f) (sight_fits k 1 value (sight key ss) (and_both f refl) (seen_long key ss) (sight_fits k 0 key ss (and_both f refl) (omega arith) g)))
    (λ f. rw (e, f) g)

pub room_first : (k : ℕ) (ss : List Step) → Room k 0 (sights (fixed_steps k) ss)
unfolding fixed_steps sights when◌then◌else◌
room_first k ss (field name) h = omega arith
room_first k ss element h = omega arith
room_first k ss (position j) h = omega (arith, eqb-true j 0 (and_right (eqb k tuple_kind) (eqb j 0) h))
room_first k ss key h = omega arith
room_first k ss value h = rw (eqb-true k map_kind h) (seen_long value (sight key ss))
room_first k ss (variant number name) h = omega arith

-- a value of no container shows no step
nothing_fixed : (k : ℕ) (ss : List Step) → is_container k ≡ false → sights (fixed_steps k) ss ≡ ss
unfolding fixed_steps sights when◌then◌else◌
nothing_fixed k ss c =
    cases (eqb k sequence_kind) (λ e. absurd (true≢false (ap is_container (sym (eqb-true k sequence_kind e)) ∙ c))) λ e.
    cases (eqb k map_kind) (λ f. absurd (true≢false (ap is_container (sym (eqb-true k map_kind f)) ∙ c))) (λ f. rw (e, f))

pub shows_none : (o k n : ℕ) (ps : Parts) (ss : List Step) → is_container k ≡ false → are_proper o k n 0 ps ≡ true → sights (steps_in ps) (sights (fixed_steps k) ss) ≡ ss
unfolding is_proper steps_in sights
shows_none o k n no_parts ss c p = nothing_fixed k ss c
shows_none o k n (cut_off l at) ss c p = nothing_fixed k ss c
shows_none o k n (part at s v ps) ss c p =
    both (part_fits k 0 s && is_proper o v) (are_proper o k n 1 ps) p λ q _.
    absurd (true≢false (sym (step_container k (own s) s (part_fits_lem k 0 s (and_left (part_fits k 0 s) (is_proper o v) q))) ∙ c))
