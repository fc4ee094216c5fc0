-- Laws of the three sortings of steps and places: steps as a set, places by their steps, variants by their numbers.
use Rattle.std.specs.Prelude.{◌≡◌, refl, Bool, true, false, not, ◌&&◌, ◌||◌, List, [], ◌∷◌, ℕ, ◌≤◌, eqb, ltb}
use Rattle.std.proofs.Common.{ap, ap₂, sym, ◌∙◌, true≢false, arith, ltb-false, lt-ltb}
use Rattle.std.proofs.lemmas.Bool.{false≢true, eqb-false}
use Rattle.std.proofs.Math.Option.{Option, none, some}
use Rattle.logic.specs.Test.{when◌then◌else◌}
use Rattle.logic.specs.laws.Test.{cases, both, neither}
use Rattle.text.specs.Name.{lt_name}
use Rattle.text.specs.laws.Name.{lt_name_irreflexive, lt_name_transitive, lt_name_asymmetric, lt_name_total}
use Rattle.model.specs.Kinds.{Step, step_code, same, variant_of, is_variant}
use Rattle.model.specs.Tracing.{has, renames, clashes}
use Rattle.model.specs.Emission.{Place, Places, none_below, below, insert_variant, by_number}
use Rattle.model.specs.Census.{insert_step, as_set}
use Rattle.equality.specs.laws.Base.{and_left, and_right, and_both, or_left_false, or_right_false, or_cases, not_is_true, same_true, same_refl, same_sym}
use Rattle.equality.specs.laws.Proper.{steps_below}
use Rattle.equality.specs.laws.emission.Canon.{insert_place, in_order}

-- ---- the order of steps
abbrev pub precedes : Step → Step → Bool
precedes s r = lt_name (step_code s) (step_code r)

precedes_not_same : (s r : Step) → precedes s r ≡ true → same s r ≡ false
precedes_not_same s r h =
    cases (same s r) (λ e. absurd (true≢false (sym h ∙ rw (same_true s r e) (lt_name_irreflexive (step_code r))))) (λ e. e)

-- of two unlike steps one precedes the other
either : (s r : Step) → same s r ≡ false → precedes s r ≡ false → precedes r s ≡ true
unfolding same
either s r = lt_name_total (step_code s) (step_code r)

pub or_swap : (a b c : Bool) → (a || (b || c)) ≡ (b || (a || c))
or_swap true true c = refl
or_swap true false c = refl
or_swap false b c = refl

-- no step stands twice
unfoldable pub distinct : List Step → Bool
distinct [] = true
distinct (s ∷ ss) = not (has s ss) && distinct ss

-- ---- a set of steps
pub has_insert : (a s : Step) (ss : List Step) → has a (insert_step s ss) ≡ (same a s || has a ss)
unfolding insert_step has when◌then◌else◌
has_insert a s [] = refl
has_insert a s (r ∷ ss) =
    cases (precedes r s) (λ e. rw (e, has, has_insert a s ss) (or_swap (same a r) (same a s) (has a ss))) (λ e. rw e)

pub has_set : (a : Step) (ss : List Step) → has a (as_set ss) ≡ has a ss
unfolding as_set has
has_set a [] = refl
has_set a (s ∷ ss) = rw (has_insert a s (as_set ss), has_set a ss)

swap_apart : (e a b c : Bool) → (not (e || a) && (not b && c)) ≡ (not (e || b) && (not a && c))
swap_apart true a b c = refl
swap_apart false true true c = refl
swap_apart false true false c = refl
swap_apart false false true c = refl
swap_apart false false false c = refl

distinct_insert : (s : Step) (ss : List Step) → distinct (insert_step s ss) ≡ (not (has s ss) && distinct ss)
unfolding insert_step distinct has when◌then◌else◌
distinct_insert s [] = refl
distinct_insert s (r ∷ ss) =
    cases (precedes r s)
    (λ e. rw (e, distinct, has_insert r s ss, distinct_insert s ss, same_sym r s) (swap_apart (same s r) (has r ss) (has s ss) (distinct ss)))
    (λ e. rw e)

pub distinct_set : (ss : List Step) → distinct (as_set ss) ≡ distinct ss
unfolding as_set distinct
distinct_set [] = refl
distinct_set (s ∷ ss) = rw (distinct_insert s (as_set ss), has_set s ss, distinct_set ss)

-- ---- steps in order: none is preceded by the next
unfoldable pub leads : Step → List Step → Bool
leads s [] = true
leads s (r ∷ ss) = not (precedes r s)

unfoldable pub ordered : List Step → Bool
ordered [] = true
ordered (s ∷ ss) = leads s ss && ordered ss

leads_insert : (r s : Step) (ss : List Step) → precedes s r ≡ false → leads r ss ≡ true → leads r (insert_step s ss) ≡ true
unfolding leads insert_step when◌then◌else◌
leads_insert r s [] h k = rw h
leads_insert r s (q ∷ ss) h k = cases (precedes q s) (λ e. rw (e, leads) k) (λ e. rw (e, leads, h))

ordered_insert : (s : Step) (ss : List Step) → ordered ss ≡ true → ordered (insert_step s ss) ≡ true
unfolding leads ordered insert_step when◌then◌else◌
ordered_insert s [] h = refl
ordered_insert s (r ∷ ss) h =
    cases (precedes r s)
    (λ e. rw (e, ordered) (and_both (leads_insert r s ss (lt_name_asymmetric (step_code r) (step_code s) e) (and_left (leads r ss) (ordered ss) h))
    (ordered_insert s ss (and_right (leads r ss) (ordered ss) h))))
    (λ e. rw (e, ordered) (and_both (ap not e) h))

pub ordered_set : (ss : List Step) → ordered (as_set ss) ≡ true
unfolding as_set ordered
ordered_set [] = refl
ordered_set (s ∷ ss) = ordered_insert s (as_set ss) (ordered_set ss)

-- ---- a set has one list in order
-- a step that is not preceded by another is not preceded by any that this one does not follow
leads_on : (s r q : Step) → precedes r s ≡ false → precedes q r ≡ false → precedes q s ≡ false
leads_on s r q h k =
    cases (precedes q s)
    (λ e.
    cases (same s r) (λ f. absurd (true≢false (sym e ∙ (rw (same_true s r f) k))))
    (λ f. absurd (true≢false (sym (lt_name_transitive (step_code q) (step_code s) (step_code r) e (either r s (same_sym r s ∙ f) h)) ∙ k))))
    (λ e. e)

first_of : (s r : Step) (ss : List Step) → leads s ss ≡ true → ordered ss ≡ true → has r ss ≡ true → precedes r s ≡ false
unfolding leads ordered has
first_of s r [] h k m = absurd (false≢true m)
first_of s r (q ∷ ss) h k m =
    or_cases (same r q) (has r ss) m (λ e. rw (same_true r q e) (not_is_true (precedes q s) h))
    (λ e. both (leads q ss) (ordered ss) k λ a b. leads_on s q r (not_is_true (precedes q s) h) (first_of q r ss a b e))

-- ordered lists without repetition that have the same members are equal
pub one_list : (xs ys : List Step) → ordered xs ≡ true → ordered ys ≡ true → distinct xs ≡ true → distinct ys ≡ true → ((a : Step) → has a xs ≡ has a ys) → xs ≡ ys
unfolding has ordered distinct
one_list [] [] h k c d m = refl
one_list [] (y ∷ ys) h k c d m = absurd (false≢true (m y ∙ rw same_refl))
one_list (x ∷ xs) [] h k c d m = absurd (false≢true (sym (m x) ∙ rw same_refl))
one_list (x ∷ xs) (y ∷ ys) h k c d m =
    both (leads x xs) (ordered xs) h λ h1 h2.
    both (leads y ys) (ordered ys) k λ k1 k2.
    both (not (has x xs)) (distinct xs) c λ c1 c2.
    both (not (has y ys)) (distinct ys) d λ d1 d2.
    let e : same x y ≡ true = cases (same x y) (λ e. e) (λ f.
    let p : has x ys ≡ true = rw (same_refl x, f) at (sym (m x)) in
    let q : has y xs ≡ true = rw (same_refl y, same_sym y x, f) at (m y) in
    absurd (true≢false (sym (either x y f (first_of y x ys k1 k2 p)) ∙ first_of x y xs h1 h2 q))) in
    let z = same_true x y e in
    let t : (a : Step) → has a xs ≡ has a ys = λ a. cases (same a x)
    (λ g. let w = same_true a x g in rw w (not_is_true (has x xs) c1 ∙ sym (rw z (not_is_true (has y ys) d1))))
    (λ g. rw (← z, g) at (m a)) in
    ap₂ ◌∷◌ z (one_list xs ys h2 k2 c2 d2 t)

-- the same members make the same set
pub same_set : (xs ys : List Step) → distinct xs ≡ true → distinct ys ≡ true → ((a : Step) → has a xs ≡ has a ys) → as_set xs ≡ as_set ys
same_set xs ys c d m =
    one_list (as_set xs) (as_set ys) (ordered_set xs) (ordered_set ys) (distinct_set xs ∙ c) (distinct_set ys ∙ d) (λ a. has_set a xs ∙ m a ∙ sym (has_set a ys))

-- ---- places in the order of their steps
pub steps_insert : (s : Step) (p : Place) (ps : Places) → steps_below (insert_place s p ps) ≡ insert_step s (steps_below ps)
unfolding insert_place insert_step steps_below when◌then◌else◌
steps_insert s p none_below = refl
steps_insert s p (below r q ps) = cases (precedes r s) (λ e. rw (e, steps_below) (ap (λ (ss : List Step). r ∷ ss) (steps_insert s p ps))) (λ e. rw (e, steps_below))

pub steps_in_order : (ps : Places) → steps_below (in_order ps) ≡ as_set (steps_below ps)
unfolding in_order steps_below as_set
steps_in_order none_below = refl
steps_in_order (below s p ps) = steps_insert s p (in_order ps) ∙ ap (insert_step s) (steps_in_order ps)

insert_first : (s : Step) (p : Place) (ps : Places) → leads s (steps_below ps) ≡ true → insert_place s p ps ≡ below s p ps
unfolding leads insert_place steps_below when◌then◌else◌
insert_first s p none_below h = refl
insert_first s p (below r q ps) h = rw (not_is_true (precedes r s) h, insert_place)

pub in_order_already : (ps : Places) → ordered (steps_below ps) ≡ true → in_order ps ≡ ps
unfolding ordered in_order steps_below
in_order_already none_below h = refl
in_order_already (below s p ps) h =
    both (leads s (steps_below ps)) (ordered (steps_below ps)) h λ a b. rw (in_order_already ps b) (insert_first s p ps a)

-- the place at a step, where there is one
unfoldable pub find : Step → Places → Option Place
find a none_below = none
find a (below s p ps) = when same a s then some p else find a ps

pub find_insert : (a s : Step) (p : Place) (ps : Places) → find a (insert_place s p ps) ≡ (when same a s then some p else find a ps)
unfolding find insert_place when◌then◌else◌
find_insert a s p none_below = refl
find_insert a s p (below r q ps) =
    cases (precedes r s)
    (λ e. rw (e, find, find_insert a s p ps) (cases (same a r)
    (λ f. let g : same a s ≡ false = rw (same_true a r f) (precedes_not_same r s e) in rw (f, g))
    (λ f. rw f)))
    (λ e. rw e)

pub find_in_order : (a : Step) (ps : Places) → find a (in_order ps) ≡ find a ps
unfolding find in_order
find_in_order a none_below = refl
find_in_order a (below s p ps) = find_insert a s p (in_order ps) ∙ ap (λ (o : Option Place). when same a s then some p else o) (find_in_order a ps)

-- ---- variants by their numbers
pub has_insert_variant : (a s : Step) (p : Place) (ps : Places) → has a (steps_below (insert_variant s p ps)) ≡ (same a s || has a (steps_below ps))
unfolding insert_variant steps_below has when◌then◌else◌
has_insert_variant a s p none_below = refl
has_insert_variant a s p (below r q ps) =
    cases (ltb (variant_of s) (variant_of r)) (λ e. rw e)
    (λ e. rw (e, steps_below, has, has_insert_variant a s p ps) (or_swap (same a r) (same a s) (has a (steps_below ps))))

pub has_by_number : (a : Step) (ps : Places) → has a (steps_below (by_number ps)) ≡ has a (steps_below ps)
unfolding by_number steps_below has
has_by_number a none_below = refl
has_by_number a (below s p ps) = rw (has_insert_variant a s p (by_number ps), has_by_number a ps)

distinct_insert_variant : (s : Step) (p : Place) (ps : Places) → distinct (steps_below (insert_variant s p ps)) ≡ (not (has s (steps_below ps)) && distinct (steps_below ps))
unfolding insert_variant steps_below distinct has when◌then◌else◌
distinct_insert_variant s p none_below = refl
distinct_insert_variant s p (below r q ps) =
    cases (ltb (variant_of s) (variant_of r)) (λ e. rw e)
    (λ e. rw (e, steps_below, distinct, has_insert_variant r s p ps, distinct_insert_variant s p ps, same_sym r s)
    (swap_apart (same s r) (has r (steps_below ps)) (has s (steps_below ps)) (distinct (steps_below ps))))

pub distinct_by_number : (ps : Places) → distinct (steps_below (by_number ps)) ≡ distinct (steps_below ps)
unfolding by_number steps_below distinct
distinct_by_number none_below = refl
distinct_by_number (below s p ps) = rw (distinct_insert_variant s p (by_number ps), has_by_number s ps, distinct_by_number ps)

pub set_by_number : (ps : Places) → distinct (steps_below ps) ≡ true → as_set (steps_below (by_number ps)) ≡ as_set (steps_below ps)
set_by_number ps d = same_set (steps_below (by_number ps)) (steps_below ps) (distinct_by_number ps ∙ d) d (λ a. has_by_number a ps)

find_insert_variant : (a s : Step) (p : Place) (ps : Places) → has s (steps_below ps) ≡ false → find a (insert_variant s p ps) ≡ (when same a s then some p else find a ps)
unfolding find insert_variant steps_below has when◌then◌else◌
find_insert_variant a s p none_below h = refl
find_insert_variant a s p (below r q ps) h =
    cases (ltb (variant_of s) (variant_of r)) (λ e. rw e)
    (λ e. rw (e, find, find_insert_variant a s p ps (or_right_false (same s r) (has s (steps_below ps)) h)) (cases (same a r)
    (λ f. let g : same a s ≡ false = rw (same_true a r f) (same_sym r s ∙ or_left_false (same s r) (has s (steps_below ps)) h) in rw (f, g))
    (λ f. rw f)))

pub find_by_number : (a : Step) (ps : Places) → distinct (steps_below ps) ≡ true → find a (by_number ps) ≡ find a ps
unfolding find by_number steps_below distinct
find_by_number a none_below d = refl
find_by_number a (below s p ps) d =
    both (not (has s (steps_below ps))) (distinct (steps_below ps)) d λ e f.
    find_insert_variant a s p (by_number ps) (has_by_number s ps ∙ not_is_true (has s (steps_below ps)) e)
    ∙ ap (λ (o : Option Place). when same a s then some p else o) (find_by_number a ps f)

-- ---- numbers that rise
unfoldable pub under : ℕ → List Step → Bool
under n [] = true
under n (s ∷ ss) = ltb n (variant_of s)

unfoldable pub rising : List Step → Bool
rising [] = true
rising (s ∷ ss) = under (variant_of s) ss && rising ss

-- one of the steps has the number
unfoldable pub numbered : ℕ → List Step → Bool
numbered n [] = false
numbered n (s ∷ ss) = eqb n (variant_of s) || numbered n ss

-- no two steps have one number
unfoldable pub numbers_apart : List Step → Bool
numbers_apart [] = true
numbers_apart (s ∷ ss) = not (numbered (variant_of s) ss) && numbers_apart ss

numbered_insert : (n : ℕ) (s : Step) (p : Place) (ps : Places) → numbered n (steps_below (insert_variant s p ps)) ≡ (eqb n (variant_of s) || numbered n (steps_below ps))
unfolding insert_variant steps_below numbered when◌then◌else◌
numbered_insert n s p none_below = refl
numbered_insert n s p (below r q ps) =
    cases (ltb (variant_of s) (variant_of r)) (λ e. rw e)
    (λ e. rw (e, steps_below, numbered, numbered_insert n s p ps) (or_swap (eqb n (variant_of r)) (eqb n (variant_of s)) (numbered n (steps_below ps))))

numbered_by_number : (n : ℕ) (ps : Places) → numbered n (steps_below (by_number ps)) ≡ numbered n (steps_below ps)
unfolding by_number steps_below numbered
numbered_by_number n none_below = refl
numbered_by_number n (below s p ps) = rw (numbered_insert n s p (by_number ps), numbered_by_number n ps)

under_insert : (n : ℕ) (s : Step) (p : Place) (ps : Places) → ltb n (variant_of s) ≡ true → under n (steps_below ps) ≡ true → under n (steps_below (insert_variant s p ps)) ≡ true
unfolding insert_variant steps_below under when◌then◌else◌
under_insert n s p none_below h k = h
under_insert n s p (below r q ps) h k = cases (ltb (variant_of s) (variant_of r)) (λ e. rw (e, steps_below, under) h) (λ e. rw (e, steps_below, under) k)

rising_insert : (s : Step) (p : Place) (ps : Places) → numbered (variant_of s) (steps_below ps) ≡ false → rising (steps_below ps) ≡ true → rising (steps_below (insert_variant s p ps)) ≡ true
unfolding insert_variant steps_below rising under numbered when◌then◌else◌
rising_insert s p none_below n h = refl
rising_insert s p (below r q ps) n h =
    cases (ltb (variant_of s) (variant_of r)) (λ e. rw (e, steps_below, rising) (and_both e h))
    (λ e.
    neither (eqb (variant_of s) (variant_of r)) (numbered (variant_of s) (steps_below ps)) n λ a b.
    both (under (variant_of r) (steps_below ps)) (rising (steps_below ps)) h λ f g.
    let x : variant_of r ≤ variant_of s = ltb-false (variant_of s) (variant_of r) e in
    let y : variant_of s ≡ variant_of r → ⊥ = eqb-false (variant_of s) (variant_of r) a in
    rw (e, steps_below, rising) (and_both (under_insert (variant_of r) s p ps (lt-ltb (variant_of r) (variant_of s) (omega arith)) f) (rising_insert s p ps b g)))

-- variants by number rise where no two have one number
pub rising_by_number : (ps : Places) → numbers_apart (steps_below ps) ≡ true → rising (steps_below (by_number ps)) ≡ true
unfolding by_number steps_below numbers_apart rising
rising_by_number none_below h = refl
rising_by_number (below s p ps) h =
    both (not (numbered (variant_of s) (steps_below ps))) (numbers_apart (steps_below ps)) h λ a b.
    rising_insert s p (by_number ps) (numbered_by_number (variant_of s) ps ∙ not_is_true (numbered (variant_of s) (steps_below ps)) a) (rising_by_number ps b)

unfoldable pub all_variants : List Step → Bool
all_variants [] = true
all_variants (s ∷ ss) = is_variant s && all_variants ss

-- a variant that is not there and clashes with none has a number of its own
pub own_number : (s : Step) (ss : List Step) → is_variant s ≡ true → all_variants ss ≡ true → clashes s ss ≡ false → has s ss ≡ false → numbered (variant_of s) ss ≡ false
unfolding all_variants clashes has numbered
own_number s [] v a c h = refl
own_number s (r ∷ ss) v a c h =
    both (is_variant r) (all_variants ss) a λ w b.
    neither (renames s r) (clashes s ss) c λ d e.
    neither (same s r) (has s ss) h λ f g.
    let n : eqb (variant_of s) (variant_of r) ≡ false = cases (eqb (variant_of s) (variant_of r)) (λ z. absurd (true≢false (rw (v, w, z, f) at d))) (λ z. z) in
    rw (n, own_number s ss v b e g)
