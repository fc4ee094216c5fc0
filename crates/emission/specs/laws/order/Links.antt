-- After the sort the links of order give the children of every place in the order of a walk.
use Prim.{tt}
use Rattle.std.specs.Prelude.{◌≡◌, refl, Bool, ◌&&◌, List, length}
use Rattle.std.proofs.Math.Path.{sym}
use Rattle.std.proofs.Common.{◌∙◌, arith}
use Rattle.std.proofs.Math.Bool.{true, false}
use Rattle.std.proofs.lemmas.Bool.{false≢true}
use Prim.Native.Nat.{ℕ, zero, suc, ◌+◌, ◌<◌, ◌≤◌}
use Rattle.std.proofs.Math.Dec.{eqb}
use borrow.Author.Tests.{eqb-true, eqb-false, ne_eqb, ltb-true}
use Rattle.logic.specs.Test.{when◌then◌else◌}
use Rattle.logic.specs.laws.Test.{cases, both}
use Rattle.words.specs.Word.{place_words, word, IsTable}
use Rattle.model.specs.Kinds.{union_kind, map_mode_kind, Step, variant_of}
use Rattle.model.specs.Tracing.{Marks, place_limit}
use Rattle.equality.specs.laws.Base.{or_cases}
use Rattle.places.specs.Layout.{kind_word, first_word, ordered_first_word, block_word, next_word, parent_word, step_word, name_word, ordered_next_word}
use Rattle.refine.specs.laws.numbered.Tree.{Spot, spot, Spots, no_spots, child, num}
use Rattle.refine.specs.laws.numbered.Numbers.{first_of, within, within_in, Good, GoodIn, both_false, or_right, un_true, bounded, self}
use Rattle.refine.specs.laws.words.Places.{Rep, RepIn, same_block}
use Rattle.places.specs.Reading.{variant_at, link_at, is_ordered, next_ordered, next_child}
use Rattle.order.specs.Sort.{is_before, sorted_children, sorted_place, sorted_places}
use Rattle.order.specs.laws.Sort.{length_ordered, words_ordered}
use Rattle.emission.specs.laws.order.Chains.{among, here, Chain, Sorted, Distinct, InLine, Lined, link_same, link_is, chain_kept, line_kept, before_same, unique, lined}
use Rattle.emission.specs.laws.order.Arranged.{by_number_s, order_s, Enumerates, Rising, Orders, OrdersIn, FitS, FitIn, nums_of}
use Rattle.emission.specs.laws.firstwalk.Places.{AllS, number_all, child_variant}
use Rattle.emission.specs.laws.order.Insertion.{Apart, among_sort, apart_all, front_of, irreflexive, kind_of, name_pair, name_front, number_pair, number_front, sort_name, sort_number, sort_by, sorted_sort, total, transitive}

-- ---- numbers of good children rise from the place's on
bounds : (n c x : ℕ) (ks : Spots) → GoodIn n c ks → among x (nums_of ks) ≡ true → (c < x) × (x < n)
bounds n c x no_spots g e = absurd (false≢true e)
bounds n c x (child s h m u ks) g e =
    or_cases (eqb x (num u)) (among x (nums_of ks)) e
    (λ d. rw (eqb-true x (num u) d) (g.0, bounded n (num u) u g.1 (self u)))
    (λ d. let i = bounds n (num u) x ks g.3 d in (omega (arith, g.0, i.0), i.1))

distinct : (n c : ℕ) (ks : Spots) → GoodIn n c ks → Distinct (nums_of ks)
distinct n c no_spots g = tt
distinct n c (child s h m u ks) g = (un_true (among (num u) (nums_of ks)) (λ e. omega (arith, (bounds n (num u) (num u) ks g.3 e).0)), distinct n (num u) ks g.3)

few : (n c : ℕ) (ks : Spots) → c < n → GoodIn n c ks → c + length (nums_of ks) < n
few n c no_spots l g = omega arith
few n c (child s h m u ks) l g = let i = few n (num u) ks (bounded n (num u) u g.1 (self u)) g.3 in omega (arith, g.0)

first_below : (n c : ℕ) (ks : Spots) → n ≤ place_limit → GoodIn n c ks → first_of ks < place_limit
first_below n c no_spots l g = omega arith
first_below n c (child s h m u ks) l g = omega (arith, bounded n (num u) u g.1 (self u))

-- ---- what the words say of children
chain_said : (text t : List ℕ) (n c p link : ℕ) (ks : Spots) → n ≤ place_limit → GoodIn n c ks → RepIn text t p ks → link ≡ first_of ks → Chain t next_word link (nums_of ks)
chain_said text t n c p link no_spots l g r e = e
chain_said text t n c p link (child s h m u ks) l g r e =
    let w : word t (num u) next_word ≡ first_of ks = r.0.row 0 (omega arith) in
    (e, chain_said text t n (num u) p (link_at t (num u) next_word) ks l g.3 r.2 (link_is t (num u) next_word (first_of ks) w (first_below n (num u) ks l g.3)))

parent_said : (text t : List ℕ) (p x : ℕ) (ks : Spots) → RepIn text t p ks → among x (nums_of ks) ≡ true → word t x parent_word ≡ p
parent_said text t p x no_spots r e = absurd (false≢true e)
parent_said text t p x (child s h m u ks) r e =
    or_cases (eqb x (num u)) (among x (nums_of ks)) e
    (λ d. let w : word t (num u) parent_word ≡ p = r.0.row 1 (omega arith) in rw (eqb-true x (num u) d) w)
    (λ d. parent_said text t p x ks r.2 d)

-- children along a word, which is where the walk goes on
enumerated : (t : List ℕ) (sorted : Bool) (kind place along last : ℕ) (ks : Spots) → ((x : ℕ) → (x ≡ 0 → ⊥) → next_child t sorted kind place x ≡ link_at t x along) → among 0 (nums_of ks) ≡ false
    → Chain t along (next_child t sorted kind place last) (nums_of ks) → Enumerates t sorted kind place last ks
enumerated t sorted kind place along last no_spots way z c = c
enumerated t sorted kind place along last (child s h m u ks) way z c =
    let d = both_false (eqb 0 (num u)) (among 0 (nums_of ks)) z in
    (c.0, enumerated t sorted kind place along (num u) ks way d.1 (rw (way (num u) (λ e. eqb-false 0 (num u) d.0 (sym e))) c.1))

-- ---- what is known of a place of the tree
record Placed (text t : List ℕ) (n p k : ℕ) (ks : Spots) : Type 0 where
  below : p < n
  good : GoodIn n p ks
  rep : RepIn text t p ks
  fit : FitIn k ks
  kind : word t p kind_word ≡ k
  first : word t p first_word ≡ first_of ks

module _ (text t : List ℕ) (n : ℕ) where
  placed : (p : ℕ) (b : Marks) (k m : ℕ) (ks : Spots) → Good n (spot p b k m ks) → Rep text t (spot p b k m ks) → FitS (spot p b k m ks) → Placed text t n p k ks
  placed p b k m ks g r f = record { below = g.0; good = g.2; rep = r.1; fit = f.1; kind = r.0 0 (omega arith); first = r.0 3 (omega arith) }

  mutual
    -- a number in the tree is that of a place
    find : {P : Type 0} (q : ℕ) (u : Spot) → Good n u → Rep text t u → FitS u → within q u ≡ true → ((k : ℕ) (ks : Spots) → Placed text t n q k ks → P) → P
    find q (spot p b k m ks) g r f e go =
        or_cases (eqb q p) (within_in q ks) e
        (λ d. go k ks (rw (eqb-true q p d) (placed p b k m ks g r f)))
        (λ d. find_in_lem q p p k ks g.2 r.1 f.1 d go)

    find_in_lem : {P : Type 0} (q c p k : ℕ) (ks : Spots) → GoodIn n c ks → RepIn text t p ks → FitIn k ks → within_in q ks ≡ true → ((k : ℕ) (ks : Spots) → Placed text t n q k ks → P) → P
    find_in_lem q c p k no_spots g r f e go = absurd (false≢true e)
    find_in_lem q c p k (child s h m u ks) g r f e go =
        or_cases (within q u) (within_in q ks) e (λ d. find q u g.1 r.1 f.1 d go) (λ d. find_in_lem q (num u) p k ks g.3 r.2 f.2 d go)

module _ (text t : List ℕ) (n : ℕ) (most : n ≤ place_limit) (room : IsTable t) where
  apart : (by_name : Bool) (p : ℕ) (ks : Spots) → Placed text t n p (kind_of by_name) ks → Apart (front_of by_name) (is_before text t by_name) ks
  apart false p ks h = apart_all text t union_kind p number_front (is_before text t false) (number_pair text t p) n p ks h.good h.rep h.fit
  apart true p ks h = apart_all text t map_mode_kind p name_front (is_before text t true) (name_pair text t p) n p ks h.good h.rep h.fit

  module _ (j : ℕ) (l : j ≤ n) where
    -- the table when j places are done, in which only the links of order differ
    abbrev done : List ℕ
    done = sorted_places text t j

    same : (q f : ℕ) → f < place_words → (f ≡ ordered_first_word → ⊥) → (f ≡ ordered_next_word → ⊥) → word done q f ≡ word t q f
    same q f _ = words_ordered text t j (omega arith) q f

    sorted_children_lem : (by_name : Bool) (p : ℕ) (ks : Spots) → Placed text t n p (kind_of by_name) ks → Lined (is_before text t by_name) done (nums_of ks) p (sorted_children text by_name p done)
    sorted_children_lem by_name p ks h =
        lined text by_name (is_before text t by_name) (irreflexive text t by_name) (transitive text t by_name) (λ x. among x (nums_of ks))
        (total (front_of by_name) (is_before text t by_name) ks (apart by_name p ks h))
        (λ x e. let i = bounds n p x ks h.good e in (omega (arith, i.0), omega (arith, i.1)))
        done (nums_of ks) p (
          rw (length_ordered text t j (omega arith)) room,
          before_same text t done by_name
              (λ q. same q step_word (omega arith) (λ e. omega arith) (λ e. omega arith))
              (λ q. same q name_word (omega arith) (λ e. omega arith) (λ e. omega arith)),
        )
        (rw (link_same t done p first_word (same p first_word (omega arith) (λ e. omega arith) (λ e. omega arith)))
        (chain_kept t done next_word (link_at t p first_word) (nums_of ks) (λ x e. same x next_word (omega arith) (λ d. omega arith) (λ d. omega arith))
        (chain_said text t n p p (link_at t p first_word) ks most h.good h.rep (link_is t p first_word (first_of ks) h.first (first_below n p ks most h.good)))))
        (distinct n p ks h.good) (λ z e. e) (omega (arith, few n p ks h.below h.good)) (omega (arith, h.below))

    kind_same : (p k : ℕ) (ks : Spots) → Placed text t n p k ks → word done p kind_word ≡ k
    kind_same p k ks h = same p kind_word (omega arith) (λ e. omega arith) (λ e. omega arith) ∙ h.kind

    sorted_as : (by_name : Bool) (p : ℕ) (ks : Spots) → Placed text t n p (kind_of by_name) ks → sorted_place text p done ≡ sorted_children text by_name p done
    unfolding sorted_place when◌then◌else◌
    sorted_as false p ks h = rw (kind_same p union_kind ks h)
    sorted_as true p ks h = rw (kind_same p map_mode_kind ks h)

    left_alone : (p k : ℕ) (ks : Spots) → Placed text t n p k ks → eqb k union_kind ≡ false → eqb k map_mode_kind ≡ false → sorted_place text p done ≡ done
    unfolding sorted_place when◌then◌else◌
    left_alone p k ks h a b = rw (kind_same p k ks h, a, b)

    -- sorting at one place leaves the links of others
    abbrev Leaves : ℕ → Spots → List ℕ → Type 0
    Leaves p ks u = (word u p ordered_first_word ≡ word done p ordered_first_word) × ((x : ℕ) → among x (nums_of ks) ≡ true → word u x ordered_next_word ≡ word done x ordered_next_word)

    leaves : (p k q : ℕ) (ks : Spots) (i : ℕ) (is : Spots) → (p ≡ q → ⊥) → Placed text t n p k ks → Placed text t n q i is → Leaves p ks (sorted_place text q done)
    leaves p k q ks i is z h g =
        cases (eqb i union_kind)
        (λ e. at false (rw (eqb-true i union_kind e) at g))
        (λ e. cases (eqb i map_mode_kind) (λ d. at true (rw (eqb-true i map_mode_kind d) at g)) (λ d. rw (left_alone q i is g e d) (refl, λ x a. refl)))
      where
        at : (by_name : Bool) → Placed text t n q (kind_of by_name) is → Leaves p ks (sorted_place text q done)
        at by_name w =
            let s = sorted_children_lem by_name q is w in
            rw (sorted_as by_name q is w) (
              s.words p ordered_first_word (omega arith) (λ e. absurd (omega arith)) (λ e. z),
              (λ x a. s.words x ordered_next_word (omega arith)
                  (λ e. un_true (among x (nums_of is)) (λ b. z (sym (parent_said text t p x ks h.rep a) ∙ parent_said text t q x is w.rep b)))
                  (λ e. absurd (omega arith))),
            )

  -- ---- each place that is done is in line
  module _ (root : Spot) (good : Good n root) (rep : Rep text t root) (fit : FitS root) (cover : (q : ℕ) → q < n → within q root ≡ true) where
    in_line : (by_name : Bool) (p : ℕ) (ks : Spots) → Placed text t n p (kind_of by_name) ks → (j : ℕ) → j ≤ n → p < j → InLine (is_before text t by_name) (nums_of ks) p (sorted_places text t j)
    unfolding sorted_places
    in_line by_name p ks h zero l b = absurd (omega arith)
    in_line by_name p ks h (suc j) l b =
        cases (eqb p j)
        (λ e. let d : p ≡ j = eqb-true p j e in rw (← d) (rw (sorted_as p (omega arith) by_name p ks h) (sorted_children_lem p (omega arith) by_name p ks h).line))
        (λ e.
        let z : p ≡ j → ⊥ = eqb-false p j e in
        find text t n j root good rep fit (cover j (omega arith)) λ i is g.
        let w = leaves j (omega arith) p (kind_of by_name) j ks i is z h g in
        line_kept (is_before text t by_name) (nums_of ks) p (sorted_places text t j) (sorted_place text j (sorted_places text t j)) w.0 w.1 (in_line by_name p ks h j (omega arith) (omega arith)))

    abbrev ordered : List ℕ
    ordered = sorted_places text t n

    positive : (p : ℕ) (ks : Spots) → GoodIn n p ks → among 0 (nums_of ks) ≡ false
    positive p ks g = un_true (among 0 (nums_of ks)) (λ e. omega (arith, (bounds n p 0 ks g e).0))

    -- a place's children sorted are gone through
    sortedly : (by_name sorted : Bool) (p : ℕ) (ks : Spots) → Placed text t n p (kind_of by_name) ks → is_ordered sorted (kind_of by_name) ≡ true →
        Enumerates ordered sorted (kind_of by_name) p 0 (sort_by (front_of by_name) ks)
    unfolding next_child next_ordered when◌then◌else◌
    sortedly by_name sorted p ks h o =
        let w = in_line by_name p ks h n (omega arith) h.below in
        let is : nums_of (sort_by (front_of by_name) ks) ≡ w.list =
        unique (is_before text t by_name) (irreflexive text t by_name) (transitive text t by_name) (nums_of (sort_by (front_of by_name) ks)) w.list
        (sorted_sort (front_of by_name) (is_before text t by_name) (transitive text t by_name) ks (apart by_name p ks h)) w.sorted (λ z. among_sort (front_of by_name) z ks ∙ sym (w.members z)) in
        enumerated ordered sorted (kind_of by_name) p ordered_next_word 0 (sort_by (front_of by_name) ks) (λ x z. rw (o, ne_eqb x 0 z))
        (among_sort (front_of by_name) 0 ks ∙ positive p ks h.good) (rw (o, is) w.chain)

    plainly : (sorted : Bool) (p k : ℕ) (ks : Spots) → Placed text t n p k ks → is_ordered sorted k ≡ false → Enumerates ordered sorted k p 0 ks
    unfolding next_child when◌then◌else◌
    plainly sorted p k ks h o =
        enumerated ordered sorted k p next_word 0 ks (λ x z. rw (o, ne_eqb x 0 z)) (positive p ks h.good)
        (rw (o, link_same t ordered p first_word (same n (omega arith) p first_word (omega arith) (λ e. omega arith) (λ e. omega arith)))
        (chain_kept t ordered next_word (link_at t p first_word) (nums_of ks) (λ x e. same n (omega arith) x next_word (omega arith) (λ d. omega arith) (λ d. omega arith))
        (chain_said text t n p p (link_at t p first_word) ks most h.good h.rep (link_is t p first_word (first_of ks) h.first (first_below n p ks most h.good)))))

    order_at : (sorted : Bool) (p k : ℕ) (ks : Spots) → Placed text t n p k ks → Enumerates ordered sorted k p 0 (order_s sorted k ks)
    unfolding order_s is_ordered when◌then◌else◌
    order_at sorted p k ks h =
        cases (eqb k union_kind)
        (λ u. let z : k ≡ union_kind = eqb-true k union_kind u in rw (u, z, ← (sort_number ks)) (sortedly false sorted p ks (rw z at h) refl))
        (λ u.
        cases (sorted && eqb k map_mode_kind)
        (λ v. both sorted (eqb k map_mode_kind) v λ a b. let z : k ≡ map_mode_kind = eqb-true k map_mode_kind b in rw (u, v, z, ← (sort_name ks)) (sortedly true sorted p ks (rw z at h) (rw a)))
        (λ v. rw (u, v) (plainly sorted p k ks h (rw (u, v)))))

    -- ---- a union's numbers rise
    abbrev NumberIs : ℕ → Step → ℕ → ℕ → Spot → Type 0
    NumberIs slot s h m u = (variant_at t (num u) ≡ variant_of s) × (slot ≤ variant_of s)

    numbers_said : (p k : ℕ) (ks : Spots) → RepIn text t p ks → FitIn k ks → AllS (NumberIs 0) ks
    numbers_said p k no_spots r f = tt
    numbers_said p k (child s h m u ks) r f = ((child_variant text t (num u) (first_of ks) p k s h m r.0 f.0, omega arith), numbers_said p k ks r.2 f.2)

    raised : (slot low x : ℕ) (ks : Spots) → variant_at t x ≡ slot → AllS (NumberIs low) ks → ((y : ℕ) → among y (nums_of ks) ≡ true → is_before text t false x y ≡ true) → AllS (NumberIs (slot + 1)) ks
    unfolding is_before when◌then◌else◌
    raised slot low x no_spots v a o = tt
    raised slot low x (child s h m u ks) v a o =
        let l : variant_at t x < variant_at t (num u) = ltb-true (variant_at t x) (variant_at t (num u)) (o (num u) (here (num u) (nums_of ks))) in
        ((a.0.0, omega (arith, a.0.0)), raised slot low x ks v a.1 (λ y e. o y (or_right (eqb y (num u)) (among y (nums_of ks)) e)))

    rising : (slot : ℕ) (ks : Spots) → AllS (NumberIs slot) ks → Sorted (is_before text t false) (nums_of ks) → Rising slot ks
    rising slot no_spots a o = tt
    rising slot (child s h m u ks) a o = (a.0.1, rising (variant_of s + 1) ks (raised (variant_of s) slot (num u) ks a.0.0 a.1 o.0) o.1)

    rises_at : (p k : ℕ) (ks : Spots) → Placed text t n p k ks → eqb k union_kind ≡ true → Rising 0 (order_s false k ks)
    unfolding order_s when◌then◌else◌
    rises_at p k ks h e =
        let z : k ≡ union_kind = eqb-true k union_kind e in
        let o = sorted_sort number_front (is_before text t false) (transitive text t false) ks (apart false p ks (rw z at h)) in
        rw e (rising 0 (by_number_s ks) (number_all (NumberIs 0) ks (numbers_said p k ks h.rep h.fit)) (rw (sort_number ks) at o))

    -- ---- at every place of the tree
    mutual
      orders_from_lem : (u : Spot) → Good n u → Rep text t u → FitS u → Orders ordered u
      orders_from_lem (spot p b k m ks) g r f =
          let h = placed text t n p b k m ks g r f in
          (order_at false p k ks h, order_at true p k ks h, orders_in p p k ks g.2 r.1 f.1, rises_at p k ks h)

      orders_in : (c p k : ℕ) (ks : Spots) → GoodIn n c ks → RepIn text t p ks → FitIn k ks → OrdersIn ordered ks
      orders_in c p k no_spots g r f = tt
      orders_in c p k (child s h m u ks) g r f = (orders_from_lem u g.1 r.1 f.1, orders_in (num u) p k ks g.3 r.2 f.2)

    pub orders : Orders ordered root
    orders = orders_from_lem root good rep fit

-- ---- the sorted table says the same tree
module _ (text t u : List ℕ) (same : (q f : ℕ) → f < place_words → (f ≡ ordered_first_word → ⊥) → (f ≡ ordered_next_word → ⊥) → word u q f ≡ word t q f) where
  mutual
    still_says : (v : Spot) → Rep text t v → Rep text u v
    still_says (spot p b k m ks) r = (
      (λ f l. same p (kind_word + f) (omega arith) (λ e. omega arith) (λ e. omega arith) ∙ r.0 f l),
      still_in p ks r.1,
      same_block t u p ks
          (same p block_word (omega arith) (λ e. omega arith) (λ e. omega arith)) r.2,
    )

    still_in : (p : ℕ) (ks : Spots) → RepIn text t p ks → RepIn text u p ks
    still_in p no_spots r = tt
    still_in p (child s h m v ks) r =
        let c = r.0 in (
          record {
            name = c.name;
            row = λ f l. same (num v) (next_word + f) (omega arith) (λ e. omega arith) (λ e. omega arith)
                ∙ c.row f l;
            inside = c.inside;
            says = c.says;
          },
          still_says v r.1,
          still_in p ks r.2,
        )

pub says_ordered : (text t : List ℕ) (n : ℕ) (u : Spot) → n ≤ place_limit → Rep text t u → Rep text (sorted_places text t n) u
says_ordered text t n u most r = still_says text t (sorted_places text t n) (λ q f _. words_ordered text t n most q f) u r
