-- The tree that a batch leaves is neat: only containers have children, a map has its key and value, and only a union has variants.
use Rattle.std.specs.Prelude.{◌≡◌, refl, true, false, ◌&&◌, ◌||◌, List, [], ◌∷◌, ℕ, zero, suc, ◌+◌, ◌<◌, ◌≤◌, eqb, leb, ltb, length}
use Rattle.std.proofs.Common.{sym, ap, subst, ◌∙◌, true≢false, arith, eqb-true, ne_eqb, leb-false}
use Rattle.std.proofs.lemmas.Bool.{false≢true, lt-leb}
use Rattle.std.proofs.Math.Option.{Option, none, some}
use Rattle.logic.specs.Test.{when◌then◌else◌}
use Rattle.logic.specs.laws.Test.{cases, neither}
use Rattle.logic.specs.All.{All}
use Rattle.logic.specs.laws.All.{all_map}
use Rattle.datatype.specs.Codes.{null}
use Rattle.text.specs.Name.{eq_name}
use Rattle.coerce.specs.Joint.{joint}
use Rattle.coerce.specs.laws.Joined.{joint_below}
use Rattle.model.specs.Result.{Result, accepted, refused, ◌>>=◌, or_refused}
use Rattle.model.specs.Kinds.{sequence_kind, struct_kind, map_kind, union_kind, tuple_kind, map_mode_kind, is_container, is_struct, Step, field, element, position, key, value, variant, is_variant, same}
use Rattle.model.specs.Reading.{Value, val, cut, Parts, no_parts, cut_off, part, values}
use Rattle.model.specs.Tracing.{marks_with, dots_of, depth_limit, place_limit, same_container, meet, has, clashes, positions_from, made, Counted, counted, trace}
use Rattle.equality.specs.laws.Base.{and_left, and_right, or_cases, not_refused, choice}
use Rattle.equality.specs.laws.census.Kind.{struct_is_container}
use Rattle.equality.specs.laws.Proper.{part_fits, kind_fits, is_proper, are_proper, all_proper}
use Rattle.equality.specs.laws.reading.WellFormed.{accepted_proper}
use Rattle.refine.specs.laws.numbered.Tree.{Spot, spot, Spots, no_spots, child, steps_s, new_spot, spot_at, put_s, add_s, make_s, make_all_s, sample_of, walk, walk_parts, walk_all}
use Rattle.refine.specs.laws.numbered.Erased.{erase, erased, walk_is_model}
use Rattle.emission.specs.laws.firstwalk.Places.{many_s}
use Rattle.emission.specs.laws.secondwalk.Words.{Neat, NeatIn}

-- a map has its key and value
abbrev pair : List Step
pair = key ∷ value ∷ []

abbrev mutual
  Strong : Spot → Type 0
  Strong (spot p b k m ks) = (is_container k ≡ false → ks ≡ no_spots) × (eqb k map_kind ≡ true → steps_s ks ≡ pair) × StrongIn k ks

  StrongIn : ℕ → Spots → Type 0
  StrongIn kind no_spots = Unit {0}
  StrongIn kind (child s h m u ks) = (eqb kind union_kind ≡ false → is_variant s ≡ false) × Strong u × StrongIn kind ks

two : (ks : Spots) → steps_s ks ≡ pair → many_s ks ≡ 2
unfolding steps_s
two no_spots e = let z : ◌≡◌ {A = ℕ} 0 1 = cc in absurd (omega arith)
two (child s h m u no_spots) e = let z : ◌≡◌ {A = ℕ} 0 1 = cc in absurd (omega arith)
two (child s h m u (child r i j v no_spots)) e = refl
two (child s h m u (child r i j v (child q a b w ks))) e = let z : ◌≡◌ {A = ℕ} 0 1 = cc in absurd (omega arith)

mutual
  strong_neat : (u : Spot) → Strong u → Neat u
  strong_neat (spot p b k m ks) g = (g.0, (λ e. two ks (g.1 e)), strong_neat_in k ks g.2)

  strong_neat_in : (k : ℕ) (ks : Spots) → StrongIn k ks → NeatIn k ks
  strong_neat_in k no_spots g = tt
  strong_neat_in k (child s h m u ks) g = (g.0, strong_neat u g.1, strong_neat_in k ks g.2)

-- the steps that a kind has
abbrev Allowed : ℕ → Step → Type 0
Allowed k s = (eqb k union_kind ≡ false → is_variant s ≡ false) × (eqb k map_kind ≡ true → has s pair ≡ true)

abbrev Below : ℕ → Spots → Type 0
Below k ks = StrongIn k ks × (eqb k map_kind ≡ true → steps_s ks ≡ pair)

-- ---- outcomes
abbrev Gives : {A : Type 0} → (A → Type 0) → Result (Counted A) → Type 0
Gives P (accepted r) = P r.what
Gives P (refused n at) = Unit {0}

after : {A B : Type 0} (Q : B → Type 0) (r : Result A) (f : A → Result (Counted B)) → ((a : A) → r ≡ accepted a → Gives Q (f a)) → Gives Q (r >>= f)
after Q (accepted a) f h = h a refl
after Q (refused n at) f h = tt

then_gives : {A B : Type 0} (P : A → Type 0) (Q : B → Type 0) (r : Result (Counted A)) (f : Counted A → Result (Counted B)) → Gives P r →
    ((x : Counted A) → P x.what → Gives Q (f x)) → Gives Q (r >>= f)
then_gives P Q (accepted x) f g h = h x g
then_gives P Q (refused n at) f g h = tt

-- ---- kinds that meet
same_containers : (k h : ℕ) → same_container k h ≡ true → is_container k ≡ is_container h
same_containers k h e =
    or_cases (eqb k h) (is_struct k && is_struct h) e
    (λ a. rw (eqb-true k h a) refl)
    (λ a. struct_is_container k (and_left (is_struct k) (is_struct h) a) ∙ sym (struct_is_container h (and_right (is_struct k) (is_struct h) a)))

data Met (k h : ℕ) : ℕ → Type 0 where
  leaves : {j : ℕ} → is_container k ≡ false → is_container h ≡ false → is_container j ≡ false → Met k h j
  keeps : is_container k ≡ true → is_container h ≡ false → Met k h k
  takes : is_container k ≡ false → is_container h ≡ true → Met k h h
  alike : is_container k ≡ true → is_container h ≡ true → same_container k h ≡ true → Met k h k

joint_given : {P : Type 0} (o : Option ℕ) (n at j : ℕ) → or_refused n at o ≡ accepted j → (o ≡ some j → P) → P
joint_given none n at j e f = not_refused e
joint_given (some a) n at j e f = let z : a ≡ j = cc in f (rw z)

leaf_null : (k : ℕ) → eqb k null ≡ true → is_container k ≡ false
leaf_null k e = ap is_container (eqb-true k null e)

meet_met : (options depth at k h j : ℕ) → meet options depth at k h ≡ accepted j → Met k h j
unfolding meet when◌then◌else◌
meet_met options depth at k h j e =
    cases (is_container h && leb depth_limit depth) (λ a. not_refused (rw a at e)) λ a.
    cases (is_container k || is_container h)
    (λ b. cases (eqb h null)
    (λ c. let z : k ≡ j = let q = rw (a, b, c) at e in cc in rw (← z) (or_cases (is_container k) (is_container h) b (λ x. keeps x (leaf_null h c)) (λ x. absurd (true≢false (sym x ∙ leaf_null h c)))))
    (λ c. cases (eqb k null)
    (λ d. let z : h ≡ j = let q = rw (a, b, c, d) at e in cc in rw (← z) (or_cases (is_container k) (is_container h) b (λ x. absurd (true≢false (sym x ∙ leaf_null k d))) (λ x. takes (leaf_null k d) x)))
    (λ d. cases (same_container k h)
    (λ g. let z : k ≡ j = let q = rw (a, b, c, d, g) at e in cc in
    let w = same_containers k h g in
    rw (← z) (or_cases (is_container k) (is_container h) b (λ x. alike x (sym w ∙ x) g) (λ x. alike (w ∙ x) x g)))
    (λ g. not_refused (rw (a, b, c, d, g) at e)))))
    (λ b. neither (is_container k) (is_container h) b λ x y.
    let l : k < sequence_kind = leb-false sequence_kind k x in
    let m : h < sequence_kind = leb-false sequence_kind h y in
    joint_given (joint options k h) _ at j (rw (a, b) at e) λ q. leaves x y (lt-leb sequence_kind j (joint_below sequence_kind options k h j (omega arith) l m q)))

-- ---- what is made and changed
new_strong : (n : ℕ) → Strong (new_spot n)
new_strong n = ((λ e. refl), (λ e. absurd (false≢true e)), tt)

at_strong : (k : ℕ) (s : Step) (ks : Spots) → StrongIn k ks → Strong (spot_at s ks)
unfolding spot_at
at_strong k s no_spots g = new_strong 0
at_strong k s (child r h m u ks) g = choice Strong (same s r) (λ e. g.1) (λ e. at_strong k s ks g.2)

put_strong : (k : ℕ) (s : Step) (sample : ℕ) (v : Spot) (ks : Spots) → Strong v → StrongIn k ks → StrongIn k (put_s s sample v ks)
unfolding put_s
put_strong k s sample v no_spots a g = tt
put_strong k s sample v (child r h m u ks) a g = choice (StrongIn k) (same s r) (λ e. (g.0, a, g.2)) (λ e. (g.0, g.1, put_strong k s sample v ks a g.2))

put_steps : (s : Step) (N : ℕ) (v : Spot) (ks : Spots) → steps_s (put_s s N v ks) ≡ steps_s ks
unfolding steps_s put_s when◌then◌else◌
put_steps s N v no_spots = refl
put_steps s N v (child r h x u ks) = cases (same s r) (λ q. rw q refl) (λ q. rw q (ap (λ (rs : List Step). r ∷ rs) (put_steps s N v ks)))

add_strong : (k : ℕ) (s : Step) (n : ℕ) (ks : Spots) → Allowed k s → StrongIn k ks → StrongIn k (add_s s n ks)
unfolding add_s
add_strong k s n no_spots a g = (a.0, new_strong n, tt)
add_strong k s n (child r h m u ks) a g = (g.0, g.1, add_strong k s n ks a g.2)

make_below : (k at : ℕ) (s : Step) (n : ℕ) (ks : Spots) → Allowed k s → Below k ks → Gives (Below k) (make_s at s n ks)
unfolding make_s
make_below k at s n ks a g =
    let P : Result (Counted Spots) → Type 0 = Gives (Below k) in
    choice P (clashes s (steps_s ks)) (λ e. tt) λ e.
    choice P (has s (steps_s ks)) (λ e. g) λ e.
    choice P (ltb n place_limit) (λ f. (add_strong k s n ks a g.0, λ m. absurd (true≢false (sym (a.1 m) ∙ ap (has s) (sym (g.1 m)) ∙ e)))) λ f. tt

all_made : (k at : ℕ) (ss : List Step) (n : ℕ) (ks : Spots) → All (Allowed k) ss → Below k ks → Gives (Below k) (make_all_s at ss n ks)
unfolding make_all_s
all_made k at [] n ks a g = g
all_made k at (s ∷ ss) n ks a g =
    then_gives (Below k) (Below k) (make_s at s n ks) (λ r. make_all_s at ss r.places r.what) (make_below k at s n ks a.0 g) (λ r i. all_made k at ss r.places r.what a.1 i)

-- a map's first
pair_made : (at n : ℕ) → Gives (Below map_kind) (make_all_s at pair n no_spots)
unfolding make_all_s make_s clashes has steps_s add_s same eq_name when◌then◌else◌
pair_made at n =
    cases (ltb n place_limit)
    (λ e. rw e (cases (ltb (n + 1) place_limit) (λ f. rw f (((λ _. refl), new_strong n, ((λ _. refl), new_strong (n + 1), tt)), λ _. refl)) (λ f. rw f tt)))
    (λ e. rw e tt)

made_pair : (r k : ℕ) → made map_kind r k ≡ pair
unfolding made when◌then◌else◌
made_pair r k = refl

positions_allowed : (i n : ℕ) → All (Allowed tuple_kind) (positions_from i n)
positions_allowed i zero = tt
positions_allowed i (suc n) = (((λ e. refl), λ e. absurd (false≢true e)), positions_allowed (suc i) n)

made_allowed : (k n before : ℕ) → All (Allowed k) (made k n before)
unfolding made when◌then◌else◌ has same eq_name
made_allowed k n before =
    let P : List Step → Type 0 = All (Allowed k) in
    choice P (eqb k sequence_kind) (λ e. rw (eqb-true k sequence_kind e) (((λ e. refl), λ e. absurd (false≢true e)), tt)) λ e.
    choice P (eqb k map_kind) (λ e. (((λ e. refl), λ e. refl), (((λ e. refl), λ e. refl), tt))) λ e.
    choice P (eqb k tuple_kind && eqb before null) (λ e. rw (eqb-true k tuple_kind (and_left (eqb k tuple_kind) (eqb before null) e)) (positions_allowed 0 n)) λ e. tt

made_none : (k r j : ℕ) → is_container k ≡ false → made k r j ≡ []
unfolding made when◌then◌else◌
made_none k r j c =
    let i : k < sequence_kind = leb-false sequence_kind k c in
    rw (ne_eqb k sequence_kind (λ e. omega arith), ne_eqb k map_kind (λ e. omega arith), ne_eqb k tuple_kind (λ e. omega arith))

opened : (at h r k n : ℕ) → Gives (Below h) (make_all_s at (made h r k) n no_spots)
opened at h r k n =
    cases (eqb h map_kind)
    (λ e. let z : h ≡ map_kind = eqb-true h map_kind e in rw (z, made_pair r k) (pair_made at n))
    (λ e. all_made h at (made h r k) n no_spots (made_allowed h r k) (tt, λ m. absurd (true≢false (sym m ∙ e))))

-- ---- the steps of a value's parts
part_allowed : (k i : ℕ) (s : Step) → part_fits k i s ≡ true → (is_container k ≡ true) × Allowed k s
unfolding has same eq_name when◌then◌else◌
part_allowed k i (field name) e = (struct_is_container k e, ((λ _. refl), λ m. let z : k ≡ map_kind = eqb-true k map_kind m in absurd (false≢true (rw z at e))))
part_allowed k i element e = let z : k ≡ sequence_kind = eqb-true k sequence_kind e in (rw z refl, ((λ _. refl), rw z (λ m. absurd (false≢true m))))
part_allowed k i (position j) e = let z : k ≡ tuple_kind = eqb-true k tuple_kind (and_left (eqb k tuple_kind) (eqb j i) e) in (rw z refl, ((λ _. refl), rw z (λ m. absurd (false≢true m))))
part_allowed k i key e = let z : k ≡ map_kind = eqb-true k map_kind e in (rw z refl, ((λ _. refl), λ _. refl))
part_allowed k i value e = let z : k ≡ map_kind = eqb-true k map_kind e in (rw z refl, ((λ _. refl), λ _. refl))
part_allowed k i (variant number name) e =
    let z : k ≡ union_kind = eqb-true k union_kind (and_left (eqb k union_kind) (eqb i 0) e) in (rw z refl, (rw z (λ m. absurd (true≢false m)), rw z (λ m. absurd (false≢true m))))

abbrev Turns : ℕ → ℕ → Type 0
Turns h j = (s : Step) → Allowed h s → Allowed j s

struct_is : (k : ℕ) → is_struct k ≡ true → (eqb k union_kind ≡ false) × (eqb k map_kind ≡ false)
struct_is k e = or_cases (eqb k struct_kind) (eqb k map_mode_kind) e (λ a. rw (eqb-true k struct_kind a) (refl, refl)) (λ a. rw (eqb-true k map_mode_kind a) (refl, refl))

alike_turns : (k h : ℕ) → same_container k h ≡ true → Turns h k
alike_turns k h e s a =
    or_cases (eqb k h) (is_struct k && is_struct h) e
    (λ c. rw (eqb-true k h c) a)
    (λ c. let p = struct_is k (and_left (is_struct k) (is_struct h) c) in let q = struct_is h (and_right (is_struct k) (is_struct h) c) in ((λ _. a.0 q.0), λ m. absurd (true≢false (sym m ∙ p.1))))

-- ---- a walk keeps the tree neat
-- a leaf has no parts
leaf_parts : (options o depth sample h r i : ℕ) (ps : Parts) (n : ℕ) (ks : Spots) → is_container h ≡ false → are_proper o h r i ps ≡ true →
    Gives (λ ks'. ks' ≡ ks) (walk_parts options depth sample ps n ks)
unfolding walk is_proper
leaf_parts options o depth sample h r i no_parts n ks c e = refl
leaf_parts options o depth sample h r i (cut_off x y) n ks c e = tt
leaf_parts options o depth sample h r i (part at s v ps) n ks c e =
    absurd (true≢false (sym (part_allowed h i s (and_left (part_fits h i s) (is_proper o v) (and_left (part_fits h i s && is_proper o v) (are_proper o h r (suc i) ps) e))).0 ∙ c))

mutual
  unfolding walk is_proper make_all_s

  walk_strong : (options o depth : ℕ) (v : Value) (n : ℕ) (u : Spot) → is_proper o v ≡ true → Strong u → Gives Strong (walk options depth v n u)
  walk_strong options o depth (cut x y) n u e g = tt
  walk_strong options o depth (val at b h r ps) n (spot p b₀ k m ks) e g =
      after Strong (meet options depth at k h) _ λ j f.
      go (λ i t n₁ ks₁ a. parts_strong options o depth (sample_of h m) h r 0 i ps n₁ ks₁ (and_right (kind_fits o h) (are_proper o h r 0 ps) e) t a)
      (λ c n₁ ks₁. leaf_parts options o depth (sample_of h m) h r 0 ps n₁ ks₁ c (and_right (kind_fits o h) (are_proper o h r 0 ps) e))
      j (meet_met options depth at k h j f)
    where
      go : ((i : ℕ) → Turns h i → (n₁ : ℕ) (ks₁ : Spots) → Below i ks₁ → Gives (Below i) (walk_parts options depth (sample_of h m) ps n₁ ks₁))
          → (is_container h ≡ false → (n₁ : ℕ) (ks₁ : Spots) → Gives (λ ks'. ks' ≡ ks₁) (walk_parts options depth (sample_of h m) ps n₁ ks₁))
          → (j : ℕ) → Met k h j
          → Gives Strong (make_all_s at (made h r k) n ks >>= λ x. walk_parts options depth (sample_of h m) ps x.places x.what >>= λ q. counted
          q.places (spot p (marks_with b k h b₀) j (sample_of h m) q.what))
      go ih leaf j (leaves x y z) =
          rw (made_none h r k y) (then_gives (λ ks'. ks' ≡ ks) Strong (walk_parts options depth (sample_of h m) ps n ks) _ (leaf y n ks) λ q d.
          rw (d ∙ g.0 x) ((λ _. refl), (λ w. let l : j ≡ map_kind = eqb-true j map_kind w in absurd (true≢false (rw l at z))), tt))
      go ih leaf j (keeps x y) =
          rw (made_none h r k y) (then_gives (λ ks'. ks' ≡ ks) Strong (walk_parts options depth (sample_of h m) ps n ks) _ (leaf y n ks) λ q d. rw d g)
      go ih leaf j (takes x y) =
          then_gives (Below h) Strong (make_all_s at (made h r k) n ks) _ (rw (g.0 x) (opened at h r k n)) λ w a.
          then_gives (Below h) Strong (walk_parts options depth (sample_of h m) ps w.places w.what) _ (ih h (λ s l. l) w.places w.what a) λ q l.
          ((λ c. absurd (true≢false (sym y ∙ c))), l.1, l.0)
      go ih leaf j (alike x y z) =
          then_gives (Below k) Strong (make_all_s at (made h r k) n ks) _
          (all_made k at (made h r k) n ks (all_map (Allowed h) (Allowed k) (made h r k) (alike_turns k h z) (made_allowed h r k)) (g.2, g.1))
          λ w a.
          then_gives (Below k) Strong (walk_parts options depth (sample_of h m) ps w.places w.what) _ (ih k (alike_turns k h z) w.places w.what a) λ q l.
          ((λ c. absurd (true≢false (sym x ∙ c))), l.1, l.0)

  parts_strong : (options o depth sample h r i j : ℕ) (ps : Parts) (n : ℕ) (ks : Spots) → are_proper o h r i ps ≡ true → Turns h j → Below j ks →
      Gives (Below j) (walk_parts options depth sample ps n ks)
  parts_strong options o depth sample h r i j no_parts n ks e t g = g
  parts_strong options o depth sample h r i j (cut_off x y) n ks e t g = tt
  parts_strong options o depth sample h r i j (part at s v ps) n ks e t g =
      let e₁ : (part_fits h i s && is_proper o v) ≡ true = and_left (part_fits h i s && is_proper o v) (are_proper o h r (suc i) ps) e in
      let a : Allowed j s = t s (part_allowed h i s (and_left (part_fits h i s) (is_proper o v) e₁)).1 in
      then_gives (Below j) (Below j) (make_s at s n ks) _ (make_below j at s n ks a g) λ x b.
      then_gives Strong (Below j) (walk options (depth + dots_of s) v x.places (spot_at s x.what)) _
      (walk_strong options o (depth + dots_of s) v x.places (spot_at s x.what) (and_right (part_fits h i s) (is_proper o v) e₁) (at_strong j s x.what b.0)) λ q c.
      parts_strong options o depth sample h r (suc i) j ps q.places (put_s s sample q.what x.what) (and_right (part_fits h i s && is_proper o v) (are_proper o h r (suc i) ps) e) t
      (put_strong j s sample q.what x.what c b.0, λ m. put_steps s sample q.what x.what ∙ b.1 m)

all_strong : (options o : ℕ) (vs : List Value) (n : ℕ) (u : Spot) → all_proper o vs ≡ true → Strong u → Gives Strong (walk_all options vs n u)
unfolding walk_all all_proper
all_strong options o [] n u e g = g
all_strong options o (v ∷ vs) n u e g =
    then_gives Strong Strong (walk options 0 v n u) _ (walk_strong options o 0 v n u (and_left (is_proper o v) (all_proper o vs) e) g) λ r i.
    all_strong options o vs r.places r.what (and_right (is_proper o v) (all_proper o vs) e) i

-- the tree that a batch gives
pub neat : (options : ℕ) (commands text : List ℕ) (n : ℕ) (u : Spot) → length commands ≤ 65535 → walk_all options (values options commands text) 1 (new_spot 0) ≡ counted n u → Neat u
neat options commands text n u l e =
    let t : trace options (values options commands text) ≡ counted n (erase u) = sym (walk_is_model options commands text l) ∙ ap erased e in
    strong_neat u (subst (Gives Strong) e (all_strong options options (values options commands text) 1 (new_spot 0) (accepted_proper options commands text _ t) (new_strong 0)))
