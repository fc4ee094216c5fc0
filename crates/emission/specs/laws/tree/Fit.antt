-- Kinds and steps in the tree that a batch leaves fit: a kind is of 8 bits, and the steps below a place are those of its kind, with numbers of
-- 16 bits.
use Rattle.std.specs.Prelude.{◌≡◌, refl, Bool, false, ◌&&◌, List, [], ◌∷◌, leb, ltb, length, get_or, Ok, Err}
use Rattle.std.proofs.Common.{sym, ap, subst, ◌∙◌, true≢false}
use Rattle.std.proofs.Math.Bool.{true}
use Rattle.std.proofs.Math.Option.{Option, none, some}
use Prim.Native.Nat.{ℕ, zero, suc, ◌+◌, ◌%◌, ◌<◌, ◌≤◌, ◌^◌}
use native.Mathlib.Omega.{arith}
use Rattle.std.proofs.Math.Dec.{eqb}
use borrow.Author.Tests.{eqb-true, ltb-true, lt-ltb}
use Rattle.logic.specs.Test.{when◌then◌else◌}
use Rattle.logic.specs.laws.Test.{cases}
use Rattle.logic.specs.All.{All}
use Rattle.logic.specs.laws.All.{all_map}
use Rattle.datatype.specs.Codes.{null, dictionary_utf8}
use Rattle.coerce.specs.Joint.{joint}
use Rattle.coerce.specs.laws.Joined.{joint_below}
use Rattle.commands.specs.declared.Command.{Command}
use Rattle.commands.specs.declared.Command.TheVariants as C
use Rattle.commands.specs.declared.Due.TheVariants as D
use Rattle.commands.specs.Commands.{Read, operand_at, plain, forms, form_of, read_command, end_byte}
use Rattle.commands.specs.Commands as M
use Rattle.model.specs.Result.{Result, accepted, refused, ◌>>=◌, or_refused}
use Rattle.model.specs.Kinds.{sequence_kind, struct_kind, map_kind, union_kind, tuple_kind, map_mode_kind, is_container, is_struct, Step, field, element, position, key, value, variant, same}
use Rattle.model.specs.Reading.{Value, val, cut, Parts, no_parts, cut_off, part, Shape, leaf, follows, parts, chosen, no_value, shape_of, Next, ended, next, bad, value_next, field_next, next_part, Got, marked, rest, read_value, read_shape, read_parts, enough, records_from, values}
use Rattle.model.specs.Tracing.{dots_of, depth_limit, place_limit, same_container, meet, has, clashes, positions_from, made, Counted, counted}
use Rattle.equality.specs.laws.Base.{and_left, or_cases, not_refused, choice}
use Rattle.equality.specs.laws.Proper.{type_fits}
use Rattle.equality.specs.laws.census.Kind.{struct_is_container}
use Rattle.equality.specs.laws.reading.Commands.{good}
use Rattle.equality.specs.laws.reading.Records.{records_end, records_cut, records_more, record_cases}
use Rattle.equality.specs.laws.reading.Proper.{has_parts, shape_fits, shape_fits_lem}
use Rattle.equality.specs.laws.reading.Steps.{read_cases, next_cases, value_command, value_refused, parts_ended, parts_next, parts_bad}
use Rattle.commands.specs.Bytes.{Bytes}
use Rattle.refine.specs.laws.numbered.Tree.{Spot, spot, Spots, no_spots, child, kind_s, samples_s, below_s, steps_s, new_spot, spot_at, put_s, add_s, make_s, make_all_s, sample_of, walk, walk_parts, walk_all}
use Rattle.emission.specs.laws.order.Arranged.{step_fits, FitS, FitIn}

-- ---- what fits: only a container has something below it, and by steps of its kind
abbrev Under : ℕ → Step → Type 0
Under kind s = (is_container kind ≡ true) × (step_fits kind s ≡ true)

abbrev mutual
  FitV : Value → Type 0
  FitV (val at b kind n ps) = (kind < 256) × (n < 65536) × FitParts kind ps
  FitV (cut refusal place) = Unit {0}

  FitParts : ℕ → Parts → Type 0
  FitParts kind no_parts = Unit {0}
  FitParts kind (cut_off refusal place) = Unit {0}
  FitParts kind (part at s v ps) = Under kind s × FitV v × FitParts kind ps

abbrev mutual
  Kept : Spot → Type 0
  Kept (spot p b k m ks) = (k < 256) × KeptIn k ks

  KeptIn : ℕ → Spots → Type 0
  KeptIn kind no_spots = Unit {0}
  KeptIn kind (child s h m u ks) = Under kind s × Kept u × KeptIn kind ks

mutual
  kept_fits : (u : Spot) → Kept u → FitS u
  kept_fits (spot p b k m ks) g = (g.0, kept_fit k ks g.1)

  kept_fit : (kind : ℕ) (ks : Spots) → KeptIn kind ks → FitIn kind ks
  kept_fit kind no_spots g = tt
  kept_fit kind (child s h m u ks) g = (g.0.1, kept_fits u g.1, kept_fit kind ks g.2)

kept_kind : (u : Spot) → Kept u → kind_s u < 256
kept_kind (spot p b k m ks) g = g.0

kept_below : (u : Spot) → Kept u → KeptIn (kind_s u) (below_s u)
kept_below (spot p b k m ks) g = g.1

-- ---- a kind that turns into another keeps what is below
abbrev Turns : ℕ → ℕ → Type 0
Turns k j = (s : Step) → Under k s → Under j s

turn_spots : (k j : ℕ) (ks : Spots) → Turns k j → KeptIn k ks → KeptIn j ks
turn_spots k j no_spots t g = tt
turn_spots k j (child s h m u ks) t g = (t s g.0, g.1, turn_spots k j ks t g.2)

turn_parts : (k j : ℕ) (ps : Parts) → Turns k j → FitParts k ps → FitParts j ps
turn_parts k j no_parts t g = tt
turn_parts k j (cut_off refusal place) t g = tt
turn_parts k j (part at s v ps) t g = (t s g.0, g.1, turn_parts k j ps t g.2)

-- both modes of a struct have the same steps
modes : (s : Step) → step_fits map_mode_kind s ≡ step_fits struct_kind s
unfolding when◌then◌else◌
modes (field name) = refl
modes element = refl
modes (position i) = refl
modes key = refl
modes value = refl
modes (variant number name) = refl

struct_steps : (k : ℕ) (s : Step) → is_struct k ≡ true → step_fits k s ≡ step_fits struct_kind s
struct_steps k s e = or_cases (eqb k struct_kind) (eqb k map_mode_kind) e (λ a. rw (eqb-true k struct_kind a)) (λ a. rw (eqb-true k map_mode_kind a) (modes s))

struct_turns : (k j : ℕ) → is_struct k ≡ true → is_struct j ≡ true → Turns k j
struct_turns k j p q s x = (struct_is_container j q, struct_steps j s q ∙ sym (struct_steps k s p) ∙ x.1)

-- what is no container has nothing below it
empty_turns : (k j : ℕ) → is_container k ≡ false → Turns k j
empty_turns k j e s x = absurd (true≢false (sym x.0 ∙ e))

null_turns : (k j : ℕ) → eqb k null ≡ true → Turns k j
null_turns k j e = empty_turns k j (ap is_container (eqb-true k null e))

joint_given : {P : Type 0} (o : Option ℕ) (n at j : ℕ) → or_refused n at o ≡ accepted j → (o ≡ some j → P) → P
joint_given none n at j e f = not_refused e
joint_given (some a) n at j e f = let z : a ≡ j = cc in f (rw z)

meet_turns : (options depth at k h j : ℕ) → k < 256 → h < 256 → meet options depth at k h ≡ accepted j → (j < 256) × Turns k j × Turns h j
unfolding meet when◌then◌else◌
meet_turns options depth at k h j lk lh e =
    cases (is_container h && leb depth_limit depth) (λ a. not_refused (rw a at e)) λ a.
    cases (is_container k)
    (λ b. cases (eqb h null)
    (λ c. let z : k ≡ j = let q = rw (a, b, c) at e in cc in rw (← z) (lk, (λ s x. x), null_turns h k c))
    (λ c. cases (eqb k null)
    (λ d. let z : h ≡ j = let q = rw (a, b, c, d) at e in cc in rw (← z) (lh, null_turns k h d, (λ s x. x)))
    (λ d. cases (same_container k h)
    (λ g. let z : k ≡ j = let q = rw (a, b, c, d, g) at e in cc in rw (← z) (lk, (λ s x. x), alike g))
    (λ g. not_refused (rw (a, b, c, d, g) at e)))))
    (λ b. cases (is_container h)
    (λ f. cases (eqb h null)
    (λ c. absurd (true≢false (sym f ∙ ap is_container (eqb-true h null c))))
    (λ c. cases (eqb k null)
    (λ d. let z : h ≡ j = let q = rw (a, b, f, c, d) at e in cc in rw (← z) (lh, null_turns k h d, (λ s x. x)))
    (λ d. cases (same_container k h)
    (λ g. let z : k ≡ j = let q = rw (a, b, f, c, d, g) at e in cc in rw (← z) (lk, (λ s x. x), alike g))
    (λ g. not_refused (rw (a, b, f, c, d, g) at e)))))
    (λ f. joint_given (joint options k h) _ at j (rw (a, b, f) at e) λ q. (joint_below 256 options k h j (omega arith) lk lh q, empty_turns k j b, empty_turns h j f)))
  where
    alike : same_container k h ≡ true → Turns h k
    alike g =
        or_cases (eqb k h) (is_struct k && is_struct h) g
        (λ c. rw (eqb-true k h c) (λ s x. x))
        (λ c. cases (is_struct k) (λ p. struct_turns h k (rw p at c) p) (λ p. absurd (true≢false (sym (rw p at c)))))

-- ---- P of what an outcome counts
abbrev Gives : {A : Type 0} → (A → Type 0) → Result (Counted A) → Type 0
Gives P (accepted r) = P r.what
Gives P (refused n at) = Unit {0}

after : {A B : Type 0} (Q : B → Type 0) (r : Result A) (f : A → Result (Counted B)) → ((a : A) → r ≡ accepted a → Gives Q (f a)) → Gives Q (r >>= f)
after Q (accepted a) f h = h a refl
after Q (refused n at) f h = tt

then_gives : {A B : Type 0} (P : A → Type 0) (Q : B → Type 0) (r : Result (Counted A)) (f : Counted A → Result (Counted B)) → Gives P r →
    ((x : Counted A) → P x.what → Gives Q (f x)) → Gives Q (r >>= f)
then_gives P Q (accepted x) f g h = h x g
then_gives P Q (refused n at) f g h = tt

-- ---- a walk keeps the tree fitting
new_kept : (n : ℕ) → Kept (new_spot n)
new_kept n = (omega arith, tt)

at_kept : (kind : ℕ) (s : Step) (ks : Spots) → KeptIn kind ks → Kept (spot_at s ks)
unfolding spot_at
at_kept kind s no_spots g = new_kept 0
at_kept kind s (child r h m u ks) g = choice Kept (same s r) (λ e. g.1) (λ e. at_kept kind s ks g.2)

put_kept : (kind : ℕ) (s : Step) (sample : ℕ) (v : Spot) (ks : Spots) → Kept v → KeptIn kind ks → KeptIn kind (put_s s sample v ks)
unfolding put_s
put_kept kind s sample v no_spots k g = tt
put_kept kind s sample v (child r h m u ks) k g = choice (KeptIn kind) (same s r) (λ e. (g.0, k, g.2)) (λ e. (g.0, g.1, put_kept kind s sample v ks k g.2))

add_kept : (kind : ℕ) (s : Step) (n : ℕ) (ks : Spots) → Under kind s → KeptIn kind ks → KeptIn kind (add_s s n ks)
unfolding add_s
add_kept kind s n no_spots f g = (f, new_kept n, tt)
add_kept kind s n (child r h m u ks) f g = (g.0, g.1, add_kept kind s n ks f g.2)

make_kept : (kind at : ℕ) (s : Step) (n : ℕ) (ks : Spots) → Under kind s → KeptIn kind ks → Gives (KeptIn kind) (make_s at s n ks)
unfolding make_s
make_kept kind at s n ks f g =
    let P : Result (Counted Spots) → Type 0 = Gives (KeptIn kind) in
    choice P (clashes s (steps_s ks)) (λ e. tt) λ e. choice P (has s (steps_s ks)) (λ e. g) λ e. choice P (ltb n place_limit) (λ e. add_kept kind s n ks f g) λ e. tt

all_made : (kind at : ℕ) (ss : List Step) (n : ℕ) (ks : Spots) → All (Under kind) ss → KeptIn kind ks → Gives (KeptIn kind) (make_all_s at ss n ks)
unfolding make_all_s
all_made kind at [] n ks f g = g
all_made kind at (s ∷ ss) n ks f g =
    then_gives (KeptIn kind) (KeptIn kind) (make_s at s n ks) (λ r. make_all_s at ss r.places r.what) (make_kept kind at s n ks f.0 g) (λ r i. all_made kind at ss r.places r.what f.1 i)

-- the places that a container makes are by steps of its kind
position_fits : (i : ℕ) → i < 65536 → step_fits tuple_kind (position i) ≡ true
unfolding when◌then◌else◌
position_fits i l = lt-ltb i (2 ^ 16) l

positions_fit : (i n : ℕ) → i + n ≤ 65536 → All (Under tuple_kind) (positions_from i n)
positions_fit i zero l = tt
positions_fit i (suc n) l = ((refl, position_fits i (omega arith)), positions_fit (suc i) n (omega arith))

made_fits : (kind n before : ℕ) → n < 65536 → All (Under kind) (made kind n before)
unfolding made when◌then◌else◌
made_fits kind n before l =
    let P : List Step → Type 0 = All (Under kind) in
    choice P (eqb kind sequence_kind) (λ e. rw (eqb-true kind sequence_kind e) ((refl, refl), tt)) λ e.
    choice P (eqb kind map_kind) (λ e. rw (eqb-true kind map_kind e) ((refl, refl), ((refl, refl), tt))) λ e.
    choice P (eqb kind tuple_kind && eqb before null) (λ e. rw (eqb-true kind tuple_kind (and_left (eqb kind tuple_kind) (eqb before null) e)) (positions_fit 0 n (omega arith))) λ e. tt

mutual
  unfolding walk walk_parts

  walk_kept : (options depth : ℕ) (v : Value) (n : ℕ) (u : Spot) → FitV v → Kept u → Gives Kept (walk options depth v n u)
  walk_kept options depth (val at b kind count ps) n u f g =
      after Kept (meet options depth at (kind_s u) kind) _ λ j e.
      let t = meet_turns options depth at (kind_s u) kind j (kept_kind u g) f.0 e in
      let below = turn_spots (kind_s u) j (below_s u) t.1 (kept_below u g) in
      let steps = all_map (Under kind) (Under j) (made kind count (kind_s u)) t.2 (made_fits kind count (kind_s u) f.1) in
      then_gives (KeptIn j) Kept (make_all_s at (made kind count (kind_s u)) n (below_s u)) _ (all_made j at (made kind count (kind_s u)) n (below_s u) steps below) λ x h.
      then_gives (KeptIn j) Kept (walk_parts options depth (sample_of kind (samples_s u)) ps x.places x.what) _
      (parts_kept options depth (sample_of kind (samples_s u)) j ps x.places x.what (turn_parts kind j ps t.2 f.2) h) λ q i. (t.0, i)
  walk_kept options depth (cut refusal place) n u f g = tt

  parts_kept : (options depth sample kind : ℕ) (ps : Parts) (n : ℕ) (ks : Spots) → FitParts kind ps → KeptIn kind ks → Gives (KeptIn kind) (walk_parts options depth sample ps n ks)
  parts_kept options depth sample kind no_parts n ks f g = g
  parts_kept options depth sample kind (cut_off refusal place) n ks f g = tt
  parts_kept options depth sample kind (part at s v ps) n ks f g =
      then_gives (KeptIn kind) (KeptIn kind) (make_s at s n ks) _ (make_kept kind at s n ks f.0 g) λ r h.
      then_gives Kept (KeptIn kind) (walk options (depth + dots_of s) v r.places (spot_at s r.what)) _
      (walk_kept options (depth + dots_of s) v r.places (spot_at s r.what) f.1 (at_kept kind s r.what h)) λ q i.
      parts_kept options depth sample kind ps q.places (put_s s sample q.what r.what) f.2 (put_kept kind s sample q.what r.what i h)

all_kept : (options : ℕ) (vs : List Value) (n : ℕ) (u : Spot) → All FitV vs → Kept u → Gives Kept (walk_all options vs n u)
unfolding walk_all
all_kept options [] n u f g = g
all_kept options (v ∷ vs) n u f g =
    then_gives Kept Kept (walk options 0 v n u) _ (walk_kept options 0 v n u f.0 g) λ r i. all_kept options vs r.places r.what f.1 i

-- ---- what is read fits
byte_below : (commands : List ℕ) (i : ℕ) → Bytes commands → get_or commands i 0 < 256
byte_below [] i h = omega arith
byte_below (b ∷ bs) zero h = h.0
byte_below (b ∷ bs) (suc i) h = byte_below bs i h.1

all_at : {A : Type 0} (P : A → Type 0) (xs : List A) (i : ℕ) (d : A) → All P xs → P d → P (get_or xs i d)
all_at P [] i d h p = p
all_at P (x ∷ xs) zero d h p = h.0
all_at P (x ∷ xs) (suc i) d h p = all_at P xs i d h.1 p

-- numbers and counts are operands, two bytes
abbrev Short : Shape → Type 0
Short (leaf null type) = Unit {0}
Short (follows mark) = Unit {0}
Short (parts kind n) = n < 65536
Short (chosen number name contents) = (number < 65536) × Short contents
Short no_value = Unit {0}

module _ (options : ℕ) (commands text : List ℕ) (bytes : Bytes commands) where
  operand_short : (at : ℕ) → operand_at commands at < 65536
  operand_short at = let a = byte_below commands at bytes in let b = byte_below commands (at + 1) bytes in omega arith

  forms_short : (at : ℕ) → All (λ form. Short (shape_of options text (M.made form commands at))) forms
  unfolding shape_of M.made
  forms_short at =
      let k = operand_short at in
      let n = operand_short (at + 6) in
      let z : 0 < 65536 = omega arith in
      (tt, (tt, (tt, (tt, (tt, (tt, (tt, (tt, (tt, (tt, (tt, (tt, (tt, (tt, (tt, (tt, (tt, (tt, (z, (k, (z, (z, (tt, (tt, ((k, tt), ((k, tt), ((k, n), ((k, z), tt))))))))))))))))))))))))))))

  shape_short : (at : ℕ) (c : Command) (b : ℕ) → read_command commands text at D.Value ≡ Ok (c, b) → Short (shape_of options text c)
  unfolding form_of shape_of M.made
  shape_short at c b e =
      rw (good commands text at D.Value c b e).what
      (all_at (λ form. Short (shape_of options text (M.made form commands (at + 1)))) forms (get_or commands at 0) (plain C.Unit) (forms_short (at + 1)) tt)

-- what stands before a part is a step of the container's kind
abbrev NextUnder : ℕ → Next → Type 0
NextUnder kind (ended b) = Unit {0}
NextUnder kind (next s a) = step_fits kind s ≡ true
NextUnder kind (bad n p) = Unit {0}

module _ (commands text : List ℕ) (kind at : ℕ) where
  value_under : (s : Step) (r : Read) → step_fits kind s ≡ true → NextUnder kind (value_next commands s at r)
  value_under s (Ok (c, b)) f = choice (NextUnder kind) (eqb (get_or commands at 0) end_byte) (λ e. tt) (λ e. f)
  value_under s (Err r) f = tt

  field_under : (r : Read) → eqb kind union_kind ≡ false → NextUnder kind (field_next commands text at r)
  unfolding when◌then◌else◌
  field_under (Ok (c, b)) f = choice (NextUnder kind) (eqb (get_or commands at 0) end_byte) (λ e. tt) (λ e. rw f)
  field_under (Err r) f = tt

  next_under : (n i : ℕ) → has_parts kind ≡ true → n < 65536 → NextUnder kind (next_part commands text kind n i at)
  unfolding next_part when◌then◌else◌
  next_under n i h l =
      let P : Next → Type 0 = NextUnder kind in
      choice P (eqb kind sequence_kind) (λ e. value_under element (read_command commands text at D.ValueOrEnd) (rw (eqb-true kind sequence_kind e))) λ e1.
      choice P (eqb kind struct_kind) (λ e. field_under (read_command commands text at D.FieldOrEnd) (rw (eqb-true kind struct_kind e))) λ e2.
      choice P (eqb kind map_mode_kind) (λ e. field_under (read_command commands text at D.KeyOrEnd) (rw (eqb-true kind map_mode_kind e))) λ e3.
      choice P (eqb kind map_kind && eqb (i % 2) 0) (λ e. value_under key (read_command commands text at D.ValueOrEnd) (rw (eqb-true kind map_kind (and_left (eqb kind map_kind) (eqb (i % 2) 0) e)))) λ e4.
      choice P (eqb kind map_kind) (λ e. value_under value (read_command commands text at D.Value) (rw (eqb-true kind map_kind e))) λ e5.
      let k : eqb kind tuple_kind ≡ true = rw (e1, e2, e3, e5) at h in
      choice P (ltb i n)
      (λ e. let s : i < n = ltb-true i n e in value_under (position i) (read_command commands text at D.Value) (rw (eqb-true kind tuple_kind k) (position_fits i (omega arith))))
      λ e. tt

-- the kinds of containers that have parts
parts_kind : (k : ℕ) → has_parts k ≡ true → (is_container k ≡ true) × (k < 256)
parts_kind k e =
    or_cases _ (eqb k tuple_kind) e
    (λ e₁. or_cases _ (eqb k map_kind) e₁
    (λ e₂. or_cases _ (eqb k map_mode_kind) e₂
    (λ e₃. or_cases (eqb k sequence_kind) (eqb k struct_kind) e₃ (λ a. one sequence_kind a (refl, omega arith)) (λ a. one struct_kind a (refl, omega arith)))
    (λ a. one map_mode_kind a (refl, omega arith)))
    (λ a. one map_kind a (refl, omega arith)))
    (λ a. one tuple_kind a (refl, omega arith))
  where
    one : (j : ℕ) → eqb k j ≡ true → (is_container j ≡ true) × (j < 256) → (is_container k ≡ true) × (k < 256)
    one j a x = rw (eqb-true k j a) x

type_below : (options type : ℕ) → type_fits options type ≡ true → type < 256
type_below options type e = let l : type < dictionary_utf8 = ltb-true type dictionary_utf8 (and_left (ltb type dictionary_utf8) _ e) in omega arith

marked_fits : (mark : Bool) (v : Value) → FitV v → FitV (marked mark v)
marked_fits mark (val at b kind n ps) f = f
marked_fits mark (cut refusal place) f = tt

rest_fits : (kind : ℕ) (o : Option ℕ) (more : ℕ → Got Parts) → ((b : ℕ) → FitParts kind (more b).0) → FitParts kind (rest o more).0
rest_fits kind none more f = tt
rest_fits kind (some b) more f = f b

variant_fits : (number : ℕ) (name : List ℕ) → number < 65536 → step_fits union_kind (variant number name) ≡ true
unfolding when◌then◌else◌
variant_fits number name l = lt-ltb number (2 ^ 16) l

module _ (options : ℕ) (commands text : List ℕ) (bytes : Bytes commands) where
  mutual
    unfolding read_value

    value_fits : (f at : ℕ) → FitV (read_value f options commands text at).0
    value_fits zero at = tt
    value_fits (suc f) at =
        read_cases (read_command commands text at D.Value)
        (λ c b r. rw (value_command options commands text f at c b r) (begun_fits f at b (shape_of options text c) (shape_fits_lem options text c) (shape_short options commands text bytes at c b r)))
        (λ n p r. rw (value_refused options commands text f at n p r) tt)

    begun_fits : (f at b : ℕ) (shape : Shape) → shape_fits options shape ≡ true → Short shape → FitV (read_shape f options commands text at b shape).0
    begun_fits zero at b shape k l = tt
    begun_fits (suc f) at b (leaf null type) k l = (type_below options type k, omega arith, tt)
    begun_fits (suc f) at b (follows mark) k l = marked_fits mark (read_value f options commands text b).0 (value_fits f b)
    begun_fits (suc f) at b (parts kind n) k l = ((parts_kind kind k).1, l, parts_fit f kind n 0 b k l)
    begun_fits (suc f) at b (chosen number name contents) k l = (omega arith, omega arith, ((refl, variant_fits number name l.0), begun_fits f at b contents k l.1, tt))
    begun_fits (suc f) at b no_value k l = tt

    parts_fit : (f kind n i at : ℕ) → has_parts kind ≡ true → n < 65536 → FitParts kind (read_parts f options commands text kind n i at).0
    parts_fit zero kind n i at k l = tt
    parts_fit (suc f) kind n i at k l =
        next_cases (next_part commands text kind n i at)
        (λ b r. rw (parts_ended options commands text f kind n i at b r) tt)
        (λ s a r. rw (parts_next options commands text f kind n i at s a r) (
          ((parts_kind kind k).0, rw r at (next_under commands text kind at n i k l)),
          value_fits f a,
          rest_fits kind (read_value f options commands text a).1 (λ behind. read_parts f options commands text kind n (i + 1) behind) (λ b. parts_fit f kind n (i + 1) b k l),
        ))
        (λ m p r. rw (parts_bad options commands text f kind n i at m p r) tt)

  records_fit : (f at : ℕ) → All FitV (records_from f options commands text at)
  unfolding records_from
  records_fit zero at = tt
  records_fit (suc f) at =
      record_cases options commands text at
      (λ l. rw (records_end options commands text (suc f) at l) tt)
      (λ l e. rw (records_cut options commands text f at l e) (value_fits (enough commands) at, tt))
      (λ b l e. rw (records_more options commands text f at b l e) (value_fits (enough commands) at, records_fit f b))

  values_fit : All FitV (values options commands text)
  unfolding values
  values_fit = records_fit (length commands) 0

-- the tree that a batch gives
pub fit : (options : ℕ) (commands text : List ℕ) → Bytes commands → (n : ℕ) (u : Spot) → walk_all options (values options commands text) 1 (new_spot 0) ≡ counted n u → FitS u
fit options commands text bytes n u e =
    kept_fits u (subst (Gives Kept) e (all_kept options (values options commands text) 1 (new_spot 0) (values_fit options commands text bytes) (new_kept 0)))
