-- The table stays sound while values are read, and its places stay places.
use Prim.{tt}
use Rattle.std.proofs.Math.Path.{◌≡◌}
use Rattle.std.specs.Prelude.{refl, true, List, ◌-◌, ℕ, zero, suc, ◌+◌, ◌*◌, ◌<◌, ◌≤◌, Result, Ok, Err, Some, None}
use Rattle.std.proofs.lemmas.Bool.{false≢true}
use Rattle.std.proofs.Common.{le_refl, ne_eqb, leb-false}
use native.Mathlib.Omega.{arith}
use Rattle.logic.specs.Test.{when◌then◌else◌}
use Rattle.logic.specs.laws.Test.{cases}
use Rattle.refusal.specs.declared.Refusal.{Refusal}
use Rattle.refusal.specs.declared.Refusal.TheVariants as F
use Rattle.text.specs.declared.Name.{Name}
use Rattle.words.specs.Word.{word, IsRow, IsTable}
use Rattle.model.specs.Kinds.{sequence_kind, struct_kind, map_kind, tuple_kind, union_kind, map_mode_kind, is_container}
use Rattle.model.specs.Tracing.{place_limit}
use Rattle.shapes.specs.declared.Step.{Step}
use Rattle.shapes.specs.declared.Step.TheVariants as S
use Rattle.places.specs.Layout.{kind_word, first_word, Sound, Ready}
use Rattle.growth.specs.Growth.{Found, Ensured, Made, found, Ensuring, ensuring, ensured, sampled, making, made, SoundMade}
use Rattle.kinds.specs.declared.Met.{Met}
use Rattle.kinds.specs.Meeting.{meeting}
use Rattle.growth.specs.laws.Growth.{OnChild, OnPlaces, all_more, ensured_more}
use Rattle.shapes.specs.Shapes.{is_parted}
use Rattle.opening.specs.Opening.{Opened, holding, held, made_where, container_made, held_where, variant_held, SoundOpened}
use Rattle.leaves.specs.Leaves.{Outcome, traced_to, SoundTraced}
use Rattle.places.specs.laws.Layout.{is_place}

sub_le : (a b : ℕ) → a - b ≤ a
sub_le a b = omega arith

-- ---- what a reader left
module _ (text t : List ℕ) (n : ℕ) (r : Outcome) (s : SoundTraced text t n r) where
  -- counted from fewer places
  pub traced_from : (k : ℕ) → k ≤ n → SoundTraced text t k r
  traced_from k h = go r s
    where
      go : (r : Outcome) → SoundTraced text t n r → SoundTraced text t k r
      go (Ok to) (a, b) = (a, omega arith)
      go (Err x) a = tt

  module _ (behind m : ℕ) (e : r ≡ traced_to behind m) where
    pub traced_sound : Sound text t m
    traced_sound = (rw e at s).0

    pub traced_grows : n ≤ m
    traced_grows = (rw e at s).1

    pub traced_ready : (place : ℕ) → place < n → Ready text t m place
    traced_ready place h = let g : n ≤ m = traced_grows in record { sound = traced_sound; here = omega arith }

    -- its first child is one of the table
    pub traced_first : (place : ℕ) → place < n → IsRow place × IsTable t × IsRow (word t place first_word)
    traced_first place h =
        let ready : Ready text t m place = traced_ready place h in
        let most : m ≤ place_limit = ready.sound.linked.most in
        let is : IsRow place = is_place text t m place ready in
        let first : word t place first_word < m = ready.sound.linked.first place is in
        (is, ready.sound.linked.room, omega arith)

-- ---- what was opened: no place is lost, and there was a level left
all_held : (n : ℕ) (text : List ℕ) (place : ℕ) (step : Step) (t : List ℕ) → OnChild (λ child m. n ≤ m) (held text place step n t)
unfolding held
all_held n text place step t = go (ensured text place step n t) (ensured_more text t n place step)
  where
    go : (x : Ensuring) → OnChild (λ child m. n ≤ m) x → OnChild (λ child m. n ≤ m) (holding place x)
    go (ensuring (Ok f) v) h = h
    go (ensuring (Err refusal) v) h = tt

-- a container where no level is left
too_deep_lem : (options kind other : ℕ) → is_container other ≡ true → meeting options 0 kind other ≡ Err F.TooDeep
unfolding meeting when◌then◌else◌
too_deep_lem options kind other e = rw e refl

parted_container : (kind : ℕ) → is_parted kind ≡ true → is_container kind ≡ true
unfolding is_parted
parted_container kind is =
    cases (is_container kind) (λ e. e) (λ e.
    let small : kind < 22 = leb-false 22 kind e in
    absurd (false≢true (rw (
      ne_eqb kind struct_kind (λ q. omega arith),
      ne_eqb kind map_mode_kind (λ q. omega arith),
      ne_eqb kind sequence_kind
          (λ q. omega arith),
      ne_eqb kind map_kind (λ q. omega arith),
      ne_eqb kind tuple_kind (λ q. omega arith),
    ) at is)))

module _ (text t u : List ℕ) (options levels kind positions place n : ℕ) (did : Made)
    (d : making did u ≡ container_made text options levels kind positions place n t) (m : ℕ) (e : did ≡ Ok m) where
  opened_grows : n ≤ m
  unfolding container_made
  opened_grows = rw (← d, e) at (go (meeting options levels (word t place kind_word) kind))
    where
      go : (met : Result Met Refusal) → OnPlaces (λ k. n ≤ k) (made_where t (λ joint. made text place kind positions (word t place kind_word) n (sampled place joint t)) met)
      go (Ok met) = all_more text (sampled place met.kind t) place kind positions (word t place kind_word) n
      go (Err refusal) = tt

  pub opened_from : (r : Outcome) (v : List ℕ) → SoundTraced text v m r → SoundTraced text v n r
  opened_from r v s = traced_from text v m r s n opened_grows

  pub opened_ready : Ready text t n place → SoundMade text u did → Ready text u m place
  opened_ready ready s = let g : n ≤ m = opened_grows in let h : place < n = ready.here in record { sound = rw e at s; here = omega arith }

  pub opened_left : is_parted kind ≡ true → 0 < levels
  unfolding container_made
  opened_left is = go levels d
    where
      differ : {refusal : Refusal} → making (Ok m) u ≡ making (Err refusal) t → ⊥
      differ q = let z : ◌≡◌ {A = ℕ} 0 1 = cc in omega arith

      go : (l : ℕ) → making did u ≡ made_where t (λ joint. made text place kind positions (word t place kind_word) n (sampled place joint t)) (meeting options l (word t place kind_word) kind) → 0 < l
      go zero q = absurd (differ (rw (e, too_deep_lem options (word t place kind_word) kind (parted_container kind is)) at q))
      go (suc l) q = omega arith

module _ (text t u : List ℕ) (options levels number : ℕ) (name : Name) (place n : ℕ) (did : Ensured)
    (d : ensuring did u ≡ variant_held text options levels number name place n t) (f : Found) (e : did ≡ Ok f) where
  chosen_grows : n ≤ f.count
  unfolding variant_held
  chosen_grows = rw (← d, e) at (go (meeting options levels (word t place kind_word) union_kind))
    where
      go : (met : Result Met Refusal) → OnChild (λ c k. n ≤ k) (held_where t (λ joint. held text place (S.Variant number name) n (sampled place joint t)) met)
      go (Ok met) = all_held n text place (S.Variant number name) (sampled place met.kind t)
      go (Err refusal) = tt

  pub chosen_from : (r : Outcome) (v : List ℕ) → SoundTraced text v f.count r → SoundTraced text v n r
  chosen_from r v s = traced_from text v f.count r s n chosen_grows

  pub chosen_left : 0 < levels
  unfolding variant_held
  chosen_left = go levels d
    where
      differ : {refusal : Refusal} → ensuring (Ok f) u ≡ ensuring (Err refusal) t → ⊥
      differ q = let z : ◌≡◌ {A = ℕ} 0 1 = cc in omega arith

      go : (l : ℕ) → ensuring did u ≡ held_where t (λ joint. held text place (S.Variant number name) n (sampled place joint t)) (meeting options l (word t place kind_word) union_kind) → 0 < l
      go zero q = absurd (differ (rw (e, too_deep_lem options (word t place kind_word) union_kind refl) at q))
      go (suc l) q = omega arith

module _ (text t u : List ℕ) (place n : ℕ) (step : Step) (did : Ensured) (d : ensuring did u ≡ held text place step n t) (f : Found) (e : did ≡ Ok f) where
  pub held_from : (r : Outcome) (v : List ℕ) → SoundTraced text v f.count r → SoundTraced text v n r
  held_from r v s = traced_from text v f.count r s n (rw (← d, e) at (all_held n text place step t))

-- the child of a field is ready
module _ (text u : List ℕ) (n : ℕ) (did : Opened) (s : SoundOpened text u n did) where
  pub field_ready : (child m : ℕ) → did ≡ Ok (Some (found child m)) → Ready text u m child
  field_ready child m e = (rw e at s).0

  pub field_grows : (child m : ℕ) → did ≡ Ok (Some (found child m)) → n ≤ m
  field_grows child m e = (rw e at s).1

  pub field_still : (child m place : ℕ) → did ≡ Ok (Some (found child m)) → place < n → place < m
  field_still child m place e h = let g : n ≤ m = field_grows child m e in omega arith

  pub field_ends : (at : ℕ) → did ≡ Ok None → SoundTraced text u n (traced_to at n)
  field_ends at e = (rw e at s, le_refl n)

-- ---- the measure of the readers falls: a container's parts have one level less, and names take one for each dot
pub falls_parts : (levels measure : ℕ) → 8 * levels + 1 ≡ measure → 0 < levels → 8 * (levels - 1) + 7 < measure
falls_parts levels measure e h = omega arith

pub falls_contents : (levels lower dots measure : ℕ) → 8 * levels + 1 ≡ measure → 0 < levels → lower ≡ levels - 1 - dots → 8 * lower + 4 < measure
falls_contents levels lower dots measure e h l = let m : lower ≤ levels - 1 = rw l (sub_le (levels - 1) dots) in omega arith

pub falls_named : (levels lower dots measure : ℕ) → 8 * levels + 3 ≡ measure → lower ≡ levels - dots → 8 * lower + 2 < measure
falls_named levels lower dots measure e l = let m : lower ≤ levels = rw l (sub_le levels dots) in omega arith

-- ---- the kinds that commands open
pub sequence_parted : is_parted sequence_kind ≡ true
unfolding is_parted
sequence_parted = refl

pub struct_parted : is_parted struct_kind ≡ true
unfolding is_parted
struct_parted = refl

pub tuple_parted : is_parted tuple_kind ≡ true
unfolding is_parted
tuple_parted = refl
