-- Kinds that meet at a place one after another leave the same in any order, where the place is not shown both as struct and as map.
use Rattle.std.specs.Prelude.{◌≡◌, Bool, not, ◌&&◌, ◌||◌, ℕ, ◌<◌, ltb}
use Rattle.std.proofs.Math.Path.{refl, ap, ap₂, subst, sym}
use Rattle.std.proofs.Common.{◌∙◌, true≢false, arith}
use Rattle.std.proofs.Math.Bool.{true, false, or-false, or_comm, and_comm}
use Rattle.std.proofs.lemmas.Bool.{false≢true}
use mathlib.Core.List.{List, ◌∷◌, Permᴰ}
use Rattle.std.proofs.Math.Option.{Option, none, some}
use Rattle.std.proofs.Math.Dec.{eqb}
use borrow.Author.Tests.{eqb-true, eqb-false, eq-eqb, ne_eqb, leb-false, lt-leb, ltb-true}
use Rattle.logic.specs.Test.{when◌then◌else◌}
use Rattle.logic.specs.laws.Test.{cases, both, neither}
use Rattle.logic.specs.laws.Flag.{if_either}
use Rattle.logic.specs.All.{All}
use Rattle.logic.specs.laws.All.{all_perm}
use Rattle.logic.specs.Maybe.{and_then, OnSome}
use Rattle.datatype.specs.Codes.{null, int64, uint64, float64, dictionary_utf8}
use Rattle.options.specs.Word.{allow_to_string, string_as_large_utf8, string_type}
use Rattle.coerce.specs.Joint.{is_string, joint}
use Rattle.coerce.specs.laws.Rules.{fitting, Fits, null_fits, joint_swap}
use Rattle.coerce.specs.laws.Joined.{joint_null, null_joint, joint_among, joint_below}
use Rattle.model.specs.Kinds.{sequence_kind, struct_kind, map_kind, union_kind, tuple_kind, map_mode_kind, is_container, is_struct}
use Rattle.model.specs.Tracing.{same_container}
use Rattle.equality.specs.laws.Base.{and_left, and_right}
use Rattle.equality.specs.laws.Proper.{is_container_kind, type_fits, kind_fits}
use Rattle.equality.specs.laws.tracing.Place.{onward, together, together_all}

-- ---- one answer after another
onward_is : {A B : Type 0} (r : Option A) (f : A → Option B) → onward r f ≡ and_then r f
unfolding and_then
onward_is none f = refl
onward_is (some a) f = refl

onward_agree : {A B : Type 0} (r : Option A) (f g : A → Option B) → ((a : A) → r ≡ some a → f a ≡ g a) → onward r f ≡ onward r g
onward_agree none f g h = refl
onward_agree (some a) f g h = h a refl

onward_assoc : {A B C : Type 0} (r : Option A) (f : A → Option B) (g : B → Option C) → onward (onward r f) g ≡ onward r (λ a. onward (f a) g)
onward_assoc none f g = refl
onward_assoc (some a) f g = refl

onward_keeps : {A : Type 0} (r : Option A) (f : A → Option A) → ((a : A) → f a ≡ some a) → onward r f ≡ r
onward_keeps none f h = refl
onward_keeps (some a) f h = h a

onward_none : {A B : Type 0} (r : Option A) (f : A → Option B) → ((a : A) → r ≡ some a → f a ≡ none) → onward r f ≡ none
onward_none none f h = refl
onward_none (some a) f h = h a refl

on_each : (P : ℕ → Type 0) (r : Option ℕ) → ((u : ℕ) → r ≡ some u → P u) → OnSome P r
on_each P none h = tt
on_each P (some u) h = h u refl

-- ---- kinds that go by the options, with only one of the two modes of a struct among them
pub record Suits (o mode k : ℕ) : Type 0 where
  pub fits : kind_fits o k ≡ true
  pub moded : is_struct k ≡ true → k ≡ mode

-- a kind that fits and is no container is a type that fits, also as the joint asks it
no_container : (k : ℕ) → is_container k ≡ false → is_container_kind k ≡ false
no_container k e =
    let h : k < sequence_kind = leb-false sequence_kind k e in
    rw (
      ne_eqb k sequence_kind (omega arith),
      ne_eqb k struct_kind (omega arith),
      ne_eqb k map_kind (omega arith),
      ne_eqb k union_kind
          (omega arith),
      ne_eqb k tuple_kind (omega arith),
      ne_eqb k map_mode_kind (omega arith),
    )

pub type_fits_lem : (o k : ℕ) → is_container k ≡ false → kind_fits o k ≡ true → type_fits o k ≡ true
type_fits_lem o k e f = rw (no_container k e) at f

pub type_below : (o k : ℕ) → type_fits o k ≡ true → k < dictionary_utf8
type_below o k f = ltb-true k dictionary_utf8 (and_left (ltb k dictionary_utf8) _ f)

pub fits_joint : (o k : ℕ) → type_fits o k ≡ true → Fits o k
unfolding fitting when◌then◌else◌
fits_joint o k f =
    let r = and_right (ltb k dictionary_utf8) _ f in
    rw (and_left (ltb k dictionary_utf8) _ f) (cases (is_string k) (λ e. rw e (rw e at r)) (λ e. rw e))

-- ---- two kinds
module _ (o : ℕ) where
  together_null : (k : ℕ) → together o k null ≡ some k
  unfolding together when◌then◌else◌
  together_null k = cases (is_container k) (λ e. rw e) (λ e. rw e (joint_null o k))

  null_together : (k : ℕ) → together o null k ≡ some k
  unfolding together when◌then◌else◌
  null_together k =
      cases (is_container k)
      (λ e. rw e (cases (eqb k null) (λ f. rw (f, eqb-true k null f)) (λ f. rw f)))
      (λ e. rw e (null_joint o k))

  -- what comes of two kinds is one of them, a wide number type or the string type
  together_among : (P : ℕ → Type 0) (k h u : ℕ) → P k → P h → P float64 → P int64 → P uint64 → P (string_type o) → together o k h ≡ some u → P u
  unfolding together
  together_among P k h u pk ph pf pi pu ps e =
      subst (OnSome P) e
      (if_either (OnSome P) (not (is_container k || is_container h)) (on_each P (joint o k h) (λ v q. joint_among P o k h v pk ph pf pi pu ps q))
      (if_either (OnSome P) (eqb h null) pk
      (if_either (OnSome P) (eqb k null) ph
      (if_either (OnSome P) (same_container k h) pk tt))))

  together_types : (k h : ℕ) → (is_container k || is_container h) ≡ false → together o k h ≡ joint o k h
  unfolding together when◌then◌else◌
  together_types k h e = rw e

module _ (o mode : ℕ) where
  string_suits : Suits o mode (string_type o)
  unfolding when◌then◌else◌
  string_suits = cases (string_as_large_utf8 o) (λ e. record { fits = rw e; moded = rw e (λ z. absurd (false≢true z)) }) (λ e. record { fits = rw e; moded = rw e (λ z. absurd (false≢true z)) })

  -- a kind that fits and is no struct
  other_suits : (k : ℕ) → kind_fits o k ≡ true → is_struct k ≡ false → Suits o mode k
  other_suits k f n = record { fits = f; moded = λ s. absurd (true≢false (sym s ∙ n)) }

  pub null_suits : Suits o mode null
  unfolding when◌then◌else◌
  null_suits = other_suits null refl refl

  together_suits : (k h u : ℕ) → Suits o mode k → Suits o mode h → together o k h ≡ some u → Suits o mode u
  unfolding when◌then◌else◌
  together_suits k h u a b e =
      together_among o (Suits o mode) k h u a b (other_suits float64 refl refl) (other_suits int64 refl refl) (other_suits uint64 refl refl) string_suits e

  same_is : (k h : ℕ) → Suits o mode k → Suits o mode h → same_container k h ≡ eqb k h
  same_is k h a b =
      cases (is_struct k && is_struct h)
      (λ s. both (is_struct k) (is_struct h) s λ p q. rw (eq-eqb k h (a.moded p ∙ sym (b.moded q))))
      (λ s. rw s (or-false (eqb k h)))

  -- where one of them is a container and neither is Null, they are the same or do not go together
  met : (k h : ℕ) → Suits o mode k → Suits o mode h → (is_container k || is_container h) ≡ true → eqb k null ≡ false → eqb h null ≡ false
      → together o k h ≡ (when eqb k h then some k else none)
  unfolding together when◌then◌else◌
  met k h a b c n m = rw (together, c, n, m, same_is k h a b)

-- ---- three kinds: two that meet a third may change places
module _ (o : ℕ) (off : allow_to_string o ≡ false) (mode : ℕ) where
  abbrev Ok : ℕ → Type 0
  Ok = Suits o mode

  joint_fits : (k : ℕ) → is_container k ≡ false → Ok k → Fits o k
  joint_fits k e a = fits_joint o k (type_fits_lem o k e a.fits)

  -- the joint of two types is no container, and not Null if neither of them is
  joint_type : (k h u : ℕ) → is_container k ≡ false → is_container h ≡ false → Ok k → Ok h → joint o k h ≡ some u → is_container u ≡ false
  joint_type k h u e f a b j =
      let p : k < dictionary_utf8 = type_below o k (type_fits_lem o k e a.fits) in
      let q : h < dictionary_utf8 = type_below o h (type_fits_lem o h f b.fits) in
      let r : u < dictionary_utf8 = joint_below dictionary_utf8 o k h u (omega arith) p q j in
      lt-leb sequence_kind u (omega arith)

  joint_not_null : (k h u : ℕ) → eqb k null ≡ false → eqb h null ≡ false → joint o k h ≡ some u → eqb u null ≡ false
  unfolding when◌then◌else◌
  joint_not_null k h u n m e =
      joint_among (λ t. eqb t null ≡ false) o k h u n m refl refl refl (cases (string_as_large_utf8 o) (λ q. rw q) (λ q. rw q)) e

  -- with a container among three kinds that are not Null, all are the same or they do not go together
  three : (t a b : ℕ) → Ok t → Ok a → Ok b → eqb t null ≡ false → eqb a null ≡ false → eqb b null ≡ false → ((is_container t || is_container a) || is_container b) ≡ true
      → onward (together o t a) (λ u. together o u b) ≡ (when eqb t a && eqb t b then some t else none)
  unfolding when◌then◌else◌
  three t a b x y z n m l c =
      cases (is_container t || is_container a)
      (λ d. rw (met o mode t a x y d n m) (
      cases (eqb t a)
      (λ q.
      let e : (is_container t || is_container b) ≡ true = container t a d (eqb-true t a q) in
      rw q (met o mode t b x z e n l))
      (λ q. rw q)))
      (λ d.
      neither (is_container t) (is_container a) d λ e f.
      let i : is_container b ≡ true = rw d at c in
      rw (together_types o t a d, apart t b e i, and_comm (eqb t a) false) (
      onward_none (joint o t a) (λ u. together o u b) (λ u j.
      let g : is_container u ≡ false = joint_type t a u e f x y j in
      let w : Ok u = together_suits o mode t a u x y (together_types o t a d ∙ j) in
      met o mode u b w z (rw (g, i)) (joint_not_null t a u n m j) l ∙ (rw (apart u b g i)))))
    where
      container : (k h : ℕ) → (is_container k || is_container h) ≡ true → k ≡ h → (is_container k || is_container b) ≡ true
      container k h d q = cases (is_container k) (λ e. rw e) (λ e. let f : (is_container k || is_container h) ≡ false = rw (← q, e) in absurd (false≢true (sym f ∙ d)))

      apart : (k h : ℕ) → is_container k ≡ false → is_container h ≡ true → eqb k h ≡ false
      apart k h e f = cases (eqb k h) (λ q. let g : is_container h ≡ false = rw (eqb-true k h q) at e in absurd (false≢true (sym g ∙ f))) (λ q. q)

  together_swap : (t a b : ℕ) → Ok t → Ok a → Ok b → onward (together o t a) (λ u. together o u b) ≡ onward (together o t b) (λ u. together o u a)
  unfolding and_then when◌then◌else◌
  together_swap t a b x y z =
      cases (eqb a null) (λ n. rw (eqb-true a null n, together_null o t) (sym (onward_keeps (together o t b) _ (together_null o)))) λ n.
      cases (eqb b null) (λ m. rw (eqb-true b null m, together_null o t) (onward_keeps (together o t a) _ (together_null o))) λ m.
      cases (eqb t null) (λ l. rw (eqb-true t null l, null_together o a, null_together o b) (two n m)) λ l.
      cases ((is_container t || is_container a) || is_container b)
      (λ c.
      let d : ((is_container t || is_container b) || is_container a) ≡ true = sym (or_last (is_container t) (is_container a) (is_container b)) ∙ c in
      three t a b x y z l n m c ∙ ap (λ (q : Bool). when q then some t else none) (and_comm (eqb t a) (eqb t b)) ∙ sym (three t b a x z y l m n d))
      (λ c.
      neither (is_container t || is_container a) (is_container b) c λ d g.
      neither (is_container t) (is_container a) d λ e f.
      types t a b x y e f g ∙ joint_swap o off t a b (joint_fits t e x) (joint_fits a f y) (joint_fits b g z) ∙ sym (types t b a x z e g f))
    where
      or_last : (p q r : Bool) → ((p || q) || r) ≡ ((p || r) || q)
      or_last true q r = refl
      or_last false q r = or_comm q r

      -- types, one after another
      types : (k h i : ℕ) → Ok k → Ok h → is_container k ≡ false → is_container h ≡ false → is_container i ≡ false
          → onward (together o k h) (λ u. together o u i) ≡ and_then (joint o k h) (λ u. joint o u i)
      types k h i p q e f g =
          rw (together_types o k h (rw (e, f)))
          (onward_agree (joint o k h) _ _ (λ u j. together_types o u i (rw (joint_type k h u e f p q j, g))) ∙ onward_is (joint o k h) (λ u. joint o u i))

      -- without a third
      two : eqb a null ≡ false → eqb b null ≡ false → together o a b ≡ together o b a
      two n m =
          cases (is_container a || is_container b)
          (λ c.
          let d : (is_container b || is_container a) ≡ true = or_comm (is_container b) (is_container a) ∙ c in
          rw (met o mode a b y z c n m, met o mode b a z y d m n) (
          cases (eqb a b) (λ q. rw (q, eqb-true a b q, eq-eqb b b refl)) (λ q. rw (q, ne_eqb b a (λ r. eqb-false a b q (sym r))))))
          (λ c.
          neither (is_container a) (is_container b) c λ e f.
          rw (together_types o a b c, together_types o b a (rw (e, f)))
          (rw (null_joint o a, null_joint o b) at (joint_swap o off null a b (null_fits o) (joint_fits a e y) (joint_fits b f z))))

  -- reordering changes nothing
  pub together_perm : (t : ℕ) {ks hs : List ℕ} → Permᴰ ks hs → Ok t → All Ok ks → together_all o ks t ≡ together_all o hs t
  unfolding together_all
  together_perm t Permᴰ.nil x h = refl
  together_perm t (Permᴰ.cons {a = a} {l₂ = l₂} e d) x h =
      onward_agree (together o t a) _ _ (λ v p. together_perm v d (together_suits o mode t a v x h.0 p) h.1) ∙ ap (λ (k : ℕ). together_all o (k ∷ l₂) t) e
  together_perm t (Permᴰ.swap {a = a} {b = b} {l = l} e g) x h =
      sym (onward_assoc (together o t a) (λ v. together o v b) (together_all o l)) ∙ ap (λ (r : Option ℕ). onward r (together_all o l)) (together_swap t a b x h.0 h.1.0)
      ∙ onward_assoc (together o t b) (λ v. together o v a) (together_all o l) ∙ ap₂ (λ (k i : ℕ). together_all o (k ∷ i ∷ l) t) g e
  together_perm t (Permᴰ.trans d e) x h = together_perm t d x h ∙ together_perm t e x (all_perm Ok d h)
