-- Laws of names: equality is equality of bytes, the order is strict and total; dots, a byte at a time.
use Rattle.std.specs.Prelude.{◌≡◌, refl, ℕ, suc, ◌+◌, ◌≤◌, ◌<◌, true, false, List, [], ◌∷◌, ltb, eqb, length}
use Rattle.std.proofs.Common.{sym, ap, ◌∙◌, true≢false, length-take, length-drop}
use native.Mathlib.Omega.{arith}
use Rattle.std.proofs.lemmas.Bool.{false≢true}
use borrow.Author.Tests.{ltb-true, ltb-false, eqb-true, lt-ltb, le-ltb, eq-eqb, ne_eqb}
use Rattle.logic.specs.laws.Test.{if_passed, if_failed, cases, both}
use Rattle.text.specs.declared.Name.{Name}
use Rattle.text.specs.Name.{bytes_of, eq_name, lt_name, dot, dots}

pub eq_name_true : (x y : List ℕ) → eq_name x y ≡ true → x ≡ y
unfolding eq_name
eq_name_true [] [] e = refl
eq_name_true [] (b ∷ y) e = absurd (false≢true e)
eq_name_true (a ∷ x) [] e = absurd (false≢true e)
eq_name_true (a ∷ x) (b ∷ y) e = both (eqb a b) (eq_name x y) e λ p q. cc (eqb-true a b p, eq_name_true x y q)

pub eq_name_refl : (x : List ℕ) → eq_name x x ≡ true
unfolding eq_name
eq_name_refl [] = refl
eq_name_refl (a ∷ x) = rw (eq-eqb a a refl, eq_name_refl x)

-- a name inside the text has as many bytes as it says
pub length_bytes : (text : List ℕ) (name : Name) → name.offset + name.length ≤ length text → length (bytes_of text name) ≡ name.length
length_bytes text name h = simp (length-take, length-drop) (omega arith)

-- names that are one part of the text are equal, and names of unequal lengths are not
pub same_part : (text : List ℕ) (name other : Name) → name.length ≡ other.length → name.offset ≡ other.offset →
    true ≡ eq_name (bytes_of text name) (bytes_of text other)
same_part text name other e f = rw (e, f) (sym (eq_name_refl (bytes_of text other)))

pub unequal_lengths : (text : List ℕ) (name other : Name) → name.offset + name.length ≤ length text → other.offset + other.length ≤ length text →
    (name.length ≡ other.length → ⊥) → false ≡ eq_name (bytes_of text name) (bytes_of text other)
unequal_lengths text name other h g e =
    cases (eq_name (bytes_of text name) (bytes_of text other))
    (λ p. absurd (e (sym (length_bytes text name h) ∙ ap length (eq_name_true (bytes_of text name) (bytes_of text other) p) ∙ length_bytes text other g))) sym

-- how two numbers stand to one another
order : {P : Type 0} (a b : ℕ) → (a < b → P) → (a ≡ b → P) → (b < a → P) → P
order a b less same more =
    cases (ltb a b) (λ e. less (ltb-true a b e))
    (λ e.
    cases (ltb b a) (λ f. more (ltb-true b a f))
    (λ f. let p : b ≤ a = ltb-false a b e in let q : a ≤ b = ltb-false b a f in same (omega arith)))

-- what decides between two names that have a first byte
module _ (a b : ℕ) (x y : List ℕ) where
  lt_less : a < b → lt_name (a ∷ x) (b ∷ y) ≡ true
  unfolding lt_name
  lt_less h = rw (lt-ltb a b h)

  lt_same : a ≡ b → lt_name (a ∷ x) (b ∷ y) ≡ lt_name x y
  unfolding lt_name
  lt_same e = let h : b ≤ a = omega arith in rw (le-ltb a b h, eq-eqb a b e)

  lt_more : b < a → lt_name (a ∷ x) (b ∷ y) ≡ false
  unfolding lt_name
  lt_more h = let g : b ≤ a = omega arith in rw (le-ltb a b g, ne_eqb a b (omega arith))

  lt_cons : {P : Type 0} → lt_name (a ∷ x) (b ∷ y) ≡ true → (a < b → P) → (a ≡ b → lt_name x y ≡ true → P) → P
  lt_cons e less same = order a b less (λ p. same p (sym (lt_same p) ∙ e)) (λ h. absurd (false≢true (sym (lt_more h) ∙ e)))

pub lt_name_irreflexive : (x : List ℕ) → lt_name x x ≡ false
unfolding lt_name
lt_name_irreflexive [] = refl
lt_name_irreflexive (a ∷ x) = lt_same a a x x refl ∙ lt_name_irreflexive x

pub lt_name_transitive : (x y z : List ℕ) → lt_name x y ≡ true → lt_name y z ≡ true → lt_name x z ≡ true
unfolding lt_name
lt_name_transitive [] [] z p q = absurd (false≢true p)
lt_name_transitive [] (b ∷ y) [] p q = absurd (false≢true q)
lt_name_transitive [] (b ∷ y) (c ∷ z) p q = refl
lt_name_transitive (a ∷ x) [] z p q = absurd (false≢true p)
lt_name_transitive (a ∷ x) (b ∷ y) [] p q = absurd (false≢true q)
lt_name_transitive (a ∷ x) (b ∷ y) (c ∷ z) p q =
    lt_cons a b x y p
    (λ h. lt_cons b c y z q (λ g. lt_less a c x z (omega arith)) (λ g s. lt_less a c x z (omega arith)))
    (λ h r. lt_cons b c y z q (λ g. lt_less a c x z (omega arith)) (λ g s. lt_same a c x z (h ∙ g) ∙ lt_name_transitive x y z r s))

pub lt_name_asymmetric : (x y : List ℕ) → lt_name x y ≡ true → lt_name y x ≡ false
lt_name_asymmetric x y p =
    cases (lt_name y x) (λ q. absurd (false≢true (sym (lt_name_irreflexive x) ∙ lt_name_transitive x y x p q))) (λ q. q)

pub lt_name_total : (x y : List ℕ) → eq_name x y ≡ false → lt_name x y ≡ false → lt_name y x ≡ true
unfolding eq_name lt_name
lt_name_total [] [] p q = absurd (true≢false p)
lt_name_total [] (b ∷ y) p q = absurd (true≢false q)
lt_name_total (a ∷ x) [] p q = refl
lt_name_total (a ∷ x) (b ∷ y) p q =
    order a b (λ h. absurd (true≢false (sym (lt_less a b x y h) ∙ q)))
    (λ h. lt_same b a y x (sym h) ∙ lt_name_total x y (rw (eq-eqb a b h) at p) (sym (lt_same a b x y h) ∙ q))
    (lt_less b a y x)

-- one byte more
pub dots_yes : (b : ℕ) (x : List ℕ) → b ≡ dot → dots (b ∷ x) ≡ suc (dots x)
unfolding dots
dots_yes b x e = if_passed (dots x) (eq-eqb b dot e)

pub dots_no : (b : ℕ) (x : List ℕ) → (b ≡ dot → ⊥) → dots (b ∷ x) ≡ dots x
unfolding dots
dots_no b x e = if_failed (suc (dots x)) (ne_eqb b dot e)
