-- A step by its code and its name, as the words of the table have it, and which steps the flat search takes for one another.
use Rattle.std.specs.Prelude.{◌≡◌, refl, Bool, true, false, not, ◌&&◌, List, [], ◌-◌, ℕ, ◌+◌, ◌*◌, ◌/◌, ◌%◌, ◌<◌, eqb, leb}
use Rattle.std.proofs.Common.{sym, ◌∙◌, true≢false, arith, eqb-true, eq-eqb, ne_eqb, le-leb}
use Rattle.std.proofs.lemmas.Bool.{false≢true, eqb-false}
use Rattle.logic.specs.Test.{when◌then◌else◌}
use Rattle.logic.specs.laws.Test.{cases, both, same_test}
use Rattle.text.specs.declared.Name.{Name}
use Rattle.text.specs.Name.{bytes_of, eq_name, dots}
use Rattle.text.specs.laws.Name.{eq_name_true, eq_name_refl}
use Rattle.model.specs.Kinds.{Step, field, element, position, key, value, variant, same, variant_of, is_variant}
use Rattle.model.specs.Tracing.{dots_of, renames}
use Rattle.equality.specs.laws.Base.{same_true}
use Rattle.shapes.specs.declared.Step as Flat
use Rattle.shapes.specs.Steps.{Inside, field_code, code_of, name_of, packed_name, unpacked_name}
use Rattle.refine.specs.Tree.{step_by}

-- the code of a step, and its name
abbrev pub step_code_of : Step → ℕ
step_code_of (field name) = field_code
step_code_of element = 0
step_code_of (position i) = 4 + 2 * i
step_code_of key = 1
step_code_of value = 2
step_code_of (variant number name) = 5 + 2 * number

abbrev pub name_in : Step → List ℕ
name_in (field name) = name
name_in element = []
name_in (position i) = []
name_in key = []
name_in value = []
name_in (variant number name) = name

-- what else than its code the search compares: the name of a field
abbrev pub name_sought : Step → List ℕ
name_sought (field name) = name
name_sought element = []
name_sought (position i) = []
name_sought key = []
name_sought value = []
name_sought (variant number name) = []

unfoldable pub near : Step → Step → Bool
near s r = eqb (step_code_of s) (step_code_of r) && eq_name (name_sought s) (name_sought r)

-- ---- a step is its code and its name
pub step_back_lem : (s : Step) → step_by (step_code_of s) (name_in s) ≡ s
unfolding step_by when◌then◌else◌
step_back_lem (field name) = refl
step_back_lem element = refl
step_back_lem (position i) =
    let e : (4 + 2 * i - 4) / 2 ≡ i = omega arith in
    rw (ne_eqb (4 + 2 * i) 0 (omega arith), ne_eqb (4 + 2 * i) 1 (omega arith), ne_eqb (4 + 2 * i) 2 (omega arith), ne_eqb (4 + 2 * i) 3 (omega arith), eq-eqb ((4 + 2 * i) % 2) 0 (omega arith), e)
step_back_lem key = refl
step_back_lem value = refl
step_back_lem (variant k name) =
    let e : (5 + 2 * k - 5) / 2 ≡ k = omega arith in
    rw (ne_eqb (5 + 2 * k) 0 (omega arith), ne_eqb (5 + 2 * k) 1 (omega arith), ne_eqb (5 + 2 * k) 2 (omega arith), ne_eqb (5 + 2 * k) 3 (omega arith), ne_eqb ((5 + 2 * k) % 2) 0 (omega arith), e)

-- ---- fields and variants by their codes
sought_field : (s : Step) → step_code_of s ≡ field_code → name_sought s ≡ name_in s
sought_field (field name) e = refl
sought_field element e = refl
sought_field (position i) e = refl
sought_field key e = refl
sought_field value e = refl
sought_field (variant k name) e = absurd (omega arith)

sought_other : (s : Step) → (step_code_of s ≡ field_code → ⊥) → name_sought s ≡ []
sought_other (field name) e = absurd (e refl)
sought_other element e = refl
sought_other (position i) e = refl
sought_other key e = refl
sought_other value e = refl
sought_other (variant k name) e = refl

pub sought_all : (s : Step) → is_variant s ≡ false → name_sought s ≡ name_in s
sought_all (field name) e = refl
sought_all element e = refl
sought_all (position i) e = refl
sought_all key e = refl
sought_all value e = refl
sought_all (variant k name) e = absurd (true≢false e)

abbrev pub variant_code : ℕ → Bool
variant_code code = leb 5 code && eqb (code % 2) 1

pub variant_code_lem : (s : Step) → is_variant s ≡ variant_code (step_code_of s)
variant_code_lem (field name) = refl
variant_code_lem element = refl
variant_code_lem (position i) = rw (ne_eqb ((4 + 2 * i) % 2) 1 (omega arith)) (and_no (leb 5 (4 + 2 * i)))
  where
    and_no : (t : Bool) → false ≡ (t && false)
    and_no true = refl
    and_no false = refl
variant_code_lem key = refl
variant_code_lem value = refl
variant_code_lem (variant k name) = rw (le-leb 5 (5 + 2 * k) (omega arith), eq-eqb ((5 + 2 * k) % 2) 1 (omega arith))

pub number_code : (s : Step) → is_variant s ≡ true → 5 + 2 * variant_of s ≡ step_code_of s
number_code (field name) e = absurd (false≢true e)
number_code element e = absurd (false≢true e)
number_code (position i) e = absurd (false≢true e)
number_code key e = absurd (false≢true e)
number_code value e = absurd (false≢true e)
number_code (variant k name) e = refl

-- ---- near steps
pub near_codes : (s r : Step) → near s r ≡ true → step_code_of s ≡ step_code_of r
unfolding near
near_codes s r e = both (eqb (step_code_of s) (step_code_of r)) (eq_name (name_sought s) (name_sought r)) e λ p q. eqb-true (step_code_of s) (step_code_of r) p

pub near_names : (s r : Step) → near s r ≡ true → name_sought s ≡ name_sought r
unfolding near
near_names s r e = both (eqb (step_code_of s) (step_code_of r)) (eq_name (name_sought s) (name_sought r)) e λ p q. eq_name_true (name_sought s) (name_sought r) q

pub near_refl : (s : Step) → near s s ≡ true
unfolding near
near_refl s = rw (eq-eqb (step_code_of s) (step_code_of s) refl) (eq_name_refl (name_sought s))

pub near_same : (s r : Step) → same s r ≡ true → near s r ≡ true
near_same s r e = rw (same_true s r e) (near_refl r)

near_by : (s r : Step) → step_code_of s ≡ step_code_of r → name_sought s ≡ name_sought r → near s r ≡ true
unfolding near
near_by s r e f = rw (e, f) (near_refl r)

-- numbered steps are near by their codes alone
pub near_number : (s r : Step) → step_code_of s ≡ step_code_of r → field_code < step_code_of s → near s r ≡ true
near_number s r e l = near_by s r e (sought_other s (λ d. omega arith) ∙ sym (sought_other r (λ d. omega arith)))

pub near_sym : (s r : Step) → near s r ≡ near r s
near_sym s r = same_test (near s r) (near r s) (λ e. near_by r s (sym (near_codes s r e)) (sym (near_names s r e))) (λ e. near_by s r (sym (near_codes r s e)) (sym (near_names r s e)))

-- steps that are not near are neither equal nor two names of one variant
pub far_same : (s r : Step) → near s r ≡ false → same s r ≡ false
far_same s r e = cases (same s r) (λ f. absurd (true≢false (sym (near_same s r f) ∙ e))) (λ f. f)

pub far_renames : (s r : Step) → near s r ≡ false → renames s r ≡ false
far_renames s r e = cases (renames s r) (λ f. absurd (true≢false (sym (go f) ∙ e))) (λ f. f)
  where
    go : renames s r ≡ true → near s r ≡ true
    go f =
        both (is_variant s && is_variant r) (eqb (variant_of s) (variant_of r) && not (same s r)) f λ v w.
        both (is_variant s) (is_variant r) v λ a b.
        both (eqb (variant_of s) (variant_of r)) (not (same s r)) w λ c d.
        let n : variant_of s ≡ variant_of r = eqb-true (variant_of s) (variant_of r) c in
        let x : 5 + 2 * variant_of s ≡ step_code_of s = number_code s a in
        let y : 5 + 2 * variant_of r ≡ step_code_of r = number_code r b in
        near_by s r (omega arith)
        (sought_other s (λ z. absurd (omega arith)) ∙ sym (sought_other r (λ z. absurd (omega arith))))

pub same_renames : (s r : Step) → same s r ≡ true → renames s r ≡ false
same_renames s r e = rw e (go (is_variant s && is_variant r) (eqb (variant_of s) (variant_of r)))
  where
    go : (a b : Bool) → (a && (b && false)) ≡ false
    go true true = refl
    go true false = refl
    go false true = refl
    go false false = refl

-- ---- what the words of a child say of its step
pub dots_of_lem : (s : Step) → dots_of s ≡ 1 + dots (name_in s)
unfolding dots
dots_of_lem (field name) = refl
dots_of_lem element = refl
dots_of_lem (position i) = refl
dots_of_lem key = refl
dots_of_lem value = refl
dots_of_lem (variant k name) = refl

-- the flat search's test
pub test_is : (s r : Step) → (when eqb (step_code_of r) (step_code_of s) then (when eqb (step_code_of s) field_code then eq_name (name_in r) (name_in s) else true) else false) ≡ near s r
unfolding when◌then◌else◌ near
test_is s r =
    cases (eqb (step_code_of r) (step_code_of s))
    (λ e.
    let c : step_code_of r ≡ step_code_of s = eqb-true (step_code_of r) (step_code_of s) e in
    rw (e, eq-eqb (step_code_of s) (step_code_of r) (sym c))
    (cases (eqb (step_code_of s) field_code)
    (λ f.
    let d : step_code_of s ≡ field_code = eqb-true (step_code_of s) field_code f in
    rw (f, sought_field s d, sought_field r (c ∙ d)) (eq_sym (name_in r) (name_in s)))
    (λ f.
    let d : step_code_of s ≡ field_code → ⊥ = eqb-false (step_code_of s) field_code f in
    rw (f, sought_other s d, sought_other r (λ z. d (sym c ∙ z))) (sym (eq_name_refl [])))))
    (λ e. let d = eqb-false (step_code_of r) (step_code_of s) e in rw (e, ne_eqb (step_code_of s) (step_code_of r) (λ z. d (sym z))))
  where
    eq_sym : (x y : List ℕ) → eq_name x y ≡ eq_name y x
    eq_sym x y = same_test (eq_name x y) (eq_name y x) (λ e. rw (eq_name_true x y e) (eq_name_refl y)) (λ e. rw (eq_name_true y x e) (eq_name_refl x))

-- a flat step that stands for a step of the model: the same code, and a name that ends inside the text, has its bytes and fits a word
pub record Stands (text : List ℕ) (f : Flat.Step) (s : Step) : Type 0 where
  pub code : code_of f ≡ step_code_of s
  pub inside : Inside text (name_of f)
  pub bytes : bytes_of text (name_of f) ≡ name_in s
  pub short : (name_of f).length < 65536

-- a name in a word, and back
pub unpacked : (name : Name) → name.length < 65536 → unpacked_name (packed_name name) ≡ name
unpacked name h =
    let a : (name.offset * 65536 + name.length) / 65536 ≡ name.offset = omega arith in
    let b : (name.offset * 65536 + name.length) % 65536 ≡ name.length = omega arith in
    rw (a, b)
