-- Laws of the search for a child.
use Rattle.std.specs.Prelude.{◌≡◌, Bool, true, false, List, ◌-◌, ℕ, ◌+◌, ◌%◌, ◌<◌, ◌≤◌, eqb, ltb}
use Rattle.std.proofs.Math.Path.{refl, sym, fun_ext}
use Rattle.std.proofs.Common.{ap, ◌∙◌, ne_eqb, eqb-true, ltb-true}
use Rattle.std.proofs.lemmas.Bool.{false≢true, eqb-false}
use native.Mathlib.Omega.{arith}
use borrow.Author.Tests.{lt-ltb}
use Rattle.logic.specs.Test.{when◌then◌else◌}
use Rattle.logic.specs.laws.Test.{cases, both}
use Rattle.logic.specs.Turns.{Turn, done, turns}
use Rattle.logic.specs.laws.Invariant.{Keeps, goes_on_within, ends_within, holds_within}
use Rattle.text.specs.declared.Name.{Name}
use Rattle.words.specs.Word.{word}
use Rattle.text.specs.Name.{bytes_of}
use Rattle.text.specs.Tag.{tag_of}
use Rattle.text.specs.laws.Name.{eq_name_true}
use Rattle.text.specs.Utf8.{is_utf8}
use Rattle.model.specs.Tracing.{place_limit}
use Rattle.shapes.specs.Steps.{field_code, unpacked_name}
use Rattle.places.specs.Layout.{first_word, block_word, next_word, step_word, name_word, tag_word, Tagged, Sound, turn_limit}
use Rattle.search.specs.Search.{is_at, find_turn, find_from, find_in, in_block}
use Rattle.places.specs.Reading.{link_at}
use Rattle.places.specs.laws.Layout.{first_below, next_below}

-- ---- the links that a search goes by lead to places
module _ (text t : List ℕ) (n p x : ℕ) (s : Sound text t n) (h : p < n) where
  pub first_link : x ≡ link_at t p first_word → x ≡ word t p first_word
  unfolding link_at when◌then◌else◌
  first_link e =
      let m : n ≤ place_limit = s.linked.most in
      let b = first_below text t n p _ s h refl in
      e ∙ rw (lt-ltb (word t p first_word) place_limit (omega arith)) refl

  pub next_link : x ≡ link_at t p next_word → x ≡ word t p next_word
  unfolding link_at when◌then◌else◌
  next_link e =
      let m : n ≤ place_limit = s.linked.most in
      let b = next_below text t n p _ s h refl in
      e ∙ rw (lt-ltb (word t p next_word) place_limit (omega arith)) refl

-- ---- the search for a child
-- how many children may still follow: numbers rise, and 0 is none
abbrev pub children_left : ℕ → ℕ
children_left child = (turn_limit - child) % turn_limit

pub left_falls : (text t : List ℕ) (n child x : ℕ) → Sound text t n → child < n → (child ≡ 0 → ⊥) → x ≡ word t child next_word → children_left x < children_left child
left_falls text t n child x s h z e =
    let m : n ≤ place_limit = s.linked.most in
    let b : x < n = next_below text t n child x s h e in
    cases (eqb x 0)
    (λ d. let o : x ≡ 0 = eqb-true x 0 d in omega arith)
    (λ d. let o : (x ≡ 0 → ⊥) = eqb-false x 0 d in let l : child < x = rw e (s.linked.rises child (omega arith) (rw e at o)) in omega arith)

module _ (text t : List ℕ) (n code : ℕ) (name : Name) (s : Sound text t n) where
  abbrev turn : ℕ → Turn ℕ ℕ
  turn = find_turn text code name t

  -- what is known of the search's answer: it is a place, and stands at the step where it is a child
  abbrev Found : ℕ → Type 0
  Found c = (c < n) × ((c ≡ 0 → ⊥) → is_at text code name c t ≡ true)

  -- each turn leaves a place, with fewer that may follow, or gives an answer
  turn_keeps : (child : ℕ) → child < n → Keeps (λ c. c < n) Found children_left (children_left child) (turn child)
  unfolding find_turn when◌then◌else◌
  turn_keeps child h =
      cases (eqb child 0)
      (λ e. rw e (omega arith, λ z. absurd (z refl)))
      (λ e. cases (is_at text code name child t)
      (λ f. rw (e, f) (h, λ z. f))
      (λ f. rw (e, f) (next_below text t n child _ s h refl, left_falls text t n child _ s h (eqb-false child 0 e) refl)))

  enough : (child : ℕ) → child < n → children_left child < turn_limit
  enough child h = omega arith

  find_known : (child : ℕ) → child < n → Found (find_from text code name t child)
  unfolding find_from
  find_known child h = holds_within turn (λ c. 0) (λ c. c < n) Found children_left turn_keeps turn_limit child h (enough child h)

  -- a child found is a place, and stands at the step
  pub find_below : (child : ℕ) → child < n → find_from text code name t child < n
  find_below child h = (find_known child h).0

  pub find_stands : (child : ℕ) → child < n → (find_from text code name t child ≡ 0 → ⊥) → is_at text code name (find_from text code name t child) t ≡ true
  find_stands child h = (find_known child h).1

  pub find_first : (place child : ℕ) → child ≡ word t place first_word → find_from text code name t child ≡ find_in text place code name t
  find_first place child e = ap (find_from text code name t) e

  module _ (child r : ℕ) (h : child < n) (whole : find_from text code name t child ≡ r) where
    ends_there : (c : ℕ) → turn child ≡ done c → c ≡ r
    unfolding find_from
    ends_there c e = sym (ends_within turn (λ c. 0) (λ c. c < n) Found children_left turn_keeps turn_limit child c (enough child h) e) ∙ whole

    pub find_none : child ≡ 0 → 0 ≡ r
    unfolding find_turn when◌then◌else◌
    find_none z = ends_there 0 (rw z)

    module _ (at : Bool) (known : child ≡ 0 → ⊥) (at_there : at ≡ is_at text code name child t) where
      pub find_found : at ≡ true → child ≡ r
      unfolding find_turn when◌then◌else◌
      find_found e = ends_there child (rw (ne_eqb child 0 known, ← at_there, e))

      pub find_next : (x : ℕ) → at ≡ false → x ≡ word t child next_word → find_from text code name t x ≡ r
      unfolding find_from find_turn when◌then◌else◌
      find_next x e d =
          sym (goes_on_within turn (λ c. 0) (λ c. c < n) Found children_left turn_keeps turn_limit child x h (enough child h) (rw (ne_eqb child 0 known, ← at_there, e, d))) ∙ whole

-- ---- the search for a field
-- a child that stands at a field has the name's bytes
pub field_stands : (text t : List ℕ) (child : ℕ) (name : Name) → is_at text field_code name child t ≡ true →
    (word t child step_word ≡ field_code) × (bytes_of text (unpacked_name (word t child name_word)) ≡ bytes_of text name)
unfolding is_at when◌then◌else◌
field_stands text t child name at =
    cases (eqb (word t child step_word) field_code)
    (λ e. (eqb-true _ _ e, eq_name_true _ _ (rw e at at)))
    (λ e. absurd (false≢true (rw e at at)))

-- so the name of a field that was found is UTF-8
module _ (text t : List ℕ) (n place : ℕ) (name : Name) (s : Sound text t n) (h : place < n) (found : find_in text place field_code name t ≡ 0 → ⊥) where
  pub found_utf8 : is_utf8 (bytes_of text name) ≡ true
  found_utf8 =
      let b : word t place first_word < n = first_below text t n place _ s h refl in
      rw (field_stands text t _ name (find_stands text t n field_code name s _ b found)).1 at (s.utf8 _ (find_below text t n field_code name s _ b))

-- a child with another tag does not stand there
pub other_tag : (text t : List ℕ) (child tag mark : ℕ) (name : Name) → Tagged text t child → tag ≡ tag_of (bytes_of text name) →
    mark ≡ word t child tag_word → (mark ≡ tag → ⊥) → false ≡ is_at text field_code name child t
other_tag text t child tag mark name tags e d differ =
    cases (is_at text field_code name child t)
    (λ at. let h = field_stands text t child name at in absurd (differ (d ∙ tags h.0 ∙ ap tag_of h.1 ∙ sym e))) sym

-- ---- the search for another step is by its code alone
module _ (text t : List ℕ) (code : ℕ) (name : Name) (no_field : code ≡ field_code → ⊥) where
  pub by_code : (child : ℕ) → is_at text code name child t ≡ eqb (word t child step_word) code
  unfolding is_at when◌then◌else◌
  by_code child = rw (ne_eqb code field_code no_field) (cases (eqb (word t child step_word) code) (λ e. rw e) (λ e. rw e))

-- so that the name does not matter
pub any_name : (text t : List ℕ) (place code : ℕ) (name other : Name) → (code ≡ field_code → ⊥) → find_in text place code name t ≡ find_in text place code other t
unfolding find_from find_turn
any_name text t place code name other no_field = ap (λ turn. turns turn (λ c. 0) turn_limit (word t place first_word)) (fun_ext same)
  where
    same : (child : ℕ) → find_turn text code name t child ≡ find_turn text code other t child
    same child = rw (by_code text t code name no_field child, by_code text t code other no_field child)

-- a position in the block is a place
pub in_block_lem : (place i n : ℕ) (t : List ℕ) → in_block place i n t ≡ true → word t place first_word + i < n
unfolding in_block
in_block_lem place i n t e = both (ltb i (word t place block_word)) _ e λ a b. ltb-true (word t place first_word + i) n b
