-- Laws of the search for a field among places by number.
use Rattle.std.specs.Prelude.{◌≡◌, Bool, true, false, not, List, eqb, ltb}
use Rattle.std.proofs.Math.Path.{refl, sym, ap}
use Rattle.std.proofs.Common.{◌∙◌}
use Rattle.std.proofs.lemmas.Bool.{false≢true}
use Prim.Native.Nat.{ℕ, zero, suc, ◌+◌, ◌%◌, ◌<◌, ◌≤◌}
use native.Mathlib.Omega.{arith}
use borrow.Author.Tests.{eq-eqb, ne_eqb, eqb-true, eqb-false, ltb-true, ltb-false, not-true}
use Rattle.logic.specs.Test.{when◌then◌else◌}
use Rattle.logic.specs.laws.Test.{cases, both}
use Rattle.text.specs.declared.Name.{Name}
use Rattle.text.specs.Name.{bytes_of, eq_name}
use Rattle.text.specs.Tag.{tag_of}
use Rattle.words.specs.Word.{word, IsRow, has_among}
use Rattle.words.specs.laws.Word.{has_none}
use Rattle.model.specs.Tracing.{place_limit}
use Rattle.shapes.specs.Steps.{field_code, unpacked_name}
use Rattle.places.specs.Layout.{first_word, last_word, next_word, parent_word, step_word, name_word, tag_word, Tagged, Sound, Ready}
use Rattle.places.specs.laws.Layout.{first_below, last_below, next_below}
use Rattle.search.specs.Search.{is_at, find_from, find_in}
use Rattle.search.specs.Scan.{few_places, many_places, is_tagged, is_field, field_among, past_others, Passed}
use Rattle.search.specs.laws.Search.{find_none, find_found, find_next, field_stands, other_tag}

-- ---- one place
-- what is known where a place is the field
module _ (text t : List ℕ) (place : ℕ) (name : Name) (c : ℕ) where
  pub record Stands : Type 0 where
    pub at : is_at text field_code name c t ≡ true
    pub known : c ≡ 0 → ⊥
    pub child : word t c parent_word ≡ place

  pub field_known : is_field text place name c t ≡ true → Stands
  unfolding is_field
  field_known e =
      both (is_at text field_code name c t) _ e λ at rest.
      both (not (eqb c 0)) _ rest λ some child.
      record { at = at; known = eqb-false c 0 (not-true (eqb c 0) some); child = eqb-true _ _ child }

  -- a place that does not stand at it is not
  pub no_field : false ≡ is_at text field_code name c t → false ≡ is_field text place name c t
  unfolding is_field
  no_field e = rw (← e)

  -- and a child is if it stands there
  pub child_field : (c ≡ 0 → ⊥) → word t c parent_word ≡ place → is_field text place name c t ≡ is_at text field_code name c t
  unfolding is_field
  child_field z e = rw (ne_eqb c 0 z, eq-eqb _ _ e) (cases (is_at text field_code name c t) (λ a. rw a) (λ a. rw a))

-- what the tests before the comparison of the names tell
module _ (text t : List ℕ) (place : ℕ) (name : Name) (tag child : ℕ) (tagged : Bool) (is : tagged ≡ is_tagged place tag child t) where
  pub no_tagged : Tagged text t child → tag ≡ tag_of (bytes_of text name) → tagged ≡ false → false ≡ is_field text place name child t
  unfolding is_tagged
  no_tagged tags e f =
      cases (is_field text place name child t)
      (λ a.
      let k = field_known text t place name child a in
      let s = field_stands text t child name k.at in
      let m : word t child tag_word ≡ tag = tags s.0 ∙ ap tag_of s.1 ∙ sym e in
      absurd (false≢true (sym f ∙ is ∙ rw (eq-eqb _ _ m, ne_eqb child 0 k.known, eq-eqb _ _ k.child, eq-eqb _ _ s.0))))
      sym

  pub tagged_named : (known : ℕ) (own : Name) (same : Bool) → tagged ≡ true → known ≡ word t child name_word → own ≡ unpacked_name known →
      same ≡ eq_name (bytes_of text own) (bytes_of text name) → same ≡ is_field text place name child t
  unfolding is_tagged is_at when◌then◌else◌
  tagged_named known own same p a b d =
      both _ (eqb (word t child step_word) field_code) (sym is ∙ p) λ rest step.
      both _ (eqb (word t child parent_word) place) rest λ first parent.
      both (eqb (word t child tag_word) tag) (not (eqb child 0)) first λ mark some.
      rw (child_field text t place name child (eqb-false child 0 (not-true (eqb child 0) some)) (eqb-true _ _ parent), step) (rw (b, a) at d)

-- places that are not made yet are no fields
pub all_tagged : (text t : List ℕ) (n c : ℕ) → Sound text t n → Tagged text t c
all_tagged text t n c s =
    cases (ltb c n)
    (λ e. s.tags c (ltb-true c n e))
    (λ e d. absurd (let z : word t c step_word ≡ 0 = s.blank c step_word (ltb-false c n e) in omega arith))

module _ (text t : List ℕ) (n place : ℕ) (name : Name) (s : Sound text t n) where
  abbrev whole : ℕ
  whole = find_in text place field_code name t

  abbrev PassedTo : ℕ → Type 0
  PassedTo = Passed text t n place name

  -- before the first child all are passed
  pub passed_first : (first here : ℕ) → place < n → first ≡ word t place first_word → (first ≡ 0 → ⊥) → here ≤ first → PassedTo here
  passed_first first here h e z l =
      record {
        next = first;
        below = first_below text t n place first s h e;
        behind = λ _. l;
        child = λ _. rw e (s.siblings.first place (rw e at z));
        some = λ c a b o d. z;
        least = λ c a b o d. rw (e, ← d) (s.siblings.from c a o);
        same = ap (find_from text field_code name t) e;
      }

  module _ (here : ℕ) (p : PassedTo here) where
    -- a place that is not the field is passed
    pub passed_more : is_field text place name here t ≡ false → PassedTo (here + 1)
    passed_more e =
        cases (eqb p.next 0)
        (λ a. let z : p.next ≡ 0 = eqb-true p.next 0 a in kept (λ o. absurd (o z)))
        (λ a.
        let o : (p.next ≡ 0 → ⊥) = eqb-false p.next 0 a in
        cases (eqb p.next here)
        (λ b. onward o (eqb-true p.next here b))
        (λ b. let d : (p.next ≡ here → ⊥) = eqb-false p.next here b in kept (λ _. let l : here ≤ p.next = p.behind o in omega arith)))
      where
        -- the next child is another place
        kept : ((p.next ≡ 0 → ⊥) → here + 1 ≤ p.next) → PassedTo (here + 1)
        kept l =
            record {
              next = p.next;
              below = p.below;
              behind = l;
              child = p.child;
              some = λ c a b o d. p.some c a (omega arith) o d;
              least = λ c a b o d. p.least c a (omega arith) o d;
              same = p.same;
            }

        -- it is this one
        onward : (p.next ≡ 0 → ⊥) → p.next ≡ here → PassedTo (here + 1)
        onward o d =
            let z : (here ≡ 0 → ⊥) = rw d at o in
            let l : here < n = rw d at p.below in
            let f : word t here parent_word ≡ place = rw d at (p.child o) in
            let at : false ≡ is_at text field_code name here t = sym e ∙ child_field text t place name here z f in
            record {
              next = word t here next_word;
              below = next_below text t n here _ s l refl;
              behind = λ y. let u : here < word t here next_word = s.linked.rises here (let m = s.linked.most in omega arith) y in omega arith;
              child = λ y. s.siblings.next here y ∙ f;
              some = λ c a b o g. s.siblings.following here c (omega arith) (omega arith) o (f ∙ sym g);
              least = λ c a b o g. s.siblings.between here c (omega arith) (omega arith) o (f ∙ sym g);
              same = find_next text t n field_code name s here whole l (rw d at p.same) false z at _ refl refl;
            }

    -- the field is what is looked for
    pub passed_found : is_field text place name here t ≡ true → here ≡ whole
    passed_found e =
        let f = field_known text t place name here e in
        cases (ltb here n)
        (λ a.
        let l : here < n = ltb-true here n a in
        let u : 0 < here = omega (arith, f.known) in
        let o : (p.next ≡ 0 → ⊥) = p.some here u (omega arith) l f.child in
        let d : p.next ≡ here = omega (arith, p.behind o, p.least here u (omega arith) l f.child) in
        find_found text t n field_code name s here whole l (rw d at p.same) true f.known (sym f.at) refl)
        (λ a. absurd (let z : word t here step_word ≡ 0 = s.blank here step_word (ltb-false here n a) in omega (arith, (field_stands text t here name f.at).0)))

    -- behind the last child there is none
    pub passed_all : (last : ℕ) → last ≡ word t place last_word → last < here → 0 ≡ whole
    passed_all last e l =
        cases (eqb p.next 0)
        (λ a. find_none text t n field_code name s p.next whole p.below p.same (eqb-true p.next 0 a))
        (λ a.
        let o : (p.next ≡ 0 → ⊥) = eqb-false p.next 0 a in
        let u : p.next ≤ last = rw (e, ← p.child o) (s.siblings.to p.next (omega arith) p.below) in
        absurd (omega (arith, p.behind o)))

  -- ---- several places
  abbrev among : ℕ → ℕ → ℕ
  among = field_among text place name t

  pub passed_among : (count from : ℕ) → PassedTo from → among from count ≡ 0 → PassedTo (from + count)
  unfolding field_among when◌then◌else◌
  passed_among zero from p e = let k : from ≡ from + 0 = omega arith in rw k at p
  passed_among (suc count) from p e =
      cases (is_field text place name from t)
      (λ a. absurd ((field_known text t place name from a).known (rw a at e)))
      (λ a. let k : from + 1 + count ≡ from + suc count = omega arith in rw k at (passed_among count (from + 1) (passed_more from p a) (rw a at e)))

  pub found_among : (count from : ℕ) → PassedTo from → (among from count ≡ 0 → ⊥) → among from count ≡ whole
  unfolding field_among when◌then◌else◌
  found_among zero from p z = absurd (z refl)
  found_among (suc count) from p z =
      cases (is_field text place name from t)
      (λ a. rw a (passed_found from p a))
      (λ a. rw a (found_among count (from + 1) (passed_more from p a) (rw a at z)))

  module _ (tag : ℕ) (e : tag ≡ tag_of (bytes_of text name)) where
    -- none of them is the field if none has the tag
    pub none_among : (count from : ℕ) → ((i : ℕ) → i < count → word t (from + i) tag_word ≡ tag → ⊥) → 0 ≡ among from count
    unfolding field_among when◌then◌else◌
    none_among zero from h = refl
    none_among (suc count) from h =
        let k : from + 0 ≡ from = omega arith in
        rw (← no_field text t place name from (other_tag text t from tag _ name (all_tagged text t n from s) e refl (rw k at (h 0 (omega arith)))))
        (none_among count (from + 1) (λ i l. let k : from + suc i ≡ from + 1 + i = omega arith in rw k at (h (suc i) (omega arith))))

    pub passed_others : (groups from : ℕ) → PassedTo from → PassedTo (past_others tag t from groups)
    unfolding past_others when◌then◌else◌
    passed_others zero from p = p
    passed_others (suc groups) from p =
        cases (has_among t from many_places tag_word tag)
        (λ a. rw a p)
        (λ a. rw a (passed_others groups (from + many_places) (passed_among many_places from p (sym (none_among many_places from (has_none t from many_places tag_word tag a))))))

-- the last child is a place, and does not stand before the first
module _ (text t : List ℕ) (n place last : ℕ) (ready : Ready text t n place) (e : last ≡ word t place last_word) where
  pub last_row : IsRow last
  last_row =
      let m : n ≤ place_limit = ready.sound.linked.most in
      let l : last < n = last_below text t n place last ready.sound ready.here e in
      omega arith

  pub first_last : (first : ℕ) → first ≡ word t place first_word → (first ≡ 0 → ⊥) → first ≤ last
  first_last first d z =
      let f : word t first parent_word ≡ place = rw d (ready.sound.siblings.first place (rw d at z)) in
      rw (e, ← f) (ready.sound.siblings.to first (omega arith) (first_below text t n place first ready.sound ready.here d))

-- groups start at multiples of a few places
pub others_start : (tag : ℕ) (t : List ℕ) (groups from : ℕ) → from % few_places ≡ 0 → past_others tag t from groups % few_places ≡ 0
unfolding past_others when◌then◌else◌
others_start tag t zero from e = e
others_start tag t (suc groups) from e =
    cases (has_among t from many_places tag_word tag)
    (λ a. rw a e)
    (λ a. rw a (others_start tag t groups (from + many_places) (omega arith)))
