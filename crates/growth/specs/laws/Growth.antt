-- Laws of new places: the table stays sound, and there are never fewer places.
use Rattle.std.specs.Prelude.{◌≡◌, ℕ, zero, suc, ◌+◌, ◌/◌, ◌%◌, ◌<◌, ◌≤◌, Bool, true, false, not, ◌&&◌, ◌||◌, List, [], ◌∷◌, length, ◌==◌, ◌≢◌, nat_le, Ok, Err}
use Rattle.std.proofs.Math.Path.{refl}
use Rattle.std.proofs.Common.{ap, sym, ◌∙◌, le_refl}
use Rattle.std.proofs.lemmas.Bool.{false≢true}
use native.Mathlib.Omega.{arith}
use borrow.Author.Tests.{eqb-true, eqb-false, ne_eqb, lt-ltb}
use Rattle.logic.specs.Test.{when◌then◌else◌}
use Rattle.logic.specs.laws.Test.{cases}
use Rattle.logic.specs.laws.Flag.{if_either}
use Rattle.text.specs.declared.Name.{Name}
use Rattle.words.specs.Word.{word, with_word, IsRow, IsTable, in_whole, in_each}
use Rattle.words.specs.laws.Word.{word_same, word_other, length_with, with_swap}
use Rattle.refusal.specs.declared.Refusal.{Refusal}
use Rattle.text.specs.Name.{bytes_of, eq_name}
use Rattle.text.specs.Tag.{tag_of}
use Rattle.text.specs.Utf8.{is_utf8}
use Rattle.datatype.specs.Codes.{null}
use Rattle.model.specs.Kinds.{sequence_kind, map_kind, tuple_kind}
use Rattle.model.specs.Tracing.{place_limit}
use Rattle.shapes.specs.declared.Step.{Step}
use Rattle.shapes.specs.Steps.{field_code, name_of, packed_name, unpacked_name, Inside, Good}
use Rattle.places.specs.Layout.{kind_word, samples_word, first_word, last_word, block_word, next_word, parent_word, step_word, name_word, held_word, mark_word, tag_word, position_word, Linked, Siblings, Sound, Ready}
use Rattle.growth.specs.Growth.{Found, linked, last_child, linked_behind, appended_behind, position_in, position_behind, lengthened, described, appended, tagged, Ensured, Made, Ensuring, ensuring, confirmed, ensured_by, ensured, touched, sampled, Making, making, of_ensuring, made_one, then_made, made_all, appended_from, positions_made, made, SoundEnsured, SoundMade, entered}
use Rattle.places.specs.Reading.{link_at}
use Rattle.search.specs.Search.{child_at}
use Rattle.search.specs.laws.Tree.{seek_ends}
use Rattle.search.specs.Tree.{is_numbered}
use Rattle.places.specs.laws.Layout.{is_plain, linked_stored, siblings_same, sound_from, sound_plain, last_below, is_place}
use Rattle.growth.specs.laws.Siblings.{Appended, siblings_appended}

pub sound_sampled : (text t u : List ℕ) (n place kind : ℕ) → u ≡ sampled place kind t → place < n → Sound text t n → Sound text u n
unfolding sampled
sound_sampled text t u n place kind e h s = rw e (sound_plain text _ n place samples_word _ refl h (sound_plain text t n place kind_word kind refl h s))

pub sound_touched : (text t u : List ℕ) (n place child : ℕ) → u ≡ touched place child t → child < n → Sound text t n → Sound text u n
unfolding touched
sound_touched text t u n place child e h s =
    rw e (if_either (λ x. Sound text x n) (word t child mark_word == word t place samples_word) s
    (sound_plain text _ n child mark_word _ refl h (sound_plain text t n child held_word _ refl h s)))

-- ---- a new last child

-- and entered into the search tree
pub sound_entered : (text t u : List ℕ) (n place code : ℕ) → u ≡ entered place code n t → place < n → IsRow n → Sound text t (n + 1) → Sound text u (n + 1)
unfolding entered when◌then◌else◌
sound_entered text t u n place code e h m s =
    let ends = seek_ends code n t (λ w. is_plain w ≡ true) refl refl refl place h (omega arith) in
    let l = ends.here in
    rw e (if_either (λ x. Sound text x (n + 1)) (is_numbered code) (sound_plain text t (n + 1) _ _ n ends.link (omega (arith, l)) s) s)

pub length_either : (test : Bool) (x y : List ℕ) (n : ℕ) → length x ≡ n → length y ≡ n → length (when test then x else y) ≡ n
length_either test x y n e d = if_either (λ z. length z ≡ n) test e d

length_linked : (place child : ℕ) (t : List ℕ) → length (linked place child t) ≡ length t
unfolding linked
length_linked place child t = length_either (word t place first_word == 0) (with_word t place first_word child)
    (with_word t (word t place last_word) next_word child) (length t) (simp length_with) (simp length_with)

-- a word that a chain of children is not made of
abbrev is_aside : ℕ → Bool
is_aside f = not (f == first_word || f == last_word || f == next_word)

-- such a word may as well be stored before the chain grows
module _ (q f v : ℕ) (e : is_aside f ≡ true) (place child : ℕ) (t : List ℕ) where
  aside : (g : ℕ) → is_aside g ≡ false → (p : ℕ) → p ≡ q → g ≢ f
  aside g d p _ z = absurd (false≢true (sym d ∙ rw (← z) at e))

  swap : (u : List ℕ) (p g w : ℕ) → is_aside g ≡ false → with_word (with_word u q f v) p g w ≡ with_word (with_word u p g w) q f v
  swap u p g w d = with_swap u q f p g v w (aside g d p)

  linked_aside : linked place child (with_word t q f v) ≡ with_word (linked place child t) q f v
  unfolding linked when◌then◌else◌
  linked_aside =
      rw (word_other t q f v place first_word (aside first_word refl place), word_other t q f v place last_word (aside last_word refl place))
      (cases (word t place first_word == 0)
      (λ z. rw z (swap t place first_word child refl))
      (λ z. rw z (swap t (word t place last_word) next_word child refl)))

  pub lengthened_aside : lengthened place child (with_word t q f v) ≡ with_word (lengthened place child t) q f v
  lengthened_aside = rw (linked_aside, swap (linked place child t) place last_word child refl) refl

-- and so may those that tell where the child stands
pub described_first : (place code child : ℕ) (name : Name) (t : List ℕ) → lengthened place child (described place code name child t) ≡ appended place code name child t
unfolding described appended
described_first place code child name t =
    let t₁ : List ℕ = with_word t child parent_word place in
    let t₂ : List ℕ = with_word t₁ child step_word code in
    lengthened_aside child name_word (packed_name name) refl place child t₂
    ∙ ap (λ (u : List ℕ). with_word u child name_word (packed_name name))
    (lengthened_aside child step_word code refl place child t₁
    ∙ ap (λ (u : List ℕ). with_word u child step_word code) (lengthened_aside child parent_word place refl place child t))

-- which leave the place's last child
pub described_last : (place code child : ℕ) (name : Name) (t : List ℕ) → word (described place code name child t) place last_word ≡ word t place last_word
unfolding described
described_last place code child name t =
    let t₁ : List ℕ = with_word t child parent_word place in
    let t₂ : List ℕ = with_word t₁ child step_word code in
    word_other t₂ child name_word (packed_name name) place last_word (λ _ z. omega arith)
    ∙ word_other t₁ child step_word code place last_word (λ _ z. omega arith)
    ∙ word_other t child parent_word place place last_word (λ _ z. omega arith)

-- a name that is packed and unpacked again
module _ (text : List ℕ) (name : Name) (h : name.length < 65536) where
  packed_offset : packed_name name / 65536 ≡ name.offset
  packed_offset = omega arith

  packed_length : packed_name name % 65536 ≡ name.length
  packed_length = omega arith

  packed_inside : Inside text name → Inside text (unpacked_name (packed_name name))
  packed_inside i = rw (packed_offset, packed_length) i

  packed_bytes : bytes_of text (unpacked_name (packed_name name)) ≡ bytes_of text name
  packed_bytes = rw (packed_offset, packed_length)

-- the table on the way: with its parent, and with its step
abbrev below : ℕ → ℕ → List ℕ → List ℕ
below place child t = with_word (with_word (linked place child t) place last_word child) child parent_word place

abbrev stepped : ℕ → ℕ → ℕ → List ℕ → List ℕ
stepped place code child t = with_word (below place child t) child step_word code

-- the words that tell where other places stand are left
linked_else : (place child : ℕ) (t : List ℕ) (q f : ℕ) → next_word < f → word (linked place child t) q f ≡ word t q f
unfolding linked
linked_else place child t q f a =
    if_either (λ x. word x q f ≡ word t q f) (word t place first_word == 0) {a = with_word t place first_word child} {b = with_word t (word t place last_word) next_word child}
    (word_other t place first_word child q f (λ e d. omega arith)) (word_other t (word t place last_word) next_word child q f (λ e d. omega arith))

appended_else : (place code child : ℕ) (name : Name) (t : List ℕ) (q f : ℕ) → q < child → parent_word < f → word (appended place code name child t) q f ≡ word t q f
unfolding described appended
appended_else place code child name t q f l a =
    word_other (stepped place code child t) child name_word (packed_name name) q f (λ e d. omega arith)
    ∙ word_other (below place child t) child step_word code q f (λ e d. omega arith)
    ∙ word_other (with_word (linked place child t) place last_word child) child parent_word place q f (λ e d. omega arith)
    ∙ word_other (linked place child t) place last_word child q f (λ e d. omega arith)
    ∙ linked_else place child t q f (omega arith)

-- the words that tell where it stands are no others
described_else : (place code child : ℕ) (name : Name) (t : List ℕ) (q f : ℕ) → (q ≡ child → f < parent_word) → word (described place code name child t) q f ≡ word t q f
unfolding described
described_else place code child name t q f a =
    word_other _ child name_word (packed_name name) q f (λ e d. let l = a e in omega arith)
    ∙ word_other _ child step_word code q f (λ e d. let l = a e in omega arith)
    ∙ word_other t child parent_word place q f (λ e d. let l = a e in omega arith)

module _ (text t : List ℕ) (n place : ℕ) (ready : Ready text t n place) (room : IsRow n) where
  links : Linked text t n
  links = ready.sound.linked

  linked_linked : Linked text (linked place n t) (n + 1)
  unfolding linked
  linked_linked =
      let b : place < n = ready.here in
      let l : word t place last_word < n = links.last place (omega arith) in
      if_either (λ x. Linked text x (n + 1)) (word t place first_word == 0)
      (linked_stored text t n (n + 1) place first_word n links (omega arith) (omega arith) (λ z. omega arith) (λ z. absurd (omega arith)) (λ z. absurd (omega arith)) (λ z. absurd (omega arith)))
      (linked_stored text t n (n + 1) (word t place last_word) next_word n links (omega arith) (omega arith) (λ z. absurd (omega arith))
      (λ z. absurd (omega arith)) (λ z. (omega arith, l)) (λ z. absurd (omega arith)))

  -- a store to a word behind the links
  linked_new : (x : List ℕ) (p w v : ℕ) → next_word < w → (w ≡ name_word → Inside text (unpacked_name v)) → Linked text x (n + 1) → Linked text (with_word x p w v) (n + 1)
  linked_new x p w v a i s = linked_stored text x (n + 1) (n + 1) p w v s (le_refl (n + 1)) (omega arith) (λ z. absurd (omega arith)) (λ z. absurd (omega arith)) (λ z. absurd (omega arith)) i

  module _ (code : ℕ) (name : Name) (good : Good text name) (h : name.length < 65536) where
    abbrev after : List ℕ
    after = appended place code name n t

    linked_appended : Linked text after (n + 1)
    unfolding described appended
    linked_appended =
        linked_new _ n name_word _ (omega arith) (λ z. packed_inside text name h good.inside)
        (linked_new _ n step_word code (omega arith) (λ z. absurd (omega arith))
        (linked_new _ n parent_word place (omega arith) (λ z. absurd (omega arith))
        (linked_stored text _ (n + 1) (n + 1) place last_word n linked_linked (le_refl (n + 1)) (omega arith) (λ z. absurd (omega arith))
        (λ z. omega arith) (λ z. absurd (omega arith)) (λ z. absurd (omega arith)))))

    long : IsTable (lengthened place n t)
    long = rw (length_with, length_linked place n t) links.room

    appended_name : word after n name_word ≡ packed_name name
    unfolding described appended
    appended_name = word_same _ n name_word (packed_name name) (rw (length_with, length_with) long) room (omega arith) (in_whole refl)

    appended_step : word after n step_word ≡ code
    unfolding described appended
    appended_step = word_other _ n name_word (packed_name name) n step_word (λ e d. omega arith) ∙ word_same _ n step_word code (rw length_with long) room (omega arith) (in_whole refl)

    appended_utf8 : is_utf8 (bytes_of text (unpacked_name (word after n name_word))) ≡ true
    appended_utf8 = rw (appended_name, packed_bytes text name h) good.utf8

    kept : (q f : ℕ) → q < n → parent_word < f → word after q f ≡ word t q f
    kept = appended_else place code n name t

    -- it is the new last child
    parent_appended : word after n parent_word ≡ place
    unfolding described appended
    parent_appended =
        let l : place < n = ready.here in
        word_other _ n name_word (packed_name name) n parent_word (λ e d. omega arith) ∙ word_other _ n step_word code n parent_word (λ e d. omega arith)
        ∙ word_same _ n parent_word place long room (omega arith) (in_each (omega arith))

    -- a link of the chain is that of the chain one longer
    chain : (q f : ℕ) → f < parent_word → word after q f ≡ word (lengthened place n t) q f
    unfolding appended
    chain q f l = described_else place code n name (lengthened place n t) q f (λ e. l)

    -- and but for the last child, that of the chain with the link to it
    chained : (q f : ℕ) → f < parent_word → (q ≡ place → f ≢ last_word) → word after q f ≡ word (linked place n t) q f
    chained q f l o = chain q f l ∙ word_other (linked place n t) place last_word n q f o

    is_appended : Appended t after place n
    unfolding appended linked when◌then◌else◌
    is_appended =
        record {
          parent = parent_appended;
          parents = λ q o. described_else place code n name (lengthened place n t) q parent_word (λ e. absurd (o e))
              ∙ word_other (linked place n t) place last_word n q parent_word (λ e d. omega arith) ∙ linked_else place n t q parent_word (omega arith);
          last = chain place last_word (omega arith)
              ∙ word_same (linked place n t) place last_word n (rw (length_linked place n t) links.room) (is_place text t n place ready) (omega arith) (in_each (omega arith));
          lasts = λ q o. chained q last_word (omega arith) (λ e d. o e) ∙ cases (word t place first_word == 0)
              (λ z. rw z (word_other t place first_word n q last_word (λ e d. omega arith)))
              (λ z. rw z (word_other t (word t place last_word) next_word n q last_word (λ e d. omega arith)));
          first = λ z. chained place first_word (omega arith) (λ e d. omega arith)
              ∙ (rw z (word_same t place first_word n links.room (is_place text t n place ready) (omega arith) (in_each (omega arith))));
          firsts = λ q o. chained q first_word (omega arith) (λ e d. omega arith) ∙ cases (word t place first_word == 0)
              (λ z. rw z (word_other t place first_word n q first_word (λ e d. o e (eqb-true _ 0 z))))
              (λ z. rw z (word_other t (word t place last_word) next_word n q first_word (λ e d. omega arith)));
          next = λ z.
              let l : word t place last_word < n = links.last place (is_place text t n place ready) in
              chained (word t place last_word) next_word (omega arith) (λ e d. omega arith)
              ∙ (rw (ne_eqb (word t place first_word) 0 z) (word_same t (word t place last_word) next_word n links.room (omega arith) (omega arith) (in_each (omega arith))));
          nexts = λ q o. chained q next_word (omega arith) (λ e d. omega arith) ∙ cases (word t place first_word == 0)
              (λ z. rw z (word_other t place first_word n q next_word (λ e d. omega arith)))
              (λ z. rw z (word_other t (word t place last_word) next_word n q next_word (λ e d. eqb-false _ 0 z (o e))));
        }

    -- places that are not made yet are as they were
    far : (q f : ℕ) → n < q → word after q f ≡ word t q f
    unfolding appended linked when◌then◌else◌
    far q f l =
        let b : place < n = ready.here in
        let k : word t place last_word < n = links.last place (is_place text t n place ready) in
        described_else place code n name (lengthened place n t) q f (λ e. absurd (omega arith))
        ∙ word_other (linked place n t) place last_word n q f (λ e d. omega arith)
        ∙ cases (word t place first_word == 0)
        (λ z. rw z (word_other t place first_word n q f (λ e d. omega arith)))
        (λ z. rw z (word_other t (word t place last_word) next_word n q f (λ e d. omega arith)))

    blank_appended : (q f : ℕ) → n + 1 ≤ q → word after q f ≡ 0
    blank_appended q f l = far q f (omega arith) ∙ ready.sound.blank q f (omega arith)

    siblings_after : Siblings after (n + 1)
    siblings_after = siblings_appended text t after n place ready is_appended

    -- a child that is no field
    pub sound_appended : (u : List ℕ) → u ≡ after → (code ≢ field_code) → Sound text u (n + 1)
    sound_appended u e no_field =
        rw e (sound_from text t after n (n + 1) ready.sound linked_appended blank_appended siblings_after
        (λ q l. kept q step_word l (omega arith)) (λ q l. kept q name_word l (omega arith)) (λ q l. kept q tag_word l (omega arith))
        (λ q l b. let o : q ≡ n = omega arith in rw o appended_utf8)
        (λ q l b d. let o : q ≡ n = omega arith in absurd (no_field (sym appended_step ∙ rw o at d))))

    -- a child that has its tag
    module _ (u : List ℕ) (position : ℕ) (e : u ≡ tagged text name position n after) where
      abbrev tag : ℕ
      tag = tag_of (bytes_of text name)

      same : (q f : ℕ) → f < tag_word → word (with_word after n tag_word tag) q f ≡ word after q f
      same q f b = word_other after n tag_word tag q f (λ e d. omega arith)

      with_tag : Sound text (with_word after n tag_word tag) (n + 1)
      with_tag =
          sound_from text t (with_word after n tag_word tag) n (n + 1) ready.sound (linked_new after n tag_word tag (omega arith) (λ z. absurd (omega arith)) linked_appended)
          (λ q f l. word_other after n tag_word tag q f (λ e d. omega arith) ∙ blank_appended q f l)
          (siblings_same after (with_word after n tag_word tag) (n + 1) (λ q. same q first_word (omega arith)) (λ q. same q last_word (omega arith))
          (λ q. same q next_word (omega arith)) (λ q. same q parent_word (omega arith)) siblings_after)
          (λ q l. same q step_word (omega arith) ∙ kept q step_word l (omega arith))
          (λ q l. same q name_word (omega arith) ∙ kept q name_word l (omega arith))
          (λ q l. word_other after n tag_word tag q tag_word (λ e d. omega arith) ∙ kept q tag_word l (omega arith))
          (λ q l b. let o : q ≡ n = omega arith in rw (o, same n name_word (omega arith)) appended_utf8)
          (λ q l b d. let o : q ≡ n = omega arith in rw (o, same n name_word (omega arith), appended_name, packed_bytes text name h)
          (word_same after n tag_word tag linked_appended.room room (omega arith) (in_whole refl)))

      pub sound_tagged : Sound text u (n + 1)
      unfolding tagged
      sound_tagged = rw e (sound_plain text _ (n + 1) n position_word position refl (omega arith) with_tag)

-- ---- a child that is ensured, and children that are made

-- what is said of a child and the count of places, where there is one
abbrev pub OnChild : (ℕ → ℕ → Type 0) → Ensuring → Type 0
OnChild P (ensuring (Ok f) u) = P f.child f.count
OnChild P (ensuring (Err refusal) u) = Unit {0}

abbrev pub OnPlaces : (ℕ → Type 0) → Making → Type 0
OnPlaces P (making (Ok m) u) = P m
OnPlaces P (making (Err refusal) u) = Unit {0}

-- a child that was ensured is ready
pub child_ready : (text u : List ℕ) (r : Ensured) (f : Found) → SoundEnsured text u r → r ≡ Ok f → Ready text u f.count f.child
child_ready text u r f s p = let h : Sound text u f.count × (f.child < f.count) = rw p at s in record { sound = h.0; here = h.1 }

module _ (text t : List ℕ) (n place : ℕ) (step : Step) where
  abbrev sought : ℕ
  sought = child_at text place step n t

  -- it is the child found, or place n
  ensured_says : (P : ℕ → ℕ → Type 0) → ((sought ≢ 0) → P sought n) → P n (n + 1) → OnChild P (ensured text place step n t)
  unfolding ensured ensured_by confirmed when◌then◌else◌
  ensured_says P known new =
      cases (sought == 0)
      (λ e. rw e (if_either (OnChild P) (nat_le place_limit n) tt new))
      (λ e. rw e (if_either (λ r. OnChild P (ensuring r t)) (eq_name (bytes_of text (unpacked_name (word t sought name_word))) (bytes_of text (name_of step))) (known (eqb-false sought 0 e)) tt))

  -- there are never fewer places than before
  pub ensured_more : OnChild (λ child m. n ≤ m) (ensured text place step n t)
  ensured_more = ensured_says (λ child m. n ≤ m) (λ z. le_refl n) (omega arith)

  module _ (r : Ensured) (u : List ℕ) (f : Found) (e : ensuring r u ≡ ensured text place step n t) (p : r ≡ Ok f) where
    pub ensured_grows : n ≤ f.count
    ensured_grows = rw (← e, p) at ensured_more

made_more : (text : List ℕ) (place : ℕ) (steps : List Step) (n : ℕ) (t : List ℕ) → OnPlaces (λ m. n ≤ m) (made_all text place steps n t)
unfolding made_all made_one
made_more text place [] n t = le_refl n
made_more text place (s ∷ ss) n t = go (λ k u. made_more text place ss k u) (ensured text place s n t) (ensured_more text t n place s)
  where
    go : ((k : ℕ) (u : List ℕ) → OnPlaces (λ m. k ≤ m) (made_all text place ss k u)) → (x : Ensuring) → OnChild (λ child m. n ≤ m) x →
        OnPlaces (λ m. n ≤ m) (then_made (of_ensuring x) (made_all text place ss))
    go ih (ensuring (Ok f) u) h = up (made_all text place ss f.count u) (ih f.count u)
      where
        up : (y : Making) → OnPlaces (λ m. f.count ≤ m) y → OnPlaces (λ m. n ≤ m) y
        up (making (Ok m) v) l = omega arith
        up (making (Err refusal) v) l = tt
    go ih (ensuring (Err refusal) u) h = tt

appended_more : (place i left n : ℕ) (t : List ℕ) → OnPlaces (λ m. n ≤ m) (appended_from place i left n t)
unfolding appended_from
appended_more place i zero n t = le_refl n
appended_more place i (suc left) n t =
    if_either (OnPlaces (λ m. n ≤ m)) (nat_le place_limit n) tt (up (appended_from place (suc i) left (n + 1) _) (appended_more place (suc i) left (n + 1) _))
  where
    up : (x : Making) → OnPlaces (λ m. n + 1 ≤ m) x → OnPlaces (λ m. n ≤ m) x
    up (making (Ok m) u) l = omega arith
    up (making (Err refusal) u) l = tt

pub all_more : (text t : List ℕ) (place kind positions before n : ℕ) → OnPlaces (λ m. n ≤ m) (made text place kind positions before n t)
unfolding made positions_made
all_more text t place kind positions before n =
    if_either More (kind == sequence_kind) (made_more text place _ n t) (
    if_either More (kind == map_kind) (made_more text place _ n t) (
    if_either More (kind == tuple_kind && before == null) (
    if_either More (word t place first_word == 0) (stored (appended_from place 0 positions n t) (appended_more place 0 positions n t)) (made_more text place _ n t))
    (le_refl n)))
  where
    More : Making → Type 0
    More = OnPlaces (λ m. n ≤ m)

    stored : (x : Making) → More x → More (then_made x (λ m u. making (Ok m) (with_word u place block_word positions)))
    stored (making (Ok m) u) l = l
    stored (making (Err refusal) u) l = tt

-- the place that children were made for is still one
still_ready : (text t u : List ℕ) (n m place : ℕ) (r : Made) → Ready text t n place → n ≤ m → SoundMade text u r → r ≡ Ok m → Ready text u m place
still_ready text t u n m place r ready l s p = let h : place < n = ready.here in record { sound = rw p at s; here = omega arith }

pub made_single : (text t : List ℕ) (n place : ℕ) (step : Step) → made_all text place (step ∷ []) n t ≡ made_one text place step n t
unfolding made_all
made_single text t n place step = go (made_one text place step n t)
  where
    go : (x : Making) → then_made x (made_all text place []) ≡ x
    go (making (Ok m) u) = refl
    go (making (Err refusal) u) = refl

-- one child after another
module _ (text t u : List ℕ) (n place : ℕ) (step : Step) (r : Made) (one : making r u ≡ made_one text place step n t) where
  pub one_ready : (m : ℕ) → Ready text t n place → SoundMade text u r → r ≡ Ok m → Ready text u m place
  unfolding made_all
  one_ready m ready s p = still_ready text t u n m place r ready (rw (made_single text t n place step, ← one, p) at (made_more text place (step ∷ []) n t)) s p

  pub made_first : (steps : List Step) (m : ℕ) → r ≡ Ok m → made_all text place (step ∷ steps) n t ≡ made_all text place steps m u
  unfolding made_all
  made_first steps m p = rw (← one, p)

  pub made_stops : (steps : List Step) (refusal : Refusal) → r ≡ Err refusal → made_all text place (step ∷ steps) n t ≡ making (Err refusal) u
  unfolding made_all
  made_stops steps refusal p = rw (← one, p)

module _ (text t : List ℕ) (n place : ℕ) (ready : Ready text t n place) where
  pub sampled_ready : (u : List ℕ) (kind : ℕ) → u ≡ sampled place kind t → Ready text u n place
  sampled_ready u kind e = record { sound = sound_sampled text t u n place kind e ready.here ready.sound; here = ready.here }

-- a step's name is good
module _ (text : List ℕ) (step : Step) (name : Name) (e : name ≡ name_of step) (good : Good text (name_of step)) where
  pub step_good : Good text name
  step_good = rw e good

  pub step_inside : Inside text name
  step_inside = step_good.inside

-- the last child is a place
pub last_small : (text t : List ℕ) (n place : ℕ) → Ready text t n place → IsRow (word t place last_word)
last_small text t n place r =
    let m : n ≤ place_limit = r.sound.linked.most in
    let l : word t place last_word < n = last_below text t n place _ r.sound r.here refl in
    omega arith

-- the last child is the one that the definitions read
module _ (place : ℕ) (t : List ℕ) (row : IsRow (word t place last_word)) where
  last_is : link_at t place last_word ≡ word t place last_word
  unfolding link_at when◌then◌else◌
  last_is = rw (lt-ltb (word t place last_word) place_limit row) refl

  pub position_last : position_behind (last_child place t) t ≡ position_in place t
  unfolding last_child position_in when◌then◌else◌
  position_last = cases (word t place first_word == 0) (λ z. rw z refl) (λ z. rw (z, last_is) refl)

  linked_last : (child : ℕ) → linked_behind place (last_child place t) child t ≡ linked place child t
  unfolding last_child linked when◌then◌else◌
  linked_last child = cases (word t place first_word == 0) (λ z. rw z refl) (λ z. rw (z, last_is) refl)

pub appended_last : (place code child : ℕ) (name : Name) (t : List ℕ) → IsRow (word t place last_word) → appended_behind place code name child t ≡ appended place code name child t
appended_last place code child name t row =
    ap (λ (v : List ℕ). with_word v place last_word child)
    (linked_last place (described place code name child t) (rw (described_last place code child name t) row) child)
    ∙ described_first place code child name t
