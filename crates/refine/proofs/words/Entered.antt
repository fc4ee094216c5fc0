-- A new child in the search tree of its place, or in its block, or with no number; and the search for a numbered child.
use Rattle.std.specs.Prelude.{◌≡◌, List, true, false, ◌||◌, ℕ, suc, ◌+◌, ◌*◌, ◌<◌, ◌≤◌, length, eqb}
use Rattle.std.proofs.Math.Path.{refl}
use Rattle.std.proofs.Common.{sym, subst, ◌∙◌, arith, eqb-true, eq-eqb, lt-ltb, ltb-true, ltb-false}
use Rattle.std.proofs.Math.Bool.{or-false, or_assoc}
use Rattle.std.proofs.lemmas.Bool.{false≢true, eqb-false}
use Rattle.logic.specs.Test.{when◌then◌else◌}
use Rattle.logic.specs.laws.Test.{cases}
use Rattle.text.specs.Name.{bytes_of}
use Rattle.text.specs.Tag.{tag_of}
use Rattle.words.specs.Word.{place_words, IsTable, in_each, word, with_word}
use Rattle.words.specs.laws.Word.{word_same, word_other, length_with}
use Rattle.model.specs.Kinds.{Step, position, same}
use Rattle.model.specs.Tracing.{Marks, place_limit, has}
use Rattle.equality.specs.laws.Base.{same_true, or_cases}
use Rattle.shapes.specs.declared.Step as Flat
use Rattle.shapes.specs.Steps.{field_code, code_of, name_of}
use Rattle.search.specs.Tree.{Slot}
use Rattle.places.specs.Layout.{kind_word, root_word, block_word, left_word, step_word, right_word, tag_word, position_word}
use Rattle.search.specs.Tree.{is_numbered, follow, slot, seek}
use Rattle.growth.specs.Growth.{appended, position_in, tagged, entered}
use Rattle.refine.specs.laws.numbered.Tree.{Spot, spot, Spots, no_spots, child, num, steps_s, spot_at, add_s}
use Rattle.refine.specs.laws.reading.Steps.{near_codes, near_number, step_code_of, Stands}
use Rattle.refine.specs.laws.numbered.Numbers.{last_from, within_in, near_in, GoodIn, or_left, or_right, not_both, bounded, bounded_in, self, child_good, has_add_old, add_found}
use Rattle.refine.specs.laws.words.SearchTree.{num_in, Links, at_root, at_left, at_right, Apart, Index, same_follow, null_follow, in_tree, end_known, end_link, end_child, seek_other, seek_same, index_none, indexes_frame_in, add_nums, indexes_add}
use Rattle.refine.specs.laws.words.Places.{Block, RepIn, same_block, frame_in, Fits, After}
use Rattle.refine.proofs.words.Child.{far_has, Sought, absent, picked, still_at, Grown, append_grown}
use Rattle.std.proofs.lemmas.Grind.{common_steps}

-- ---- links
-- a link that stands in the table
full_follow : (t : List ℕ) (q f n v : ℕ) → word t q f ≡ v → q < v → v < n → follow q f n t ≡ v
unfolding follow when◌then◌else◌
full_follow t q f n v e l i = grind (arith, common_steps)

-- links to places below n are those that a search with n places follows
narrow_follow : (t : List ℕ) (q f n m : ℕ) → n ≤ m → ((follow q f m t ≡ 0 → ⊥) → follow q f m t < n) → follow q f n t ≡ follow q f m t
unfolding follow when◌then◌else◌
narrow_follow t q f n m l k = grind (arith, common_steps)

module _ (n p : ℕ) (ks : Spots) (pn : p < n) (g : GoodIn n p ks) where
  links_below : (q f : ℕ) → Links p ks q f → q < n
  links_below q f at_root = pn
  links_below q f (at_left _ e) = bounded_in n p q ks g (in_tree q ks e)
  links_below q f (at_right _ e) = bounded_in n p q ks g (in_tree q ks e)

-- what holds of the three words that are links holds of each
links_word : (F : ℕ → Type 0) → F root_word → F left_word → F right_word → (p : ℕ) (ks : Spots) (q f : ℕ) → Links p ks q f → F f
links_word F a b c p ks q f at_root = a
links_word F a b c p ks q f (at_left _ e) = b
links_word F a b c p ks q f (at_right _ e) = c

-- so a link is none of a place's other words, nor of those of a child's cell
is_link : {p : ℕ} {ks : Spots} {q f : ℕ} → Links p ks q f → (root_word ≤ f) × (f ≤ right_word) × (f ≡ block_word → ⊥)
is_link l =
    links_word (λ f. (root_word ≤ f) × (f ≤ right_word) × (f ≡ block_word → ⊥)) (omega arith, omega arith, λ e. omega arith)
    (omega arith, omega arith, λ e. omega arith) (omega arith, omega arith, λ e. omega arith) _ _ _ _ l

-- ---- the steps and numbers of children, one of them new
has_added : (r s : Step) (n : ℕ) (ks : Spots) → has r (steps_s (add_s s n ks)) ≡ (has r (steps_s ks) || same r s)
unfolding add_s has steps_s
has_added r s n no_spots = or-false (same r s)
has_added r s n (child q h m u ks) = rw (has_added r s n ks) (sym (or_assoc (same r q) (has r (steps_s ks)) (same r s)))

last_num : (c q : ℕ) (ks : Spots) → within_in q ks ≡ true → num_in (last_from c ks) ks ≡ true
last_num c q no_spots e = absurd (false≢true e)
last_num c q (child r h m u no_spots) e = rw (eq-eqb (num u) (num u) refl) refl
last_num c q (child r h m u (child r' h' m' u' ks)) e = grind (arith, common_steps, last_num (num u) (num u') (child r' h' m' u' ks), self u')

-- ---- the search for a child that is not there
near_in_lem : (text t : List ℕ) (p c : ℕ) (s : Step) (ks : Spots) → RepIn text t p ks → num_in c ks ≡ true → word t c step_word ≡ step_code_of s → field_code < step_code_of s → near_in s ks ≡ true
unfolding near_in
near_in_lem text t p c s no_spots r e w l = absurd (false≢true e)
near_in_lem text t p c s (child q h m u ks) r e w l = grind (arith, common_steps, r.0.row 2, near_number s q, near_in_lem text t p c s ks r.2)

seek_far : (text t : List ℕ) (p : ℕ) (ks : Spots) → Index t p ks → RepIn text t p ks → (s : Step) → near_in s ks ≡ false → field_code < step_code_of s → (seek p (step_code_of s) place_limit t).child ≡ 0
seek_far text t p ks x r s far l =
    grind (
      arith,
      x.here,
      end_known place_limit t t p ks x.leads (λ q f _ _. refl) (λ q _. refl) (step_code_of s),
      end_child place_limit t t p ks x.leads (λ q f _ _. refl) (λ q _. refl) (step_code_of s),
      near_in_lem text t p (seek p (step_code_of s) place_limit t).child s ks r,
    )

-- ---- the search tree with a new child
module _ (t t' : List ℕ) (p : ℕ) (s : Step) (n : ℕ) (ks : Spots) (x : Index t p ks)
    (nexts : (q f : ℕ) → Links p ks q f → (follow q f place_limit t ≡ 0 → ⊥) → follow q f place_limit t' ≡ follow q f place_limit t)
    (steps : (q : ℕ) → num_in q ks ≡ true → word t' q step_word ≡ word t q step_word) where
  -- those that were found are found
  still_found : (code : ℕ) → ((seek p code place_limit t).child ≡ 0 → ⊥) → seek p code place_limit t' ≡ seek p code place_limit t
  still_found code z =
      grind (
        arith,
        nexts,
        end_known place_limit t t' p ks x.leads nexts steps code x.here,
        end_link place_limit t t' p ks x.leads nexts steps code x.here,
        seek_same place_limit t t' p ks x.leads nexts steps code x.here,
      )

  pub index_add : ((q f : ℕ) → Links p ks q f → (follow q f place_limit t' ≡ 0 → ⊥) → num_in (follow q f place_limit t') (add_s s n ks) ≡ true)
      → follow n left_word place_limit t' ≡ 0 → follow n right_word place_limit t' ≡ 0
      → ((code : ℕ) → Apart (word t' p block_word) code → Apart (word t p block_word) code)
      → (Apart (word t' p block_word) (step_code_of s) → (seek p (step_code_of s) place_limit t').child ≡ n)
      → ((r : Step) → has r (steps_s ks) ≡ true → num (spot_at r ks) ≡ 0 → ⊥) → has s (steps_s ks) ≡ false → Index t' p (add_s s n ks)
  index_add leads left right apart new known free = record {
    here = x.here;
    leads = go;
    found = λ r e b. or_cases (has r (steps_s ks)) (same r s) (sym (has_added r s n ks) ∙ e)
        (λ a. grind (arith, x.found r a (apart (step_code_of r) b), still_found (step_code_of r), known r a, still_at r s n ks a))
        (λ a. let d : r ≡ s = same_true r s a in let b' : Apart (word t' p block_word) (step_code_of s) = rw d at b in grind (arith, new b', add_found s n ks free));
  }
    where
      go : (q f : ℕ) → Links p (add_s s n ks) q f → (follow q f place_limit t' ≡ 0 → ⊥) → num_in (follow q f place_limit t') (add_s s n ks) ≡ true
      go q f at_root z = leads q f at_root z
      go q f (at_left _ e) z = or_cases (num_in q ks) (eqb q n) (sym (add_nums q s n ks) ∙ e) (λ a. leads q f (at_left q a) z) (λ a. let d : q ≡ n = eqb-true q n a in absurd (z (rw d left)))
      go q f (at_right _ e) z = or_cases (num_in q ks) (eqb q n) (sym (add_nums q s n ks) ∙ e) (λ a. leads q f (at_right q a) z) (λ a. let d : q ≡ n = eqb-true q n a in absurd (z (rw d right)))

module _ (text t : List ℕ) (n p : ℕ) (b : Marks) (k m : ℕ) (ks : Spots) (h : Fits text t n (spot p b k m ks)) (s : Step) (far : near_in s ks ≡ false)
    (room : n < place_limit) (t₄ : List ℕ) (grown : Grown text t n p b k m ks s t₄) where
  known : (r : Step) → has r (steps_s ks) ≡ true → num (spot_at r ks) ≡ 0 → ⊥
  known r e z = let i = (child_good n p r ks h.good.2 e).1 in omega (arith, i)

  below : (q : ℕ) → num_in q ks ≡ true → q < n
  below q e = bounded_in n p q ks h.good.2 (in_tree q ks e)

  not_place : (q : ℕ) → num_in q ks ≡ true → q ≡ p → ⊥
  not_place q e d = not_both (within_in q ks) (in_tree q ks e) (rw d h.good.1)

  -- the words that the search tree reads are as they were
  kept : (q f : ℕ) → Links p ks q f → word t₄ q f ≡ word t q f
  kept q f l = let w = is_link l in grown.words q f (links_below n p ks h.good.0 h.good.2 q f l) (omega arith) (λ _. w.0) (λ _ _ e. omega arith)

  kept_step : (q : ℕ) → num_in q ks ≡ true → word t₄ q step_word ≡ word t q step_word
  kept_step q e = grown.words q step_word (below q e) (omega arith) (λ d. absurd (not_place q e d)) (λ _ _ d. omega arith)

  kept_block : word t₄ p block_word ≡ word t p block_word
  kept_block = grown.words p block_word h.good.0 (omega arith) (λ _. omega arith) (λ _ _ d. omega arith)

  -- a store to a link or to the count of the block completes it
  pub settle : (t₅ : List ℕ) → length t₅ ≡ length t₄
      → ((q f : ℕ) → f < place_words → (q ≡ p → f ≡ root_word → ⊥) → (q ≡ p → f ≡ block_word → ⊥) → (num_in q ks ≡ true → f ≡ left_word → ⊥) →
      (num_in q ks ≡ true → f ≡ right_word → ⊥) → word t₅ q f ≡ word t₄ q f)
      → Block (word t₅ p block_word) (add_s s n ks) → Index t₅ p (add_s s n ks) → After text t n (spot p b k m ks) t₅ (n + 1) (spot p b k m (add_s s n ks))
  settle t₅ size w block index =
      let pn : p < n = h.good.0 in
      let big : IsTable t = h.room in
      let z : length t₄ ≡ length t = grown.size in
      record {
        fits = record {
          rep = (
            (λ f l. w p (kind_word + f) (omega arith) (λ _ e. omega arith) (λ _ e. omega arith) (λ _ e. omega arith) (λ _ e. omega arith) ∙ grown.rep.0 f l),
            frame_in text t₄ t₅ p (add_s s n ks) grown.rep.1
                (λ q f l a. let off : q ≡ p → ⊥ = λ e. not_both (within_in q (add_s s n ks)) a (rw e grown.good.1) in
                w q f l.0 (λ e _. off e) (λ e _. off e) (λ _. l.2) (λ _. l.3)),
            block,
          );
          good = grown.good;
          room = omega arith;
          most = omega arith;
          zeros = λ q f l v i. w q f i (λ e _. omega arith) (λ e _. omega arith) (λ e _. let y = below q e in omega arith) (λ e _. let y = below q e in omega arith) ∙ grown.zeros q f l v i;
          index = (
            index,
            indexes_add t₅ s n ks
                (index_none t₅ n room (w n root_word (omega arith) (λ e _. omega arith) (λ e _. omega arith) (λ _ e. omega arith) (λ _ e. omega arith) ∙ grown.root), tt)
                (indexes_frame_in n p t t₅ ks h.good.2
                (λ q f l a i. let off : q ≡ p → ⊥ = λ e. not_both (within_in q ks) a (rw e h.good.1) in
                w q f l (λ e _. off e) (λ e _. off e) (λ e d. let y = i e in omega arith) (λ e d. let y = i e in omega arith)
                ∙ grown.words q f (bounded_in n p q ks h.good.2 a) l (λ e. absurd (off e)) (λ c d e. let y = i (rw d (last_num 0 q ks a)) in omega arith))
                h.index.1),
          );
        };
        grown = omega arith;
        same = refl;
        keeps = λ q f l i a d.
            w q f i (λ e c. let y = d e in omega arith) (λ e c. let y = d e in omega arith) (λ e _. not_both (within_in q ks) (in_tree q ks e) a) (λ e _. not_both (within_in q ks) (in_tree q ks e) a)
            ∙ grown.words q f l i (λ e. let y = d e in omega arith) (λ c _ _. not_both (within_in q ks) c a);
        kept = λ q l. has_add_old q s n ks l;
      }

  -- a child that is not entered: it has no number, or stands in the block
  pub index_beside : (t₅ : List ℕ) → ((q f : ℕ) → f < place_words → (q ≡ p → f ≡ block_word → ⊥) → word t₅ q f ≡ word t₄ q f)
      → ((code : ℕ) → Apart (word t₅ p block_word) code → Apart (word t p block_word) code) → (Apart (word t₅ p block_word) (step_code_of s) → ⊥) → Index t₅ p (add_s s n ks)
  index_beside t₅ w apart none =
      let follows : (q f : ℕ) → Links p ks q f → follow q f place_limit t₅ ≡ follow q f place_limit t
      = λ q f l. let i = is_link l in same_follow t t₅ q f place_limit (w q f (omega arith) (λ _. i.2) ∙ kept q f l) in
      index_add t t₅ p s n ks h.index.0 (λ q f l _. follows q f l) (λ q e. w q step_word (omega arith) (λ _ d. omega arith) ∙ kept_step q e)
      (λ q f l z. let e = follows q f l in
      add_nums (follow q f place_limit t₅) s n ks ∙ or_left (num_in (follow q f place_limit t₅) ks) _ (rw e (h.index.0.leads q f l (rw e at z))))
      (null_follow t₅ n left_word place_limit (w n left_word (omega arith) (λ _ e. omega arith) ∙ grown.left))
      (null_follow t₅ n right_word place_limit (w n right_word (omega arith) (λ _ e. omega arith) ∙ grown.right))
      apart (λ a. absurd (none a)) known (far_has s ks far)

  -- the search for a code that no child has ends at a link that leads nowhere
  module _ (numbered : field_code < step_code_of s) where
    abbrev end : Slot
    end = seek p (step_code_of s) place_limit t

    ends_null : end.child ≡ 0
    ends_null = seek_far text t p ks h.index.0 h.rep.1 s far numbered

    end_at : Links p ks end.place end.field
    end_at = end_link place_limit t t p ks h.index.0.leads (λ q f _ _. refl) (λ q _. refl) (step_code_of s) h.index.0.here

    null : follow end.place end.field place_limit t ≡ 0
    null = sym (end_known place_limit t t p ks h.index.0.leads (λ q f _ _. refl) (λ q _. refl) (step_code_of s) h.index.0.here).leads ∙ ends_null

    place_below : end.place < n
    place_below = links_below n p ks h.good.0 h.good.2 end.place end.field end_at

    field_small : end.field < place_words
    field_small = let w = is_link end_at in omega arith

    follow_kept : (q f : ℕ) → Links p ks q f → follow q f place_limit t₄ ≡ follow q f place_limit t
    follow_kept q f l = same_follow t t₄ q f place_limit (kept q f l)

    -- with the child appended it ends there too
    same_end : seek p (step_code_of s) n t₄ ≡ slot 0 end.place end.field
    same_end =
        let e : follow end.place end.field place_limit t₄ ≡ 0 = follow_kept end.place end.field end_at ∙ null in
        seek_other n t t₄ p ks h.index.0.leads
        (λ q f l z. let d = follow_kept q f l in narrow_follow t₄ q f n place_limit (omega arith) (λ _. rw d (below (follow q f place_limit t) (h.index.0.leads q f l z))) ∙ d)
        kept_step (step_code_of s) h.index.0.here 0
        (narrow_follow t₄ end.place end.field n place_limit (omega arith) (λ z. absurd (z e)) ∙ e) (λ z. absurd (z refl))

    abbrev t₅ : List ℕ
    t₅ = with_word t₄ end.place end.field n

    entered_is : entered p (step_code_of s) n t₄ ≡ t₅
    unfolding entered when◌then◌else◌
    entered_is = rw (lt-ltb field_code (step_code_of s) numbered, same_end) refl

    elsewhere : (q f : ℕ) → f < place_words → (q ≡ end.place → f ≡ end.field → ⊥) → word t₅ q f ≡ word t₄ q f
    elsewhere q f l d = word_other t₄ end.place end.field n q f d

    -- no word that is no link
    beside : (q f : ℕ) → f < place_words → ((w : ℕ) → Links p ks q w → f ≡ w → ⊥) → word t₅ q f ≡ word t₄ q f
    beside q f l d = elsewhere q f l (λ y e. d end.field (subst (λ (x : ℕ). Links p ks x end.field) (sym y) end_at) e)

    leads_new : follow end.place end.field place_limit t₅ ≡ n
    leads_new =
        let i : end.place < n = place_below in
        let j : end.field < place_words = field_small in
        let z : length t₄ ≡ length t = grown.size in
        let big : IsTable t = h.room in
        full_follow t₅ end.place end.field place_limit n (word_same t₄ end.place end.field n (omega arith) (omega arith) j (in_each (omega arith))) i room

    nexts : (q f : ℕ) → Links p ks q f → (follow q f place_limit t ≡ 0 → ⊥) → follow q f place_limit t₅ ≡ follow q f place_limit t
    nexts q f l z =
        let w = is_link l in same_follow t₄ t₅ q f place_limit (elsewhere q f (omega arith) (λ y e. z (rw (y, e) null))) ∙ follow_kept q f l

    steps : (q : ℕ) → num_in q ks ≡ true → word t₅ q step_word ≡ word t q step_word
    steps q e = beside q step_word (omega arith) (λ w l d. let i = is_link l in omega arith) ∙ kept_step q e

    of_new : (f : ℕ) → f < place_words → word t₅ n f ≡ word t₄ n f
    of_new f l = elsewhere n f l (λ y _. let i : end.place < n = place_below in omega arith)

    new_found : (seek p (step_code_of s) place_limit t₅).child ≡ n
    new_found =
        let found = seek_other place_limit t t₅ p ks h.index.0.leads nexts steps (step_code_of s) h.index.0.here n leads_new (λ _. of_new step_word (omega arith) ∙ grown.step) in
        rw found refl

    block_same : word t₅ p block_word ≡ word t p block_word
    block_same = beside p block_word (omega arith) (λ w l d. let i = is_link l in omega arith) ∙ kept_block

    index_entered : Index t₅ p (add_s s n ks)
    index_entered =
        index_add t t₅ p s n ks h.index.0 nexts steps
        (λ q f l z. cases (eqb (follow q f place_limit t₅) n)
        (λ e. add_nums (follow q f place_limit t₅) s n ks ∙ or_right (num_in (follow q f place_limit t₅) ks) _ e)
        (λ e. let d : follow q f place_limit t₅ ≡ follow q f place_limit t
        = same_follow t₄ t₅ q f place_limit
        (elsewhere q f (let w = is_link l in omega arith)
        (λ x y. eqb-false (follow q f place_limit t₅) n e (rw (x, y) leads_new))) ∙ follow_kept q f l in
        grind (arith, add_nums (follow q f place_limit t₅) s n ks, h.index.0.leads q f l (rw d at z))))
        (null_follow t₅ n left_word place_limit (of_new left_word (omega arith) ∙ grown.left))
        (null_follow t₅ n right_word place_limit (of_new right_word (omega arith) ∙ grown.right))
        (λ code a. rw block_same at a) (λ _. new_found) known (far_has s ks far)

    pub enter_after : After text t n (spot p b k m ks) (entered p (step_code_of s) n t₄) (n + 1) (spot p b k m (add_s s n ks))
    enter_after =
        rw entered_is
        (settle t₅ (length_with t₄ end.place end.field n)
        (λ q f l a₅ a₆ a₇ a₁₄. beside q f l (λ w i e. links_apart q f w a₅ a₇ a₁₄ i e))
        (subst (λ (v : ℕ). Block v (add_s s n ks)) (kept_block ∙ sym block_same) grown.rep.2)
        index_entered)
      where
        links_apart : (q f w : ℕ) → (q ≡ p → f ≡ root_word → ⊥) → (num_in q ks ≡ true → f ≡ left_word → ⊥) → (num_in q ks ≡ true → f ≡ right_word → ⊥) → Links p ks q w → f ≡ w → ⊥
        links_apart q f w x y z at_root e = x refl e
        links_apart q f w x y z (at_left _ i) e = y i e
        links_apart q f w x y z (at_right _ i) e = z i e

  -- a child with no number
  pub plain_after : (field_code < step_code_of s → ⊥) → After text t n (spot p b k m ks) t₄ (n + 1) (spot p b k m (add_s s n ks))
  plain_after none = settle t₄ refl (λ q f _ _ _ _ _. refl) grown.rep.2 (index_beside t₄ (λ q f _ _. refl) (λ code a. rw kept_block at a) (λ a. none a.0))

  -- a position behind those of the block, which is one longer then
  pub block_after : (i : ℕ) → step_code_of s ≡ 4 + 2 * i → word t p block_word ≡ i → Block (suc i) (add_s s n ks) →
      After text t n (spot p b k m ks) (with_word t₄ p block_word (suc i)) (n + 1) (spot p b k m (add_s s n ks))
  block_after i e d β =
      let t₅ : List ℕ = with_word t₄ p block_word (suc i) in
      let u : Spot = spot_at (position i) (add_s s n ks) in
      let there = β i (omega arith) in
      let last : num u < n + 1 = bounded (n + 1) (num u) u (child_good (n + 1) p (position i) (add_s s n ks) grown.good.2 there.0).0 (self u) in
      let v : word t₅ p block_word ≡ suc i
      = word_same t₄ p block_word (suc i) (omega (arith, grown.size, h.room)) (omega (arith, h.most, h.good.0)) (omega arith) (in_each (omega (arith, there.1))) in
      settle t₅ (length_with t₄ p block_word (suc i)) (λ q f l _ a _ _. other q f l a) (subst (λ (y : ℕ). Block y (add_s s n ks)) (sym v) β)
      (index_beside t₅ (λ q f l a. other q f l a) (λ code a. let a' : Apart (suc i) code = rw v at a in (a'.0, λ z. rw d (let y = a'.1 z in omega arith)))
      (λ a. let a' : Apart (suc i) (step_code_of s) = rw v at a in let y = a'.1 (rw e (omega arith)) in omega arith))
    where
      other : (q f : ℕ) → f < place_words → (q ≡ p → f ≡ block_word → ⊥) → word (with_word t₄ p block_word (suc i)) q f ≡ word t₄ q f
      other q f l a = word_other t₄ p block_word (suc i) q f a

-- ---- the search for a numbered child
-- with the places that there are it finds what it finds with all
narrow_seek : (text t : List ℕ) (n p : ℕ) (b : Marks) (k m : ℕ) (ks : Spots) → Fits text t n (spot p b k m ks) → (code : ℕ) → seek p code n t ≡ seek p code place_limit t
narrow_seek text t n p b k m ks h code =
    let x : Index t p ks = h.index.0 in
    let most : n ≤ place_limit = h.most in
    let narrow : (q f : ℕ) → Links p ks q f → follow q f n t ≡ follow q f place_limit t
    = λ q f l. narrow_follow t q f n place_limit most (λ z. bounded_in n p (follow q f place_limit t) ks h.good.2 (in_tree (follow q f place_limit t) ks (x.leads q f l z))) in
    let end_at = end_link n t t p ks x.leads (λ q f l _. narrow q f l) (λ q _. refl) code x.here in
    seek_same n t t p ks x.leads (λ q f l _. narrow q f l) (λ q _. refl) code x.here
    (narrow _ _ end_at ∙ sym (end_known n t t p ks x.leads (λ q f l _. narrow q f l) (λ q _. refl) code x.here).leads)

-- it gives nothing, the child at the step, or a variant with the same number and another name
pub numbered_sought : (text t : List ℕ) (x : Flat.Step) (s : Step) → Stands text x s → (n p : ℕ) (b : Marks) (k m : ℕ) (ks : Spots) →
    Fits text t n (spot p b k m ks) → Apart (word t p block_word) (step_code_of s)
    → Sought text t s ks (seek p (code_of x) n t).child
numbered_sought text t x s st n p b k m ks h a =
    rw (st.code, narrow_seek text t n p b k m ks h (step_code_of s))
    (cases (near_in s ks)
    (λ e. let i = picked text t x s st n p p ks h.good.2 h.rep.1 e in
    let d : step_code_of s ≡ step_code_of i.step = near_codes s i.step i.is in
    let f : (seek p (step_code_of i.step) place_limit t).child ≡ num (spot_at i.step ks) = h.index.0.found i.step i.there (rw d at a) in
    rw (d, f) i.sought)
    (λ e. absent (seek_far text t p ks h.index.0 h.rep.1 s e a.0) e))

-- ---- a new child with its tag and position, entered if it is numbered
-- these are none of the words that say the tree
grown_tag : (text t : List ℕ) (n p : ℕ) (b : Marks) (k m : ℕ) (ks : Spots) (s : Step) (t' : List ℕ) → Grown text t n p b k m ks s t' → (at v : ℕ) → tag_word ≤ at →
    Grown text t n p b k m ks s (with_word t' n at v)
grown_tag text t n p b k m ks s t' g at v h =
    let w : (q f : ℕ) → f < tag_word → word (with_word t' n at v) q f ≡ word t' q f = λ q f l. word_other t' n at v q f (λ _ e. omega arith) in
    record {
      rep = (
        (λ f l. w p (kind_word + f) (omega arith) ∙ g.rep.0 f l),
        frame_in text t' (with_word t' n at v) p (add_s s n ks) g.rep.1 (λ q f l _. w q f (let y = l.1 in omega arith)),
        same_block t' (with_word t' n at v) p (add_s s n ks) (w p block_word (omega arith)) g.rep.2,
      );
      good = g.good;
      size = length_with t' n at v ∙ g.size;
      words = λ q f l i d e. word_other t' n at v q f (λ x _. omega arith) ∙ g.words q f l i d e;
      root = w n root_word (omega arith) ∙ g.root;
      left = w n left_word (omega arith) ∙ g.left;
      right = w n right_word (omega arith) ∙ g.right;
      step = w n step_word (omega arith) ∙ g.step;
      zeros = λ q f l y i. word_other t' n at v q f (λ x _. omega arith) ∙ g.zeros q f l y i;
    }

pub make_after : (text t : List ℕ) (n p : ℕ) (x : Flat.Step) (s : Step) (b : Marks) (k m : ℕ) (ks : Spots) → Stands text x s → near_in s ks ≡ false → Fits text t n (spot p b k m ks) → n < place_limit
    → After text t n (spot p b k m ks) (entered p (code_of x) n (tagged text (name_of x) (position_in p t) n (appended p (code_of x) (name_of x) n t))) (n + 1) (spot p b k m (add_s s n ks))
unfolding entered tagged when◌then◌else◌
make_after text t n p x s b k m ks st far h room =
    let t₄ : List ℕ = tagged text (name_of x) (position_in p t) n (appended p (code_of x) (name_of x) n t) in
    let t₂ : List ℕ = appended p (code_of x) (name_of x) n t in
    let tag : ℕ = tag_of (bytes_of text (name_of x)) in
    let G =
    grown_tag text t n p b k m ks s (with_word t₂ n tag_word tag)
    (grown_tag text t n p b k m ks s t₂ (append_grown text t n p x s b k m ks st far h room) tag_word tag (omega arith)) position_word (position_in p t) (omega arith) in
    cases (is_numbered (code_of x))
    (λ e. let l : field_code < step_code_of s = rw st.code at (ltb-true field_code (code_of x) e) in
    subst (λ (c : ℕ). After text t n (spot p b k m ks) (entered p c n t₄) (n + 1) (spot p b k m (add_s s n ks))) (sym st.code) (enter_after text t n p b k m ks h s far room t₄ G l))
    (λ e. let l : code_of x ≤ field_code = ltb-false field_code (code_of x) e in
    rw e (plain_after text t n p b k m ks h s far room t₄ G (λ i. let j : step_code_of s ≤ field_code = rw st.code at l in omega arith)))
