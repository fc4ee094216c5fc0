-- A place that is made as the last child of another, and the children of all places: they stay the places with that parent, in ascending order.
use Rattle.std.specs.Prelude.{◌≡◌, ℕ, ◌+◌, ◌<◌, ◌≤◌, List, ◌==◌, ◌≢◌, nat_lt}
use Rattle.std.proofs.Common.{sym, ◌∙◌, arith, eqb-true, ltb-true, ltb-false}
use Rattle.std.proofs.lemmas.Bool.{eqb-false}
use Rattle.logic.specs.laws.Test.{cases}
use Rattle.words.specs.Word.{word}
use Rattle.model.specs.Tracing.{place_limit}
use Rattle.places.specs.Layout.{first_word, last_word, next_word, parent_word, Linked, Siblings, Ready}

-- place n is the new last child of a place, by the words that tell
pub record Appended (t u : List ℕ) (place n : ℕ) : Type 0 where
  pub parent : word u n parent_word ≡ place
  pub parents : (q : ℕ) → (q ≢ n) → word u q parent_word ≡ word t q parent_word
  pub last : word u place last_word ≡ n
  pub lasts : (q : ℕ) → (q ≢ place) → word u q last_word ≡ word t q last_word
  -- it is the first
  pub first : word t place first_word ≡ 0 → word u place first_word ≡ n
  pub firsts : (q : ℕ) → (q ≡ place → word t place first_word ≢ 0) → word u q first_word ≡ word t q first_word
  -- or the next after the last before it
  pub next : (word t place first_word ≢ 0) → word u (word t place last_word) next_word ≡ n
  pub nexts : (q : ℕ) → (q ≡ word t place last_word → word t place first_word ≡ 0) → word u q next_word ≡ word t q next_word

module _ (text t u : List ℕ) (n place : ℕ) (ready : Ready text t n place) (a : Appended t u place n) where
  s : Siblings t n
  s = ready.sound.siblings

  k : Linked text t n
  k = ready.sound.linked

  here : place < n
  here = ready.here

  most : n ≤ place_limit
  most = k.most

  -- only places that are made have children, or siblings
  made : (p f : ℕ) → (word t p f ≢ 0) → p < n
  made p f z = cases (nat_lt p n) (λ e. ltb-true p n e) (λ e. absurd (z (ready.sound.blank p f (ltb-false p n e))))

  -- a place that was made has the parent that it had
  kept : (c : ℕ) → c < n → word u c parent_word ≡ word t c parent_word
  kept c l = a.parents c (λ e. omega arith)

  -- the place's last child before, where it has any
  abbrev before : ℕ
  before = word t place last_word

  before_made : before < n
  before_made = k.last place (omega arith)

  first : (p : ℕ) → (word u p first_word ≢ 0) → word u (word u p first_word) parent_word ≡ p
  first p z =
      cases (p == place)
      (λ e. let i : p ≡ place = eqb-true p place e in
      cases (word t place first_word == 0)
      (λ d. rw (i, a.first (eqb-true _ 0 d)) a.parent)
      (λ d. old (λ _. eqb-false _ 0 d)))
      (λ e. old (λ i. absurd (eqb-false p place e i)))
    where
      old : (p ≡ place → word t place first_word ≢ 0) → word u (word u p first_word) parent_word ≡ p
      old o =
          let same : word u p first_word ≡ word t p first_word = a.firsts p o in
          let y : (word t p first_word ≢ 0) = λ e. z (same ∙ e) in
          let l : p < n = made p first_word y in
          rw same (kept (word t p first_word) (k.first p (omega arith)) ∙ s.first p y)

  last : (p : ℕ) → (word u p first_word ≢ 0) → word u (word u p last_word) parent_word ≡ p
  last p z =
      cases (p == place)
      (λ e. rw (eqb-true p place e, a.last) a.parent)
      (λ e.
      let o : (p ≢ place) = eqb-false p place e in
      let same : word u p first_word ≡ word t p first_word = a.firsts p (λ i. absurd (o i)) in
      let y : (word t p first_word ≢ 0) = λ d. z (same ∙ d) in
      let l : p < n = made p first_word y in
      rw (a.lasts p o) (kept (word t p last_word) (k.last p (omega arith)) ∙ s.last p y))

  next : (c : ℕ) → (word u c next_word ≢ 0) → word u (word u c next_word) parent_word ≡ word u c parent_word
  next c z =
      cases (word t place first_word == 0)
      (λ d. old (λ _. eqb-true _ 0 d))
      (λ d. cases (c == before)
      (λ e.
      let i : c ≡ before = eqb-true c before e in
      let o = eqb-false (word t place first_word) 0 d in
      rw (i, a.next o, kept before before_made) (a.parent ∙ sym (s.last place o)))
      (λ e. old (λ i. absurd (eqb-false c before e i))))
    where
      old : (c ≡ before → word t place first_word ≡ 0) → word u (word u c next_word) parent_word ≡ word u c parent_word
      old o =
          let same : word u c next_word ≡ word t c next_word = a.nexts c o in
          let y : (word t c next_word ≢ 0) = λ d. z (same ∙ d) in
          let l : c < n = made c next_word y in
          rw same (kept (word t c next_word) (k.next c (omega arith)) ∙ s.next c y ∙ sym (kept c l))

  -- a child that there was: its place has a first child, and keeps it
  first_kept : (c : ℕ) → 0 < c → c < n → word u (word u c parent_word) first_word ≡ word t (word t c parent_word) first_word
  first_kept c h l = rw (kept c l) (a.firsts (word t c parent_word) (λ e d. s.some c h l (rw e d)))

  new_first : (word t place first_word ≡ 0 → word u place first_word ≡ n) × ((word t place first_word ≢ 0) → word u place first_word ≡ word t place first_word)
  new_first = (a.first, λ z. a.firsts place (λ _. z))

  some : (c : ℕ) → 0 < c → c < n + 1 → word u (word u c parent_word) first_word ≢ 0
  some c h l e =
      cases (c == n)
      (λ i.
      let d : word u place first_word ≡ 0 = rw (eqb-true c n i, a.parent) at e in
      cases (word t place first_word == 0)
      (λ y. let f : word u place first_word ≡ n = a.first (eqb-true _ 0 y) in omega arith)
      (λ y. eqb-false _ 0 y (sym (new_first.1 (eqb-false _ 0 y)) ∙ d)))
      (λ i. let o = eqb-false c n i in let m : c < n = omega (arith, o) in s.some c h m (sym (first_kept c h m) ∙ e))

  from : (c : ℕ) → 0 < c → c < n + 1 → word u (word u c parent_word) first_word ≤ c
  from c h l =
      cases (c == n)
      (λ i.
      let j : c ≡ n = eqb-true c n i in
      rw (j, a.parent)
      (cases (word t place first_word == 0)
      (λ y. let f : word u place first_word ≡ n = a.first (eqb-true _ 0 y) in omega arith)
      (λ y. let f = new_first.1 (eqb-false _ 0 y) in let g : word t place first_word < n = k.first place (omega arith) in omega arith)))
      (λ i. let o = eqb-false c n i in let m : c < n = omega (arith, o) in rw (first_kept c h m) (s.from c h m))

  to : (c : ℕ) → 0 < c → c < n + 1 → c ≤ word u (word u c parent_word) last_word
  to c h l =
      cases (c == n)
      (λ i. rw (eqb-true c n i, a.parent, a.last) (omega arith))
      (λ i.
      let o = eqb-false c n i in
      let m : c < n = omega (arith, o) in
      rw (kept c m)
      (cases (word t c parent_word == place)
      (λ e. rw (eqb-true _ place e, a.last) (omega arith))
      (λ e. rw (a.lasts (word t c parent_word) (eqb-false _ place e)) (s.to c h m))))

  -- of two with one parent, the lower has a next, which is not beyond the higher
  after : (c d : ℕ) → 0 < c → c < d → d < n + 1 → word u c parent_word ≡ word u d parent_word → (word u c next_word ≢ 0) × (word u c next_word ≤ d)
  after c d h b l e =
      let m : c < n = omega arith in
      let x : word t c parent_word ≡ word u d parent_word = sym (kept c m) ∙ e in
      cases (d == n)
      (λ i. let j : d ≡ n = eqb-true d n i in newest m j (x ∙ (rw j a.parent)))
      (λ i. let o = eqb-false d n i in let g : d < n = omega (arith, o) in older m g (x ∙ kept d g))
    where
      -- its next is the one that it had
      had : c < n → (c ≡ before → word t place first_word ≡ 0) → (word t c next_word ≢ 0) → word t c next_word ≤ d → (word u c next_word ≢ 0) × (word u c next_word ≤ d)
      had m o y z = rw (a.nexts c o) (y, z)

      newest : c < n → d ≡ n → word t c parent_word ≡ place → (word u c next_word ≢ 0) × (word u c next_word ≤ d)
      newest m j x =
          let o : (word t place first_word ≢ 0) = λ z. s.some c h m (rw x z) in
          cases (c == before)
          (λ i. let y : word u c next_word ≡ n = rw (eqb-true c before i) (a.next o) in ((λ z. omega arith), omega arith))
          (λ i.
          let g : c ≤ before = rw x at (s.to c h m) in
          let v = eqb-false c before i in
          let w : c < before = omega (arith, v) in
          let r : word t c parent_word ≡ word t before parent_word = x ∙ sym (s.last place o) in
          let f : word t c next_word ≤ before = s.between c before h w before_made r in
          let bm : before < n = before_made in
          had m (λ q. absurd (v q)) (s.following c before h w before_made r) (omega arith))

      older : c < n → d < n → word t c parent_word ≡ word t d parent_word → (word u c next_word ≢ 0) × (word u c next_word ≤ d)
      older m g x =
          had m
          (λ q. cases (word t place first_word == 0) (λ y. eqb-true _ 0 y) (λ y.
          let r : word t d parent_word ≡ place = sym x ∙ (rw q (s.last place (eqb-false _ 0 y))) in
          let v : d ≤ before = rw r at (s.to d (omega arith) g) in
          absurd (omega arith)))
          (s.following c d h b g x) (s.between c d h b g x)

  pub siblings_appended : Siblings u (n + 1)
  siblings_appended =
      record {
        first = first;
        last = last;
        next = next;
        some = some;
        from = from;
        to = to;
        following = λ c d h b l e. (after c d h b l e).0;
        between = λ c d h b l e. (after c d h b l e).1;
      }
