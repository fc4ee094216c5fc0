-- Laws of UTF-8: the computed test says what the table says, and some texts that it refuses or takes.
use Rattle.std.specs.Prelude.{◌≡◌, refl, ℕ, zero, suc, ◌≤◌, ◌<◌, Bool, true, false, ◌&&◌, List, [], ◌∷◌, ◌++◌, leb, drop}
use Rattle.std.proofs.Common.{sym, ap, subst, ◌∙◌, arith}
use Rattle.std.proofs.lemmas.Bool.{false≢true}
use Rattle.std.proofs.Math.Option.{Option, none, some}
use Rattle.std.proofs.Math.ListN.{get_elem?}
use borrow.Author.Tests.{leb-true, le-leb, lt-leb}
use Rattle.logic.specs.Test.{when◌then◌else◌}
use Rattle.logic.specs.laws.Test.{if_passed, if_failed, cases, both}
use Rattle.text.specs.Utf8.{Range, ◌to◌, table, within, due_in, reads, is_utf8, fits, Utf8, empty, next}

-- a byte in a range, below it, above it
module _ (low high b : ℕ) where
  pub within_true : low ≤ b → b ≤ high → within (low to high) b ≡ true
  unfolding within
  within_true p q = rw (le-leb low b p, le-leb b high q)

  pub within_below : b < low → within (low to high) b ≡ false
  unfolding within
  within_below h = rw (lt-leb low b h)

  pub within_above : high < b → within (low to high) b ≡ false
  unfolding within
  within_above h = cases (leb low b) (λ e. rw (e, lt-leb b high h)) (λ e. rw e)

  pub within_bounds : {P : Type 0} → within (low to high) b ≡ true → (low ≤ b → b ≤ high → P) → P
  unfolding within
  within_bounds e k = both (leb low b) (leb b high) e λ p q. k (leb-true low b p) (leb-true b high q)

-- the first bytes of the rows rise, from a least one on: no byte begins two rows
rising : ℕ → List (List Range) → Bool
rising n [] = true
rising n ([] ∷ rows) = false
rising n ((low to high ∷ due) ∷ rows) = leb n low && leb low high && rising (suc high) rows

rising_row : {P : Type 0} (n low high : ℕ) (due : List Range) (rows : List (List Range)) →
    rising n ((low to high ∷ due) ∷ rows) ≡ true → (n ≤ low → low ≤ high → rising (suc high) rows ≡ true → P) → P
unfolding rising
rising_row n low high due rows e k =
    both (leb n low && leb low high) (rising (suc high) rows) e
    λ p q. both (leb n low) (leb low high) p λ r t. k (leb-true n low r) (leb-true low high t) q

rises : rising 0 table ≡ true
unfolding rising
rises = refl

-- a byte below all first bytes begins no row
due_below : (n b : ℕ) (rows : List (List Range)) → rising n rows ≡ true → b < n → due_in rows b ≡ none
unfolding rising due_in
due_below n b [] e h = refl
due_below n b ([] ∷ rows) e h = absurd (false≢true e)
due_below n b ((low to high ∷ due) ∷ rows) e h =
    rising_row n low high due rows e
    λ p q r. if_failed (some due) (within_below low high b (omega arith)) ∙ due_below (suc high) b rows r (omega arith)

-- a byte above the first bytes of row k begins none of the rows up to it
due_above : (n k b low high : ℕ) (due : List Range) (rows : List (List Range)) → rising n rows ≡ true →
    get_elem? rows k ≡ some (low to high ∷ due) → high < b → (n ≤ b) × (due_in rows b ≡ due_in (drop (suc k) rows) b)
unfolding rising due_in
due_above n k b low high due [] e f h = let z : ◌≡◌ {A = ℕ} 0 1 = cc in absurd (omega arith)
due_above n k b low high due ([] ∷ rows) e f h = absurd (false≢true e)
due_above n zero b low high due ((l to u ∷ d) ∷ rows) e f h =
    let g : u ≡ high = cc in
    rising_row n l u d rows e
    λ p q r. (omega arith, if_failed (some d) (within_above l u b (omega arith)))
due_above n (suc k) b low high due ((l to u ∷ d) ∷ rows) e f h =
    rising_row n l u d rows e
    λ p q r.
    let t : (suc u ≤ b) × (due_in rows b ≡ due_in (drop (suc k) rows) b) = due_above (suc u) k b low high due rows r f h in
    (omega arith, if_failed (some d) (within_above l u b (omega arith)) ∙ t.1)

-- a first byte of row k has the rest of that row due
due_row : (n k b low high : ℕ) (due : List Range) (rows : List (List Range)) → rising n rows ≡ true →
    get_elem? rows k ≡ some (low to high ∷ due) → low ≤ b → b ≤ high → (n ≤ b) × (due_in rows b ≡ some due)
unfolding rising due_in
due_row n k b low high due [] e f p q = let z : ◌≡◌ {A = ℕ} 0 1 = cc in absurd (omega arith)
due_row n k b low high due ([] ∷ rows) e f p q = absurd (false≢true e)
due_row n zero b low high due ((l to u ∷ d) ∷ rows) e f p q =
    let g : l ≡ low = cc in
    let h : u ≡ high = cc in
    let t : ◌≡◌ {A = Option (List Range)} (some d) (some due) = cc in
    rising_row n l u d rows e
    λ r v w. (omega arith, if_passed (due_in rows b) (within_true l u b (omega arith) (omega arith)) ∙ t)
due_row n (suc k) b low high due ((l to u ∷ d) ∷ rows) e f p q =
    rising_row n l u d rows e
    λ r v w.
    let t : (suc u ≤ b) × (due_in rows b ≡ some due) = due_row (suc u) k b low high due rows w f p q in
    (omega arith, if_failed (some d) (within_above l u b (omega arith)) ∙ t.1)

-- the same at the table; and 80 to C1 and F5 to FF begin no row
pub due_at : (k b low high : ℕ) (due : List Range) → get_elem? table k ≡ some (low to high ∷ due) → low ≤ b → b ≤ high → due_in table b ≡ some due
due_at k b low high due f p q = (due_row 0 k b low high due table rises f p q).1

pub due_gap : (b : ℕ) → 0x7F < b → b < 0xC2 → due_in table b ≡ none
unfolding rising
due_gap b p q = (due_above 0 0 b 0x00 0x7F [] table rises refl p).1 ∙ due_below 0xC2 b (drop 1 table) refl q

pub due_past : (b : ℕ) → 0xF4 < b → due_in table b ≡ none
unfolding due_in
due_past b p = (due_above 0 8 b 0xF4 0xF4 (0x80 to 0x8F ∷ 0x80 to 0xBF ∷ 0x80 to 0xBF ∷ []) table rises refl p).1

-- what is due after a first byte is the rest of a row that begins with it
due_found : {P : Type 0} (b : ℕ) (due : List Range) (rows : List (List Range)) → due_in rows b ≡ some due
    → ((k : ℕ) (range : Range) → get_elem? rows k ≡ some (range ∷ due) → within range b ≡ true → P) → P
unfolding due_in
due_found b due [] e found = let z : ◌≡◌ {A = ℕ} 0 1 = cc in absurd (omega arith)
due_found b due ([] ∷ rows) e found = due_found b due rows e λ k. found (suc k)
due_found b due ((range ∷ d) ∷ rows) e found =
    cases (within range b)
    (λ t. let g : ◌≡◌ {A = Option (List Range)} (some d) (some due) = sym (if_passed (due_in rows b) t) ∙ e in found 0 range (cc) t)
    (λ t. due_found b due rows (sym (if_failed (some d) t) ∙ e) λ k. found (suc k))

-- what is due, then whole sequences
reads_fits : (due : List Range) (bytes more : List ℕ) → fits due bytes ≡ true → reads due (bytes ++ more) ≡ is_utf8 more
unfolding reads fits
reads_fits [] [] more e = refl
reads_fits [] (b ∷ bytes) more e = absurd (false≢true e)
reads_fits (range ∷ due) [] more e = absurd (false≢true e)
reads_fits (range ∷ due) (b ∷ bytes) more e = both (within range b) (fits due bytes) e λ p q. rw (p, reads_fits due bytes more q)

-- the first byte selects its row
pub reads_first : (b : ℕ) (due : List Range) (bytes : List ℕ) → due_in table b ≡ some due → is_utf8 (b ∷ bytes) ≡ reads due bytes
unfolding reads
reads_first b due bytes e = rw (e, reads)

pub reads_none : (b : ℕ) (bytes : List ℕ) → due_in table b ≡ none → is_utf8 (b ∷ bytes) ≡ false
unfolding reads
reads_none b bytes e = rw (e, reads)

pub is_utf8_next : (k : ℕ) (row : List Range) (bytes more : List ℕ) → get_elem? table k ≡ some row → fits row bytes ≡ true → is_utf8 (bytes ++ more) ≡ is_utf8 more
unfolding fits
is_utf8_next k [] bytes more e f = reads_fits [] bytes more f
is_utf8_next k (range ∷ due) [] more e f = absurd (false≢true f)
is_utf8_next k (low to high ∷ due) (b ∷ bytes) more e f =
    both (within (low to high) b) (fits due bytes) f
    λ p q.
    within_bounds low high b p
    λ r t. reads_first b due (bytes ++ more) (due_at k b low high due e r t) ∙ reads_fits due bytes more q

-- No proof cites this: with `is_utf8_sound` below, it says that the computed test, with which contracts are stated, is the table.
-- What the table says is UTF-8 passes the test
pub is_utf8_complete : {bytes : List ℕ} → Utf8 bytes → is_utf8 bytes ≡ true
unfolding reads
is_utf8_complete empty = refl
is_utf8_complete (next k row bytes more e f u) = is_utf8_next k row bytes more e f ∙ is_utf8_complete u

-- bytes that are what is due, and then UTF-8
abbrev Split : List Range → List ℕ → Type 0
Split due bytes = (s : List ℕ) × (t : List ℕ) × (s ++ t ≡ bytes) × (fits due s ≡ true) × Utf8 t

first_sound : (b : ℕ) (bytes : List ℕ) (o : Option (List Range)) → due_in table b ≡ o → is_utf8 (b ∷ bytes) ≡ true →
    ((due : List Range) → reads due bytes ≡ true → Split due bytes) → Utf8 (b ∷ bytes)
unfolding fits
first_sound b bytes none f e split = absurd (false≢true (sym (reads_none b bytes f) ∙ e))
first_sound b bytes (some due) f e split =
    let r : Split due bytes = split due (sym (reads_first b due bytes f) ∙ e) in
    due_found b due table f
    λ k range g h.
    subst (λ (l : List ℕ). Utf8 (b ∷ l)) r.2 (next k (range ∷ due) (b ∷ r.0) r.1 g (rw (h, r.3)) r.4)

reads_sound : (due : List Range) (bytes : List ℕ) → reads due bytes ≡ true → Split due bytes
unfolding reads fits
reads_sound [] [] e = ([], [], refl, refl, empty)
reads_sound [] (b ∷ bytes) e = ([], b ∷ bytes, refl, refl, first_sound b bytes (due_in table b) refl e λ due. reads_sound due bytes)
reads_sound (range ∷ due) [] e = absurd (false≢true e)
reads_sound (range ∷ due) (b ∷ bytes) e =
    both (within range b) (reads due bytes) e
    λ p q. let r = reads_sound due bytes q in (b ∷ r.0, r.1, ap (λ (l : List ℕ). b ∷ l) r.2, rw (p, r.3), r.4)

none_due : (s t bytes : List ℕ) → s ++ t ≡ bytes → fits [] s ≡ true → Utf8 t → Utf8 bytes
unfolding fits
none_due [] t bytes e f u = subst Utf8 e u
none_due (b ∷ s) t bytes e f u = absurd (false≢true f)

-- what passes the test is UTF-8 by the table
pub is_utf8_sound : (bytes : List ℕ) → is_utf8 bytes ≡ true → Utf8 bytes
is_utf8_sound bytes e = let r = reads_sound [] bytes e in none_due r.0 r.1 bytes r.2 r.3 r.4

-- No proof cites these examples: a surrogate, overlong forms, and the ends of the last row.
surrogate : is_utf8 (0xED ∷ 0xA0 ∷ 0x80 ∷ []) ≡ false
unfolding reads due_in within when◌then◌else◌
surrogate = refl

overlong_two : is_utf8 (0xC0 ∷ 0x80 ∷ []) ≡ false
unfolding reads due_in within when◌then◌else◌
overlong_two = refl

overlong_three : is_utf8 (0xE0 ∷ 0x80 ∷ 0x80 ∷ []) ≡ false
unfolding reads due_in within when◌then◌else◌
overlong_three = refl

past_last : is_utf8 (0xF4 ∷ 0x90 ∷ 0x80 ∷ 0x80 ∷ []) ≡ false
unfolding reads due_in within when◌then◌else◌
past_last = refl

last : is_utf8 (0xF4 ∷ 0x8F ∷ 0xBF ∷ 0xBF ∷ []) ≡ true
unfolding reads due_in within when◌then◌else◌
last = refl
