-- The fixed forms are dates and times: the matchers read them to their ends.
use Rattle.std.proofs.Common.{◌≡◌, refl, sym, ap, ◌∙◌, Bool, true, false, ◌&&◌, List, [], ℕ, suc, ◌+◌, ◌≤◌, ◌<◌, length, get_or, drop, eqb, Option, Some, None, option_and_then, arith, eqb-true, drop-cons, length-drop}
use Rattle.std.specs.Option.{option_or}
use Rattle.std.proofs.lemmas.List.{drop_all}
use Rattle.logic.specs.Test.{when◌then◌else◌}
use Rattle.logic.specs.laws.Test.{both}
use Rattle.datatype.specs.Codes.{timestamp_naive, timestamp_utc, time64, date32}
use Rattle.chrono.specs.Grammar.{Grammar, nothing, one, many, ◌then◌, ◌or◌, byte, optional, fits}
use Rattle.chrono.specs.Date.{plus, minus, dot, colon, T', blank, Z', is_digit, digit, digits, one_or_two_digits, optional_sign, subsecond, separator, naive_date, naive_time, utc_zone}
use Rattle.chrono.specs.Scan.{skip, scan}
use Rattle.chrono.specs.Fixed.{two_digits, joined_digits, fixed_date, fixed_time, fixed_datetime}
use Rattle.chrono.specs.Text.{date_texts, first_fit}
use Rattle.chrono.proofs.Exact.{apart, time_last}
use Rattle.chrono.proofs.Reading.{no_begin, is_time, dated, date_ends, zoned, unzoned}

-- what `scan` gives, one law for each way
then_next : {m : Option (List ℕ)} (g h : Grammar) (s u : List ℕ) → Some u ≡ scan g s → m ≡ scan h u → m ≡ scan (g then h) s
unfolding scan
then_next g h s u e p = p ∙ ap (option_and_then (scan h)) e

then_no : (g h : Grammar) (s : List ℕ) → None ≡ scan g s → None ≡ scan (g then h) s
unfolding scan
then_no g h s e = ap (option_and_then (scan h)) e

or_first : (g h : Grammar) (s u : List ℕ) → Some u ≡ scan g s → Some u ≡ scan (g or h) s
unfolding scan
or_first g h s u e = ap (λ m. option_or m (scan h s)) e

or_other : {m : Option (List ℕ)} (g h : Grammar) (s : List ℕ) → None ≡ scan g s → m ≡ scan h s → m ≡ scan (g or h) s
unfolding scan
or_other g h s e p = p ∙ ap (λ m. option_or m (scan h s)) e

or_nothing : (s : List ℕ) → Some s ≡ scan nothing s
unfolding scan
or_nothing s = refl

module _ (s : List ℕ) where
  -- a byte of a class at an offset, another byte, or none
  one_is : (t : ℕ → Bool) (i j : ℕ) → i + 1 ≡ j → j ≤ length s → t (get_or s i 0) ≡ true → Some (drop j s) ≡ scan (one t) (drop i s)
  unfolding scan
  one_is t i j d h e = let d : suc i ≡ j = omega arith in rw (drop-cons s i 0 (omega arith), e, d)

  one_not : (t : ℕ → Bool) (i : ℕ) → i < length s → t (get_or s i 0) ≡ false → None ≡ scan (one t) (drop i s)
  unfolding scan
  one_not t i h e = rw (drop-cons s i 0 h, e)

  one_past : (t : ℕ → Bool) (i : ℕ) → length s ≤ i → None ≡ scan (one t) (drop i s)
  unfolding scan
  one_past t i h = rw (drop_all i s h)

  -- a run of bytes of a class: its first, one more of them, and another byte, which ends it
  many_is : (t : ℕ → Bool) (i j : ℕ) → i + 1 ≡ j → j ≤ length s → t (get_or s i 0) ≡ true → Some (skip t (drop j s)) ≡ scan (many t) (drop i s)
  unfolding scan
  many_is t i j d h e = let d : suc i ≡ j = omega arith in rw (drop-cons s i 0 (omega arith), e, d)

  skip_on : (t : ℕ → Bool) (i j : ℕ) → i + 1 ≡ j → j ≤ length s → t (get_or s i 0) ≡ true → skip t (drop i s) ≡ skip t (drop j s)
  unfolding skip
  skip_on t i j d h e = let d : suc i ≡ j = omega arith in rw (drop-cons s i 0 (omega arith), e) (ap (λ k. skip t (drop k s)) d)

  skip_ends : (t : ℕ → Bool) (i : ℕ) → i < length s → t (get_or s i 0) ≡ false → skip t (drop i s) ≡ drop i s
  unfolding skip
  skip_ends t i h e = rw (drop-cons s i 0 h, e)

  -- the parts, each to the offset where it ends
  two : (i k : ℕ) → i + 2 ≡ k → k ≤ length s → two_digits s i ≡ true → Some (drop k s) ≡ scan one_or_two_digits (drop i s)
  two i k e h t =
      both (is_digit (get_or s i 0)) (is_digit (get_or s (i + 1) 0)) t
      (λ p q.
      then_next digit (optional digit) (drop i s) (drop (i + 1) s) (one_is is_digit i (i + 1) refl (omega arith) p)
      (or_first digit nothing (drop (i + 1) s) (drop k s) (one_is is_digit (i + 1) k (omega arith) h q)))

  module _ (b i k : ℕ) (e : i + 3 ≡ k) (h : k ≤ length s) (t : joined_digits s i b ≡ true) where
    joined_last : Some (drop k s) ≡ scan (byte b then one_or_two_digits) (drop i s)
    joined_last =
        both (eqb (get_or s i 0) b) (two_digits s (i + 1)) t
        (λ p q.
        then_next (byte b) _ (drop i s) (drop (i + 1) s) (one_is _ i (i + 1) refl (omega arith) p) (two (i + 1) k (omega arith) h q))

    joined : {m : Option (List ℕ)} (g : Grammar) → m ≡ scan g (drop k s) → m ≡ scan (byte b then one_or_two_digits then g) (drop i s)
    joined g f =
        both (eqb (get_or s i 0) b) (two_digits s (i + 1)) t
        (λ p q.
        then_next (byte b) _ (drop i s) (drop (i + 1) s) (one_is _ i (i + 1) refl (omega arith) p)
        (then_next one_or_two_digits g (drop (i + 1) s) (drop k s) (two (i + 1) k (omega arith) h q) f))

  -- four digits and no fifth
  year : 5 ≤ length s → two_digits s 0 ≡ true → two_digits s 2 ≡ true → eqb (get_or s 4 0) minus ≡ true → Some (drop 4 s) ≡ scan digits s
  year h p q r =
      both (is_digit (get_or s 0 0)) (is_digit (get_or s 1 0)) p
      (λ a b.
      both (is_digit (get_or s 2 0)) (is_digit (get_or s 3 0)) q
      (λ c d.
      let e : is_digit (get_or s 4 0) ≡ false = rw (eqb-true (get_or s 4 0) minus r) in
      let f : skip is_digit (drop 1 s) ≡ drop 4 s =
      skip_on is_digit 1 2 refl (omega arith) b ∙
      skip_on is_digit 2 3 refl (omega arith) c ∙ skip_on is_digit 3 4 refl (omega arith) d ∙ skip_ends is_digit 4 (omega arith) e in
      ap Some (sym f) ∙ many_is is_digit 0 1 refl (omega arith) a))

  no_sign : 1 ≤ length s → is_digit (get_or s 0 0) ≡ true → Some s ≡ scan optional_sign s
  no_sign h e =
      or_other (byte plus) _ s (one_not _ 0 (omega arith) (apart is_digit plus refl (get_or s 0 0) e))
      (or_other (byte minus) nothing s (one_not _ 0 (omega arith) (apart is_digit minus refl (get_or s 0 0) e)) (or_nothing s))

  date : 10 ≤ length s → fixed_date s ≡ true → Some (drop 10 s) ≡ scan naive_date s
  unfolding fixed_date
  date h t =
      both (two_digits s 0 && two_digits s 2 && joined_digits s 4 minus) (joined_digits s 7 minus) t
      (λ t day.
      both (two_digits s 0 && two_digits s 2) (joined_digits s 4 minus) t
      (λ t month.
      both (two_digits s 0) (two_digits s 2) t
      (λ p q.
      both (is_digit (get_or s 0 0)) (is_digit (get_or s 1 0)) p
      (λ a b.
      both (eqb (get_or s 4 0) minus) (two_digits s 5) month
      (λ r _.
      then_next optional_sign _ s s (no_sign (omega arith) a)
      (then_next digits _ s (drop 4 s) (year (omega arith) p q r)
      (joined minus 4 7 refl (omega arith) month _ (joined_last minus 7 10 refl h day))))))))

  -- a time, where no dot follows
  time : (i k : ℕ) → i + 8 ≡ k → k ≤ length s → fixed_time s i ≡ true → None ≡ scan (byte dot) (drop k s) → Some (drop k s) ≡ scan naive_time (drop i s)
  unfolding fixed_time
  time i k e h t ends =
      both (two_digits s i && joined_digits s (i + 2) colon) (joined_digits s (i + 5) colon) t
      (λ t second.
      both (two_digits s i) (joined_digits s (i + 2) colon) t
      (λ hour minute.
      then_next one_or_two_digits _ (drop i s) (drop (i + 2) s) (two i (i + 2) refl (omega arith) hour)
      (joined colon (i + 2) (i + 5) (omega arith) (omega arith) minute _
      (joined colon (i + 5) k (omega arith) h second _
      (or_other subsecond nothing (drop k s) (then_no (byte dot) digits (drop k s) ends) (or_nothing (drop k s)))))))

  datetime : {P : Type 0} → 19 ≤ length s → fixed_datetime s ≡ true → None ≡ scan (byte dot) (drop 19 s) →
      (Some (drop 10 s) ≡ scan naive_date s → eqb (get_or s 10 0) T' ≡ true → Some (drop 11 s) ≡ scan separator (drop 10 s) → Some (drop 19 s) ≡ scan naive_time (drop 11 s) → P) → P
  unfolding fixed_datetime
  datetime h t ends k =
      both (fixed_date s && eqb (get_or s 10 0) T') (fixed_time s 11) t
      (λ t timed.
      both (fixed_date s) (eqb (get_or s 10 0) T') t
      (λ dated p.
      k (date (omega arith) dated) p
      (or_first (byte T') (byte blank) (drop 10 s) (drop 11 s) (one_is _ 10 11 refl (omega arith) p))
      (time 11 19 refl h timed ends)))

  -- what a text of each form is
  first : (i : ℕ) → i < length s → get_or (drop i s) 0 0 ≡ get_or s i 0
  first i h = rw (drop-cons s i 0 h)

  module _ (string : ℕ) where
    pub date_form : length s ≡ 10 → fixed_date s ≡ true → date32 ≡ first_fit date_texts s string
    date_form n e = date_ends (drop 10 s) string (omega (arith, length-drop 10 s)) ∙ dated s (drop 10 s) string (date (omega arith) e)

    pub time_form : length s ≡ 8 → fixed_time s 0 ≡ true → time64 ≡ first_fit date_texts s string
    unfolding fits
    time_form n e =
        let ends : drop 8 s ≡ [] = drop_all 8 s (omega arith) in
        is_time s string (time_last s ∙ rw (← time 0 8 refl (omega arith) e (one_past _ 8 (omega arith)), ends))

    pub naive_form : length s ≡ 19 → fixed_datetime s ≡ true → timestamp_naive ≡ first_fit date_texts s string
    unfolding when◌then◌else◌
    naive_form n e =
        datetime (omega arith) e (one_past _ 19 (omega arith))
        (λ date at separated timed.
        rw (first 10 (omega arith), at) at
        (unzoned (drop 10 s) string (omega (arith, length-drop 10 s)) (drop 11 s) separated (drop 19 s) timed (omega (arith, length-drop 19 s))) ∙
        dated s (drop 10 s) string date)

    pub utc_form : length s ≡ 20 → fixed_datetime s ≡ true → eqb (get_or s 19 0) Z' ≡ true → timestamp_utc ≡ first_fit date_texts s string
    unfolding when◌then◌else◌
    utc_form n e p =
        let zone : Some (drop 20 s) ≡ scan utc_zone (drop 19 s) = or_first (byte Z') _ (drop 19 s) (drop 20 s) (one_is _ 19 20 refl (omega arith) p) in
        let no_dot : eqb (get_or s 19 0) dot ≡ false = rw (eqb-true (get_or s 19 0) Z' p) in
        let ends : drop 20 s ≡ [] = drop_all 20 s (omega arith) in
        datetime (omega arith) e (one_not _ 19 (omega arith) no_dot)
        (λ date at separated timed.
        zoned (drop 10 s) string (omega (arith, length-drop 10 s)) (drop 11 s) separated (drop 19 s) timed true (omega (arith, length-drop 19 s)) (rw (← zone, ends)) ∙
        dated s (drop 10 s) string date)

pub ruleset forms = (no_begin, date_form, time_form, naive_form, utc_form)
