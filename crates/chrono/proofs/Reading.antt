-- One reading gives what the four tests give in their order.
use Rattle.std.proofs.Common.{◌≡◌, refl, sym, ap, ◌∙◌, Bool, true, false, ◌||◌, List, [], ◌∷◌, ◌++◌, ℕ, ◌<◌, length, eqb, get_or, arith, Option, Some, None, option_and_then}
use Rattle.std.specs.Option.{option_or}
use Rattle.std.specs.Bool.{then_some}
use Rattle.std.proofs.lemmas.Bool.{false≢true}
use Rattle.std.proofs.lemmas.List.{drop_all}
use Rattle.logic.specs.Test.{when◌then◌else◌}
use Rattle.logic.specs.laws.Test.{cases, neither}
use Rattle.datatype.specs.declared.DataType.{DataType}
use Rattle.datatype.specs.Codes.{code_of, timestamp_naive, timestamp_utc, time64, date32}
use Rattle.chrono.specs.Grammar.{Grammar, nothing, one, many, ◌then◌, ◌or◌, byte, Fits, fits_nothing, fits_one, fits_last, fits_more, fits_both, fits_left, fits_right, leads, leads_many, is_empty, fits}
use Rattle.chrono.specs.laws.Grammar.{fits_sound}
use Rattle.chrono.specs.Date.{plus, minus, T', blank, is_digit, digits, optional_sign, separator, naive_date, naive_time, naive_datetime, utc_zone, utc_datetime}
use Rattle.chrono.specs.Scan.{skip, scan, of_rest}
use Rattle.chrono.specs.Fixed.{begins}
use Rattle.chrono.specs.Text.{date_texts, first_fit}
use Rattle.chrono.specs.Reading.{type_or, after_date}
use Rattle.chrono.proofs.Exact.{one_at, then_at, byte_at, one_exact, zone_exact, date_last, date_naive, date_utc, separator_exact, time_last, time_zone}

-- a text in which a byte does not stand
abbrev Free : ℕ → List ℕ → Type 0
Free b [] = Unit {0}
Free b (c ∷ s) = (c ≡ b → ⊥) × Free b s

free_append : (b : ℕ) (s u : List ℕ) → Free b s → Free b u → Free b (s ++ u)
free_append b [] u p q = q
free_append b (c ∷ s) u p q = (p.0, free_append b s u p.1 q)

-- whether a byte can stand in a text that fits
abbrev takes : Grammar → ℕ → Bool
takes nothing b = false
takes (one t) b = t b
takes (many t) b = t b
takes (g then h) b = takes g b || takes h b
takes (g or h) b = takes g b || takes h b

unlike : (t : ℕ → Bool) (b c : ℕ) → t b ≡ false → t c ≡ true → c ≡ b → ⊥
unlike t b c e p q = false≢true (sym e ∙ ap t (sym q) ∙ p)

free : {g : Grammar} {s : List ℕ} → Fits g s → (b : ℕ) → takes g b ≡ false → Free b s
free fits_nothing b e = tt
free (fits_one {t = t} {c = c} p) b e = (unlike t b c e p, tt)
free (fits_last {t = t} {c = c} p) b e = (unlike t b c e p, tt)
free (fits_more {t = t} {c = c} p f) b e = (unlike t b c e p, free f b e)
free (fits_both {g = g} {h = h} {s = s} {u = u} f f') b e =
    neither (takes g b) (takes h b) e (λ p q. free_append b s u (free f b p) (free f' b q))
free (fits_left {g = g} {h = h} f) b e = neither (takes g b) (takes h b) e (λ p q. free f b p)
free (fits_right {g = g} {h = h} f) b e = neither (takes g b) (takes h b) e (λ p q. free f b q)

-- nor in what a match leaves of it
free_skip : (b : ℕ) (t : ℕ → Bool) (s : List ℕ) → Free b s → Free b (skip t s)
unfolding skip
free_skip b t [] p = tt
free_skip b t (c ∷ s) p = cases (t c) (λ e. rw e (free_skip b t s p.1)) (λ e. rw e p)

abbrev FreeRest : ℕ → Option (List ℕ) → Type 0
FreeRest b None = Unit {0}
FreeRest b (Some u) = Free b u

free_rest : (b : ℕ) (g : Grammar) (s : List ℕ) → Free b s → FreeRest b (scan g s)
unfolding scan
free_rest b nothing s p = p
free_rest b (one t) [] p = tt
free_rest b (one t) (c ∷ s) p = cases (t c) (λ e. rw e p.1) (λ e. rw e tt)
free_rest b (many t) [] p = tt
free_rest b (many t) (c ∷ s) p = cases (t c) (λ e. rw e (free_skip b t s p.1)) (λ e. rw e tt)
free_rest b (g then h) s p = go (scan g s) (free_rest b g s p) (λ u q. free_rest b h u q)
  where
    go : (m : Option (List ℕ)) → FreeRest b m → ((u : List ℕ) → Free b u → FreeRest b (scan h u)) → FreeRest b (option_and_then (scan h) m)
    go (Some u) q f = f u q
    go None q f = tt
free_rest b (g or h) s p = go (scan g s) (free_rest b g s p) (free_rest b h s p)
  where
    go : (m : Option (List ℕ)) → FreeRest b m → FreeRest b (scan h s) → FreeRest b (option_or m (scan h s))
    go (Some u) q r = q
    go None q r = r

free_left : (b : ℕ) (g : Grammar) (s u : List ℕ) → scan g s ≡ Some u → Free b s → Free b u
free_left b g s u e p = rw e at (free_rest b g s p)

-- no text that begins with a date is a time: in a time there is no minus
no_time : (s u : List ℕ) → Some u ≡ scan naive_date s → fits naive_time s ≡ false
no_time s u e =
    cases (fits naive_time s)
    (λ p.
    let (j, f, q) = then_at optional_sign _ s u (sym e) in
    let (k, g, q) = then_at digits _ j u q in
    let (l, q, _) = then_at (byte minus) _ k u q in
    let free : Free minus k = free_left minus digits j k g (free_left minus optional_sign s j f (free (fits_sound p) minus refl)) in
    let free : Free minus (minus ∷ l) = rw (byte_at minus k l q) at free in
    absurd (free.0 refl))
    (λ p. p)

-- the type that a flag lets be
pub some_or : {read : Option DataType} (flag : Bool) (t : DataType) (string : ℕ) → read ≡ then_some flag t → type_or read string ≡ (when flag then code_of t else string)
unfolding when◌then◌else◌
some_or true t string e = rw e
some_or false t string e = rw e

-- what fits, by what the match of a date leaves
module _ (s : List ℕ) (m : Option (List ℕ)) (dated : m ≡ scan naive_date s) where
  naive_of : fits naive_datetime s ≡ of_rest (λ u. leads (byte T' then naive_time) u is_empty) m
  unfolding fits leads
  naive_of = date_naive s ∙ rw (← dated)

  utc_of : fits utc_datetime s ≡ of_rest (λ u. leads (separator then naive_time then utc_zone) u is_empty) m
  unfolding fits leads
  utc_of = date_utc s ∙ rw (← dated)

  date_of : fits naive_date s ≡ of_rest is_empty m
  unfolding fits
  date_of = date_last s ∙ rw (← dated)

-- a text that begins with a date
pub dated : (s u : List ℕ) (string : ℕ) → Some u ≡ scan naive_date s → after_date u string ≡ first_fit date_texts s string
unfolding first_fit after_date when◌then◌else◌
dated s u string e = rw (naive_of s (Some u) e, utc_of s (Some u) e, no_time s u e, date_of s (Some u) e)

-- a text without a date is a time or a string
pub undated : (s : List ℕ) (string : ℕ) → None ≡ scan naive_date s → (when fits naive_time s then time64 else string) ≡ first_fit date_texts s string
unfolding first_fit when◌then◌else◌
undated s string e = rw (naive_of s None e, utc_of s None e, date_of s None e)

pub is_time : (s : List ℕ) (string : ℕ) → fits naive_time s ≡ true → time64 ≡ first_fit date_texts s string
unfolding when◌then◌else◌
is_time s string e = go (scan naive_date s) refl
  where
    go : (m : Option (List ℕ)) → m ≡ scan naive_date s → time64 ≡ first_fit date_texts s string
    go (Some u) p = absurd (false≢true (sym (no_time s u p) ∙ e))
    go None p = rw e at (undated s string p)

-- what a text is after a date
pub date_ends : (s : List ℕ) (string : ℕ) → length s ≡ 0 → date32 ≡ after_date s string
unfolding after_date leads when◌then◌else◌
date_ends [] string e = refl
date_ends (c ∷ s) string e = absurd (omega arith)

some_left : (s : List ℕ) → 0 < length s → is_empty s ≡ false
some_left [] h = absurd (omega arith)
some_left (c ∷ s) h = refl

no_first : (g h : Grammar) (s : List ℕ) → None ≡ scan (g or h) s → None ≡ scan g s
unfolding scan
no_first g h s = go (scan g s)
  where
    go : (m : Option (List ℕ)) → None ≡ option_or m (scan h s) → None ≡ m
    go (Some u) e = cc
    go None e = refl

module _ (s : List ℕ) (string : ℕ) (more : 0 < length s) where
  -- by what the two tests give that are left
  after : (a b : Bool) → leads (byte T' then naive_time) s is_empty ≡ a → leads (separator then naive_time then utc_zone) s is_empty ≡ b → (when a then timestamp_naive else (when b then timestamp_utc else string)) ≡ after_date s string
  unfolding after_date when◌then◌else◌
  after a b e f = rw (e, f, some_left s more)

  pub no_separator : None ≡ scan separator s → string ≡ after_date s string
  unfolding leads when◌then◌else◌
  no_separator e =
      after false false
      (one_exact (λ c. eqb c T') (λ u. leads naive_time u is_empty) s ∙ rw (← no_first (byte T') (byte blank) s e))
      (separator_exact (λ u. leads naive_time u (λ z. leads utc_zone z is_empty)) s ∙ rw (← e))

  module _ (u : List ℕ) (separated : Some u ≡ scan separator s) where
    -- T or blank is one byte
    separator_at : s ≡ get_or s 0 0 ∷ u
    unfolding scan
    separator_at = go (scan (byte T') s) refl separated
      where
        found : (t : ℕ → Bool) → scan (one t) s ≡ Some u → s ≡ get_or s 0 0 ∷ u
        found t e = let (c, _, d) = one_at t s u e in rw d

        go : (m : Option (List ℕ)) → scan (byte T') s ≡ m → Some u ≡ option_or m (scan (byte blank) s) → s ≡ get_or s 0 0 ∷ u
        go (Some v) p e = found (λ c. eqb c T') (p ∙ sym e)
        go None p e = found (λ c. eqb c blank) (sym e)

    naive_then : leads (byte T' then naive_time) s is_empty ≡ (when eqb (get_or s 0 0) T' then of_rest is_empty (scan naive_time u) else false)
    unfolding leads when◌then◌else◌
    naive_then =
        ap (λ s. leads (byte T' then naive_time) s is_empty) separator_at ∙
        cases (eqb (get_or s 0 0) T') (λ e. rw (e, leads) (time_last u)) (λ e. rw (e, leads))

    utc_then : leads (separator then naive_time then utc_zone) s is_empty ≡ of_rest (λ z. leads utc_zone z is_empty) (scan naive_time u)
    unfolding leads
    utc_then = separator_exact (λ u. leads naive_time u (λ z. leads utc_zone z is_empty)) s ∙ rw (← separated) (time_zone u)

    pub no_time_then : None ≡ scan naive_time u → string ≡ after_date s string
    unfolding when◌then◌else◌
    no_time_then e =
        after false false
        (naive_then ∙ rw (← e) (cases (eqb (get_or s 0 0) T') (λ f. rw f) (λ f. rw f)))
        (utc_then ∙ rw (← e))

    module _ (z : List ℕ) (timed : Some z ≡ scan naive_time u) where
      pub zoned : (flag : Bool) → 0 < length z → flag ≡ of_rest is_empty (scan utc_zone z) → (when flag then timestamp_utc else string) ≡ after_date s string
      unfolding when◌then◌else◌
      zoned flag left e =
          after false flag
          (naive_then ∙ rw (← timed, some_left z left) (cases (eqb (get_or s 0 0) T') (λ f. rw f) (λ f. rw f)))
          (utc_then ∙ rw (← timed) (zone_exact is_empty z ∙ sym e))

      pub unzoned : length z ≡ 0 → (when eqb (get_or s 0 0) T' then timestamp_naive else string) ≡ after_date s string
      unfolding leads when◌then◌else◌
      unzoned n =
          let e : z ≡ [] = drop_all 0 z (omega arith) in
          after (eqb (get_or s 0 0) T') false
          (naive_then ∙ rw (← timed, e) (cases (eqb (get_or s 0 0) T') (λ f. rw f) (λ f. rw f)))
          (utc_then ∙ rw (← timed) (ap (λ z. leads utc_zone z is_empty) e))

-- a text that begins with another byte than a date or a time is a string
other_date : (c : ℕ) (s : List ℕ) (k : List ℕ → Bool) → is_digit c ≡ false → eqb c plus ≡ false → eqb c minus ≡ false → leads naive_date (c ∷ s) k ≡ false
unfolding leads leads_many
other_date c s k e f g = rw (f, g, e, leads, leads_many)

pub no_begin : (s : List ℕ) (string : ℕ) → begins s ≡ false → string ≡ first_fit date_texts s string
unfolding first_fit fits leads leads_many when◌then◌else◌
no_begin [] string e = refl
no_begin (c ∷ s) string e =
    neither (is_digit c || eqb c plus) (eqb c minus) e
    (λ p h.
    neither (is_digit c) (eqb c plus) p
    (λ f g. rw (other_date c s _ f g h, other_date c s _ f g h, other_date c s _ f g h, f, leads)))
