-- The matchers' reading is right: nothing that comes after a run of digits could have taken its last digits, and no two
-- choices begin alike.
use Rattle.std.proofs.Common.{◌≡◌, refl, sym, ap, ◌∙◌, Bool, true, false, List, [], ◌∷◌, ◌++◌, ℕ, eqb, Option, Some, None, option_and_then, eqb-true}
use Rattle.std.specs.Option.{option_or}
use Rattle.std.proofs.lemmas.Bool.{false≢true}
use Rattle.logic.specs.laws.Test.{cases}
use Rattle.chrono.specs.Grammar.{Grammar, nothing, one, many, ◌then◌, ◌or◌, byte, word, optional, leads, leads_many, is_empty, fits}
use Rattle.chrono.specs.Date.{plus, minus, dot, colon, T', blank, Z', z', is_digit, digit, digits, one_or_two_digits, subsecond, separator, naive_date, naive_time, naive_datetime, short_offset, long_offset, utc_zone, utc_datetime}
use Rattle.chrono.specs.Scan.{skip, scan, of_rest}

-- where `k` is to hold of what is left, a grammar is matched as `scan` finds it
abbrev Exact : Grammar → (List ℕ → Bool) → Type 0
Exact g k = (s : List ℕ) → leads g s k ≡ of_rest k (scan g s)

nothing_exact : (k : List ℕ → Bool) → Exact nothing k
unfolding leads scan
nothing_exact k s = refl

pub one_exact : (t : ℕ → Bool) (k : List ℕ → Bool) → Exact (one t) k
unfolding leads scan
one_exact t k [] = refl
one_exact t k (c ∷ s) = cases (t c) (λ e. rw e) (λ e. rw e)

then_exact : (g h : Grammar) (k : List ℕ → Bool) → Exact g (λ u. leads h u k) → Exact h k → Exact (g then h) k
unfolding leads scan
then_exact g h k a b s = a s ∙ go (scan g s)
  where
    go : (m : Option (List ℕ)) → of_rest (λ u. leads h u k) m ≡ of_rest k (option_and_then (scan h) m)
    go (Some u) = b u
    go None = refl

-- a choice, where the other way fails wherever the first is found
first_only : (x y b : Bool) → x ≡ b → y ≡ false → elim x [ true ↦ true | false ↦ y ] ≡ b
first_only true y b e f = e
first_only false y b e f = f ∙ e

or_exact : (g h : Grammar) (k : List ℕ → Bool) → Exact g k → Exact h k → ((s u : List ℕ) → scan g s ≡ Some u → leads h s k ≡ false) → Exact (g or h) k
unfolding leads scan
or_exact g h k a b f s = go (scan g s) refl
  where
    go : (m : Option (List ℕ)) → scan g s ≡ m → leads (g or h) s k ≡ of_rest k (option_or m (scan h s))
    go (Some u) e = first_only (leads g s k) (leads h s k) (k u) (a s ∙ ap (of_rest k) e) (f s u e)
    go None e = rw (a s ∙ ap (of_rest k) e) (b s)

-- what a match tells of the text that it is found in
pub one_at : (t : ℕ → Bool) (s u : List ℕ) → scan (one t) s ≡ Some u → (c : ℕ) × (t c ≡ true) × (s ≡ c ∷ u)
unfolding scan
one_at t [] u e = cc
one_at t (c ∷ s) u e =
    cases (t c)
    (λ p. let d : ◌≡◌ {A = Option (List ℕ)} (Some s) (Some u) = rw p at e in let d : s ≡ u = cc in (c, p, rw d))
    (λ p. let d : ◌≡◌ {A = Option (List ℕ)} None (Some u) = rw p at e in cc)

pub then_at : (g h : Grammar) (s u : List ℕ) → scan (g then h) s ≡ Some u → (m : List ℕ) × (scan g s ≡ Some m) × (scan h m ≡ Some u)
unfolding scan
then_at g h s u = go (scan g s)
  where
    go : (r : Option (List ℕ)) → option_and_then (scan h) r ≡ Some u → (m : List ℕ) × (r ≡ Some m) × (scan h m ≡ Some u)
    go (Some m) e = (m, refl, e)
    go None e = cc

pub byte_at : (b : ℕ) (s u : List ℕ) → scan (byte b) s ≡ Some u → s ≡ b ∷ u
byte_at b s u e = let (c, x, d) = one_at (λ c. eqb c b) s u e in rw (← eqb-true c b x) d

word_at : (w s u : List ℕ) → scan (word w) s ≡ Some u → s ≡ w ++ u
unfolding scan
word_at [] s u e = cc
word_at (b ∷ w) s u e =
    let (m, p, q) = then_at (byte b) (word w) s u e in
    byte_at b s m p ∙ ap (λ u. b ∷ u) (word_at w m u q)

-- a run of bytes, where what follows does not begin with one of them
abbrev Stops : (ℕ → Bool) → (List ℕ → Bool) → Type 0
Stops t k = (c : ℕ) (u : List ℕ) → t c ≡ true → k (c ∷ u) ≡ false

module _ (t : ℕ → Bool) (k : List ℕ → Bool) (stops : Stops t k) where
  further : (l : List ℕ) → elim (k l) [ true ↦ true | false ↦ leads_many t l k ] ≡ k (skip t l)
  unfolding skip leads_many
  further [] = first_only (k []) false (k []) refl refl
  further (c ∷ l) =
      cases (t c)
      (λ e. rw (stops c l e, e, leads_many) (further l))
      (λ e. rw e (first_only (k (c ∷ l)) (leads_many t (c ∷ l) k) (k (c ∷ l)) refl (rw (e, leads_many))))

  many_exact : Exact (many t) k
  unfolding leads leads_many scan
  many_exact [] = refl
  many_exact (c ∷ l) = cases (t c) (λ e. rw (e, leads_many) (further l)) (λ e. rw (e, leads_many))

-- the grammars that begin with a byte that is not of a class: such a one ends a run
abbrev Apart : (ℕ → Bool) → Grammar → Type 0
Apart t nothing = ⊥
Apart t (one q) = (c : ℕ) → t c ≡ true → q c ≡ false
Apart t (many q) = ⊥
Apart t (g then h) = Apart t g
Apart t (g or h) = Apart t g × Apart t h

pub apart : (t : ℕ → Bool) (b : ℕ) → t b ≡ false → Apart t (byte b)
apart t b other c e = cases (eqb c b) (λ q. absurd (false≢true (sym other ∙ ap t (sym (eqb-true c b q)) ∙ e))) (λ q. q)

or_stops : (t : ℕ → Bool) (g h : Grammar) (k : List ℕ → Bool) → Stops t (λ u. leads g u k) → Stops t (λ u. leads h u k) → Stops t (λ u. leads (g or h) u k)
unfolding leads
or_stops t g h k a b c u e = rw (a c u e) (b c u e)

apart_stops : (t : ℕ → Bool) (g : Grammar) (k : List ℕ → Bool) → Apart t g → Stops t (λ u. leads g u k)
unfolding leads
apart_stops t nothing k a = absurd a
apart_stops t (one q) k a = λ c u e. rw (a c e, leads)
apart_stops t (many q) k a = absurd a
apart_stops t (g then h) k a = apart_stops t g (λ u. leads h u k) a
apart_stops t (g or h) k a = or_stops t g h k (apart_stops t g k a.0) (apart_stops t h k a.1)

-- choices that begin with a byte or with a word
byte_or_exact : (b : ℕ) (h : Grammar) (k : List ℕ → Bool) → Exact h k → ((u : List ℕ) → leads h (b ∷ u) k ≡ false) → Exact (byte b or h) k
byte_or_exact b h k a f = or_exact (byte b) h k (one_exact _ k) a (λ s u e. rw (byte_at b s u e) (f u))

word_exact : (w : List ℕ) (k : List ℕ → Bool) → Exact (word w) k
word_exact [] k = nothing_exact k
word_exact (b ∷ w) k = then_exact (byte b) (word w) k (one_exact _ _) (word_exact w k)

word_or_exact : (w : List ℕ) (h : Grammar) (k : List ℕ → Bool) → Exact h k → ((u : List ℕ) → leads h (w ++ u) k ≡ false) → Exact (word w or h) k
word_or_exact w h k a f = or_exact (word w) h k (word_exact w k) a (λ s u e. rw (word_at w s u e) (f u))

-- the parts of dates and times
after : (b : ℕ) (k : List ℕ → Bool) → is_digit b ≡ false → Stops is_digit (λ u. leads (byte b) u k)
after b k e = apart_stops is_digit (byte b) k (apart is_digit b e)

two_exact : (k : List ℕ → Bool) → Stops is_digit k → Exact one_or_two_digits k
unfolding leads
two_exact k stops =
    then_exact _ _ k (one_exact is_digit _)
    (or_exact digit nothing k (one_exact is_digit k) (nothing_exact k)
    (λ s u e. let (c, x, d) = one_at is_digit s u e in rw d (stops c u x)))

date_exact : (k : List ℕ → Bool) → Stops is_digit k → Exact naive_date k
unfolding leads leads_many
date_exact k stops =
    then_exact _ _ k (byte_or_exact plus _ _ (byte_or_exact minus _ _
    (nothing_exact (λ u. leads (digits then (byte minus then (one_or_two_digits then (byte minus then one_or_two_digits)))) u k)) (λ u. refl)) (λ u. refl))
    (then_exact _ _ k (many_exact is_digit _ (after minus _ refl))
    (then_exact _ _ k (one_exact _ _)
    (then_exact _ _ k (two_exact _ (after minus _ refl)) (then_exact _ _ k (one_exact _ _) (two_exact k stops)))))

module _ (k : List ℕ → Bool) (stops : Stops is_digit k) (no_dot : (u : List ℕ) → k (dot ∷ u) ≡ false) where
  subsecond_exact : Exact (optional subsecond) k
  unfolding leads
  subsecond_exact =
      or_exact subsecond nothing k (then_exact _ _ k (one_exact _ _) (many_exact is_digit k stops)) (nothing_exact k)
      (λ s u e. let (m, p, q) = then_at (byte dot) digits s u e in rw (byte_at dot s m p) (no_dot m))

  time_exact : Exact naive_time k
  unfolding leads
  time_exact =
      then_exact _ _ k (two_exact _ (after colon _ refl))
      (then_exact _ _ k (one_exact _ _)
      (then_exact _ _ k (two_exact _ (after colon _ refl))
      (then_exact _ _ k (one_exact _ _)
      (then_exact _ _ k (two_exact _ (or_stops is_digit subsecond nothing k (after dot _ refl) stops)) subsecond_exact))))

pub zone_exact : (k : List ℕ → Bool) → Exact utc_zone k
unfolding leads
zone_exact k =
    byte_or_exact Z' _ k
    (byte_or_exact z' _ k
    (word_or_exact (short_offset plus) _ k
    (word_or_exact (short_offset minus) _ k
    (word_or_exact (long_offset plus) _ k (word_exact (long_offset minus) k) (λ u. refl))
    (λ u. refl))
    (λ u. refl))
    (λ u. refl))
    (λ u. refl)

zone_apart : Apart is_digit utc_zone
zone_apart = (
  apart is_digit Z' refl,
  (
    apart is_digit z' refl,
    (
      apart is_digit plus refl,
      (apart is_digit minus refl, (apart is_digit plus refl, apart is_digit minus refl)),
    ),
  ),
)

-- the parts where they stand: a date before nothing, before T and a time, before a separator, a time and a zone; a time before
-- nothing and before a zone
pub date_last : Exact naive_date is_empty
date_last = date_exact is_empty (λ c u e. refl)

pub date_naive : Exact naive_date (λ u. leads (byte T' then naive_time) u is_empty)
unfolding leads
date_naive = date_exact _ (after T' _ refl)

pub date_utc : Exact naive_date (λ u. leads (separator then naive_time then utc_zone) u is_empty)
unfolding leads
date_utc = date_exact _ (or_stops is_digit (byte T') (byte blank) _ (after T' _ refl) (after blank _ refl))

pub separator_exact : (k : List ℕ → Bool) → Exact separator k
unfolding leads
separator_exact k = byte_or_exact T' _ k (one_exact _ k) (λ u. refl)

pub time_last : Exact naive_time is_empty
time_last = time_exact is_empty (λ c u e. refl) (λ u. refl)

pub time_zone : Exact naive_time (λ u. leads utc_zone u is_empty)
unfolding leads
time_zone = time_exact _ (apart_stops is_digit utc_zone is_empty zone_apart) (λ u. refl)

-- the whole text fits a grammar where the match leaves nothing
abbrev Whole : Grammar → Type 0
Whole g = (s : List ℕ) → fits g s ≡ of_rest is_empty (scan g s)

whole : (g : Grammar) → Exact g is_empty → Whole g
unfolding fits
whole g a s = a s

pub whole_date : Whole naive_date
whole_date = whole naive_date date_last

pub whole_time : Whole naive_time
whole_time = whole naive_time time_last

pub whole_naive : Whole naive_datetime
unfolding leads
whole_naive = whole naive_datetime (then_exact _ _ is_empty date_naive (then_exact _ _ is_empty (one_exact _ _) time_last))

pub whole_utc : Whole utc_datetime
unfolding leads
whole_utc =
    whole utc_datetime
    (then_exact _ _ is_empty date_utc
    (then_exact _ _ is_empty (separator_exact _) (then_exact _ _ is_empty time_zone (zone_exact is_empty))))
