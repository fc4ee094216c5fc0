-- The test of a grammar passes for the texts that fit it, and for no other: the test, with which contracts are stated, is what a
-- grammar is read as.
use Rattle.std.specs.Prelude.{◌≡◌, refl, Bool, true, false, List, [], ◌∷◌, ◌++◌, ℕ}
use Rattle.std.proofs.Common.{ap, ◌∙◌, append_assoc, append-nil}
use Rattle.std.proofs.lemmas.Bool.{false≢true}
use Rattle.logic.specs.laws.Test.{cases}
use Rattle.chrono.specs.Grammar.{Grammar, nothing, one, many, ◌then◌, ◌or◌, Fits, fits_nothing, fits_one, fits_last, fits_more, fits_both, fits_left, fits_right, leads, leads_many, is_empty, fits}

-- after what fits the grammar, the test goes on with what is left
leads_complete : {g : Grammar} {s : List ℕ} → Fits g s → (u : List ℕ) (k : List ℕ → Bool) → k u ≡ true → leads g (s ++ u) k ≡ true
unfolding leads leads_many
leads_complete fits_nothing u k p = p
leads_complete (fits_one e) u k p = rw e p
leads_complete (fits_last e) u k p = rw (e, p)
leads_complete (fits_more {t = t} {s = s} e f) u k p =
    rw e (cases (k (s ++ u)) (λ q. rw q) (λ q. rw q (leads_complete f u k p)))
leads_complete (fits_both {g = g} {h = h} {s = s} {u = v} f f') u k p =
    rw (append_assoc s v u) (leads_complete f (v ++ u) (λ w. leads h w k) (leads_complete f' u k p))
leads_complete (fits_left f) u k p = rw (leads_complete f u k p)
leads_complete (fits_right {g = g} {s = s} f) u k p =
    cases (leads g (s ++ u) k) (λ q. rw q) (λ q. rw q (leads_complete f u k p))

-- what a test that passed has found: a text that fits, and what is left, of which `k` holds
abbrev Found : Grammar → List ℕ → (List ℕ → Bool) → Type 0
Found g s k = (t : List ℕ) × (u : List ℕ) × (s ≡ t ++ u) × Fits g t × (k u ≡ true)

-- what two tests tell that passed, of which both had to, or one
passed : {P : Type 0} (b c : Bool) → elim b [ true ↦ c | false ↦ false ] ≡ true → (b ≡ true → c ≡ true → P) → P
passed true c e f = f refl e
passed false c e f = absurd (false≢true e)

either : {P : Type 0} (b c : Bool) → elim b [ true ↦ true | false ↦ c ] ≡ true → (b ≡ true → P) → (c ≡ true → P) → P
either true c e f g = f refl
either false c e f g = g e

many_sound : (t : ℕ → Bool) (s : List ℕ) (k : List ℕ → Bool) → leads_many t s k ≡ true → Found (many t) s k
unfolding leads_many
many_sound t [] k e = absurd (false≢true e)
many_sound t (c ∷ s) k e =
    passed (t c) _ e
    (λ q r.
    either (k s) (leads_many t s k) r (λ p. (c ∷ [], s, refl, fits_last q, p))
    (λ p. let (v, u, d, f, h) = many_sound t s k p in (c ∷ v, u, ap (λ w. c ∷ w) d, fits_more q f, h)))

leads_sound : (g : Grammar) (s : List ℕ) (k : List ℕ → Bool) → leads g s k ≡ true → Found g s k
unfolding leads
leads_sound nothing s k e = ([], s, refl, fits_nothing, e)
leads_sound (one t) [] k e = absurd (false≢true e)
leads_sound (one t) (c ∷ s) k e = passed (t c) (k s) e (λ q p. (c ∷ [], s, refl, fits_one q, p))
leads_sound (many t) s k e = many_sound t s k e
leads_sound (g then h) s k e =
    let (v, u, d, f, p) = leads_sound g s (λ u. leads h u k) e in
    let (v', u', d', f', p') = leads_sound h u k p in
    (v ++ v', u', rw append_assoc (d ∙ ap (λ w. v ++ w) d'), fits_both f f', p')
leads_sound (g or h) s k e =
    either (leads g s k) (leads h s k) e
    (λ p. let (v, u, d, f, q) = leads_sound g s k p in (v, u, d, fits_left f, q))
    (λ p. let (v, u, d, f, q) = leads_sound h s k p in (v, u, d, fits_right f, q))

nothing_left : (s : List ℕ) → is_empty s ≡ true → s ≡ []
nothing_left [] e = refl
nothing_left (c ∷ s) e = absurd (false≢true e)

-- the test passes exactly where the text fits
pub fits_complete : {g : Grammar} {s : List ℕ} → Fits g s → fits g s ≡ true
unfolding fits
fits_complete f = rw append-nil at (leads_complete f [] is_empty refl)

pub fits_sound : {g : Grammar} {s : List ℕ} → fits g s ≡ true → Fits g s
unfolding fits
fits_sound {g} {s} e =
    let (v, u, d, f, p) = leads_sound g s is_empty e in
    rw (d, nothing_left u p, append-nil) f
