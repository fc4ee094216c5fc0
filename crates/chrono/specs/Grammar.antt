-- Grammars of byte texts: what fits one, and a test that finds it out.
use Rattle.std.specs.Prelude.{◌≡◌, Bool, true, false, List, [], ◌∷◌, ◌++◌, ℕ, eqb}

infixr 6 ◌then◌
infixr 5 ◌or◌
-- a grammar: nothing; one byte of a class; one or more bytes of a class; one after another; a choice
pub data Grammar : Type 0 where
  nothing : Grammar
  one many : (ℕ → Bool) → Grammar
  ◌then◌ ◌or◌ : Grammar → Grammar → Grammar

-- this byte, and these bytes
abbrev pub byte : ℕ → Grammar
byte b = one (λ c. eqb c b)

abbrev pub word : List ℕ → Grammar
word [] = nothing
word (b ∷ w) = byte b then word w

-- a grammar or nothing
abbrev pub optional : Grammar → Grammar
optional g = g or nothing

-- the texts that fit a grammar
pub data Fits : Grammar → List ℕ → Type 0 where
  fits_nothing : Fits nothing []
  fits_one : {t : ℕ → Bool} {c : ℕ} → t c ≡ true → Fits (one t) (c ∷ [])
  fits_last : {t : ℕ → Bool} {c : ℕ} → t c ≡ true → Fits (many t) (c ∷ [])
  fits_more : {t : ℕ → Bool} {c : ℕ} {s : List ℕ} → t c ≡ true → Fits (many t) s → Fits (many t) (c ∷ s)
  fits_both : {g h : Grammar} {s u : List ℕ} → Fits g s → Fits h u → Fits (g then h) (s ++ u)
  fits_left : {g h : Grammar} {s : List ℕ} → Fits g s → Fits (g or h) s
  fits_right : {g h : Grammar} {s : List ℕ} → Fits h s → Fits (g or h) s

-- whether the text begins with one or more bytes of a class, after which `k` holds of what is left
unfoldable pub leads_many : (ℕ → Bool) → List ℕ → (List ℕ → Bool) → Bool
leads_many t [] k = false
leads_many t (c ∷ s) k = elim (t c) [ true ↦ elim (k s) [ true ↦ true | false ↦ leads_many t s k ] | false ↦ false ]

-- whether the text begins with what fits the grammar, after which `k` holds of what is left
unfoldable pub leads : Grammar → List ℕ → (List ℕ → Bool) → Bool
leads nothing s k = k s
leads (one t) s k = elim s [ [] ↦ false | c ∷ u ↦ elim (t c) [ true ↦ k u | false ↦ false ] ]
leads (many t) s k = leads_many t s k
leads (g then h) s k = leads g s (λ u. leads h u k)
leads (g or h) s k = elim (leads g s k) [ true ↦ true | false ↦ leads h s k ]

abbrev pub is_empty : List ℕ → Bool
is_empty [] = true
is_empty (c ∷ s) = false

-- whether the whole text fits the grammar, as `fits_sound` and `fits_complete` of Laws say
unfoldable pub fits : Grammar → List ℕ → Bool
fits g s = leads g s is_empty
