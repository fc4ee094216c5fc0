-- How the matchers read a grammar: from the left, as many bytes as there are, the first choice that fits, and never back.
use Rattle.std.specs.Prelude.{Bool, false, if◌then◌else◌, List, [], ◌∷◌, ℕ, Option, Some, None, option_map, option_and_then}
use Rattle.std.specs.Option.{option_or}
use Rattle.chrono.specs.Grammar.{Grammar, nothing, one, many, ◌then◌, ◌or◌}

-- what is left of a text after the bytes of a class that it begins with
unfoldable pub skip : (ℕ → Bool) → List ℕ → List ℕ
skip t [] = []
skip t (c ∷ s) = if t c then skip t s else c ∷ s

-- what is left after one byte of a class
abbrev pub after_one : (ℕ → Bool) → List ℕ → Option (List ℕ)
after_one t [] = None
after_one t (c ∷ s) = if t c then Some s else None

-- what is left of a text after the match of a grammar, if there is one
unfoldable pub scan : Grammar → List ℕ → Option (List ℕ)
scan nothing s = Some s
scan (one t) s = after_one t s
scan (many t) s = option_map (skip t) (after_one t s)
scan (g then h) s = option_and_then (scan h) (scan g s)
scan (g or h) s = option_or (scan g s) (scan h s)

-- what a test says of the rest after a match, and that there is one
abbrev pub of_rest : (List ℕ → Bool) → Option (List ℕ) → Bool
of_rest k (Some s) = k s
of_rest k None = false
