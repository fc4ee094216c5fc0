-- Names, as in document 01's "Commands and texts": an offset and a length in the text.
use Rattle.std.specs.Prelude.{ℕ, suc, ◌+◌, ◌≤◌, Bool, true, false, ◌&&◌, ◌||◌, List, [], ◌∷◌, leb, ltb, eqb, length, take, drop}
use Rattle.logic.specs.Test.{when◌then◌else◌}
use Rattle.text.specs.declared.Name.{Name}

-- the name ends inside the text
abbrev pub Inside : List ℕ → Name → Type 0
Inside text name = name.offset + name.length ≤ length text

-- the name's offset plus length does not exceed the text (refusal 5 else)
abbrev pub inside : List ℕ → Name → Bool
inside text name = leb (name.offset + name.length) (length text)

-- the bytes that a name stands for
abbrev pub bytes_of : List ℕ → Name → List ℕ
bytes_of text name = take name.length (drop name.offset text)

-- names are equal when the bytes are
unfoldable pub eq_name : List ℕ → List ℕ → Bool
eq_name [] [] = true
eq_name [] (b ∷ y) = false
eq_name (a ∷ x) [] = false
eq_name (a ∷ x) (b ∷ y) = eqb a b && eq_name x y

-- the order of names by their bytes: the first that differs decides, and a proper prefix stands first
unfoldable pub lt_name : List ℕ → List ℕ → Bool
lt_name [] [] = false
lt_name [] (b ∷ y) = true
lt_name (a ∷ x) [] = false
lt_name (a ∷ x) (b ∷ y) = ltb a b || (eqb a b && lt_name x y)

-- the byte `.`
abbrev pub dot : ℕ
dot = 0x2E

-- a name's own dots, which count for the depth
unfoldable pub dots : List ℕ → ℕ
dots [] = 0
dots (b ∷ x) = when eqb b dot then suc (dots x) else dots x
