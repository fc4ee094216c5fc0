-- The numbered children of a place (variants, and positions past its block) in a digital search tree over their codes: from the place's
-- root link on, at each child by its left or right link, by the lowest bit of the code that was not yet used. The codes on one path agree
-- in the bits used, and in their parity, for a place has variants or positions. There are 65,536 codes of each parity, one after another,
-- so sixteen bits tell them apart: at most 17 children are visited.
use Rattle.std.specs.Prelude.{Bool, ◌&&◌, List, ℕ, ◌/◌, ◌%◌, eqb, ltb}
use Rattle.logic.specs.Test.{when◌then◌else◌}
use Rattle.logic.specs.Turns.{Turn, again, done, turns}
use Rattle.words.specs.Word.{word}
use Rattle.shapes.specs.Steps.{field_code}
use Rattle.places.specs.Layout.{root_word, left_word, right_word, step_word, turn_limit}

-- variants and positions, by their codes
abbrev pub is_numbered : ℕ → Bool
is_numbered code = ltb field_code code

-- the link by the lowest bit
unfoldable pub side_word : ℕ → ℕ
side_word bits = when eqb (bits % 2) 0 then left_word else right_word

-- a link is followed to a place with a higher number, as all are that were stored; 0 is none
unfoldable pub follow : ℕ → ℕ → ℕ → List ℕ → ℕ
follow place field n t = when ltb place (word t place field) && ltb (word t place field) n then word t place field else 0

-- where the search stands: before that link, with so many bits left
pub data Seeking : Type 0 where
  seeking : (bits place field : ℕ) → Seeking

-- a link, as the place that has it and its number there, and the child that it leads to or 0
pub record Slot : Type 0 where
  pub child : ℕ
  pub place : ℕ
  pub field : ℕ

abbrev pub slot : ℕ → ℕ → ℕ → Slot
slot child place field = record { child = child; place = place; field = field }

unfoldable pub seek_at : ℕ → List ℕ → ℕ → ℕ → ℕ → ℕ → Turn Seeking Slot
seek_at code t bits place field child =
    when eqb child 0 then done (slot 0 place field)
    else when eqb (word t child step_word) code then done (slot child place field)
    else again (seeking (bits / 2) child (side_word bits))

unfoldable pub seek_turn : ℕ → ℕ → List ℕ → Seeking → Turn Seeking Slot
seek_turn code n t (seeking bits place field) = seek_at code t bits place field (follow place field n t)

unfoldable pub seek_stop : Seeking → Slot
seek_stop (seeking bits place field) = slot 0 place field

unfoldable pub seek_from : ℕ → ℕ → List ℕ → Seeking → Slot
seek_from code n t s = turns (seek_turn code n t) seek_stop turn_limit s

-- the link at which the search for a code ends, and the child that it leads to: the one with the code, or none
abbrev pub seek : ℕ → ℕ → ℕ → List ℕ → Slot
seek place code n t = seek_from code n t (seeking (code / 2) place root_word)
