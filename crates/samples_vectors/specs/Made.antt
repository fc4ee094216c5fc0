-- How many places a table has, by its own words.
use Rattle.std.specs.Prelude.{List, ℕ, zero, suc, ◌+◌, max}
use Rattle.model.specs.Tracing.{place_limit}
use Rattle.places.specs.Layout.{last_word}
use Rattle.places.specs.Reading.{link_at}

-- the highest number of a last child that one of the first so many places has; 0 where none has a child
unfoldable pub newest_of : List ℕ → ℕ → ℕ
newest_of t zero = 0
newest_of t (suc n) = max (newest_of t n) (link_at t n last_word)

-- so many were made, the root counted, for a new place is its parent's last child, and numbers rise (reasoned, not proved; the stored
-- printouts are compared)
abbrev pub made_in : List ℕ → ℕ
made_in t = newest_of t place_limit + 1
