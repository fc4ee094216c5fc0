-- The part of the work table that is lent to the tracer, and the words of a place in it. How a word is found is said here alone: what
-- stands above speaks of a place and a word of it, and goes by the laws.
use Rattle.std.specs.Prelude.{◌≡◌, Bool, false, ◌&&◌, ◌||◌, List, [], ◌∷◌, ℕ, zero, suc, ◌+◌, ◌-◌, ◌*◌, ◌/◌, ◌%◌, ◌^◌, ◌<◌, eqb, leb, ltb, length, get_or, set, replicate}
use Rattle.logic.specs.Test.{when◌then◌else◌}

-- it has so many places
abbrev pub table_places : ℕ
table_places = 1024

-- and each a row of so many words
abbrev pub row_words : ℕ
row_words = 16

-- that is, so many in all
abbrev pub table_words : ℕ
table_words = table_places * row_words

abbrev pub IsTable : List ℕ → Type 0
IsTable t = length t ≡ table_words

-- a place's number in it
abbrev pub IsRow : ℕ → Type 0
IsRow place = place < table_places

-- ---- the words of a place
-- There are so many, by number: whole words, and between them links, of 16 bits, which is enough for a place's number. Two links stand in
-- one word of the row.
abbrev pub place_words : ℕ
place_words = 20

-- the first link, and the first word behind the links
abbrev pub links_from : ℕ
links_from = 6

abbrev pub links_end : ℕ
links_end = 14

-- the word is one of them
abbrev pub is_link : ℕ → Bool
is_link field = leb links_from field && ltb field links_end

-- what a link can be
abbrev pub link_limit : ℕ
link_limit = 2 ^ 16

-- a value has room in a word of a place: any value in a whole word, and one below link_limit in every word
pub data HasRoom (field value : ℕ) : Type 0 where
  in_whole : is_link field ≡ false → HasRoom field value
  in_each : value < link_limit → HasRoom field value

-- it has that word of that place
unfoldable pub has_word : ℕ → ℕ → Bool
has_word place field = ltb place table_places && ltb field place_words

-- the word of the row that it is or, of a link, in which it stands
unfoldable pub row_word : ℕ → ℕ
row_word field =
    when ltb field links_from then field
    else when ltb field links_end then links_from + (field - links_from) / 2
    else field - (links_end - links_from) / 2

-- Where that stands. The words of all places at one number of the row stand one after another, a plane, so that the tags of eight places
-- can be looked at at a time. The planes stand so many words apart, with the words of number 0 between them, that many at a time: were they
-- 1,024 apart, all words of a place would compete for the same few lines of a processor's cache.
abbrev pub plane_words : ℕ
plane_words = 1088

abbrev pub gap_words : ℕ
gap_words = 64

unfoldable pub plane_index : ℕ → ℕ → ℕ
plane_index row place =
    when eqb row 0 then place / gap_words * plane_words + place % gap_words
    else (row - 1) * plane_words + gap_words + place

abbrev pub index_of : ℕ → ℕ → ℕ
index_of place field = plane_index (row_word field) place

-- of the two links in a word, the one with the even number is the lower half
abbrev pub is_lower : ℕ → Bool
is_lower field = eqb (field % 2) 0

-- a place's word, read from that word of the row: all of it, or the half that is the link
unfoldable pub part_of : ℕ → ℕ → ℕ
part_of field w = when is_link field then (when is_lower field then w % link_limit else w / link_limit) else w

-- that word of the row with a place's word stored, the other link as it was. What is too large for a lower link is cut off, so that the
-- upper one stays whatever is stored; code stores only what has room.
unfoldable pub with_part : ℕ → ℕ → ℕ → ℕ
with_part field w value =
    when is_link field
    then (when is_lower field then w / link_limit * link_limit + value % link_limit else value * link_limit + w % link_limit)
    else value

-- word `field` of a place, and 0 where the table has none
unfoldable pub word : List ℕ → ℕ → ℕ → ℕ
word table place field = when has_word place field then part_of field (get_or table (index_of place field) 0) else 0

-- one of so many places, from one on, has that value as that word
unfoldable pub has_among : List ℕ → ℕ → ℕ → ℕ → ℕ → Bool
has_among table from zero field value = false
has_among table from (suc count) field value = has_among table from count field value || eqb (word table (from + count) field) value

-- the table with that word stored, if it has it
unfoldable pub with_word : List ℕ → ℕ → ℕ → ℕ → List ℕ
with_word table place field value =
    when has_word place field
    then set table (index_of place field) (with_part field (get_or table (index_of place field) 0) value)
    else table

-- a table whose words are all zero
unfoldable pub zeros : List ℕ
zeros = replicate table_words 0

-- ---- words zeroed
-- those whose index passes a test, the others as they were
unfoldable pub zeroed_where : (ℕ → Bool) → List ℕ → List ℕ
zeroed_where test [] = []
zeroed_where test (w ∷ ws) = (when test 0 then 0 else w) ∷ zeroed_where (λ i. test (suc i)) ws

-- the words among which are the links that putting children in order stores: they fill two planes. The first, and the first behind them:
abbrev pub orders_from : ℕ
orders_from = 8

abbrev pub orders_end : ℕ
orders_end = 12

-- the word is one of them
abbrev pub is_order : ℕ → Bool
is_order field = leb orders_from field && ltb field orders_end

-- how many words are zeroed with the places below `count`, from where a gap starts and then a plane: the gap, and of the plane those
-- places, but all of it where putting children in order stores links, for it is not shown to keep to those places. Behind the last
-- gap is no plane.
unfoldable pub cleared_in : ℕ → ℕ → ℕ
cleared_in gap count =
    when eqb gap (row_words - 1) then gap_words
    else when leb (row_word orders_from) (gap + 1) && ltb (gap + 1) (row_word orders_end) then plane_words
    else gap_words + count

-- the table with the places below `count` zeroed, the gaps, and those planes
unfoldable pub cleared_to : List ℕ → ℕ → List ℕ
cleared_to table count = zeroed_where (λ i. ltb (i % plane_words) (cleared_in (i / plane_words) count)) table
