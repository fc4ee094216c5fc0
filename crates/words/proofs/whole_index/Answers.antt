-- `whole_index`: behind the links a word's number is four more than its place in the row.
use Rattle.std.proofs.Common.{◌≡◌, false, ℕ, ◌-◌, ◌/◌, ◌≤◌, ltb, le-ltb, le-leb, rules}
use Rattle.logic.specs.Test.{when◌then◌else◌}
use Rattle.words.specs.Word.{links_from, links_end, is_link, row_word, plane_index, index_of}
use Rattle.words.proofs.whole_index.Goals as goal

behind : (p f i : ℕ) → links_from ≤ f → is_link f ≡ false → i ≡ plane_index (f - (links_end - links_from) / 2) p → i ≡ index_of p f
unfolding row_word when◌then◌else◌
behind p f i l e h = let d : ltb f links_end ≡ false = rw (le-leb links_from f l) at e in rw (le-ltb f links_from l, d) h

pub returns : goal.returns
returns c = (search (behind, rules), search rules)
