-- Request 3/14 of document 02, as a theorem: "Storing one link of a word is proved to leave the other as it was, and a read gives the link
-- last stored." What is read and stored here is what `link` and `set_link` read and store.
use Rattle.std.specs.Prelude.{◌≡◌, refl, true, List, ℕ, ◌+◌, ◌*◌, ◌<◌}
use Rattle.std.proofs.Common.{arith}
use Rattle.logic.specs.Test.{when◌then◌else◌}
use Rattle.words.specs.Word.{link_limit, IsTable, IsRow, in_each, is_link, row_word, part_of, with_part, word, with_word}
use Rattle.words.specs.laws.Word.{word_same, word_other, length_with, link_end}

-- a link of a place is stored
pub record Stored (t : List ℕ) (place field to : ℕ) : Type 0 where
  -- a read gives it
  pub read : word (with_word t place field to) place field ≡ to
  -- the other link of the word in which it stands is as it was
  pub other : (g : ℕ) → row_word g ≡ row_word field → (g ≡ field → ⊥) → word (with_word t place field to) place g ≡ word t place g
  -- and so are the words of the table in which it does not stand
  pub rest : (q g : ℕ) → (q ≡ place → row_word g ≡ row_word field → ⊥) → word (with_word t place field to) q g ≡ word t q g
  -- the table is as long
  pub table : IsTable (with_word t place field to)

pub stored : (t : List ℕ) (place field to : ℕ) → IsTable t → IsRow place → is_link field ≡ true → to < link_limit → Stored t place field to
stored t place field to table row link short = record {
  read = word_same t place field to table row (omega (arith, link_end field link)) (in_each short);
  other = λ g _ n. word_other t place field to place g (λ _. n);
  rest = λ q g n. word_other t place field to q g (λ e d. n e (rw d refl));
  table = rw length_with table;
}

-- links 6 and 7 share word 6 of a row: 5 is stored in one, then 9 in the other, and both are read
both_kept : (row_word 6 ≡ row_word 7) × (with_part 7 (with_part 6 0 5) 9 ≡ 9 * link_limit + 5) ×
    (part_of 6 (9 * link_limit + 5) ≡ 5) × (part_of 7 (9 * link_limit + 5) ≡ 9)
unfolding row_word part_of with_part when◌then◌else◌
both_kept = (refl, refl, refl, refl)
