-- Laws of what is left: answers that decide something, lists whose elements are all one and the same, and lists by their first part and the rest.
use Rattle.std.specs.Prelude.{◌≡◌, Bool, true, false, ◌↔◌, List, ◌++◌, ℕ, ◌-◌, ◌<◌, ◌≤◌, get_or}
use Rattle.std.proofs.Math.Path.{refl, sym, ap}
use Rattle.std.proofs.Common.{◌∙◌, arith, eqb-true, eq-eqb, take-append-drop, length-append, length-drop, ext_get_or, take_at, drop_at, length-take-le}
use Rattle.std.proofs.Math.ListN.{length, take, drop, replicate}
use Rattle.std.proofs.lemmas.List.{length-replicate, get_or-replicate}
use Rattle.std.specs.List.{list_all}
use Rattle.std.proofs.lemmas.List.Sums.{AllPass-from_list_all, list_all-from_AllPass}
use Rattle.std.proofs.Math.Dec.{eqb}
use Rattle.std.proofs.Math.Seq.{take_all}
use Rattle.logic.specs.laws.Test.{if_passed, if_failed}
use Rattle.words.specs.Word.{table_words, zeros}
use Rattle.words.specs.laws.Word.{zeros_table}
use Rattle.questions.specs.Left.{lent_byte, lent_word, lent_bytes, lent_buffer, written_over, early, left_table}

-- what is not so is answered false
pub no : (P : Type 0) → (P → ⊥) → (false ≡ true) ↔ P
no P never = ((λ e. let z : ◌≡◌ {A = ℕ} 0 1 = cc in absurd (omega arith)), λ p. absurd (never p))

-- an answer is not both
pub unlike : (b : Bool) → b ≡ false → b ≡ true → ⊥
unlike b f t = let z : ◌≡◌ {A = ℕ} 0 1 = cc in absurd (omega arith)

-- an answer that decides something decides all that is so exactly if that is
pub same_as : (P Q : Type 0) (r : Bool) → (r ≡ true) ↔ P → (P → Q) → (Q → P) → (r ≡ true) ↔ Q
same_as P Q r d to from = ((λ e. to (d.0 e)), λ q. d.1 (from q))

pub alike : (xs : List ℕ) (x : ℕ) → ((k : ℕ) → k < length xs → get_or xs k 0 ≡ x) → xs ≡ replicate (length xs) x
alike xs x all =
    ext_get_or 0 xs (replicate (length xs) x) (sym (length-replicate (length xs) x)) (λ k below. all k below ∙ sym (get_or-replicate (length xs) k x 0 below))

-- the answer of a test of each element
pub all_alike : (xs : List ℕ) (x : ℕ) (r : Bool) → r ≡ list_all (λ y. eqb y x) xs → (r ≡ true) ↔ (xs ≡ replicate (length xs) x)
all_alike xs x r e = (
  λ t. alike xs x (λ k below. eqb-true (get_or xs k 0) x (AllPass-from_list_all (λ y. eqb y x) xs (sym e ∙ t) k 0 below)),
  λ same. e ∙ list_all-from_AllPass (λ y. eqb y x) xs
      (λ k d below. eq-eqb (get_or xs k d) x (ap (λ ys. get_or ys k d) same ∙ get_or-replicate (length xs) k x d below)),
)

-- a list is its first part and the rest
pub joined : (n : ℕ) (xs first rest : List ℕ) → take n xs ≡ first → drop n xs ≡ rest → xs ≡ first ++ rest
joined n xs first rest e f = cc (take-append-drop n xs)

pub first_part : (n : ℕ) (xs first rest : List ℕ) → length first ≡ n → xs ≡ first ++ rest → take n xs ≡ first
first_part n xs first rest l e = ap (take n) e ∙ take_at first rest n l

pub rest_part : (n : ℕ) (xs first rest : List ℕ) → length first ≡ n → xs ≡ first ++ rest → drop n xs ≡ rest
rest_part n xs first rest l e = ap (drop n) e ∙ drop_at first rest n l

-- the rest of a list, as code lends it
pub rest_is : (n : ℕ) (xs : List ℕ) → take (length xs - n) (drop n xs) ≡ drop n xs
rest_is n xs = take_all (length xs - n) (drop n xs) (simp length-drop (omega arith))

-- ---- a buffer that is written, by what comparing its parts answers
module _ (buffer bytes : List ℕ) where
  module _ (first : Bool) (same : (first ≡ true) ↔ (take (length bytes) buffer ≡ bytes)) where
    pub written_other : first ≡ false → (false ≡ true) ↔ (buffer ≡ written_over bytes)
    written_other f = no (buffer ≡ written_over bytes) (λ e. unlike first f (same.1 (first_part (length bytes) buffer bytes _ refl e)))

    pub written_by_rest : first ≡ true → (rest : Bool) →
        (rest ≡ true) ↔ (take (length buffer - length bytes) (drop (length bytes) buffer) ≡ take (lent_bytes - length bytes) (drop (length bytes) (replicate lent_bytes lent_byte)))
        → (rest ≡ true) ↔ (buffer ≡ written_over bytes)
    unfolding lent_buffer
    written_by_rest t rest d =
        same_as _ (buffer ≡ written_over bytes) rest d
        (λ e. joined (length bytes) buffer bytes _ (same.0 t) (sym (rest_is (length bytes) buffer) ∙ e ∙ lent_rest))
        (λ e. rest_is (length bytes) buffer ∙ rest_part (length bytes) buffer bytes _ refl e ∙ sym lent_rest)
      where
        lent_rest : take (lent_bytes - length bytes) (drop (length bytes) (replicate lent_bytes lent_byte)) ≡ drop (length bytes) (replicate lent_bytes lent_byte)
        lent_rest = take_all (lent_bytes - length bytes) (drop (length bytes) (replicate lent_bytes lent_byte)) (simp (length-drop, length-replicate) (omega arith))

-- ---- a table that is left, by what looking at its parts answers
module _ (table : List ℕ) (refusal : ℕ) (flag : Bool) (told : flag ≡ early refusal) where
  abbrev Left : Type 0
  Left = table ≡ left_table refusal (length table)

  -- after an early refusal
  pub left_early : flag ≡ true → (all : Bool) → (all ≡ true) ↔ (table ≡ replicate (length table) lent_word) → (all ≡ true) ↔ Left
  unfolding left_table
  left_early t all d = rw (if_passed (zeros ++ replicate (length table - table_words) lent_word) (sym told ∙ t)) d

  -- after any other, and on success
  module _ (late : flag ≡ false) where
    is_late : left_table refusal (length table) ≡ zeros ++ replicate (length table - table_words) lent_word
    unfolding left_table
    is_late = if_failed _ (sym told ∙ late)

    pub left_short : length table < table_words → (false ≡ true) ↔ Left
    left_short h = no Left (λ e. omega (arith, zeros_table, simp length-append at (ap length (e ∙ is_late))))

    module _ (enough : table_words ≤ length table) (first : Bool)
        (zero : (first ≡ true) ↔ (take table_words table ≡ replicate (length (take table_words table)) 0)) where
      as_zeros : replicate (length (take table_words table)) 0 ≡ zeros
      unfolding zeros
      as_zeros = ap (λ (n : ℕ). replicate n 0) (length-take-le table_words table enough)

      pub left_used : first ≡ false → (false ≡ true) ↔ Left
      left_used f = no Left (λ e. unlike first f (zero.1 (first_part table_words table zeros _ zeros_table (e ∙ is_late) ∙ sym as_zeros)))

      abbrev rest : List ℕ
      rest = take (length table - table_words) (drop table_words table)

      as_rest : replicate (length rest) lent_word ≡ replicate (length table - table_words) lent_word
      as_rest = ap (λ (n : ℕ). replicate n lent_word) (ap length (rest_is table_words table) ∙ length-drop table_words table)

      pub left_by_rest : first ≡ true → (all : Bool) → (all ≡ true) ↔ (rest ≡ replicate (length rest) lent_word) → (all ≡ true) ↔ Left
      left_by_rest t all d =
          same_as _ Left all d
          (λ e. joined table_words table zeros _ (zero.0 t ∙ as_zeros) (sym (rest_is table_words table) ∙ e ∙ as_rest) ∙ sym is_late)
          (λ e. rest_is table_words table ∙ rest_part table_words table zeros _ zeros_table (e ∙ is_late) ∙ sym as_rest)
