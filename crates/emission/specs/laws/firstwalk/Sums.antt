-- Counts of fields: what sorting, gaps and a field's children add to them.
use Rattle.std.specs.Prelude.{◌≡◌, refl, Bool, true, false, List, ℕ, zero, suc, ◌+◌, ◌≤◌, eqb, length}
use Rattle.std.proofs.Common.{sym, ap, ◌∙◌, arith, length-append, ne_eqb}
use Rattle.logic.specs.Test.{when◌then◌else◌}
use Rattle.logic.specs.laws.Test.{cases}
use Rattle.datatype.specs.Codes.{struct}
use Rattle.text.specs.Name.{lt_name}
use Rattle.model.specs.Tracing.{Marks, one}
use Rattle.model.specs.Emission.{Field, mk, Fields, no_fields, more, name_in, insert_field, by_name, gaps, emits_struct, child_count, names_of, names_in, is_column, columns_of, columns_in, count_of, count_in}
use Rattle.walk.specs.Walk as Flat

-- ---- sums over fields
abbrev sum_f : (Field → ℕ) → Fields → ℕ
sum_f μ no_fields = 0
sum_f μ (more f fs) = μ f + sum_f μ fs

insert_sum : (μ : Field → ℕ) (f : Field) (fs : Fields) → sum_f μ (insert_field f fs) ≡ μ f + sum_f μ fs
unfolding insert_field when◌then◌else◌
insert_sum μ f no_fields = omega arith
insert_sum μ f (more g fs) = cases (lt_name (name_in g) (name_in f)) (λ e. rw e (omega (arith, insert_sum μ f fs))) (λ e. rw e refl)

sorted_sum : (μ : Field → ℕ) (fs : Fields) → sum_f μ (by_name fs) ≡ sum_f μ fs
unfolding by_name
sorted_sum μ no_fields = refl
sorted_sum μ (more f fs) = insert_sum μ f (by_name fs) ∙ ap (λ (n : ℕ). μ f + n) (sorted_sum μ fs)

count_sum : (fs : Fields) → count_in fs ≡ sum_f count_of fs
unfolding count_of
count_sum no_fields = refl
count_sum (more f fs) = ap (λ (n : ℕ). count_of f + n) (count_sum fs)

columns_sum : (fs : Fields) → columns_in fs ≡ sum_f columns_of fs
unfolding columns_of
columns_sum no_fields = refl
columns_sum (more f fs) = ap (λ (n : ℕ). columns_of f + n) (columns_sum fs)

names_sum : (fs : Fields) → length (names_in fs) ≡ sum_f (λ f. length (names_of f)) fs
unfolding names_of
names_sum no_fields = refl
names_sum (more f fs) = length-append (names_of f) (names_in fs) ∙ ap (λ (n : ℕ). length (names_of f) + n) (names_sum fs)

-- sorting keeps the counts
pub sorted_count : (fs : Fields) → count_in (by_name fs) ≡ count_in fs
sorted_count fs = count_sum (by_name fs) ∙ sorted_sum count_of fs ∙ sym (count_sum fs)

pub sorted_columns : (fs : Fields) → columns_in (by_name fs) ≡ columns_in fs
sorted_columns fs = columns_sum (by_name fs) ∙ sorted_sum columns_of fs ∙ sym (columns_sum fs)

pub sorted_names : (fs : Fields) → length (names_in (by_name fs)) ≡ length (names_in fs)
sorted_names fs = names_sum (by_name fs) ∙ sorted_sum (λ f. length (names_of f)) fs ∙ sym (names_sum fs)

-- ---- slots never seen are records and columns without a name
pub gaps_count : (slot n : ℕ) (fs : Fields) → count_in (gaps slot n fs) ≡ n + count_in fs
unfolding gaps count_of
gaps_count slot zero fs = omega arith
gaps_count slot (suc n) fs = omega (arith, gaps_count (slot + 1) n fs)

pub gaps_columns : (slot n : ℕ) (fs : Fields) → columns_in (gaps slot n fs) ≡ n + columns_in fs
unfolding gaps columns_of
gaps_columns slot zero fs = omega arith
gaps_columns slot (suc n) fs = omega (arith, gaps_columns (slot + 1) n fs)

pub gaps_names : (slot n : ℕ) (fs : Fields) → length (names_in (gaps slot n fs)) ≡ length (names_in fs)
unfolding gaps names_of
gaps_names slot zero fs = refl
gaps_names slot (suc n) fs = gaps_names (slot + 1) n fs

-- ---- columns of one field, and columns against records
pub columns_are : (kind type : ℕ) (m : Marks) (strategy number : ℕ) (name : List ℕ) (fs : Fields) → eqb type struct ≡ emits_struct kind →
    columns_of (mk type m strategy number name fs) ≡ Flat.columns_of kind (count_in fs) (columns_in fs)
unfolding columns_of count_of when◌then◌else◌
columns_are kind type m strategy number name no_fields t = rw t (cases (emits_struct kind) (λ e. rw e) (λ e. rw e))
columns_are kind type m strategy number name (more (mk a b c d e gs) fs) t =
    rw (ne_eqb (suc (child_count fs)) 0 (omega arith), ne_eqb (suc (count_in gs) + count_in fs) 0 (omega arith)) (omega arith)

at_most_one : (b : Bool) → one b ≤ 1
at_most_one true = omega arith
at_most_one false = omega arith

mutual
  unfolding columns_of count_of

  pub column_few : (f : Field) → columns_of f ≤ count_of f
  column_few (mk a b c d e fs) = omega (arith, at_most_one (is_column a (child_count fs)), columns_few fs)

  pub columns_few : (fs : Fields) → columns_in fs ≤ count_in fs
  columns_few no_fields = omega arith
  columns_few (more f fs) = omega (arith, column_few f, columns_few fs)
