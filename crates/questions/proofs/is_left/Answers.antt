-- `is_left` looks at the words that a call uses, and at the others.
use Rattle.std.proofs.Common.{rules, ◌≡◌, ◌↔◌, true, List, ℕ, Bool, length, take, drop, ◌-◌, replicate, subst, sym, ◌∙◌}
use Rattle.std.proofs.Math.Dec.{eqb}
use Rattle.std.specs.List.{list_all}
use Rattle.words.specs.Word.{table_words}
use Rattle.questions.specs.laws.Left.{all_alike, rest_is, left_early, left_short, left_used, left_by_rest}
use Rattle.questions.proofs.is_left.Goals as goal

module _ (table part : List ℕ) (word : ℕ) (r : Bool) (told : r ≡ list_all (λ w. eqb w word) part) where
  -- what looking at a part of the table answers, said of that part
  of_first : part ≡ take table_words table → (r ≡ true) ↔ (take table_words table ≡ replicate (length (take table_words table)) word)
  of_first e = subst (λ xs. (r ≡ true) ↔ (xs ≡ replicate (length xs) word)) e (all_alike part word r told)

  abbrev rest : List ℕ
  rest = take (length table - table_words) (drop table_words table)

  of_rest : part ≡ drop table_words table → (r ≡ true) ↔ (rest ≡ replicate (length rest) word)
  of_rest e = subst (λ xs. (r ≡ true) ↔ (xs ≡ replicate (length xs) word)) (e ∙ sym (rest_is table_words table)) (all_alike part word r told)

pub returns-then-is_early : goal.returns-then-is_early
returns-then-is_early c = left_early _ _ _ c.is_early.ensures c.if-is_early.true _ (all_alike _ _ _ c.is_all.ensures)

pub returns-then-is_all : goal.returns-then-is_all
returns-then-is_all c =
    let split = c.in-Some.ensures.cases in
    left_by_rest _ _ _ c.is_early.ensures c.if-is_early.false split.0 _ (of_first c.args.table.now _ _ _ c.is_all-in-Some.ensures split.1) c.if-is_all.true _
    (of_rest c.args.table.now _ _ _ c.is_all-then-is_all.ensures split.2)

pub returns-else-is_all : goal.returns-else-is_all
returns-else-is_all c =
    let split = c.in-Some.ensures.cases in
    rw (c.if-is_all.false)
    (left_used _ _ _ c.is_early.ensures c.if-is_early.false split.0 _ (of_first c.args.table.now _ _ _ c.is_all-in-Some.ensures split.1) c.if-is_all.false)

pub returns-in-None : goal.returns-in-None
returns-in-None c = left_short _ _ _ c.is_early.ensures c.if-is_early.false (search rules)
