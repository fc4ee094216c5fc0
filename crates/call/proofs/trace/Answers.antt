-- `trace` tests 1, 2 and 3 in order, and lends the places' words.
use borrow.Author.Rules.{rules}
use borrow.Author.Tests.{lt-ltb, le-ltb}
use mathlib.Core.Path.{◌≡◌, refl}
use mathlib.Core.Bool.{Bool, true, false, ◌||◌}
use mathlib.Core.List.{List, ◌++◌}
use Prim.Native.Nat.{ℕ, ◌<◌, ◌≤◌}
use lib.Dec.{ltb}
use lib.ListN.{length, take, drop}
use Rattle.std.proofs.lemmas.List.{take-append-drop}
use Rattle.logic.specs.Test.{when◌then◌else◌}
use Rattle.options.specs.Word.{unknown_bit}
use Rattle.refusal.specs.declared.Refusal.TheVariants as F
use Rattle.words.specs.Word.{table_words}
use Rattle.model.specs.Answer as M
use Rattle.model.specs.Answer.{input_limit, schema_of, answer_of, answer}
use Rattle.model.specs.Demand3.{batch}
use Rattle.std.specs.Prelude.{Err}
use Rattle.call.specs.Call.{refused_at, Outcome, lent, answer_by}
use Rattle.call.specs.laws.Call.{lent_is_answer}
use Rattle.call.proofs.trace.Goals as goal

module _ (options word : ℕ) (commands text t fields names : List ℕ) (made : word ≡ options) (unknown : Bool) (u : unknown ≡ unknown_bit word) where
  abbrev given : M.Answer
  given = answer (batch options commands text) (lent t fields names)

  unknown_option_lem : unknown ≡ true → answer_by (Err (refused_at F.UnknownOption 0)) (lent t fields names) ≡ given
  unfolding answer when◌then◌else◌
  unknown_option_lem e = rw (← made, ← u, e) refl

  module _ (known : unknown ≡ false) where
    short_table_lem : length t < table_words → answer_by (Err (refused_at F.ShortTable 0)) (lent t fields names) ≡ given
    unfolding answer when◌then◌else◌
    short_table_lem s = rw (← made, ← u, known, lt-ltb (length t) table_words s) refl

    module _ (room : table_words ≤ length t) (long : Bool) (l : long ≡ (ltb input_limit (length commands) || ltb input_limit (length text))) where
      long_input_lem : long ≡ true → answer_by (Err (refused_at F.LongInput 0)) (lent t fields names) ≡ given
      unfolding answer when◌then◌else◌
      long_input_lem e = rw (← made, ← u, known, le-ltb (length t) table_words room, ← l, e) refl

      kept : (part : List ℕ) → part ≡ take table_words t → long ≡ true →
          answer_by (Err (refused_at F.LongInput 0)) (lent (part ++ drop table_words t) fields names) ≡ given
      kept part p e = rw (p, take-append-drop table_words t) (long_input_lem e)

      traced : (o : Outcome) (part ended records written : List ℕ) → part ≡ take table_words t → long ≡ false →
          answer_by o (lent ended records written) ≡ answer_of (batch word commands text) (lent part fields names) (schema_of (batch word commands text)) →
          answer_by o (lent (ended ++ drop table_words t) records written) ≡ given
      unfolding answer when◌then◌else◌
      traced o part ended records written p e q =
          rw (← made, ← u, known, le-ltb (length t) table_words room, ← l, e)
          (lent_is_answer t room o (batch word commands text) ended fields names records written (schema_of (batch word commands text)) (rw p at q))

pub returns-then-has_unknown_bit : goal.returns-then-has_unknown_bit
returns-then-has_unknown_bit c = search (unknown_option_lem, rules)

pub returns-in_default : goal.returns-in_default
returns-in_default c = search (short_table_lem, rules)

pub returns-then-is_long : goal.returns-then-is_long
returns-then-is_long c = let part = c.in-Some.ensures.cases in search (kept, part.enough, part.same, rules)

pub returns : goal.returns
returns c = let part = c.in-Some.ensures.cases in search (traced, part.enough, part.same, rules)
