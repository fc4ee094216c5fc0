-- `type_of`: the code of a dictionary's type is of a byte.
use borrow.Author.Rules.{rules}
use borrow.Author.Tests.{ne_eqb}
use mathlib.Core.Path.{◌≡◌, sym, ◌∙◌}
use mathlib.Core.Bool.{Bool, true, false, ◌&&◌, ◌||◌}
use Prim.Native.Nat.{ℕ, ◌%◌}
use lib.Dec.{eqb}
use Rattle.logic.specs.Test.{when◌then◌else◌}
use Rattle.logic.specs.laws.Test.{cases}
use Rattle.datatype.specs.declared.DataType.{DataType}
use Rattle.datatype.specs.Codes.{code_of, utf8, large_utf8}
use Rattle.options.specs.Word.{dictionary_type, string_dictionary_encoding, string_as_large_utf8}
use Rattle.model.specs.Kinds.{sequence_kind}
use Rattle.model.specs.Emission.{emits_struct, type_of}
use Rattle.fields.proofs.type_of.Goals as goal

dictionary_byte : (options : ℕ) → dictionary_type options % 256 ≡ dictionary_type options
unfolding when◌then◌else◌
dictionary_byte options = cases (string_as_large_utf8 options) (λ e. rw e) (λ e. rw e)

module _ (options kind r : ℕ) (n : kind ≡ sequence_kind → ⊥) (root encoded : Bool) (s : root ≡ emits_struct kind) (f : root ≡ false)
    (t : encoded ≡ ((eqb kind utf8 || eqb kind large_utf8) && string_dictionary_encoding options)) where
  of_text : (type : DataType) → encoded ≡ true → code_of type ≡ dictionary_type options → r ≡ code_of type → r ≡ type_of options kind % 256
  unfolding type_of when◌then◌else◌
  of_text type p l q = rw (ne_eqb kind sequence_kind n, sym s ∙ f, sym t ∙ p) (q ∙ l ∙ sym (dictionary_byte options))

pub returns-then-is_encoded : goal.returns-then-is_encoded
returns-then-is_encoded c = search (of_text, rules)
