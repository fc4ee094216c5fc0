-- `DataType::try_from` looks the code up among the types.
use Rattle.std.specs.Prelude.{Option, Some, None, slice_get}
use Rattle.std.specs.Option.{option_copied}
use Rattle.std.specs.Slice.{IsItemAt}
use Rattle.std.proofs.Common.{◌≡◌, ℕ, List, Bor, rules, sym, ap, ◌∙◌}
use Rattle.std.proofs.lemmas.Option.{slice_get-get_or, slice_get_past}
use Rattle.datatype.specs.declared.DataType.{DataType}
use Rattle.datatype.specs.Codes.{decoded}
use Rattle.datatype.proofs.DataTypeTryFromU8.try_from.Goals as goal

-- what `get` lends is the item there
item : (ts : List DataType) (i : ℕ) (t : Option (Bor DataType)) → IsItemAt ts i t → option_copied t ≡ slice_get ts i
item ts i None h = sym (slice_get_past ts i h.3)
item ts i (Some t) h = ap Some h.1 ∙ sym (slice_get-get_or ts i t.now h.3.0)

pub returns : goal.returns
unfolding decoded
returns c = search (item, rules)
