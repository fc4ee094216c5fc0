-- The numbers of a header by name: which they are, from 0.
use Rattle.std.specs.Prelude.{ℕ}
use Rattle.questions.specs.declared.Number.{Number}
use Rattle.questions.specs.declared.Number.TheVariants as N

abbrev pub index_of : Number → ℕ
index_of N.Table = 0
index_of N.Commands = 1
index_of N.Text = 2
index_of N.Fields = 3
index_of N.Names = 4
index_of N.Refusal = 5
index_of N.Place = 6
index_of N.FieldRecords = 7
index_of N.NameBytes = 8
index_of N.Columns = 9
