-- The words of a place by name: their numbers.
use Rattle.std.specs.Prelude.{ℕ}
use Rattle.words.specs.declared.Whole.{Whole}
use Rattle.words.specs.declared.Whole.TheVariants as W
use Rattle.words.specs.declared.Half.{Half}
use Rattle.words.specs.declared.Half.TheVariants as H

abbrev pub whole_number : Whole → ℕ
whole_number W.Free0 = 0
whole_number W.Free1 = 1
whole_number W.Free2 = 2
whole_number W.Kind = 3
whole_number W.Nullable = 4
whole_number W.Samples = 5
whole_number W.Step = 14
whole_number W.Name = 15
whole_number W.Held = 16
whole_number W.Mark = 17
whole_number W.Tag = 18
whole_number W.Position = 19

abbrev pub half_number : Half → ℕ
half_number H.First = 6
half_number H.Last = 7
half_number H.Root = 8
half_number H.Block = 9
half_number H.Left = 10
half_number H.Right = 11
half_number H.Next = 12
half_number H.Parent = 13
