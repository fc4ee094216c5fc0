-- `tag::long_tag` mixes eight bytes a turn: each lane is as after so many steps as turns were made.
use Rattle.std.proofs.Common.{◌≡◌}
use Rattle.text.specs.Tag.{lane_of}
use Rattle.text.proofs.tag.long_tag.Given as goal

abbrev pub invariant-loop-eight : goal.invariant-loop-eight
invariant-loop-eight l = record { first : l.one ≡ lane_of l.bytes 0 l.n l.eight-index; second : l.two ≡ lane_of l.bytes 4 0 l.eight-index }
