use Rattle.std.proofs.Common.{rules}
use Rattle.record_vectors.specs.Joints.{pairing_agrees}
use Rattle.record_vectors.proofs.fn.main.replay_file+3.Goals as goal

pub returns : goal.returns
returns c = c.replay.ensures pairing_agrees (λ stored r e. search rules)
