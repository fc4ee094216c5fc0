use Rattle.std.proofs.Common.{rules}
use Rattle.record_vectors.specs.Names.{name_agrees}
use Rattle.record_vectors.proofs.fn.main.replay_file+2.Goals as goal

pub returns : goal.returns
returns c = c.replay.ensures name_agrees (λ stored r e. search rules)
