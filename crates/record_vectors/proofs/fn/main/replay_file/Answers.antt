use Rattle.std.proofs.Common.{rules}
use Rattle.record_vectors.specs.Texts.{text_agrees}
use Rattle.record_vectors.proofs.fn.main.replay_file.Goals as goal

pub returns : goal.returns
returns c = c.replay.ensures text_agrees (λ stored r e. search rules)
