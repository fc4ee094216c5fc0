-- `utf8::are_ascii` looks at one byte after another: before each turn it tells of as many as turns were made.
use borrow.Author.Rules.{rules}
use Rattle.text.proofs.Blocks.{none, more, all}
use Rattle.text.proofs.utf8.are_ascii.Goals as goal

pub loop-i-init : goal.loop-i-init
loop-i-init c = (search (none, rules), search rules)

pub loop-i-preserved : goal.loop-i-preserved
loop-i-preserved c = (search (more, rules), search rules)

pub returns : goal.returns
returns c = search (all, rules)
