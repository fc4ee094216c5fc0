-- `follows` tests the first byte that is due, and leaves the others to `continues`.
use borrow.Author.Rules.{rules}
use Rattle.text.proofs.Begins.{short, below, above, stepped}
use Rattle.text.proofs.utf8.follows.Goals as goal

pub returns-then-bytes-at : goal.returns-then-bytes-at
returns-then-bytes-at c = search (short, rules)

pub returns-then-bytes-at-2 : goal.returns-then-bytes-at-2
returns-then-bytes-at-2 c = search (below, rules)

pub returns-then-high-bytes : goal.returns-then-high-bytes
returns-then-high-bytes c = search (above, rules)

pub returns : goal.returns
returns c = search (stepped, rules)
