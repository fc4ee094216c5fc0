-- `clear_places` zeroes one plane after another, as far as each is to be: before each turn, the planes before it are done.
use Rattle.std.proofs.Common.{rules}
use Rattle.std.proofs.lemmas.List.{places}
use Rattle.words.proofs.Zeroed.{planes_none, planes_more, planes_all}
use Rattle.words.proofs.clear_places.Goals as goal

pub loop-gap-init : goal.loop-gap-init
loop-gap-init c = (search (planes_none, rules), search rules)

pub loop-gap-preserved : goal.loop-gap-preserved
loop-gap-preserved c = (planes_more _ _ _ c.cleared_in.result _ _ _ (search rules) (search rules) (search rules) (search rules) (search rules) (c.fill.ensures.after (λ y h. h)), search (places, rules))

pub returns : goal.returns
returns c = search (planes_all, rules)
