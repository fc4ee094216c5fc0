-- `count_children`: what the fold counts over the children is what is counted from one to the next.
use Rattle.std.proofs.Common.{rules, tests, ◌∙◌}
use Rattle.std.proofs.lemmas.Iterator.Consumers.{fold_from_yields_List, YieldsList-from_first}
use Rattle.places.specs.Children.{children_left}
use Rattle.fields.specs.Fields.{count_with}
use Rattle.fields.proofs.Counts.{same_count}
use Rattle.fields.proofs.count_children.Goals as goal

pub returns : goal.returns
returns c =
    fold_from_yields_List _ (λ count child. count_with c.args.kind c.args.table.now child count) 0 c.fold.result c.fold.ensures.ran
    (YieldsList-from_first (λ x. x) children_left _ c.new.ensures) (λ a x b q k. search (rules, tests))
    ∙ same_count _ _ _ _ _ _
