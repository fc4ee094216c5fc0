use Rattle.std.proofs.Common.{refl, arith, ◌≡◌, ◌∙◌, ◌<◌, ◌≤◌, length}
use Rattle.std.proofs.iter.Next.{says_at}
use Rattle.logic.specs.Test.{when◌then◌else◌}
use Rattle.logic.specs.laws.Flag.{if_either}
use Rattle.replay.specs.laws.Tally.{replayed_on, replayed_ends}
use Rattle.replay.proofs.replay.Goals as goal

pub loop-record-preserved : goal.loop-record-preserved
loop-record-preserved g c =
    let inv = c.loop-record.invariant in
    let gives = c.in-Some.ensures.steps in
    let ending = g.met.L.Layout.is_end in
    let inside : c.loop-record.record-iterator.at < length c.args.vectors.now = rw inv.2 at gives.0 in
    let behind : c.next.new.self.at ≡ g.L.Layout.end c.args.vectors.now c.loop-record.record-iterator.at = rw inv.2 at gives.2 in
    let stored = rw (inv.2, ← behind) at gives.1 in
    let ends = ending c.args.vectors.now c.loop-record.record-iterator.at inside in
    let agreed = says_at g.F.Fn c.agrees.ensures refl in
    let few : (when c.agrees.result then 0 else 1) ≤ 1 = if_either (λ n. n ≤ 1) c.agrees.result (omega arith) (omega arith) in (
      _,
      _,
      rw gives.3 inv.2,
      omega (arith, ends, behind),
      rw c.with-tally.ensures (omega (arith, ends, behind, inv)),
      rw c.with-tally.ensures (omega (arith, inv, few)),
      λ answer answers.
          rw c.with-tally.ensures
          (replayed_on g.L.Layout.HEAD g.L.Layout.end answer c.args.vectors.now _ (ending _) _ _ _ _ _ _ _ inside refl behind
          (answers _ _ agreed ∙ rw stored refl) refl (inv.6 answer answers)),
    )

pub returns : goal.returns
returns g c = λ answer answers.
    replayed_ends g.L.Layout.HEAD g.L.Layout.end answer c.args.vectors.now _ (g.met.L.Layout.is_end _) _ _ _
    (rw c.loop-record.invariant.2 at c.in-None.ensures.steps.0)
    (c.loop-record.invariant.6 answer answers)
