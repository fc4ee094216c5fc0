-- Demand 3 holds: what it says is in specs/Demand3.antt.
use Rattle.equality.specs.Demand3.{Demand3}
use Rattle.equality.specs.laws.reordering.Batches.{accepted_split, batch_again}
use Rattle.equality.proofs.Equal.{equal_exactly}

pub demand_3 : Demand3
demand_3 =
    record {
      equal = λ options plain commands text lent a s b commands' text' lent' a' s' b'.
          equal_exactly options plain commands text commands' text' lent lent' a a' s s';
      split = accepted_split;
      reordered = λ b plain lent a s both. batch_again b plain lent a both;
    }
