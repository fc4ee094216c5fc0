-- The readers call one another in a circle, with the levels left falling.
use mathlib.Core.Path.{◌≡◌}
use lib.ListN.{length}
use Rattle.model.specs.Kinds.{sequence_kind, map_kind, tuple_kind}
use Rattle.places.specs.declared.Places.{Places}
use Rattle.places.specs.Places.{Same}
use Rattle.reading.specs.Reading.{parts_from, parts_by, readers}
use Prim.Native.Nat.{◌-◌, ℕ, ◌+◌, ◌*◌, ◌≤◌, ◌<◌}
use Rattle.leaves.specs.declared.Batch.{Batch}
use Rattle.reading.proofs.+readers.Given as goal

-- ---- the loops: from here on the parts give what they give from the start on, for the places as they are
pub record Left (batch : Batch) (kind positions start : ℕ) (place levels : ℕ) (o p : Places) (i at : ℕ) : Type 0 where
  pub rest : parts_from batch.commands.now batch.text.now (readers batch.commands.now batch.text.now batch.options.word levels) kind positions place i at p.count p.table.now
      ≡ parts_by batch.commands.now batch.text.now (readers batch.commands.now batch.text.now batch.options.word levels) kind positions place start o.count o.table.now
  pub here : place < p.count
  pub text : p.text.now ≡ batch.text.now
  pub same : Same o p

abbrev pub decreases-read_container : goal.decreases-read_container
decreases-read_container l = 8 * l.site.levels + 1

abbrev pub decreases-read_contents : goal.decreases-read_contents
decreases-read_contents l = 8 * l.site.levels + 4

abbrev pub decreases-read_elements : goal.decreases-read_elements
decreases-read_elements l = 8 * l.site.levels + 6

abbrev pub decreases-read_entries : goal.decreases-read_entries
decreases-read_entries l = 8 * l.site.levels + 6

abbrev pub decreases-read_fields : goal.decreases-read_fields
decreases-read_fields l = 8 * l.site.levels + 6

abbrev pub decreases-read_named : goal.decreases-read_named
decreases-read_named l = 8 * l.site.levels + 3

abbrev pub decreases-read_part : goal.decreases-read_part
decreases-read_part l = 8 * l.site.levels + 5

abbrev pub decreases-read_parted : goal.decreases-read_parted
decreases-read_parted l = 8 * l.site.levels + 2

abbrev pub decreases-read_parts : goal.decreases-read_parts
decreases-read_parts l = 8 * l.site.levels + 7

abbrev pub decreases-read_positions : goal.decreases-read_positions
decreases-read_positions l = 8 * l.site.levels + 6

abbrev pub decreases-read_value : goal.decreases-read_value
decreases-read_value l = 8 * l.site.levels + 3

abbrev pub decreases-read_variant : goal.decreases-read_variant
decreases-read_variant l = 8 * l.site.levels + 1

abbrev pub invariant-read_elements-loop-next : goal.invariant-read_elements-loop-next
invariant-read_elements-loop-next l = Left l.batch sequence_kind 0 l.start l.fn.site.place l.fn.site.levels l.fn.places l.places 0 l.at

abbrev pub decreases-read_elements-loop-next : goal.decreases-read_elements-loop-next
decreases-read_elements-loop-next l = length l.batch.commands.now - l.at

abbrev pub invariant-read_entries-loop-next : goal.invariant-read_entries-loop-next
invariant-read_entries-loop-next l = Left l.batch map_kind 0 l.start l.fn.site.place l.fn.site.levels l.fn.places l.places l.i l.at × (l.i ≤ l.at)

abbrev pub decreases-read_entries-loop-next : goal.decreases-read_entries-loop-next
decreases-read_entries-loop-next l = length l.batch.commands.now - l.at

abbrev pub invariant-read_fields-loop-child : goal.invariant-read_fields-loop-child
invariant-read_fields-loop-child l = Left l.batch l.kind 0 l.start l.fn.site.place l.fn.site.levels l.fn.places l.places 0 l.at

abbrev pub decreases-read_fields-loop-child : goal.decreases-read_fields-loop-child
decreases-read_fields-loop-child l = length l.batch.commands.now - l.at

abbrev pub invariant-read_positions-loop-i : goal.invariant-read_positions-loop-i
invariant-read_positions-loop-i l = Left l.batch tuple_kind l.positions l.start l.fn.site.place l.fn.site.levels l.fn.places l.places l.i l.at × (l.i ≤ l.positions)

abbrev pub decreases-read_positions-loop-i : goal.decreases-read_positions-loop-i
decreases-read_positions-loop-i l = length l.batch.commands.now - l.at
