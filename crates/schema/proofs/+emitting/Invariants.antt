-- The emission of a place, of its children and of a child, as one cycle: the levels fall. Over the children, those that are left give what all give.
use Rattle.std.proofs.Common.{◌≡◌, ◌+◌, ◌*◌}
use Rattle.places.specs.Children.{children_left}
use Rattle.putting.specs.Output.{written_by}
use Rattle.schema.specs.Emit.{emitted_at, emitted_below}
use Rattle.schema.proofs.Emits.{fields_over}
use Rattle.schema.proofs.+emitting.Given as goal

abbrev pub decreases-emit : goal.decreases-emit
decreases-emit l = 3 * l.levels

abbrev pub decreases-emit_child : goal.decreases-emit_child
decreases-emit_child l = 3 * l.levels + 1

abbrev pub decreases-emit_children : goal.decreases-emit_children
decreases-emit_children l = 3 * l.levels + 2

abbrev pub invariant-emit_children-loop-child : goal.invariant-emit_children-loop-child
invariant-emit_children-loop-child l = record {
  same_whole : fields_over l.source.table.now (emitted_at l.source.options.word l.source.text.now l.source.table.now l.levels) l.kind l.place
      l.slot (children_left l.child-iterator) (written_by l.out)
      ≡ emitted_below l.source.options.word l.source.text.now l.source.table.now l.levels l.kind l.place (written_by l.fn.out);
  same_fields : l.out.fields.ghost_name ≡ l.fn.out.fields.ghost_name;
  same_names : l.out.names.ghost_name ≡ l.fn.out.names.ghost_name;
}
