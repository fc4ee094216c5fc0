-- `put_gaps`: the slots that are left give what all of them give.
use Rattle.std.proofs.Common.{◌≡◌, ◌-◌}
use Rattle.putting.specs.Put.{put, put_gaps, as_writing, gaps_in}
use Rattle.putting.specs.Output.{written_by}
use Rattle.putting.proofs.Output.put_gaps.Given as goal

abbrev pub invariant-loop-i : goal.invariant-loop-i
invariant-loop-i l = record {
  same_whole : as_writing (put_gaps l.slot l.i (l.count - l.i) (put l.self.next_record l.self.fields.now)) (put l.self.next_name l.self.names.now)
      ≡ gaps_in l.slot l.count (written_by l.fn.self);
  same_fields : l.self.fields.ghost_name ≡ l.fn.self.fields.ghost_name;
  same_names : l.self.names.ghost_name ≡ l.fn.self.names.ghost_name;
}
