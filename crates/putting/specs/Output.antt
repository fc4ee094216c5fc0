-- What is written through the output buffers.
use Rattle.std.specs.Prelude.{◌≡◌}
use Rattle.putting.specs.declared.Output.{Output}
use Rattle.putting.specs.Put.{Writing, writing}

-- what was written through both buffers so far
abbrev pub written_by : Output → Writing
written_by o = writing o.next_record o.next_name o.fields.now o.names.now

-- what a part of the second walk answers for: it writes so, through the same buffers
pub record Writes (write : Writing → Writing) (o p : Output) : Type 0 where
  pub written : written_by p ≡ write (written_by o)
  pub same_fields : p.fields.ghost_name ≡ o.fields.ghost_name
  pub same_names : p.names.ghost_name ≡ o.names.ghost_name
