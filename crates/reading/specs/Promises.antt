-- What each of the readers promises: its answer, and the table then, are what one of these readings gives.
use Rattle.std.specs.Prelude.{◌≡◌, List, ℕ, ◌-◌, Result}
use Rattle.refusal.specs.declared.Refused.{Refused}
use Rattle.text.specs.declared.Name.{Name}
use Rattle.shapes.specs.declared.Step.{Step}
use Rattle.shapes.specs.declared.Contents.{Contents}
use Rattle.leaves.specs.declared.Batch.{Batch}
use Rattle.leaves.specs.declared.Site.{Site}
use Rattle.places.specs.declared.Places.{Places}
use Rattle.places.specs.Places.{Same}
use Rattle.leaves.specs.Leaves.{counted, out}
use Rattle.reading.specs.Reading.{Reader, dots_in, part_read, parts_by, container_by, variant_by, readers, inner_of, value_at}

-- a reading is a reader, given the commands, the texts, the options and the levels left
abbrev pub Reading : Type 0
Reading = List ℕ → List ℕ → ℕ → ℕ → Reader

-- a value whose name takes a level for each dot
abbrev pub named : Name → Reading
named name commands text options levels = value_at commands text options (levels - dots_in text name)

-- a container or a variant, whose command stands at `here`, and a variant's contents
abbrev pub container : ℕ → ℕ → ℕ → Reading
container kind positions here commands text options levels =
    container_by commands text options levels (inner_of commands text options levels) kind positions here

abbrev pub variant : ℕ → Name → Contents → ℕ → Reading
variant number name contents here commands text options levels =
    variant_by text options levels (inner_of commands text options levels) number name contents here

abbrev pub inside : Contents → ℕ → Reading
inside contents here commands text options levels = readers commands text options levels 0 contents here

-- the parts of a container, and one of them at `here`: the levels are those left below the container
abbrev pub parts : ℕ → ℕ → Reading
parts kind positions commands text options levels at place =
    parts_by commands text (readers commands text options levels) kind positions place at

abbrev pub part : Step → ℕ → Reading
part step here commands text options levels = part_read text (readers commands text options levels) step here

-- what is promised of a function that reads from an offset on, at a site: its answer, with the count of places beside it, and the table
-- then are what the reading gives of those before
pub record Reads (batch : Batch) (at : ℕ) (site : Site) (o p : Places) (reading : Reading) (r : Result ℕ Refused) : Type 0 where
  pub read : out (counted r p.count) p.table.now
      ≡ reading batch.commands.now batch.text.now batch.options.word site.levels at site.place o.count o.table.now
  pub same : Same o p
