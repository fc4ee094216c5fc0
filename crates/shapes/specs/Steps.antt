-- Steps and names as words of the table.
use Rattle.std.specs.Prelude.{◌≡◌, true, List, ℕ, ◌+◌, ◌*◌, ◌/◌, ◌%◌, ◌≤◌, length}
use Rattle.text.specs.declared.Name.{Name}
use Rattle.text.specs.Name.{bytes_of}
use Rattle.text.specs.Utf8.{is_utf8}
use Rattle.shapes.specs.declared.Step.{Step}
use Rattle.shapes.specs.declared.Step.TheVariants as S

-- the word that tells steps apart, but for the names of fields
abbrev pub field_code : ℕ
field_code = 3

abbrev pub code_of : Step → ℕ
code_of S.Element = 0
code_of S.Key = 1
code_of S.Value = 2
code_of (S.Field name) = field_code
code_of (S.Position i) = 4 + 2 * i
code_of (S.Variant number name) = 5 + 2 * number

abbrev pub no_name : Name
no_name = record { offset = 0; length = 0 }

-- the name that goes with it
abbrev pub name_of : Step → Name
name_of S.Element = no_name
name_of S.Key = no_name
name_of S.Value = no_name
name_of (S.Field name) = name
name_of (S.Position i) = no_name
name_of (S.Variant number name) = name

-- a step to an element, key, value or position: it has no name
pub record Unnamed (step : Step) : Type 0 where
  pub name : name_of step ≡ no_name
  pub field : code_of step ≡ field_code → ⊥

-- a name in one word
abbrev pub packed_name : Name → ℕ
packed_name name = name.offset * 65536 + name.length

abbrev pub unpacked_name : ℕ → Name
unpacked_name w = record { offset = w / 65536; length = w % 65536 }

-- a name that ends inside the text
abbrev pub Inside : List ℕ → Name → Type 0
Inside text name = name.offset + name.length ≤ length text

-- and whose bytes are UTF-8
pub record Good (text : List ℕ) (name : Name) : Type 0 where
  pub inside : Inside text name
  pub utf8 : is_utf8 (bytes_of text name) ≡ true
