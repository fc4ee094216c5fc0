-- `is_good`: of a text that is ASCII every name is UTF-8.
use borrow.Author.Rules.{rules}
use mathlib.Core.Path.{◌≡◌, sym, ◌∙◌}
use mathlib.Core.Bool.{true}
use mathlib.Core.List.{List}
use Prim.Native.Nat.{ℕ}
use Rattle.options.specs.declared.TracingOptions.{TracingOptions}
use Rattle.text.specs.declared.Name.{Name}
use Rattle.text.specs.Name.{bytes_of}
use Rattle.text.specs.Utf8.{is_utf8}
use Rattle.text.specs.laws.Ascii.{ascii_name}
use Rattle.shapes.specs.Steps.{Inside}
use Rattle.shapes.specs.Leaf.{Told}
use Rattle.shapes.proofs.is_good.Goals as goal

told_good : (text : List ℕ) (name : Name) (options : TracingOptions) → Inside text name → Told options text → options.ascii ≡ true → options.ascii ≡ is_utf8 (bytes_of text name)
told_good text name options inside told e = e ∙ sym (ascii_name text name (told e) inside)

pub returns-then-options : goal.returns-then-options
returns-then-options c = search (told_good, rules)
