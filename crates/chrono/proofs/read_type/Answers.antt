-- `read_type` reads a date and what follows it, or else a time.
use Rattle.std.proofs.Common.{◌≡◌, refl, ap, ◌∙◌, Option, Some, None, unwrap_or, rules}
use Rattle.datatype.specs.declared.DataType.{DataType}
use Rattle.datatype.specs.Codes.{code_of}
use Rattle.options.specs.Word.{string_type}
use Rattle.chrono.specs.Reading.{type_or}
use Rattle.chrono.proofs.Reading.{dated, undated, some_or}
use Rattle.chrono.proofs.read_type.Goals.{in-Some, in-None}
use Rattle.chrono.proofs.read_type.Goals as goal

unwrapped : (read : Option DataType) (string : DataType) → code_of (unwrap_or read string) ≡ type_or read (code_of string)
unwrapped (Some t) string = refl
unwrapped None string = refl

pub returns : goal.returns
returns c =
    let string = string_type c.args.options.word in
    ap code_of c.unwrap_or.ensures ∙
    unwrapped c.match-match_naive_date.read c.string_type.result ∙
    ap (type_or c.match-match_naive_date.read) c.string_type.ensures ∙
    elim c.match-match_naive_date.branch [
      | in-Some w ↦ ap (λ r. type_or r string) w.read-is ∙ w.type_after_date-read.ensures string ∙ search (dated, rules)
      | in-None w ↦ some_or _ _ string (w.read-is ∙ w.then_some-read.ensures) ∙ search (undated, rules)
    ]
