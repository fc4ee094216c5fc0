-- What is opened before anything below it is read: containers, variants, fields.
use Rattle.std.specs.Prelude.{◌≡◌, List, ℕ, ◌≤◌, Result, Ok, Err, Option, Some, None, IfOk, IfSome, ◌<◌}
use Rattle.logic.specs.Test.{when◌then◌else◌}
use Rattle.refusal.specs.declared.Refusal.{Refusal}
use Rattle.refusal.specs.declared.Refusal.TheVariants as F
use Rattle.text.specs.declared.Name.{Name}
use Rattle.text.specs.Name.{bytes_of}
use Rattle.text.specs.Utf8.{is_utf8}
use Rattle.words.specs.Word.{word}
use Rattle.model.specs.Kinds.{union_kind}
use Rattle.shapes.specs.declared.Step.{Step}
use Rattle.shapes.specs.declared.Step.TheVariants as S
use Rattle.places.specs.Layout.{kind_word, Sound, Ready}
use Rattle.places.specs.declared.Places.{Places}
use Rattle.places.specs.Places.{Same}
use Rattle.growth.specs.Growth.{Found, found, Ensuring, ensuring, ensured, Making, making, made, touched, sampled}
use Rattle.kinds.specs.declared.Met.{Met}
use Rattle.kinds.specs.Meeting.{meeting}
use Rattle.shapes.specs.Field.{Field, field_at}

-- ---- what is opened before anything below it is read
-- the child at a step, which the present sample holds
abbrev pub holding : ℕ → Ensuring → Ensuring
holding place (ensuring (Ok f) t) = ensuring (Ok f) (touched place f.child t)
holding place (ensuring (Err refusal) t) = ensuring (Err refusal) t

unfoldable pub held : List ℕ → ℕ → Step → ℕ → List ℕ → Ensuring
held text place step n t = holding place (ensured text place step n t)

-- a container meets what the place is, is one more sample there, and makes its children
abbrev pub made_where : List ℕ → (ℕ → Making) → Result Met Refusal → Making
made_where t k (Ok met) = k met.kind
made_where t k (Err refusal) = making (Err refusal) t

unfoldable pub container_made : List ℕ → ℕ → ℕ → ℕ → ℕ → ℕ → ℕ → List ℕ → Making
container_made text options levels kind positions place n t =
    made_where t
    (λ joint. made text place kind positions (word t place kind_word) n (sampled place joint t))
    (meeting options levels (word t place kind_word) kind)

-- a variant meets what the place is, and is one more sample there, which holds the variant's place
abbrev pub held_where : List ℕ → (ℕ → Ensuring) → Result Met Refusal → Ensuring
held_where t k (Ok met) = k met.kind
held_where t k (Err refusal) = ensuring (Err refusal) t

unfoldable pub variant_held : List ℕ → ℕ → ℕ → ℕ → Name → ℕ → ℕ → List ℕ → Ensuring
variant_held text options levels number name place n t =
    held_where t
    (λ joint. held text place (S.Variant number name) n (sampled place joint t))
    (meeting options levels (word t place kind_word) union_kind)

-- ---- a field, or the end, where one is due: the field's place and how many places there are, or none, or a refusal
abbrev pub Opened : Type 0
Opened = Result (Option Found) Refusal

pub data Opening : Type 0 where
  opening : Opened → List ℕ → Opening

abbrev pub of_held : Ensuring → Opening
of_held (ensuring (Ok f) t) = opening (Ok (Some f)) t
of_held (ensuring (Err refusal) t) = opening (Err refusal) t

-- a name that is not UTF-8 is refused (5)
unfoldable pub field_held : List ℕ → ℕ → Name → ℕ → List ℕ → Opening
field_held text place name n t =
    when is_utf8 (bytes_of text name) then of_held (held text place (S.Field name) n t) else opening (Err F.BadName) t

-- by what stands there
abbrev pub field_opened : List ℕ → ℕ → ℕ → List ℕ → Field → Opening
field_opened text place n t (Ok (Some name)) = field_held text place name n t
field_opened text place n t (Ok None) = opening (Ok None) t
field_opened text place n t (Err refusal) = opening (Err refusal) t

-- at an offset
abbrev pub opened_at : List ℕ → List ℕ → ℕ → ℕ → ℕ → ℕ → List ℕ → Opening
opened_at commands text kind at place n t = field_opened text place n t (field_at commands text kind at)

-- the place of a field is ready for its value
abbrev pub SoundOpened : List ℕ → List ℕ → ℕ → Opened → Type 0
SoundOpened text t n (Ok (Some f)) = Ready text t f.count f.child × (n ≤ f.count)
SoundOpened text t n (Ok None) = Sound text t n
SoundOpened text t n (Err refusal) = Unit {0}

-- what is promised of a function that opens a field: its answer, with the count beside it, and the table then are what the definition gives
-- of those before
abbrev pub counted : Result (Option ℕ) Refusal → ℕ → Opened
counted (Ok (Some child)) n = Ok (Some (found child n))
counted (Ok None) n = Ok None
counted (Err refusal) n = Err refusal

-- where the end stands there are as many places as before
abbrev pub Still : Result (Option ℕ) Refusal → ℕ → ℕ → Type 0
Still (Ok (Some child)) n m = Unit {0}
Still (Ok None) n m = m ≡ n
Still (Err refusal) n m = Unit {0}

pub record OpenedAs (wanted : Opening) (o p : Places) (r : Result (Option ℕ) Refusal) : Type 0 where
  pub opened : opening (counted r p.count) p.table.now ≡ wanted
  pub here : IfOk r (λ field. IfSome field (λ child. child < p.count))
  pub still : Still r o.count p.count
  pub same : Same o p
