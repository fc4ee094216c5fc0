-- A primitive at a place: what is answered, and the table then.
use Rattle.std.specs.Prelude.{◌≡◌, Bool, not, ◌&&◌, List, ℕ, ◌≤◌, eqb, ltb, Result, Ok, Err}
use Rattle.logic.specs.Test.{when◌then◌else◌}
use Rattle.logic.specs.Slices.{Slice, MutSlice, now_of, at_exit}
use Rattle.datatype.specs.Codes.{null}
use Rattle.refusal.specs.declared.Refusal.{Refusal}
use Rattle.refusal.specs.declared.Refused.{Refused}
use Rattle.commands.specs.Commands.{refused_at}
use Rattle.words.specs.Word.{word, with_word}
use Rattle.places.specs.Layout.{kind_word, Sound}
use Rattle.places.specs.Nullable.{with_null, with_widened}
use Rattle.kinds.specs.declared.Met.{Met}
use Rattle.kinds.specs.Meeting.{meeting}
use Rattle.shapes.specs.declared.Leaf.{Leaf}
use Rattle.leaves.specs.declared.Site.{Site}
use Rattle.leaves.specs.declared.Traced.{Traced}
use Rattle.model.specs.Kinds.{sequence_kind}

-- ---- what is answered: the offset behind what was read and the count of places, or a refusal and its place
abbrev pub Outcome : Type 0
Outcome = Result Traced Refused

abbrev pub traced_to : ℕ → ℕ → Outcome
traced_to behind n = Ok (record { next = behind; count = n })

-- that, and the table then
pub data Out : Type 0 where
  out : Outcome → List ℕ → Out

abbrev pub on_met : ℕ → List ℕ → (Met → Out) → Result Met Refusal → Out
on_met here t k (Ok met) = k met
on_met here t k (Err refusal) = out (refused_at refusal here) t

-- ---- a primitive at a place
abbrev pub with_met : Met → ℕ → List ℕ → List ℕ
with_met met place t =
    when met.widened then with_widened place (with_word t place kind_word met.kind)
    else with_word t place kind_word met.kind

unfoldable pub stored : Bool → Met → ℕ → List ℕ → List ℕ
stored null met place t = when null then with_null place (with_met met place t) else with_met met place t

unfoldable pub observed : ℕ → Bool → ℕ → ℕ → ℕ → ℕ → ℕ → ℕ → List ℕ → Out
observed options null kind levels here behind place n t =
    on_met here t (λ met. out (traced_to behind n) (stored null met place t)) (meeting options levels (word t place kind_word) kind)

-- the answer of a reader, with the count of places beside it
abbrev pub counted : Result ℕ Refused → ℕ → Outcome
counted (Ok next) n = traced_to next n
counted (Err refused) n = Err refused

-- what is promised where a primitive is seen at a site: however many places there are, they stay as many
abbrev pub Observes : ℕ → Leaf → ℕ → Site → List ℕ → List ℕ → Result ℕ Refused → Type 0
Observes options leaf here site t u r =
    (n : ℕ) → out (counted r n) u ≡ observed options leaf.null leaf.kind site.levels here leaf.next site.place n t

-- ---- what is true of the table afterwards: it is sound, and no place is lost
abbrev pub SoundTraced : List ℕ → List ℕ → ℕ → Outcome → Type 0
SoundTraced text t n (Ok to) = Sound text t to.count × (n ≤ to.count)
SoundTraced text t n (Err refused) = Unit {0}

-- what is promised of a function that traces: its answer and the table then are what the definition gives of the table before, the table
-- is sound, and no place is lost of those that there were
abbrev pub TracedIn : List ℕ → MutSlice → ℕ → Outcome → Out → Type 0
TracedIn text table n r wanted = (out r (at_exit table) ≡ wanted) × SoundTraced text (at_exit table) n r

abbrev pub TracedAs : Slice → MutSlice → ℕ → Outcome → Out → Type 0
TracedAs text table n r wanted = TracedIn (now_of text) table n r wanted

-- a value that is no null, of the type that is there
unfoldable pub is_known : Bool → ℕ → ℕ → Bool
is_known is_null before kind = not is_null && eqb before kind && ltb kind sequence_kind
