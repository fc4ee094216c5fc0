-- How places come to the table: a new last child, the child at a step found or made, samples counted, and the children of a container.
use Rattle.std.specs.Prelude.{◌≡◌, ℕ, zero, suc, ◌+◌, ◌%◌, ◌^◌, ◌<◌, not, ◌&&◌, List, [], ◌∷◌, ◌==◌, nat_le, Result, Ok, Err, IfOk, Option, Some, None}
use Rattle.logic.specs.Test.{when◌then◌else◌}
use Rattle.refusal.specs.declared.Refusal.{Refusal}
use Rattle.refusal.specs.declared.Refusal.TheVariants as F
use Rattle.text.specs.declared.Name.{Name}
use Rattle.text.specs.Name.{bytes_of, eq_name}
use Rattle.text.specs.Tag.{tag_of}
use Rattle.words.specs.Word.{word, with_word}
use Rattle.model.specs.Kinds.{sequence_kind, map_kind, tuple_kind}
use Rattle.model.specs.Tracing.{place_limit}
use Rattle.datatype.specs.Codes.{null}
use Rattle.shapes.specs.declared.Step.{Step}
use Rattle.shapes.specs.declared.Step.TheVariants as S
use Rattle.shapes.specs.Steps.{code_of, no_name, name_of, packed_name, unpacked_name}
use Rattle.places.specs.declared.Places.{Places}
use Rattle.places.specs.Places.{Same}
use Rattle.places.specs.Reading.{link_at}
use Rattle.places.specs.Layout.{kind_word, samples_word, first_word, last_word, block_word, next_word, parent_word, step_word, name_word, held_word, mark_word, tag_word, position_word, Sound}
use Rattle.search.specs.Tree.{is_numbered, seek}
use Rattle.search.specs.Search.{child_at}

-- one more: counts wrap at 32 bits, which none reaches
abbrev pub onward : ℕ → ℕ
onward count = (count + 1) % 2 ^ 32

-- ---- a new last child: linked from the place where it is the first, else from the last before it
unfoldable pub linked : ℕ → ℕ → List ℕ → List ℕ
linked place child t =
    when word t place first_word == 0 then with_word t place first_word child else with_word t (word t place last_word) next_word child

-- its words that tell where it stands
unfoldable pub described : ℕ → ℕ → Name → ℕ → List ℕ → List ℕ
described place code name child t =
    with_word (with_word (with_word t child parent_word place) child step_word code) child name_word (packed_name name)

-- the place's chain of children, one longer
abbrev pub lengthened : ℕ → ℕ → List ℕ → List ℕ
lengthened place child t = with_word (linked place child t) place last_word child

-- a new last child, with the words that tell where it stands
unfoldable pub appended : ℕ → ℕ → Name → ℕ → List ℕ → List ℕ
appended place code name child t = described place code name child (lengthened place child t)

-- the position that a new child gets among its siblings: one behind the last's
unfoldable pub position_in : ℕ → List ℕ → ℕ
position_in place t = when word t place first_word == 0 then 0 else onward (word t (word t place last_word) position_word)

-- ---- the same by the last child before: none where a place has no children
unfoldable pub last_child : ℕ → List ℕ → Option ℕ
last_child place t = when word t place first_word == 0 then None else Some (link_at t place last_word)

abbrev pub linked_behind : ℕ → Option ℕ → ℕ → List ℕ → List ℕ
linked_behind place (Some last) child t = with_word t last next_word child
linked_behind place None child t = with_word t place first_word child

-- the child is described before it is linked
abbrev pub appended_behind : ℕ → ℕ → Name → ℕ → List ℕ → List ℕ
appended_behind place code name child t =
    with_word
    (linked_behind place (last_child place (described place code name child t)) child (described place code name child t))
    place last_word child

abbrev pub position_behind : Option ℕ → List ℕ → ℕ
position_behind (Some last) t = onward (word t last position_word)
position_behind None t = 0

-- what the search for fields goes by: the tag of its name, and how many siblings stand before it
unfoldable pub tagged : List ℕ → Name → ℕ → ℕ → List ℕ → List ℕ
tagged text name position child t = with_word (with_word t child tag_word (tag_of (bytes_of text name))) child position_word position

-- a new numbered child, the table's place n, is stored at the link where the search for it ends
unfoldable pub entered : ℕ → ℕ → ℕ → List ℕ → List ℕ
entered place code n t = when is_numbered code then with_word t (seek place code n t).place (seek place code n t).field n else t

-- ---- the child at a step, found or made, and how many places there are; or refusal 9 or 11
pub record Found : Type 0 where
  pub child : ℕ
  pub count : ℕ

abbrev pub found : ℕ → ℕ → Found
found child n = record { child = child; count = n }

abbrev pub Ensured : Type 0
Ensured = Result Found Refusal

pub data Ensuring : Type 0 where
  ensuring : Ensured → List ℕ → Ensuring

unfoldable pub confirmed : List ℕ → Name → ℕ → ℕ → List ℕ → Ensured
confirmed text name child n t =
    when eq_name (bytes_of text (unpacked_name (word t child name_word))) (bytes_of text name) then Ok (found child n)
    else Err F.TwoNames

unfoldable pub ensured_by : List ℕ → ℕ → ℕ → Name → ℕ → List ℕ → ℕ → Ensuring
ensured_by text place code name n t child =
    when not (child == 0) then ensuring (confirmed text name child n t) t
    else when nat_le place_limit n then ensuring (Err F.TooManyPlaces) t
    else ensuring (Ok (found n (n + 1))) (entered place code n (tagged text name (position_in place t) n (appended place code name n t)))

unfoldable pub ensured : List ℕ → ℕ → Step → ℕ → List ℕ → Ensuring
ensured text place step n t = ensured_by text place (code_of step) (name_of step) n t (child_at text place step n t)

-- ---- samples counted
-- a child counted once among those that the place's present sample holds
unfoldable pub touched : ℕ → ℕ → List ℕ → List ℕ
touched place child t =
    when word t child mark_word == word t place samples_word then t
    else with_word (with_word t child held_word (onward (word t child held_word))) child mark_word (word t place samples_word)

unfoldable pub sampled : ℕ → ℕ → List ℕ → List ℕ
sampled place kind t = with_word (with_word t place kind_word kind) place samples_word (onward (word t place samples_word))

-- ---- the children that a container makes at its own command: how many places there are, or refusal 9 or 11
abbrev pub Made : Type 0
Made = Result ℕ Refusal

pub data Making : Type 0 where
  making : Made → List ℕ → Making

abbrev pub of_ensuring : Ensuring → Making
of_ensuring (ensuring (Ok f) t) = making (Ok f.count) t
of_ensuring (ensuring (Err refusal) t) = making (Err refusal) t

unfoldable pub made_one : List ℕ → ℕ → Step → ℕ → List ℕ → Making
made_one text place step n t = of_ensuring (ensured text place step n t)

abbrev pub then_made : Making → (ℕ → List ℕ → Making) → Making
then_made (making (Ok n) t) more = more n t
then_made (making (Err refusal) t) more = making (Err refusal) t

unfoldable pub made_all : List ℕ → ℕ → List Step → ℕ → List ℕ → Making
made_all text place [] n t = making (Ok n) t
made_all text place (s ∷ ss) n t = then_made (made_one text place s n t) (made_all text place ss)

abbrev pub positions_from : ℕ → ℕ → List Step
positions_from i zero = []
positions_from i (suc n) = S.Position i ∷ positions_from (suc i) n

-- so many positions from i on, at a place that has none of them: appended with no search, and with no tag, for they are no fields
unfoldable pub appended_from : ℕ → ℕ → ℕ → ℕ → List ℕ → Making
appended_from place i zero n t = making (Ok n) t
appended_from place i (suc left) n t =
    when nat_le place_limit n then making (Err F.TooManyPlaces) t
    else appended_from place (suc i) left (n + 1) (appended place (code_of (S.Position i)) no_name n t)

-- all positions of a tuple: a block where they are the place's first children
unfoldable pub positions_made : List ℕ → ℕ → ℕ → ℕ → List ℕ → Making
positions_made text place positions n t =
    when word t place first_word == 0
    then then_made (appended_from place 0 positions n t) (λ m u. making (Ok m) (with_word u place block_word positions))
    else made_all text place (positions_from 0 positions) n t

-- a sequence makes its element, a map its key and value, a tuple all its positions where the place was unknown
unfoldable pub made : List ℕ → ℕ → ℕ → ℕ → ℕ → ℕ → List ℕ → Making
made text place kind positions before n t =
    when kind == sequence_kind then made_all text place (S.Element ∷ []) n t
    else when kind == map_kind then made_all text place (S.Key ∷ S.Value ∷ []) n t
    else when kind == tuple_kind && before == null then positions_made text place positions n t
    else making (Ok n) t

-- ---- what is true of the table afterwards
abbrev pub SoundEnsured : List ℕ → List ℕ → Ensured → Type 0
SoundEnsured text t (Ok f) = Sound text t f.count × (f.child < f.count)
SoundEnsured text t (Err refusal) = Unit {0}

abbrev pub SoundMade : List ℕ → List ℕ → Made → Type 0
SoundMade text t (Ok n) = Sound text t n
SoundMade text t (Err refusal) = Unit {0}

-- ---- what is promised of a function that ensures a child, or makes children: its answer, with the count beside it, and the table then are
-- what the definition gives of those before
abbrev pub counted : Result ℕ Refusal → ℕ → Ensured
counted (Ok child) n = Ok (found child n)
counted (Err refusal) n = Err refusal

pub record EnsuredAs (wanted : Ensuring) (o p : Places) (r : Result ℕ Refusal) : Type 0 where
  pub ensured : ensuring (counted r p.count) p.table.now ≡ wanted
  pub here : IfOk r (λ child. child < p.count)
  pub same : Same o p

abbrev pub count_of : Result (Unit {0}) Refusal → ℕ → Made
count_of (Ok done) n = Ok n
count_of (Err refusal) n = Err refusal

pub record MadeAs (wanted : Making) (o p : Places) (r : Result (Unit {0}) Refusal) : Type 0 where
  pub made : making (count_of r p.count) p.table.now ≡ wanted
  pub same : Same o p
