-- The tree with its places' numbers and marks, and the same walk over it as the model's: what stands between the words of the table and the
-- model's tree.
use Rattle.std.specs.Prelude.{false, List, [], ◌∷◌, ℕ, ◌+◌, eqb, ltb}
use Rattle.logic.specs.Test.{when◌then◌else◌}
use Rattle.datatype.specs.Codes.{null}
use Rattle.refusal.specs.Number.{two_names, too_many_places}
use Rattle.model.specs.Result.{Result, refused, ◌>>=◌}
use Rattle.model.specs.Kinds.{is_container, Step, same}
use Rattle.model.specs.Reading.{Value, val, cut, Parts, no_parts, cut_off, part}
use Rattle.model.specs.Tracing.{Marks, marks, dots_of, place_limit, meet, marks_with, has, clashes, made, Counted, counted}
use Rattle.growth.specs.Growth.{onward}

-- a place with its number, and its children, each with the step to it, how many samples held it and the last of them
mutual
  pub data Spot : Type 0 where
    spot : (number : ℕ) → Marks → (kind samples : ℕ) → Spots → Spot

  pub data Spots : Type 0 where
    no_spots : Spots
    child : Step → (held mark : ℕ) → Spot → Spots → Spots

abbrev pub num : Spot → ℕ
num (spot p b k m ks) = p

abbrev pub marks_s : Spot → Marks
marks_s (spot p b k m ks) = b

abbrev pub kind_s : Spot → ℕ
kind_s (spot p b k m ks) = k

abbrev pub samples_s : Spot → ℕ
samples_s (spot p b k m ks) = m

abbrev pub below_s : Spot → Spots
below_s (spot p b k m ks) = ks

unfoldable pub steps_s : Spots → List Step
steps_s no_spots = []
steps_s (child s h m u ks) = s ∷ steps_s ks

abbrev pub new_spot : ℕ → Spot
new_spot n = spot n (marks false false) null 0 no_spots

unfoldable pub spot_at : Step → Spots → Spot
spot_at s no_spots = new_spot 0
spot_at s (child r h m u ks) = when same s r then u else spot_at s ks

-- a child counted once in a sample, and then changed
unfoldable pub put_s : Step → ℕ → Spot → Spots → Spots
put_s s sample v no_spots = no_spots
put_s s sample v (child r h m u ks) = when same s r then child r (when eqb m sample then h else onward h) sample v ks else child r h m u (put_s s sample v ks)

unfoldable pub add_s : Step → ℕ → Spots → Spots
add_s s n no_spots = child s 0 0 (new_spot n) no_spots
add_s s n (child r h m u ks) = child r h m u (add_s s n ks)

unfoldable pub make_s : ℕ → Step → ℕ → Spots → Result (Counted Spots)
make_s at s n ks =
    when clashes s (steps_s ks) then refused two_names at
    else when has s (steps_s ks) then counted n ks
    else when ltb n place_limit then counted (n + 1) (add_s s n ks)
    else refused too_many_places at

unfoldable pub make_all_s : ℕ → List Step → ℕ → Spots → Result (Counted Spots)
make_all_s at [] n ks = counted n ks
make_all_s at (s ∷ ss) n ks = make_s at s n ks >>= λ r. make_all_s at ss r.places r.what

-- the number of the sample that a value is, where it is a container
abbrev pub sample_of : ℕ → ℕ → ℕ
sample_of kind samples = when is_container kind then onward samples else samples

unfoldable mutual
  pub walk : ℕ → ℕ → Value → ℕ → Spot → Result (Counted Spot)
  walk options depth (val at b kind positions ps) n u = do
    j ← meet options depth at (kind_s u) kind
    x ← make_all_s at (made kind positions (kind_s u)) n (below_s u)
    q ← walk_parts options depth (sample_of kind (samples_s u)) ps x.places x.what
    counted q.places (spot (num u) (marks_with b (kind_s u) kind (marks_s u)) j (sample_of kind (samples_s u)) q.what)
  walk options depth (cut refusal place) n u = refused refusal place

  pub walk_parts : ℕ → ℕ → ℕ → Parts → ℕ → Spots → Result (Counted Spots)
  walk_parts options depth sample no_parts n ks = counted n ks
  walk_parts options depth sample (cut_off refusal place) n ks = refused refusal place
  walk_parts options depth sample (part at s v ps) n ks = do
    r ← make_s at s n ks
    q ← walk options (depth + dots_of s) v r.places (spot_at s r.what)
    walk_parts options depth sample ps q.places (put_s s sample q.what r.what)

unfoldable pub walk_all : ℕ → List Value → ℕ → Spot → Result (Counted Spot)
walk_all options [] n u = counted n u
walk_all options (v ∷ vs) n u = walk options 0 v n u >>= λ r. walk_all options vs r.places r.what
