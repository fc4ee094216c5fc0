-- `trace` clears the table first, and so lends a sound one.
use Rattle.std.proofs.Common.{rules, ◌≡◌, List, ℕ}
use Rattle.words.specs.Word.{zeros}
use Rattle.places.specs.Layout.{Sound}
use Rattle.places.specs.laws.Layout.{sound_zeros}
use Rattle.samples_vectors.proofs.trace.Goals as goal

sound : (text u : List ℕ) → u ≡ zeros → Sound text u 1
sound text u e = rw e (sound_zeros text)

pub from_samples-requires : goal.from_samples-requires
from_samples-requires g c = search (sound, rules)
