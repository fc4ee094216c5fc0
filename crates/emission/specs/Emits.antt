-- What an answer of emission over the words is beside the model's: the same refusal, both buffers untouched, or the model's counts, records
-- and names, where there is room for them.
use Rattle.std.specs.Prelude.{Ok, Err, ◌≡◌, ◌||◌, List, ◌++◌, ℕ, ◌*◌, ltb, length, drop}
use Rattle.logic.specs.Test.{when◌then◌else◌}
use Rattle.refusal.specs.Number.{number_of}
use Rattle.refusal.specs.declared.Refusal.{Refusal}
use Rattle.refusal.specs.declared.Refusal.TheVariants as F
use Rattle.model.specs.Result.{Result, accepted, refused}
use Rattle.model.specs.Emission.{Fields, records_in, names_in, columns_in, count_in}
use Rattle.walk.specs.Walk.{counts}
use Rattle.schema.specs.Emit.{Answered, answered}

-- an answer is the model's: its refusal with both buffers untouched, or its records and names where there is room for them
abbrev pub Finishes : List ℕ → List ℕ → ℕ → ℕ → ℕ → Result Fields → Answered → Type 0
Finishes fields names records bytes columns (refused m at) a =
    (x : Refusal) × (number_of x ≡ m) × (a ≡ answered (Err x) fields names)
Finishes fields names records bytes columns (accepted fs) a =
    a ≡ (when ltb (length fields) (records * 8) || ltb (length names) bytes then answered (Err F.ShortBuffer) fields names
    else answered (Ok (counts records bytes columns))
    (records_in fs ++ drop (length (records_in fs)) fields) (names_in fs ++ drop (length (names_in fs)) names))

-- an answer is what the model's emission says, with the model's counts
abbrev pub Emits : List ℕ → List ℕ → Result Fields → Answered → Type 0
Emits fields names (refused number place) = Finishes fields names 0 0 0 (refused number place)
Emits fields names (accepted schema) =
    Finishes fields names (count_in schema) (length (names_in schema)) (columns_in schema) (accepted schema)
