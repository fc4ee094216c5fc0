-- Which places are widened: what is said is in specs/Widened.antt.
use Rattle.equality.specs.Widened.{place_at, marks_in, WidenedPlaces}
use Rattle.std.specs.Prelude.{◌≡◌, ◌&&◌, List, ℕ, eqb}
use Rattle.std.proofs.Common.{ap, ◌∙◌}
use Rattle.logic.specs.Test.{when◌then◌else◌}
use Rattle.logic.specs.laws.Test.{cases}
use Rattle.options.specs.Word.{enums_without_data_as_strings}
use Rattle.model.specs.Kinds.{union_kind}
use Rattle.model.specs.Tracing.{Marks}
use Rattle.model.specs.Emission.{Place, shown, dataless, place_of, field_of}
use Rattle.equality.specs.laws.emission.Fields.{marks_at}
use Rattle.equality.specs.laws.census.Marks.{place_widened, container_unwidened, widened_place}

-- a field has the marks of its place
field_marks : (options : ℕ) (name : List ℕ) (number : ℕ) (c : Place) → marks_in (field_of options name number c) ≡ marks_at c
unfolding field_of when◌then◌else◌
field_marks options name number (shown m kind ps) =
    cases (eqb kind union_kind && dataless ps && enums_without_data_as_strings options) (λ e. rw e) (λ e. rw e)

pub widened_places : WidenedPlaces
widened_places =
    record {
      seen = λ options values tree steps e. place_widened options values tree steps e;
      container = λ options values tree steps e c. container_unwidened options values tree steps e c;
      field = λ options values tree steps e c name number missing.
          ap (λ (m : Marks). m.widened) (field_marks options name number (place_of missing (place_at steps tree)))
          ∙ widened_place missing (place_at steps tree) ∙ container_unwidened options values tree steps e c;
    }
