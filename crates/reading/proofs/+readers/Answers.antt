-- The readers call one another in a circle, with the levels left falling.
use Rattle.std.proofs.Common.{rules, arith, ◌∙◌}
use mathlib.Core.Path.{refl, ap}
use native.Mathlib.Nat.{le_refl, le_trans}
use Rattle.logic.specs.laws.Flag.{flagged}
use Rattle.shapes.specs.laws.Shapes.{text_inside, variant_good, parts_parted}
use Rattle.reading.specs.laws.Readers.{contents_unit, contents_value, contents_positions, contents_fields, value_leaf, value_parted, named_parted, unnamed, part_child, part_refused, begun_fits, parted_sequence, parted_struct, parted_refused, parted_leaf, parted_parts, parted_variant, parted_none, container_parts, container_refused, variant_child, variant_refused}
use Rattle.reading.specs.laws.Quick.{quick_read}
use Rattle.leaves.specs.laws.Quick.{quick_none}
use Rattle.reading.specs.laws.Runs.{elements_same}
use Rattle.runs.specs.laws.Runs.{same_above}
use Rattle.reading.specs.laws.Loops.{parts_end, parts_refused, parts_stopped, parts_more, parts_less, parts_counted, count_fits, element_part, elements_more, part_unnamed, element_unnamed, position_unnamed, entry_unnamed, position_part, positions_end, whole_fits, name_fits, name_whole, name_inside, end_fits_lem, fields_ended, fields_refused, fields_stopped, fields_more, fields_less, by_fields, by_elements, by_entries, by_positions}
use Rattle.reading.specs.laws.Sound.{opened_left, chosen_left, falls_parts, falls_contents}
use Rattle.std.specs.Prelude.{◌≡◌, ◌<◌, Ok, Some, None}
use Rattle.shapes.specs.declared.Part.TheVariants as P
use Rattle.reading.proofs.Placed.{placed_ok}
use Rattle.reading.proofs.Steps.{was_next, was_stopped, was_refused_at, was_child, was_no_child, child_here, was_made, was_not_made, was_field, was_end, ended_count, was_no_field, field_here, same_on, below_more, seen_sound, past_sound, quick_kept}
use Rattle.reading.proofs.+readers.Goals as goal

pub read_container-returns-in_err-map_err : goal.read_container-returns-in_err-map_err
read_container-returns-in_err-map_err t c =
    let d = rw c.requires.same_text at c.open_container-made.ensures.made in
    record {
      read = container_refused _ _ _ _ _ _ _ _ _ _ _ _ _ d c.in_err-map_err.field-0.0.refusal _ (was_not_made _ _ _ (search rules)) (was_refused_at _ _ _ _ (search rules));
      same = c.open_container-made.ensures.same;
    }

pub read_container-overflow_sub-levels : goal.read_container-overflow_sub-levels
read_container-overflow_sub-levels t c =
    let made = placed_ok _ _ _ c.map_err.ensures.cases _ c.in_ok-map_err.was in
    opened_left _ _ _ _ _ _ _ _ _ _ c.open_container-made.ensures.made _ (was_made _ _ _ made) c.requires.kind_value

pub read_container-read_parts-requires : goal.read_container-read_parts-requires
read_container-read_parts-requires t c =
    let made = placed_ok _ _ _ c.map_err.ensures.cases _ c.in_ok-map_err.was in
    let left : 0 < c.args.site.levels = opened_left _ _ _ _ _ _ _ _ _ _ c.open_container-made.ensures.made _ (was_made _ _ _ made) c.requires.kind_value in
    let same = c.open_container-made.ensures.same in
    (search (falls_parts, rules), (below_more _ _ _ c.requires.here same.grows, (same.text ∙ c.requires.same_text, c.requires.kind_value)))

pub read_container-returns : goal.read_container-returns
read_container-returns t c =
    let made = placed_ok _ _ _ c.map_err.ensures.cases _ c.in_ok-map_err.was in
    let left = opened_left _ _ _ _ _ _ _ _ _ _ c.open_container-made.ensures.made _ (was_made _ _ _ made) c.requires.kind_value in
    let d = rw c.requires.same_text at c.open_container-made.ensures.made in
    let s = c.read_parts.ensures.same in
    record {
      read = container_parts _ _ _ _ _ _ _ _ _ _ _ _ _ d _ _ (was_made _ _ _ made) left c.read_parts.ensures.read;
      same = same_on _ _ _ c.open_container-made.ensures.same s.text s.table s.grows;
    }

pub read_contents-invariant_of-places : goal.read_contents-invariant_of-places
read_contents-invariant_of-places t c =
    record { sound = seen_sound _ _ _ _ c.args.places.now.sound c.requires.here _ _ _ _ _ _ _ _ (c.observe.ensures _) }

pub read_contents-returns-in-Unit : goal.read_contents-returns-in-Unit
read_contents-returns-in-Unit t c =
    record {
      read = contents_unit _ _ _ _ _ _ _ _ _ _ _ c.in-Unit.is (c.observe.ensures _);
      same = record { text = refl; table = refl; grows = le_refl _ };
    }

pub read_contents-returns-in-Value : goal.read_contents-returns-in-Value
read_contents-returns-in-Value t c = record { read = contents_value _ _ _ _ _ _ _ _ _ _ _ c.in-Value.is c.read_value.ensures.read; same = c.read_value.ensures.same }

pub read_contents-returns-in-Positions : goal.read_contents-returns-in-Positions
read_contents-returns-in-Positions t c =
    record { read = contents_positions _ _ _ _ _ _ _ _ _ _ _ _ c.in-Positions.is c.read_container.ensures.read; same = c.read_container.ensures.same }

pub read_contents-returns-in-Fields : goal.read_contents-returns-in-Fields
read_contents-returns-in-Fields t c =
    let read = c.read_container-in-Fields.ensures in
    record { read = contents_fields _ _ _ _ _ _ _ _ _ _ _ c.in-Fields.is read.read; same = read.same }

pub read_value-invariant_of-places : goal.read_value-invariant_of-places
read_value-invariant_of-places t c =
    let past = past_sound _ _ _ _ c.args.places.now.sound c.requires.here _ _ _ _ c.past_marks-here.ensures in
    record { sound = seen_sound _ _ _ _ past c.requires.here _ _ _ _ _ _ _ _ (c.observe.ensures _) }

pub read_value-invariant_of-places-in-None : goal.read_value-invariant_of-places-in-None
read_value-invariant_of-places-in-None t c =
    record { sound = past_sound _ _ _ _ c.args.places.now.sound c.requires.here _ _ _ _ c.past_marks-here.ensures }

pub read_value-returns-in-Some : goal.read_value-returns-in-Some
read_value-returns-in-Some t c =
    record {
      read = value_leaf _ _ _ _ _ _ _ _ _ c.past_marks-here.ensures _ c.leaf_at.ensures _ _ _ c.in-Some.is _ _ _ (c.observe.ensures _);
      same = record { text = refl; table = refl; grows = le_refl _ };
    }

pub read_value-returns-in-None : goal.read_value-returns-in-None
read_value-returns-in-None t c =
    let s = c.read_parted.ensures.same in
    record {
      read = value_parted _ _ _ _ _ _ _ _ _ c.past_marks-here.ensures _ _ c.read_parted.ensures.read;
      same = record { text = s.text; table = s.table; grows = s.grows };
    }

pub read_named-invariant_of-places : goal.read_named-invariant_of-places
read_named-invariant_of-places t c =
    let past = past_sound _ _ _ _ c.args.places.now.sound c.requires.here _ _ _ _ c.past_marks-here.ensures in
    record { sound = seen_sound _ _ _ _ past c.requires.here _ _ _ _ _ _ _ _ (c.observe.ensures _) }

pub read_named-invariant_of-places-in-None : goal.read_named-invariant_of-places-in-None
read_named-invariant_of-places-in-None t c =
    record { sound = past_sound _ _ _ _ c.args.places.now.sound c.requires.here _ _ _ _ c.past_marks-here.ensures }

pub read_named-returns-in-Some : goal.read_named-returns-in-Some
read_named-returns-in-Some t c =
    record {
      read = value_leaf _ _ _ _ _ _ _ _ _ c.past_marks-here.ensures _ c.leaf_at.ensures _ _ _ c.in-Some.is _ _ _ (c.observe.ensures _);
      same = record { text = refl; table = refl; grows = le_refl _ };
    }

pub read_named-returns-in-None : goal.read_named-returns-in-None
read_named-returns-in-None t c =
    let s = c.read_parted.ensures.same in
    record {
      read = named_parted _ _ _ _ _ _ _ _ _ c.past_marks-here.ensures _ _ _ _ c.lower-levels.ensures c.read_parted.ensures.read;
      same = record { text = s.text; table = s.table; grows = s.grows };
    }

pub read_part-hold-held-requires-clause-good : goal.read_part-hold-held-requires-clause-good
read_part-hold-held-requires-clause-good t c = unnamed _ _ c.requires.unnamed

pub read_part-returns-in_err-place : goal.read_part-returns-in_err-place
read_part-returns-in_err-place t c =
    let d = rw c.requires.same_text at c.hold-held.ensures.ensured in
    record {
      read = part_refused _ _ _ _ _ _ _ _ _ _ _ _ d c.in_err-place.field-0.0.refusal _ (was_no_child _ _ _ (search rules)) (was_refused_at _ _ _ _ (search rules));
      same = c.hold-held.ensures.same;
    }

pub read_part-returns : goal.read_part-returns
read_part-returns t c =
    let held = placed_ok _ _ _ c.map_err.ensures.cases _ c.in_ok-place.was in
    let d = rw c.requires.same_text at c.hold-held.ensures.ensured in
    let s = c.read_value.ensures.same in
    record {
      read = part_child _ _ _ _ _ _ _ _ _ _ _ _ d _ _ _ (was_child _ _ _ held) c.requires.unnamed c.read_value.ensures.read;
      same = same_on _ _ _ c.hold-held.ensures.same s.text s.table s.grows;
    }

pub read_parted-overflow_add-here : goal.read_parted-overflow_add-here
read_parted-overflow_add-here t c = search (begun_fits, rules)

pub read_parted-overflow_add-here-then-begins_at-2 : goal.read_parted-overflow_add-here-then-begins_at-2
read_parted-overflow_add-here-then-begins_at-2 t c = search (begun_fits, rules)

pub read_parted-returns-then-begins_at : goal.read_parted-returns-then-begins_at
read_parted-returns-then-begins_at t c =
    record { read = parted_struct _ _ _ _ _ _ _ _ _ _ c.begins_at.ensures (search rules) c.read_container.ensures.read; same = c.read_container.ensures.same }

pub read_parted-returns-then-begins_at-2 : goal.read_parted-returns-then-begins_at-2
read_parted-returns-then-begins_at-2 t c =
    let read = c.read_container-then-begins_at-2.ensures in
    record { read = parted_sequence _ _ _ _ _ _ _ _ _ _ c.begins_at-2.ensures (search rules) read.read; same = read.same }

pub read_parted-returns-in_err-command : goal.read_parted-returns-in_err-command
read_parted-returns-in_err-command t c =
    record {
      read = parted_refused _ _ _ _ _ _ _ _ _ c.read_command.ensures _ _ c.in_err-command.was (was_stopped _ _ _ (search rules));
      same = record { text = refl; table = refl; grows = le_refl _ };
    }

pub read_parted-shape_of-requires : goal.read_parted-shape_of-requires
read_parted-shape_of-requires t c = search (text_inside, rules)

pub read_parted-invariant_of-places : goal.read_parted-invariant_of-places
read_parted-invariant_of-places t c =
    record { sound = seen_sound _ _ _ _ c.args.places.now.sound c.requires.here _ _ _ _ _ _ _ _ (c.observe.ensures _) }

pub read_parted-read_container-requires-in-Parts : goal.read_parted-read_container-requires-in-Parts
read_parted-read_container-requires-in-Parts t c = (search rules, (c.requires.here, (c.requires.same_text, search (parts_parted, rules))))

pub read_parted-read_variant-requires : goal.read_parted-read_variant-requires
read_parted-read_variant-requires t c =
    let read : c.read_command.result ≡ Ok (c.in_ok-command.command, c.in_ok-command.next) = search rules in
    (search rules, (c.requires.here, (c.requires.same_text, search (variant_good, rules))))

pub read_parted-returns-in-Leaf : goal.read_parted-returns-in-Leaf
read_parted-returns-in-Leaf t c =
    let read : c.read_command.result ≡ Ok (c.in_ok-command.command, c.in_ok-command.next) = search rules in
    record {
      read = parted_leaf _ _ _ _ _ _ _ _ _ c.read_command.ensures _ _ read _ c.shape_of.ensures _ _ _ c.in-Leaf.is (c.observe.ensures _);
      same = record { text = refl; table = refl; grows = le_refl _ };
    }

pub read_parted-returns-in-Parts : goal.read_parted-returns-in-Parts
read_parted-returns-in-Parts t c =
    let read : c.read_command.result ≡ Ok (c.in_ok-command.command, c.in_ok-command.next) = search rules in
    let r = c.read_container-in-Parts.ensures in
    record { read = parted_parts _ _ _ _ _ _ _ _ _ c.read_command.ensures _ _ read _ c.shape_of.ensures _ _ c.in-Parts.is r.read; same = r.same }

pub read_parted-returns-in-Variant : goal.read_parted-returns-in-Variant
read_parted-returns-in-Variant t c =
    let read : c.read_command.result ≡ Ok (c.in_ok-command.command, c.in_ok-command.next) = search rules in
    let r = c.read_variant.ensures in
    record { read = parted_variant _ _ _ _ _ _ _ _ _ c.read_command.ensures _ _ read _ c.shape_of.ensures _ _ _ _ c.in-Variant.is r.read; same = r.same }

pub read_parted-returns-in-NoValue : goal.read_parted-returns-in-NoValue
read_parted-returns-in-NoValue t c =
    let read : c.read_command.result ≡ Ok (c.in_ok-command.command, c.in_ok-command.next) = search rules in
    record {
      read = search (parted_none, rules);
      same = record { text = refl; table = refl; grows = le_refl _ };
    }

pub read_parts-returns-then-is_struct : goal.read_parts-returns-then-is_struct
read_parts-returns-then-is_struct t c =
    let r = c.read_fields.ensures in
    record { read = by_fields _ _ _ _ _ _ _ _ _ _ _ (search (flagged, rules)) r.read; same = r.same }

pub read_parts-returns-then-kind-eq-SEQUENCE : goal.read_parts-returns-then-kind-eq-SEQUENCE
read_parts-returns-then-kind-eq-SEQUENCE t c =
    let r = c.read_elements.ensures in
    record { read = by_elements _ _ _ _ _ _ _ _ _ _ _ (search rules) r.read; same = r.same }

pub read_parts-returns-then-kind-eq-MAP : goal.read_parts-returns-then-kind-eq-MAP
read_parts-returns-then-kind-eq-MAP t c =
    let r = c.read_entries.ensures in
    record { read = by_entries _ _ _ _ _ _ _ _ _ _ _ (search rules) r.read; same = r.same }

pub read_parts-returns : goal.read_parts-returns
read_parts-returns t c =
    let r = c.read_positions.ensures in
    record { read = by_positions _ _ _ _ _ _ _ _ _ _ _ c.requires.kind_value _ c.is_struct.ensures (search rules) (search rules) (search rules) r.read; same = r.same }

pub read_variant-returns-in_err-place : goal.read_variant-returns-in_err-place
read_variant-returns-in_err-place t c =
    let d = rw c.requires.same_text at c.open_variant-held.ensures.ensured in
    record {
      read = variant_refused _ _ _ _ _ _ _ _ _ _ _ _ _ _ d c.in_err-place.field-0.0.refusal _ (was_no_child _ _ _ (search rules)) (was_refused_at _ _ _ _ (search rules));
      same = c.open_variant-held.ensures.same;
    }

pub read_variant-overflow_sub-site : goal.read_variant-overflow_sub-site
read_variant-overflow_sub-site t c =
    let held = placed_ok _ _ _ c.map_err.ensures.cases _ c.in_ok-place.was in
    chosen_left _ _ _ _ _ _ _ _ _ _ c.open_variant-held.ensures.ensured _ (was_child _ _ _ held)

pub read_variant-read_contents-requires : goal.read_variant-read_contents-requires
read_variant-read_contents-requires t c =
    let held = placed_ok _ _ _ c.map_err.ensures.cases _ c.in_ok-place.was in
    let left : 0 < c.args.site.levels = chosen_left _ _ _ _ _ _ _ _ _ _ c.open_variant-held.ensures.ensured _ (was_child _ _ _ held) in
    let o = c.open_variant-held.ensures in
    (search (falls_contents, rules), (child_here _ _ _ held o.here, o.same.text ∙ c.requires.same_text))

pub read_variant-returns : goal.read_variant-returns
read_variant-returns t c =
    let held = placed_ok _ _ _ c.map_err.ensures.cases _ c.in_ok-place.was in
    let left = chosen_left _ _ _ _ _ _ _ _ _ _ c.open_variant-held.ensures.ensured _ (was_child _ _ _ held) in
    let d = rw c.requires.same_text at c.open_variant-held.ensures.ensured in
    let s = c.read_contents.ensures.same in
    record {
      read = variant_child _ _ _ _ _ _ _ _ _ _ _ _ _ _ d _ _ _ _ (was_child _ _ _ held) left c.lower-levels.ensures c.read_contents.ensures.read;
      same = same_on _ _ _ c.open_variant-held.ensures.same s.text s.table s.grows;
    }

pub read_elements-returns-in_err-next : goal.read_elements-returns-in_err-next
read_elements-returns-in_err-next t c =
    let inv = c.loop-next.invariant in
    record { read = parts_refused _ _ _ _ _ _ _ _ _ _ _ _ inv.rest _ (element_part _ _ _ _ c.element_part.ensures) _ _ c.in_err-next.was (was_stopped _ _ _ (search rules)); same = inv.same }

pub read_elements-returns-in-Ended : goal.read_elements-returns-in-Ended
read_elements-returns-in-Ended t c =
    let inv = c.loop-next.invariant in
    let ended : c.element_part.result ≡ Ok (P.Ended c.in-Ended.next) = search rules in
    record { read = parts_end _ _ _ _ _ _ _ _ _ _ _ _ inv.rest _ (element_part _ _ _ _ c.element_part.ensures) _ ended; same = inv.same }

pub read_elements-read_part-requires : goal.read_elements-read_part-requires
read_elements-read_part-requires t c =
    let inv = c.loop-next.invariant in
    let step : c.element_part.result ≡ Ok (P.Step c.in-Step.step c.in-Step.value) = search rules in
    (search rules, (inv.here, (inv.text, part_unnamed c.args.batch.now.commands.now c.loop-next.at _ _ _ c.element_part.ensures element_unnamed _ _ step)))

pub read_elements-returns-in_err-next-in-Step : goal.read_elements-returns-in_err-next-in-Step
read_elements-returns-in_err-next-in-Step t c =
    let inv = c.loop-next.invariant in
    let step : c.element_part.result ≡ Ok (P.Step c.in-Step.step c.in-Step.value) = search rules in
    let read = c.read_part.ensures in
    record {
      read = parts_stopped _ _ _ _ _ _ _ _ _ _ _ _ inv.rest _ (element_part _ _ _ _ c.element_part.ensures) _ _ step _ _ read.read _ _ (was_stopped _ _ _ c.in_err-next-in-Step.was) (was_stopped _ _ _ (search rules));
      same = same_on _ _ _ inv.same read.same.text read.same.table read.same.grows;
    }

pub read_elements-loop-next-smaller : goal.read_elements-loop-next-smaller
read_elements-loop-next-smaller t c =
    let inv = c.loop-next.invariant in
    let part = element_part _ _ _ _ c.element_part.ensures in
    let step : c.element_part.result ≡ Ok (P.Step c.in-Step.step c.in-Step.value) = search rules in
    let read = c.read_part.ensures in
    let next = was_next _ _ _ c.in_ok-next-in-Step.was in
    parts_less _ _ _ _ _ _ _ _ _ _ _ _ inv.rest _ part _ _ step _ _ read.read _ _ next _ (same_above _ _ _ _ _ c.past_same-at.ensures)

pub read_elements-loop-next-preserved : goal.read_elements-loop-next-preserved
read_elements-loop-next-preserved t c =
    let inv = c.loop-next.invariant in
    let part = element_part _ _ _ _ c.element_part.ensures in
    let step : c.element_part.result ≡ Ok (P.Step c.in-Step.step c.in-Step.value) = search rules in
    let read = c.read_part.ensures in
    let next = was_next _ _ _ c.in_ok-next-in-Step.was in
    let more = elements_more _ _ _ _ _ _ _ _ _ inv.rest _ part _ _ step _ _ read.read _ _ next in
    record {
      rest = elements_same _ _ _ _ _ _ _ _ _ _ c.past_same-at.ensures more;
      here = below_more _ _ _ inv.here read.same.grows;
      text = read.same.text ∙ inv.text;
      same = same_on _ _ _ inv.same read.same.text read.same.table read.same.grows;
    }

pub read_entries-returns-in_err-next : goal.read_entries-returns-in_err-next
read_entries-returns-in_err-next t c =
    let inv = c.loop-next.invariant.0 in
    record { read = parts_refused _ _ _ _ _ _ _ _ _ _ _ _ inv.rest _ (c.entry_part.ensures) _ _ c.in_err-next.was (was_stopped _ _ _ (search rules)); same = inv.same }

pub read_entries-returns-in-Ended : goal.read_entries-returns-in-Ended
read_entries-returns-in-Ended t c =
    let inv = c.loop-next.invariant.0 in
    let ended : c.entry_part.result ≡ Ok (P.Ended c.in-Ended.next) = search rules in
    record { read = parts_end _ _ _ _ _ _ _ _ _ _ _ _ inv.rest _ (c.entry_part.ensures) _ ended; same = inv.same }

pub read_entries-read_part-requires : goal.read_entries-read_part-requires
read_entries-read_part-requires t c =
    let inv = c.loop-next.invariant.0 in
    let step : c.entry_part.result ≡ Ok (P.Step c.in-Step.step c.in-Step.value) = search rules in
    (search rules, (inv.here, (inv.text, entry_unnamed _ _ _ _ _ c.entry_part.ensures _ _ step)))

pub read_entries-returns-in_err-at-in-Step : goal.read_entries-returns-in_err-at-in-Step
read_entries-returns-in_err-at-in-Step t c =
    let inv = c.loop-next.invariant.0 in
    let step : c.entry_part.result ≡ Ok (P.Step c.in-Step.step c.in-Step.value) = search rules in
    let read = c.read_part.ensures in
    record {
      read = parts_stopped _ _ _ _ _ _ _ _ _ _ _ _ inv.rest _ (c.entry_part.ensures) _ _ step _ _ read.read _ _ (was_stopped _ _ _ c.in_err-at-in-Step.was) (was_stopped _ _ _ (search rules));
      same = same_on _ _ _ inv.same read.same.text read.same.table read.same.grows;
    }

pub read_entries-overflow_add-i : goal.read_entries-overflow_add-i
read_entries-overflow_add-i t c =
    let inv = c.loop-next.invariant.0 in
    let part = c.entry_part.ensures in
    let step : c.entry_part.result ≡ Ok (P.Step c.in-Step.step c.in-Step.value) = search rules in
    let read = c.read_part.ensures in
    let next = was_next _ _ _ c.in_ok-at-in-Step.was in
    record { fits = count_fits _ _ _ _ _ _ _ _ _ _ _ _ inv.rest _ part _ _ step _ _ read.read _ _ next _ (search rules) (search rules) }

pub read_entries-loop-next-smaller : goal.read_entries-loop-next-smaller
read_entries-loop-next-smaller t c =
    let inv = c.loop-next.invariant.0 in
    let part = c.entry_part.ensures in
    let step : c.entry_part.result ≡ Ok (P.Step c.in-Step.step c.in-Step.value) = search rules in
    let read = c.read_part.ensures in
    let next = was_next _ _ _ c.in_ok-at-in-Step.was in
    parts_less _ _ _ _ _ _ _ _ _ _ _ _ inv.rest _ part _ _ step _ _ read.read _ _ next _ (le_refl _)

pub read_entries-loop-next-preserved : goal.read_entries-loop-next-preserved
read_entries-loop-next-preserved t c =
    let inv = c.loop-next.invariant.0 in
    let part = c.entry_part.ensures in
    let step : c.entry_part.result ≡ Ok (P.Step c.in-Step.step c.in-Step.value) = search rules in
    let read = c.read_part.ensures in
    let next = was_next _ _ _ c.in_ok-at-in-Step.was in
    let more = parts_more _ _ _ _ _ _ _ _ _ _ _ _ inv.rest _ part _ _ step _ _ read.read _ _ next in
    let counted = parts_counted _ _ _ _ _ _ _ _ _ _ _ _ inv.rest _ part _ _ step _ _ read.read _ _ next _ (le_refl _) (search rules) in (
      record {
        rest = more;
        here = below_more _ _ _ inv.here read.same.grows;
        text = read.same.text ∙ inv.text;
        same = same_on _ _ _ inv.same read.same.text read.same.table read.same.grows;
      },
      counted,
    )

pub read_positions-returns-in_err-next : goal.read_positions-returns-in_err-next
read_positions-returns-in_err-next t c =
    let inv = c.loop-i.invariant.0 in
    record { read = parts_refused _ _ _ _ _ _ _ _ _ _ _ _ inv.rest _ (position_part _ _ _ _ _ _ (search rules) c.value_part.ensures) _ _ c.in_err-next.was (was_stopped _ _ _ (search rules)); same = inv.same }

pub read_positions-returns-in-Ended : goal.read_positions-returns-in-Ended
read_positions-returns-in-Ended t c =
    let inv = c.loop-i.invariant.0 in
    let ended : c.value_part.result ≡ Ok (P.Ended c.in-Ended.next) = search rules in
    record { read = parts_end _ _ _ _ _ _ _ _ _ _ _ _ inv.rest _ (position_part _ _ _ _ _ _ (search rules) c.value_part.ensures) _ ended; same = inv.same }

pub read_positions-read_part-requires : goal.read_positions-read_part-requires
read_positions-read_part-requires t c =
    let inv = c.loop-i.invariant.0 in
    let step : c.value_part.result ≡ Ok (P.Step c.in-Step.step c.in-Step.value) = search rules in
    (search rules, (inv.here, (inv.text, part_unnamed c.args.batch.now.commands.now c.loop-i.at _ _ _ c.value_part.ensures (position_unnamed c.loop-i.i) _ _ step)))

pub read_positions-returns-in_err-at-in-Step : goal.read_positions-returns-in_err-at-in-Step
read_positions-returns-in_err-at-in-Step t c =
    let inv = c.loop-i.invariant.0 in
    let step : c.value_part.result ≡ Ok (P.Step c.in-Step.step c.in-Step.value) = search rules in
    let read = c.read_part.ensures in
    record {
      read = parts_stopped _ _ _ _ _ _ _ _ _ _ _ _ inv.rest _ (position_part _ _ _ _ _ _ (search rules) c.value_part.ensures) _ _ step _ _ read.read _ _ (was_stopped _ _ _ c.in_err-at-in-Step.was) (was_stopped _ _ _ (search rules));
      same = same_on _ _ _ inv.same read.same.text read.same.table read.same.grows;
    }

pub read_positions-loop-i-smaller : goal.read_positions-loop-i-smaller
read_positions-loop-i-smaller t c =
    let inv = c.loop-i.invariant.0 in
    let part = position_part _ _ _ _ _ _ (search rules) c.value_part.ensures in
    let step : c.value_part.result ≡ Ok (P.Step c.in-Step.step c.in-Step.value) = search rules in
    let read = c.read_part.ensures in
    let next = was_next _ _ _ c.in_ok-at-in-Step.was in
    parts_less _ _ _ _ _ _ _ _ _ _ _ _ inv.rest _ part _ _ step _ _ read.read _ _ next _ (le_refl _)

pub read_positions-loop-i-preserved : goal.read_positions-loop-i-preserved
read_positions-loop-i-preserved t c =
    let inv = c.loop-i.invariant.0 in
    let part = position_part _ _ _ _ _ _ (search rules) c.value_part.ensures in
    let step : c.value_part.result ≡ Ok (P.Step c.in-Step.step c.in-Step.value) = search rules in
    let read = c.read_part.ensures in
    let next = was_next _ _ _ c.in_ok-at-in-Step.was in
    let more = parts_more _ _ _ _ _ _ _ _ _ _ _ _ inv.rest _ part _ _ step _ _ read.read _ _ next in (
      record {
        rest = more;
        here = below_more _ _ _ inv.here read.same.grows;
        text = read.same.text ∙ inv.text;
        same = same_on _ _ _ inv.same read.same.text read.same.table read.same.grows;
      },
      search rules,
    )

pub read_positions-returns : goal.read_positions-returns
read_positions-returns t c =
    let inv = c.loop-i.invariant.0 in
    record { read = parts_end _ _ _ _ _ _ _ _ _ _ _ _ inv.rest _ (positions_end _ _ _ _ _ (search rules)) _ refl; same = inv.same }

pub read_fields-overflow_add-result : goal.read_fields-overflow_add-result
read_fields-overflow_add-result t c =
    let is = c.requires.kind_value in
    let inv = c.loop-child.invariant in
    let field = c.open_field.ensures in
    let d = rw inv.text at field.opened in
    let opened = placed_ok _ _ _ c.map_err.ensures.cases _ c.in_ok-child.was in
    let ended : c.open_field.result ≡ Ok None = search rules in
    let end = was_end _ _ ended in
    record { fits = end_fits_lem _ _ _ _ _ _ _ _ _ is _ inv.rest _ _ d end _ (search rules) }

pub read_fields-returns : goal.read_fields-returns
read_fields-returns t c =
    let is = c.requires.kind_value in
    let inv = c.loop-child.invariant in
    let field = c.open_field.ensures in
    let d = rw inv.text at field.opened in
    let opened = placed_ok _ _ _ c.map_err.ensures.cases _ c.in_ok-child.was in
    let ended : c.open_field.result ≡ Ok None = search rules in
    let end = was_end _ _ ended in
    record { read = rw (ended_count _ _ _ field.still ended) (fields_ended _ _ _ _ _ _ _ _ _ is _ inv.rest _ _ d end); same = same_on _ _ _ inv.same field.same.text field.same.table field.same.grows }

pub read_fields-returns-in_err-child : goal.read_fields-returns-in_err-child
read_fields-returns-in_err-child t c =
    let is = c.requires.kind_value in
    let inv = c.loop-child.invariant in
    let field = c.open_field.ensures in
    let d = rw inv.text at field.opened in
    record {
      read = fields_refused _ _ _ _ _ _ _ _ _ is _ inv.rest _ _ d c.in_err-child.field-0.0.refusal _ (was_no_field _ _ _ (search rules)) (was_refused_at _ _ _ _ (search rules));
      same = same_on _ _ _ inv.same field.same.text field.same.table field.same.grows;
    }

pub read_fields-overflow_add-at : goal.read_fields-overflow_add-at
read_fields-overflow_add-at t c =
    let is = c.requires.kind_value in
    let inv = c.loop-child.invariant in
    let field = c.open_field.ensures in
    let d = rw inv.text at field.opened in
    let there = placed_ok _ _ _ c.map_err.ensures.cases _ c.in_ok-child.was ∙ ap Ok c.in-Some.is in
    let child = was_field _ _ _ there in
    record { fits = whole_fits _ _ _ _ _ _ _ _ _ is _ inv.rest _ _ d _ _ child _ (search rules) }

pub read_fields-invariant_of-places : goal.read_fields-invariant_of-places
read_fields-invariant_of-places t c =
    let is = c.requires.kind_value in
    let inv = c.loop-child.invariant in
    let field = c.open_field.ensures in
    let d = rw inv.text at field.opened in
    let there = placed_ok _ _ _ c.map_err.ensures.cases _ c.in_ok-child.was ∙ ap Ok c.in-Some.is in
    record {
      sound = quick_kept _ _ _ _ _ _ _ _ _ c.past_quick.ensures.value _ (field.same.text ∙ inv.text) c.open_field.new.places.sound (field_here _ _ _ there field.here);
    }

pub read_fields-loop-child-smaller-in-Some-past_quick : goal.read_fields-loop-child-smaller-in-Some-past_quick
read_fields-loop-child-smaller-in-Some-past_quick t c =
    let is = c.requires.kind_value in
    let inv = c.loop-child.invariant in
    let field = c.open_field.ensures in
    let d = rw inv.text at field.opened in
    let there = placed_ok _ _ _ c.map_err.ensures.cases _ c.in_ok-child.was ∙ ap Ok c.in-Some.is in
    let child = was_field _ _ _ there in
    let passed : c.past_quick.result ≡ Some c.in-Some-past_quick.next = search rules in
    let onward = rw passed at c.past_quick.ensures.onward in
    let quick = rw passed at c.past_quick.ensures.value in
    let some : c.in-Some-past_quick.next ≡ 0 → ⊥ = grind arith in
    let read = quick_read _ _ _ _ _ _ _ _ _ quick some _ in
    fields_less _ _ _ _ _ _ _ _ _ is _ inv.rest _ _ d _ _ child _ refl _ _ read _ _ refl

pub read_fields-loop-child-preserved-in-Some-past_quick : goal.read_fields-loop-child-preserved-in-Some-past_quick
read_fields-loop-child-preserved-in-Some-past_quick t c =
    let is = c.requires.kind_value in
    let inv = c.loop-child.invariant in
    let field = c.open_field.ensures in
    let d = rw inv.text at field.opened in
    let there = placed_ok _ _ _ c.map_err.ensures.cases _ c.in_ok-child.was ∙ ap Ok c.in-Some.is in
    let child = was_field _ _ _ there in
    let passed : c.past_quick.result ≡ Some c.in-Some-past_quick.next = search rules in
    let onward = rw passed at c.past_quick.ensures.onward in
    let quick = rw passed at c.past_quick.ensures.value in
    let some : c.in-Some-past_quick.next ≡ 0 → ⊥ = grind arith in
    let read = quick_read _ _ _ _ _ _ _ _ _ quick some _ in
    record {
      rest = fields_more _ _ _ _ _ _ _ _ _ is _ inv.rest _ _ d _ _ child _ refl _ _ read _ _ refl;
      here = below_more _ _ _ inv.here field.same.grows;
      text = field.same.text ∙ inv.text;
      same = same_on _ _ _ inv.same field.same.text field.same.table field.same.grows;
    }

pub read_fields-overflow_add-at-in_default-past_quick : goal.read_fields-overflow_add-at-in_default-past_quick
read_fields-overflow_add-at-in_default-past_quick t c =
    let is = c.requires.kind_value in
    let inv = c.loop-child.invariant in
    let field = c.open_field.ensures in
    let d = rw inv.text at field.opened in
    let there = placed_ok _ _ _ c.map_err.ensures.cases _ c.in_ok-child.was ∙ ap Ok c.in-Some.is in
    let child = was_field _ _ _ there in
    record { fits = name_fits _ _ _ _ _ _ _ _ _ is _ inv.rest _ _ d _ _ child _ (search rules) }

pub read_fields-read_name-name-requires : goal.read_fields-read_name-name-requires
read_fields-read_name-name-requires t c =
    let is = c.requires.kind_value in
    let inv = c.loop-child.invariant in
    let field = c.open_field.ensures in
    let d = rw inv.text at field.opened in
    let there = placed_ok _ _ _ c.map_err.ensures.cases _ c.in_ok-child.was ∙ ap Ok c.in-Some.is in
    let child = was_field _ _ _ there in
    name_whole _ _ _ _ _ _ _ _ _ is _ inv.rest _ _ d _ _ child

pub read_fields-overflow_add-at-in_default-past_quick-2 : goal.read_fields-overflow_add-at-in_default-past_quick-2
read_fields-overflow_add-at-in_default-past_quick-2 t c =
    let is = c.requires.kind_value in
    let inv = c.loop-child.invariant in
    let field = c.open_field.ensures in
    let d = rw inv.text at field.opened in
    let there = placed_ok _ _ _ c.map_err.ensures.cases _ c.in_ok-child.was ∙ ap Ok c.in-Some.is in
    let child = was_field _ _ _ there in
    record { fits = whole_fits _ _ _ _ _ _ _ _ _ is _ inv.rest _ _ d _ _ child _ (search rules) }

pub read_fields-read_named-requires : goal.read_fields-read_named-requires
read_fields-read_named-requires t c =
    let is = c.requires.kind_value in
    let inv = c.loop-child.invariant in
    let field = c.open_field.ensures in
    let d = rw inv.text at field.opened in
    let there = placed_ok _ _ _ c.map_err.ensures.cases _ c.in_ok-child.was ∙ ap Ok c.in-Some.is in
    let child = was_field _ _ _ there in
    let inside = name_inside _ _ _ _ _ _ _ _ _ is _ inv.rest _ _ d _ _ child _ c.read_name-name.ensures in
    (search rules, (field_here _ _ _ there field.here, (field.same.text ∙ inv.text, inside)))

pub read_fields-returns-in_err-at : goal.read_fields-returns-in_err-at
read_fields-returns-in_err-at t c =
    let is = c.requires.kind_value in
    let inv = c.loop-child.invariant in
    let field = c.open_field.ensures in
    let d = rw inv.text at field.opened in
    let there = placed_ok _ _ _ c.map_err.ensures.cases _ c.in_ok-child.was ∙ ap Ok c.in-Some.is in
    let child = was_field _ _ _ there in
    let passed : c.past_quick.result ≡ None = search rules in
    let same = quick_none _ _ _ _ _ _ _ _ refl (rw passed at c.past_quick.ensures.value) in
    let name = c.read_name-name.ensures in
    let read = c.read_named.ensures in
    let q = rw same at read.read in
    record {
      read = fields_stopped _ _ _ _ _ _ _ _ _ is _ inv.rest _ _ d _ _ child _ name _ _ q _ _ (was_stopped _ _ _ c.in_err-at.was) (was_stopped _ _ _ (search rules));
      same = same_on _ _ _ inv.same (read.same.text ∙ field.same.text) (read.same.table ∙ field.same.table) (le_trans field.same.grows read.same.grows);
    }

pub read_fields-loop-child-smaller : goal.read_fields-loop-child-smaller
read_fields-loop-child-smaller t c =
    let is = c.requires.kind_value in
    let inv = c.loop-child.invariant in
    let field = c.open_field.ensures in
    let d = rw inv.text at field.opened in
    let there = placed_ok _ _ _ c.map_err.ensures.cases _ c.in_ok-child.was ∙ ap Ok c.in-Some.is in
    let child = was_field _ _ _ there in
    let passed : c.past_quick.result ≡ None = search rules in
    let same = quick_none _ _ _ _ _ _ _ _ refl (rw passed at c.past_quick.ensures.value) in
    let name = c.read_name-name.ensures in
    let read = c.read_named.ensures in
    let q = rw same at read.read in
    fields_less _ _ _ _ _ _ _ _ _ is _ inv.rest _ _ d _ _ child _ name _ _ q _ _ (was_next _ _ _ c.in_ok-at.was)

pub read_fields-loop-child-preserved : goal.read_fields-loop-child-preserved
read_fields-loop-child-preserved t c =
    let is = c.requires.kind_value in
    let inv = c.loop-child.invariant in
    let field = c.open_field.ensures in
    let d = rw inv.text at field.opened in
    let there = placed_ok _ _ _ c.map_err.ensures.cases _ c.in_ok-child.was ∙ ap Ok c.in-Some.is in
    let child = was_field _ _ _ there in
    let passed : c.past_quick.result ≡ None = search rules in
    let same = quick_none _ _ _ _ _ _ _ _ refl (rw passed at c.past_quick.ensures.value) in
    let name = c.read_name-name.ensures in
    let read = c.read_named.ensures in
    let q = rw same at read.read in
    record {
      rest = fields_more _ _ _ _ _ _ _ _ _ is _ inv.rest _ _ d _ _ child _ name _ _ q _ _ (was_next _ _ _ c.in_ok-at.was);
      here = below_more _ _ _ inv.here (le_trans field.same.grows read.same.grows);
      text = read.same.text ∙ (field.same.text ∙ inv.text);
      same = same_on _ _ _ inv.same (read.same.text ∙ field.same.text) (read.same.table ∙ field.same.table) (le_trans field.same.grows read.same.grows);
    }
