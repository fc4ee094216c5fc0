-- `add` appends a child, gives it its tag and enters it into the search tree, where there is room.
use Rattle.std.proofs.Common.{◌≡◌, ℕ, ◌+◌, ◌<◌, ◌≤◌, List, Ok, Err, ◌∙◌, arith, rules, le-leb}
use borrow.Author.Tests.{lt-leb}
use Rattle.logic.specs.Test.{when◌then◌else◌}
use Rattle.refusal.specs.declared.Refusal.TheVariants as F
use Rattle.text.specs.declared.Name.{Name}
use Rattle.text.specs.Name.{bytes_of}
use Rattle.text.specs.Tag.{tag_of}
use Rattle.words.specs.Word.{with_word}
use Rattle.model.specs.Tracing.{place_limit}
use Rattle.shapes.specs.Steps.{Good}
use Rattle.places.specs.Layout.{tag_word, position_word, Sound, Ready}
use Rattle.growth.specs.Growth.{found, last_child, appended, appended_behind, position_behind, tagged, ensuring, ensured_by, entered}
use Rattle.growth.specs.laws.Growth.{last_small, position_last, appended_last, sound_tagged, sound_entered}
use Rattle.growth.proofs.add.Goals as goal

module _ (text t : List ℕ) (n place code : ℕ) (name : Name) where
  full : place_limit ≤ n → ensuring (Err F.TooManyPlaces) t ≡ ensured_by text place code name n t 0
  unfolding ensured_by when◌then◌else◌
  full m = rw (le-leb place_limit n m)

  module _ (ready : Ready text t n place) (u v x w : List ℕ) (tag position : ℕ) (room : n < place_limit)
      (i : position ≡ position_behind (last_child place t) t) (a : u ≡ appended_behind place code name n t)
      (b : tag ≡ tag_of (bytes_of text name)) (d : v ≡ with_word u n tag_word tag) (g : x ≡ with_word v n position_word position) (f : w ≡ entered place code n x) where
    is_appended : u ≡ appended place code name n t
    is_appended = a ∙ appended_last place code n name t (last_small text t n place ready)

    new : ensuring (Ok (found n (n + 1))) w ≡ ensured_by text place code name n t 0
    unfolding ensured_by tagged when◌then◌else◌
    new = rw (lt-leb place_limit n room, f, g, i ∙ position_last place t (last_small text t n place ready), d, b, is_appended)

    sound : Good text name → name.length < 65536 → Sound text w (n + 1)
    unfolding tagged
    sound good h =
        sound_entered text x w n place code f ready.here room (sound_tagged text t n place ready room code name good h x position (rw (g, d, b, is_appended)))

pub returns-then-places-ge-PLACES : goal.returns-then-places-ge-PLACES
returns-then-places-ge-PLACES c = record { ensured = search (full, rules); here = tt; same = record { text = search rules; table = search rules; grows = omega arith } }

pub invariant_of-places : goal.invariant_of-places
invariant_of-places c =
    let s = c.new-child.ensures in
    let short : c.args.name.length < 65536 = search rules in
    record {
      sound = sound _ _ _ _ _ _ (record { sound = c.args.places.now.sound; here = c.requires.here }) _ _ _ _ _ _ (search rules)
          c.next_position-position.ensures (rw s at c.append.ensures) c.tag-tag.ensures (rw s at c.set.ensures) (rw s at c.set-2.ensures) (rw s at c.enter.ensures)
          c.requires.good short;
    }

pub returns : goal.returns
returns c =
    let s = c.new-child.ensures in
    record {
      ensured = rw s (new _ _ _ _ _ _ (record { sound = c.args.places.now.sound; here = c.requires.here }) _ _ _ _ _ _ (search rules)
          c.next_position-position.ensures (rw s at c.append.ensures) c.tag-tag.ensures (rw s at c.set.ensures) (rw s at c.set-2.ensures) (rw s at c.enter.ensures));
      here = search rules;
      same = record { text = search rules; table = search rules; grows = omega arith };
    }
