-- Laws of what is opened: what each function answers where its callees answered so, and the table that stays sound.
use Rattle.std.specs.Prelude.{◌≡◌, Bool, true, false, List, ℕ, ◌<◌, ◌≤◌, eqb, Result, Ok, Err, Some, None}
use Rattle.std.proofs.Math.Path.{refl}
use Rattle.std.proofs.Common.{sym, ◌∙◌, le_refl, arith}
use Rattle.std.proofs.lemmas.Bool.{false≢true}
use borrow.Author.Tests.{ne_eqb}
use Rattle.logic.specs.Test.{when◌then◌else◌}
use Rattle.logic.specs.laws.Test.{cases}
use Rattle.refusal.specs.declared.Refusal.{Refusal}
use Rattle.refusal.specs.declared.Refusal.TheVariants as F
use Rattle.text.specs.declared.Name.{Name}
use Rattle.text.specs.Name.{bytes_of}
use Rattle.text.specs.Utf8.{is_utf8}
use Rattle.words.specs.Word.{word, IsRow, IsTable}
use Rattle.model.specs.Kinds.{union_kind}
use Rattle.model.specs.Tracing.{place_limit}
use Rattle.shapes.specs.declared.Step.{Step}
use Rattle.shapes.specs.declared.Step.TheVariants as S
use Rattle.shapes.specs.Steps.{field_code, Inside, Good}
use Rattle.places.specs.Layout.{kind_word, step_word, Ready, Sound}
use Rattle.growth.specs.Growth.{Found, Ensured, Made, found, ensuring, confirmed, ensured_by, ensured, making, made, touched, sampled, SoundEnsured}
use Rattle.search.specs.Search.{is_at, find_in, child_at}
use Rattle.kinds.specs.declared.Met.{Met}
use Rattle.kinds.specs.Meeting.{meeting}
use Rattle.places.specs.laws.Layout.{first_below}
use Rattle.search.specs.laws.Search.{find_stands, found_utf8}
use Rattle.shapes.specs.Field.{Field, field_at}
use Rattle.opening.specs.Opening.{held, container_made, variant_held, Opened, Opening, opening, field_held, field_opened, SoundOpened}
use Rattle.growth.specs.laws.Growth.{child_ready, ensured_grows, sound_touched}

-- a container is opened
module _ (options levels before kind place : ℕ) (t : List ℕ) (met : Result Met Refusal) (b : before ≡ word t place kind_word) (m : met ≡ meeting options levels before kind) where
  module _ (text : List ℕ) (positions n : ℕ) where
    pub opens_met : (j : Met) (u v : List ℕ) (did : Made) → met ≡ Ok j → u ≡ sampled place j.kind t →
        making did v ≡ made text place kind positions before n u → making did v ≡ container_made text options levels kind positions place n t
    unfolding container_made
    opens_met j u v did e s d = rw (← b, ← m, e, ← s) d

    pub opens_unmet : (refusal : Refusal) (did : Made) → met ≡ Err refusal → did ≡ Err refusal → making did t ≡ container_made text options levels kind positions place n t
    unfolding container_made
    opens_unmet refusal did e d = rw (← b, ← m, e, d) refl

-- a variant is opened
module _ (text : List ℕ) (options levels before number : ℕ) (name : Name) (place n : ℕ) (t : List ℕ) (met : Result Met Refusal) (b : before ≡ word t place kind_word)
    (m : met ≡ meeting options levels before union_kind) where
  pub holds_met : (j : Met) (u v : List ℕ) (did : Ensured) → met ≡ Ok j → u ≡ sampled place j.kind t →
      ensuring did v ≡ held text place (S.Variant number name) n u → ensuring did v ≡ variant_held text options levels number name place n t
  unfolding variant_held
  holds_met j u v did e s d = rw (← b, ← m, e, ← s) d

  pub holds_unmet : (refusal : Refusal) (did : Ensured) → met ≡ Err refusal → did ≡ Err refusal → ensuring did t ≡ variant_held text options levels number name place n t
  unfolding variant_held
  holds_unmet refusal did e d = rw (← b, ← m, e, d) refl

-- ---- a child held
module _ (text t u : List ℕ) (n place : ℕ) (step : Step) (did : Ensured) (d : ensuring did u ≡ ensured text place step n t) where
  pub held_child : (f : Found) (v : List ℕ) → did ≡ Ok f → v ≡ touched place f.child u → ensuring (Ok f) v ≡ held text place step n t
  unfolding held
  held_child f v e h = rw (← d, e, h) refl

  pub held_refused : (refusal : Refusal) (r : Ensured) → did ≡ Err refusal → r ≡ Err refusal → ensuring r u ≡ held text place step n t
  unfolding held
  held_refused refusal r e p = rw (← d, e, p) refl

-- ---- a field held
module _ (text t : List ℕ) (n place : ℕ) (name : Name) where
  pub field_bad : (good : Bool) → good ≡ is_utf8 (bytes_of text name) → good ≡ false → opening (Err F.BadName) t ≡ field_held text place name n t
  unfolding field_held when◌then◌else◌
  field_bad good g e = rw (← g, e) refl

  module _ (good : is_utf8 (bytes_of text name) ≡ true) (u : List ℕ) (did : Ensured) (d : ensuring did u ≡ ensured text place (S.Field name) n t) where
    pub field_child : (f : Found) (v : List ℕ) → did ≡ Ok f → v ≡ touched place f.child u → opening (Ok (Some f)) v ≡ field_held text place name n t
    unfolding field_held held when◌then◌else◌
    field_child f v e h = rw (good, ← d, e, h) refl

    pub field_full : (refusal : Refusal) (r : Opened) → did ≡ Err refusal → r ≡ Err refusal → opening r u ≡ field_held text place name n t
    unfolding field_held held when◌then◌else◌
    field_full refusal r e p = rw (good, ← d, e, p) refl

  -- a new one
  pub field_new : find_in text place field_code name t ≡ 0 → ensured_by text place field_code name n t 0 ≡ ensured text place (S.Field name) n t
  unfolding ensured child_at
  field_new e = rw e refl

  module _ (absent : find_in text place field_code name t ≡ 0) (good : Bool) (g : good ≡ is_utf8 (bytes_of text name)) (is : good ≡ true) (u : List ℕ)
      (did : Ensured) (d : ensuring did u ≡ ensured_by text place field_code name n t 0) where
    pub new_child : (f : Found) (v : List ℕ) → did ≡ Ok f → v ≡ touched place f.child u → opening (Ok (Some f)) v ≡ field_held text place name n t
    new_child f v e h = field_child (sym g ∙ is) u did (d ∙ field_new absent) f v e h

    pub new_full : (refusal : Refusal) (r : Opened) → did ≡ Err refusal → r ≡ Err refusal → opening r u ≡ field_held text place name n t
    new_full refusal r e p = field_full (sym g ∙ is) u did (d ∙ field_new absent) refusal r e p

  -- one that was found has the name given, and so is UTF-8
  module _ (ready : Ready text t n place) (child : ℕ) (f : child ≡ find_in text place field_code name t) (z : child ≡ 0 → ⊥) where
    stands_there : is_at text field_code name child t ≡ true
    stands_there = rw f (find_stands text t n field_code name ready.sound _ (first_below text t n place _ ready.sound ready.here refl) (rw f at z))

    field_found : ensuring (Ok (found child n)) t ≡ ensured text place (S.Field name) n t
    unfolding ensured ensured_by confirmed child_at is_at when◌then◌else◌
    field_found =
        cases (eqb (word t child step_word) field_code)
        (λ e. let same = rw e at stands_there in rw (← f, ne_eqb child 0 z, same) refl)
        (λ e. absurd (false≢true (rw e at stands_there)))

    pub known_child : (v : List ℕ) → v ≡ touched place child t → opening (Ok (Some (found child n))) v ≡ field_held text place name n t
    known_child v h = field_child (found_utf8 text t n place name ready.sound ready.here (rw f at z)) t (Ok (found child n)) field_found (found child n) v refl h

-- ---- the field that stands there
module _ (commands text : List ℕ) (kind at place n : ℕ) (t : List ℕ) (field : Field) (f : field ≡ field_at commands text kind at) where
  pub opened_named : (name : Name) (o : Opening) → field ≡ Ok (Some name) → o ≡ field_held text place name n t → o ≡ field_opened text place n t (field_at commands text kind at)
  opened_named name o e p = rw (← f, e) p

  pub opened_ended : field ≡ Ok None → opening (Ok None) t ≡ field_opened text place n t (field_at commands text kind at)
  opened_ended e = rw (← f, e) refl

  pub opened_refused : (refusal : Refusal) (r : Opened) → field ≡ Err refusal → r ≡ Err refusal → opening r t ≡ field_opened text place n t (field_at commands text kind at)
  opened_refused refusal r e p = rw (← f, e, p) refl

-- a name that was tested is good
pub tested : (text : List ℕ) (name : Name) (good : Bool) → Inside text name → good ≡ is_utf8 (bytes_of text name) → good ≡ true → Good text name
tested text name good i g e = record { inside = i; utf8 = sym g ∙ e }

-- ---- a child, before and after it is held
module _ (text u : List ℕ) (did : Ensured) (s : SoundEnsured text u did) (f : Found) (e : did ≡ Ok f) where
  child_sound : Sound text u f.count × (f.child < f.count)
  child_sound = rw e at s

  pub child_room : IsTable u
  child_room = child_sound.0.linked.room

  pub child_place : IsRow f.child
  child_place = let b : f.count ≤ place_limit = child_sound.0.linked.most in let h : f.child < f.count = child_sound.1 in omega arith

  pub child_held : (place : ℕ) (v : List ℕ) → v ≡ touched place f.child u → SoundEnsured text v (Ok f)
  child_held place v h = (sound_touched text u v f.count place f.child h child_sound.1 child_sound.0, child_sound.1)

  pub held_ready : Ready text u f.count f.child
  held_ready = child_ready text u did f s e

  -- a field that is new
  pub new_opened : (place n : ℕ) (name : Name) (t v : List ℕ) → find_in text place field_code name t ≡ 0 →
      ensuring did u ≡ ensured_by text place field_code name n t 0 → v ≡ touched place f.child u → SoundOpened text v n (Ok (Some f))
  new_opened place n name t v absent d h =
      let g : Sound text v f.count × (f.child < f.count) = child_held place v h in
      (record { sound = g.0; here = g.1 }, ensured_grows text t n place (S.Field name) did u f (d ∙ field_new text t n place name absent) e)

-- a field that was seen
pub known_opened : (text t v : List ℕ) (n place child : ℕ) → Ready text t n place → child < n → v ≡ touched place child t → SoundOpened text v n (Ok (Some (found child n)))
known_opened text t v n place child ready l h = (record { sound = sound_touched text t v n place child h l ready.sound; here = l }, le_refl n)
