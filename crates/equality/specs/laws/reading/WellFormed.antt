-- Refusals 4, 5 and 6 are those of reading: a batch that is read through never meets them, and what is accepted was read through.
use Rattle.std.specs.Prelude.{◌≡◌, refl, Bool, true, false, not, ◌&&◌, ◌||◌, List, [], ◌∷◌, ℕ, ◌+◌, eqb, leb, ltb, length}
use Rattle.std.proofs.Common.{sym, ap, ◌∙◌, true≢false, arith, ne_eqb}
use Rattle.std.proofs.lemmas.Bool.{false≢true}
use Rattle.std.proofs.Math.Option.{Option, none, some}
use Rattle.logic.specs.laws.Test.{cases}
use Rattle.datatype.specs.Codes.{null}
use Rattle.refusal.specs.Number.{bad_command, bad_name, bad_key, no_joint}
use Rattle.coerce.specs.Joint.{joint}
use Rattle.model.specs.Result.{Result, accepted, refused, ◌>>=◌, or_refused}
use Rattle.model.specs.Kinds.{is_container, Step}
use Rattle.model.specs.Reading.{Value, val, cut, Parts, no_parts, cut_off, part, values, is_whole, are_whole, all_whole}
use Rattle.model.specs.Tracing.{Tree, Kids, kind_of, kids_of, fresh, dots_of, depth_limit, place_limit, same_container, meet, steps_of, has, kid_at, put, clashes, room, made, Counted, make, observe, observe_parts, observe_all, trace}
use Rattle.model.specs.Emission.{Fields, to_schema}
use Rattle.model.specs.Answer.{Batch, schema_of}
use Rattle.equality.specs.laws.tracing.Refusals.{Between, schema_between}
use Rattle.equality.specs.laws.reading.Records.{values_proper}
use Rattle.equality.specs.laws.Base.{choice}
use Rattle.equality.specs.laws.Proper.{all_proper}

-- a refusal of reading: 4, 5 or 6
abbrev pub of_reading : ℕ → Bool
of_reading refusal = eqb refusal bad_command || eqb refusal bad_name || eqb refusal bad_key

-- an outcome that is none of these
abbrev pub Past : {A : Type 0} → Result A → Type 0
Past (accepted a) = Unit {0}
Past (refused refusal place) = of_reading refusal ≡ false

past_bind : {A B : Type 0} (r : Result A) (f : A → Result B) → Past r → ((a : A) → Past (f a)) → Past (r >>= f)
past_bind (accepted a) f p h = h a
past_bind (refused n at) f p h = p

past_or : {A : Type 0} (n at : ℕ) (o : Option A) → of_reading n ≡ false → Past (or_refused n at o)
past_or n at none p = p
past_or n at (some a) p = tt

past_meet : (options depth at kind other : ℕ) → Past (meet options depth at kind other)
unfolding meet
past_meet options depth at kind other =
    choice Past (is_container other && leb depth_limit depth) (λ _. refl) λ _.
    choice Past (not (is_container kind || is_container other)) (λ _. past_or no_joint at (joint options kind other) refl) λ _.
    choice Past (eqb other null) (λ _. tt) λ _.
    choice Past (eqb kind null) (λ _. tt) λ _.
    choice Past (same_container kind other) (λ _. tt) λ _. refl

past_room : (at : ℕ) (s : Step) (places : ℕ) (kids : Kids) → Past (room at s places kids)
unfolding room
past_room at s places kids =
    choice Past (clashes s (steps_of kids)) (λ _. refl) λ _.
    choice Past (has s (steps_of kids)) (λ _. tt) λ _.
    choice Past (ltb places place_limit) (λ _. tt) λ _. refl

past_make : (at : ℕ) (ss : List Step) (places : ℕ) (kids : Kids) → Past (make at ss places kids)
unfolding make
past_make at [] places kids = tt
past_make at (s ∷ ss) places kids = past_bind (room at s places kids) _ (past_room at s places kids) λ n. past_make at ss n (put s (kid_at s kids) kids)

-- ---- the first cut, in the order of the commands: its refusal and place
abbrev pub or_else : Option (ℕ × ℕ) → Option (ℕ × ℕ) → Option (ℕ × ℕ)
or_else none other = other
or_else (some c) other = some c

unfoldable mutual
  pub first_cut : Value → Option (ℕ × ℕ)
  first_cut (val at null kind n ps) = cut_in ps
  first_cut (cut refusal place) = some (refusal, place)

  pub cut_in : Parts → Option (ℕ × ℕ)
  cut_in no_parts = none
  cut_in (cut_off refusal place) = some (refusal, place)
  cut_in (part at s v ps) = or_else (first_cut v) (cut_in ps)

unfoldable pub cut_among : List Value → Option (ℕ × ℕ)
cut_among [] = none
cut_among (v ∷ vs) = or_else (first_cut v) (cut_among vs)

-- whole is without a cut
abbrev pub uncut : Option (ℕ × ℕ) → Bool
uncut none = true
uncut (some c) = false

uncut_or : (c d : Option (ℕ × ℕ)) → uncut (or_else c d) ≡ (uncut c && uncut d)
uncut_or none d = refl
uncut_or (some c) d = refl

mutual
  unfolding is_whole first_cut

  value_uncut : (v : Value) → is_whole v ≡ uncut (first_cut v)
  value_uncut (val at null kind n ps) = parts_uncut ps
  value_uncut (cut n p) = refl

  parts_uncut : (ps : Parts) → are_whole ps ≡ uncut (cut_in ps)
  parts_uncut no_parts = refl
  parts_uncut (cut_off n p) = refl
  parts_uncut (part at s v ps) = rw (value_uncut v, parts_uncut ps) (sym (uncut_or (first_cut v) (cut_in ps)))

pub whole_uncut : (vs : List Value) → all_whole vs ≡ uncut (cut_among vs)
unfolding all_whole cut_among
whole_uncut [] = refl
whole_uncut (v ∷ vs) = rw (value_uncut v, whole_uncut vs) (sym (uncut_or (first_cut v) (cut_among vs)))

-- ---- an outcome tells of the first cut: what is accepted has none, and a refusal of reading is it
abbrev pub Tells : {A : Type 0} → Option (ℕ × ℕ) → Result A → Type 0
Tells c (accepted a) = c ≡ none
Tells c (refused refusal place) = of_reading refusal ≡ true → c ≡ some (refusal, place)

tells_past : {A B : Type 0} (c : Option (ℕ × ℕ)) (r : Result A) (f : A → Result B) → Past r → ((a : A) → Tells c (f a)) → Tells c (r >>= f)
tells_past c (accepted a) f p h = h a
tells_past c (refused n at) f p h = λ t. absurd (true≢false (sym t ∙ p))

tells_bind : {A B : Type 0} (c d : Option (ℕ × ℕ)) (r : Result A) (f : A → Result B) → Tells c r → ((a : A) → Tells d (f a)) → Tells (or_else c d) (r >>= f)
tells_bind c d (accepted a) f p h = rw p (h a)
tells_bind c d (refused n at) f p h = λ t. rw (p t)

tells_last : {A B : Type 0} (c : Option (ℕ × ℕ)) (r : Result A) (f : A → B) → Tells c r → Tells c (r >>= λ a. accepted (f a))
tells_last c (accepted a) f p = p
tells_last c (refused n at) f p = p

mutual
  unfolding observe first_cut

  observe_tells : (options depth : ℕ) (v : Value) (places : ℕ) (tree : Tree) → Tells (first_cut v) (observe options depth v places tree)
  observe_tells options depth (cut n p) places tree = λ _. refl
  observe_tells options depth (val at null kind n ps) places tree =
      tells_past (cut_in ps) (meet options depth at (kind_of tree) kind) _ (past_meet options depth at (kind_of tree) kind) λ met.
      tells_past (cut_in ps) (make at (made kind n (kind_of tree)) places (kids_of tree)) _ (past_make at (made kind n (kind_of tree)) places (kids_of tree)) λ opened.
      tells_last (cut_in ps) (observe_parts options depth ps opened.places opened.what) _ (parts_tell options depth ps opened.places opened.what)

  parts_tell : (options depth : ℕ) (ps : Parts) (places : ℕ) (kids : Kids) → Tells (cut_in ps) (observe_parts options depth ps places kids)
  parts_tell options depth no_parts places kids = refl
  parts_tell options depth (cut_off n p) places kids = λ _. refl
  parts_tell options depth (part at s v ps) places kids =
      tells_past (or_else (first_cut v) (cut_in ps)) (room at s places kids) _ (past_room at s places kids) λ n.
      tells_bind (first_cut v) (cut_in ps) (observe options (depth + dots_of s) v n (kid_at s kids)) _ (observe_tells options (depth + dots_of s) v n (kid_at s kids)) λ after.
      parts_tell options depth ps after.places (put s after.what kids)

all_tell : (options depth : ℕ) (vs : List Value) (places : ℕ) (tree : Tree) → Tells (cut_among vs) (observe_all options depth vs places tree)
unfolding observe_all cut_among
all_tell options depth [] places tree = refl
all_tell options depth (v ∷ vs) places tree =
    tells_bind (first_cut v) (cut_among vs) (observe options depth v places tree) _ (observe_tells options depth v places tree) λ after. all_tell options depth vs after.places after.what

pub trace_tells : (options : ℕ) (vs : List Value) → Tells (cut_among vs) (trace options vs)
unfolding trace
trace_tells options vs = all_tell options 0 vs 1 fresh

-- what is accepted was read through
pub trace_whole : (options : ℕ) (vs : List Value) (after : Counted Tree) → trace options vs ≡ accepted after → all_whole vs ≡ true
trace_whole options vs after e = whole_uncut vs ∙ ap uncut (rw e at (trace_tells options vs))

-- a batch that is read through meets none of the refusals of reading
past_told : {A : Type 0} (r : Result A) → Tells none r → Past r
past_told (accepted a) h = tt
past_told (refused n p) h = cases (of_reading n) (λ e. absurd (true≢false (ap uncut (h e)))) (λ e. e)

none_cut : (c : Option (ℕ × ℕ)) → uncut c ≡ true → c ≡ none
none_cut none e = refl
none_cut (some c) e = absurd (false≢true e)

pub trace_past : (options : ℕ) (vs : List Value) → all_whole vs ≡ true → Past (trace options vs)
trace_past options vs w = past_told (trace options vs) (rw (none_cut (cut_among vs) (sym (whole_uncut vs) ∙ w)) at (trace_tells options vs))

-- ---- nor does emission, whose refusals are 12 to 17
between_past : (end : ℕ) (r : Result Fields) → Between 12 17 end r → Past r
between_past end (accepted schema) h = tt
between_past end (refused n place) (low, high, at) = rw (ne_eqb n bad_command (omega arith), ne_eqb n bad_name (omega arith), ne_eqb n bad_key (omega arith)) refl

-- the whole of a call
pub schema_of_past : (b : Batch) → all_whole (values b.options b.commands b.text) ≡ true → Past (schema_of b)
unfolding schema_of
schema_of_past b w =
    past_bind (trace b.options (values b.options b.commands b.text)) _ (trace_past b.options (values b.options b.commands b.text) w) λ traced.
    between_past (length b.commands) (to_schema b.options (length b.commands) traced.what) (schema_between b.options (length b.commands) traced.what)

-- so the values of a batch that is accepted are proper
pub accepted_proper : (options : ℕ) (commands text : List ℕ) (after : Counted Tree) → trace options (values options commands text) ≡ accepted after →
    all_proper options (values options commands text) ≡ true
accepted_proper options commands text after e = values_proper options commands text (trace_whole options (values options commands text) after e)
