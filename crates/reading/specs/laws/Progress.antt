-- What was read ends behind where it began, inside the commands.
use Prim.{Unit, tt}
use Rattle.std.specs.Prelude.{◌≡◌, refl, Bool, List, length, Result, Ok, Err}
use Rattle.std.proofs.Common.{ap, ◌∙◌, le_refl}
use Rattle.std.proofs.Math.Bool.{true}
use Prim.Native.Nat.{◌-◌, ℕ, zero, suc, ◌+◌, ◌≤◌}
use native.Mathlib.Omega.{arith}
use Rattle.logic.specs.laws.Turns.{Says, Falls, holds}
use Rattle.refusal.specs.declared.Refusal.{Refusal}
use Rattle.refusal.specs.declared.Refused.{Refused}
use Rattle.refusal.specs.declared.Refusal.TheVariants as F
use Rattle.text.specs.declared.Name.{Name}
use Rattle.words.specs.Word.{word}
use Rattle.commands.specs.declared.Due.TheVariants as D
use Rattle.commands.specs.Commands.{Read, read_command}
use Rattle.commands.specs.laws.Commands as C
use Rattle.shapes.specs.declared.Step.{Step}
use Rattle.shapes.specs.declared.Contents.{Contents}
use Rattle.shapes.specs.declared.Contents.TheVariants as N
use Rattle.shapes.specs.declared.Shape.{Shape}
use Rattle.shapes.specs.declared.Shape.TheVariants as H
use Rattle.shapes.specs.declared.Part.TheVariants as P
use Rattle.shapes.specs.Steps.{name_of}
use Rattle.shapes.specs.Shapes.{PartRead, shape_at, part_at}
use Rattle.shapes.specs.laws.Shapes.{KnownPart, part_known}
use Rattle.places.specs.Layout.{kind_word}
use Rattle.growth.specs.Growth.{Ensuring, ensuring, Making, making}
use Rattle.kinds.specs.declared.Met.{Met}
use Rattle.kinds.specs.Meeting.{meeting}
use Rattle.reading.specs.Reading.{on_made, Readers, dots_in, part_read, State, state, after_part, on_part, part_turn, part_stop, parts_from, container_by, variant_by, at_shape, at_read, after_chain, value_by, none_left, readers, on_held}
use Rattle.opening.specs.Opening.{held, container_made, variant_held}
use Rattle.leaves.specs.Leaves.{traced_to, Out, out, on_met, stored, observed}
use Rattle.leaves.specs.Marks.{Chain, chain, past_marks}
use Rattle.leaves.specs.laws.Marks.{FromChain, left_at, past_on}

-- the offset behind is from `low` on and inside
unfoldable pub Moved : ℕ → ℕ → Out → Type 0
Moved low most (out (Ok to) t) = (low ≤ to.next) × (to.next ≤ most)
Moved low most (out (Err r) t) = Unit {0}

-- a value takes at least its command; the contents of a variant may be none
abbrev pub from : Contents → ℕ → ℕ
from N.Unit at = at
from N.Value at = suc at
from (N.Positions n) at = at
from N.Fields at = at

from_above : (contents : Contents) (at : ℕ) → at ≤ from contents at
from_above N.Unit at = le_refl at
from_above N.Value at = omega arith
from_above (N.Positions n) at = le_refl at
from_above N.Fields at = le_refl at

moved_from : (low lower most : ℕ) → lower ≤ low → (o : Out) → Moved low most o → Moved lower most o
unfolding Moved
moved_from low lower most h (out (Ok to) t) m = (omega arith, m.1)
moved_from low lower most h (out (Err r) t) m = tt

pub moved : (low most behind n : ℕ) (t : List ℕ) → low ≤ behind → behind ≤ most → Moved low most (out (traced_to behind n) t)
unfolding Moved
moved low most behind n t p q = (p, q)

stopped : (low most : ℕ) (r : Refused) (t : List ℕ) → Moved low most (out (Err r) t)
unfolding Moved
stopped low most r t = tt

abbrev pub On : ℕ → Readers → Type 0
On most inner = (down : ℕ) (contents : Contents) (here at place n : ℕ) (t : List ℕ) → at ≤ most → Moved (from contents at) most (inner down contents here at place n t)

on_met_lem : (low most here : ℕ) (t : List ℕ) (k : Met → Out) → ((met : Met) → Moved low most (k met)) → (m : Result Met Refusal) → Moved low most (on_met here t k m)
unfolding Moved
on_met_lem low most here t k h (Ok met) = h met
on_met_lem low most here t k h (Err refusal) = tt

on_made_lem : (low most here : ℕ) (k : ℕ → List ℕ → Out) → ((n : ℕ) (t : List ℕ) → Moved low most (k n t)) → (m : Making) → Moved low most (on_made here k m)
unfolding Moved
on_made_lem low most here k h (making (Ok n) t) = h n t
on_made_lem low most here k h (making (Err refusal) t) = tt

observed_on : (options : ℕ) (is_null : Bool) (kind levels here low behind most place n : ℕ) (t : List ℕ) → low ≤ behind → behind ≤ most →
    Moved low most (observed options is_null kind levels here behind place n t)
unfolding observed Moved
observed_on options is_null kind levels here low behind most place n t p q =
    on_met_lem low most here t (λ met. out (traced_to behind n) (stored is_null met place t)) (λ met. (p, q))
    (meeting options levels (word t place kind_word) kind)

module _ (commands : List ℕ) where
  abbrev pub left_state : State → ℕ
  left_state (state i at n t) = left_at commands at

  pub after_falls : (i at : ℕ) (o : Out) → Moved (suc at) (length commands) o → Falls left_state (left_at commands at) (after_part i o)
  unfolding Moved
  after_falls i at (out (Ok to) t) (m₀, m₁) = omega arith
  after_falls i at (out (Err r) t) m = tt

module _ (commands text : List ℕ) (inner : Readers) (on : On (length commands) inner) where
  held_on : (down : ℕ) (contents : Contents) (here at : ℕ) → at ≤ length commands → (x : Ensuring) → Moved (from contents at) (length commands) (on_held here (inner down contents here at) x)
  unfolding Moved
  held_on down contents here at h (ensuring (Ok f) t) = on down contents here at f.child f.count t h
  held_on down contents here at h (ensuring (Err refusal) t) = tt

  pub part_on : (step : Step) (here at place n : ℕ) (t : List ℕ) → at ≤ length commands → Moved (suc at) (length commands) (part_read text inner step here at place n t)
  unfolding part_read
  part_on step here at place n t h = held_on (dots_in text (name_of step)) N.Value here at h (held text place step n t)

  -- ---- the parts
  pub part_falls : (kind positions place : ℕ) (s : State) → Falls (left_state commands) (left_state commands s) (part_turn commands text inner kind positions place s)
  unfolding part_turn
  part_falls kind positions place (state i at n t) = go (part_at commands text kind positions i at) (part_known commands text at kind positions i)
    where
      go : (part : PartRead) → KnownPart commands text at part → Falls (left_state commands) (left_at commands at) (on_part text inner place i at n t part)
      go (Ok (P.Ended behind)) k = tt
      go (Ok (P.Step step value)) (k₀, k₁, k₂) = after_falls commands (i + 1) at _ (moved_from (suc value) (suc at) (length commands) (omega arith) _ (part_on step at value place n t k₂))
      go (Err r) k = tt

  abbrev From : ℕ → State → Type 0
  From low (state i at n t) = (low ≤ at) × (at ≤ length commands)

  after_from : (low i at : ℕ) → low ≤ at → (o : Out) → Moved (suc at) (length commands) o → Says (From low) (Moved low (length commands)) (after_part i o)
  unfolding Moved
  after_from low i at h (out (Ok to) t) (m₀, m₁) = (omega arith, m₁)
  after_from low i at h (out (Err r) t) m = tt

  pub parts_on : (kind positions place i at n : ℕ) (t : List ℕ) → at ≤ length commands → Moved at (length commands) (parts_from commands text inner kind positions place i at n t)
  unfolding parts_from part_turn
  parts_on kind positions place i at n t h = holds (part_turn commands text inner kind positions place) part_stop (From at)
      (Moved at (length commands)) kept (λ s p. stop s) (length commands + 1) (state i at n t) (le_refl at, h)
    where
      stop : (s : State) → Moved at (length commands) (part_stop s)
      stop (state i here n t) = stopped at (length commands) (record { refusal = F.BadCommand; place = here }) t

      kept : (s : State) → From at s → Says (From at) (Moved at (length commands)) (part_turn commands text inner kind positions place s)
      kept (state i here n t) (p₀, p₁) = go (part_at commands text kind positions i here) (part_known commands text here kind positions i)
        where
          go : (part : PartRead) → KnownPart commands text here part → Says (From at) (Moved at (length commands)) (on_part text inner place i here n t part)
          go (Ok (P.Ended behind)) (k₀, k₁) = moved at (length commands) behind n t (omega arith) (k₁ p₁)
          go (Ok (P.Step step value)) (k₀, k₁, k₂) = after_from at (i + 1) here p₀ _ (moved_from (suc value) (suc here) (length commands) (omega arith) _ (part_on step here value place n t k₂))
          go (Err r) k = stopped at (length commands) r t

  -- ---- a value
  container_on : (options levels kind positions here at place n : ℕ) (t : List ℕ) → at ≤ length commands →
      Moved at (length commands) (container_by commands text options levels inner kind positions here at place n t)
  unfolding container_by
  container_on options levels kind positions here at place n t h =
      on_made_lem at (length commands) here _ (λ m u. parts_on kind positions place 0 at m u h) (container_made text options levels kind positions place n t)

  variant_on : (options levels number : ℕ) (name : Name) (contents : Contents) (here at place n : ℕ) (t : List ℕ) → at ≤ length commands →
      Moved at (length commands) (variant_by text options levels inner number name contents here at place n t)
  unfolding variant_by
  variant_on options levels number name contents here at place n t h =
      moved_from (from contents at) at (length commands) (from_above contents at) _ (held_on (dots_in text name) contents here at h (variant_held text options levels number name place n t))

  shape_on : (options levels here low behind place n : ℕ) (t : List ℕ) → low ≤ behind → behind ≤ length commands → (shape : Shape) →
      Moved low (length commands) (at_shape commands text options levels inner here behind place n t shape)
  shape_on options levels here low behind place n t p q (H.Leaf is_null kind) = observed_on options is_null kind levels here low behind (length commands) place n t p q
  shape_on options levels here low behind place n t p q (H.Parts container) = moved_from behind low (length commands) p _ (container_on options levels container.kind container.positions here behind place n t q)
  shape_on options levels here low behind place n t p q (H.Variant number name contents) = moved_from behind low (length commands) p _
      (variant_on options levels number name contents here behind place n t q)
  shape_on options levels here low behind place n t p q H.NoValue = stopped low (length commands) (record { refusal = F.BadCommand; place = here }) t

  read_on : (options levels here place n : ℕ) (t : List ℕ) (answer : Read) → answer ≡ read_command commands text here D.Value →
      Moved (suc here) (length commands) (at_read commands text options levels inner here place n t answer)
  read_on options levels here place n t (Ok (command, behind)) e =
      shape_on options levels here (suc here) behind place n t (C.next_above commands text here D.Value _ command behind e refl)
      (C.next_within commands text here D.Value _ command behind e refl) (shape_at options text command)
  read_on options levels here place n t (Err r) e = stopped (suc here) (length commands) r t

  chain_on : (options levels at place n : ℕ) (c : Chain) → FromChain commands at c → Moved (suc at) (length commands) (after_chain commands text options levels inner place n c)
  chain_on options levels at place n (chain here t) h = moved_from (suc here) (suc at) (length commands) (omega arith) _
      (read_on options levels here place n t (read_command commands text here D.Value) refl)

  value_on : (options levels : ℕ) (contents : Contents) (here at place n : ℕ) (t : List ℕ) → at ≤ length commands →
      Moved (from contents at) (length commands) (value_by commands text options levels inner contents here at place n t)
  unfolding value_by
  value_on options levels N.Unit here at place n t h = observed_on options true _ levels here at at (length commands) place n t (le_refl at) h
  value_on options levels N.Value here at place n t h = chain_on options levels at place n (past_marks commands at place t) (past_on commands at place t)
  value_on options levels (N.Positions positions) here at place n t h = container_on options levels _ positions here at place n t h
  value_on options levels N.Fields here at place n t h = container_on options levels _ 0 here at place n t h

module _ (commands text : List ℕ) (options : ℕ) where
  none_on : On (length commands) none_left
  unfolding Moved
  none_on down contents here at place n t h = tt

  pub readers_on : (levels : ℕ) → On (length commands) (readers commands text options levels)
  unfolding readers
  readers_on zero down contents here at place n t h = value_on commands text none_left none_on options 0 contents here at place n t h
  readers_on (suc levels) zero contents here at place n t h = value_on commands text (readers commands text options levels) (readers_on levels) options (suc levels) contents here at place n t h
  readers_on (suc levels) (suc down) contents here at place n t h = readers_on levels down contents here at place n t h

-- levels left, less the dots of a name
pub less : (commands text : List ℕ) (options levels down : ℕ) → readers commands text options levels down ≡ readers commands text options (levels - down) 0
unfolding readers
less commands text options zero down = let e : zero ≡ zero - down = omega arith in zero_down down ∙ ap (λ l. readers commands text options l 0) e
  where
    zero_down : (down : ℕ) → readers commands text options 0 down ≡ readers commands text options 0 0
    zero_down zero = refl
    zero_down (suc down) = refl
less commands text options (suc levels) zero = let e : suc levels ≡ suc levels - zero = omega arith in ap (λ l. readers commands text options l 0) e
less commands text options (suc levels) (suc down) = let e : levels - down ≡ suc levels - suc down =
    omega arith in less commands text options levels down ∙ ap (λ l. readers commands text options l 0) e
