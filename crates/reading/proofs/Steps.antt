-- A reader's steps: what was answered, with the count of places beside it, and what is left as it was.
use Rattle.std.specs.Prelude.{◌≡◌, ℕ, zero, suc, ◌≤◌, ◌<◌, List, Bool, Result, Ok, Err, Option, Some, None, IfOk, IfSome}
use Rattle.std.proofs.Common.{◌∙◌, refl}
use native.Mathlib.Nat.{le_trans}
use native.Mathlib.Omega.{arith}
use Rattle.refusal.specs.declared.Refusal.{Refusal}
use Rattle.refusal.specs.declared.Refused.{Refused}
use Rattle.commands.specs.Commands.{refused_at}
use Rattle.places.specs.declared.Places.{Places}
use Rattle.places.specs.Places.{Same}
use Rattle.places.specs.Layout.{Sound, Ready}
use Rattle.growth.specs.Growth as G
use Rattle.growth.specs.Growth.{found, count_of}
use Rattle.opening.specs.Opening as O
use Rattle.leaves.specs.Leaves.{counted, traced_to, out, observed}
use Rattle.leaves.specs.Marks.{chain, past_marks}
use Rattle.leaves.specs.Quick.{quick_at}
use Rattle.leaves.specs.laws.Quick.{quick_none}
use Rattle.reading.specs.laws.Quick.{quick_sound}
use Rattle.leaves.specs.laws.Marks.{past_ready, observed_kept}

module _ (r : Result ℕ Refused) (m : ℕ) where
  pub was_next : (next : ℕ) → r ≡ Ok next → counted r m ≡ traced_to next m
  was_next next is = rw is

  pub was_stopped : (x : Refused) → r ≡ Err x → counted r m ≡ Err x
  was_stopped x is = rw is

  pub was_refused_at : (refusal : Refusal) (here : ℕ) → r ≡ refused_at refusal here → counted r m ≡ refused_at refusal here
  was_refused_at refusal here is = rw is

module _ (r : Result ℕ Refusal) (m : ℕ) where
  pub was_child : (child : ℕ) → r ≡ Ok child → G.counted r m ≡ Ok (found child m)
  was_child child is = rw is

  pub was_no_child : (refusal : Refusal) → r ≡ Err refusal → G.counted r m ≡ Err refusal
  was_no_child refusal is = rw is

  pub child_here : (child : ℕ) → r ≡ Ok child → IfOk r (λ c. c < m) → child < m
  child_here child is h = rw is at h

module _ (r : Result (Unit {0}) Refusal) (m : ℕ) where
  pub was_made : (x : Unit {0}) → r ≡ Ok x → count_of r m ≡ Ok m
  was_made x is = rw is

  pub was_not_made : (refusal : Refusal) → r ≡ Err refusal → count_of r m ≡ Err refusal
  was_not_made refusal is = rw is

module _ (r : Result (Option ℕ) Refusal) (m : ℕ) where
  pub was_field : (child : ℕ) → r ≡ Ok (Some child) → O.counted r m ≡ Ok (Some (found child m))
  was_field child is = rw is

  pub was_end : r ≡ Ok None → O.counted r m ≡ Ok None
  was_end is = rw is

  pub was_no_field : (refusal : Refusal) → r ≡ Err refusal → O.counted r m ≡ Err refusal
  was_no_field refusal is = rw is

  pub field_here : (child : ℕ) → r ≡ Ok (Some child) → IfOk r (λ field. IfSome field (λ c. c < m)) → child < m
  field_here child is h = rw is at h

pub ended_count : (r : Result (Option ℕ) Refusal) (n m : ℕ) → O.Still r n m → r ≡ Ok None → m ≡ n
ended_count r n m h is = rw is at h

pub same_on : (o p q : Places) → Same o p → q.text.now ≡ p.text.now → q.table.ghost_name ≡ p.table.ghost_name → p.count ≤ q.count → Same o q
same_on o p q s text table grows = record { text = text ∙ s.text; table = table ∙ s.table; grows = le_trans s.grows grows }

pub below_more : (place n m : ℕ) → place < n → n ≤ m → place < m
below_more place n m h g = omega arith

module _ (text t : List ℕ) (n place : ℕ) (sound : Sound text t n) (below : place < n) where
  ready : Ready text t n place
  ready = record { sound = sound; here = below }

  pub seen_sound : (options : ℕ) (is_null : Bool) (kind levels here behind : ℕ) (r : Result ℕ Refused) (u : List ℕ) →
      out (counted r n) u ≡ observed options is_null kind levels here behind place n t → Sound text u n
  seen_sound options is_null kind levels here behind r u e = observed_kept text t n place ready options is_null kind levels here behind (counted r n) u e

  module _ (commands : List ℕ) (at here : ℕ) (u : List ℕ) (past : chain here u ≡ past_marks commands at place t) where
    pub past_sound : Sound text u n
    past_sound = (past_ready text t n place ready commands at here u past).sound

-- past a value by the quick way, or not
module _ (options : ℕ) (commands text : List ℕ) (at place n : ℕ) (t : List ℕ) (behind : ℕ) (u : List ℕ) (value : chain behind u ≡ quick_at options commands text at place t) where
  pub quick_kept : (other : List ℕ) → other ≡ text → Sound other t n → place < n → Sound other u n
  quick_kept other e sound below = rw e (go behind value (rw e at sound))
    where
      go : (b : ℕ) → chain b u ≡ quick_at options commands text at place t → Sound text t n → Sound text u n
      go zero q s = rw (quick_none options commands text at place t u 0 refl q) s
      go (suc b) q s = quick_sound commands text options at place n t (suc b) u q (λ z. omega arith) (record { sound = s; here = below })
