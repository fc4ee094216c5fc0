-- Laws of a primitive at a place: kinds that met, a value of the type that is there, and the table that stays sound.
use Rattle.std.specs.Prelude.{◌≡◌, Bool, true, false, not, ◌&&◌, List, ℕ, ◌<◌, eqb, ltb, Result, Ok, Err}
use Rattle.std.proofs.Math.Path.{refl}
use Rattle.std.proofs.Common.{sym, ◌∙◌}
use Rattle.refusal.specs.declared.Refusal.{Refusal}
use Rattle.commands.specs.Commands.{refused_at}
use Rattle.words.specs.Word.{word}
use Rattle.words.specs.laws.Word.{with_word_lem}
use Rattle.places.specs.Layout.{kind_word}
use Rattle.kinds.specs.declared.Met.{Met}
use Rattle.kinds.specs.Meeting.{met, meeting}
use Rattle.leaves.specs.Leaves.{traced_to, Out, out, on_met, stored, observed, is_known}
use borrow.Author.Tests.{eqb-true, eq-eqb, ne_eqb, lt-leb, ltb-true, not-true}
use Rattle.logic.specs.Test.{when◌then◌else◌}
use Rattle.logic.specs.laws.Test.{both}
use Rattle.coerce.specs.laws.Joined.{pairing_same}
use Rattle.model.specs.Kinds.{sequence_kind}

-- ---- kinds that met
module _ (options levels before kind place : ℕ) (t : List ℕ) (met : Result Met Refusal) (b : before ≡ word t place kind_word) (m : met ≡ meeting options levels before kind) where
  on_kind : (here : ℕ) (j : Met) (k : Met → Out) → met ≡ Ok j → k j ≡ on_met here t k (meeting options levels (word t place kind_word) kind)
  on_kind here j k e = rw (← b, ← m, e) refl

  on_refused : (here : ℕ) (refusal : Refusal) (k : Met → Out) → met ≡ Err refusal → out (refused_at refusal here) t ≡ on_met here t k (meeting options levels (word t place kind_word) kind)
  on_refused here refusal k e = rw (← b, ← m, e) refl

  pub observe_kind : (is_null : Bool) (here behind n : ℕ) (j : Met) (u : List ℕ) → met ≡ Ok j → u ≡ stored is_null j place t →
      out (traced_to behind n) u ≡ observed options is_null kind levels here behind place n t
  unfolding observed
  observe_kind is_null here behind n j u e s = rw s (on_kind here j (λ j. out (traced_to behind n) (stored is_null j place t)) e)

  pub observe_refused : (is_null : Bool) (here behind n : ℕ) (refusal : Refusal) → met ≡ Err refusal → out (refused_at refusal here) t ≡ observed options is_null kind levels here behind place n t
  unfolding observed
  observe_refused is_null here behind n refusal e = on_refused here refusal (λ j. out (traced_to behind n) (stored is_null j place t)) e

-- ---- one test of a known type after the other
module _ (is_null : Bool) (before kind : ℕ) where
  pub known_null : is_null ≡ true → false ≡ is_known is_null before kind
  unfolding is_known
  known_null e = rw e refl

  module _ (e : is_null ≡ false) where
    pub known_other : (before ≡ kind → ⊥) → false ≡ is_known is_null before kind
    unfolding is_known
    known_other d = rw (e, ne_eqb before kind d) refl

    pub known_same : before ≡ kind → ltb kind sequence_kind ≡ is_known is_null before kind
    unfolding is_known
    known_same d = rw (e, eq-eqb before kind d) refl

-- a type meets itself, and is stored where it stood
meets_itself : (options levels kind : ℕ) → kind < sequence_kind → Ok (met kind false) ≡ meeting options levels kind kind
unfolding meeting when◌then◌else◌
meets_itself options levels kind h = rw (lt-leb sequence_kind kind h, pairing_same options kind) refl

pub observed_again : (options kind levels here behind place n : ℕ) (t : List ℕ) → word t place kind_word ≡ kind → kind < sequence_kind →
    out (traced_to behind n) t ≡ observed options false kind levels here behind place n t
unfolding stored when◌then◌else◌
observed_again options kind levels here behind place n t e h =
    observe_kind options levels kind kind place t (Ok (met kind false)) (sym e) (meets_itself options levels kind h) false here behind n (met kind false) t refl
    (sym (rw e at (with_word_lem t place kind_word)))

pub observe_known : (options : ℕ) (is_null : Bool) (before kind levels here behind place n : ℕ) (t : List ℕ) (known : Bool) →
    before ≡ word t place kind_word → known ≡ is_known is_null before kind → known ≡ true →
    out (traced_to behind n) t ≡ observed options is_null kind levels here behind place n t
unfolding is_known
observe_known options is_null before kind levels here behind place n t known b k e =
    both (not is_null && eqb before kind) (ltb kind sequence_kind) (sym k ∙ e) λ p small.
    both (not is_null) (eqb before kind) p λ some same.
    let is : word t place kind_word ≡ kind = sym b ∙ eqb-true before kind same in
    let below : kind < sequence_kind = ltb-true kind sequence_kind small in
    rw (not-true is_null some) (observed_again options kind levels here behind place n t is below)
