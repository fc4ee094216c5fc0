-- The flat run on the words is the walk over the values of the batch, on the numbered tree: the records.
use Rattle.std.specs.Prelude.{◌≡◌, refl, List, [], ℕ, zero, suc, ◌+◌, ◌≤◌, length, ltb}
use Rattle.std.proofs.Common.{◌∙◌, add-one, arith, le-ltb}
use Rattle.std.proofs.Math.Option.{Option, none, some}
use Rattle.logic.specs.Test.{when◌then◌else◌}
use Rattle.logic.specs.laws.Test.{cases}
use Rattle.logic.specs.Turns.{turns, after}
use Rattle.refusal.specs.declared.Refusal.{Refusal}
use Rattle.refusal.specs.Number.{number_of}
use Rattle.words.specs.Word.{word, zeros}
use Rattle.words.specs.laws.Word.{zeros_table, word_zero}
use Rattle.model.specs.Result.{Result, refused, ◌>>=◌}
use Rattle.model.specs.Reading.{enough, records_from, values}
use Rattle.model.specs.Tracing.{Counted, counted}
use Rattle.shapes.specs.declared.Contents.TheVariants as N
use Rattle.reading.specs.Reading.{state, after_part}
use Rattle.samples.specs.Samples.{level_limit, record_turn, record_stop, records_at, from_samples}
use Rattle.commands.specs.Commands.{refused_at}
use Rattle.leaves.specs.Leaves.{traced_to, Out, out}
use Rattle.places.specs.Layout.{kind_word, root_word, block_word}
use Rattle.refine.specs.laws.numbered.Tree.{Spot, no_spots, num, new_spot, walk_all}
use Rattle.refine.specs.laws.words.Places.{no_block, Fits}
use Rattle.refine.proofs.words.Child.{zero_row}
use Rattle.refine.specs.laws.words.SearchTree.{index_none}
use Rattle.commands.specs.Bytes.{Bytes}
use Rattle.refine.proofs.words.Parts.{Agrees, went, balked}
use Rattle.refine.proofs.words.Values.{readers_read}

-- ---- the batch
-- the whole run: refused alike, or the same count of places and a table that says the tree from place 0 on
pub data Ends (text : List ℕ) : Result (Counted Spot) → Out → Type 0 where
  ends : {behind n : ℕ} {t : List ℕ} {u : Spot} → num u ≡ 0 → Fits text t n u → Ends text (counted n u) (out (traced_to behind n) t)
  turned_down_lem : {x : Refusal} {place : ℕ} {t : List ℕ} → Ends text (refused (number_of x) place) (out (refused_at x place) t)

batch_sim : (options : ℕ) (commands text : List ℕ) → Bytes commands → (f at n : ℕ) (t : List ℕ) (u : Spot) → at ≤ length commands → length commands ≤ at + f → num u ≡ 0 → Fits text t n u
    → Ends text (walk_all options (records_from f options commands text at) n u) (turns (record_turn commands text options) record_stop (suc f) (state 0 at n t))
unfolding turns after record_turn records_from walk_all when◌then◌else◌
batch_sim options commands text bytes zero at n t u y e z h =
    let l : length commands ≤ at = omega arith in
    rw (le-ltb at (length commands) l) (ends z h)
batch_sim options commands text bytes (suc f) at n t u y e z h =
    cases (ltb at (length commands))
    (λ d. rw (d, records_from) (go (λ a n₁ t₁ u₁ i y₁ j k. batch_sim options commands text bytes f a n₁ t₁ u₁ y₁ (omega arith) j k)
    (rw z at (readers_read options commands text bytes level_limit 0 0 refl N.Value (enough commands) 0 at n t u y (omega arith) h))))
    (λ d. rw (d, records_from) (ends z h))
  where
    go : ((a n₁ : ℕ) (t₁ : List ℕ) (u₁ : Spot) → at + 1 ≤ a → a ≤ length commands → num u₁ ≡ 0 → Fits text t₁ n₁ u₁ →
        Ends text (walk_all options (records_from f options commands text a) n₁ u₁)
        (turns (record_turn commands text options) record_stop (suc f) (state 0 a n₁ t₁)))
        → {x : Result (Counted Spot)} {y : Out} {o : Option ℕ} → Agrees text commands t n u (at + 1) x y o
        → Ends text (x >>= λ r. walk_all options (elim o [ none ↦ [] | some b ↦ records_from f options commands text b ]) r.places r.what)
        (after (λ s. turns (record_turn commands text options) record_stop (suc f) s) (after_part 0 y))
    go ih (went i y₁ c) = ih _ _ _ _ i y₁ (c.same ∙ z) c.fits
    go ih balked = turned_down_lem

-- a table of zeros says a tree of one unseen place
begins : (text : List ℕ) → Fits text zeros 1 (new_spot 0)
begins text = record {
  rep = (zero_row zeros 0 kind_word 5 (omega arith) (λ f i. word_zero 0 f), tt, no_block (word zeros 0 block_word) no_spots (word_zero 0 block_word));
  good = (omega arith, refl, tt);
  room = zeros_table;
  most = omega arith;
  zeros = λ q f _ l i. word_zero q f;
  index = (index_none zeros 0 (omega arith) (word_zero 0 root_word), tt);
}

-- The flat run over a table of zeros and the walk over the values of the batch are refused alike, or leave the same count of places and a
-- table that says the tree.
pub flat_is_walk : (options : ℕ) (commands text : List ℕ) → Bytes commands → Ends text (walk_all options (values options commands text) 1 (new_spot 0)) (from_samples commands text options zeros)
unfolding values records_at
flat_is_walk options commands text bytes =
    rw (add-one (length commands)) (batch_sim options commands text bytes (length commands) 0 1 zeros (new_spot 0) (omega arith) (omega arith) refl (begins text))
