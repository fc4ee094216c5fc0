-- Tracing and emission over a part of zeros, and the part zeroed again, are the model's answer; over the part, and so over the table that it is
-- the first part of.
use Rattle.std.specs.Prelude.{◌≡◌, Ok, Err, Bool, List, [], ◌∷◌, ◌++◌, ℕ, suc, ◌*◌, ◌<◌, ◌≤◌, length, get_or, take, drop, replicate}
use Rattle.std.proofs.Math.Path.{refl}
use Rattle.std.proofs.Common.{sym, ap, ◌∙◌, append-nil, length-take, drop_of_length-le}
use Rattle.std.proofs.Math.Bool.{true, false}
use Rattle.std.proofs.lemmas.Bool.{false≢true}
use Rattle.std.proofs.Math.Option.{Option, none, some}
use native.Mathlib.Omega.{arith}
use Rattle.logic.specs.Test.{when◌then◌else◌}
use Rattle.refusal.specs.Number.{number_of, short_buffer}
use Rattle.words.specs.Word.{table_words, IsTable, is_order, cleared_to, zeros}
use Rattle.words.specs.laws.Word.{cleared_zeros}
use Rattle.order.specs.laws.Sort.{length_ordered, words_ordered}
use Rattle.model.specs.Result.{Result, accepted, refused}
use Rattle.model.specs.Reading.{values}
use Rattle.model.specs.Tracing.{Tree, place_limit, trace, counted}
use Rattle.model.specs.Emission.{Field, mk, Fields, root_fields, to_schema, walk, place_of, field_of, root_name, count_in, names_in, records_in, columns_in}
use Rattle.model.specs.Answer as M
use Rattle.model.specs.Answer.{input_limit, schema_of, answer_of, is_short, turned_down, cleared, zeroed, written, with_schema}
use Rattle.model.specs.Demand3.{batch}
use Rattle.places.specs.Layout.{Linked, Sound}
use Rattle.samples.specs.Samples.{from_samples}
use Rattle.leaves.specs.Leaves.{traced_to, Out, out}
use Rattle.commands.specs.Bytes.{Bytes}
use Rattle.refine.specs.Tree.{outcome, tree_of}
use Rattle.refine.proofs.Refinement.{traced_is_model}
use Rattle.schema.specs.Emit.{Answered, answered, to_schema_at}
use Rattle.order.specs.Sort.{sorted_places}
use Rattle.emission.proofs.Refinement.{schema_is_model}
use Rattle.emission.specs.Emits.{Emits}
use Rattle.refusal.specs.declared.Refusal.{Refusal}
use Rattle.refusal.specs.declared.Refusal.TheVariants as F
use Rattle.walk.specs.Walk.{counts}
use Rattle.call.specs.Call.{refused_at, Outcome, lent, answer_by, Given, given, as_given, emitted_from}

-- bytes are below 256, where each element is
pub bytes_known : (xs : List ℕ) → ((i : ℕ) → get_or xs i 0 < 256) → Bytes xs
bytes_known [] h = tt
bytes_known (x ∷ xs) h = (h 0, bytes_known xs (λ i. h (suc i)))

-- a table that is no longer is cleared to zeros
cleared_all : (n : ℕ) (t : List ℕ) → length t ≤ n → replicate n 0 ≡ cleared t n
unfolding cleared
cleared_all n t h = rw (drop_of_length-le t h, append-nil) refl

-- its first part cleared, with the rest behind it, is the table cleared
cleared_part : (n : ℕ) (t : List ℕ) → cleared (take n t) n ++ drop n t ≡ cleared t n
unfolding cleared
cleared_part n t = let h : length (take n t) ≤ n = rw length-take (omega arith) in rw (drop_of_length-le (take n t) h, append-nil) refl

-- the places that were made, zeroed after their children were put in order, leave all words zero
pub cleared_ordered : (text t : List ℕ) (n : ℕ) → Sound text t n → cleared_to (sorted_places text t n) n ≡ zeros
cleared_ordered text t n s =
    let most : n ≤ place_limit = s.linked.most in
    cleared_zeros (sorted_places text t n) n (length_ordered text t n most ∙ s.linked.room)
    λ p f l e. words_ordered text t n most p f (λ d. false≢true (sym e ∙ ap is_order d)) (λ d. false≢true (sym e ∙ ap is_order d)) ∙ s.blank p f l

-- a sound table with fewer places is linked with more
pub linked_more : (text t : List ℕ) (n : ℕ) → Sound text t n → Linked text t place_limit
linked_more text t n s =
    let k = s.linked in
    record {
      most = omega arith;
      room = k.room;
      first = λ p h. (let m = k.most in let l = k.first p h in omega arith);
      last = λ p h. (let m = k.most in let l = k.last p h in omega arith);
      next = λ p h. (let m = k.most in let l = k.next p h in omega arith);
      rises = k.rises;
      names = k.names;
    }

-- ---- emission refuses at the commands' end
abbrev Stands : {A : Type 0} → ℕ → Result A → Type 0
Stands end (accepted a) = Unit {0}
Stands end (refused number place) = place ≡ end

if_stands : {A : Type 0} (end : ℕ) (t : Bool) (a b : Result A) → Stands end a → Stands end b → Stands end (when t then a else b)
unfolding when◌then◌else◌
if_stands end true a b h k = h
if_stands end false a b h k = k

root_stands : (end : ℕ) (f : Field) → Stands end (root_fields end f)
root_stands end (mk type nullable strategy number name fs) = if_stands end _ _ _ refl (if_stands end _ _ _ refl (if_stands end _ _ _ tt refl))

emission_stands : (options end : ℕ) (tree : Tree) → Stands end (to_schema options end tree)
unfolding to_schema
emission_stands options end tree = go (walk options (place_of false tree))
  where
    go : (o : Option ℕ) → Stands {A = Fields} end (elim o as (λ x. Result Fields) [ some refusal ↦ refused refusal end | none ↦ root_fields end (field_of options root_name 0 (place_of false tree)) ])
    go none = root_stands end (field_of options root_name 0 (place_of false tree))
    go (some refusal) = refl

module _ (options : ℕ) (commands text t fields names : List ℕ) (bytes : Bytes commands) (short : length commands ≤ input_limit) (whole : IsTable t) where
  abbrev b : M.Batch
  b = batch options commands text

  -- the answer of what was given, the table zeroed
  abbrev ended : Given → M.Answer
  ended (given o records written) = answer_by o (lent zeros records written)

  -- nothing stands past the places' words
  zeros_are : zeros ≡ cleared t table_words
  unfolding zeros
  zeros_are = cleared_all table_words t (omega arith)

  refused_is : (refusal : Refusal) (place : ℕ) (u : List ℕ) → out (Err (refused_at refusal place)) u ≡ from_samples commands text options zeros →
      ended (given (Err (refused_at refusal place)) fields names) ≡ answer_of b (lent t fields names) (schema_of b)
  unfolding schema_of answer_of outcome
  refused_is refusal place u e =
      let is : refused (number_of refusal) place ≡ trace options (values options commands text) = rw (← e) at (traced_is_model options commands text bytes short) in
      rw (← is, zeros_are) refl

  -- a schema that fits both buffers, or does not
  fits_or_not : (schema : Fields) (isLong : Bool) (a : Answered) →
      a ≡ (when isLong then answered (Err F.ShortBuffer) fields names
      else answered (Ok (counts (count_in schema) (length (names_in schema)) (columns_in schema))) (written (records_in schema) fields) (written (names_in schema) names)) →
      ended (as_given (length commands) a) ≡ (when isLong then turned_down short_buffer (length commands) (zeroed (lent t fields names)) else with_schema schema (lent t fields names))
  unfolding when◌then◌else◌
  fits_or_not schema true a e = rw (e, zeros_are) refl
  fits_or_not schema false a e = rw (e, zeros_are) refl

  -- an answer of emission that is the model's
  emits_is : (r : Result Fields) (a : Answered) → Stands (length commands) r → Emits fields names r a →
      ended (as_given (length commands) a) ≡ answer_of b (lent t fields names) r
  unfolding answer_of
  emits_is (refused number place) a at (x, is, e) = rw (e, zeros_are, is, at) refl
  emits_is (accepted schema) a at e =
      let swap : count_in schema * 8 ≡ 8 * count_in schema = omega arith in
      fits_or_not schema (is_short schema (lent t fields names)) a (rw swap at e)

  emitted_is : (behind n : ℕ) (u : List ℕ) → out (traced_to behind n) u ≡ from_samples commands text options zeros →
      ended (emitted_from options commands text fields names (out (traced_to behind n) u)) ≡ answer_of b (lent t fields names) (schema_of b)
  unfolding schema_of outcome
  emitted_is behind n u e =
      let is : counted n (tree_of text u) ≡ trace options (values options commands text) = rw (← e) at (traced_is_model options commands text bytes short) in
      emits_is (schema_of b) (to_schema_at options text (sorted_places text u n) fields names)
      (rw (← is) (emission_stands options (length commands) (tree_of text u)))
      (schema_is_model options commands text bytes short behind n u fields names (sym e))

  -- what is given, the table zeroed again
  pub given_is_answer : (o : Outcome) (records written : List ℕ) → given o records written ≡ emitted_from options commands text fields names (from_samples commands text options zeros) →
      answer_by o (lent zeros records written) ≡ answer_of b (lent t fields names) (schema_of b)
  given_is_answer o records written e = ap ended e ∙ go (from_samples commands text options zeros) refl
    where
      go : (w : Out) → w ≡ from_samples commands text options zeros → ended (emitted_from options commands text fields names w) ≡ answer_of b (lent t fields names) (schema_of b)
      go (out (Err r) v) q = refused_is r.refusal r.place v q
      go (out (Ok traced) v) q = emitted_is traced.next traced.count v q

-- ---- a table of which the first words are lent
module _ (t : List ℕ) (long : table_words ≤ length t) where
  abbrev rest : List ℕ
  rest = drop table_words t

  -- an answer with the rest of the table behind the part
  abbrev widened : M.Answer → M.Answer
  widened a = record {
    refusal = a.refusal;
    place = a.place;
    field_records = a.field_records;
    name_bytes = a.name_bytes;
    columns = a.columns;
    left = lent (a.left.table ++ rest) a.left.fields a.left.names;
  }

  widened_by : (o : Outcome) (u fields names : List ℕ) → answer_by o (lent (u ++ rest) fields names) ≡ widened (answer_by o (lent u fields names))
  widened_by (Ok c) u fields names = refl
  widened_by (Err r) u fields names = refl

  widened_of : (b : M.Batch) (fields names : List ℕ) (r : Result Fields) → widened (answer_of b (lent (take table_words t) fields names) r) ≡ answer_of b (lent t fields names) r
  unfolding answer_of when◌then◌else◌
  widened_of b fields names (refused refusal place) = rw (cleared_part table_words t) refl
  widened_of b fields names (accepted schema) = go (is_short schema (lent t fields names))
    where
      go : (short : Bool) → widened (when short then turned_down short_buffer (length b.commands)
          (zeroed (lent (take table_words t) fields names)) else with_schema schema (lent (take table_words t) fields names))
          ≡ (when short then turned_down short_buffer (length b.commands) (zeroed (lent t fields names)) else with_schema schema (lent t fields names))
      go true = rw (cleared_part table_words t) refl
      go false = rw (cleared_part table_words t) refl

  -- the answer over the part is that over the whole
  pub lent_is_answer : (o : Outcome) (b : M.Batch) (u fields names records written : List ℕ) (r : Result Fields) →
      answer_by o (lent u records written) ≡ answer_of b (lent (take table_words t) fields names) r →
      answer_by o (lent (u ++ rest) records written) ≡ answer_of b (lent t fields names) r
  lent_is_answer o b u fields names records written r e = widened_by o u records written ∙ ap widened e ∙ widened_of b fields names r
