-- A batch's records in another order: it is accepted again, and its schema differs in the order of struct fields alone.
use Rattle.std.specs.Prelude.{◌≡◌, refl, Bool, true, false, ◌&&◌, ◌||◌, ℕ, ◌≤◌, length}
use Rattle.std.proofs.Common.{ap, ap₂, sym, ◌∙◌, subst, arith, length-append}
use mathlib.Core.List.{List, [], ◌∷◌, ◌++◌, flatten, Permᴰ}
use Rattle.std.proofs.Math.Option.{none}
use Rattle.logic.specs.Test.{when◌then◌else◌}
use Rattle.logic.specs.laws.Test.{cases}
use Rattle.logic.specs.All.{All}
use Rattle.model.specs.Result.{Result, accepted, refused}
use Rattle.model.specs.Kinds.{Step, same}
use Rattle.model.specs.Reading.{Value, val, cut, Parts, no_parts, cut_off, part}
use Rattle.model.specs.Tracing.{Tree, fresh, place_limit}
use Rattle.model.specs.Emission.{Fields, place_of, walk, field_of, root_fields, root_name, to_schema, count_in, names_in}
use Rattle.model.specs.Answer.{Batch, Buffers, Answer, schema_of, answer}
use Rattle.model.specs.Census.{kind_in, parts_of, parts_at, below, standing}
use Rattle.model.specs.Demand3.{Plain, Accepted, NoPlaceBoth, NoShorter, IsRecord, AreRecords, Split, SameButOrder, batch, with_records, records_of, shows, as_struct, as_map, in_name_order}
use Rattle.equality.specs.laws.Base.{not_refused}
use Rattle.model.specs.Unbounded.{see_all}
use Rattle.equality.specs.laws.Proper.{is_proper, are_proper, all_proper, kind_fits}
use Rattle.equality.specs.laws.tracing.Count.{size, trace_fits}
use Rattle.equality.specs.laws.tracing.Place.{see_all_whole}
use Rattle.equality.specs.laws.reading.Records.{values_proper}
use Rattle.equality.specs.laws.reading.Offsets.{forget, forgets, forget_all, blur, all_forget, forget_all_append}
use Rattle.equality.specs.laws.reading.Batches.{Records, no_records, one_more, split, batches_permuted}
use Rattle.equality.specs.laws.tracing.Fitting.{tree_fits, tree_ascends}
use Rattle.equality.specs.laws.reordering.Sorted.{sorted_place}
use Rattle.equality.specs.laws.reordering.Places.{reordered}
use Rattle.equality.specs.laws.reordering.Walk.{walk_reordered, root_reordered, counts_reordered}
use Rattle.equality.specs.laws.emission.Accepted.{Passes, answers, Took, took, holds}
use Rattle.equality.specs.laws.census.Equal.{Traced, traced_schema}

-- ---- values with their offsets forgotten show the same
parts_forgotten : (s : Step) (ps : Parts) → parts_at s (forgets ps) ≡ forget_all (parts_at s ps)
unfolding parts_at forgets forget_all when◌then◌else◌
parts_forgotten s no_parts = refl
parts_forgotten s (cut_off n at) = refl
parts_forgotten s (part at r v ps) = cases (same s r) (λ e. rw e (ap (λ (vs : List Value). forget v ∷ vs) (parts_forgotten s ps))) (λ e. rw e (parts_forgotten s ps))

value_forgotten : (s : Step) (v : Value) → parts_at s (parts_of (forget v)) ≡ forget_all (parts_at s (parts_of v))
unfolding forget parts_at forget_all
value_forgotten s (val at b k n ps) = parts_forgotten s ps
value_forgotten s (cut n at) = refl

below_forgotten : (s : Step) (vs : List Value) → below s (forget_all vs) ≡ forget_all (below s vs)
unfolding below forget_all
below_forgotten s [] = refl
below_forgotten s (v ∷ vs) = rw (value_forgotten s v, below_forgotten s vs) (sym (forget_all_append (parts_at s (parts_of v)) (below s vs)))

standing_forgotten : (steps : List Step) (vs : List Value) → standing steps (forget_all vs) ≡ forget_all (standing steps vs)
unfolding standing
standing_forgotten [] vs = refl
standing_forgotten (s ∷ steps) vs = rw below_forgotten (standing_forgotten steps (below s vs))

kind_forgotten : (v : Value) → kind_in (forget v) ≡ kind_in v
unfolding forget
kind_forgotten (val at b k n ps) = refl
kind_forgotten (cut n at) = refl

shows_forgotten : (p : ℕ → Bool) (vs : List Value) → shows p (forget_all vs) ≡ shows p vs
unfolding shows forget_all
shows_forgotten p [] = refl
shows_forgotten p (v ∷ vs) = ap₂ (λ (a b : Bool). a || b) (ap p (kind_forgotten v)) (shows_forgotten p vs)

mutual
  unfolding is_proper forget

  proper_forgotten : (o : ℕ) (v : Value) → is_proper o (forget v) ≡ is_proper o v
  proper_forgotten o (val at b k n ps) = ap (λ (x : Bool). kind_fits o k && x) (proper_parts_forgotten o k n 0 ps)
  proper_forgotten o (cut n at) = refl

  proper_parts_forgotten : (o k n i : ℕ) (ps : Parts) → are_proper o k n i (forgets ps) ≡ are_proper o k n i ps
  proper_parts_forgotten o k n i no_parts = refl
  proper_parts_forgotten o k n i (cut_off m at) = refl
  proper_parts_forgotten o k n i (part at s v ps) = rw (proper_forgotten o v, proper_parts_forgotten o k n _ ps)

all_proper_forgotten : (o : ℕ) (vs : List Value) → all_proper o (forget_all vs) ≡ all_proper o vs
unfolding all_proper forget_all
all_proper_forgotten o [] = refl
all_proper_forgotten o (v ∷ vs) = ap₂ (λ (a b : Bool). a && b) (proper_forgotten o v) (all_proper_forgotten o vs)

unblurred : {A : Type 0} (r : Result A) (a : A) → blur r ≡ accepted a → r ≡ accepted a
unblurred (accepted b) a e = e
unblurred (refused n at) a e = not_refused e

-- ---- records in another order are as long
flatten_length : {rs qs : List (List ℕ)} → Permᴰ rs qs → length (flatten rs) ≡ length (flatten qs)
unfolding flatten
flatten_length Permᴰ.nil = refl
flatten_length (Permᴰ.cons {a = r} {b = q} {l₁ = rs} {l₂ = qs} e p) =
    rw (← e, length-append r (flatten rs), length-append r (flatten qs), flatten_length p)
flatten_length (Permᴰ.swap {a = r} {b = q} {l = rs} e f) =
    rw (← e, ← f, length-append r (q ++ flatten rs), length-append q (flatten rs), length-append q (r ++ flatten rs), length-append r (flatten rs)) (omega arith)
flatten_length (Permᴰ.trans p q) = flatten_length p ∙ flatten_length q

records_of_lem : (o : ℕ) (text : List ℕ) (rs : List (List ℕ)) → All (IsRecord o text) rs → (vs : List Value) × Records o text rs vs
records_of_lem o text [] h = ([], no_records)
records_of_lem o text (r ∷ rs) h = let t = records_of_lem o text rs h.1 in (h.0.0 ∷ t.0, one_more h.0.1 h.0.2 t.1)

-- ---- the schema of what was traced
to_schema_lem : (o end : ℕ) (tree : Tree) (schema : Fields) → walk o (place_of false tree) ≡ none → root_fields end (field_of o root_name 0 (place_of false tree)) ≡ accepted schema
    → to_schema o end tree ≡ accepted schema
unfolding to_schema
to_schema_lem o end tree schema w r = rw (to_schema, w) r

schema_of_lem : (b : Batch) (tree : Tree) (schema : Fields) → see_all b.options 0 (records_of b) fresh ≡ accepted tree → size tree ≤ place_limit
    → walk b.options (place_of false tree) ≡ none → root_fields (length b.commands) (field_of b.options root_name 0 (place_of false tree)) ≡ accepted schema
    → schema_of b ≡ accepted schema
unfolding schema_of
schema_of_lem b tree schema s l w r =
    let c = trace_fits b.options (records_of b) tree s l in
    rw (c.1, c.2) (to_schema_lem b.options (length b.commands) tree schema w r)

module _ (o : ℕ) (off : Plain o) (text : List ℕ) (rs qs : List (List ℕ)) (records : All (IsRecord o text) rs) (perm : Permᴰ rs qs) where
  abbrev first : Batch
  first = batch o (flatten rs) text

  abbrev second : Batch
  second = batch o (flatten qs) text

  -- the places of the second batch
  other_tree : NoPlaceBoth first → (t : Tree) → see_all o 0 (records_of first) fresh ≡ accepted t → all_proper o (records_of first) ≡ true
      → (u : Tree) × (see_all o 0 (records_of second) fresh ≡ accepted u) × (sorted_place (place_of false t) ≡ sorted_place (place_of false u)) × (size t ≡ size u)
  other_tree both t e p =
      let r = records_of_lem o text rs records in
      let shown : (p : ℕ → Bool) (steps : List Step) → shows p (standing steps (forget_all (records_of first))) ≡ shows p (standing steps (records_of first))
      = λ p steps. ap (shows p) (standing_forgotten steps (records_of first)) ∙ shows_forgotten p (standing steps (records_of first)) in
      let a = reordered o off.to_string_off (forget_all (records_of first)) (forget_all (records_of second)) (batches_permuted o text r.0 perm r.1)
      (all_proper_forgotten o (records_of first) ∙ p) (λ steps. rw (shown as_struct steps, shown as_map steps) (both steps)) t (all_forget o 0 (records_of first) fresh ∙ ap blur e) in
      (a.0, unblurred (see_all o 0 (records_of second) fresh) a.0 (sym (all_forget o 0 (records_of second) fresh) ∙ a.1), a.2, a.3)

  second_passes : (lent lent' : Buffers) (fs gs : Fields) → Passes first lent fs → NoShorter lent lent' → count_in fs ≡ count_in gs → length (names_in fs) ≡ length (names_in gs) → Passes second lent' gs
  second_passes lent lent' fs gs p long c n =
      let k = flatten_length perm in
      let a = p.table in let b = p.commands in let f = p.fields in let m = p.names in
      let x = long.table in let y = long.fields in let z = long.names in
      record { known = p.known; table = omega arith; commands = omega arith; text = p.text; fields = omega arith; names = omega arith }

  record Again (fs : Fields) : Type 0 where
    schema : Fields
    gives : schema_of second ≡ accepted schema
    ordered : in_name_order fs ≡ in_name_order schema

  again : NoPlaceBoth first → (fs : Fields) → Traced first fs → Again fs
  again both fs t =
      let a = other_tree both t.tree t.seen t.proper in
      let u = a.0 in
      let proper = values_proper o (flatten qs) text (see_all_whole o 0 (records_of second) fresh u a.1) in
      let f = tree_fits o 0 (records_of first) t.tree false t.proper t.seen in
      let g = tree_fits o 0 (records_of second) u false proper a.1 in
      let v = tree_ascends o 0 (records_of first) t.tree false t.proper t.seen in
      let w = tree_ascends o 0 (records_of second) u false proper a.1 in
      let r = root_reordered o (length (flatten rs)) (length (flatten qs)) (place_of false t.tree) (place_of false u) fs off.enums_off f g v w a.2 t.root in
      record {
        schema = r.0;
        gives = schema_of_lem second u r.0 a.1 (rw a.3 at t.small) (walk_reordered o (place_of false t.tree) (place_of false u) f g v w a.2 t.walked) r.1;
        ordered = r.2;
      }

  ordered_again : (lent lent' : Buffers) → Accepted (answer first lent) → NoPlaceBoth first → NoShorter lent lent'
      → Accepted (answer second lent') × SameButOrder (answer first lent) (answer second lent')
  ordered_again lent lent' a both long =
      let x = took first lent a in
      let y = again both x.schema (traced_schema first x.schema x.gives) in
      let c = counts_reordered x.schema y.schema y.ordered in
      let passes : Passes second lent' y.schema = second_passes lent lent' x.schema y.schema x.passes long c.0 c.1 in
      let z : Took second lent' = record { schema = y.schema; passes = passes; gives = y.gives } in (
        ap (λ (w : Answer). w.refusal) (answers second lent' y.schema passes y.gives),
        (x.schema, y.schema, holds first lent x, holds second lent' z, y.ordered),
      )

-- ---- of any batch
pub accepted_split : (b : Batch) (lent : Buffers) → Accepted (answer b lent) → Split b
accepted_split b lent a =
    let x = took b lent a in
    let t = traced_schema b x.schema x.gives in
    split b (see_all_whole b.options 0 (records_of b) fresh t.tree t.seen)

pub batch_again : (b : Batch) → Plain b.options → (lent : Buffers) → Accepted (answer b lent) → NoPlaceBoth b → (records others : List (List ℕ)) → AreRecords b records
    → Permᴰ records others → (lent' : Buffers) → NoShorter lent lent'
    → Accepted (answer (with_records b others) lent') × SameButOrder (answer b lent) (answer (with_records b others) lent')
batch_again b off lent a both records others are perm lent' long =
    let again : Answer = answer (with_records b others) lent' in
    subst (λ (c : Batch). Accepted again × SameButOrder (answer c lent) again) are.together
    (ordered_again b.options off b.text records others are.each perm lent lent'
    (subst (λ (c : Batch). Accepted (answer c lent)) (sym are.together) a) (subst NoPlaceBoth (sym are.together) both) long)
