-- The second walk writes the records and the names of the model's fields.
use Prim.{tt}
use Rattle.std.specs.Prelude.{◌≡◌, Bool, ◌&&◌, ◌||◌, List, [], ◌∷◌, ◌++◌, ℕ, zero, suc, ◌+◌, ◌%◌, ◌<◌, ◌≤◌, drop}
use Rattle.std.proofs.Math.Path.{refl}
use Rattle.std.proofs.Common.{sym, ap, ◌∙◌, true≢false, append-nil, arith, eqb-true, ne_eqb, leb-false}
use Rattle.std.proofs.Math.Bool.{true, false}
use Rattle.std.proofs.Math.Option.{none}
use Rattle.std.proofs.Math.Nat.{mod-eq_of_lt}
use Rattle.std.proofs.Math.Dec.{eqb}
use Rattle.std.proofs.Math.ListN.{length}
use Rattle.logic.specs.Test.{when◌then◌else◌}
use Rattle.logic.specs.laws.Test.{cases}
use Rattle.datatype.specs.Codes.{utf8, large_utf8, no_strategy}
use Rattle.options.specs.Word.{string_dictionary_encoding, string_as_large_utf8, sequence_as_large_list, enums_without_data_as_strings, list_type, dictionary_type}
use Rattle.words.specs.Word.{word}
use Rattle.model.specs.Kinds.{sequence_kind, map_kind, union_kind, map_mode_kind, is_container, variant_of}
use Rattle.model.specs.Tracing.{Marks, place_limit}
use Rattle.model.specs.Emission.{shown, Places, admitted, place_of, places_of, is_missing, dataless, walk, Field, mk, Fields, no_fields, emits_struct, type_of, strategy_of, name_of, by_name, arranged, field_of, fields_of, child_count, two_bytes, nullable_byte, records_of, records_in, names_of, names_in}
use Rattle.places.specs.Layout.{kind_word}
use Rattle.refine.specs.laws.numbered.Tree.{Spot, spot, Spots, no_spots, num, kind_s}
use Rattle.refine.specs.laws.numbered.Numbers.{Good}
use Rattle.refine.specs.laws.words.Places.{Rep, Row, own_words}
use Rattle.refine.specs.laws.numbered.Erased.{erase, erase_in}
use Rattle.places.specs.Reading.{child_name}
use Rattle.walk.specs.Walk.{dataless_at}
use Rattle.putting.specs.Put.{record_of, Writing, writing, both}
use Rattle.fields.specs.Fields.{field_count, nullable_at, is_dictionary, is_leaf}
use Rattle.schema.specs.Emit.{field_at, fields_below, emitted_by, emitted_at, level_limit}
use Rattle.emission.specs.laws.order.Arranged.{by_number_s, order_s, Enumerates, Rising, Orders, FitS}
use Rattle.emission.specs.laws.secondwalk.Writing.{wrote, Writes, writes_next, writes_as, writes_both, record_is}
use Rattle.emission.specs.laws.firstwalk.Places.{many_s, AllS}
use Rattle.emission.specs.laws.firstwalk.Children.{fields_of_field}
use Rattle.emission.specs.laws.secondwalk.Words.{nullable_is, Neat, name_is, short_name, all_order, count_order, few, Kid, known, place_is, dataless_is}
use Rattle.emission.specs.laws.secondwalk.Fields.{Passed, arranged_is, arranged_map, each, fields_s, passed, resorted, walk_below, zip}
use Rattle.emission.specs.laws.secondwalk.Children.{Inner, Told, below_write, counted}

-- ---- a place
swap : (a c d : Bool) → (a && c && d) ≡ (a && d && c)
swap true true true = refl
swap true true false = refl
swap true false true = refl
swap true false false = refl
swap false true true = refl
swap false true false = refl
swap false false true = refl
swap false false false = refl

list_small : (options : ℕ) → list_type options < 256
unfolding when◌then◌else◌
list_small options = cases (sequence_as_large_list options) (λ e. rw e (omega arith)) (λ e. rw e (omega arith))

dictionary_small : (options : ℕ) → dictionary_type options < 256
unfolding when◌then◌else◌
dictionary_small options = cases (string_as_large_utf8 options) (λ e. rw e (omega arith)) (λ e. rw e (omega arith))

type_small : (options k : ℕ) → k < 256 → type_of options k < 256
unfolding type_of when◌then◌else◌
type_small options k l =
    cases (eqb k sequence_kind) (λ e. rw e (list_small options)) (λ e. rw e (
    cases (emits_struct k) (λ f. rw f (omega arith)) (λ f. rw f (
    cases ((eqb k utf8 || eqb k large_utf8) && string_dictionary_encoding options) (λ g. rw g (dictionary_small options)) (λ g. rw g l)))))

-- nothing below a place that is no container
arranged_none : (options k m : ℕ) → is_container k ≡ false → arranged k (fields_s options k m 0 (order_s false k no_spots)) ≡ no_fields
unfolding arranged order_s by_number_s fields_of places_of by_name when◌then◌else◌
arranged_none options k m c =
    let l : k < sequence_kind = leb-false sequence_kind k c in
    rw (ne_eqb k union_kind (omega arith), ne_eqb k map_kind (omega arith), ne_eqb k map_mode_kind (omega arith)) refl

count_none : (options : ℕ) (text t : List ℕ) (n p k m : ℕ) → is_container k ≡ false → Enumerates t false k p 0 (order_s false k no_spots) → field_count t k p ≡ 0
unfolding order_s
count_none options text t n p k m c h =
    let l : k < sequence_kind = leb-false sequence_kind k c in
    (counted options text t n p k m no_spots (ne_eqb k map_kind (omega arith)) (omega arith)
    (all_order (Told options text t n p k m) false k no_spots tt) (λ e. absurd (let z : k ≡ union_kind = eqb-true k union_kind e in omega arith)) h
    ).0
    ∙ ap child_count (sym (arranged_is options k m no_spots (ne_eqb k map_kind (omega arith))) ∙ arranged_none options k m c)

module _ (options : ℕ) (text t : List ℕ) where
  emitted_leaf : (levels p : ℕ) (lacking : Bool) (number : ℕ) (w : Writing) → is_leaf options t false p ≡ true
      → emitted_at options text t (suc levels) p lacking number w ≡ field_at options text t p (nullable_at t p lacking) number w
  unfolding emitted_at emitted_by when◌then◌else◌
  emitted_leaf levels p lacking number w e = rw e refl

  emitted_below_lem : (levels p : ℕ) (lacking : Bool) (number : ℕ) (w : Writing) → is_leaf options t false p ≡ false
      → emitted_at options text t (suc levels) p lacking number w
      ≡ fields_below t (emitted_at options text t levels) (word t p kind_word) p (field_at options text t p (nullable_at t p lacking) number w)
  unfolding emitted_at emitted_by when◌then◌else◌
  emitted_below_lem levels p lacking number w e = rw e refl

  module _ (n p : ℕ) (b : Marks) (k m : ℕ) (ks : Spots) (r : Row t p kind_word (k ∷ nullable_byte b ∷ m ∷ [])) (few : many_s ks < place_limit) (kids : AllS (Kid text t n k p) ks)
      (order : Enumerates t false k p 0 (order_s false k ks)) where
    abbrev pub ps : Places
    ps = places_of k m (erase_in (order_s false k ks))

    abbrev as_words : Bool
    as_words = eqb k union_kind && dataless ps && enums_without_data_as_strings options

    dictionary_is : is_dictionary options t p ≡ as_words
    dictionary_is =
        let e₀ : word t p kind_word ≡ k = r 0 (omega arith) in
        rw e₀ (cases (eqb k union_kind)
        (λ e.
        let z : k ≡ union_kind = eqb-true k union_kind e in
        let a : AllS (Kid text t n k p) (order_s false k ks) = all_order (Kid text t n k p) false k ks kids in
        let d : dataless_at t p ≡ dataless ps = union_dataless z (order_s false k ks) (rw count_order (omega arith)) a order in
        rw d (swap (eqb k union_kind) (enums_without_data_as_strings options) (dataless ps)))
        (λ e. rw e refl))
      where
        union_dataless : k ≡ union_kind → (is : Spots) → many_s is ≤ place_limit → AllS (Kid text t n k p) is → Enumerates t false k p 0 is → dataless_at t p ≡ dataless (places_of k m (erase_in is))
        union_dataless z is l a h = rw z (dataless_is text t n p m is l (rw z at a) (rw z at h))

    -- the record and the name of a dictionary, and of any other place
    own_dictionary : (lacking : Bool) (number : ℕ) (name : List ℕ) → as_words ≡ true → child_name text t p ≡ name
        → Writes (field_at options text t p (nullable_at t p lacking) number)
        (records_of (mk (dictionary_type options) (admitted lacking b) no_strategy number name no_fields))
        (names_of (mk (dictionary_type options) (admitted lacking b) no_strategy number name no_fields))
    unfolding field_at records_of records_in names_of names_in when◌then◌else◌
    own_dictionary lacking number name d nm w room =
        let e₁ = nullable_is t p lacking b (r 1 (omega arith)) in
        let short : length name < 65536 = rw nm at (short_name text t p) in
        let x = writes_as (both (record_of (dictionary_type options) (nullable_byte (admitted lacking b)) no_strategy number (length name) 0) name) _ _ _ _
        (record_is (dictionary_type options) (nullable_byte (admitted lacking b)) no_strategy number name 0 short (omega arith)) (sym (append-nil name))
        (writes_both (record_of (dictionary_type options) (nullable_byte (admitted lacking b)) no_strategy number (length name) 0) name) in
        rw (dictionary_is ∙ d, e₁, nm) (x w room)

    own_field : (lacking : Bool) (number : ℕ) (name : List ℕ) (fs : Fields) → as_words ≡ false → child_name text t p ≡ name → k < 256 → field_count t k p ≡ child_count fs → child_count fs < 65536
        → Writes (field_at options text t p (nullable_at t p lacking) number)
        (type_of options k ∷ nullable_byte (admitted lacking b) ∷ strategy_of k ∷ number ∷ two_bytes (length name) ++ two_bytes (child_count fs)) name
    unfolding field_at when◌then◌else◌
    own_field lacking number name fs d nm kl c cl w room =
        let e₀ : word t p kind_word ≡ k = r 0 (omega arith) in
        let e₁ = nullable_is t p lacking b (r 1 (omega arith)) in
        let short : length name < 65536 = rw nm at (short_name text t p) in
        let ty : type_of options k % 256 ≡ type_of options k = mod-eq_of_lt (type_small options k kl) in
        let x = writes_as (both (record_of (type_of options k) (nullable_byte (admitted lacking b)) (strategy_of k) number (length name) (child_count fs)) name) _ name _ name
        (record_is (type_of options k) (nullable_byte (admitted lacking b)) (strategy_of k) number name (child_count fs) short cl) refl
        (writes_both (record_of (type_of options k) (nullable_byte (admitted lacking b)) (strategy_of k) number (length name) (child_count fs)) name) in
        rw (dictionary_is ∙ d) (rw (e₀, e₁, nm, ty, c) (x w room))

    leaf_count : is_container k ≡ false → ks ≡ no_spots → field_count t k p ≡ 0
    leaf_count c z = count_none options text t n p k m c (rw z at order)

    counts : (eqb k map_kind ≡ true → many_s ks ≡ 2) → AllS (Told options text t n p k m) (order_s false k ks) → (eqb k union_kind ≡ true → Rising 0 (order_s false k ks))
        → (field_count t k p ≡ child_count (arranged k (fields_s options k m 0 (order_s false k ks)))) × (child_count (arranged k (fields_s options k m 0 (order_s false k ks))) < 65536)
    unfolding field_count when◌then◌else◌
    counts two told rises = cases (eqb k map_kind)
        (λ e. rw (arranged_map options k m ks e, e) (refl, omega arith))
        (λ e. rw (arranged_is options k m ks e) (counted options text t n p k m ks e few told rises order))

    leaf_is : (is_container k ≡ true → as_words ≡ true) → is_leaf options t false p ≡ true
    unfolding is_leaf
    leaf_is h =
        let e₀ : word t p kind_word ≡ k = r 0 (omega arith) in
        rw (dictionary_is, e₀) (cases (is_container k) (λ c. rw (c, h c) refl) (λ c. rw c refl))

    inner_is : is_container k ≡ true → as_words ≡ false → is_leaf options t false p ≡ false
    unfolding is_leaf
    inner_is c d = let e₀ : word t p kind_word ≡ k = r 0 (omega arith) in rw (dictionary_is, e₀, c, d) refl

    module _ (levels number : ℕ) (lacking : Bool) (name : List ℕ) (nm : child_name text t p ≡ name) where
      abbrev it : Field
      it = field_of options name number (shown (admitted lacking b) k ps)

      place_dictionary : as_words ≡ true → Writes (emitted_at options text t (suc levels) p lacking number) (records_of it) (names_of it)
      unfolding field_of when◌then◌else◌
      place_dictionary d w room =
          rw (emitted_leaf levels p lacking number w (leaf_is (λ c. d)), d) (own_dictionary lacking number name d nm w (rw d at room))

      place_leaf : as_words ≡ false → is_container k ≡ false → ks ≡ no_spots → k < 256 → Writes (emitted_at options text t (suc levels) p lacking number) (records_of it) (names_of it)
      unfolding field_of records_of records_in names_of names_in when◌then◌else◌
      place_leaf d c z kl w room =
          let q : arranged k (fields_s options k m 0 (order_s false k ks)) ≡ no_fields = rw z (arranged_none options k m c) in
          let own = own_field lacking number name no_fields d nm kl (leaf_count c z) (omega arith) in
          rw (emitted_leaf levels p lacking number w (leaf_is (λ c'. absurd (true≢false (sym c' ∙ c)))), d, q)
          (writes_as (field_at options text t p (nullable_at t p lacking) number) (◌++◌ {A = ℕ} (type_of options k ∷ nullable_byte (admitted lacking b) ∷ strategy_of k ∷ number ∷ two_bytes (length {A = ℕ} name)) (two_bytes (child_count no_fields))) name _ (name ++ []) (sym (append-nil _)) (sym (append-nil name)) own w (rw (d, q) at room))

      place_inner : as_words ≡ false → is_container k ≡ true → k < 256 → (eqb k map_kind ≡ true → many_s ks ≡ 2) →
          AllS (Told options text t n p k m) (order_s false k ks) → (eqb k union_kind ≡ true → Rising 0 (order_s false k ks))
          → AllS (Inner options text t n p k m (emitted_at options text t levels)) (order_s true k ks) → Enumerates t true k p 0 (order_s true k ks)
          → Writes (emitted_at options text t (suc levels) p lacking number) (records_of it) (names_of it)
      unfolding field_of records_of names_of when◌then◌else◌
      place_inner d c kl two told rises inner h w room =
          let e₀ : word t p kind_word ≡ k = r 0 (omega arith) in
          let fs : Fields = arranged k (fields_s options k m 0 (order_s false k ks)) in
          let own = own_field lacking number name fs d nm kl (counts two told rises).0 (counts two told rises).1 in
          let under = below_write options text t n p k m (emitted_at options text t levels) ks few two (r 2 (omega arith)) inner h in
          let all = writes_next (field_at options text t p (nullable_at t p lacking) number)
          (fields_below t (emitted_at options text t levels) k p) (◌++◌ {A = ℕ} (type_of options k ∷ nullable_byte (admitted lacking b) ∷ strategy_of k ∷ number ∷ two_bytes (length {A = ℕ} name)) (two_bytes (child_count (arranged k (fields_s options k m 0 (order_s false k ks)))))) name (records_in fs) (names_in fs) own under in
          rw (emitted_below_lem levels p lacking number w (inner_is c d), e₀, d) (all w (rw d at room))

-- ---- the second walk
own_row : (t : List ℕ) (p : ℕ) (b : Marks) (k m : ℕ) (ks : Spots) → Row t p kind_word (own_words b k m ks) → Row t p kind_word (k ∷ nullable_byte b ∷ m ∷ [])
own_row t p b k m ks r zero l = r 0 (omega arith)
own_row t p b k m ks r (suc zero) l = r 1 (omega arith)
own_row t p b k m ks r (suc (suc zero)) l = r 2 (omega arith)
own_row t p b k m ks r (suc (suc (suc f))) l = absurd (omega arith)

module _ (options : ℕ) (text t : List ℕ) (n : ℕ) (most : n ≤ place_limit) where
  -- the children, of which the walk refuses none
  told_below : (p : ℕ) (b : Marks) (lacking : Bool) (k m : ℕ) (ks : Spots) → AllS (Kid text t n k p) ks → is_container k ≡ true
      → (eqb k union_kind && dataless (places_of k m (erase_in (order_s false k ks))) && enums_without_data_as_strings options) ≡ false → walk options (place_of lacking (erase (spot p b k m ks))) ≡ none
      → AllS (Told options text t n p k m) (order_s false k ks)
  told_below p b lacking k m ks kids c d e =
      zip (Kid text t n k p) (Passed options k m) (order_s false k ks) (all_order (Kid text t n k p) false k ks kids)
      (passed options k m (order_s false k ks) (walk_below options (admitted lacking b) k (places_of k m (erase_in (order_s false k ks))) c d (rw (place_is lacking p b k m ks) at e)))

  pub second : (levels : ℕ) (u : Spot) (lacking : Bool) (number : ℕ) (name : List ℕ) → child_name text t (num u) ≡ name → Good n u → Rep text t u → FitS u → Orders t u → Neat u → n ≤ num u + levels
      → walk options (place_of lacking (erase u)) ≡ none
      → Writes (emitted_at options text t levels (num u) lacking number) (records_of (field_of options name number (place_of lacking (erase u))))
      (names_of (field_of options name number (place_of lacking (erase u))))
  second zero (spot p b k m ks) lacking number name nm g r f o z l e = absurd (omega (arith, g.0))
  second (suc levels) (spot p b k m ks) lacking number name nm g r f o z l e =
      let kids : AllS (Kid text t n k p) ks = known text t n k p p ks (omega arith) r.1 g.2 f.1 o.2 z.2 in
      let some : many_s ks < place_limit = omega (arith, few n p ks g.0 g.2) in
      let row : Row t p kind_word (k ∷ nullable_byte b ∷ m ∷ []) = own_row t p b k m ks r.0 in
      rw (place_is lacking p b k m ks)
      (cases (eqb k union_kind && dataless (places_of k m (erase_in (order_s false k ks))) && enums_without_data_as_strings options)
      (λ d. place_dictionary options text t n p b k m ks row some kids o.0 levels number lacking name nm d)
      (λ d. cases (is_container k)
      (λ c.
      let told = told_below p b lacking k m ks kids c d e in
      place_inner options text t n p b k m ks row some kids o.0 levels number lacking name nm d c f.0 z.1 told o.3
      (each (Told options text t n p k m) (Inner options text t n p k m (emitted_at options text t levels))
      (λ s h x v a. (
        a,
        second levels v (is_missing k m h) (variant_of s) (name_of s) (name_is k a.0.cell a.0.step) a.0.good a.0.rep
            a.0.fit a.0.orders a.0.neat (omega (arith, a.0.above)) a.1.1,
      ))
      (order_s true k ks) (resorted (Told options text t n p k m) k ks told))
      o.1)
      (λ c. place_leaf options text t n p b k m ks row some kids o.0 levels number lacking name nm d c (z.0 c) f.0)))

  -- the same for the fields below a place that is no union
  pub below_writes : (levels p : ℕ) (b : Marks) (lacking : Bool) (k m : ℕ) (ks : Spots) (number : ℕ) (name : List ℕ)
      → Good n (spot p b k m ks) → Rep text t (spot p b k m ks) → FitS (spot p b k m ks) → Orders t (spot p b k m ks) → Neat (spot p b k m ks) → n ≤ p + 1 + levels
      → is_container k ≡ true → eqb k union_kind ≡ false → walk options (place_of lacking (erase (spot p b k m ks))) ≡ none
      → Writes (fields_below t (emitted_at options text t levels) k p) (records_in (fields_of_field (field_of options name number (place_of lacking (erase (spot p b k m ks))))))
      (names_in (fields_of_field (field_of options name number (place_of lacking (erase (spot p b k m ks))))))
  unfolding field_of when◌then◌else◌
  below_writes levels p b lacking k m ks number name g r f o z l c v e =
      let kids : AllS (Kid text t n k p) ks = known text t n k p p ks (omega arith) r.1 g.2 f.1 o.2 z.2 in
      let some : many_s ks < place_limit = omega (arith, few n p ks g.0 g.2) in
      let told = told_below p b lacking k m ks kids c (rw v refl) e in
      rw (place_is lacking p b k m ks, v)
      (below_write options text t n p k m (emitted_at options text t levels) ks some z.1 (r.0 2 (omega arith))
      (each (Told options text t n p k m) (Inner options text t n p k m (emitted_at options text t levels))
      (λ s h x u a. (
        a,
        second levels u (is_missing k m h) (variant_of s) (name_of s) (name_is k a.0.cell a.0.step) a.0.good a.0.rep
            a.0.fit a.0.orders a.0.neat (omega (arith, a.0.above)) a.1.1,
      ))
      (order_s true k ks) (resorted (Told options text t n p k m) k ks told))
      o.1)

-- from the start: the bytes, and the buffers' tails
from_start : (r n fields names : List ℕ) → wrote r n (writing 0 0 fields names) ≡ writing (length r) (length n) (r ++ drop (length r) fields) (n ++ drop (length n) names)
from_start r n fields names =
    let e : 0 + length r ≡ length r = omega arith in
    let f : 0 + length n ≡ length n = omega arith in
    rw (e, f) refl

-- below the root, from the start of both buffers
pub root_written : (options : ℕ) (text t : List ℕ) (n : ℕ) (u : Spot) (name : List ℕ) (fields names : List ℕ) → n ≤ place_limit → num u ≡ 0
    → Good n u → Rep text t u → FitS u → Orders t u → Neat u → is_container (kind_s u) ≡ true → eqb (kind_s u) union_kind ≡ false → walk options (place_of false (erase u)) ≡ none
    → length (records_in (fields_of_field (field_of options name 0 (place_of false (erase u))))) ≤ length fields
    → length (names_in (fields_of_field (field_of options name 0 (place_of false (erase u))))) ≤ length names
    → fields_below t (emitted_at options text t level_limit) (kind_s u) 0 (writing 0 0 fields names)
    ≡ writing (length (records_in (fields_of_field (field_of options name 0 (place_of false (erase u)))))) (length (names_in (fields_of_field (field_of options name 0 (place_of false (erase u))))))
    (records_in (fields_of_field (field_of options name 0 (place_of false (erase u)))) ++ drop (length (records_in (fields_of_field (field_of options name 0 (place_of false (erase u)))))) fields)
    (names_in (fields_of_field (field_of options name 0 (place_of false (erase u)))) ++ drop (length (names_in (fields_of_field (field_of options name 0 (place_of false (erase u)))))) names)
root_written options text t n (spot p b k m ks) name fields names most q g r f o z c v e x y =
    let rs : List ℕ = records_in (fields_of_field (field_of options name 0 (place_of false (erase (spot p b k m ks))))) in
    let ns : List ℕ = names_in (fields_of_field (field_of options name 0 (place_of false (erase (spot p b k m ks))))) in
    let a = below_writes options text t n most level_limit p b false k m ks 0 name g r f o z (omega arith) c v e (writing 0 0 fields names) (omega arith, omega arith) in
    rw q at a ∙ from_start rs ns fields names
