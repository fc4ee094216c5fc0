-- The second walk over a place's children: how many fields there are, and what is written of them.
use Rattle.std.specs.Prelude.{◌≡◌, leb, length}
use Rattle.std.proofs.Math.Path.{refl, sym}
use Rattle.std.proofs.Common.{ap, ◌∙◌}
use Rattle.std.proofs.Math.Bool.{true, false}
use mathlib.Core.List.{List, [], ◌++◌, append_assoc}
use Prim.Native.Nat.{◌-◌, ℕ, zero, suc, ◌+◌, ◌%◌, ◌^◌, ◌<◌, ◌≤◌}
use Rattle.std.proofs.Math.Nat.{mod-eq_of_lt}
use native.Mathlib.Omega.{arith}
use Rattle.std.proofs.Math.Dec.{eqb}
use borrow.Author.Tests.{eqb-true, ne_eqb, leb-false}
use Rattle.logic.specs.Test.{when◌then◌else◌}
use Rattle.logic.specs.laws.Test.{cases}
use Rattle.datatype.specs.Codes.{struct, no_strategy}
use Rattle.words.specs.Word.{word}
use Rattle.model.specs.Kinds.{map_kind, union_kind, Step, variant_of}
use Rattle.model.specs.Tracing.{place_limit}
use Rattle.model.specs.Emission.{place_of, places_of, is_missing, Field, Fields, more, entries_name, name_of, gaps, arranged, field_of, fields_of, child_count, records_of, records_in, names_of, names_in}
use Rattle.places.specs.Layout.{samples_word, held_word}
use Rattle.refine.specs.laws.numbered.Tree.{Spot, Spots, no_spots, child, num}
use Rattle.refine.specs.laws.numbered.Erased.{erase}
use Rattle.places.specs.Reading.{variant_at, child_limit, next_child}
use Rattle.walk.specs.Walk.{sum_of, gaps_at}
use Rattle.putting.specs.Put.{record_of, Writing, gaps_in, entries_in}
use Rattle.fields.specs.Fields.{count_from, field_count}
use Rattle.schema.specs.Emit.{Writer, child_in, fields_from, fields_below}
use Rattle.emission.specs.laws.order.Arranged.{order_s, Enumerates, Rising}
use Rattle.emission.specs.laws.secondwalk.Writing.{Writes, writes_none, writes_next, writes_as, gap_records, gap_records_lem, gap_names, gap_count, writes_gaps, entries_none}
use Rattle.emission.specs.laws.firstwalk.Places.{many_s, AllS}
use Rattle.emission.specs.laws.secondwalk.Words.{variant_is, count_order, Kid}
use Rattle.emission.specs.laws.secondwalk.Fields.{Passed, arranged_is, arranged_map, entries_names, entries_records, entries_write, fields_s, same_order, small}

-- ---- how many fields
-- the slot behind the last child's
abbrev slot_after : List ℕ → ℕ → ℕ
slot_after t last = when eqb last 0 then 0 else variant_at t last + 1

module _ (options : ℕ) (text t : List ℕ) (n p k m : ℕ) where
  abbrev pub Told : Step → ℕ → ℕ → Spot → Type 0
  Told s h x u = Kid text t n k p s h x u × Passed options k m s h x u

  -- outside unions as many as children
  count_plain : (left c last : ℕ) (ks : Spots) → eqb k union_kind ≡ false → many_s ks ≤ left → c + left ≤ 2048 → AllS Told ks → Enumerates t false k p last ks
      → count_from t k p left c (next_child t false k p last) ≡ c + many_s ks
  unfolding count_from when◌then◌else◌
  count_plain zero c last no_spots f l z a h = omega arith
  count_plain (suc left) c last no_spots f l z a h = rw h (omega arith)
  count_plain zero c last (child s i j u ks) f l z a h = absurd (omega arith)
  count_plain (suc left) c last (child s i j u ks) f l z a h =
      let on : sum_of c 1 ≡ c + 1 = let x : c + 1 < 2 ^ 32 = omega arith in mod-eq_of_lt x in
      let ih = count_plain left (c + 1) (num u) ks f (omega arith) (omega arith) a.1 h.1 in
      rw h.0 (rw (ne_eqb (num u) 0 (omega (arith, a.0.0.above)), count_from) (rw (f, on, ih) (omega arith)))

  fields_plain : (slot : ℕ) (ks : Spots) → eqb k union_kind ≡ false → child_count (fields_s options k m slot ks) ≡ many_s ks
  unfolding fields_of places_of gaps when◌then◌else◌
  fields_plain slot no_spots f = refl
  fields_plain slot (child s i j u ks) f = rw f (ap suc (fields_plain (variant_of s + 1) ks f))

  -- of a union up to the last slot
  count_union : (left last : ℕ) (ks : Spots) → eqb k union_kind ≡ true → many_s ks ≤ left → slot_after t last ≤ 128 → AllS Told ks → Rising (slot_after t last) ks → Enumerates t false k p last ks
      → (count_from t k p left (slot_after t last) (next_child t false k p last) ≡ slot_after t last + child_count (fields_s options k m (slot_after t last) ks))
      × (slot_after t last + child_count (fields_s options k m (slot_after t last) ks) ≤ 128)
  unfolding count_from fields_of places_of when◌then◌else◌
  count_union zero last no_spots f l z a y h = (omega arith, omega arith)
  count_union (suc left) last no_spots f l z a y h = ((rw h (omega arith)), omega arith)
  count_union zero last (child s i j u ks) f l z a y h = absurd (omega arith)
  count_union (suc left) last (child s i j u ks) f l z a y h =
      let up : 0 < num u = omega (arith, a.0.0.above) in
      let no : eqb (num u) 0 ≡ false = ne_eqb (num u) 0 (omega arith) in
      let v : variant_at t (num u) ≡ variant_of s = variant_is k a.0.0.cell a.0.0.step in
      let few : variant_of s < 128 = small k s a.0.1.0 a.0.0.plain in
      let after : slot_after t last ≤ variant_at t (num u) = rw v y.0 in
      let sl : slot_after t (num u) ≡ variant_of s + 1 = rw (no, v) refl in
      let on : sum_of (variant_at t (num u)) 1 ≡ variant_of s + 1 = rw v (let x : variant_of s + 1 < 2 ^ 32 = omega arith in mod-eq_of_lt x) in
      let ih = count_union left (num u) ks f (omega arith) (omega arith) a.1 (rw sl y.1) h.1 in
      let ih' = rw sl at ih in
      let g = gap_count (slot_after t last) (variant_of s - slot_after t last)
      (more (field_of options (name_of s) (variant_of s) (place_of (is_missing k m i) (erase u))) (fields_s options k m (variant_of s + 1) ks)) in (
        rw h.0 (rw (no, count_from) (rw (f, on, ih'.0, g) (omega arith))),
        rw (f, g) (omega (arith, ih'.1)),
      )

  pub counted : (ks : Spots) → eqb k map_kind ≡ false → many_s ks < place_limit → AllS Told (order_s false k ks) →
      (eqb k union_kind ≡ true → Rising 0 (order_s false k ks)) → Enumerates t false k p 0 (order_s false k ks)
      → (field_count t k p ≡ child_count (fields_s options k m 0 (order_s true k ks))) × (child_count (fields_s options k m 0 (order_s true k ks)) < 65536)
  unfolding field_count when◌then◌else◌
  counted ks e l a y h = rw e (cases (eqb k union_kind)
      (λ f.
      let same : order_s true k ks ≡ order_s false k ks = same_order k ks f in
      let c = count_union child_limit 0 (order_s false k ks) f (rw count_order (omega arith)) (omega arith) a (y f) h in
      rw same (c.0 ∙ omega arith, omega (arith, c.1)))
      (λ f.
      let c = count_plain child_limit 0 0 (order_s false k ks) f (rw count_order (omega arith)) (omega arith) a h in
      let d = fields_plain 0 (order_s true k ks) f in
      rw (d, c, count_order false k ks, count_order true k ks) (omega arith, omega arith)))

  -- ---- the fields below a place
  abbrev pub Inner : Writer → Step → ℕ → ℕ → Spot → Type 0
  Inner inner s h x u =
      Told s h x u
      × Writes (inner (num u) (is_missing k m h) (variant_of s)) (records_of (field_of options (name_of s) (variant_of s) (place_of (is_missing k m h) (erase u))))
      (names_of (field_of options (name_of s) (variant_of s) (place_of (is_missing k m h) (erase u))))

  abbrev gaps_of : ℕ → Step → ℕ
  gaps_of slot s = when eqb k union_kind then variant_of s - slot else 0

  gaps_at_lem : (slot : ℕ) (s : Step) (q : ℕ) → variant_at t q ≡ variant_of s → gaps_at k t slot q ≡ gaps_of slot s
  unfolding gaps_at when◌then◌else◌
  gaps_at_lem slot s q v = rw v (cases (eqb k union_kind)
      (λ e. rw e (cases (leb slot (variant_of s)) (λ f. rw f refl) (λ f. let l : variant_of s < slot = leb-false slot (variant_of s) f in let z : variant_of s - slot ≡ 0 = omega arith in rw (f, z) refl)))
      (λ e. rw e refl))

  gaps_fit : (slot : ℕ) (s : Step) → slot ≤ 128 → variant_of s < 128 → slot + gaps_of slot s ≤ 256
  unfolding when◌then◌else◌
  gaps_fit slot s l f = cases (eqb k union_kind) (λ e. rw e (omega arith)) (λ e. rw e (omega arith))

  child_in_lem : (inner : Writer) (slot : ℕ) (s : Step) (h x : ℕ) (u : Spot) (w : Writing) → word t p samples_word ≡ m → Told s h x u
      → child_in t inner k p slot (num u) w ≡ inner (num u) (is_missing k m h) (variant_of s) (gaps_in slot (gaps_of slot s) w)
  unfolding child_in
  child_in_lem inner slot s h x u w sm a =
      let v : variant_at t (num u) ≡ variant_of s = variant_is k a.0.cell a.0.step in
      let he : word t (num u) held_word ≡ h = a.0.cell.row 4 (omega arith) in
      let few : variant_of s < 128 = small k s a.1.0 a.0.plain in
      let md : variant_of s % 256 ≡ variant_of s = let y : variant_of s < 256 = omega arith in mod-eq_of_lt y in
      rw (gaps_at_lem slot s (num u) v, v, he, sm, md) refl

  fields_write : (inner : Writer) (left slot last : ℕ) (ks : Spots) → many_s ks ≤ left → slot ≤ 128 → word t p samples_word ≡ m → AllS (Inner inner) ks → Enumerates t true k p last ks
      → Writes (fields_from t inner k p left slot (next_child t true k p last)) (records_in (fields_s options k m slot ks)) (names_in (fields_s options k m slot ks))
  unfolding fields_from fields_of places_of records_in names_in
  fields_write inner zero slot last no_spots l z sm a h w room = writes_none w room
  fields_write inner (suc left) slot last no_spots l z sm a h w room = rw h (writes_none w room)
  fields_write inner zero slot last (child s i j u ks) l z sm a h w room = absurd (omega arith)
  fields_write inner (suc left) slot last (child s i j u ks) l z sm a h w room =
      let v : variant_at t (num u) ≡ variant_of s = variant_is k a.0.0.0.cell a.0.0.0.step in
      let few : variant_of s < 128 = small k s a.0.0.1.0 a.0.0.0.plain in
      let on : sum_of (variant_at t (num u)) 1 ≡ variant_of s + 1 = rw v (let x : variant_of s + 1 < 2 ^ 32 = omega arith in mod-eq_of_lt x) in
      let f : Field = field_of options (name_of s) (variant_of s) (place_of (is_missing k m i) (erase u)) in
      let fs : Fields = fields_s options k m (variant_of s + 1) ks in
      let ih = fields_write inner left (variant_of s + 1) (num u) ks (omega arith) (omega arith) sm a.1 h.1 in
      let one-child = writes_next (gaps_in slot (gaps_of slot s)) (inner (num u) (is_missing k m i) (variant_of s)) (gap_records slot (gaps_of slot s)) []
      (records_of f) (names_of f) (writes_gaps slot (gaps_of slot s) (gaps_fit slot s z few)) a.0.1 in
      let all = writes_next (λ y. inner (num u) (is_missing k m i) (variant_of s) (gaps_in slot (gaps_of slot s) y)) (fields_from t inner k p left (variant_of s + 1) (next_child t true k p (num u)))
      (gap_records slot (gaps_of slot s) ++ records_of f) (names_of f) (records_in fs) (names_in fs) one-child ih in
      let er : (gap_records slot (gaps_of slot s) ++ records_of f) ++ records_in fs ≡ records_in (gaps slot (gaps_of slot s) (more f fs)) =
      append_assoc (gap_records slot (gaps_of slot s)) (records_of f) (records_in fs) ∙ sym (gap_records_lem slot (gaps_of slot s) (more f fs)) in
      let en : names_of f ++ names_in fs ≡ names_in (gaps slot (gaps_of slot s) (more f fs)) = sym (gap_names slot (gaps_of slot s) (more f fs)) in
      let step : fields_from t inner k p (suc left) slot (next_child t true k p last) w
      ≡ fields_from t inner k p left (variant_of s + 1) (next_child t true k p (num u)) (inner (num u) (is_missing k m i) (variant_of s) (gaps_in slot (gaps_of slot s) w)) =
      rw h.0 (rw (ne_eqb (num u) 0 (omega (arith, a.0.0.0.above)), fields_from) (rw (on, child_in_lem inner slot s i j u w sm a.0.0) refl)) in
      step ∙ writes_as (λ y. fields_from t inner k p left (variant_of s + 1) (next_child t true k p (num u)) (inner (num u) (is_missing k m i) (variant_of s) (gaps_in slot (gaps_of slot s) y)))
      _ _ _ _ er en all w room

  -- with a map's entries
  pub below_write : (inner : Writer) (ks : Spots) → many_s ks < place_limit → (eqb k map_kind ≡ true → many_s ks ≡ 2) → word t p samples_word ≡ m →
      AllS (Inner inner) (order_s true k ks) → Enumerates t true k p 0 (order_s true k ks)
      → Writes (fields_below t inner k p) (records_in (arranged k (fields_s options k m 0 (order_s false k ks)))) (names_in (arranged k (fields_s options k m 0 (order_s false k ks))))
  below_write inner ks l two sm a h w room = cases (eqb k map_kind) (λ e. with_entries e w room) (λ e. without e w room)
    where
      fs : Fields
      fs = fields_s options k m 0 (order_s true k ks)

      all : Writes (fields_from t inner k p child_limit 0 (next_child t true k p 0)) (records_in fs) (names_in fs)
      all = fields_write inner child_limit 0 0 (order_s true k ks) (rw count_order (omega arith)) (omega arith) sm a h

      without : eqb k map_kind ≡ false →
          Writes (fields_below t inner k p) (records_in (arranged k (fields_s options k m 0 (order_s false k ks))))
          (names_in (arranged k (fields_s options k m 0 (order_s false k ks))))
      without e w room = rw (entries_none k w e, arranged_is options k m ks e) (all w (rw (arranged_is options k m ks e) at room))

      with_entries : eqb k map_kind ≡ true →
          Writes (fields_below t inner k p) (records_in (arranged k (fields_s options k m 0 (order_s false k ks))))
          (names_in (arranged k (fields_s options k m 0 (order_s false k ks))))
      with_entries e =
          let un : eqb k union_kind ≡ false = (let z : k ≡ map_kind = eqb-true k map_kind e in rw z refl) in
          let c : child_count fs ≡ 2 = fields_plain 0 (order_s true k ks) un ∙ count_order true k ks ∙ two e in
          rw (arranged_map options k m ks e)
          (writes_as (fields_below t inner k p) _ _ _ _ (entries_records fs c) (entries_names fs)
          (writes_next (entries_in k) (fields_from t inner k p child_limit 0 (next_child t true k p 0)) (record_of struct 0 no_strategy 0 (length entries_name) 2) entries_name (records_in fs) (names_in fs)
          (entries_write k e) all))
