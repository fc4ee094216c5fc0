-- Batches one after another: the values of commands that are read through, and then of those that follow, with their offsets moved on.
use Rattle.std.specs.Prelude.{◌≡◌, true, ltb, take, drop}
use Rattle.std.proofs.Math.Path.{refl, sym, ap, ap₂}
use Rattle.std.proofs.Common.{◌∙◌, true≢false, le_refl, take-append-drop, length-drop, length-take-le, ltb-true, ltb-false}
use mathlib.Core.List.Permᴰ
use mathlib.Core.List.{List, [], ◌∷◌, ◌++◌, flatten, Permᴰ}
use Rattle.std.proofs.Math.Option.{none, some}
use Prim.Native.Nat.{ℕ, zero, suc, ◌+◌, ◌≤◌, ◌<◌}
use native.Mathlib.Omega.{arith}
use Rattle.std.proofs.Math.ListN.{length, length-append}
use Rattle.std.proofs.Math.Seq.{take_at, drop_at}
use Rattle.logic.specs.laws.Test.{cases}
use Rattle.logic.specs.All.{All}
use Rattle.model.specs.Reading.{Value, Got, enough, records_from, values, is_whole, all_whole}
use Rattle.model.specs.Answer.{Batch}
use Rattle.model.specs.Demand3.{IsRecord, Split, batch, records_of}
use Rattle.equality.specs.laws.Base.{and_left, and_right, and_both}
use Rattle.equality.specs.laws.reading.Commands.{agree_further, agree_earlier}
use Rattle.equality.specs.laws.reading.Values.{done, value_whole, value_on}
use Rattle.equality.specs.laws.reading.Records.{record_at, records_end, records_cut, records_more, record_cases}
use Rattle.equality.specs.laws.reading.Locality.{value_kept, value_bound, value_moves, moved_all, move_value}
use Rattle.equality.specs.laws.reading.Offsets.{forget, forget_all, forget_all_moved, forget_all_append, all_whole_moved}

-- a record that was cut is not whole
cut_whole : {P : Type 0} (options : ℕ) (commands text : List ℕ) (at : ℕ) (vs : List Value) → (record_at options commands text at).1 ≡ none →
    all_whole ((record_at options commands text at).0 ∷ vs) ≡ true → P
unfolding all_whole
cut_whole options commands text at vs e w =
    absurd (true≢false (sym (and_left (is_whole (record_at options commands text at).0) (all_whole vs) w) ∙ value_whole options commands text (enough commands) at ∙ ap done e))

tail_whole : (v : Value) (vs : List Value) → all_whole (v ∷ vs) ≡ true → all_whole vs ≡ true
unfolding all_whole
tail_whole v vs w = and_right (is_whole v) (all_whole vs) w

module _ (options : ℕ) (r cs text : List ℕ) where
  -- one record
  record_moves : (at : ℕ) → record_at options (r ++ cs) text (length r + at) ≡ move_value (length r) (record_at options cs text at)
  record_moves at =
      value_moves options r cs text (enough (r ++ cs)) at
      ∙ ap (move_value (length r)) (value_bound options cs text (enough (r ++ cs)) (enough cs) at (rw length-append (omega arith)) (omega arith))

  record_stays : (at b : ℕ) → (record_at options r text at).1 ≡ some b → record_at options (r ++ cs) text at ≡ record_at options r text at
  record_stays at b e =
      value_kept options text r (r ++ cs) (length r) (agree_further r cs) (enough r) at (enough (r ++ cs)) (rw length-append (omega arith)) b (value_on options r text (enough r) at b e).1 e

  -- the records behind
  pub records_move : (f g at : ℕ) → length cs ≤ f + at → length cs ≤ g + at →
      records_from f options (r ++ cs) text (length r + at) ≡ moved_all (length r) (records_from g options cs text at)
  unfolding moved_all
  records_move zero g at h k =
      rw (records_end options (r ++ cs) text zero (length r + at) (rw length-append (omega arith)), records_end options cs text g at (omega arith))
  records_move (suc f) zero at h k =
      rw (records_end options (r ++ cs) text (suc f) (length r + at) (rw length-append (omega arith)), records_end options cs text zero at (omega arith))
  records_move (suc f) (suc g) at h k =
      let same : record_at options (r ++ cs) text (length r + at) ≡ move_value (length r) (record_at options cs text at) = record_moves at in
      record_cases options cs text at
      (λ l. rw (records_end options (r ++ cs) text (suc f) (length r + at) (rw length-append (omega arith)), records_end options cs text (suc g) at l))
      (λ l e.
      records_cut options (r ++ cs) text f (length r + at) (rw length-append (omega arith)) (rw same (rw e))
      ∙ (rw (same, records_cut options cs text g at l e)))
      (λ b l e.
      let on = value_on options cs text (enough cs) at b e in
      records_more options (r ++ cs) text f (length r + at) (length r + b) (rw length-append (omega arith)) (rw same (rw e))
      ∙ (rw (same, records_move f g b (omega arith) (omega arith), records_more options cs text g at b l e)))

  records_seam : (f g at : ℕ) → at ≡ length r → length r + length cs ≤ f + at →
      records_from f options (r ++ cs) text at ≡ records_from g options r text at ++ moved_all (length r) (values options cs text)
  unfolding values
  records_seam f g at e h =
      let z : at ≡ length r + 0 = omega arith in
      rw (records_end options r text g at (omega arith)) (rw z (records_move f (length cs) 0 (omega arith) (omega arith)))

  -- the records before, and then those behind
  records_append : (f g at : ℕ) → at ≤ length r → length r + length cs ≤ f + at → length r ≤ g + at → all_whole (records_from g options r text at) ≡ true →
      records_from f options (r ++ cs) text at ≡ records_from g options r text at ++ moved_all (length r) (values options cs text)
  records_append zero g at i h k w = records_seam zero g at (omega arith) h
  records_append (suc f) zero at i h k w = records_seam (suc f) zero at (omega arith) h
  records_append (suc f) (suc g) at i h k w =
      record_cases options r text at
      (λ l. records_seam (suc f) (suc g) at (omega arith) h)
      (λ l e. cut_whole options r text at [] e (rw (records_cut options r text g at l e) at w))
      (λ b l e.
      let same : record_at options (r ++ cs) text at ≡ record_at options r text at = record_stays at b e in
      let on = value_on options r text (enough r) at b e in
      let more = records_more options r text g at b l e in
      records_more options (r ++ cs) text f at b (rw length-append (omega arith)) (rw same e)
      ∙ (rw (same, records_append f g b on.1 (omega arith) (omega arith) (tail_whole (record_at options r text at).0 _ (rw more at w)), more)))

  -- commands that are read through, and any others behind them
  pub values_append : all_whole (values options r text) ≡ true → values options (r ++ cs) text ≡ values options r text ++ moved_all (length r) (values options cs text)
  unfolding values
  values_append w = records_append (length (r ++ cs)) (length r) 0 (omega arith) (rw length-append (omega arith)) (omega arith) w

whole_append : (vs ws : List Value) → all_whole vs ≡ true → all_whole ws ≡ true → all_whole (vs ++ ws) ≡ true
unfolding all_whole
whole_append [] ws p q = q
whole_append (v ∷ vs) ws p q = and_both (and_left (is_whole v) (all_whole vs) p) (whole_append vs ws (and_right (is_whole v) (all_whole vs) p) q)

pub values_append_forget : (options : ℕ) (r cs text : List ℕ) → all_whole (values options r text) ≡ true →
    forget_all (values options (r ++ cs) text) ≡ forget_all (values options r text) ++ forget_all (values options cs text)
values_append_forget options r cs text w =
    ap forget_all (values_append options r cs text w) ∙ forget_all_append (values options r text) (moved_all (length r) (values options cs text))
    ∙ ap (λ (vs : List Value). forget_all (values options r text) ++ vs) (forget_all_moved (length r) (values options cs text))

-- ---- records one after another
-- each is the bytes of one value that is read whole
pub data Records (options : ℕ) (text : List ℕ) : List (List ℕ) → List Value → Type 0 where
  no_records : Records options text [] []
  one_more : {r : List ℕ} {v : Value} {rs : List (List ℕ)} {vs : List Value} → values options r text ≡ v ∷ [] → is_whole v ≡ true → Records options text rs vs →
      Records options text (r ∷ rs) (v ∷ vs)

record_whole : (options : ℕ) (r text : List ℕ) (v : Value) → values options r text ≡ v ∷ [] → is_whole v ≡ true → all_whole (values options r text) ≡ true
unfolding all_whole
record_whole options r text v e w = rw (e, w)

-- a record before a batch
pub values_record : (options : ℕ) (r cs text : List ℕ) (v : Value) → values options r text ≡ v ∷ [] → is_whole v ≡ true →
    values options (r ++ cs) text ≡ v ∷ moved_all (length r) (values options cs text)
values_record options r cs text v e w = values_append options r cs text (record_whole options r text v e w) ∙ (rw e)

-- the values of records one after another are those of each, but for their offsets
pub records_values : (options : ℕ) (text : List ℕ) (rs : List (List ℕ)) (vs : List Value) → Records options text rs vs → forget_all (values options (flatten rs) text) ≡ forget_all vs
unfolding flatten values records_from forget_all
records_values options text [] [] no_records = refl
records_values options text [] (v ∷ vs) h = elim h [ ]
records_values options text (r ∷ rs) [] h = elim h [ ]
records_values options text (r ∷ rs) (v ∷ vs) (one_more e w h) =
    values_append_forget options r (flatten rs) text (record_whole options r text v e w) ∙ (rw (e, records_values options text rs vs h))

-- ---- every batch that is read through is records one after another
-- one value up to the end
one_record : (options : ℕ) (r text : List ℕ) (n : ℕ) → 0 < length r → length r ≤ n → (record_at options r text 0).1 ≡ some (length r) →
    records_from n options r text 0 ≡ (record_at options r text 0).0 ∷ []
one_record options r text zero l h e = absurd (omega arith)
one_record options r text (suc n) l h e =
    records_more options r text n 0 (length r) l e ∙ ap (λ (vs : List Value). (record_at options r text 0).0 ∷ vs) (records_end options r text n (length r) (le_refl (length r)))

-- a batch with a first record: that record, and the rest
module _ (options : ℕ) (cs text : List ℕ) (b : ℕ) (e : (record_at options cs text 0).1 ≡ some b) where
  first_alone : b ≡ length (take b cs) → record_at options (take b cs) text 0 ≡ record_at options cs text 0
  first_alone h =
      let on = value_on options cs text (enough cs) 0 b e in
      let r : List ℕ = take b cs in
      value_bound options r text (enough r) (enough cs) 0 (omega arith) (omega arith)
      ∙ value_kept options text cs r (length r) (rw (take-append-drop b cs) at (agree_earlier r (drop b cs))) (enough cs) 0 (enough cs) (le_refl (enough cs)) b (omega arith) e

  first_record : values options (take b cs) text ≡ (record_at options cs text 0).0 ∷ []
  unfolding values
  first_record =
      let on = value_on options cs text (enough cs) 0 b e in
      let h : b ≡ length (take b cs) = sym (length-take-le b cs on.1) in
      let same : record_at options (take b cs) text 0 ≡ record_at options cs text 0 = first_alone h in
      one_record options (take b cs) text (length (take b cs)) (omega arith) (le_refl (length (take b cs))) (ap (λ (got : Got Value). got.1) same ∙ e ∙ ap some h)
      ∙ ap (λ (got : Got Value). got.0 ∷ []) same

split_records : (options : ℕ) (text : List ℕ) (n : ℕ) (cs : List ℕ) → length cs ≤ n → all_whole (values options cs text) ≡ true →
    (rs : List (List ℕ)) × All (IsRecord options text) rs × (flatten rs ≡ cs)
unfolding flatten values
split_records options text zero [] h w = ([], tt, refl)
split_records options text zero (c ∷ cs) h w = absurd (omega arith)
split_records options text (suc n) [] h w = ([], tt, refl)
split_records options text (suc n) (c ∷ cs) h w =
    let all : List ℕ = c ∷ cs in
    record_cases options all text 0 (λ l. absurd (omega arith))
    (λ l e. cut_whole options all text 0 [] e (rw (records_cut options all text (length cs) 0 l e) at w))
    (λ b l e.
    let on = value_on options all text (enough all) 0 b e in
    let v : Value = (record_at options all text 0).0 in
    let one : values options (take b all) text ≡ v ∷ [] = first_record options all text b e in
    let whole : is_whole v ≡ true = value_whole options all text (enough all) 0 ∙ ap done e in
    let joined : take b all ++ drop b all ≡ all = take-append-drop b all in
    let both : values options all text ≡ v ∷ moved_all (length (take b all)) (values options (drop b all) text) = rw joined at (values_record options (take b all) (drop b all) text v one whole) in
    let others : all_whole (values options (drop b all) text) ≡ true = sym (all_whole_moved (length (take b all)) (values options (drop b all) text)) ∙ tail_whole v _ (rw both at w) in
    let rest = split_records options text n (drop b all) (rw length-drop (omega arith)) others in
    (take b all ∷ rest.0, ((v, one, whole), rest.1), ap (λ (x : List ℕ). take b all ++ x) rest.2 ∙ joined))

-- ---- in one way only
records_some : {P : Type 0} (options : ℕ) (commands text : List ℕ) (f at : ℕ) → at < length commands → length commands ≤ f + at →
    records_from f options commands text at ≡ [] → P
records_some options commands text zero at l h e = absurd (omega arith)
records_some options commands text (suc f) at l h e =
    record_cases options commands text at (λ k. absurd (omega arith))
    (λ _ n. let more = records_cut options commands text f at l n in absurd (let z : ◌≡◌ {A = ℕ} 0 1 = cc in omega arith))
    (λ b _ n. let more = records_more options commands text f at b l n in absurd (let z : ◌≡◌ {A = ℕ} 0 1 = cc in omega arith))

-- the value of a record that stands alone ends where the record does
record_ends : (options : ℕ) (r text : List ℕ) → IsRecord options text r → (record_at options r text 0).1 ≡ some (length r)
unfolding values records_from
record_ends options [] text (v, e, w) = absurd (let z : ◌≡◌ {A = ℕ} 0 1 = cc in omega arith)
record_ends options (c ∷ cs) text (v, e, w) =
    let r : List ℕ = c ∷ cs in
    record_cases options r text 0 (λ l. absurd (omega arith))
    (λ l n. cut_whole options r text 0 [] n (rw (records_cut options r text (length cs) 0 l n) at (record_whole options r text v e w)))
    (λ b l n.
    let on = value_on options r text (enough r) 0 b n in
    let more = records_more options r text (length cs) 0 b l n in
    let none_left : records_from (length cs) options r text b ≡ [] = cc in
    cases (ltb b (length r))
    (λ t. records_some options r text (length cs) b (ltb-true b (length r) t) (omega arith) none_left)
    (λ t. let k : length r ≤ b = ltb-false b (length r) t in let z : b ≡ length r = omega arith in n ∙ ap some z))

module _ (options : ℕ) (text : List ℕ) where
  first_ends : (r : List ℕ) (rs : List (List ℕ)) → IsRecord options text r → (record_at options (r ++ flatten rs) text 0).1 ≡ some (length r)
  first_ends r rs h =
      let e = record_ends options r text h in
      ap (λ (got : Got Value). got.1) (record_stays options r (flatten rs) text 0 (length r) e) ∙ e

  no_record : {P : Type 0} (r : List ℕ) (rs : List (List ℕ)) → IsRecord options text r → [] ≡ r ++ flatten rs → P
  no_record r rs h e =
      let on = value_on options r text (enough r) 0 (length r) (record_ends options r text h) in
      absurd (omega (arith, rw length-append at (ap length e)))

  same_records : (rs qs : List (List ℕ)) → All (IsRecord options text) rs → All (IsRecord options text) qs → flatten rs ≡ flatten qs → rs ≡ qs
  unfolding flatten
  same_records [] [] h k e = refl
  same_records [] (q ∷ qs) h k e = no_record q qs k.0 e
  same_records (r ∷ rs) [] h k e = no_record r rs h.0 (sym e)
  same_records (r ∷ rs) (q ∷ qs) h k e =
      let a = first_ends r rs h.0 in
      let b = first_ends q qs k.0 in
      let l : length q ≡ length r = cc in
      let first : r ≡ q = sym (take_at r (flatten rs) (length r) refl) ∙ ap (take (length r)) e ∙ take_at q (flatten qs) (length r) l in
      let others : flatten rs ≡ flatten qs = sym (drop_at r (flatten rs) (length r) refl) ∙ ap (drop (length r)) e ∙ drop_at q (flatten qs) (length r) l in
      ap₂ (λ (x : List ℕ) (xs : List (List ℕ)). x ∷ xs) first (same_records rs qs h.1 k.1 others)

pub split : (b : Batch) → all_whole (records_of b) ≡ true → Split b
split b w =
    let s = split_records b.options b.text (length b.commands) b.commands (le_refl (length b.commands)) w in
    record {
      records = s.0;
      are = record { each = s.1; together = ap (λ (commands : List ℕ). batch b.options commands b.text) s.2 };
      only = λ others are. same_records b.options b.text others s.0 are.each s.1 (ap (λ (c : Batch). c.commands) are.together ∙ sym s.2);
    }

-- ---- records in another order
uncons : (options : ℕ) (text : List ℕ) (P : List Value → Type 0) (r : List ℕ) (rs : List (List ℕ)) (vs : List Value) → Records options text (r ∷ rs) vs →
    ((v : Value) (ws : List Value) → values options r text ≡ v ∷ [] → is_whole v ≡ true → Records options text rs ws → P (v ∷ ws)) → P vs
uncons options text P r rs [] h k = elim h [ ]
uncons options text P r rs (v ∷ vs) (one_more e w h) k = k v vs e w h

-- have their values in that order
pub records_permuted : (options : ℕ) (text : List ℕ) (vs : List Value) {rs qs : List (List ℕ)} → Permᴰ rs qs → Records options text rs vs →
    (ws : List Value) × Permᴰ vs ws × Records options text qs ws
records_permuted options text vs Permᴰ.nil h = (vs, Permᴰ.refl vs, h)
records_permuted options text vs (Permᴰ.cons {a = a} {b = b} {l₁ = rs} {l₂ = qs} e p) h =
    uncons options text (λ us. (ws : List Value) × Permᴰ us ws × Records options text (b ∷ qs) ws) a rs vs h λ v us f w t.
    let more = records_permuted options text us p t in
    (v ∷ more.0, Permᴰ.cons refl more.1, one_more (rw e at f) w more.2)
records_permuted options text vs (Permᴰ.swap {a = a} {b = b} {a' = a'} {b' = b'} {l = rs} e f) h =
    uncons options text (λ us. (ws : List Value) × Permᴰ us ws × Records options text (a' ∷ b' ∷ rs) ws) a (b ∷ rs) vs h λ v us g w t.
    uncons options text (λ us. (ws : List Value) × Permᴰ (v ∷ us) ws × Records options text (a' ∷ b' ∷ rs) ws) b rs us t λ u ts k x s.
    (u ∷ v ∷ ts, Permᴰ.swap refl refl, one_more (rw f at k) x (one_more (rw e at g) w s))
records_permuted options text vs (Permᴰ.trans p q) h =
    let one = records_permuted options text vs p h in
    let two = records_permuted options text one.0 q one.2 in
    (two.0, Permᴰ.trans one.1 two.1, two.2)

forget_permuted : {vs ws : List Value} → Permᴰ vs ws → Permᴰ (forget_all vs) (forget_all ws)
unfolding forget_all
forget_permuted Permᴰ.nil = Permᴰ.nil
forget_permuted (Permᴰ.cons e p) = Permᴰ.cons (ap forget e) (forget_permuted p)
forget_permuted (Permᴰ.swap e f) = Permᴰ.swap (ap forget e) (ap forget f)
forget_permuted (Permᴰ.trans p q) = Permᴰ.trans (forget_permuted p) (forget_permuted q)

-- so batches of the same records have the same values, in another order and but for their offsets
pub batches_permuted : (options : ℕ) (text : List ℕ) (vs : List Value) {rs qs : List (List ℕ)} → Permᴰ rs qs → Records options text rs vs →
    Permᴰ (forget_all (values options (flatten rs) text)) (forget_all (values options (flatten qs) text))
batches_permuted options text vs {rs} {qs} p h =
    let other = records_permuted options text vs p h in
    rw (records_values options text rs vs h, records_values options text qs other.0 other.2) (forget_permuted other.1)
