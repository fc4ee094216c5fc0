-- What follows the first walk: refusals 15 to 18, or the schema and both buffers, as the model has them.
use Rattle.std.specs.Prelude.{◌≡◌, ◌||◌, List, ◌++◌, ℕ, ◌*◌, ◌≤◌, eqb, drop}
use Rattle.std.proofs.Math.Path.{refl}
use Rattle.std.proofs.Math.Bool.{true, false}
use Rattle.std.proofs.Math.Option.{none}
use Rattle.std.proofs.Common.{ap, ◌∙◌, arith}
use Rattle.std.proofs.Math.Dec.{ltb}
use Rattle.std.proofs.lemmas.Grind.{common_steps}
use Rattle.std.proofs.Math.ListN.{length}
use borrow.Author.Tests.{ltb-false}
use Rattle.logic.specs.Test.{when◌then◌else◌}
use Rattle.logic.specs.laws.Test.{cases, neither}
use Rattle.datatype.specs.Codes.{null, struct}
use Rattle.refusal.specs.declared.Refusal.TheVariants as F
use Rattle.words.specs.Word.{word}
use Rattle.model.specs.Kinds.{union_kind, is_container}
use Rattle.model.specs.Tracing.{Marks, place_limit}
use Rattle.model.specs.Emission.{place_of, places_of, walk, Field, mk, Fields, emits_struct, field_of, root_fields, nullable_byte, count_in, records_in, names_in}
use Rattle.equality.specs.laws.emission.Records.{length_records}
use Rattle.places.specs.Layout.{kind_word, nullable_word}
use Rattle.places.specs.Nullable.{is_null}
use Rattle.places.specs.laws.Nullable.{byte_null}
use Rattle.refine.specs.laws.numbered.Tree.{Spot, spot, num}
use Rattle.refine.specs.laws.numbered.Numbers.{Good}
use Rattle.refine.specs.laws.words.Places.{Rep}
use Rattle.refine.specs.laws.numbered.Erased.{erase, erase_in}
use Rattle.putting.specs.Put.{writing}
use Rattle.schema.specs.Emit.{fields_below, emitted_at, level_limit, finished}
use Rattle.emission.specs.laws.Types.{Typed, field_type}
use Rattle.emission.specs.laws.order.Arranged.{order_s, Orders, FitS}
use Rattle.emission.specs.laws.firstwalk.Children.{fields_of_field}
use Rattle.emission.specs.laws.secondwalk.Words.{Neat, place_is}
use Rattle.emission.specs.laws.secondwalk.Walk.{root_written}
use Rattle.emission.specs.Emits.{Finishes}

root_container : (k : ℕ) → emits_struct k ≡ true → (is_container k ≡ true) × (eqb k union_kind ≡ false)
root_container k e = (grind (arith, common_steps), grind (arith, common_steps))

module _ (options : ℕ) (text t : List ℕ) (fields names : List ℕ) (end records bytes columns : ℕ) where
  finish_by : (b : Marks) (type k strategy number : ℕ) (name : List ℕ) (fs : Fields) → is_null (word t 0 nullable_word) ≡ b.null → word t 0 kind_word ≡ k
      → eqb type null ≡ eqb k null → eqb type struct ≡ emits_struct k
      → records ≡ count_in fs → bytes ≡ length (names_in fs)
      → (emits_struct k ≡ true → length (records_in fs) ≤ length fields → length (names_in fs) ≤ length names
      → fields_below t (emitted_at options text t level_limit) k 0 (writing 0 0 fields names)
      ≡ writing (length (records_in fs)) (length (names_in fs)) (records_in fs ++ drop (length (records_in fs)) fields) (names_in fs ++ drop (length (names_in fs)) names))
      → Finishes fields names records bytes columns (root_fields end (mk type b strategy number name fs)) (finished options text t fields names records bytes columns)
  unfolding finished when◌then◌else◌
  finish_by b type k strategy number name fs e₁ e₀ tn ts rc nc w =
      cases b.null
      (λ v. rw (e₁, v) (F.NullableRoot, refl, refl))
      (λ v.
      rw (e₁, v, e₀, tn, ts) (cases (eqb k null)
      (λ a. rw a (F.NullRoot, refl, refl))
      (λ a. rw a (cases (emits_struct k)
      (λ c. rw c (cases (ltb (length fields) (records * 8) || ltb (length names) bytes)
      (λ d. rw d refl)
      (λ d. neither (ltb (length fields) (records * 8)) (ltb (length names) bytes) d λ x y.
      let l : records * 8 ≤ length fields = ltb-false (length fields) (records * 8) x in
      let m : bytes ≤ length names = ltb-false (length names) bytes y in
      let z : length (records_in fs) ≡ 8 * count_in fs = length_records fs in
      rw (d, w c (omega arith) (omega arith)) refl)))
      (λ c. rw c (F.RootNotStruct, refl, refl))))))

  -- The root's refusals, and the schema: what the walks counted is what the model's fields count.
  pub finishes : (n : ℕ) (u : Spot) (name : List ℕ) → n ≤ place_limit → num u ≡ 0 → Good n u → Rep text t u → FitS u → Orders t u → Neat u → walk options (place_of false (erase u)) ≡ none
      → records ≡ count_in (fields_of_field (field_of options name 0 (place_of false (erase u)))) → bytes ≡ length (names_in (fields_of_field (field_of options name 0 (place_of false (erase u)))))
      → Finishes fields names records bytes columns (root_fields end (field_of options name 0 (place_of false (erase u)))) (finished options text t fields names records bytes columns)
  finishes n (spot p b k m ks) name most q g r f o z e rc nc =
      by (field_of options name 0 (place_of false (erase (spot p b k m ks)))) refl (rw (place_is false p b k m ks) (field_type options name 0 b k (places_of k m (erase_in (order_s false k ks))))) rc nc
    where
      by : (it : Field) → field_of options name 0 (place_of false (erase (spot p b k m ks))) ≡ it → Typed b k it → records ≡ count_in (fields_of_field it) → bytes ≡ length (names_in (fields_of_field it))
          → Finishes fields names records bytes columns (root_fields end it) (finished options text t fields names records bytes columns)
      by (mk type c strategy number x fs) d y rc nc =
          let e₀ : word t 0 kind_word ≡ k = rw q at (r.0 0 (omega arith)) in
          let e₁ : word t 0 nullable_word ≡ nullable_byte c = rw y.0 (rw q at (r.0 1 (omega arith))) in
          finish_by c type k strategy number x fs (ap is_null e₁ ∙ byte_null c.null c.widened) e₀ y.1 y.2 rc nc λ c l i.
          let u = root_container k c in
          rw d at (root_written options text t n (spot p b k m ks) name fields names most q g r f o z u.0 u.1 e (rw d l) (rw d i))
