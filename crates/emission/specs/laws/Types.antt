-- The type of a place's field: it is Null or Struct exactly as the place's kind says.
use Rattle.std.specs.Prelude.{◌≡◌, refl, Bool, true, false, ◌&&◌, ◌||◌, List, ℕ, eqb}
use Rattle.std.proofs.Common.{sym, ◌∙◌, true≢false, eqb-true}
use Rattle.std.proofs.lemmas.Bool.{false≢true}
use Rattle.logic.specs.Test.{when◌then◌else◌}
use Rattle.logic.specs.laws.Test.{cases}
use Rattle.datatype.specs.Codes.{null, utf8, large_utf8, struct}
use Rattle.options.specs.Word.{string_dictionary_encoding, string_as_large_utf8, sequence_as_large_list, enums_without_data_as_strings, list_type, dictionary_type}
use Rattle.model.specs.Kinds.{sequence_kind, union_kind}
use Rattle.model.specs.Tracing.{Marks}
use Rattle.model.specs.Emission.{shown, Places, dataless, Field, mk, emits_struct, type_of, field_of}

dictionary_type_lem : (options : ℕ) → (eqb (dictionary_type options) null ≡ false) × (eqb (dictionary_type options) struct ≡ false)
unfolding when◌then◌else◌
dictionary_type_lem options = cases (string_as_large_utf8 options) (λ e. rw e (refl, refl)) (λ e. rw e (refl, refl))

list_type_lem : (options : ℕ) → (eqb (list_type options) null ≡ false) × (eqb (list_type options) struct ≡ false)
unfolding when◌then◌else◌
list_type_lem options = cases (sequence_as_large_list options) (λ e. rw e (refl, refl)) (λ e. rw e (refl, refl))

type_null : (options k : ℕ) → eqb (type_of options k) null ≡ eqb k null
unfolding type_of when◌then◌else◌
type_null options k =
    cases (eqb k sequence_kind) (λ e. let z : k ≡ sequence_kind = eqb-true k sequence_kind e in rw e ((list_type_lem options).0 ∙ rw z refl)) (λ e. rw e (
    cases (emits_struct k) (λ f. rw f (sym (struct_null f))) (λ f. rw f (
    cases ((eqb k utf8 || eqb k large_utf8) && string_dictionary_encoding options) (λ g. rw g ((dictionary_type_lem options).0 ∙ sym (text_null g))) (λ g. rw g refl)))))
  where
    struct_null : emits_struct k ≡ true → eqb k null ≡ false
    struct_null f = cases (eqb k null) (λ z. absurd (false≢true (let w : k ≡ null = eqb-true k null z in rw w at f))) (λ z. z)

    text_null : ((eqb k utf8 || eqb k large_utf8) && string_dictionary_encoding options) ≡ true → eqb k null ≡ false
    text_null f = cases (eqb k null) (λ z. absurd (false≢true (let w : k ≡ null = eqb-true k null z in rw w at f))) (λ z. z)

type_struct : (options k : ℕ) → eqb (type_of options k) struct ≡ emits_struct k
unfolding type_of when◌then◌else◌
type_struct options k =
    cases (eqb k sequence_kind) (λ e. let z : k ≡ sequence_kind = eqb-true k sequence_kind e in rw e ((list_type_lem options).1 ∙ rw z refl)) (λ e. rw e (
    cases (emits_struct k) (λ f. rw f refl) (λ f. rw f (
    cases ((eqb k utf8 || eqb k large_utf8) && string_dictionary_encoding options) (λ g. rw g (dictionary_type_lem options).1) (λ g. rw g (no_struct f))))))
  where
    no_struct : emits_struct k ≡ false → eqb k struct ≡ false
    no_struct f = cases (eqb k struct) (λ z. absurd (true≢false (let w : k ≡ struct = eqb-true k struct z in rw w at f))) (λ z. z)

-- what a place's field says of its kind
abbrev pub Typed : Marks → ℕ → Field → Type 0
Typed b k (mk type c strategy number name fs) = (c ≡ b) × (eqb type null ≡ eqb k null) × (eqb type struct ≡ emits_struct k)

pub field_type : (options : ℕ) (name : List ℕ) (number : ℕ) (b : Marks) (k : ℕ) (ps : Places) → Typed b k (field_of options name number (shown b k ps))
unfolding field_of when◌then◌else◌
field_type options name number b k ps =
    cases (eqb k union_kind && dataless ps && enums_without_data_as_strings options)
    (λ d. let z : k ≡ union_kind = eqb-true k union_kind (first (eqb k union_kind) (dataless ps) (enums_without_data_as_strings options) d) in
    rw d (refl, (dictionary_type_lem options).0 ∙ rw z refl, (dictionary_type_lem options).1 ∙ rw z refl))
    (λ d. rw d (refl, type_null options k, type_struct options k))
  where
    first : (a c d : Bool) → (a && c && d) ≡ true → a ≡ true
    first true c d e = refl
    first false true true e = e
    first false true false e = e
    first false false true e = e
    first false false false e = e
