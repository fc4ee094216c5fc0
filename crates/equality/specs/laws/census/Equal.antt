-- Equal schemas and equal censuses, of two accepted batches of struct records.
use Rattle.std.specs.Prelude.{◌≡◌, refl, true, ◌||◌, List, [], ◌∷◌, ℕ, ◌≤◌, eqb, length}
use Rattle.std.proofs.Math.Path.{ap, sym}
use Rattle.std.proofs.Common.{◌∙◌, true≢false}
use Rattle.std.proofs.Math.Bool.{false}
use Rattle.std.proofs.Math.Option.{Option, none, some}
use Rattle.logic.specs.Test.{when◌then◌else◌}
use Rattle.logic.specs.All.{All}
use Rattle.coerce.specs.Census.{type_seen, non_null}
use Rattle.model.specs.Result.{Result, accepted, refused}
use Rattle.model.specs.Kinds.{struct_kind, tuple_kind, is_container, is_struct}
use Rattle.model.specs.Reading.{Value}
use Rattle.model.specs.Tracing.{Tree, node, kind_of, fresh, place_limit, trace}
use Rattle.model.specs.Emission.{Fields, place_of, walk, field_of, root_fields, root_name, to_schema, records_in, names_in, count_in}
use Rattle.model.specs.Answer.{Batch, Answer, schema_of}
use Rattle.model.specs.Census.{kind_in, kinds_seen, container_seen, kind_seen}
use Rattle.model.specs.Demand3.{Plain, SameSchema, StructRecords, Holds, records_of}
use Rattle.equality.specs.laws.Base.{bind_ok, not_refused}
use Rattle.model.specs.Unbounded.{see_all}
use Rattle.equality.specs.laws.Proper.{all_proper}
use Rattle.equality.specs.laws.tracing.Count.{size, traced}
use Rattle.equality.specs.laws.tracing.Place.{see_all_whole}
use Rattle.equality.specs.laws.reading.Records.{values_proper}
use Rattle.equality.specs.Widened.{place_at}
use Rattle.equality.specs.laws.census.Kind.{kind_seen_lem}
use Rattle.equality.specs.laws.census.Marks.{container_unwidened, widened_place}
use Rattle.equality.specs.laws.emission.Records.{schema_encoded}
use Rattle.equality.specs.laws.emission.Fields.{kind_at, marks_at, root_kind}
use Rattle.equality.specs.laws.tracing.Fitting.{tree_fits}

-- ---- what an accepted schema comes of
pub record Traced (b : Batch) (schema : Fields) : Type 0 where
  pub tree : Tree
  pub seen : see_all b.options 0 (records_of b) fresh ≡ accepted tree
  pub small : size tree ≤ place_limit
  pub walked : walk b.options (place_of false tree) ≡ none
  pub root : root_fields (length b.commands) (field_of b.options root_name 0 (place_of false tree)) ≡ accepted schema
  pub proper : all_proper b.options (records_of b) ≡ true

pub traced_schema : (b : Batch) (schema : Fields) → schema_of b ≡ accepted schema → Traced b schema
unfolding schema_of to_schema
traced_schema b schema e =
    bind_ok (trace b.options (records_of b)) _ schema e λ r p q.
    let t = traced b.options (records_of b) r p in
    from r.what t.0 t.2 (walk b.options (place_of false r.what)) refl q
  where
    from : (tree : Tree) → see_all b.options 0 (records_of b) fresh ≡ accepted tree → size tree ≤ place_limit → (w : Option ℕ) → walk b.options (place_of false tree) ≡ w
        → (elim w as (λ x. Result Fields) [
          | some n ↦ refused n (length b.commands)
          | none ↦ root_fields (length b.commands)
              (field_of b.options root_name 0 (place_of false tree))
        ]) ≡ accepted schema
        → Traced b schema
    from tree s l (some n) w q = not_refused q
    from tree s l none w q =
        record {
          tree = tree;
          seen = s;
          small = l;
          walked = w;
          root = q;
          proper = values_proper b.options b.commands b.text (see_all_whole b.options 0 (records_of b) fresh tree s);
        }

-- ---- the root of struct records is a struct
kind_place : (t : Tree) → kind_at (place_of false t) ≡ kind_of t
unfolding place_of
kind_place (node m kind samples kids) = refl

struct_kind_lem : (o : ℕ) (vs : List Value) → All (λ (v : Value). kind_in v ≡ struct_kind) vs → (is_struct (kind_seen o (kinds_seen vs)) || eqb (kind_seen o (kinds_seen vs)) tuple_kind) ≡ true
    → kind_seen o (kinds_seen vs) ≡ struct_kind
unfolding kind_seen kinds_seen container_seen type_seen non_null when◌then◌else◌
struct_kind_lem o [] h e = absurd (true≢false (sym e))
struct_kind_lem o (v ∷ vs) h e = rw h.0

pub root_struct : (b : Batch) (schema : Fields) → Plain b.options → StructRecords b → (t : Traced b schema) → kind_at (place_of false t.tree) ≡ struct_kind
root_struct b schema off r t =
    let o = b.options in
    let k : kind_at (place_of false t.tree) ≡ kind_seen o (kinds_seen (records_of b)) = kind_place t.tree ∙ kind_seen_lem o 0 (records_of b) t.tree off.to_string_off t.proper t.seen in
    let s = root_kind o (length b.commands) (place_of false t.tree) schema off.enums_off (tree_fits o 0 (records_of b) t.tree false t.proper t.seen) t.root in
    k ∙ struct_kind_lem o (records_of b) r (rw k at s)

pub root_unwidened : (b : Batch) (schema : Fields) → Plain b.options → StructRecords b → (t : Traced b schema) → (marks_at (place_of false t.tree)).widened ≡ false
unfolding place_at
root_unwidened b schema off r t =
    let k : kind_of t.tree ≡ struct_kind = sym (kind_place t.tree) ∙ root_struct b schema off r t in
    widened_place false t.tree ∙ container_unwidened b.options (records_of b) t.tree [] t.seen (ap is_container k)

-- ---- what two answers hold
pub bytes_same : (fs gs : Fields) (a b : Answer) → Holds fs a → Holds gs b → SameSchema a b → fs ≡ gs
bytes_same fs gs a b h k s = schema_encoded fs gs (sym h.bytes_of_records ∙ s.bytes_of_records ∙ k.bytes_of_records) (sym h.name_bytes ∙ s.name_bytes ∙ k.name_bytes)

pub same_bytes : (fs gs : Fields) (a b : Answer) → Holds fs a → Holds gs b → fs ≡ gs → SameSchema a b
same_bytes fs gs a b h k e =
    record {
      records = h.records ∙ ap count_in e ∙ sym k.records;
      names = h.names ∙ ap (λ (x : Fields). length (names_in x)) e ∙ sym k.names;
      bytes_of_records = h.bytes_of_records ∙ ap records_in e ∙ sym k.bytes_of_records;
      name_bytes = h.name_bytes ∙ ap names_in e ∙ sym k.name_bytes;
    }

pub accepted_injective : {fs gs : Fields} → accepted fs ≡ accepted gs → fs ≡ gs
accepted_injective e = cc
