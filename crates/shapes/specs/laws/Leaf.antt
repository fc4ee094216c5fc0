-- Laws of a primitive at an offset: what is known of one, and the values before text.
use Rattle.std.specs.Prelude.{◌≡◌, Bool, true, false, not, List, eqb, ltb, length, get_or, Ok, Err, None, Option}
use Rattle.std.proofs.Math.Path.{refl}
use Rattle.std.proofs.Common.{sym, ap, ◌∙◌, arith}
use Prim.{tt}
use Prim.Native.Nat.{ℕ, zero, suc, ◌+◌, ◌<◌, ◌≤◌}
use borrow.Author.Tests.{eqb-true, eqb-false, ne_eqb, ltb-true, ltb-false, not-true}
use Rattle.logic.specs.Test.{when◌then◌else◌}
use Rattle.logic.specs.laws.Test.{cases, both}
use Rattle.datatype.specs.Codes.{null}
use Rattle.commands.specs.declared.Command.{Command}
use Rattle.commands.specs.declared.Command.TheVariants as C
use Rattle.commands.specs.declared.Due.TheVariants as D
use Rattle.commands.specs.Commands.{form_of, made, text_byte, read_command, Read}
use Rattle.commands.specs.laws.Commands.{byte_of, good, next_above, next_within}
use Rattle.model.specs.Kinds.{sequence_kind}
use Rattle.shapes.specs.declared.Shape.{Shape}
use Rattle.shapes.specs.declared.Shape.TheVariants as H
use Rattle.shapes.specs.declared.Leaf.{Leaf}
use Rattle.shapes.specs.Shapes.{shape_at}
use Rattle.shapes.specs.laws.Shapes.{leaf_below, null_untyped}
use Rattle.shapes.specs.laws.Bytes.{bare_read, before_text}
use Rattle.shapes.specs.Leaf.{char_byte, is_own_byte, leaf_at, leaf_by, leaf_read, plain_kind, leaf_of}

-- equal leaves
pub same_leaf : {P : Type 0} {m n : Bool} {k j b c : ℕ} → leaf_of m k b ≡ leaf_of n j c → (m ≡ n → k ≡ j → b ≡ c → P) → P
same_leaf {m = m} {n = n} {k = k} {j = j} {b = b} {c = c} e f =
    let p : ◌≡◌ {A = Leaf} (record { null = m; kind = k; next = b }) (record { null = n; kind = j; next = c }) = cc in
    f (ap (λ (l : Leaf). l.null) p) (ap (λ (l : Leaf). l.kind) p) (ap (λ (l : Leaf). l.next) p)

-- ---- what is known of a leaf
pub record LeafThere (options : ℕ) (commands text : List ℕ) (at : ℕ) (is_null : Bool) (kind behind : ℕ) : Type 0 where
  pub command : Command
  pub read : read_command commands text at D.Value ≡ Ok (command, behind)
  pub shape : shape_at options text command ≡ H.Leaf is_null kind
  pub below : kind < sequence_kind

other : (is_null : Bool) (kind behind : ℕ) → None ≡ leaf_of is_null kind behind → ⊥
other is_null kind behind e = let z : ◌≡◌ {A = ℕ} 0 1 = cc in omega arith

module _ (options : ℕ) (commands text : List ℕ) (at : ℕ) (is_null : Bool) (kind behind : ℕ) where
  by_shape : (command : Command) (next : ℕ) → read_command commands text at D.Value ≡ Ok (command, next) → (shape : Shape) →
      shape_at options text command ≡ shape → leaf_by next shape ≡ leaf_of is_null kind behind →
      LeafThere options commands text at is_null kind behind
  by_shape command next e (H.Leaf n k) s h =
      same_leaf h λ null_is kind_is b.
      let read : read_command commands text at D.Value ≡ Ok (command, behind) = rw b at e in
      let shape : shape_at options text command ≡ H.Leaf is_null kind = rw (null_is, kind_is) at s in
      record { command = command; read = read; shape = shape; below = leaf_below options text command _ refl is_null kind shape }
  by_shape command next e (H.Parts container) s h = absurd (other is_null kind behind h)
  by_shape command next e (H.Variant number name contents) s h = absurd (other is_null kind behind h)
  by_shape command next e H.NoValue s h = absurd (other is_null kind behind h)

  by_read : (answer : Read) → read_command commands text at D.Value ≡ answer → leaf_read options text answer ≡ leaf_of is_null kind behind → LeafThere options commands text at is_null kind behind
  by_read (Ok (command, next)) e h = by_shape command next e (shape_at options text command) refl h
  by_read (Err r) e h = absurd (other is_null kind behind h)

module _ (options : ℕ) (commands text : List ℕ) (at : ℕ) (leaf : Option Leaf) (e : leaf ≡ leaf_at options commands text at) (is_null : Bool) (kind behind : ℕ) (h : leaf ≡ leaf_of is_null kind behind) where
  pub leaf_there : LeafThere options commands text at is_null kind behind
  unfolding leaf_at
  leaf_there = by_read options commands text at is_null kind behind (read_command commands text at D.Value) refl (sym e ∙ h)

-- ---- where a leaf stands
-- a command past none (0F) begins no leaf
pub past_none : (options : ℕ) (text : List ℕ) (command : Command) (behind : ℕ) → 15 < byte_of command → None ≡ leaf_by behind (shape_at options text command)
unfolding shape_at
past_none options text C.Unit behind h = absurd (omega arith)
past_none options text C.Bool behind h = absurd (omega arith)
past_none options text C.I8 behind h = absurd (omega arith)
past_none options text C.I16 behind h = absurd (omega arith)
past_none options text C.I32 behind h = absurd (omega arith)
past_none options text C.I64 behind h = absurd (omega arith)
past_none options text C.U8 behind h = absurd (omega arith)
past_none options text C.U16 behind h = absurd (omega arith)
past_none options text C.U32 behind h = absurd (omega arith)
past_none options text C.U64 behind h = absurd (omega arith)
past_none options text C.F32 behind h = absurd (omega arith)
past_none options text C.F64 behind h = absurd (omega arith)
past_none options text C.Char behind h = absurd (omega arith)
past_none options text (C.Text name) behind h = absurd (omega arith)
past_none options text C.Bytes behind h = absurd (omega arith)
past_none options text C.None behind h = absurd (omega arith)
past_none options text C.Some behind h = refl
past_none options text C.NewtypeStruct behind h = refl
past_none options text C.Sequence behind h = refl
past_none options text (C.Tuple n) behind h = refl
past_none options text C.Map behind h = refl
past_none options text C.Struct behind h = refl
past_none options text (C.Field name) behind h = refl
past_none options text C.End behind h = refl
past_none options text (C.UnitVariant k name) behind h = refl
past_none options text (C.NewtypeVariant k name) behind h = refl
past_none options text (C.TupleVariant k name n) behind h = refl
past_none options text (C.StructVariant k name) behind h = refl

module _ (options : ℕ) (commands text : List ℕ) (at kind behind : ℕ) where
  pub leaf_above : (is_null : Bool) → LeafThere options commands text at is_null kind behind → at < behind
  leaf_above is_null leaf = next_above commands text at D.Value _ leaf.command behind refl leaf.read

  pub leaf_inside : (is_null : Bool) → LeafThere options commands text at is_null kind behind → at < length commands
  leaf_inside is_null leaf =
      let above : at < behind = leaf_above is_null leaf in
      let within : behind ≤ length commands = next_within commands text at D.Value _ leaf.command behind refl leaf.read in
      omega arith

  pub leaf_byte : (is_null : Bool) → LeafThere options commands text at is_null kind behind → get_or commands at 0 < 16
  leaf_byte is_null leaf =
      let is : byte_of leaf.command ≡ get_or commands at 0 = (good commands text at D.Value leaf.command behind leaf.read).byte in
      cases (ltb 15 (byte_of leaf.command))
      (λ e. absurd (other is_null kind behind (past_none options text leaf.command behind (ltb-true 15 (byte_of leaf.command) e) ∙ ap (leaf_by behind) leaf.shape)))
      (λ e. let h : byte_of leaf.command ≤ 15 = ltb-false 15 (byte_of leaf.command) e in omega arith)

  pub leaf_untyped : LeafThere options commands text at true kind behind → kind ≡ null
  leaf_untyped leaf = null_untyped options text leaf.command _ refl kind leaf.shape

-- ---- the values before text are leaves, by going through them
module _ (text commands : List ℕ) (at : ℕ) where
  module _ (options : ℕ) where
    IsLeaf : ℕ → Type 0
    IsLeaf byte = shape_at options text (made (form_of byte) commands at) ≡ H.Leaf (eqb byte 0) (plain_kind byte)

    AreLeaves : ℕ → Type 0
    AreLeaves zero = Unit {0}
    AreLeaves (suc n) = IsLeaf n × AreLeaves n

    leaf_among : (n : ℕ) → AreLeaves n → (byte : ℕ) → byte < n → IsLeaf byte
    unfolding AreLeaves IsLeaf
    leaf_among zero l byte h = absurd (omega arith)
    leaf_among (suc n) l byte h = cases (eqb byte n) (λ q. rw (eqb-true byte n q) l.0) (λ q. let d : (byte ≡ n → ⊥) = eqb-false byte n q in leaf_among n l.1 byte (omega (arith, d)))

    pub plain_shape : (byte : ℕ) → byte < text_byte → shape_at options text (made (form_of byte) commands at) ≡ H.Leaf (eqb byte 0) (plain_kind byte)
    unfolding AreLeaves IsLeaf shape_at made form_of plain_kind when◌then◌else◌
    plain_shape byte h = leaf_among text_byte (refl, (refl, (refl, (refl, (refl, (refl, (refl, (refl, (refl, (refl, (refl, (refl, (refl, tt))))))))))))) byte h

pub plain_leaf : (options : ℕ) (commands text : List ℕ) (at byte : ℕ) → at < length commands → byte ≡ get_or commands at 0 → (kind : ℕ) → byte < text_byte → kind ≡ plain_kind byte →
    leaf_of (eqb byte 0) kind (at + 1) ≡ leaf_at options commands text at
unfolding leaf_at
plain_leaf options commands text at byte there is kind h k =
    rw (bare_read commands text at byte D.Value (sym is) there (before_text byte h) refl, plain_shape text commands (at + 1) options byte h, k)

-- ---- types whose code is their command's byte
pub own_known : (kind : ℕ) → is_own_byte kind ≡ true → (kind ≡ null → ⊥) × (kind < char_byte)
unfolding is_own_byte
own_known kind own = both (not (eqb kind null)) (ltb kind char_byte) own λ p q. (eqb-false kind null (not-true (eqb kind null) p), ltb-true kind char_byte q)

pub own_leaf : (options : ℕ) (commands text : List ℕ) (at : ℕ) → at < length commands → is_own_byte (get_or commands at 0) ≡ true →
    leaf_of false (get_or commands at 0) (at + 1) ≡ leaf_at options commands text at
unfolding plain_kind when◌then◌else◌
own_leaf options commands text at there own =
    let byte = get_or commands at 0 in
    let known = own_known byte own in
    let small : byte < char_byte = known.1 in
    rw (ne_eqb byte 0 known.0) at
    (plain_leaf options commands text at byte there refl byte (omega arith) (rw (ne_eqb byte char_byte (λ e. omega arith)) refl))
