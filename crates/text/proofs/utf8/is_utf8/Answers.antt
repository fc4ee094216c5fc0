-- `utf8::is_utf8` takes a sequence a turn: what is left is UTF-8 exactly where the whole is.
use borrow.Author.Rules.{rules}
use mathlib.Core.Path.{◌≡◌, refl, sym, ap, ◌∙◌}
use Prim.Native.Nat.{ℕ, suc, ◌+◌, ◌≤◌, ◌<◌}
use native.Mathlib.Omega.{arith}
use mathlib.Core.Bool.{Bool, true, false, ◌&&◌, and_assoc}
use mathlib.Core.List.{List, [], ◌∷◌}
use lib.ListN.{length, get_or, drop, drop_of_length-le, length-drop, replicate, length-replicate}
use lib.Seq.{drop-drop}
use Rattle.logic.specs.laws.Test.{both}
use Rattle.text.specs.declared.utf8.Due.{Due}
use Rattle.text.specs.declared.utf8.Due.TheVariants as D
use Rattle.text.specs.Utf8.{Range, ◌to◌, table, within, due_in, reads, is_utf8}
use Rattle.text.specs.laws.Utf8.{within_bounds, due_at, reads_none}
use Rattle.text.specs.Due.{trailing, due_of, begins}
use Rattle.text.proofs.Steps.{drop_at}
use Rattle.text.proofs.Begins.{begins_length}
use Rattle.text.proofs.Ascii.{taken, ascii}
use Rattle.text.proofs.utf8.is_utf8.Goals as goal

reads_begins : (due : List Range) (bytes : List ℕ) → reads due bytes ≡ (begins due bytes && is_utf8 (drop (length due) bytes))
unfolding reads begins
reads_begins [] bytes = refl
reads_begins (range ∷ due) [] = refl
reads_begins (range ∷ due) (b ∷ bytes) =
    ap (λ (t : Bool). within range b && t) (reads_begins due bytes)
    ∙ sym (and_assoc (within range b) (begins due bytes) (is_utf8 (drop (length due) bytes)))

module _ (bytes : List ℕ) (i : ℕ) (inv : is_utf8 (drop i bytes) ≡ is_utf8 bytes) (h : i < length bytes) where
  nothing : (d : Due) → d ≡ D.Nothing → due_of d ≡ due_in table (get_or bytes i 0) → false ≡ is_utf8 bytes
  nothing d e f =
      sym (reads_none (get_or bytes i 0) (drop (i + 1) bytes) (sym f ∙ ap due_of e)) ∙ (rw (drop_at bytes i h) at inv)

  -- a letter of three bytes
  three : (r : Bool) → r ≡ begins (0xE1 to 0xEC ∷ trailing ∷ trailing ∷ []) (drop i bytes) → r ≡ true → is_utf8 (drop (i + 3) bytes) ≡ is_utf8 bytes
  unfolding begins
  three r e t =
      both (within (0xE1 to 0xEC) (get_or bytes i 0)) (begins (trailing ∷ trailing ∷ []) (drop (i + 1) bytes)) (rw (drop_at bytes i h) at (sym e ∙ t)) λ p q.
      within_bounds 0xE1 0xEC (get_or bytes i 0) p λ low high.
      let n : i + 1 + 2 ≡ i + 3 = omega arith in
      let v : reads (trailing ∷ trailing ∷ []) (drop (i + 1) bytes) ≡ is_utf8 (drop (i + 3) bytes) =
      reads_begins (trailing ∷ trailing ∷ []) (drop (i + 1) bytes) ∙ rw (q, drop-drop, n) in
      sym v ∙ taken bytes i inv h (trailing ∷ trailing ∷ []) (due_at 3 (get_or bytes i 0) 0xE1 0xEC (trailing ∷ trailing ∷ []) refl low high)

  three_room : (r : Bool) → r ≡ begins (0xE1 to 0xEC ∷ trailing ∷ trailing ∷ []) (drop i bytes) → r ≡ true → i + 3 ≤ length bytes
  three_room r e t = omega (arith, begins_length (0xE1 to 0xEC ∷ trailing ∷ trailing ∷ []) (drop i bytes) (sym e ∙ t), length-drop i bytes)

  module _ (d : Due) (low high more : ℕ) (r : Bool) (e : d ≡ D.Bytes low high more) (f : due_of d ≡ due_in table (get_or bytes i 0))
      (g : r ≡ begins (low to high ∷ replicate more trailing) (drop (i + 1) bytes)) where
    whole : (r && is_utf8 (drop (i + (more + 2)) bytes)) ≡ is_utf8 bytes
    whole =
        let n : i + 1 + suc more ≡ i + (more + 2) = omega arith in
        let v : reads (low to high ∷ replicate more trailing) (drop (i + 1) bytes) ≡ (r && is_utf8 (drop (i + (more + 2)) bytes)) =
        reads_begins (low to high ∷ replicate more trailing) (drop (i + 1) bytes) ∙ rw (← g, length-replicate more trailing, drop-drop, n) in
        sym v ∙ taken bytes i inv h (low to high ∷ replicate more trailing) (sym f ∙ ap due_of e)

    wrong : r ≡ false → false ≡ is_utf8 bytes
    wrong p = rw p at whole

    right : r ≡ true → is_utf8 (drop (i + (more + 2)) bytes) ≡ is_utf8 bytes
    right p = rw p at whole

    room : r ≡ true → i + (more + 2) ≤ length bytes
    room p = omega (arith, rw (length-drop, length-replicate) at (begins_length (low to high ∷ replicate more trailing) (drop (i + 1) bytes) (sym g ∙ p)))

ended : (bytes : List ℕ) (i : ℕ) → is_utf8 (drop i bytes) ≡ is_utf8 bytes → length bytes ≤ i → true ≡ is_utf8 bytes
unfolding reads
ended bytes i inv h = rw (drop_of_length-le bytes h) at inv

-- a letter of three bytes, or a whole sequence, stands there
three_stand : (c : goal.Then-is_three) →
    c.loop-i.i + 3 ≤ length c.args.bytes.now
three_stand c = search (three_room, rules)

stands : (c : goal.Then-follows) →
    c.loop-i.i + (c.in-Bytes.more + 2) ≤
    length c.args.bytes.now
stands c = search (room, rules)

pub loop-i-preserved-then-first-lt128 : goal.loop-i-preserved-then-first-lt128
loop-i-preserved-then-first-lt128 c = (search rules, search (ascii, rules))

pub overflow_add-i-then-is_three : goal.overflow_add-i-then-is_three
overflow_add-i-then-is_three c = omega (arith, three_stand c)

pub loop-i-smaller-then-is_three : goal.loop-i-smaller-then-is_three
loop-i-smaller-then-is_three c = omega (arith, three_stand c)

pub loop-i-preserved-then-is_three : goal.loop-i-preserved-then-is_three
loop-i-preserved-then-is_three c = (three_stand c, search (three, rules))

pub returns-in-Nothing : goal.returns-in-Nothing
returns-in-Nothing c = search (nothing, rules)

pub overflow_add-i-then-follows : goal.overflow_add-i-then-follows
overflow_add-i-then-follows c = omega (arith, stands c)

pub overflow_add-i-then-follows-2 : goal.overflow_add-i-then-follows-2
overflow_add-i-then-follows-2 c = omega (arith, stands c)

pub loop-i-smaller : goal.loop-i-smaller
loop-i-smaller c = omega (arith, stands c)

pub loop-i-preserved : goal.loop-i-preserved
loop-i-preserved c = (stands c, search (right, rules))

pub returns-else-follows : goal.returns-else-follows
returns-else-follows c = search (wrong, rules)

pub returns : goal.returns
returns c = search (ended, rules)
