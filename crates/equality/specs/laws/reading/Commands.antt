-- Laws of readCommand: a command that is read ends behind its start and inside the commands, and what is read depends only on its own bytes.
use Rattle.std.specs.Prelude.{◌≡◌, true, false, not, ◌||◌, List, ◌++◌, ℕ, ◌+◌, ◌≤◌, ◌<◌, eqb, leb, ltb, length, get_or, Ok, Err}
use Rattle.std.proofs.Math.Path.{refl, ap}
use Rattle.std.proofs.Common.{sym, ◌∙◌, true≢false, add_assoc, le_refl, arith, get_or-append-add, ltb-true, ltb-false, leb-true, leb-false, lt-ltb, le-ltb, le-leb, eqb-true}
use Rattle.std.proofs.Math.Option.{some}
use Rattle.std.proofs.Math.ListN.{length-append, get_or-append}
use Rattle.std.proofs.lemmas.Bool.{lt-leb, not-false}
use Rattle.logic.specs.Test.{when◌then◌else◌}
use Rattle.logic.specs.laws.Test.{cases, neither, same_test}
use Rattle.refusal.specs.declared.Refusal.{Refusal}
use Rattle.commands.specs.declared.Command.{Command}
use Rattle.commands.specs.declared.Due.{Due}
use Rattle.commands.specs.declared.Due.TheVariants as D
use Rattle.commands.specs.laws.Commands.{same_read}
use Rattle.commands.specs.Commands.{operand_at, name_at, Form, plain, counted, named, variant, counted_variant, forms, form_of, operands, width, made, name_in, stands, bad_command, bad_name, bad_key, read_command, text_byte, field_byte, end_byte, Read, refused_at}
use Rattle.equality.specs.laws.Base.{or_cases}

-- ---- two places with the same bytes
module _ (xs ys : List ℕ) (x y n : ℕ) (agree : (k : ℕ) → k < n → get_or xs (x + k) 0 ≡ get_or ys (y + k) 0) where
  byte_same : (k i j : ℕ) → i ≡ x + k → j ≡ y + k → k < n → get_or xs i 0 ≡ get_or ys j 0
  byte_same k i j p q h = rw (p, q) (agree k h)

  operand_same : (k i j : ℕ) → i ≡ x + k → j ≡ y + k → k + 1 < n → operand_at xs i ≡ operand_at ys j
  operand_same k i j p q h =
      rw (byte_same k i j p q (omega arith), byte_same (k + 1) (i + 1) (j + 1) (omega arith) (omega arith) (omega arith))

  name_same : (k i j : ℕ) → i ≡ x + k → j ≡ y + k → k + 3 < n → name_at xs i ≡ name_at ys j
  name_same k i j p q h =
      rw (operand_same k i j p q (omega arith), operand_same (k + 2) (i + 2) (j + 2) (omega arith) (omega arith) (omega arith))

  made_same : (form : Form) → width form ≤ n → made form xs (x + 1) ≡ made form ys (y + 1)
  unfolding made operands
  made_same (plain c) h = refl
  made_same (counted f) h = ap f (operand_same 1 (x + 1) (y + 1) refl refl (omega arith))
  made_same (named f) h = ap f (name_same 1 (x + 1) (y + 1) refl refl (omega arith))
  made_same (variant f) h =
      rw (operand_same 1 (x + 1) (y + 1) refl refl (omega arith), name_same 3 (x + 1 + 2) (y + 1 + 2) (omega arith) (omega arith) (omega arith))
  made_same (counted_variant f) h =
      rw (
        operand_same 1 (x + 1) (y + 1) refl refl (omega arith),
        name_same 3 (x + 1 + 2) (y + 1 + 2) (omega arith) (omega arith)
            (omega arith),
        operand_same 7 (x + 1 + 6) (y + 1 + 6) (omega arith) (omega arith) (omega arith),
      )

  name_in_same : (form : Form) → width form ≤ n → name_in form xs (x + 1) ≡ name_in form ys (y + 1)
  unfolding name_in operands
  name_in_same (plain c) h = refl
  name_in_same (counted f) h = refl
  name_in_same (named f) h = ap some (name_same 1 (x + 1) (y + 1) refl refl (omega arith))
  name_in_same (variant f) h = ap some (name_same 3 (x + 1 + 2) (y + 1 + 2) (omega arith) (omega arith) (omega arith))
  name_in_same (counted_variant f) h = ap some (name_same 3 (x + 1 + 2) (y + 1 + 2) (omega arith) (omega arith) (omega arith))

-- ---- a command that is read
-- what a good answer tells, and what gives it
pub record Good (commands text : List ℕ) (at : ℕ) (due : Due) (command : Command) (behind : ℕ) : Type 0 where
  pub known : bad_command commands at due ≡ false
  pub named : bad_name text (name_in (form_of (get_or commands at 0)) commands (at + 1)) ≡ false
  pub keyed : bad_key due (get_or commands at 0) ≡ false
  pub what : command ≡ made (form_of (get_or commands at 0)) commands (at + 1)
  pub ends : behind ≡ at + width (form_of (get_or commands at 0))

no_answer : {P : Type 0} {f : Refusal} {p b : ℕ} {c : Command} → refused_at {A = Command × ℕ} f p ≡ Ok (c, b) → P
no_answer e = absurd (let z : ◌≡◌ {A = ℕ} 0 1 = cc in omega arith)

pub good : (commands text : List ℕ) (at : ℕ) (due : Due) (c : Command) (b : ℕ) → read_command commands text at due ≡ Ok (c, b) → Good commands text at due c b
unfolding read_command when◌then◌else◌
good commands text at due c b e =
    cases (bad_command commands at due) (λ p. no_answer (rw p at e))
    (λ p. cases (bad_name text (name_in (form_of (get_or commands at 0)) commands (at + 1))) (λ q. no_answer (rw (p, q) at e))
    (λ q. cases (bad_key due (get_or commands at 0)) (λ r. no_answer (rw (p, q, r) at e))
    (λ r. same_read (rw (p, q, r) at e) λ what ends. record { known = p; named = q; keyed = r; what = sym what; ends = sym ends })))

pub good_read : (commands text : List ℕ) (at : ℕ) (due : Due) (c : Command) (b : ℕ) → Good commands text at due c b → read_command commands text at due ≡ Ok (c, b)
unfolding read_command when◌then◌else◌
good_read commands text at due c b g = rw (g.known, g.named, g.keyed, g.what, g.ends)

-- the command lies in the commands, is known and can stand there
pub record Lies (commands : List ℕ) (at : ℕ) (due : Due) : Type 0 where
  pub starts : at < length commands
  pub known : get_or commands at 0 < length forms
  pub inside : at + width (form_of (get_or commands at 0)) ≤ length commands
  pub stood : stands due (get_or commands at 0) ≡ true

pub lies : (commands : List ℕ) (at : ℕ) (due : Due) → bad_command commands at due ≡ false → Lies commands at due
unfolding bad_command
lies commands at due e =
    let byte : ℕ = get_or commands at 0 in
    neither (leb (length commands) at || leb (length forms) byte || ltb (length commands) (at + width (form_of byte))) (not (stands due byte)) e λ p s.
    neither (leb (length commands) at || leb (length forms) byte) (ltb (length commands) (at + width (form_of byte))) p λ q i.
    neither (leb (length commands) at) (leb (length forms) byte) q λ a k.
    record {
      starts = leb-false (length commands) at a;
      known = leb-false (length forms) byte k;
      inside = ltb-false (length commands)
          (at + width (form_of byte)) i;
      stood = not-false (stands due byte) s;
    }

pub lies_known : (commands : List ℕ) (at : ℕ) (due : Due) → Lies commands at due → bad_command commands at due ≡ false
unfolding bad_command
lies_known commands at due l =
    rw (lt-leb (length commands) at l.starts, lt-leb (length forms) (get_or commands at 0) l.known, le-ltb (length commands) (at + width (form_of (get_or commands at 0))) l.inside, l.stood)

-- a command that is read ends behind its start, inside the commands
pub reads_on : (commands text : List ℕ) (at : ℕ) (due : Due) (c : Command) (b : ℕ) → read_command commands text at due ≡ Ok (c, b) → at < b
reads_on commands text at due c b e = let g : b ≡ at + width (form_of (get_or commands at 0)) = (good commands text at due c b e).ends in omega arith

pub reads_inside : (commands text : List ℕ) (at : ℕ) (due : Due) (c : Command) (b : ℕ) → read_command commands text at due ≡ Ok (c, b) → b ≤ length commands
reads_inside commands text at due c b e =
    let g = good commands text at due c b e in
    let h : b ≡ at + width (form_of (get_or commands at 0)) = g.ends in
    let i : at + width (form_of (get_or commands at 0)) ≤ length commands = (lies commands at due g.known).inside in
    omega arith

-- ---- only its own bytes matter
-- commands that have the same bytes up to a limit, which lies in the second
pub record Agree (xs ys : List ℕ) (limit : ℕ) : Type 0 where
  pub inside : limit ≤ length ys
  pub bytes : (k : ℕ) → k < limit → get_or ys k 0 ≡ get_or xs k 0

-- what is read below the limit is read there too
module _ (xs ys : List ℕ) (limit : ℕ) (agree : Agree xs ys limit) (at : ℕ) where
  kept : (n : ℕ) → at + n ≤ limit → (k : ℕ) → k < n → get_or ys (at + k) 0 ≡ get_or xs (at + k) 0
  kept n h k l = agree.bytes (at + k) (omega arith)

  pub name_kept : at + 5 ≤ limit → name_at ys (at + 1) ≡ name_at xs (at + 1)
  name_kept h = name_same ys xs at at 5 (kept 5 h) 1 (at + 1) (at + 1) refl refl (omega arith)

  pub command_kept : (text : List ℕ) (due : Due) (c : Command) (b : ℕ) → read_command xs text at due ≡ Ok (c, b) → b ≤ limit → read_command ys text at due ≡ Ok (c, b)
  command_kept text due c b e h =
      let g : Good xs text at due c b = good xs text at due c b e in
      let l : Lies xs at due = lies xs at due g.known in
      let byte : ℕ = get_or xs at 0 in
      let ends : b ≡ at + width (form_of byte) = g.ends in
      let inside : limit ≤ length ys = agree.inside in
      let first : get_or ys at 0 ≡ byte = agree.bytes at (omega arith) in
      let same = kept (width (form_of byte)) (omega arith) in
      good_read ys text at due c b (record {
        known = lies_known ys at due (record { starts = omega arith; known = rw first l.known; inside = rw first (omega arith); stood = rw first l.stood });
        named = rw (first, name_in_same ys xs at at (width (form_of byte)) same (form_of byte) (omega arith)) g.named;
        keyed = rw first g.keyed;
        what = rw (first, made_same ys xs at at (width (form_of byte)) same (form_of byte) (omega arith)) g.what;
        ends = rw first g.ends;
      })

-- commands agree with those that go on, and with those that end earlier
pub agree_further : (r cs : List ℕ) → Agree r (r ++ cs) (length r)
agree_further r cs = record { inside = rw length-append (omega arith); bytes = λ k h. get_or-append r cs 0 k h }

pub agree_earlier : (r cs : List ℕ) → Agree (r ++ cs) r (length r)
agree_earlier r cs = record { inside = le_refl (length r); bytes = λ k h. sym (get_or-append r cs 0 k h) }

-- where a field or a key is due and no end stands, the operands are a name
module _ (commands text : List ℕ) (at : ℕ) (c : Command) (b : ℕ) where
  named_width : (due : Due) → read_command commands text at due ≡ Ok (c, b) → (byte : ℕ) → eqb (get_or commands at 0) byte ≡ true → width (form_of byte) ≡ 5 → at + 5 ≤ b
  named_width due e byte q w =
      let ends : b ≡ at + width (form_of byte) = rw (eqb-true (get_or commands at 0) byte q) at (good commands text at due c b e).ends in
      omega arith

  pub field_width : read_command commands text at D.FieldOrEnd ≡ Ok (c, b) → eqb (get_or commands at 0) end_byte ≡ false → at + 5 ≤ b
  unfolding form_of operands
  field_width e n =
      or_cases (eqb (get_or commands at 0) field_byte) (eqb (get_or commands at 0) end_byte) (lies commands at D.FieldOrEnd (good commands text at D.FieldOrEnd c b e).known).stood
      (λ q. named_width D.FieldOrEnd e field_byte q refl) (λ q. absurd (true≢false (sym q ∙ n)))

  pub key_width : read_command commands text at D.KeyOrEnd ≡ Ok (c, b) → eqb (get_or commands at 0) end_byte ≡ false → at + 5 ≤ b
  unfolding form_of operands
  key_width e n =
      cases (eqb (get_or commands at 0) text_byte) (λ q. named_width D.KeyOrEnd e text_byte q refl)
      (λ q. absurd (true≢false (rw (q, n) at (good commands text at D.KeyOrEnd c b e).keyed)))

-- a reading with every offset moved on
abbrev pub move_read : ℕ → Read → Read
move_read n (Ok (command, behind)) = Ok (command, n + behind)
move_read n (Err e) = refused_at e.refusal (n + e.place)

leb_add : (n a b : ℕ) → leb (n + a) (n + b) ≡ leb a b
leb_add n a b =
    same_test (leb (n + a) (n + b)) (leb a b) (λ e. let h : n + a ≤ n + b = leb-true (n + a) (n + b) e in le-leb a b (omega arith))
    (λ e. let h : a ≤ b = leb-true a b e in le-leb (n + a) (n + b) (omega arith))

ltb_add : (n a b c : ℕ) → ltb (n + a) (n + b + c) ≡ ltb a (b + c)
ltb_add n a b c =
    same_test (ltb (n + a) (n + b + c)) (ltb a (b + c)) (λ e. let h : n + a < n + b + c = ltb-true (n + a) (n + b + c) e in lt-ltb a (b + c) (omega arith))
    (λ e. let h : a < b + c = ltb-true a (b + c) e in lt-ltb (n + a) (n + b + c) (omega arith))

-- nor do commands before it, which move it on
module _ (r cs : List ℕ) (at : ℕ) where
  pub first_moved : get_or (r ++ cs) (length r + at) 0 ≡ get_or cs at 0
  first_moved = get_or-append-add r cs at 0

  moved_on : (n k : ℕ) → k < n → get_or (r ++ cs) (length r + at + k) 0 ≡ get_or cs (at + k) 0
  moved_on n k h = rw add_assoc (get_or-append-add r cs (at + k) 0)

  pub name_moved : name_at (r ++ cs) (length r + at + 1) ≡ name_at cs (at + 1)
  name_moved = name_same (r ++ cs) cs (length r + at) at 5 (moved_on 5) 1 (length r + at + 1) (at + 1) refl refl (omega arith)

  bad_command_moves : (due : Due) → bad_command (r ++ cs) (length r + at) due ≡ bad_command cs at due
  unfolding bad_command
  bad_command_moves due = rw (first_moved, length-append, leb_add (length r) (length cs) at, ltb_add (length r) (length cs) at (width (form_of (get_or cs at 0))))

  pub command_moves : (text : List ℕ) (due : Due) → read_command (r ++ cs) text (length r + at) due ≡ move_read (length r) (read_command cs text at due)
  unfolding read_command when◌then◌else◌
  command_moves text due =
      let form : Form = form_of (get_or cs at 0) in
      rw (
        bad_command_moves due,
        first_moved,
        name_in_same (r ++ cs) cs (length r + at) at (width form) (moved_on (width form)) form
            (omega arith),
        made_same (r ++ cs) cs (length r + at) at (width form) (moved_on (width form)) form (omega arith),
      )
      (cases (bad_command cs at due) (λ p. rw p) (λ p. cases (bad_name text (name_in form cs (at + 1))) (λ q. rw (p, q)) (λ q.
      cases (bad_key due (get_or cs at 0)) (λ k. rw (p, q, k)) (λ k. rw (p, q, k, add_assoc)))))
