-- Reading by cases, and one step of the readers.
use Rattle.std.specs.Prelude.{◌≡◌, refl, List, ℕ, suc, ◌+◌, Ok, Err}
use Rattle.std.proofs.Math.Option.{Option, none, some}
use Rattle.refusal.specs.declared.Refusal.{Refusal}
use Rattle.refusal.specs.Number.{number_of}
use Rattle.commands.specs.declared.Command.{Command}
use Rattle.commands.specs.declared.Due.TheVariants as D
use Rattle.commands.specs.Commands.{read_command, Read, refused_at}
use Rattle.model.specs.Kinds.{Step}
use Rattle.model.specs.Reading.{no_parts, cut_off, shape_of, Next, ended, next, bad, next_part, cut_at, and_then, read_value, read_shape, read_parts}

-- ---- by cases
pub read_cases : {P : Type 0} (r : Read) → ((c : Command) (b : ℕ) → r ≡ Ok (c, b) → P) → ((f : Refusal) (p : ℕ) → r ≡ refused_at f p → P) → P
read_cases (Ok (c, b)) k l = k c b refl
read_cases (Err e) k l = l e.refusal e.place refl

pub next_cases : {P : Type 0} (n : Next) → ((b : ℕ) → n ≡ ended b → P) → ((s : Step) (a : ℕ) → n ≡ next s a → P) → ((f p : ℕ) → n ≡ bad f p → P) → P
next_cases (ended b) k l m = k b refl
next_cases (next s a) k l m = l s a refl
next_cases (bad f p) k l m = m f p refl

pub option_cases : {P : Type 0} (o : Option ℕ) → (o ≡ none → P) → ((b : ℕ) → o ≡ some b → P) → P
option_cases none k l = k refl
option_cases (some b) k l = l b refl

-- ---- one step of the readers
module _ (options : ℕ) (commands text : List ℕ) where
  pub value_command : (f at : ℕ) (c : Command) (b : ℕ) → read_command commands text at D.Value ≡ Ok (c, b) →
      read_value (suc f) options commands text at ≡ read_shape f options commands text at b (shape_of options text c)
  unfolding read_value
  value_command f at c b e = rw (e, read_value)

  pub value_refused : (f at : ℕ) (n : Refusal) (p : ℕ) → read_command commands text at D.Value ≡ refused_at n p →
      read_value (suc f) options commands text at ≡ cut_at (number_of n) p
  unfolding read_value
  value_refused f at n p e = rw (e, read_value)

  pub parts_ended : (f kind n i at b : ℕ) → next_part commands text kind n i at ≡ ended b →
      read_parts (suc f) options commands text kind n i at ≡ (no_parts, some b)
  unfolding read_value
  parts_ended f kind n i at b e = rw (e, read_parts)

  pub parts_next : (f kind n i at : ℕ) (s : Step) (a : ℕ) → next_part commands text kind n i at ≡ next s a →
      read_parts (suc f) options commands text kind n i at ≡ and_then at s (read_value f options commands text a) (λ behind. read_parts f options commands text kind n (i + 1) behind)
  unfolding read_value
  parts_next f kind n i at s a e = rw (e, read_parts)

  pub parts_bad : (f kind n i at m p : ℕ) → next_part commands text kind n i at ≡ bad m p →
      read_parts (suc f) options commands text kind n i at ≡ (cut_off m p, none)
  unfolding read_value
  parts_bad f kind n i at m p e = rw (e, read_parts)
