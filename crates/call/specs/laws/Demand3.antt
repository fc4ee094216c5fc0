-- Demand 3 of two answers that are the model's.
use Rattle.std.specs.Prelude.{◌≡◌, ◌↔◌, ℕ}
use mathlib.Core.List.{List, Permᴰ}
use Rattle.model.specs.Answer.{Batch, Buffers, Answer, answer}
use Rattle.model.specs.Census.{SameCensus}
use Rattle.model.specs.Demand3.{Plain, Accepted, SameSchema, StructRecords, NoPlaceBoth, AreRecords, Split, NoShorter, SameButOrder, batch, with_records, records_of}
use Rattle.equality.proofs.Demand3.{demand_3}

-- struct records that were accepted
abbrev pub Took : Batch → Answer → Type 0
Took b a = Accepted a × StructRecords b × NoPlaceBoth b

module _ (options : ℕ) (plain : Plain options) (b c : Batch) (lent other : Buffers) (x y : Answer) (x-is : x ≡ answer b lent) (y-is : y ≡ answer c other) where
  pub alike : b.options ≡ options → c.options ≡ options → Took b x → Took c y → SameSchema x y ↔ SameCensus options (records_of b) (records_of c)
  alike u v h k =
      let h' : Took (batch options b.commands b.text) (answer (batch options b.commands b.text) lent) = rw (x-is, u) at h in
      let k' : Took (batch options c.commands c.text) (answer (batch options c.commands c.text) other) = rw (y-is, v) at k in
      rw (x-is, y-is, u, v)
      (demand_3.equal options plain b.commands b.text lent h'.0 h'.1 h'.2 c.commands c.text other k'.0 k'.1 k'.2)

  pub again : b.options ≡ options → Took b x → (records others : List (List ℕ)) → AreRecords b records → Permᴰ records others →
      c ≡ with_records b others → NoShorter lent other → Accepted y × SameButOrder x y
  again u h records others are perm v long =
      let h' : Took b (answer b lent) = rw x-is at h in
      rw (x-is, y-is, v) (demand_3.reordered b (rw u plain) lent h'.0 h'.1 h'.2 records others are perm other long)

pub apart : (b : Batch) (lent : Buffers) (x : Answer) → x ≡ answer b lent → Accepted x → Split b
apart b lent x x-is a = demand_3.split b lent (rw x-is at a)
