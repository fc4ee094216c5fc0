-- `put_gaps`: the slots that are left give what all of them give.
use Rattle.std.proofs.Common.{◌≡◌, ℕ, suc, ◌+◌, ◌-◌, ◌%◌, ◌<◌, ◌≤◌, List, add-one, arith, rules}
use Rattle.datatype.specs.Codes.{null, unknown_variant}
use Rattle.walk.specs.Walk.{sum_of}
use Rattle.putting.specs.Put.{put, record_of, put_gaps, Writing, writing, as_writing, with_record, gaps_in}
use Rattle.putting.proofs.Puts.{record_part}
use Rattle.putting.proofs.Output.put_gaps.Goals as goal

started : (slot count i j : ℕ) (fields names : List ℕ) →
    as_writing (put_gaps slot 0 (count - 0) (put i fields)) (put j names) ≡ gaps_in slot count (writing i j fields names)
unfolding gaps_in
started slot count i j fields names = let l : count - 0 ≡ count = omega arith in rw l

module _ (slot k count i j : ℕ) (fields names : List ℕ) (whole : Writing)
    (w : as_writing (put_gaps slot k (count - k) (put i fields)) (put j names) ≡ whole) where
  ended : count ≤ k → writing i j fields names ≡ whole
  unfolding put_gaps
  ended h = let l : count - k ≡ 0 = omega arith in rw (l, put_gaps) at w

  again : (bytes : List ℕ) (a b : ℕ) (out kept : List ℕ) → k < count → writing a b out kept ≡ with_record bytes (writing i j fields names) →
      bytes ≡ record_of null 1 unknown_variant (sum_of slot k % 256) 0 0 →
      as_writing (put_gaps slot (k + 1) (count - (k + 1)) (put a out)) (put b kept) ≡ whole
  unfolding put_gaps
  again bytes a b out kept h e r =
      let l : count - k ≡ suc (count - (k + 1)) = omega arith in
      let p = record_part bytes i j a b fields names out kept e in
      rw (p.0, p.1, p.2, r, add-one k) (rw (l, put_gaps, add-one k) at w)

pub loop-i-init : goal.loop-i-init
loop-i-init c = record { same_whole = started _ _ _ _ _ _; same_fields = search rules; same_names = search rules }

pub loop-i-preserved : goal.loop-i-preserved
loop-i-preserved c = search (again, rules)

pub returns : goal.returns
returns c = search (ended, rules)
