-- `matchers` adds the four bits.
use Rattle.std.proofs.Common.{rules, ◌≡◌, ◌+◌, ◌*◌, ℕ, Bool, true, false, List, ap, ◌∙◌}
use Rattle.std.specs.Int.{from_bool}
use Rattle.chrono.specs.Grammar.{fits}
use Rattle.chrono.specs.Date.{naive_datetime, utc_datetime, naive_time, naive_date}
use Rattle.logic.specs.Test.{when◌then◌else◌}
use Rattle.record_vectors.specs.Texts.{bit_of, matchers_of}
use Rattle.record_vectors.proofs.matchers.Goals as goal

bit : (weight : ℕ) (matches : Bool) (n : ℕ) → n ≡ from_bool matches → n * weight ≡ bit_of matches weight
unfolding bit_of when◌then◌else◌
bit weight true n e = search rules
bit weight false n e = search rules

one : (matches : Bool) (n : ℕ) → n ≡ from_bool matches → n ≡ bit_of matches 1
unfolding bit_of when◌then◌else◌
one true n e = search rules
one false n e = search rules

sum : (text : List ℕ) (p q r s : Bool) (a b c d : ℕ) → p ≡ fits naive_datetime text → a ≡ from_bool p → q ≡ fits utc_datetime text → b ≡ from_bool q →
    r ≡ fits naive_time text → c ≡ from_bool r → s ≡ fits naive_date text → d ≡ from_bool s → a + b * 2 + c * 4 + d * 8 ≡ matchers_of text
unfolding matchers_of
sum text p q r s a b c d hp ha hq hb hr hc hs hd =
    let ea : a ≡ bit_of (fits naive_datetime text) 1 = one p a ha ∙ ap (λ m. bit_of m 1) hp in
    let eb : b * 2 ≡ bit_of (fits utc_datetime text) 2 = bit 2 q b hb ∙ ap (λ m. bit_of m 2) hq in
    let ec : c * 4 ≡ bit_of (fits naive_time text) 4 = bit 4 r c hc ∙ ap (λ m. bit_of m 4) hr in
    let ed : d * 8 ≡ bit_of (fits naive_date text) 8 = bit 8 s d hd ∙ ap (λ m. bit_of m 8) hs in
    cc

pub returns : goal.returns
returns c = search (sum, rules)
