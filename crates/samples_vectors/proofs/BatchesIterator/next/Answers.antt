-- `next` splits off the header, the commands and the text, each from what is behind the one before.
use Rattle.std.proofs.Common.{rules, arith, ◌≡◌, ◌∙◌, ◌+◌, ◌≤◌, ◌<◌, ℕ, List, length, take, drop, ap, refl, ◌-◌}
use Rattle.std.proofs.lemmas.List.{get_or-take, drop-drop}
use Rattle.std.specs.List.{IsSplitAt}
use Rattle.files.specs.Bytes.{two_bytes, between}
use Rattle.samples_vectors.specs.Batches.{commands_end, batch_end}
use Rattle.samples_vectors.proofs.BatchesIterator.next.Goals as goal

-- the header has what stands at the start of all
in_header : (bytes header : List ℕ) (at : ℕ) → header ≡ take 6 bytes → at + 1 < 6 → two_bytes header at ≡ two_bytes bytes at
in_header bytes header at e h = rw (e, get_or-take 6 bytes at 0 (omega (arith, h)), get_or-take 6 bytes (at + 1) 0 h) refl

module _ (bytes header behind commands last text rest : List ℕ) (n m : ℕ) (first : IsSplitAt bytes 6 header behind)
    (second : IsSplitAt behind n commands last) (third : IsSplitAt last m text rest) (en : n ≡ two_bytes header 2) (em : m ≡ two_bytes header 4)
  where
    long : n ≡ two_bytes bytes 2
    long = en ∙ in_header bytes header 2 first.1 (omega arith)

    longer : m ≡ two_bytes bytes 4
    longer = em ∙ in_header bytes header 4 first.1 (omega arith)

    behind_commands : last ≡ drop (commands_end bytes) bytes
    behind_commands = second.2 ∙ ap (drop n) first.2 ∙ drop-drop n 6 bytes ∙ ap (λ k. drop (6 + k) bytes) long

    few : n ≡ commands_end bytes - 6
    few = omega (arith, long)

    more : m ≡ batch_end bytes - commands_end bytes
    more = omega (arith, longer)

    all : (options : ℕ) → options ≡ two_bytes header 0 →
        (batch_end bytes ≤ length bytes)
        × (options ≡ two_bytes bytes 0)
        × (commands ≡ between 6 (commands_end bytes) bytes)
        × (text ≡ between (commands_end bytes) (batch_end bytes) bytes)
        × (rest ≡ drop (batch_end bytes) bytes)
    all options e = (
      omega (arith, first, second, third, long, longer),
      e ∙ in_header bytes header 0 first.1 (omega arith),
      second.1 ∙ ap (take n) first.2 ∙ ap (λ k. take k (drop 6 bytes)) few,
      third.1 ∙ ap (take m) behind_commands ∙ ap (λ k. take k (drop (commands_end bytes) bytes)) more,
      third.2 ∙ ap (drop m) behind_commands ∙ drop-drop m (commands_end bytes) bytes ∙ ap (λ k. drop (commands_end bytes + k) bytes) longer,
    )

pub returns-clause-steps : goal.returns-clause-steps
returns-clause-steps c =
    all _ _ _ _ _ _ _ _ _ c.in_ok-header.ensures.cases c.in_ok-commands.ensures.cases c.in_ok-text.ensures.cases (search rules) (search rules) _
    (search rules)
