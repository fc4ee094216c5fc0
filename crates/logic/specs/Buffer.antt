-- A buffer with bytes written into it.
use Rattle.std.specs.Prelude.{ℕ, ◌+◌, List, ◌++◌, length, take, drop}

-- the buffer with bytes written from an offset on: what stands before and behind them stays
abbrev pub written : List ℕ → ℕ → List ℕ → List ℕ
written buffer at bytes = take at buffer ++ (bytes ++ drop (at + length bytes) buffer)
