-- When a stored byte string and text agree.
use Rattle.std.specs.Prelude.{Bool, ◌&&◌, List, ℕ, eqb, leb, length, get_or, drop}
use Rattle.logic.specs.Test.{when◌then◌else◌}
use Rattle.text.specs.Utf8.{is_utf8}

-- a record, of at most 256 bytes: 1 for UTF-8 and 0 else, the byte string
unfoldable pub name_agrees : List ℕ → Bool
name_agrees stored =
    leb 1 (length stored) && (leb (length stored) 256 && eqb (get_or stored 0 0) (when is_utf8 (drop 1 stored) then 1 else 0))
