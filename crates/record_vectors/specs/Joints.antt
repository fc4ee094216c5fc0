-- When a stored pairing and coerce agree.
use Rattle.std.specs.Prelude.{Bool, true, false, ◌&&◌, List, ℕ, ◌+◌, eqb, length, get_or, Result, Ok, Err}
use Rattle.std.proofs.Math.Option.{Option, none, some}
use Rattle.files.specs.Bytes.{two_bytes}
use Rattle.datatype.specs.declared.DataType.{DataType}
use Rattle.datatype.specs.declared.UnknownCode.{UnknownCode}
use Rattle.datatype.specs.Codes.{code_of, decoded}
use Rattle.coerce.specs.Joint.{Paired, pairing}

-- what stands in a record for what two types give: their joint's code, and 32 more where they differ; 255 for no joint
abbrev pub stored_joint : Bool → Option ℕ → ℕ
stored_joint differed none = 255
stored_joint true (some code) = code + 32
stored_joint false (some code) = code

abbrev pub stored_as : Paired → ℕ
stored_as p = stored_joint p.differed p.gives

-- two types under an options word give what is stored so; codes that are no types' agree with nothing
unfoldable pub is_pairing : ℕ → Result DataType UnknownCode → Result DataType UnknownCode → ℕ → Bool
is_pairing word (Err unknown) second code = false
is_pairing word (Ok first) (Err unknown) code = false
is_pairing word (Ok first) (Ok second) code = eqb (stored_as (pairing word (code_of first) (code_of second))) code

-- a record: the options word, low byte first, the codes of the first and the second type, what they give
unfoldable pub pairing_agrees : List ℕ → Bool
pairing_agrees stored =
    eqb (length stored) 5 && is_pairing (two_bytes stored 0) (decoded (get_or stored 2 0)) (decoded (get_or stored 3 0)) (get_or stored 4 0)
