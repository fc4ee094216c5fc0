-- Where all bytes of a text are below 80, it is UTF-8, and so is every name inside it.
use Rattle.std.specs.Prelude.{◌≡◌, refl, ℕ, ◌+◌, ◌≤◌, ◌<◌, true, List, length, get_or, ltb}
use Rattle.std.proofs.Common.{le_refl, arith, get_or-drop, get_or-take, ltb-true}
use Rattle.std.proofs.lemmas.List.Recursion.{and_at}
use Rattle.std.proofs.lemmas.Str.{IsUtf8-from_ascii}
use Rattle.std.proofs.lemmas.Str.Ascii.{IsAscii-from_reads}
use Rattle.text.specs.declared.Name.{Name}
use Rattle.text.specs.Name.{bytes_of}
use Rattle.text.specs.laws.Name.{length_bytes}
use Rattle.text.specs.Utf8.{is_utf8}
use Rattle.text.specs.laws.Unicode.{utf8_passes}
use Rattle.text.specs.Block.{is_ascii}

low_bytes : (xs : List ℕ) → ((k : ℕ) → k < length xs → get_or xs k 0 < 0x80) → is_utf8 xs ≡ true
low_bytes xs low = utf8_passes xs (IsUtf8-from_ascii xs (IsAscii-from_reads xs (length xs) (le_refl (length xs)) low))

low_byte : (bytes : List ℕ) (k : ℕ) → is_ascii bytes ≡ true → k < length bytes → get_or bytes k 0 < 0x80
unfolding is_ascii
low_byte bytes k e h = ltb-true (get_or bytes k 0) 0x80 (and_at is_ascii (λ b. ltb b 0x80) refl (λ _ _. refl) bytes k 0 h e)

-- No proof cites this, which is `ascii_name` of the whole text.
pub ascii_utf8 : (bytes : List ℕ) → is_ascii bytes ≡ true → is_utf8 bytes ≡ true
ascii_utf8 bytes e = low_bytes bytes λ k h. low_byte bytes k e h

pub ascii_name : (text : List ℕ) (name : Name) → is_ascii text ≡ true → name.offset + name.length ≤ length text → is_utf8 (bytes_of text name) ≡ true
ascii_name text name e inside =
    low_bytes (bytes_of text name) λ k h.
    let i : k < name.length = rw (length_bytes text name inside) at h in
    rw (get_or-take, get_or-drop) (low_byte text (name.offset + k) e (omega arith))
