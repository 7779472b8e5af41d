-- Bytes in hexadecimal. Assumes nothing.
use Rattle.std.specs.Prelude.{ℕ, List, [], ◌++◌, Some, None, Option, encode_utf8}
use Rattle.std.specs.List.{flat_map}
use Rattle.text.specs.Hexadecimal.{hex}
use Rattle.text.specs.declared.show_hex.HexBytes.{HexBytes}

-- what stands in front of each byte: a character, or nothing
abbrev pub front_text : Option ℕ → List ℕ
front_text None = []
front_text (Some character) = encode_utf8 character

-- each byte in two digits, with the same in front of each
abbrev pub hex_bytes : HexBytes → List ℕ
hex_bytes shown = flat_map (λ b. front_text shown.front ++ hex 2 b) shown.bytes.now
