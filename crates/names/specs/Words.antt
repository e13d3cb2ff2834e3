-- A name in words of 8 bytes: how the code reads it, and a digest that is made of them.
use Rattle.std.specs.Prelude.{◌≡◌, ℕ, zero, suc, ◌+◌, ◌*◌, ◌/◌, ◌%◌, ◌^◌, List, take, drop}
use Rattle.rows.specs.Bytes.{bytes_of, number_at}
use Rattle.names.specs.Names.{name_length}
use Rattle.names.specs.declared.Name.{Name}

-- how many bytes are read at a time: a word of these, no grant word
abbrev pub stride : ℕ
stride = 8

-- the word that stands at a place, and that says the bytes that stand there
pub record Word (bytes : List ℕ) (at r : ℕ) : Type 0 where
  pub is : r ≡ number_at stride at bytes
  pub says : bytes_of stride r ≡ take stride (drop at bytes)

-- a digest of 64 bits: it goes round by 19 bits, is taken nine times, and a word is added
abbrev pub turned : ℕ → ℕ
turned d = d % 2 ^ 45 * 2 ^ 19 + d / 2 ^ 45

unfoldable pub stirred : ℕ → ℕ → ℕ
stirred d word = (9 * turned d + word) % 2 ^ 64

-- k words of bytes, one after the other
unfoldable pub stirred_in : ℕ → ℕ → List ℕ → ℕ
stirred_in zero d bytes = d
stirred_in (suc k) d bytes = stirred_in k (stirred d (number_at stride 0 bytes)) (drop stride bytes)

unfoldable pub digest_of : Name → ℕ
digest_of name = stirred_in (name_length / stride) 0 name.bytes
