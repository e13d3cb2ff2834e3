-- "Listing messages on the wire": what the readers and the request's writer answer on both sides of each condition.
-- Assumes nothing.
use Prim.Native.Nat.{ℕ}
use mathlib.Core.Path.{◌≡◌, refl}
use mathlib.Core.List.{List, [], ◌∷◌, ◌++◌, map}
use lib.ListN.{take, set, replicate}
use Rattle.rows.specs.Bytes.{bytes_of, number_of, number_at}
use Rattle.rows.specs.Rows.{rows, every, over}
use Rattle.names.specs.Names.{is_row}
use Rattle.module_state.specs.Numbers.{◌when◌, ◌unless◌, ◌▸◌}
use Rattle.calls.specs.Listing.{message_length}
use Rattle.listing_messages.specs.Wire.{head, is_headed, head_number, request, request_number, read_request, request_room, row_part, is_listing, count_number, read_count, row_number, read_row_at}

-- bytes, and the number that they have to be answered
pub record Read : Type 0 where
  pub bytes : List ℕ
  pub answer : ℕ

infix 5 ◌⇒◌
abbrev ◌⇒◌ : List ℕ → ℕ → Read
bytes ⇒ n = record { bytes = bytes; answer = n }

abbrev Answered : (List ℕ → ℕ) → List Read → Type 0
Answered f reads = map (λ (r : Read). f r.bytes) reads ≡ map (λ (r : Read). r.answer) reads

-- "a wrong code or any length but 4 is 14"; byte 1 is "ignored on reading"; "every credential value is read .. as it stands"
abbrev requests : List Read
requests =
    (0x8e ∷ 0x00 ∷ 0xff ∷ 0xff ∷ [] ⇒ 0)
    ∷ (0x8e ∷ 0x99 ∷ 0x08 ∷ 0x00 ∷ [] ⇒ 0)
    ∷ (0x0e ∷ 0x00 ∷ 0xff ∷ 0xff ∷ [] ⇒ 14)
    ∷ (0x8e ∷ 0x00 ∷ 0xff ∷ [] ⇒ 14)
    ∷ (0x8e ∷ 0x00 ∷ 0xff ∷ 0xff ∷ 0x00 ∷ [] ⇒ 14)
    ∷ ([] ⇒ 14)
    ∷ []

-- "its writer answers 15 to a buffer under 4 bytes"
abbrev buffers : List Read
buffers = (replicate 3 0x77 ⇒ 15) ∷ (replicate 4 0x77 ⇒ 0) ∷ (replicate 5 0x77 ⇒ 0) ∷ []

-- two rows: credential 0, type 0, and a name of 0x11; credential 258, type 2, and a name of 0x22
abbrev two : List ℕ
two =
    0x0e ∷ 0x00 ∷ 0x02 ∷ 0x00 ∷ 0x00 ∷ 0x00 ∷ 0x00 ∷ (replicate 48 0x11 ++ (0x02 ∷ 0x01 ∷ 0x02 ∷ replicate 48 0x22))

-- "it refuses with 14 a wrong code, a length under 4 or other than 4 + 51 × count, or a type over 2"
abbrev responses : List Read
responses =
    (two ⇒ 0)
    ∷ (set two 1 0x99 ⇒ 0)
    ∷ (0x0e ∷ 0x00 ∷ 0x00 ∷ 0x00 ∷ [] ⇒ 0)
    ∷ (set two 0 0x8e ⇒ 14)
    ∷ (0x0e ∷ 0x00 ∷ 0x00 ∷ [] ⇒ 14)
    ∷ ([] ⇒ 14)
    ∷ (take 105 two ⇒ 14)
    ∷ (two ++ (0x00 ∷ []) ⇒ 14)
    ∷ (set two 2 0x01 ⇒ 14)
    ∷ (set two 3 0x01 ⇒ 14)
    ∷ (set two 6 0x03 ⇒ 14)
    ∷ (set two 57 0x03 ⇒ 14)
    ∷ []

-- "for the row, 14 comes before 1": the row at place 1, and at place 2, which is at the count
abbrev rows1 : List Read
rows1 = (two ⇒ 0) ∷ (set two 6 0x03 ⇒ 14) ∷ []

abbrev rows2 : List Read
rows2 = (two ⇒ 1) ∷ (set two 6 0x03 ⇒ 14) ∷ []

pub record Worked : Type 0 where
  pub requests-are : Answered (λ m. (read_request m).number) requests
  pub request-says : (read_request (0x8e ∷ 0x99 ∷ 0x08 ∷ 0x00 ∷ [])).credential ≡ 8
  pub rooms-are : Answered request_room buffers
  pub request-written : over 0 4 (request 65535) (replicate 5 0x77) ≡ 0x8e ∷ 0x00 ∷ 0xff ∷ 0xff ∷ 0x77 ∷ []
  pub responses-are : Answered (λ m. (read_count m).number) responses
  pub count-is : (read_count two).count ≡ 2
  pub row-1 : Answered (λ m. (read_row_at m 1).number) rows1
  pub row-2 : Answered (λ m. (read_row_at m 2).number) rows2
  pub row-says : (read_row_at two 1).row.credential.0 ≡ 258
  pub row_named : (read_row_at two 1).row.name.bytes ≡ replicate 48 0x22

pub worked : Worked
unfolding bytes_of number_of number_at rows every over is_row ◌when◌ ◌unless◌ ◌▸◌ message_length head is_headed head_number request request_number read_request request_room row_part is_listing count_number read_count row_number read_row_at
worked =
    record {
      requests-are = refl;
      request-says = refl;
      rooms-are = refl;
      request-written = refl;
      responses-are = refl;
      count-is = refl;
      row-1 = refl;
      row-2 = refl;
      row-says = refl;
      row_named = refl;
    }
