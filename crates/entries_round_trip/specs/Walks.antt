-- The loop over a list that include/slavotuk.h prescribes: the piece at the front of the rest, then that at the front of what lies behind it, until nothing does, by
-- calls of slavotuk_read_piece of which nothing is known but their contract.
use Rattle.std.specs.Prelude.{ℕ, ◌-◌, ◌<◌, ◌≡◌, List, [], ◌∷◌, length, take, drop}
use Rattle.module_state.specs.Numbers as No
use Rattle.message_formats.specs.declared.Part.{Part}
use Rattle.message_formats.specs.declared.Part.TheVariants.{VersionEntry, ProcessInfo, Owner, Policy, ResetElement}
use Rattle.message_fields.specs.Fields.{values_of, head_long}
use Rattle.message_pieces.specs.Pieces.{piece_long}
use Rattle.message_codes.specs.Codes.{piece_of}
use Rattle.entries_messages.specs.Entries.{read_piece_number, PieceEntry}
use Rattle.entries_round_trip.specs.Parts.{PieceHeld, PartHeld}

-- the kinds of the pieces that a part is, and what these hold
unfoldable pub kinds_of : Part → List ℕ
kinds_of VersionEntry = 0 ∷ []
kinds_of ProcessInfo = 1 ∷ []
kinds_of Owner = 2 ∷ []
kinds_of Policy = 2 ∷ 3 ∷ []
kinds_of ResetElement = 2 ∷ 4 ∷ []

unfoldable pub pieces_of : Part → PartHeld → List PieceHeld
pieces_of VersionEntry held = held.front ∷ []
pieces_of ProcessInfo held = held.front ∷ []
pieces_of Owner held = held.front ∷ []
pieces_of Policy held = held.front ∷ held.back ∷ []
pieces_of ResetElement held = held.front ∷ held.back ∷ []

-- a call on some bytes that lends seven values: what was lent, what was answered and handed out, and the entry's contract of these
pub record PieceCall (kind : ℕ) (bytes : List ℕ) : Type 0 where
  pub lent : List ℕ
  pub lent_rest : ℕ
  pub lent_next : ℕ
  pub answer : ℕ
  pub values : List ℕ
  pub rest : ℕ
  pub next : ℕ
  pub seven : length lent ≡ 7
  pub promised : PieceEntry (read_piece_number kind bytes lent) (values_of (piece_of kind) bytes) (head_long (piece_of kind)) (piece_long (piece_of kind) bytes) lent lent_rest lent_next answer values rest next

-- the piece, by what was handed out: its values, and the bytes from where its rest begins to where it ends
unfoldable pub handed : {kind : ℕ} {bytes : List ℕ} → PieceCall kind bytes → PieceHeld
handed {kind} {bytes} call = record { values = call.values; rest = take (call.next - call.rest) (drop call.rest bytes) }

-- the loop with the kinds of a part over and over: those that are still to be read of the part, the bytes that are left, the pieces that are handed out from here
-- on, and the number in the end. It ends where a part does and no byte is left, or where a call is refused
pub data Walk (kinds : List ℕ) : List ℕ → List ℕ → List PieceHeld → ℕ → Type 0 where
  ended : Walk kinds [] [] [] No.done
  again : {bytes : List ℕ} {pieces : List PieceHeld} {number : ℕ} → 0 < length bytes → Walk kinds kinds bytes pieces number → Walk kinds [] bytes pieces number
  refused : {kind : ℕ} {later bytes : List ℕ} (call : PieceCall kind bytes) → (call.answer ≡ No.done → ⊥) → Walk kinds (kind ∷ later) bytes [] call.answer
  read : {kind : ℕ} {later bytes : List ℕ} {pieces : List PieceHeld} {number : ℕ} (call : PieceCall kind bytes)
      → call.answer ≡ No.done → Walk kinds later (drop call.next bytes) pieces number → Walk kinds (kind ∷ later) bytes (handed call ∷ pieces) number
