-- What a program in C or Rust hands in, and which values that is.
use Rattle.std.specs.Prelude.{ℕ, ◌+◌, Bool, cond, ◌&&◌, ◌||◌, List, [], ◌∷◌, eqb, ltb, leb, length}
use Rattle.rows.specs.Bytes.{byte_of}
use Rattle.rows.specs.Rows.{every}
use Rattle.names.specs.declared.Credential.{Credential}
use Rattle.names.specs.declared.Session.{Session}
use Rattle.module_state.specs.Module.{slot_of, credential_count, both_words}
use Rattle.module_state.specs.declared.Claim.{Claim}
use Rattle.module_state.specs.declared.Claim.TheVariants.{Elevated, ByUser}
use Rattle.module_state.specs.declared.Class.{Class}
use Rattle.module_state.specs.declared.Grants.{Grants}
use Rattle.module_state.specs.declared.UserClaim.{UserClaim}
use Rattle.calls.specs.declared.Wanted.{Wanted}
use Rattle.calls.specs.declared.Wanted.TheVariants.{Every, Only}

-- A number too large for its type is handed on as the largest, which is out of every range
unfoldable pub session_of : ℕ → ℕ → Session
session_of port handle = slot_of (record { 0 = byte_of port }) (record { 0 = byte_of handle })

unfoldable pub class_of : ℕ → Class
class_of n = record { 0 = byte_of n }

-- the largest of 16 bits: no credential's, and "65535 for all"
abbrev pub every_number : ℕ
every_number = 65535

unfoldable pub credential_of : ℕ → Credential
credential_of n = record { 0 = cond (ltb n (every_number + 1)) n every_number }

-- "65535 is allowed as the wanted credential of a listing"
unfoldable pub wanted_of : ℕ → Wanted
wanted_of n = cond (eqb n every_number) Every (Only (credential_of n))

-- and back, by cases
abbrev pub wanted_number : Wanted → ℕ
wanted_number Every = every_number
wanted_number (Only c) = c.0

-- "a flag (claim kind, verdict, keep, provisioned) other than 0 or 1" is 1
unfoldable pub is_flag : ℕ → Bool
is_flag n = leb n 1

abbrev pub flag_of : ℕ → Bool
flag_of n = eqb n 1

-- a claim's kind is 0 for a user's, 1 for an elevated one
unfoldable pub user_claim_of : ℕ → ℕ → ℕ → UserClaim
user_claim_of credential number verdict = record { credential = credential_of credential; number = number; verdict = flag_of verdict }

unfoldable pub claim_of : ℕ → ℕ → ℕ → ℕ → Claim
claim_of kind credential number verdict = cond (flag_of kind) Elevated (ByUser (user_claim_of credential number verdict))

-- and back, by cases
abbrev pub claim_kind : Claim → ℕ
claim_kind Elevated = 1
claim_kind (ByUser u) = 0

-- "there an elevated claim's credential, number and verdict are ignored whatever they hold, by the check for 1 too"
unfoldable pub are_claim_flags : ℕ → ℕ → Bool
are_claim_flags kind verdict = is_flag kind && (flag_of kind || is_flag verdict)

-- "A fresh module is made from eight such pairs": what is handed in for it, a list of flags, one of grant words and one of second words
pub record Handed : Type 0 where
  pub flags : List ℕ
  pub words : List ℕ
  pub seconds : List ℕ

abbrev pub handed : List ℕ → List ℕ → List ℕ → Handed
handed flags words seconds = record { flags = flags; words = words; seconds = seconds }

-- the pairs that these are
unfoldable pub pairs_from : List ℕ → List ℕ → List ℕ → List Grants
pairs_from [] words seconds = []
pairs_from (flag ∷ flags) [] seconds = []
pairs_from (flag ∷ flags) (word ∷ words) [] = []
pairs_from (flag ∷ flags) (word ∷ words) (second ∷ seconds) =
    record { provisioned = flag_of flag; words = both_words word second } ∷ pairs_from flags words seconds

abbrev pub pairs_of : Handed → List Grants
pairs_of h = pairs_from h.flags h.words h.seconds

-- eight flags, each 0 or 1, eight grant words and eight second words
unfoldable pub are_pairs : Handed → Bool
are_pairs h =
    eqb (length h.flags) credential_count
    && (eqb (length h.words) credential_count
    && (eqb (length h.seconds) credential_count
    && every is_flag h.flags))
