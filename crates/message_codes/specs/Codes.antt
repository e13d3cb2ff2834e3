-- Which shape a message of 004 clause 9.2 has, by its code, and the kinds of a piece of a list.
use Rattle.std.specs.Prelude.{ℕ, cond, List, [], ◌∷◌, eqb, ltb}
use Rattle.message_formats.specs.declared.Shape.{Shape}
use Rattle.message_formats.specs.declared.Shape.TheVariants.{NoMessage, Plain, VersionNumber, OneCredential, ChangeCredential, ChangePolicies, LockOrUnlocking, StartAuth, EndAuth, Reset, CredentialAndName, VersionList, CredentialParameters, PolicyAnswer, StartAuthResponse, Capabilities, ProcessList, NameAlone, PlainError, UnsupportedRequest, Terminated, VendorError, VersionPiece, ProcessPiece, OwnerPiece, PolicyPiece, ResetPiece}

-- ---- lists of numbers and what each means
pub record Meaning : Type 0 where
  pub code : ℕ
  pub means : Shape

infix 75 ◌has◌
abbrev pub ◌has◌ : ℕ → Shape → Meaning
n has shape = record { code = n; means = shape }

-- a number that is not in the list means no message
unfoldable pub find : ℕ → List Meaning → Shape
find n [] = NoMessage
find n (e ∷ es) = cond (eqb n e.code) e.means (find n es)

-- ---- what stands in the first field of some messages, the chooser
-- Tables 34 and 40: the change of one of them, Lock, Unlock; "All other values: Reserved"
unfoldable pub operations : Shape → List Meaning
operations change = 1 has change ∷ 2 has LockOrUnlocking ∷ 3 has LockOrUnlocking ∷ []

-- Table 21: all but 9 and 0xff have the data 0; 0x0b and 0xff have more behind it
unfoldable pub errors : List Meaning
errors =
    1 has PlainError
    ∷ 2 has PlainError
    ∷ 3 has PlainError
    ∷ 4 has PlainError
    ∷ 5 has PlainError
    ∷ 6 has PlainError
    ∷ 7 has PlainError
    ∷ 8 has PlainError
    ∷ 9 has UnsupportedRequest
    ∷ 0x0a has PlainError
    ∷ 0x0b has Terminated
    ∷ 0xff has VendorError
    ∷ []

-- ---- the messages
-- Table 16
unfoldable pub requests : ℕ → List Meaning
requests chooser =
    -- GET_AUTH_VERSION
    0x81 has Plain
    -- SELECT_AUTH_VERSION
    ∷ 0x82 has VersionNumber
    -- SET_CRED_ID_PARAMS
    ∷ 0x83 has find chooser (operations ChangeCredential)
    -- GET_CRED_ID_PARAMS
    ∷ 0x84 has OneCredential
    -- SET_AUTH_POLICY
    ∷ 0x85 has find chooser (operations ChangePolicies)
    -- GET_AUTH_POLICY
    ∷ 0x86 has OneCredential
    -- START_AUTH
    ∷ 0x87 has StartAuth
    -- END_AUTH
    ∷ 0x88 has EndAuth
    -- ELEVATE_PRIVILEGE
    ∷ 0x89 has Plain
    -- END_ELEVATED_PRIVILEGE
    ∷ 0x8a has Plain
    -- GET_AUTH_CAPABILITIES
    ∷ 0x8b has Plain
    -- AUTH_RESET_TO_DEFAULT
    ∷ 0x8c has Reset
    -- TAKE_OWNERSHIP
    ∷ 0x8d has Plain
    -- GET_AUTH_PROCESSES
    ∷ 0x8e has OneCredential
    -- KILL_AUTH_PROCESS
    ∷ 0x8f has CredentialAndName
    ∷ []

-- Table 17
unfoldable pub responses : ℕ → List Meaning
responses chooser =
    -- AUTH_VERSION
    0x01 has VersionList
    -- SELECT_AUTH_VERSION_RSP
    ∷ 0x02 has Plain
    -- SET_CRED_ID_PARAMS_DONE
    ∷ 0x03 has Plain
    -- CRED_ID_PARAMS
    ∷ 0x04 has CredentialParameters
    -- SET_AUTH_POLICY_DONE
    ∷ 0x05 has Plain
    -- AUTH_POLICY
    ∷ 0x06 has PolicyAnswer
    -- START_AUTH_RSP
    ∷ 0x07 has StartAuthResponse
    -- END_AUTH_RSP
    ∷ 0x08 has OneCredential
    -- PRIVILEGE_ELEVATED
    ∷ 0x09 has Plain
    -- ELEVATED_PRIVILEGE_ENDED
    ∷ 0x0a has Plain
    -- AUTH_CAPABILITIES
    ∷ 0x0b has Capabilities
    -- AUTH_DEFAULTS_APPLIED
    ∷ 0x0c has Plain
    -- OWNERSHIP_TAKEN
    ∷ 0x0d has Plain
    -- AUTH_PROCESSES
    ∷ 0x0e has ProcessList
    -- PROCESS_KILLED
    ∷ 0x0f has NameAlone
    -- AUTH_ERROR
    ∷ 0x7f has find chooser errors
    ∷ []

-- "0x00 through 0x7F represent response codes and 0x80 through 0xFF represent request codes"
unfoldable pub shape_of : ℕ → ℕ → Shape
shape_of code chooser = cond (ltb code 0x80) (find code (responses chooser)) (find code (requests chooser))

-- ---- the pieces that lists are made of: Tables 25, 46, the owner of Table 29 and of Table 4, Table 4 behind its owner, and Table 63
unfoldable pub pieces : List Meaning
pieces = 0 has VersionPiece ∷ 1 has ProcessPiece ∷ 2 has OwnerPiece ∷ 3 has PolicyPiece ∷ 4 has ResetPiece ∷ []

unfoldable pub piece_of : ℕ → Shape
piece_of kind = find kind pieces
