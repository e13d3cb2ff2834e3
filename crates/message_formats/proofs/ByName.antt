-- Each message of 004 clause 9.2 by its name, with each operation and each error that has a shape of its own, and each piece of a list: a line has what the
-- message's table of 004 has. The definitions are held to these lines here; that a line's values are written and read in so many bytes is in crate entries_round_trip,
-- and that its code has its shape in message_codes. So a bound that was changed in definition and code alike is refused.
-- Assumes nothing.
use Prim.Native.Nat.{ℕ, zero, suc, ◌+◌, ◌-◌, ◌^◌}
use mathlib.Core.Path.{◌≡◌, refl}
use mathlib.Core.Bool.{Bool, true, false, not, ◌&&◌}
use mathlib.Core.List.{List, [], ◌∷◌, ◌++◌, map}
use lib.Dec.{eqb}
use lib.ListN.{replicate}
use Rattle.lists.specs.Lists.{any, padded}
use Rattle.message_formats.specs.declared.Field.{Field}
use Rattle.message_formats.specs.declared.Form.{Form}
use Rattle.message_formats.specs.declared.Shape.{Shape}
use Rattle.message_formats.specs.declared.Shape.TheVariants.{Plain, VersionNumber, OneCredential, ChangeCredential, ChangePolicies, LockOrUnlocking, StartAuth, EndAuth, Reset, CredentialAndName, VersionList, CredentialParameters, PolicyAnswer, StartAuthResponse, Capabilities, ProcessList, NameAlone, PlainError, UnsupportedRequest, Terminated, VendorError, VersionPiece, ProcessPiece, OwnerPiece, PolicyPiece, ResetPiece}
use Rattle.message_formats.specs.declared.Part.TheVariants.{VersionEntry, ProcessInfo, Owner, Policy, ResetElement}
use Rattle.message_formats.specs.declared.Rest.{Rest}
use Rattle.message_formats.specs.declared.Rest.TheVariants.{Exactly, Said, SaidTo, Parts}
use Rattle.message_formats.specs.Formats.{form_of, meant, is_allowed, fields_of, rest_of}

-- ---- a field: at which byte it begins, how many bytes it has, the bounds of what may stand there, what is next to these and may not, and what some numbers
-- of its bytes mean
pub record Meaning : Type 0 where
  pub number : ℕ
  pub value : ℕ

pub record Held : Type 0 where
  pub begins : ℕ
  pub width : ℕ
  pub taken : List ℕ
  pub refused : List ℕ
  pub read : List Meaning

infix 75 ◌means◌
abbrev pub ◌means◌ : ℕ → ℕ → Meaning
n means v = record { number = n; value = v }

-- one below, where there is such a number
abbrev pub below : ℕ → List ℕ
below zero = []
below (suc n) = n ∷ []

-- all bits of so many bytes set
abbrev pub full : ℕ → ℕ
full width = 256 ^ width - 1

-- a number from the least to the most
abbrev pub number : ℕ → ℕ → ℕ → ℕ → Held
number begins width least most =
    record {
      begins = begins;
      width = width;
      taken = least ∷ most ∷ [];
      refused = below least ++ (suc most ∷ []);
      read = full width means full width ∷ [];
    }

-- any number of so many bytes
abbrev pub whole : ℕ → ℕ → Held
whole begins width = number begins width 0 (full width)

-- so many bits, which say at most a number; the others are reserved
abbrev pub bits_to : ℕ → ℕ → ℕ → ℕ → Held
bits_to begins width count most =
    record {
      begins = begins;
      width = width;
      taken = 0 ∷ most ∷ [];
      refused = suc most ∷ 2 ^ count ∷ [];
      read = full width means (2 ^ count - 1) ∷ (2 ^ count) means 0 ∷ [];
    }

abbrev pub bits : ℕ → ℕ → ℕ → Held
bits begins width count = bits_to begins width count (2 ^ count - 1)

abbrev pub reserved : ℕ → ℕ → Held
reserved begins width = bits begins width 0

-- ---- a line: the fields, where what follows them begins and what it is; and an example: the code, seven values, what follows, and how many bytes that has in all.
-- Of a piece of a list the code is its kind
pub record Line : Type 0 where
  pub shape : Shape
  pub fields : List Held
  pub rest_begins : ℕ
  pub rest : Rest
  pub code : ℕ
  pub values : List ℕ
  pub follows : List ℕ
  pub long : ℕ

abbrev pub line : Shape → List Held → ℕ → Rest → ℕ → List ℕ → List ℕ → ℕ → Line
line shape fields rest_begins rest code values follows long =
    record {
      shape = shape;
      fields = fields;
      rest_begins = rest_begins;
      rest = rest;
      code = code;
      values = padded 7 0 values;
      follows = follows;
      long = long;
    }

-- nothing behind the reserved byte
abbrev pub plain : ℕ → Line
plain code = line Plain [] 2 (Exactly 0) code [] [] 2

-- a CredentialID alone
abbrev pub credential_alone : ℕ → Line
credential_alone code = line OneCredential (whole 2 2 ∷ []) 4 (Exactly 0) code (0x0102 ∷ []) [] 4

-- Lock and Unlock: the operation, CredentialID
abbrev pub locking : ℕ → ℕ → Line
locking code operation = line LockOrUnlocking (number 2 1 2 3 ∷ whole 3 2 ∷ []) 5 (Exactly 0) code (operation ∷ 0x0102 ∷ []) [] 5

-- an error whose data is 0 and that has no more: ErrorCode, ErrorData
abbrev pub plain_error : ℕ → Line
plain_error error = line PlainError (whole 2 1 ∷ number 3 1 0 0 ∷ []) 4 (Exactly 0) 0x7f (error ∷ 0 ∷ []) [] 4

-- Table 2, from a byte on: CredentialID, CredentialType, BaseAsymAlgo (Table 70), BaseHashAlgo (Table 71), Reserved, CredentialDataSize
abbrev pub structure_from : ℕ → List Held
structure_from begins =
    whole begins 2
    ∷ number (begins + 2) 1 1 1
    ∷ bits (begins + 3) 8 12
    ∷ bits (begins + 11) 8 7
    ∷ reserved (begins + 19) 4
    ∷ whole (begins + 23) 4
    ∷ []

-- ---- what follows in the examples
abbrev pub name : List ℕ
name = replicate 48 0x5a

abbrev pub nonce : List ℕ
nonce = replicate 32 0xa5

-- a policy: registry 3, its vendor's id of two bytes; version 7, three bytes
abbrev pub one_policy : List ℕ
one_policy = 3 ∷ 2 ∷ 0xaa ∷ 0xbb ∷ 7 ∷ 0 ∷ 0 ∷ 0 ∷ 3 ∷ 0 ∷ 0x11 ∷ 0x22 ∷ 0x33 ∷ []

-- ---- Table 16
abbrev pub request_lines : List Line
request_lines =
    -- GET_AUTH_VERSION, Table 23
    plain 0x81
    -- SELECT_AUTH_VERSION, Table 26: AuthVersion
    ∷ line VersionNumber (whole 2 1 ∷ []) 3 (Exactly 0) 0x82 (0x10 ∷ []) [] 3
    -- SET_CRED_ID_PARAMS, Table 33, with ParameterChange: SetCredInfoOp (Table 34), Table 2; CredentialData
    ∷ line ChangeCredential (number 2 1 1 1 ∷ structure_from 3) 30 (Said 6) 0x83 (1 ∷ 0x0102 ∷ 1 ∷ 0x80 ∷ 0x02 ∷ 0 ∷ 3 ∷ []) (0x30 ∷ 0x01 ∷ 0x2a ∷ []) 33
    -- with Lock, with Unlock
    ∷ locking 0x83 2
    ∷ locking 0x83 3
    -- GET_CRED_ID_PARAMS, Table 36: CredentialID
    ∷ credential_alone 0x84
    -- SET_AUTH_POLICY, Table 39, with PolicyChange: SetAuthPolicyOp (Table 40), CredentialID, NumPolicies (Table 3); Policies
    ∷ line ChangePolicies (number 2 1 1 1 ∷ whole 3 2 ∷ number 5 2 1 65535 ∷ []) 7 (Parts Policy 2) 0x85 (1 ∷ 0x0102 ∷ 2 ∷ []) (one_policy ++ one_policy) 33
    -- with Lock, with Unlock
    ∷ locking 0x85 2
    ∷ locking 0x85 3
    -- GET_AUTH_POLICY, Table 42: CredentialID
    ∷ credential_alone 0x86
    -- START_AUTH, Table 49: CredentialID, Attributes (Table 50), NonceLen; Nonce
    ∷ line StartAuth (whole 2 2 ∷ bits 4 1 1 ∷ number 5 1 32 32 ∷ []) 6 (Said 2) 0x87 (0x0102 ∷ 1 ∷ 32 ∷ []) nonce 38
    -- END_AUTH, Table 52: CredentialID, Attributes (Table 54)
    ∷ line EndAuth (whole 2 2 ∷ bits_to 4 1 2 2 ∷ []) 5 (Exactly 0) 0x88 (0x0102 ∷ 2 ∷ []) [] 5
    -- ELEVATE_PRIVILEGE, Table 55
    ∷ plain 0x89
    -- END_ELEVATED_PRIVILEGE, Table 57
    ∷ plain 0x8a
    -- GET_AUTH_CAPABILITIES, Table 28
    ∷ plain 0x8b
    -- AUTH_RESET_TO_DEFAULT, Table 61: DataType (Table 62), CredentialID, SVResetDataTypeCount; SVResetDataTypeList
    ∷ line Reset (bits 2 2 2 ∷ whole 4 2 ∷ whole 6 2 ∷ []) 8 (Parts ResetElement 2) 0x8c (3 ∷ 0x0102 ∷ 1 ∷ []) (3 ∷ 1 ∷ 0xaa ∷ 1 ∷ 0x77 ∷ []) 13
    -- TAKE_OWNERSHIP, Table 59
    ∷ plain 0x8d
    -- GET_AUTH_PROCESSES, Table 44: CredentialID
    ∷ credential_alone 0x8e
    -- KILL_AUTH_PROCESS, Table 47: CredentialID; AuthProcID
    ∷ line CredentialAndName (whole 2 2 ∷ []) 4 (Exactly 48) 0x8f (0x0102 ∷ []) name 52
    ∷ []

-- ---- Table 17
abbrev pub response_lines : List Line
response_lines =
    -- AUTH_VERSION, Table 24: VersionNumberEntryCount; VersionNumberEntries
    line VersionList (whole 2 1 ∷ []) 3 (Parts VersionEntry 0) 0x01 (2 ∷ []) (0x00 ∷ 0x10 ∷ 0x00 ∷ 0x11 ∷ []) 7
    -- SELECT_AUTH_VERSION_RSP, Table 27
    ∷ plain 0x02
    -- SET_CRED_ID_PARAMS_DONE, Table 35
    ∷ plain 0x03
    -- CRED_ID_PARAMS, Table 37: CredAttributes (Table 38), Table 2; CredentialData
    ∷ line CredentialParameters (bits 2 2 3 ∷ structure_from 4) 31 (Said 6) 0x04 (7 ∷ 0x0102 ∷ 1 ∷ 0x80 ∷ 0x02 ∷ 0 ∷ 3 ∷ []) (0x30 ∷ 0x01 ∷ 0x2a ∷ []) 34
    -- SET_AUTH_POLICY_DONE, Table 41
    ∷ plain 0x05
    -- AUTH_POLICY, Table 43: PolicyAttributes (Table 38), CredentialID, NumPolicies (Table 3); Policies
    ∷ line PolicyAnswer (bits 2 2 3 ∷ whole 4 2 ∷ number 6 2 1 65535 ∷ []) 8 (Parts Policy 2) 0x06 (7 ∷ 0x0102 ∷ 1 ∷ []) one_policy 21
    -- START_AUTH_RSP, Table 51: CredentialID, NonceLen; Nonce
    ∷ line StartAuthResponse (whole 2 2 ∷ number 4 1 32 32 ∷ []) 5 (Said 1) 0x07 (0x0102 ∷ 32 ∷ []) nonce 37
    -- END_AUTH_RSP, Table 53: CredentialID
    ∷ credential_alone 0x08
    -- PRIVILEGE_ELEVATED, Table 56
    ∷ plain 0x09
    -- ELEVATED_PRIVILEGE_ENDED, Table 58
    ∷ plain 0x0a
    -- AUTH_CAPABILITIES, Table 29: MessageCaps (Table 30), AuthProcessCaps (Table 31), DeviceProvisioningState (Table 32), AuthRecordProcessTime,
    -- BaseAsymAlgoSupported (Table 70), BaseHashAlgoSupported (Table 71), SupportedPolicyOwnerIDCount; SupportedPolicyOwnerIDList
    ∷ line Capabilities
    (bits 2 2 6 ∷ bits 4 2 4 ∷ number 6 1 0 2 ∷ number 7 1 0 31 ∷ bits 8 8 12 ∷ bits 16 8 7 ∷ whole 24 2 ∷ [])
    26
    (Parts Owner 6)
    0x0b
    (63 ∷ 15 ∷ 2 ∷ 31 ∷ 4095 ∷ 127 ∷ 1 ∷ [])
    (0x0b ∷ 2 ∷ 0x21 ∷ 0x01 ∷ [])
    30
    -- AUTH_DEFAULTS_APPLIED, Table 64
    ∷ plain 0x0c
    -- OWNERSHIP_TAKEN, Table 60
    ∷ plain 0x0d
    -- AUTH_PROCESSES, Table 45: AuthProcInfoCount; AuthProcInfoList
    ∷ line ProcessList (whole 2 2 ∷ []) 4 (Parts ProcessInfo 0) 0x0e (1 ∷ []) (0x02 ∷ 0x01 ∷ 2 ∷ name) 55
    -- PROCESS_KILLED, Table 48: AuthProcID
    ∷ line NameAlone [] 2 (Exactly 48) 0x0f [] name 50
    ∷ []

-- ---- AUTH_ERROR, Table 20, by its ErrorCode, Table 21
abbrev pub error_lines : List Line
error_lines =
    -- InvalidRequest, ResetRequired, Busy, UnexpectedRequest, Unspecified, AccessDenied, OperationFailed, VersionMismatch
    plain_error 0x01
    ∷ plain_error 0x02
    ∷ plain_error 0x03
    ∷ plain_error 0x04
    ∷ plain_error 0x05
    ∷ plain_error 0x06
    ∷ plain_error 0x07
    ∷ plain_error 0x08
    -- UnsupportedRequest: ErrorCode, ErrorData
    ∷ line UnsupportedRequest (whole 2 1 ∷ whole 3 1 ∷ []) 4 (Exactly 0) 0x7f (0x09 ∷ 0x90 ∷ []) [] 4
    -- InvalidRecord
    ∷ plain_error 0x0a
    -- TermAuthProc: ErrorCode, ErrorData, CredentialID
    ∷ line Terminated (whole 2 1 ∷ number 3 1 0 0 ∷ whole 4 2 ∷ []) 6 (Exactly 0) 0x7f (0x0b ∷ 0 ∷ 0x0102 ∷ []) [] 6
    -- vendor or standards-defined, Table 22: ErrorCode, ErrorData, VendorIDLen; VendorID and OpaqueErrorData, 32 bytes with VendorIDLen. Here the VendorID has
    -- all of them
    ∷ line VendorError (whole 2 1 ∷ whole 3 1 ∷ whole 4 1 ∷ []) 5 (SaidTo 2 31) 0x7f (0xff ∷ 3 ∷ 31 ∷ []) (replicate 31 0xe1) 36
    ∷ []

abbrev pub message_lines : List Line
message_lines = request_lines ++ response_lines ++ error_lines

-- ---- the pieces of lists
abbrev pub piece_lines : List Line
piece_lines =
    -- an entry of AUTH_VERSION, Table 25: VersionNumberEntry
    line VersionPiece (whole 0 2 ∷ []) 2 (Exactly 0) 0 (0x1000 ∷ []) [] 2
    -- Authorization process information, Table 46: CredentialID, AuthProcessType; AuthProcID
    ∷ line ProcessPiece (whole 0 2 ∷ number 2 1 0 2 ∷ []) 3 (Exactly 48) 1 (0x0102 ∷ 2 ∷ []) name 51
    -- an owner, the SVH of Tables 4, 29 and 63: ID, VendorIDLen; VendorID. Here that of DSP0289 itself, Table 65
    ∷ line OwnerPiece (whole 0 1 ∷ whole 1 1 ∷ []) 2 (Said 1) 2 (0x0b ∷ 2 ∷ []) (0x21 ∷ 0x01 ∷ []) 4
    -- a policy behind its owner, Table 4: PolicyVersion, PolicyLen; Policy
    ∷ line PolicyPiece (whole 0 4 ∷ whole 4 2 ∷ []) 6 (Said 1) 3 (0x1000 ∷ 3 ∷ []) (0x11 ∷ 0x22 ∷ 0x33 ∷ []) 9
    -- a reset element behind its owner, Table 63: SVResetDataTypeLen; SVResetDataType. Here the longest
    ∷ line ResetPiece (number 0 1 0 32 ∷ []) 1 (Said 0) 4 (32 ∷ []) (replicate 32 0xd1) 33
    ∷ []

-- ---- the definitions are held to the lines
abbrev pub pinned : Form → Held → Bool
pinned form held =
    eqb form.width held.width
    && not (any (λ (value : ℕ). not (is_allowed form value)) held.taken)
    && not (any (is_allowed form) held.refused)
    && not (any (λ (m : Meaning). not (eqb (meant form m.number) m.value)) held.read)

-- field by field, each where the one before it ends
abbrev pub pinned_from : ℕ → List Field → List Held → ℕ → Bool
pinned_from begins [] [] rest_begins = eqb begins rest_begins
pinned_from begins [] (h ∷ hs) rest_begins = false
pinned_from begins (f ∷ fs) [] rest_begins = false
pinned_from begins (f ∷ fs) (h ∷ hs) rest_begins = eqb begins h.begins && pinned (form_of f) h && pinned_from (begins + h.width) fs hs rest_begins

abbrev pub held : ℕ → Line → Bool
held begins l = pinned_from begins (fields_of l.shape) l.fields l.rest_begins

pub record ByName : Type 0 where
  -- each bound may stand in its field, and what is one below or above it may not; reserved bits are read as zero; each field stands where 004 has it, those of a
  -- message from byte 2 on
  pub message-fields : map (held 2) message_lines ≡ replicate 46 true
  pub piece-fields : map (held 0) piece_lines ≡ replicate 5 true
  -- and so does what follows them
  pub message-rests : map (λ (l : Line). rest_of l.shape) message_lines ≡ map (λ (l : Line). l.rest) message_lines
  pub piece-rests : map (λ (l : Line). rest_of l.shape) piece_lines ≡ map (λ (l : Line). l.rest) piece_lines

pub by_name : ByName
unfolding any padded form_of meant is_allowed fields_of rest_of
by_name = record { message-fields = refl; piece-fields = refl; message-rests = refl; piece-rests = refl }
