-- What a message of 004 clause 9.2 is made of: the fields behind its code and reserved byte, what each may hold, and what follows them.
-- `form_of` has what a field may hold. `contents_of` has the messages, each with its name and the number of its table of 004.
use Rattle.std.specs.Prelude.{ℕ, ◌%◌, Bool, cond, ◌&&◌, List, [], ◌∷◌, eqb, leb}
use Rattle.message_formats.specs.declared.Field.{Field}
use Rattle.message_formats.specs.declared.Field.TheVariants.{Unused, Reserved, AuthVersion, VersionNumberEntryCount, VersionNumberEntry, MessageCaps, AuthProcessCaps, DeviceProvisioningState, AuthRecordProcessTime, BaseAsymAlgoSupported, BaseHashAlgoSupported, SupportedPolicyOwnerIDCount, Change, LockOrUnlock, CredentialID, CredentialType, BaseAsymAlgo, BaseHashAlgo, CredentialDataSize, CredAttributes, NumPolicies, RegistryID, VendorIDLen, PolicyVersion, PolicyLen, AuthProcInfoCount, AuthProcessType, StartAttributes, NonceLen, EndAttributes, DataType, SVResetDataTypeCount, SVResetDataTypeLen, ErrorCode, ErrorData, NoErrorData}
use Rattle.message_formats.specs.declared.Form.{Form}
use Rattle.message_formats.specs.declared.Shape.{Shape}
use Rattle.message_formats.specs.declared.Shape.TheVariants.{NoMessage, Plain, VersionNumber, OneCredential, ChangeCredential, ChangePolicies, LockOrUnlocking, StartAuth, EndAuth, Reset, CredentialAndName, VersionList, CredentialParameters, PolicyAnswer, StartAuthResponse, Capabilities, ProcessList, NameAlone, PlainError, UnsupportedRequest, Terminated, VendorError, VersionPiece, ProcessPiece, OwnerPiece, PolicyPiece, ResetPiece}
use Rattle.message_formats.specs.declared.Part.TheVariants.{VersionEntry, ProcessInfo, Owner, Policy, ResetElement}
use Rattle.message_formats.specs.declared.Rest.{Rest}
use Rattle.message_formats.specs.declared.Rest.TheVariants.{Exactly, Said, SaidTo, Parts, Never}

-- ---- what a field holds

-- a number of so many bytes that is at least one number and at most another; every bit counts
abbrev pub between : ℕ → ℕ → ℕ → Form
between width least most = record { width = width; values = 0; least = least; most = most }

-- bits of which the lowest count, so that they say one of so many values, and that say at most a number; the others are reserved
abbrev pub flags : ℕ → ℕ → ℕ → Form
flags width values most = record { width = width; values = values; least = 0; most = most }

unfoldable pub form_of : Field → Form
-- no field
form_of Unused = flags 0 1 0
-- Tables 24 to 26
form_of AuthVersion = between 1 0 255
form_of VersionNumberEntryCount = between 1 0 255
form_of VersionNumberEntry = between 2 0 65535
-- Tables 29 to 32: six bits, four bits, "All other values: Reserved", "shall not exceed 31"; Tables 70 and 71: twelve and seven bits
form_of MessageCaps = flags 2 64 63
form_of AuthProcessCaps = flags 2 16 15
form_of DeviceProvisioningState = between 1 0 2
form_of AuthRecordProcessTime = between 1 0 31
form_of BaseAsymAlgoSupported = flags 8 4096 4095
form_of BaseHashAlgoSupported = flags 8 128 127
form_of SupportedPolicyOwnerIDCount = between 2 0 65535
-- Tables 34 and 40: ParameterChange or PolicyChange, Lock or Unlock
form_of Change = between 1 1 1
form_of LockOrUnlock = between 1 2 3
-- Table 2: "Shall be 0x01 for this version"; four reserved bytes
form_of CredentialID = between 2 0 65535
form_of CredentialType = between 1 1 1
form_of BaseAsymAlgo = flags 8 4096 4095
form_of BaseHashAlgo = flags 8 128 127
form_of Reserved = flags 4 1 0
form_of CredentialDataSize = between 4 0 4294967295
-- Table 38: three bits
form_of CredAttributes = flags 2 8 7
-- Table 3: "shall be at least one"
form_of NumPolicies = between 2 1 65535
-- the header of DSP0293, as Tables 22 and 65 have it, and Table 4 behind it
form_of RegistryID = between 1 0 255
form_of VendorIDLen = between 1 0 255
form_of PolicyVersion = between 4 0 4294967295
form_of PolicyLen = between 2 0 65535
-- Tables 45 and 46
form_of AuthProcInfoCount = between 2 0 65535
form_of AuthProcessType = between 1 0 2
-- Tables 49 to 51: one bit; "Shall be 32 bytes"
form_of StartAttributes = flags 1 2 1
form_of NonceLen = between 1 32 32
-- Table 54: two bits, of which 3 is reserved
form_of EndAttributes = flags 1 4 2
-- Tables 61 to 63: two bits; "shall not exceed 32"
form_of DataType = flags 2 4 3
form_of SVResetDataTypeCount = between 2 0 65535
form_of SVResetDataTypeLen = between 1 0 32
-- Tables 20 and 21: the data is 0, but for the two errors that say what it is
form_of ErrorCode = between 1 0 255
form_of ErrorData = between 1 0 255
form_of NoErrorData = between 1 0 0

-- what a number of its bytes means: reserved bits are "ignored when read"
unfoldable pub meant : Form → ℕ → ℕ
meant form n = cond (eqb form.values 0) n (n % form.values)

-- a value that 004 has for the field. It has no reserved bit set, since the most that a form allows is below its count of values
unfoldable pub is_allowed : Form → ℕ → Bool
is_allowed form value = leb form.least value && leb value form.most

-- ---- the messages. A message is its code at byte 0, a reserved byte, its fields from byte 2 on, and what follows them. A piece of a list is its fields,
-- from its byte 0 on, and what follows them.
-- What follows is `Exactly` so many bytes; as many as the value at a place says (`Said`), the first field being place 0; at least as many, and at most a number
-- (`SaidTo`); as many parts of a list as the value at a place says (`Parts`); `Never` where nothing can follow, since there is no such message
pub record Contents : Type 0 where
  pub fields : List Field
  pub rest : Rest

infix 30 ◌then_rest◌
abbrev pub ◌then_rest◌ : List Field → Rest → Contents
fields then_rest rest = record { fields = fields; rest = rest }

-- the credential structure, Table 2: at its byte 0 CredentialID, 2 CredentialType, 3 BaseAsymAlgo, 11 BaseHashAlgo, 19 Reserved, 23 CredentialDataSize,
-- 27 CredentialData
abbrev pub credential_structure : List Field
credential_structure = CredentialID ∷ CredentialType ∷ BaseAsymAlgo ∷ BaseHashAlgo ∷ Reserved ∷ CredentialDataSize ∷ []

unfoldable pub contents_of : Shape → Contents
-- no message: a code that Tables 16 and 17 have not, an operation or an error that its table reserves
contents_of NoMessage = [] then_rest Never
-- GET_AUTH_VERSION (Table 23), GET_AUTH_CAPABILITIES (28), ELEVATE_PRIVILEGE (55), END_ELEVATED_PRIVILEGE (57), TAKE_OWNERSHIP (59);
-- SELECT_AUTH_VERSION_RSP (27), SET_CRED_ID_PARAMS_DONE (35), SET_AUTH_POLICY_DONE (41), PRIVILEGE_ELEVATED (56), ELEVATED_PRIVILEGE_ENDED (58),
-- OWNERSHIP_TAKEN (60), AUTH_DEFAULTS_APPLIED (64): nothing behind the reserved byte
contents_of Plain = [] then_rest Exactly 0
-- ---- requests: Table 16
-- SELECT_AUTH_VERSION (Table 26): at 2 AuthVersion
contents_of VersionNumber = AuthVersion ∷ [] then_rest Exactly 0
-- SET_CRED_ID_PARAMS (Table 33) with ParameterChange (34): at 2 SetCredInfoOp, 3 CredParams, a credential structure, whose data is as long as place 6 says,
-- CredentialDataSize
contents_of ChangeCredential = Change ∷ credential_structure then_rest Said 6
-- GET_CRED_ID_PARAMS (Table 36), GET_AUTH_POLICY (42), GET_AUTH_PROCESSES (44), and the response END_AUTH_RSP (53): at 2 CredentialID
contents_of OneCredential = CredentialID ∷ [] then_rest Exactly 0
-- SET_AUTH_POLICY (Table 39) with PolicyChange (40): at 2 SetAuthPolicyOp, 3 PolicyList, which is Table 3: CredentialID, at 5 NumPolicies, at 7 as many
-- policies as place 2 says, NumPolicies
contents_of ChangePolicies = Change ∷ CredentialID ∷ NumPolicies ∷ [] then_rest Parts Policy 2
-- SET_CRED_ID_PARAMS (Table 33) and SET_AUTH_POLICY (39) with Lock or Unlock (34, 40): at 2 the operation, 3 CredentialID
contents_of LockOrUnlocking = LockOrUnlock ∷ CredentialID ∷ [] then_rest Exactly 0
-- START_AUTH (Table 49): at 2 CredentialID, 4 Attributes, 5 NonceLen, 6 Nonce, as long as place 2 says, NonceLen
contents_of StartAuth = CredentialID ∷ StartAttributes ∷ NonceLen ∷ [] then_rest Said 2
-- END_AUTH (Table 52): at 2 CredentialID, 4 Attributes
contents_of EndAuth = CredentialID ∷ EndAttributes ∷ [] then_rest Exactly 0
-- AUTH_RESET_TO_DEFAULT (Table 61): at 2 DataType, 4 CredentialID, 6 SVResetDataTypeCount, 8 as many elements as place 2 says, SVResetDataTypeCount
contents_of Reset = DataType ∷ CredentialID ∷ SVResetDataTypeCount ∷ [] then_rest Parts ResetElement 2
-- KILL_AUTH_PROCESS (Table 47): at 2 CredentialID, 4 AuthProcID
contents_of CredentialAndName = CredentialID ∷ [] then_rest Exactly 48
-- ---- responses: Table 17
-- AUTH_VERSION (Table 24): at 2 VersionNumberEntryCount, 3 as many entries as place 0 says, VersionNumberEntryCount
contents_of VersionList = VersionNumberEntryCount ∷ [] then_rest Parts VersionEntry 0
-- CRED_ID_PARAMS (Table 37): at 2 CredAttributes, 4 CredParams, a credential structure, whose data is as long as place 6 says, CredentialDataSize
contents_of CredentialParameters = CredAttributes ∷ credential_structure then_rest Said 6
-- AUTH_POLICY (Table 43): at 2 PolicyAttributes (Table 38), 4 PolicyList, which is Table 3: CredentialID, at 6 NumPolicies, at 8 as many policies as place 2 says,
-- NumPolicies
contents_of PolicyAnswer = CredAttributes ∷ CredentialID ∷ NumPolicies ∷ [] then_rest Parts Policy 2
-- START_AUTH_RSP (Table 51): at 2 CredentialID, 4 NonceLen, 5 Nonce, as long as place 1 says, NonceLen
contents_of StartAuthResponse = CredentialID ∷ NonceLen ∷ [] then_rest Said 1
-- AUTH_CAPABILITIES (Table 29): at 2 MessageCaps, 4 AuthProcessCaps, 6 DeviceProvisioningState, 7 AuthRecordProcessTime, 8 BaseAsymAlgoSupported,
-- 16 BaseHashAlgoSupported, 24 SupportedPolicyOwnerIDCount, 26 as many owners as place 6 says, SupportedPolicyOwnerIDCount
contents_of Capabilities =
    MessageCaps ∷ AuthProcessCaps ∷ DeviceProvisioningState ∷ AuthRecordProcessTime ∷ BaseAsymAlgoSupported ∷ BaseHashAlgoSupported ∷ SupportedPolicyOwnerIDCount ∷ []
    then_rest Parts Owner 6
-- AUTH_PROCESSES (Table 45): at 2 AuthProcInfoCount, 4 as many processes as place 0 says, AuthProcInfoCount
contents_of ProcessList = AuthProcInfoCount ∷ [] then_rest Parts ProcessInfo 0
-- PROCESS_KILLED (Table 48): at 2 AuthProcID
contents_of NameAlone = [] then_rest Exactly 48
-- ---- AUTH_ERROR (Table 20), by its ErrorCode (Table 21): at 2 ErrorCode, 3 ErrorData, 4 ExtendedErrorData
-- the errors that have no line below: ErrorData 0x00, "No extended error data is provided"
contents_of PlainError = ErrorCode ∷ NoErrorData ∷ [] then_rest Exactly 0
-- UnsupportedRequest, 0x09: ErrorData is the "RequestResponseCode in the request message"
contents_of UnsupportedRequest = ErrorCode ∷ ErrorData ∷ [] then_rest Exactly 0
-- TermAuthProc, 0x0b: ErrorData 0x00, at 4 a CredentialID
contents_of Terminated = ErrorCode ∷ NoErrorData ∷ CredentialID ∷ [] then_rest Exactly 0
-- vendor or standards-defined, 0xff: ErrorData is the registry, at 4 stands Table 22: VendorIDLen, at 5 VendorID, as long as place 2 says, VendorIDLen, and
-- OpaqueErrorData. Of "0-32" bytes of ExtendedErrorData VendorIDLen is one
contents_of VendorError = ErrorCode ∷ ErrorData ∷ VendorIDLen ∷ [] then_rest SaidTo 2 31
-- ---- pieces of lists
-- an entry of AUTH_VERSION (Table 25): at 0 VersionNumberEntry
contents_of VersionPiece = VersionNumberEntry ∷ [] then_rest Exactly 0
-- Authorization process information (Table 46): at 0 CredentialID, 2 AuthProcessType, 3 AuthProcID
contents_of ProcessPiece = CredentialID ∷ AuthProcessType ∷ [] then_rest Exactly 48
-- an owner, PolicyOwnerID (Tables 4 and 29) or SVResetDataTypeOwner (63): at 0 ID, 1 VendorIDLen, 2 VendorID, as long as place 1 says, VendorIDLen
contents_of OwnerPiece = RegistryID ∷ VendorIDLen ∷ [] then_rest Said 1
-- a policy behind its owner (Table 4): at 0 PolicyVersion, 4 PolicyLen, 6 Policy, as long as place 1 says, PolicyLen
contents_of PolicyPiece = PolicyVersion ∷ PolicyLen ∷ [] then_rest Said 1
-- a reset element behind its owner (Table 63): at 0 SVResetDataTypeLen, 1 SVResetDataType, as long as place 0 says, SVResetDataTypeLen
contents_of ResetPiece = SVResetDataTypeLen ∷ [] then_rest Said 0

unfoldable pub fields_of : Shape → List Field
unfolding contents_of
fields_of shape = (contents_of shape).fields

unfoldable pub rest_of : Shape → Rest
unfolding contents_of
rest_of shape = (contents_of shape).rest
