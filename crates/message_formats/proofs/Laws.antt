-- The definitions of this crate, for those who use them: a field has at most 8 bytes and can hold all that it may say, in the bits that count; a
-- message has at most seven fields. Assumes nothing.
use Prim.Native.Nat.{◌^◌, ◌<◌, ◌≤◌}
use mathlib.Core.Path.{◌≡◌, refl, sym, ◌∙◌}
use mathlib.Core.Bool.{Bool, true, false, ◌&&◌, ◌||◌}
use lib.Dec.{eqb, leb, ltb}
use borrow.Author.Tests.{leb-true, ltb-true, ne_eqb}
use lib.ListN.{length}
use Rattle.lists.proofs.Tests.{and_left, and_right}
use Rattle.message_formats.specs.declared.Field.{Field}
use Rattle.message_formats.specs.declared.Field.TheVariants.{Unused, Reserved, AuthVersion, VersionNumberEntryCount, VersionNumberEntry, MessageCaps, AuthProcessCaps, DeviceProvisioningState, AuthRecordProcessTime, BaseAsymAlgoSupported, BaseHashAlgoSupported, SupportedPolicyOwnerIDCount, Change, LockOrUnlock, CredentialID, CredentialType, BaseAsymAlgo, BaseHashAlgo, CredentialDataSize, CredAttributes, NumPolicies, RegistryID, VendorIDLen, PolicyVersion, PolicyLen, AuthProcInfoCount, AuthProcessType, StartAttributes, NonceLen, EndAttributes, DataType, SVResetDataTypeCount, SVResetDataTypeLen, ErrorCode, ErrorData, NoErrorData}
use Rattle.message_formats.specs.declared.Form.{Form}
use Rattle.message_formats.specs.declared.Shape.{Shape}
use Rattle.message_formats.specs.declared.Shape.TheVariants.{NoMessage, Plain, VersionNumber, OneCredential, ChangeCredential, ChangePolicies, LockOrUnlocking, StartAuth, EndAuth, Reset, CredentialAndName, VersionList, CredentialParameters, PolicyAnswer, StartAuthResponse, Capabilities, ProcessList, NameAlone, PlainError, UnsupportedRequest, Terminated, VendorError, VersionPiece, ProcessPiece, OwnerPiece, PolicyPiece, ResetPiece}
use Rattle.message_formats.specs.Formats.{form_of, fields_of}

module _ (form : Form) where
  abbrev narrow : Bool
  narrow = leb form.width 8

  abbrev held : Bool
  held = ltb form.most (256 ^ form.width)

  abbrev counted : Bool
  counted = eqb form.values 0 || ltb form.most form.values

all_sound : (f : Field) → (narrow (form_of f) && (held (form_of f) && counted (form_of f))) ≡ true
unfolding form_of
all_sound Unused = refl
all_sound AuthVersion = refl
all_sound VersionNumberEntryCount = refl
all_sound VersionNumberEntry = refl
all_sound MessageCaps = refl
all_sound AuthProcessCaps = refl
all_sound DeviceProvisioningState = refl
all_sound AuthRecordProcessTime = refl
all_sound BaseAsymAlgoSupported = refl
all_sound BaseHashAlgoSupported = refl
all_sound SupportedPolicyOwnerIDCount = refl
all_sound Change = refl
all_sound LockOrUnlock = refl
all_sound CredentialID = refl
all_sound CredentialType = refl
all_sound BaseAsymAlgo = refl
all_sound BaseHashAlgo = refl
all_sound Reserved = refl
all_sound CredentialDataSize = refl
all_sound CredAttributes = refl
all_sound NumPolicies = refl
all_sound RegistryID = refl
all_sound VendorIDLen = refl
all_sound PolicyVersion = refl
all_sound PolicyLen = refl
all_sound AuthProcInfoCount = refl
all_sound AuthProcessType = refl
all_sound StartAttributes = refl
all_sound NonceLen = refl
all_sound EndAttributes = refl
all_sound DataType = refl
all_sound SVResetDataTypeCount = refl
all_sound SVResetDataTypeLen = refl
all_sound ErrorCode = refl
all_sound ErrorData = refl
all_sound NoErrorData = refl

module _ (f : Field) where
  behind : (held (form_of f) && counted (form_of f)) ≡ true
  behind = and_right (narrow (form_of f)) (held (form_of f) && counted (form_of f)) (all_sound f)

  pub width-most : (form_of f).width ≤ 8
  width-most = leb-true (form_of f).width 8 (and_left (narrow (form_of f)) (held (form_of f) && counted (form_of f)) (all_sound f))

  pub form-sound : (form_of f).most < 256 ^ (form_of f).width
  form-sound = ltb-true (form_of f).most (256 ^ (form_of f).width) (and_left (held (form_of f)) (counted (form_of f)) behind)

  pub bits-sound : ((form_of f).values ≡ 0 → ⊥) → (form_of f).most < (form_of f).values
  bits-sound h =
      let some : eqb (form_of f).values 0 ≡ false = ne_eqb (form_of f).values 0 h in
      let all : counted (form_of f) ≡ true = and_right (held (form_of f)) (counted (form_of f)) behind in
      ltb-true (form_of f).most (form_of f).values (sym (rw some) ∙ all)

few : (l : Shape) → leb (length (fields_of l)) 7 ≡ true
unfolding fields_of
few NoMessage = refl
few Plain = refl
few VersionNumber = refl
few OneCredential = refl
few ChangeCredential = refl
few ChangePolicies = refl
few LockOrUnlocking = refl
few StartAuth = refl
few EndAuth = refl
few Reset = refl
few CredentialAndName = refl
few VersionList = refl
few CredentialParameters = refl
few PolicyAnswer = refl
few StartAuthResponse = refl
few Capabilities = refl
few ProcessList = refl
few NameAlone = refl
few PlainError = refl
few UnsupportedRequest = refl
few Terminated = refl
few VendorError = refl
few VersionPiece = refl
few ProcessPiece = refl
few OwnerPiece = refl
few PolicyPiece = refl
few ResetPiece = refl

pub few-fields : (l : Shape) → length (fields_of l) ≤ 7
few-fields l = leb-true (length (fields_of l)) 7 (few l)
