-- Facts of what a program hands in that a reader of document 01 looks for.
-- Assumes nothing.
use Prim.Native.Nat.{ℕ, suc, ◌+◌, ◌<◌, ◌≤◌}
use mathlib.Core.Path.{◌≡◌, sym}
use mathlib.Core.Bool.{true, cond, ◌&&◌, ◌||◌}
use native.Mathlib.Omega.{arith}
use borrow.Author.Tests.{ne_eqb, le-leb, lt-leb, leb-true, lt-ltb, ltb-false, eqb-true, eqb-false}
use lib.Dec.{eqb, ltb, leb}
use Rattle.lists.proofs.Tests.{split, or-false}
use Rattle.rows.specs.Bytes.{byte_of}
use Rattle.module_state.specs.Module.{last_port, is_port, last_handle, is_handle, is_session, last_credential, is_credential}
use Rattle.module_state.proofs.Slots.{slot-range}
use Rattle.calls.specs.Calls.{is_device, is_version, is_wanted}
use Rattle.entries_arguments.specs.Arguments.{session_of, class_of, every_number, credential_of, wanted_of, wanted_number, is_flag, claim_of, claim_kind}

-- ---- the arguments' ranges, over the numbers as they are handed in: one that its type does not hold is out of every range
capped-below : (n m k : ℕ) → k < m → leb (cond (ltb n (suc m)) n m) k ≡ leb n k
capped-below n m k h =
    split (ltb n (suc m)) (λ e. rw e)
    (λ e. let q : suc m ≤ n = ltb-false n (suc m) e in rw (e, lt-leb m k h) (sym (lt-leb n k (omega arith))))

capped-above : (n m k : ℕ) → k ≤ m → leb k (cond (ltb n (suc m)) n m) ≡ leb k n
capped-above n m k h =
    split (ltb n (suc m)) (λ e. rw e)
    (λ e. let q : suc m ≤ n = ltb-false n (suc m) e in rw (e, le-leb k m h) (sym (le-leb k n (omega arith))))

capped-equal : (n m k : ℕ) → k < m → eqb (cond (ltb n (suc m)) n m) k ≡ eqb n k
capped-equal n m k h =
    split (ltb n (suc m)) (λ e. rw e)
    (λ e. let q : suc m ≤ n = ltb-false n (suc m) e in rw (e, ne_eqb m k (λ z. omega arith)) (sym (ne_eqb n k (λ z. omega arith))))

-- "handle over 3, credential over 7 .., class of a record under 4 or over 31"; "a version byte other than 0x10"; "a port over 1 is 1"
pub session-range : (port handle : ℕ) → is_session (session_of port handle) ≡ (leb port last_port && leb handle last_handle)
unfolding session_of is_port is_handle byte_of
session-range port handle =
    rw (slot-range, capped-below port 255 last_port (omega arith), capped-below handle 255 last_handle (omega arith))

pub credential-range : (n : ℕ) → is_credential (credential_of n) ≡ leb n last_credential
unfolding is_credential credential_of
credential-range n = capped-below n every_number last_credential (omega arith)

pub class-range : (n : ℕ) → is_device (class_of n) ≡ (leb 4 n && leb n 31)
unfolding is_device class_of byte_of
class-range n = rw (capped-above n 255 4 (omega arith), capped-below n 255 31 (omega arith))

pub version-range : (n : ℕ) → is_version (byte_of n) ≡ eqb n 0x10
unfolding is_version byte_of
version-range n = capped-equal n 255 16 (omega arith)

-- "(65535 is allowed as the wanted credential of a listing)"
pub wanted-range : (n : ℕ) → is_wanted (wanted_of n) ≡ (leb n last_credential || eqb n every_number)
unfolding is_wanted wanted_of
wanted-range n =
    split (eqb n every_number)
    (λ e. let q : n ≡ every_number = eqb-true n every_number e in rw (e, lt-leb n last_credential (omega arith)))
    (λ e. rw (e, credential-range n) (sym (or-false (leb n last_credential))))

-- ---- what was made of a number says that number
pub wanted-number : (n : ℕ) → n ≤ every_number → wanted_number (wanted_of n) ≡ n
unfolding wanted_of credential_of
wanted-number n h = split (eqb n every_number) (λ e. rw e (sym (eqb-true n every_number e))) (λ e. rw (e, lt-ltb n (every_number + 1) (omega arith)))

pub claim-kind : (kind credential number verdict : ℕ) → is_flag kind ≡ true → claim_kind (claim_of kind credential number verdict) ≡ kind
unfolding claim_of is_flag
claim-kind kind credential number verdict h =
    split (eqb kind 1) (λ e. rw e (sym (eqb-true kind 1 e)))
    (λ e. let k : kind ≤ 1 = leb-true kind 1 h in let n : kind ≡ 1 → ⊥ = eqb-false kind 1 e in rw e (zero_is kind k n))
  where
    zero_is : (k : ℕ) → k ≤ 1 → (k ≡ 1 → ⊥) → 0 ≡ k
    zero_is k h n = omega (arith, n)
