-- What an entry that refuses leaves of the state and of the response, byte by byte.
-- Assumes nothing.
use Prim.Native.Nat.{ℕ, ◌+◌, ◌<◌, ◌≤◌}
use mathlib.Core.Path.{◌≡◌, refl, sym, ◌∙◌}
use mathlib.Core.Logic.{◌≢◌}
use mathlib.Core.Bool.{Bool, true, false}
use mathlib.Core.List.{List}
use native.Mathlib.Omega.{arith}
use lib.ListN.{length}
use borrow.Author.Tests.{eq-eqb, ne_eqb, lt-ltb}
use Rattle.lists.proofs.Tests.{split, and_right}
use Rattle.rows.specs.Bytes.{Bytes, bytes_of}
use Rattle.rows.specs.Rows.{over}
use Rattle.rows.proofs.Bytes.{length-bytes}
use Rattle.rows.proofs.Over.{before-kept, written_in, later-kept}
use Rattle.names.specs.declared.Session.{Session}
use Rattle.table.specs.Table.{places, process_at}
use Rattle.table.specs.declared.Active.TheVariants.{UserOf}
use Rattle.module_state.specs.Numbers.{◌unless◌, ◌▸◌}
use Rattle.module_state.specs.Module.{active_place, active_process}
use Rattle.module_state.specs.Claim.{admitted, sought}
use Rattle.module_state.specs.declared.Claim.{Claim}
use Rattle.module_state.specs.declared.Claim.TheVariants.{Elevated, ByUser}
use Rattle.module_state.specs.declared.State.{State}
use Rattle.module_state.specs.declared.UserClaim.{UserClaim}
use Rattle.module_state.proofs.Laws.{claim-stands}
use Rattle.calls.specs.Calls.{Call, ListProcesses, number, counted, Protection, Free, Under, protection, protected_number, refused_after, charged, left, listed}
use Rattle.calls.specs.declared.Wanted.{Wanted}
use Rattle.calls.proofs.Cut.{after-passed}
use Rattle.calls.proofs.Laws.{refusal-leaves}
use Rattle.state_layout.specs.Layout.{state_length, state_of, state_bytes, holds_state, next_place, next_written}
use Rattle.state_layout.proofs.Laws.{holds-shape, holds-is, one_form}
use Rattle.listing_call.proofs.Laws.{list-refused}
use Rattle.entries_call.specs.CallEntry.{is_made, entry_number, entry_bytes, CallEntry}
use Rattle.entries_record.specs.Recorded.{counted_in}
use Rattle.entries_record.proofs.Laws.{counted-held}
use Rattle.state_find.proofs.Laws.{active-inside}
use Rattle.entries_protected.specs.Listing.{entry_response, entry_length, ListEntry}
use Rattle.history_lent.specs.Refusals.{OneMoreIn, Refused}

-- ---- on a slice that holds a state
module _ (b : List ℕ) (g : Bytes b) (h : holds_state b ≡ true) where
  abbrev st : State
  st = state_of b

  same : state_bytes st ≡ b
  same = one_form b h g

  -- where nothing is counted
  unspent-left : (call : Call) → refused_after st call ≡ false → state_bytes (left st call) ≡ b
  unfolding left
  unspent-left call r = rw r same

  unclaimed-charged : (w : Protection) → ((s : Session) (u : UserClaim) → w ≢ Under s (ByUser u)) → state_bytes (charged st w) ≡ b
  unfolding charged counted
  unclaimed-charged Free n = same
  unclaimed-charged (Under s Elevated) n = same
  unclaimed-charged (Under s (ByUser u)) n = absurd (n s u refl)

  unclaimed-left : (call : Call) → ((s : Session) (u : UserClaim) → protection call ≢ Under s (ByUser u)) → state_bytes (left st call) ≡ b
  unfolding left
  unclaimed-left call n = split (refused_after st call) (λ r. rw r (unclaimed-charged (protection call) n)) (λ r. rw r same)

  -- a claim that passed, counted
  module _ (s : Session) (u : UserClaim) (z : admitted st s (ByUser u) ≡ 0) where
    abbrev at : ℕ
    at = active_place st (UserOf s u.credential)

    low : at < places
    unfolding sought
    low = omega (arith, active-inside st (UserOf s u.credential) (claim-stands st s (ByUser u) z), (holds-is b h g).rules.few)

    long : length b ≡ state_length
    long = (holds-shape b h).long

    written : counted_in b s (ByUser u) ≡ over (next_place at) 2 (bytes_of 2 ((process_at st.table at).next + 1)) b
    unfolding counted_in next_written active_process
    written = rw (eq-eqb (length b) state_length long, lt-ltb at places low)

    one-more : OneMoreIn b (state_bytes (counted st s (ByUser u))) at
    one-more =
        let e : state_bytes (counted st s (ByUser u)) ≡ over (next_place at) 2 (bytes_of 2 ((process_at st.table at).next + 1)) b = sym (counted-held b g h s (ByUser u) z) ∙ written in
        let two : length (bytes_of 2 ((process_at st.table at).next + 1)) ≡ 2 = length-bytes 2 ((process_at st.table at).next + 1) in
        let room : next_place at + 2 ≤ length b = omega (arith, low, long) in
        rw e
        (record {
          front = before-kept (next_place at) 2 (bytes_of 2 ((process_at st.table at).next + 1)) b two room;
          number = written_in (next_place at) 2 (bytes_of 2 ((process_at st.table at).next + 1)) b two room;
          back = later-kept (next_place at) 2 (bytes_of 2 ((process_at st.table at).next + 1)) b two room;
        })

  spent-left : (call : Call) (s : Session) (u : UserClaim) → protection call ≡ Under s (ByUser u) → refused_after st call ≡ true → OneMoreIn b (state_bytes (left st call)) (active_place st (UserOf s u.credential))
  unfolding left charged protected_number
  spent-left call s u p r = rw (r, p) (one-more s u (rw p at (after-passed st call r)))

-- ---- so of every entry
module _ {fine : Bool} {before : List ℕ} {call : Call} {n : ℕ} {after : List ℕ} (g : Bytes before) (v : CallEntry fine before call n after) (h : n ≢ 0) where
  unmade : is_made fine before ≡ false → after ≡ before
  unfolding entry_bytes
  unmade m = v.bytes-are ∙ rw m

  made : is_made fine before ≡ true → after ≡ state_bytes (left (state_of before) call)
  unfolding entry_bytes entry_number ◌unless◌ ◌▸◌
  made m = v.bytes-are ∙ rw (m, refusal-leaves (state_of before) call (λ y. h (v.number_is ∙ rw (m, y))))

  holds : is_made fine before ≡ true → holds_state before ≡ true
  unfolding is_made
  holds m = and_right fine (holds_state before) m

  by-made : {A : Type 0} → (is_made fine before ≡ true → A) → (is_made fine before ≡ false → A) → A
  by-made = split (is_made fine before)

  pub entry-refused : Refused fine before call after
  entry-refused =
      record {
        unmade = unmade;
        unspent = λ r. by-made (λ m. made m ∙ unspent-left before g (holds m) call r) unmade;
        unclaimed = λ w. by-made (λ m. made m ∙ unclaimed-left before g (holds m) call w) unmade;
        spent = λ s u p m r. rw (made m) (spent-left before g (holds m) call s u p r);
      }

-- ---- and no byte of a listing's response; its length is 0
module _ {fine : Bool} {before old after new : List ℕ} {s : Session} {claim : Claim} {wanted : Wanted} {n long : ℕ} (v : ListEntry fine before s claim wanted old n after new long) (h : n ≢ 0) where
  not_done : is_made fine before ≡ true → number (state_of before) (ListProcesses s claim wanted (length old)) ≡ 0 → ⊥
  unfolding entry_number ◌unless◌ ◌▸◌
  not_done m y = h (v.entry.number_is ∙ rw (m, y))

  pub response-kept : new ≡ old
  unfolding entry_response
  response-kept =
      split (is_made fine before)
      (λ m. v.response-is ∙ rw (m, list-refused (state_of before) s claim wanted old (not_done m)))
      (λ m. v.response-is ∙ rw m)

  pub length_none : long ≡ 0
  unfolding entry_length listed
  length_none =
      split (is_made fine before)
      (λ m. v.length-is ∙ rw (m, ne_eqb (number (state_of before) (ListProcesses s claim wanted (length old))) 0 (not_done m)))
      (λ m. v.length-is ∙ rw m)
