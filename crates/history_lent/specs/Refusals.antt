-- What an entry that refuses leaves, in bytes: demand 1, that the state and the lent buffer hold what they held before, and order 3's one exception, "that one number".
use Rattle.std.specs.Prelude.{ℕ, ◌+◌, ◌≡◌, ◌≢◌, Bool, true, false, List, take, drop}
use Rattle.rows.specs.Bytes.{bytes_of}
use Rattle.names.specs.declared.Session.{Session}
use Rattle.table.specs.Table.{process_at}
use Rattle.table.specs.declared.Active.TheVariants.{UserOf}
use Rattle.module_state.specs.Module.{active_place}
use Rattle.module_state.specs.declared.Claim.TheVariants.{ByUser}
use Rattle.module_state.specs.declared.UserClaim.{UserClaim}
use Rattle.calls.specs.Calls.{Call, Under, protection, refused_after}
use Rattle.state_layout.specs.Layout.{next_place, state_of}
use Rattle.entries_call.specs.CallEntry.{is_made}

-- the two bytes of the next number at a place are one more, and every other byte of the slice is as it was
pub record OneMoreIn (before after : List ℕ) (at : ℕ) : Type 0 where
  pub front : take (next_place at) after ≡ take (next_place at) before
  pub number : take 2 (drop (next_place at) after) ≡ bytes_of 2 ((process_at (state_of before).table at).next + 1)
  pub back : drop (next_place at + 2) after ≡ drop (next_place at + 2) before

pub record Refused (fine : Bool) (before : List ℕ) (call : Call) (after : List ℕ) : Type 0 where
  -- no call was made: for its flags or lengths, or because the slice holds no state
  pub unmade : is_made fine before ≡ false → after ≡ before
  -- refused ahead of its claim or by its claim; and any call that is not under a user claim
  pub unspent : refused_after (state_of before) call ≡ false → after ≡ before
  pub unclaimed : ((s : Session) (u : UserClaim) → protection call ≢ Under s (ByUser u)) → after ≡ before
  -- refused after its claim, a user's: the next number of the claim's process
  pub spent : (s : Session) (u : UserClaim) → protection call ≡ Under s (ByUser u) → is_made fine before ≡ true → refused_after (state_of before) call ≡ true
      → OneMoreIn before after (active_place (state_of before) (UserOf s u.credential))
