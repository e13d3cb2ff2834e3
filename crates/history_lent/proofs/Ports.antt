-- What an entry on one port leaves of the other: order 10's theorem, of any slice and of whatever is handed in.
-- Assumes nothing.
use Prim.Native.Nat.{ℕ, ◌≤◌}
use mathlib.Core.Path.{◌≡◌, ap, ◌∙◌}
use mathlib.Core.Logic.{◌≢◌}
use mathlib.Core.Bool.{Bool, true, false}
use mathlib.Core.List.{List}
use native.Mathlib.Omega.{arith}
use lib.Dec.{ltb}
use borrow.Author.Tests.{leb-true}
use Rattle.lists.proofs.Tests.{split, and_left, and_right}
use Rattle.rows.specs.Bytes.{Bytes, byte_of}
use Rattle.names.specs.declared.Session.{Session}
use Rattle.module_state.specs.Module.{last_port, is_port}
use Rattle.module_state.specs.declared.Port.{Port}
use Rattle.calls.specs.Calls.{Call}
use Rattle.calls.specs.Ports.{session_in, is_on, Untouched}
use Rattle.calls.specs.Run.{step}
use Rattle.calls.proofs.Ports.{kept_same, untouched, other-port}
use Rattle.state_layout.specs.Layout.{state_of, holds_state}
use Rattle.state_layout.proofs.Laws.{state-back, holds-is}
use Rattle.entries_arguments.specs.Arguments.{session_of}
use Rattle.entries_call.specs.CallEntry.{is_made, entry_bytes, CallEntry}
use Rattle.history.specs.Fits.{Fits}
use Rattle.history.proofs.Form.{state-step}

-- a port that is handed in as another number is another port
capped : (port : ℕ) (q : Port) → is_port q ≡ true → q.0 ≢ port → q.0 ≢ byte_of port
unfolding is_port byte_of
capped port q h apart e =
    let low : q.0 ≤ last_port = leb-true q.0 last_port h in
    split (ltb port 256) (λ t. apart (rw t at e)) (λ t. let large : q.0 ≡ 255 = rw t at e in omega (arith, low, large))

module _ {fine : Bool} {before : List ℕ} {call : Call} {n : ℕ} {after : List ℕ} (g : Bytes before) (fits : fine ≡ true → Fits call) (v : CallEntry fine before call n after) where
  made : is_made fine before ≡ true → state_of after ≡ step (state_of before) call
  unfolding is_made entry_bytes step
  made m =
      ap state_of (v.bytes-are ∙ rw m)
      ∙ state-back (state-step (state_of before) call (fits (and_left fine (holds_state before) m)) (holds-is before (and_right fine (holds_state before) m) g)).formed

  unmade : is_made fine before ≡ false → state_of after ≡ state_of before
  unfolding entry_bytes
  unmade m = ap state_of (v.bytes-are ∙ rw m)

  -- by what the calls leave; where no call is made, all is as it was
  by-made : (which : Session → Bool) → Untouched which call (state_of before) (step (state_of before) call) → Untouched which call (state_of before) (state_of after)
  by-made which u = split (is_made fine before) (λ m. rw (made m) u) (λ m. rw (unmade m) kept_same)

  -- every session but the one that it names
  pub entry-untouched : (which : Session → Bool) → which (session_in call) ≡ false → Untouched which call (state_of before) (state_of after)
  entry-untouched which e = by-made which (untouched which (state_of before) call e)

  -- so all of the other port, by the numbers that are handed in, whatever they are
  pub entry-other-port : (port handle : ℕ) (q : Port) → session_in call ≡ session_of port handle → is_port q ≡ true → q.0 ≢ port → Untouched (is_on q) call (state_of before) (state_of after)
  unfolding session_of
  entry-other-port port handle q e h apart =
      by-made (is_on q) (other-port (state_of before) call (record { 0 = byte_of port }) q (record { 0 = byte_of handle }) e h (capped port q h apart))
