-- Order 10: the slot of a session says its port and its handle, and no two sessions have one slot.
-- Assumes nothing.
use Prim.Native.Nat.{ℕ, ◌/◌, ◌%◌, ◌<◌, ◌≤◌}
use mathlib.Core.Path.{◌≡◌, sym, ap, ◌∙◌}
use mathlib.Core.Bool.{true, ◌&&◌}
use native.Mathlib.Nat.{div-lt_iff_lt-mul, div-add-mod', mod-lt}
use native.Mathlib.Omega.{arith}
use lib.Arith.{digits_div, digits_mod}
use lib.Dec.{leb}
use borrow.Author.Tests.{leb-true, le-leb}
use Rattle.lists.proofs.Tests.{split}
use Rattle.names.specs.declared.Session.{Session}
use Rattle.module_state.specs.Module.{last_port, last_handle, handle_count, is_port, is_handle, slot, last_session, is_session, slot_of, port_of, handle_of}
use Rattle.module_state.specs.declared.Handle.{Handle}
use Rattle.module_state.specs.declared.Port.{Port}

-- "a port over 1 is 1", and "handle over 3" on either: what is no port, or no handle of a port, is no session
pub slot-range : (port : Port) (handle : Handle) → is_session (slot_of port handle) ≡ (is_port port && is_handle handle)
unfolding is_session slot_of is_port is_handle
slot-range port handle =
    split (leb port.0 last_port)
    (λ e.
    split (leb handle.0 last_handle)
    (λ f.
    let p : port.0 ≤ last_port = leb-true port.0 last_port e in
    let h : handle.0 ≤ last_handle = leb-true handle.0 last_handle f in
    rw (e, f, le-leb (slot port.0 handle.0) last_session (omega arith)))
    (λ f. rw (e, f)))
    (λ e. rw e)

-- a session's port and its handle are those that its slot was made of
module _ (port : Port) (handle : Handle) (p : is_port port ≡ true) (h : is_handle handle ≡ true) where
  small : handle.0 < handle_count
  unfolding is_handle
  small = omega (arith, leb-true handle.0 last_handle h)

  made : slot_of port handle ≡ record { 0 = slot port.0 handle.0 }
  unfolding slot_of
  made = rw (p, h)

  pub slot-port : port_of (slot_of port handle) ≡ port
  unfolding port_of
  slot-port = rw (made, digits_div port.0 small)

  pub slot-handle : handle_of (slot_of port handle) ≡ handle
  unfolding handle_of
  slot-handle = rw (made, digits_mod port.0 small)

-- so two pairs with one slot are the same pair
pub slot-once : (p q : Port) (h k : Handle) → is_port p ≡ true → is_handle h ≡ true → is_port q ≡ true → is_handle k ≡ true
    → slot_of p h ≡ slot_of q k → (p ≡ q) × (h ≡ k)
slot-once p q h k a b c d e =
    (sym (slot-port p h a b) ∙ ap port_of e ∙ slot-port q k c d, sym (slot-handle p h a b) ∙ ap handle_of e ∙ slot-handle q k c d)

-- and two sessions of one port and one handle are the same, whatever their slots
pub pair-once : (s t : Session) → port_of s ≡ port_of t → handle_of s ≡ handle_of t → s ≡ t
unfolding port_of handle_of
pair-once s t p h =
    let port : s.0 / handle_count ≡ t.0 / handle_count = ap (λ (x : Port). x.0) p in
    let handle : s.0 % handle_count ≡ t.0 % handle_count = ap (λ (x : Handle). x.0) h in
    ap (λ (n : ℕ). record { 0 = n }) (sym (div-add-mod' s.0 handle_count) ∙ rw (port, handle) (div-add-mod' t.0 handle_count))

-- every session is that of a port and a handle
pub slot-back : (s : Session) → is_session s ≡ true → slot_of (port_of s) (handle_of s) ≡ s
unfolding is_session slot_of port_of handle_of is_port is_handle
slot-back s h =
    let top : s.0 ≤ last_session = leb-true s.0 last_session h in
    let port : s.0 / handle_count < 2 = (div-lt_iff_lt-mul {k = handle_count} {x = s.0} {y = 2} (omega arith)).1 (omega arith) in
    let handle : s.0 % handle_count < handle_count = mod-lt s.0 (omega arith) in
    rw (le-leb (s.0 / handle_count) last_port (omega arith), le-leb (s.0 % handle_count) last_handle (omega arith)) (ap (λ (n : ℕ). record { 0 = n }) (div-add-mod' s.0 handle_count))
