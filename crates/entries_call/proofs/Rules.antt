-- The laws that close the needs of this crate's functions by `search rules`: each premise is as a place's record has it.
-- Assumes nothing.
use Prim.Native.Nat.{ℕ}
use mathlib.Core.Path.{◌≡◌, ◌∙◌}
use mathlib.Core.Bool.{Bool, true, false}
use mathlib.Core.List.{List}
use Rattle.rows.specs.Bytes.{Bytes}
use Rattle.calls.specs.Calls.{answer_number}
use Rattle.calls.specs.declared.Outcome.{Outcome}
use Rattle.state_layout.specs.Layout.{holds_state, state_written}
use Rattle.entries_call.specs.CallEntry.{is_made, Ready}
use Rattle.entries_call.specs.PutBack.{may_change, bytes_put_back, PutBack}

-- ---- whether a call is made
module _ {fine : Bool} (b : List ℕ) (g : Bytes b) where
  pub ready-holds : {h : Bool} → fine ≡ true → h ≡ holds_state b → Ready fine b h
  unfolding is_made
  ready-holds f e = record { is = e ∙ rw f; bytes = g }

  pub ready-not : fine ≡ false → Ready fine b fine
  unfolding is_made
  ready-not f = record { is = rw f; bytes = g }

-- ---- what is put back
module _ (before : List ℕ) (o : Outcome) {n : ℕ} (q : n ≡ answer_number o.answer) {b : Bool} (e : b ≡ may_change o.answer) where
  pub put-back-written : {after : List ℕ} → b ≡ true → after ≡ state_written before o.state → PutBack before o n after
  unfolding bytes_put_back
  put-back-written z w = record { number_is = q; bytes-are = w ∙ rw (← e, z) }

  pub put-back-left : b ≡ false → PutBack before o n before
  unfolding bytes_put_back
  put-back-left z = record { number_is = q; bytes-are = rw (← e, z) }

pub ruleset rules = (put-back-written, put-back-left)
