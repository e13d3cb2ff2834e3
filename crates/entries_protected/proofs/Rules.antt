-- The laws that close the needs of this crate's functions by `search rules`: each premise is as a place's record has it.
-- Assumes nothing.
use Rattle.std.specs.Prelude.{Option, Some, None, is_some, unwrap_or}
use Prim.Native.Nat.{ℕ}
use mathlib.Core.Path.{◌≡◌, refl, sym, ap, ◌∙◌}
use mathlib.Core.Bool.{Bool, true, false, not, ◌&&◌}
use mathlib.Core.List.{List}
use lib.ListN.{length}
use borrow.Author.Rules.{rules as std_rules}
use borrow.Author.Tests.{not-true, not-false}
use Rattle.names.specs.declared.Credential.{Credential}
use Rattle.names.specs.Names.{zero_name}
use Rattle.names.specs.declared.Name.{Name}
use Rattle.names.specs.declared.Session.{Session}
use Rattle.module_state.specs.declared.Claim.{Claim}
use Rattle.module_state.specs.declared.Class.{Class}
use Rattle.module_state.specs.declared.State.{State}
use Rattle.module_state.specs.declared.UserClaim.{UserClaim}
use Rattle.module_state.specs.declared.Words.{Words}
use Rattle.calls.specs.Calls.{Call, End, Record, Kill, SetWord, ListProcesses, listed}
use Rattle.calls.specs.declared.Listed.{Listed}
use Rattle.calls.specs.declared.Wanted.{Wanted}
use Rattle.state_layout.specs.Layout.{state_of}
use Rattle.listing_messages.specs.Wire.{listed_bytes}
use Rattle.entries_call.specs.CallEntry.{is_made, Ready, CallEntry}
use Rattle.entries_call.proofs.Laws.{entry-none}
use Rattle.entries_call.specs.PutBack.{PutBack}
use Rattle.entries_call.proofs.Laws.{call_none, call-made}
use Rattle.entries_arguments.proofs.Rules.{fine-both}
use Rattle.entries_protected.specs.Listing.{entry_response, entry_length, ListEntry}

-- ---- a record, which tests the slice itself
module _ {tested : Bool} (fine : Bool) (f : tested ≡ fine) (before : List ℕ) where
  pub record-unclaimed : (call : Call) → not tested ≡ true → CallEntry fine before call 1 before
  unfolding is_made
  record-unclaimed call n = entry-none fine before call (rw (← f, not-true tested n))

  pub record-claimed : (s : Session) (claim : Claim) (class : Class) {s₁ : Session} {claim₁ : Claim} {class₁ : Class} {r n : ℕ} {after : List ℕ}
      → not tested ≡ false → s₁ ≡ s → claim₁ ≡ claim → class₁ ≡ class → r ≡ n → CallEntry true before (Record s₁ claim₁ class₁) n after
      → CallEntry fine before (Record s claim class) r after
  record-claimed s claim class k a b c e v = rw (← f, not-false tested k, ← a, ← b, ← c, e) v

-- ---- a kill, by what was read of its name
module _ {read name : Option Name} (e : read ≡ name) where
  pub kill-unnamed : (fine : Bool) (before : List ℕ) (call : Call) → read ≡ None → CallEntry (is_some name && fine) before call 1 before
  unfolding is_made
  kill-unnamed fine before call n = entry-none (is_some name && fine) before call (rw (← e, n))

  module _ {said : Name} (q : read ≡ Some said) where
    pub named-fine : {tested fine : Bool} → tested ≡ fine → tested ≡ (is_some name && fine)
    named-fine f = f ∙ rw (← e, q)

    pub named-is : said ≡ unwrap_or name zero_name
    named-is = rw (← e, q)

-- ---- the listing
module _ {tested : Bool} (fine : Bool) (f : tested ≡ fine) (before : List ℕ) (s : Session) (claim : Claim) (wanted : Wanted) (old : List ℕ) {h : Bool} (e : Ready tested before h) where
  pub list-none : not h ≡ true → ListEntry fine before s claim wanted old 1 before old 0
  unfolding entry_response entry_length
  list-none n =
      let z : is_made fine before ≡ false = rw (← f) (sym e.is ∙ not-true h n) in
      record { entry = call_none fine f before (ListProcesses s claim wanted (length old)) e n; response-is = rw z; length-is = rw z }

  pub list-called : {st : State} {s₁ : Session} {claim₁ : Claim} {wanted₁ : Wanted} {l : Listed} {r : ℕ} {after new : List ℕ}
      → not h ≡ false → st ≡ state_of before → s₁ ≡ s → claim₁ ≡ claim → wanted₁ ≡ wanted
      → (l ≡ listed st s₁ claim₁ wanted₁ (length old)) × (new ≡ listed_bytes st s₁ claim₁ wanted₁ old)
      → PutBack before l.outcome r after → ListEntry fine before s claim wanted old r after new l.length
  unfolding entry_response entry_length listed
  list-called {st} {s₁} {claim₁} {wanted₁} {l} {r} {after} {new} n a b c d (p, q) v =
      let z : is_made fine before ≡ true = rw (← f) (sym e.is ∙ not-false h n) in
      let g : l ≡ listed (state_of before) s claim wanted (length old) = rw (← a, ← b, ← c, ← d) p in
      record {
        entry = call-made fine f before (ListProcesses s claim wanted (length old)) e n refl (ap (λ (x : Listed). x.outcome) g) refl v;
        response-is = q ∙ rw (z, a, b, c, d);
        length-is = ap (λ (x : Listed). x.length) g ∙ rw z;
      }

-- ---- calls with equal arguments
module _ {s t : Session} (e : s ≡ t) where
  pub same_end : {u v : UserClaim} → u ≡ v → (keep : Bool) → End s u keep ≡ End t v keep
  same_end f keep = rw (e, f)

  module _ {a b : Claim} (f : a ≡ b) where
    pub same-kill : {name other : Name} → name ≡ other → Kill s a name ≡ Kill t b other
    same-kill g = rw (e, f, g)

    pub same-set-word : {c d : Credential} → c ≡ d → (words : Words) → SetWord s a c words ≡ SetWord t b d words
    same-set-word g words = rw (e, f, g)

pub ruleset rules = (std_rules, call_none, call-made, record-unclaimed, record-claimed, kill-unnamed, named-fine, named-is, list-none, list-called, same_end, same-kill, same-set-word, fine-both)
