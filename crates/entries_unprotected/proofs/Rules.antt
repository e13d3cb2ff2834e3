-- The laws that close the needs of this crate's functions by `search rules`: each premise is as a place's record has it.
-- Assumes nothing.
use Prim.Native.Nat.{ℕ, ◌<◌, ◌≤◌, zero, suc, ◌+◌}
use mathlib.Core.Path.{◌≡◌, refl, sym, ◌∙◌}
use mathlib.Core.Bool.{Bool, true, false, not}
use mathlib.Core.List.{List, [], ◌∷◌}
use native.Mathlib.Omega.{arith}
use lib.Dec.{eqb}
use lib.ListN.{length, get_or, set, replicate}
use borrow.Author.Rules.{rules as std_rules}
use borrow.Author.Tests.{not-true, not-false, eqb-true, eq-eqb, ne_eqb}
use Rattle.lists.proofs.Loops.{Copied, copied_none, copied_more, copied_all}
use Rattle.lists.proofs.Tests.{and_right, and_left}
use Rattle.names.specs.declared.Credential.{Credential}
use Rattle.std.specs.Prelude.{Option, Some, None, is_some, unwrap_or}
use mathlib.Core.Bool.{◌&&◌}
use Rattle.names.specs.Names.{zero_name}
use Rattle.names.specs.declared.Name.{Name}
use Rattle.names.specs.declared.Session.{Session}
use Rattle.module_state.specs.Module.{both_words, unprovisioned, credential_count}
use Rattle.module_state.specs.Numbers.{◌unless◌}
use Rattle.module_state.specs.declared.Grants.{Grants}
use Rattle.module_state.specs.declared.State.{State}
use Rattle.calls.specs.Calls.{Call, Open, Close, Select, Start, Continue, Elevate, Drop, fresh}
use Rattle.state_layout.specs.Layout.{state_length, state_written, holds_state}
use Rattle.state_layout.proofs.Laws.{state-written}
use Rattle.entries_call.specs.CallEntry.{is_made, holds_number, CallEntry}
use Rattle.entries_call.proofs.Laws.{entry-none, call_none, call-made}
use Rattle.entries_arguments.specs.Arguments.{Handed, handed, pairs_from, pairs_of, are_pairs}
use Rattle.entries_unprotected.specs.Fresh.{can_fresh, FreshEntry}

-- ---- calls with equal arguments
module _ {s t : Session} (e : s ≡ t) where
  pub same-open : Open s ≡ Open t
  same-open = rw e

  pub same-close : Close s ≡ Close t
  same-close = rw e

  pub same_select : {b d : ℕ} → b ≡ d → Select s b ≡ Select t d
  same_select f = rw (e, f)

  pub same_drop : Drop s ≡ Drop t
  same_drop = rw e

  module _ {a b : Credential} (f : a ≡ b) {got read : Option Name} (r : got ≡ read) {name : Name} (g : got ≡ Some name) where
    pub same_start : Start s a name ≡ Start t b (unwrap_or read zero_name)
    same_start = rw (e, f, ← r, g)

    pub same-continue : Continue s a name ≡ Continue t b (unwrap_or read zero_name)
    same-continue = rw (e, f, ← r, g)

    pub same-elevate : (verdict : Bool) → Elevate s a name verdict ≡ Elevate t b (unwrap_or read zero_name) verdict
    same-elevate verdict = rw (e, f, ← r, g)

-- ---- a name that is read, or none: no call is made
module _ {got read : Option Name} (r : got ≡ read) where
  module _ {name : Name} (g : got ≡ Some name) where
    pub some-name : true ≡ is_some read
    some-name = rw (← r, g)

    pub some-both : {a b : Bool} → a ≡ b → a ≡ is_some read && b
    some-both f = rw (← r, g) f

  module _ (before : List ℕ) (call : Call) (g : got ≡ None) where
    pub none-name : CallEntry (is_some read) before call 1 before
    unfolding is_made
    none-name = entry-none (is_some read) before call (rw (← r, g))

    pub none-both : (b : Bool) → CallEntry (is_some read && b) before call 1 before
    unfolding is_made
    none-both b = entry-none (is_some read && b) before call (rw (← r, g))

-- ---- a fresh module
pub record Eight (pairs : Handed) : Type 0 where
  pub flags : length pairs.flags ≡ credential_count
  pub words : length pairs.words ≡ credential_count
  pub seconds : length pairs.seconds ≡ credential_count

pub eight : (pairs : Handed) → are_pairs pairs ≡ true → Eight pairs
unfolding are_pairs
eight pairs e =
    let e₁ = and_right (eqb (length pairs.flags) credential_count) _ e in
    let e₂ = and_right (eqb (length pairs.words) credential_count) _ e₁ in
    record {
      flags = eqb-true (length pairs.flags) credential_count (and_left (eqb (length pairs.flags) credential_count) _ e);
      words = eqb-true (length pairs.words) credential_count (and_left (eqb (length pairs.words) credential_count) _ e₁);
      seconds = eqb-true (length pairs.seconds) credential_count (and_left (eqb (length pairs.seconds) credential_count) _ e₂);
    }

abbrev pair_at : List ℕ → List ℕ → List ℕ → ℕ → Grants
pair_at flags words seconds i = record { provisioned = eqb (get_or flags i 0) 1; words = both_words (get_or words i 0) (get_or seconds i 0) }

pairs-length : (flags words seconds : List ℕ) → length flags ≡ length words → length flags ≡ length seconds → length (pairs_from flags words seconds) ≡ length flags
unfolding pairs_from
pairs-length [] words seconds h k = refl
pairs-length (f ∷ flags) [] seconds h k = absurd (omega arith)
pairs-length (f ∷ flags) (w ∷ words) [] h k = absurd (omega arith)
pairs-length (f ∷ flags) (w ∷ words) (s ∷ seconds) h k =
    let a : length flags ≡ length words = omega arith in
    let b : length flags ≡ length seconds = omega arith in
    rw (pairs-length flags words seconds a b)

pairs-at : (flags words seconds : List ℕ) (i : ℕ) → length flags ≡ length words → length flags ≡ length seconds → i < length flags → get_or (pairs_from flags words seconds) i unprovisioned ≡ pair_at flags words seconds i
unfolding pairs_from
pairs-at [] words seconds i h k l = absurd (omega arith)
pairs-at (f ∷ flags) [] seconds i h k l = absurd (omega arith)
pairs-at (f ∷ flags) (w ∷ words) [] i h k l = absurd (omega arith)
pairs-at (f ∷ flags) (w ∷ words) (s ∷ seconds) zero h k l = refl
pairs-at (f ∷ flags) (w ∷ words) (s ∷ seconds) (suc i) h k l = pairs-at flags words seconds i (omega arith) (omega arith) (omega arith)

pub pairs-long : (pairs : Handed) → are_pairs pairs ≡ true → length (pairs_of pairs) ≡ credential_count
pairs-long pairs e =
    let v = eight pairs e in
    pairs-length pairs.flags pairs.words pairs.seconds (v.flags ∙ sym v.words) (v.flags ∙ sym v.seconds) ∙ v.flags

module _ (flags words seconds : List ℕ) (e : are_pairs (handed flags words seconds) ≡ true) where
  pub flags-eight : length flags ≡ credential_count
  flags-eight = (eight (handed flags words seconds) e).flags

  pub words-eight : length words ≡ credential_count
  words-eight = (eight (handed flags words seconds) e).words

  pub seconds-eight : length seconds ≡ credential_count
  seconds-eight = (eight (handed flags words seconds) e).seconds

  long-pairs : length (pairs_from flags words seconds) ≡ credential_count
  long-pairs = pairs-long (handed flags words seconds) e

  pub pairs-begin : Copied (pairs_from flags words seconds) (replicate credential_count unprovisioned) (replicate credential_count unprovisioned) 0
  pairs-begin = copied_none (pairs_from flags words seconds) (replicate credential_count unprovisioned) (sym long-pairs)

  module _ {d l : List Grants} {i : ℕ} (v : Copied (pairs_from flags words seconds) d l i) where
    pub pairs-on : i < credential_count → Copied (pairs_from flags words seconds) d (set l i (pair_at flags words seconds i)) (i + 1)
    pairs-on h =
        let q : get_or (pairs_from flags words seconds) i unprovisioned ≡ pair_at flags words seconds i = pairs-at flags words seconds i (flags-eight ∙ sym words-eight) (flags-eight ∙ sym seconds-eight) (rw flags-eight h) in
        rw q at (copied_more v unprovisioned (rw long-pairs h))

    pub pairs-all : credential_count ≤ i → l ≡ pairs_from flags words seconds
    pairs-all h = copied_all v (rw long-pairs h)

module _ (before : List ℕ) (pairs : Handed) where
  fresh_kept : can_fresh before pairs ≡ false → FreshEntry before pairs 1 before
  unfolding ◌unless◌
  fresh_kept z = record { number_is = rw z; bytes-are = rw z }

  pub fresh-long : (length before ≡ state_length → ⊥) → FreshEntry before pairs 1 before
  unfolding can_fresh
  fresh-long h = fresh_kept (rw (ne_eqb (length before) state_length h))

  module _ (k : length before ≡ state_length) {h : Bool} (e : h ≡ are_pairs pairs) where
    pub fresh-refused : not h ≡ true → FreshEntry before pairs 1 before
    unfolding can_fresh
    fresh-refused n = fresh_kept (rw (eq-eqb (length before) state_length k, ← e, not-true h n))

    pub fresh-made : {made : List Grants} {st : State} {after : List ℕ} → not h ≡ false → made ≡ pairs_of pairs → st ≡ fresh made → after ≡ state_written before st → FreshEntry before pairs 0 after
    unfolding can_fresh ◌unless◌
    fresh-made n p q w =
        let z : are_pairs pairs ≡ true = sym e ∙ not-false h n in
        record {
          number_is = rw (eq-eqb (length before) state_length k, z);
          bytes-are = w ∙ rw (state-written before _ k, q, p, eq-eqb (length before) state_length k, z);
        }

pub pairs-tested : (pairs : Handed) {h : Bool} → h ≡ are_pairs pairs → not h ≡ false → are_pairs pairs ≡ true
pairs-tested pairs {h} e n = sym e ∙ not-false h n

-- ---- whether a slice holds a state; the library's version
module _ (bytes : List ℕ) {h : Bool} (e : h ≡ holds_state bytes) where
  pub holds-done : h ≡ true → 0 ≡ holds_number bytes
  unfolding holds_number ◌unless◌
  holds-done t = rw (sym e ∙ t)

  pub holds-none : h ≡ false → 1 ≡ holds_number bytes
  unfolding holds_number ◌unless◌
  holds-none t = rw (sym e ∙ t)

pub ruleset rules = (std_rules, call_none, call-made, same-open, same-close, same_select, same_drop, same_start, same-continue, same-elevate, some-name, some-both, none-name, none-both, flags-eight, words-eight, seconds-eight, pairs-begin, pairs-on, pairs-all, pairs-tested, fresh-long, fresh-refused, fresh-made, holds-done, holds-none)
