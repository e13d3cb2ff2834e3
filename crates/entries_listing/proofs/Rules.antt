-- The laws that close the needs of this crate's functions by `search rules`: each premise is as a place's record has it.
-- Assumes nothing.
use Prim.Native.Nat.{ℕ}
use mathlib.Core.Path.{◌≡◌, refl, sym, ◌∙◌}
use mathlib.Core.Bool.{true, false}
use mathlib.Core.List.{List}
use native.Mathlib.Omega.{arith}
use lib.Dec.{eqb}
use lib.ListN.{length}
use borrow.Author.Rules.{rules as std_rules}
use borrow.Author.Tests.{eq-eqb, ne_eqb}
use Rattle.names.specs.Names.{type_number, name_in, name_length}
use Rattle.names.proofs.Laws.{name-in}
use Rattle.module_state.specs.Numbers.{◌unless◌, ◌▸◌}
use Rattle.module_state.proofs.Laws.{stop, pass, unless-true, unless-false}
use Rattle.std.specs.Prelude.{Result, Ok, Err}
use Rattle.names.specs.Names.{zero_row}
use Rattle.names.specs.declared.Row.{Row}
use Rattle.module_state.specs.Refusals.{refusal_number, number_of, place_in}
use Rattle.module_state.specs.declared.Refusal.{Refusal}
use Rattle.module_state.proofs.Refusals.{refusal-some}
use Rattle.listing_messages.specs.Wire.{read_row_at, RequestRead, CountRead, RowAnswer, request_in, count_in}
use Rattle.entries_listing.specs.Messages.{Given, row_entry_number, RowEntry}

-- ---- a value handed out
pub given-refused : (r : Refusal) (before : ℕ) {n : ℕ} → n ≡ refusal_number r → Given (refusal_number r) 0 before n before
given-refused r before e =
    let z : eqb (refusal_number r) 0 ≡ false = ne_eqb (refusal_number r) 0 (refusal-some r) in
    record { number_is = e; value-is = rw z }

pub given-done : (value before : ℕ) {n : ℕ} → n ≡ 0 → Given 0 value before n value
given-done value before e = record { number_is = e; value-is = refl }

request-parts : (read : Result ℕ Refusal) → (number_of read ≡ (request_in read).number) × (place_in read ≡ (request_in read).credential)
request-parts (Ok x) = (refl, refl)
request-parts (Err r) = (refl, refl)

count-parts : (read : Result ℕ Refusal) → (number_of read ≡ (count_in read).number) × (place_in read ≡ (count_in read).count)
count-parts (Ok x) = (refl, refl)
count-parts (Err r) = (refl, refl)

pub request-given : (read : Result ℕ Refusal) {before after n : ℕ} {other : RequestRead} → request_in read ≡ other → Given (number_of read) (place_in read) before n after → Given other.number other.credential before n after
request-given read e g = rw (← e, ← (request-parts read).0, ← (request-parts read).1) g

pub count-given : (read : Result ℕ Refusal) {before after n : ℕ} {other : CountRead} → count_in read ≡ other → Given (number_of read) (place_in read) before n after → Given other.number other.count before n after
count-given read e g = rw (← e, ← (count-parts read).0, ← (count-parts read).1) g

-- ---- a row handed out
module _ (message : List ℕ) (at credential kind : ℕ) (name : List ℕ) {read : RowAnswer} (e : read ≡ read_row_at message at) where
  row-number : {n : ℕ} → n ≡ read.number ▸ 1 unless eqb (length name) name_length → n ≡ row_entry_number message at name
  unfolding row_entry_number
  row-number q = q ∙ rw e

  row_kept : {n : ℕ} → n ≡ row_entry_number message at name → (n ≡ 0 → ⊥) → RowEntry message at credential kind name n credential kind name
  row_kept {n} q h =
      let z : eqb (row_entry_number message at name) 0 ≡ false = rw (← q) (ne_eqb n 0 h) in
      record { number_is = q; credential-is = rw z; kind-is = rw z; name-is = rw z }

  row-stays : (read.number ≡ 0 → ⊥) → RowEntry message at credential kind name read.number credential kind name
  row-stays h = row_kept (row-number (sym (stop (1 unless eqb (length name) name_length) h))) h

  module _ (z : read.number ≡ 0) where
    nowhere : (length name ≡ name_length → ⊥) → RowEntry message at credential kind name 1 credential kind name
    nowhere h =
        let q : 1 ≡ read.number ▸ 1 unless eqb (length name) name_length = sym (pass (1 unless eqb (length name) name_length) z ∙ unless-false 1 (ne_eqb (length name) name_length h)) in
        row_kept (row-number q) (λ (w : 1 ≡ 0). absurd (omega arith))

    done : {k : ℕ} {name₁ : List ℕ} → length name ≡ name_length → k ≡ type_number read.row.kind → name₁ ≡ name_in name read.row.name
        → RowEntry message at credential kind name 0 read.row.credential.0 k name₁
    done h a b =
        let q : 0 ≡ row_entry_number message at name = row-number (sym (pass (1 unless eqb (length name) name_length) z ∙ unless-true 1 (eq-eqb (length name) name_length h))) in
        let g : eqb (row_entry_number message at name) 0 ≡ true = rw (← q) in
        record {
          number_is = q;
          credential-is = rw (g, ← e);
          kind-is = a ∙ rw (g, ← e);
          name-is = b ∙ rw (g, ← e) (name-in name read.row.name h);
        }

module _ (message : List ℕ) (at credential kind : ℕ) (name : List ℕ) where
  pub row-refused : (r : Refusal) {n : ℕ} → ◌≡◌ {A = RowAnswer} (record { number = refusal_number r; row = zero_row }) (read_row_at message at) → n ≡ refusal_number r → RowEntry message at credential kind name n credential kind name
  row-refused r e q = rw q (row-stays message at credential kind name e (refusal-some r))

  module _ {row : Row} (e : ◌≡◌ {A = RowAnswer} (record { number = 0; row = row }) (read_row_at message at)) where
    pub row-nowhere : {n : ℕ} → (length name ≡ name_length → ⊥) → n ≡ 1 → RowEntry message at credential kind name n credential kind name
    row-nowhere h q = rw q (nowhere message at credential kind name e refl h)

    pub row_done : {n k : ℕ} {name₁ : List ℕ} → length name ≡ name_length → k ≡ type_number row.kind → name₁ ≡ name_in name row.name → n ≡ 0
        → RowEntry message at credential kind name n row.credential.0 k name₁
    row_done h a b q = rw q (done message at credential kind name e refl h a b)

pub ruleset rules = (std_rules, given-refused, given-done, request-given, count-given)
