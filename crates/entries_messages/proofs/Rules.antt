-- The laws that close the needs of this crate's functions by `search rules`: each premise is as a place's record has it.
-- Assumes nothing.
use Prim.Native.Nat.{ℕ}
use mathlib.Core.Path.{◌≡◌, sym, ap, ◌∙◌}
use mathlib.Core.Bool.{Bool, true, false}
use mathlib.Core.List.{List}
use native.Mathlib.Omega.{arith}
use borrow.Author.Rules.{rules as std_rules}
use borrow.Author.Tests.{eq-eqb, ne_eqb}
use lib.Dec.{ltb}
use lib.ListN.{length}
use Rattle.std.specs.Prelude.{cond, Option, Some, None, Result, Ok, Err}
use Rattle.lists.proofs.Tests.{split}
use Rattle.module_state.specs.Refusals.{refusal_number, number_of, place_in}
use Rattle.module_state.specs.declared.Refusal.{Refusal}
use Rattle.module_state.specs.declared.Refusal.TheVariants.{Argument}
use Rattle.module_state.proofs.Refusals.{refusal-some}
use Rattle.rows.specs.Bytes.{byte_of}
use Rattle.module_state.specs.Numbers.{◌unless◌, ◌▸◌}
use Rattle.module_state.proofs.Laws.{stop, pass, unless-true, unless-false}
use Rattle.message_formats.specs.declared.Shape.{Shape}
use Rattle.message_fields.specs.Fields.{head_long, values_of}
use Rattle.message_pieces.specs.Pieces.{piece_long, is_piece, piece_in}
use Rattle.message_pieces.specs.declared.Piece.{Piece}
use Rattle.message_fields.proofs.Laws.{none-where, some-where, some_is}
use Rattle.message_codes.specs.Codes.{piece_of}
use Rattle.message_fields_write.specs.Bodies.{body_bytes, body_long, Written, written, written_in, given}
use Rattle.message_read.specs.Messages.{MessageAnswer, answer_in, read_message}
use Rattle.message_read.specs.declared.MessageRead.{MessageRead}
use Rattle.message_write.specs.Written.{write_number, write_piece_number, message_bytes, message_long, written_over}
use Rattle.entries_messages.specs.Entries.{are_seven, kinds, is_piece_argument, read_message_number, write_message_number, read_piece_number, put_piece_number, ReadEntry, PieceEntry, WriteEntry}

abbrev value_or : {T : Type 0} → T → Result T Refusal → T
value_or z (Ok x) = x
value_or z (Err r) = z

-- ---- what `?` goes on with, and what it stops at: a value where a test holds
module _ {T : Type 0} (b : Bool) (v : T) (o : Result T Refusal) (e : o ≡ cond b (Ok v) (Err Argument)) where
  module _ {refusal : Refusal} (s : o ≡ Err refusal) where
    stopped : b ≡ false
    stopped =
        split b
        (λ t. let q : ◌≡◌ {A = Result T Refusal} (Err refusal) (Ok v) = sym s ∙ e ∙ rw t in absurd (refusal-some refusal (ap number_of q)))
        (λ t. t)

    stopped-by : refusal_number refusal ≡ 1
    stopped-by = let q : ◌≡◌ {A = Result T Refusal} (Err refusal) (Err Argument) = sym s ∙ e ∙ rw stopped in ap number_of q

  module _ {x : T} (s : o ≡ Ok x) where
    went-on : b ≡ true
    went-on =
        split b (λ t. t)
        (λ t.
        let q : ◌≡◌ {A = Result T Refusal} (Ok x) (Err Argument) = sym s ∙ e ∙ rw t in
        let z : ◌≡◌ {A = ℕ} 0 1 = ap number_of q in
        absurd (omega arith))

    with : x ≡ v
    with = let q : ◌≡◌ {A = Result T Refusal} (Ok x) (Ok v) = sym s ∙ e ∙ rw went-on in ap (value_or x) q

-- ---- what is asked of the arguments
module _ (b : Bool) (n : ℕ) where
  asked-first : b ≡ false → 1 ≡ 1 unless b ▸ n
  asked-first e = sym (ap (λ (x : ℕ). x ▸ n) (unless-false 1 e) ∙ stop {n = 1} n (λ (w : ◌≡◌ {A = ℕ} 1 0). absurd (omega arith)))

  asked-then : b ≡ true → n ≡ 1 unless b ▸ n
  asked-then e = sym (pass n (unless-true 1 e))

one-is-not : ◌≡◌ {A = ℕ} 1 0 → ⊥
one-is-not w = absurd (omega arith)

seven-not : (values : List ℕ) → (length values ≡ 7 → ⊥) → are_seven values ≡ false
unfolding are_seven
seven-not values h = ne_eqb (length values) 7 h

seven-are : (values : List ℕ) → length values ≡ 7 → are_seven values ≡ true
unfolding are_seven
seven-are values h = eq-eqb (length values) 7 h

-- ---- what is handed out
module _ {A : Type 0} {number : ℕ} (value before : A) where
  unchanged : {answer : ℕ} → answer ≡ number → (answer ≡ 0 → ⊥) → before ≡ given number value before
  unfolding given
  unchanged {answer} e h = rw (← e, ne_eqb answer 0 h)

  handed : 0 ≡ number → value ≡ given number value before
  unfolding given
  handed e = rw (← e)

module _ {number : ℕ} (said : List ℕ) (at : ℕ) (values : List ℕ) (rest : ℕ) where
  read_kept : {answer : ℕ} → answer ≡ number → (answer ≡ 0 → ⊥) → ReadEntry number said at values rest answer values rest
  read_kept e h = record { number_is = e; values-are = unchanged said values e h; rest-is = unchanged at rest e h }

  read-handed : {values₁ : List ℕ} {rest₁ : ℕ} → 0 ≡ number → values₁ ≡ said → rest₁ ≡ at → ReadEntry number said at values rest 0 values₁ rest₁
  read-handed e v r = record { number_is = e; values-are = v ∙ handed said values e; rest-is = r ∙ handed at rest e }

module _ {number : ℕ} (said : List ℕ) (at long : ℕ) (values : List ℕ) (rest next : ℕ) where
  piece-kept : {answer : ℕ} → answer ≡ number → (answer ≡ 0 → ⊥) → PieceEntry number said at long values rest next answer values rest next
  piece-kept e h = record { number_is = e; values-are = unchanged said values e h; rest-is = unchanged at rest e h; next-is = unchanged long next e h }

  piece-handed : {values₁ : List ℕ} {rest₁ next₁ : ℕ} → 0 ≡ number → values₁ ≡ said → rest₁ ≡ at → next₁ ≡ long → PieceEntry number said at long values rest next 0 values₁ rest₁ next₁
  piece-handed e v r n =
      record { number_is = e; values-are = v ∙ handed said values e; rest-is = r ∙ handed at rest e; next-is = n ∙ handed long next e }

module _ {number : ℕ} (long : ℕ) (bytes old : List ℕ) (before : ℕ) where
  write_kept : {answer : ℕ} → answer ≡ number → (answer ≡ 0 → ⊥) → WriteEntry number long bytes old before answer old before
  unfolding written_over given
  write_kept {answer} e h = record { number_is = e; bytes-are = rw (← e, ne_eqb answer 0 h); written_is = unchanged long before e h }

  module _ {m : ℕ} (done : Result ℕ Refusal) {new : List ℕ} (e : m ≡ number) (d : (written_in done ≡ written m long) × (new ≡ written_over m long bytes old)) where
    done-number : number_of done ≡ number
    unfolding written
    done-number = ap (λ (x : Written). x.number) d.0 ∙ e

    write-refused : {refusal : Refusal} {answer : Result Unit Refusal} → done ≡ Err refusal → answer ≡ Err refusal → WriteEntry number long bytes old before (number_of answer) new before
    write-refused {refusal} s t =
        let q : refusal_number refusal ≡ number = sym (ap number_of s) ∙ done-number in
        record {
          number_is = ap number_of t ∙ q;
          bytes-are = d.1 ∙ rw e;
          written_is = unchanged long before q (refusal-some refusal);
        }

    write-handed : {n : ℕ} → done ≡ Ok n → WriteEntry number long bytes old before 0 new n
    unfolding written given
    write-handed {n} s =
        let q : 0 ≡ number = sym (ap number_of s) ∙ done-number in
        let l : n ≡ long = ap place_in (sym s) ∙ ap (λ (x : Written). x.long) d.0 ∙ rw (e, ← q) in
        record { number_is = q; bytes-are = d.1 ∙ rw e; written_is = l ∙ handed long before q }

-- ---- messages read
module _ (message values : List ℕ) (rest : ℕ) where
  pub message-argument : (length values ≡ 7 → ⊥) → ReadEntry (read_message_number message values) (read_message message).values (read_message message).rest values rest 1 values rest
  unfolding read_message_number
  message-argument h =
      read_kept (read_message message).values (read_message message).rest values rest
      (asked-first (are_seven values) (read_message message).number (seven-not values h)) one-is-not

  module _ (h : length values ≡ 7) (read : Result MessageRead Refusal) (e : answer_in read ≡ read_message message) where
    asked-of : (read_message message).number ≡ read_message_number message values
    unfolding read_message_number
    asked-of = asked-then (are_seven values) (read_message message).number (seven-are values h)

    pub message-refused : {refusal : Refusal} {answer : Result Unit Refusal} → read ≡ Err refusal → answer ≡ Err refusal
        → ReadEntry (read_message_number message values) (read_message message).values (read_message message).rest values rest (number_of answer) values rest
    message-refused {refusal} s t =
        let q : refusal_number refusal ≡ read_message_number message values = ap (λ (a : MessageAnswer). a.number) (ap answer_in (sym s) ∙ e) ∙ asked-of in
        read_kept (read_message message).values (read_message message).rest values rest (ap number_of t ∙ q) (λ z. refusal-some refusal (sym (ap number_of t) ∙ z))

    pub message-done : {said : MessageRead} {values₁ : List ℕ} → read ≡ Ok said → values₁ ≡ said.values
        → ReadEntry (read_message_number message values) (read_message message).values (read_message message).rest values rest 0 values₁ said.rest
    message-done {said} s v =
        let told : answer_in (Ok said) ≡ read_message message = ap answer_in (sym s) ∙ e in
        read-handed (read_message message).values (read_message message).rest values rest
        (ap (λ (a : MessageAnswer). a.number) told ∙ asked-of) (v ∙ ap (λ (a : MessageAnswer). a.values) told) (ap (λ (a : MessageAnswer). a.rest) told)

-- ---- pieces read
module _ (kind : ℕ) (bytes values : List ℕ) (rest next : ℕ) where
  abbrev Answered : ℕ → List ℕ → ℕ → ℕ → Type 0
  Answered = PieceEntry (read_piece_number kind bytes values) (values_of (piece_of kind) bytes) (head_long (piece_of kind)) (piece_long (piece_of kind) bytes) values rest next

  piece-stays : {answer : ℕ} → answer ≡ read_piece_number kind bytes values → (answer ≡ 0 → ⊥) → Answered answer values rest next
  piece-stays = piece-kept (values_of (piece_of kind) bytes) (head_long (piece_of kind)) (piece_long (piece_of kind) bytes) values rest next

  module _ {shape : Result Shape Refusal} (p : shape ≡ cond (ltb kind kinds) (Ok (piece_of kind)) (Err Argument)) where
    pub piece_kind : {refusal : Refusal} {answer : Result Unit Refusal} → shape ≡ Err refusal → answer ≡ Err refusal → Answered (number_of answer) values rest next
    unfolding read_piece_number is_piece_argument
    piece_kind {refusal} s t =
        let n : number_of _ ≡ 1 = ap number_of t ∙ stopped-by (ltb kind kinds) (piece_of kind) shape p s in
        piece-stays (n ∙ asked-first (is_piece_argument kind values) (14 unless is_piece (piece_of kind) bytes) (rw (stopped (ltb kind kinds) (piece_of kind) shape p s)))
        (λ z. one-is-not (sym n ∙ z))

    module _ {l : Shape} (s : shape ≡ Ok l) where
      known : ltb kind kinds ≡ true
      known = went-on (ltb kind kinds) (piece_of kind) shape p s

      pub piece-values : (length values ≡ 7 → ⊥) → Answered 1 values rest next
      unfolding read_piece_number is_piece_argument
      piece-values h =
          piece-stays (asked-first (is_piece_argument kind values) (14 unless is_piece (piece_of kind) bytes) (rw (known, seven-not values h))) one-is-not

      module _ (h : length values ≡ 7) {piece : Option Piece} (e : piece ≡ piece_in l bytes) where
        told : piece ≡ piece_in (piece_of kind) bytes
        told = e ∙ rw (with (ltb kind kinds) (piece_of kind) shape p s)

        asked : 14 unless is_piece (piece_of kind) bytes ≡ read_piece_number kind bytes values
        unfolding read_piece_number is_piece_argument
        asked = asked-then (is_piece_argument kind values) (14 unless is_piece (piece_of kind) bytes) (rw (known, seven-are values h))

        pub piece-none : piece ≡ None → Answered 14 values rest next
        unfolding piece_in
        piece-none n =
            let q : is_piece (piece_of kind) bytes ≡ false = none-where _ _ told n in
            piece-stays (sym (unless-false 14 q) ∙ asked) (λ (w : ◌≡◌ {A = ℕ} 14 0). absurd (omega arith))

        pub piece-done : {x : Piece} {values₁ : List ℕ} → piece ≡ Some x → values₁ ≡ x.values → Answered 0 values₁ x.rest x.long
        unfolding piece_in
        piece-done {x} n v =
            let is : x ≡ record { values = values_of (piece_of kind) bytes; rest = head_long (piece_of kind); long = piece_long (piece_of kind) bytes } = some_is _ _ told n in
            piece-handed (values_of (piece_of kind) bytes) (head_long (piece_of kind)) (piece_long (piece_of kind) bytes) values rest next
            (sym (unless-true 14 (some-where _ _ told n)) ∙ asked)
            (v ∙ ap (λ (y : Piece). y.values) is) (ap (λ (y : Piece). y.rest) is) (ap (λ (y : Piece). y.long) is)

-- ---- messages written
module _ (code : ℕ) (values rest old : List ℕ) (before : ℕ) where
  abbrev Wrote : ℕ → List ℕ → ℕ → Type 0
  Wrote = WriteEntry (write_message_number code values rest old) (message_long (byte_of code) values rest) (message_bytes (byte_of code) values rest) old before

  module _ {given : Result (List ℕ) Refusal} (g : given ≡ cond (are_seven values) (Ok values) (Err Argument)) where
    pub write-argument : {refusal : Refusal} {answer : Result Unit Refusal} → given ≡ Err refusal → answer ≡ Err refusal → Wrote (number_of answer) old before
    unfolding write_message_number
    write-argument s t =
        let n : number_of _ ≡ 1 = ap number_of t ∙ stopped-by (are_seven values) values given g s in
        write_kept (message_long (byte_of code) values rest) (message_bytes (byte_of code) values rest) old before
        (n ∙ asked-first (are_seven values) (write_number (byte_of code) values rest old) (stopped (are_seven values) values given g s)) (λ z. one-is-not (sym n ∙ z))

    module _ {taken : List ℕ} (s : given ≡ Ok taken) {byte : ℕ} (c : byte ≡ byte_of code) (done : Result ℕ Refusal) {new : List ℕ}
        (d : (written_in done ≡ written (write_number byte taken rest old) (message_long byte taken rest)) × (new ≡ written_over (write_number byte taken rest old) (message_long byte taken rest) (message_bytes byte taken rest) old)) where
      message-asked : write_number (byte_of code) values rest old ≡ write_message_number code values rest old
      unfolding write_message_number
      message-asked = asked-then (are_seven values) (write_number (byte_of code) values rest old) (went-on (are_seven values) values given g s)

      d-is : (written_in done ≡ written (write_number (byte_of code) values rest old) (message_long (byte_of code) values rest))
          × (new ≡ written_over (write_number (byte_of code) values rest old) (message_long (byte_of code) values rest) (message_bytes (byte_of code) values rest) old)
      d-is = let t : taken ≡ values = with (are_seven values) values given g s in rw (t, c) at d

      pub write-message-refused : {refusal : Refusal} {answer : Result Unit Refusal} → done ≡ Err refusal → answer ≡ Err refusal → Wrote (number_of answer) new before
      write-message-refused =
          write-refused (message_long (byte_of code) values rest) (message_bytes (byte_of code) values rest) old before done message-asked d-is

      pub write-message-done : {n : ℕ} → done ≡ Ok n → Wrote 0 new n
      write-message-done =
          write-handed (message_long (byte_of code) values rest) (message_bytes (byte_of code) values rest) old before done message-asked d-is

-- ---- pieces written
module _ (kind : ℕ) (values rest old : List ℕ) (before : ℕ) where
  abbrev Put : ℕ → List ℕ → ℕ → Type 0
  Put = WriteEntry (put_piece_number kind values rest old) (body_long (piece_of kind) rest) (body_bytes (piece_of kind) values rest) old before

  put-stays : {n : ℕ} → n ≡ 1 → is_piece_argument kind values ≡ false → Put n old before
  unfolding put_piece_number
  put-stays n b =
      write_kept (body_long (piece_of kind) rest) (body_bytes (piece_of kind) values rest) old before
      (n ∙ asked-first (is_piece_argument kind values) (write_piece_number (piece_of kind) values rest old) b) (λ z. one-is-not (sym n ∙ z))

  module _ {shape : Result Shape Refusal} (p : shape ≡ cond (ltb kind kinds) (Ok (piece_of kind)) (Err Argument)) where
    pub put-kind : {refusal : Refusal} {answer : Result Unit Refusal} → shape ≡ Err refusal → answer ≡ Err refusal → Put (number_of answer) old before
    unfolding is_piece_argument
    put-kind s t = put-stays (ap number_of t ∙ stopped-by (ltb kind kinds) (piece_of kind) shape p s) (rw (stopped (ltb kind kinds) (piece_of kind) shape p s))

    module _ {l : Shape} (s : shape ≡ Ok l) {given : Result (List ℕ) Refusal} (g : given ≡ cond (are_seven values) (Ok values) (Err Argument)) where
      put-known : ltb kind kinds ≡ true
      put-known = went-on (ltb kind kinds) (piece_of kind) shape p s

      pub put-argument : {refusal : Refusal} {answer : Result Unit Refusal} → given ≡ Err refusal → answer ≡ Err refusal → Put (number_of answer) old before
      unfolding is_piece_argument
      put-argument i t =
          put-stays (ap number_of t ∙ stopped-by (are_seven values) values given g i) (rw (put-known, stopped (are_seven values) values given g i))

      module _ {taken : List ℕ} (i : given ≡ Ok taken) (done : Result ℕ Refusal) {new : List ℕ}
          (d : (written_in done ≡ written (write_piece_number l taken rest old) (body_long l rest)) × (new ≡ written_over (write_piece_number l taken rest old) (body_long l rest) (body_bytes l taken rest) old)) where
        put-asked : write_piece_number (piece_of kind) values rest old ≡ put_piece_number kind values rest old
        unfolding put_piece_number is_piece_argument
        put-asked = asked-then (is_piece_argument kind values) (write_piece_number (piece_of kind) values rest old) (rw (put-known, went-on (are_seven values) values given g i))

        put-is : (written_in done ≡ written (write_piece_number (piece_of kind) values rest old) (body_long (piece_of kind) rest))
            × (new ≡ written_over (write_piece_number (piece_of kind) values rest old) (body_long (piece_of kind) rest) (body_bytes (piece_of kind) values rest) old)
        put-is =
            let t : taken ≡ values = with (are_seven values) values given g i in
            let k : l ≡ piece_of kind = with (ltb kind kinds) (piece_of kind) shape p s in
            rw (t, k) at d

        pub put_refused : {refusal : Refusal} {answer : Result Unit Refusal} → done ≡ Err refusal → answer ≡ Err refusal → Put (number_of answer) new before
        put_refused = write-refused (body_long (piece_of kind) rest) (body_bytes (piece_of kind) values rest) old before done put-asked put-is

        pub put-done : {n : ℕ} → done ≡ Ok n → Put 0 new n
        put-done = write-handed (body_long (piece_of kind) rest) (body_bytes (piece_of kind) values rest) old before done put-asked put-is

-- ---- the number, for a program
pub read-numbered : {number : ℕ} {said : List ℕ} {at : ℕ} {values : List ℕ} {rest n m : ℕ} {values₁ : List ℕ} {rest₁ : ℕ} → m ≡ n → ReadEntry number said at values rest n values₁ rest₁ → ReadEntry number said at values rest m values₁ rest₁
read-numbered e h = rw e h

pub piece-numbered : {number : ℕ} {said : List ℕ} {at long : ℕ} {values : List ℕ} {rest next n m : ℕ} {values₁ : List ℕ} {rest₁ next₁ : ℕ}
    → m ≡ n → PieceEntry number said at long values rest next n values₁ rest₁ next₁ → PieceEntry number said at long values rest next m values₁ rest₁ next₁
piece-numbered e h = rw e h

pub write-numbered : {number long : ℕ} {bytes old : List ℕ} {written n m : ℕ} {new : List ℕ} {written₁ : ℕ} → m ≡ n → WriteEntry number long bytes old written n new written₁ → WriteEntry number long bytes old written m new written₁
write-numbered e h = rw e h

pub ruleset rules = (std_rules, read-numbered, piece-numbered, write-numbered)
