-- The loop over a list gives the pieces that were written, whatever the calls were lent: over the contract of slavotuk_read_piece, and with those of
-- slavotuk_write_message and slavotuk_read_message before it. Assumes nothing.
use Prim.Native.Nat.{ℕ, ◌+◌, ◌-◌, ◌<◌}
use mathlib.Core.Path.{◌≡◌, refl, sym, ap, ◌∙◌, subst}
use mathlib.Core.Bool.{true}
use mathlib.Core.List.{List, [], ◌∷◌, ◌++◌, map, append_assoc, append-nil}
use native.Mathlib.Omega.{arith}
use lib.Dec.{ltb}
use lib.ListN.{length, take, drop, replicate, length-append}
use borrow.Author.Tests.{eq-eqb}
use Rattle.lists.specs.Each.{Each, each_nil, each-cons}
use Rattle.lists.specs.Lists.{join, padded}
use Rattle.rows.specs.Bytes.{byte_of, bytes_of}
use Rattle.module_state.specs.Numbers as No
use Rattle.module_state.specs.Numbers.{◌unless◌, ◌▸◌}
use Rattle.message_formats.specs.declared.Shape.{Shape}
use Rattle.message_formats.specs.declared.Shape.TheVariants.{Plain}
use Rattle.message_formats.specs.declared.Part.{Part}
use Rattle.message_formats.specs.declared.Part.TheVariants.{VersionEntry, ProcessInfo, Owner, Policy, ResetElement}
use Rattle.message_formats.specs.Formats.{form_of, fields_of, rest_of}
use Rattle.message_fields.specs.Fields.{fields, long_of, field_bytes, values_of, head_long}
use Rattle.message_pieces.specs.Pieces.{rest_long, piece_long, is_piece, first, second}
use Rattle.message_codes.specs.Codes.{find, pieces, piece_of}
use Rattle.message_fields_write.specs.Bodies.{body_bytes, given}
use Rattle.message_write.specs.Written.{message_bytes, message_long}
use Rattle.message_read.specs.Messages.{read_message}
use Rattle.entries_messages.specs.Entries.{are_seven, kinds, is_piece_argument, read_piece_number, read_message_number, write_message_number, ReadEntry, WriteEntry}
use Rattle.entries_round_trip.specs.Parts.{PieceHeld, PartHeld, piece_bytes, part_bytes, PieceCarried, PartCarried}
use Rattle.entries_round_trip.specs.Walks.{kinds_of, pieces_of, PieceCall, handed, Walk, ended, again, refused, read}
use Rattle.entries_round_trip.proofs.Bodies.{body-long, piece-said, piece-values, piece-long, piece-taken, piece-rest, piece-behind}
use Rattle.entries_round_trip.proofs.Entries.{given-done, same_rest}

-- ---- a call on bytes that begin with a piece
module _ {kind : ℕ} {b : List ℕ} (piece : PieceHeld) (y : List ℕ) (known : ltb kind kinds ≡ true) (c : PieceCarried (piece_of kind) piece)
    (e : b ≡ piece_bytes (piece_of kind) piece ++ y) (call : PieceCall kind b) where
  abbrev shape : Shape
  shape = piece_of kind

  stands : is_piece shape b ≡ true
  unfolding piece_bytes
  stands = rw e (piece-taken shape piece.values piece.rest y c.seven c.carried)

  number-done : read_piece_number kind b call.lent ≡ No.done
  unfolding read_piece_number is_piece_argument are_seven ◌unless◌ ◌▸◌
  number-done = rw (known, eq-eqb (length call.lent) 7 call.seven, stands)

  answered : call.answer ≡ No.done
  answered = call.promised.number_is ∙ number-done

  values-are : call.values ≡ piece.values
  unfolding piece_bytes
  values-are =
      call.promised.values-are ∙ given-done (values_of shape b) call.lent number-done
      ∙ rw e (piece-values shape piece.values piece.rest y c.seven c.carried)

  rest-is : call.rest ≡ head_long shape
  rest-is = call.promised.rest-is ∙ given-done (head_long shape) call.lent_rest number-done

  long-is : piece_long shape b ≡ head_long shape + length piece.rest
  unfolding piece_bytes
  long-is = rw e (piece-long shape piece.values piece.rest y c.seven c.carried)

  next-is : call.next ≡ piece_long shape b
  next-is = call.promised.next-is ∙ given-done (piece_long shape b) call.lent_next number-done

  bytes-are : take (call.next - call.rest) (drop call.rest b) ≡ piece.rest
  unfolding piece_bytes
  bytes-are =
      let long : call.next - call.rest ≡ length piece.rest = omega (arith, next-is, long-is, rest-is) in
      rw (long, rest-is, e) (piece-rest shape piece.values piece.rest y c.seven c.carried)

  handed-is : handed call ≡ piece
  unfolding handed
  handed-is = rw (values-are, bytes-are)

  left_is : drop call.next b ≡ y
  unfolding piece_bytes
  left_is = rw (next-is, e) (piece-behind shape piece.values piece.rest y c.seven c.carried)

-- ---- the pieces of a part, by their kinds
data Fit : List ℕ → List PieceHeld → Type 0 where
  fit-nil : Fit [] []
  fit-cons : {kind : ℕ} {piece : PieceHeld} {ks : List ℕ} {ps : List PieceHeld}
      → ltb kind kinds ≡ true → PieceCarried (piece_of kind) piece → Fit ks ps → Fit (kind ∷ ks) (piece ∷ ps)

abbrev bytes_by : List ℕ → List PieceHeld → List ℕ
bytes_by [] ps = []
bytes_by (kind ∷ ks) [] = []
bytes_by (kind ∷ ks) (piece ∷ ps) = piece_bytes (piece_of kind) piece ++ bytes_by ks ps

-- these pieces are handed out first, and the loop goes on behind them
record Onward (all : List ℕ) (ps : List PieceHeld) (y : List ℕ) (out : List PieceHeld) (number : ℕ) : Type 0 where
  later : List PieceHeld
  is : out ≡ ps ++ later
  walk : Walk all [] y later number

module _ {all : List ℕ} where
  pieces_walked : {ks : List ℕ} {ps : List PieceHeld} → Fit ks ps → (y : List ℕ) {b : List ℕ} {out : List PieceHeld} {number : ℕ} → b ≡ bytes_by ks ps ++ y → Walk all ks b out number → Onward all ps y out number
  pieces_walked fit-nil y {b} {out} {number} e w = record { later = out; is = refl; walk = subst (λ (l : List ℕ). Walk all [] l out number) e w }
  pieces_walked (fit-cons {kind} {piece} {ks} {ps} known c f) y e (refused call wrong) =
      absurd (wrong (answered piece (bytes_by ks ps ++ y) known c (e ∙ append_assoc (piece_bytes (piece_of kind) piece) (bytes_by ks ps) y) call))
  pieces_walked (fit-cons {kind} {piece} {ks} {ps} known c f) y {b} e (read {pieces = tail} {number} call done w) =
      let split : b ≡ piece_bytes (piece_of kind) piece ++ (bytes_by ks ps ++ y) = e ∙ append_assoc (piece_bytes (piece_of kind) piece) (bytes_by ks ps) y in
      let on : Onward all ps y tail number = pieces_walked f y (left_is piece (bytes_by ks ps ++ y) known c split call) w in
      record {
        later = on.later;
        is = ap (λ (p : PieceHeld). p ∷ tail) (handed-is piece (bytes_by ks ps ++ y) known c split call) ∙ ap (λ (t : List PieceHeld). piece ∷ t) on.is;
        walk = on.walk;
      }

-- ---- a part is its pieces
none-long : (l : List ℕ) → length l ≡ 0 → l ≡ []
none-long [] e = refl
none-long (x ∷ l) e = absurd (omega arith)

plain-none : (piece : PieceHeld) → PieceCarried Plain piece → piece_bytes Plain piece ≡ []
unfolding piece_bytes body_bytes fields padded fields_of field_bytes form_of bytes_of rest_of rest_long
plain-none piece c = none-long piece.rest (piece-said Plain piece.values piece.rest [] c.seven c.carried)

front-some : (part : Part) → 0 < head_long (first part)
unfolding first head_long fields padded fields_of long_of form_of
front-some VersionEntry = omega arith
front-some ProcessInfo = omega arith
front-some Owner = omega arith
front-some Policy = omega arith
front-some ResetElement = omega arith

module _ (held : PartHeld) where
  part-fit : (part : Part) → PartCarried part held → Fit (kinds_of part) (pieces_of part held)
  unfolding kinds_of pieces_of piece_of find pieces first second
  part-fit VersionEntry c = fit-cons refl c.front fit-nil
  part-fit ProcessInfo c = fit-cons refl c.front fit-nil
  part-fit Owner c = fit-cons refl c.front fit-nil
  part-fit Policy c = fit-cons refl c.front (fit-cons refl c.back fit-nil)
  part-fit ResetElement c = fit-cons refl c.front (fit-cons refl c.back fit-nil)

  part-bytes : (part : Part) → PartCarried part held → part_bytes part held ≡ bytes_by (kinds_of part) (pieces_of part held)
  unfolding part_bytes kinds_of pieces_of piece_of find pieces first second
  part-bytes VersionEntry c = rw (plain-none held.back c.back)
  part-bytes ProcessInfo c = rw (plain-none held.back c.back)
  part-bytes Owner c = rw (plain-none held.back c.back)
  part-bytes Policy c = rw append-nil
  part-bytes ResetElement c = rw append-nil

  part-some : (part : Part) → 0 < length (part_bytes part held)
  unfolding part_bytes piece_bytes
  part-some part = rw (length-append, body-long (first part) held.front.values held.front.rest) (omega (arith, front-some part))

-- ---- the loop over a list of parts: their pieces, in their order, and no refusal
pub record Walked (part : Part) (l : List PartHeld) (out : List PieceHeld) (number : ℕ) : Type 0 where
  pub all : out ≡ join (map (pieces_of part) l)
  pub done : number ≡ No.done

module _ (part : Part) where
  abbrev list_bytes : List PartHeld → List ℕ
  list_bytes l = join (map (part_bytes part) l)

  pub walk-gives : {l : List PartHeld} → Each (PartCarried part) l → {b : List ℕ} {out : List PieceHeld} {number : ℕ} → b ≡ list_bytes l → Walk (kinds_of part) [] b out number → Walked part l out number
  unfolding join
  walk-gives each_nil e ended = record { all = refl; done = refl }
  walk-gives each_nil e (again some w) = absurd (omega (arith, ap length e))
  walk-gives (each-cons {x} {l} c v) e ended = absurd (omega (arith, part-some x part, ap length e, length-append (part_bytes part x) (list_bytes l)))
  walk-gives (each-cons {x} {l} c v) {b} e (again some w) =
      let split : b ≡ bytes_by (kinds_of part) (pieces_of part x) ++ list_bytes l = e ∙ ap (λ (front : List ℕ). front ++ list_bytes l) (part-bytes x part c) in
      let on : Onward (kinds_of part) (pieces_of part x) (list_bytes l) _ _ = pieces_walked (part-fit x part c) (list_bytes l) split w in
      let rest : Walked part l on.later _ = walk-gives v refl on.walk in
      record { all = on.is ∙ rw rest.all; done = rest.done }

-- ---- there is such a loop: it ends where the list does
a_call : (kind : ℕ) (b : List ℕ) → PieceCall kind b
a_call kind b =
    let lent : List ℕ = replicate 7 0 in
    let number : ℕ = read_piece_number kind b lent in
    record {
      lent = lent;
      lent_rest = 0;
      lent_next = 0;
      answer = number;
      values = given number (values_of (piece_of kind) b) lent;
      rest = given number (head_long (piece_of kind)) 0;
      next = given number (piece_long (piece_of kind) b) 0;
      seven = refl;
      promised = record { number_is = refl; values-are = refl; rest-is = refl; next-is = refl };
    }

pieces-there : {all ks : List ℕ} {ps out : List PieceHeld} {number : ℕ} → Fit ks ps → (y : List ℕ) → Walk all [] y out number → Walk all ks (bytes_by ks ps ++ y) (ps ++ out) number
pieces-there fit-nil y w = w
pieces-there {all} {out = out} {number} (fit-cons {kind} {piece} {ks} {ps} known c f) y w =
    let b : List ℕ = (piece_bytes (piece_of kind) piece ++ bytes_by ks ps) ++ y in
    let split : b ≡ piece_bytes (piece_of kind) piece ++ (bytes_by ks ps ++ y) = append_assoc (piece_bytes (piece_of kind) piece) (bytes_by ks ps) y in
    let call : PieceCall kind b = a_call kind b in
    let on : Walk all ks (drop call.next b) (ps ++ out) number = subst (λ (l : List ℕ). Walk all ks l (ps ++ out) number) (sym (left_is piece (bytes_by ks ps ++ y) known c split call)) (pieces-there f y w) in
    subst (λ (p : PieceHeld). Walk all (kind ∷ ks) b (p ∷ (ps ++ out)) number) (handed-is piece (bytes_by ks ps ++ y) known c split call)
    (read call (answered piece (bytes_by ks ps ++ y) known c split call) on)

pub walk-there : (part : Part) {l : List PartHeld} → Each (PartCarried part) l → Walk (kinds_of part) [] (list_bytes part l) (join (map (pieces_of part) l)) No.done
unfolding join
walk-there part each_nil = ended
walk-there part (each-cons {x} {l} c v) =
    let some : 0 < length (part_bytes part x ++ list_bytes part l) = omega (arith, part-some x part, length-append (part_bytes part x) (list_bytes part l)) in
    again some
    (subst (λ (front : List ℕ). Walk (kinds_of part) (kinds_of part) (front ++ list_bytes part l) (pieces_of part x ++ join (map (pieces_of part) l)) No.done) (sym (part-bytes x part c))
    (pieces-there (part-fit x part c) (list_bytes part l) (walk-there part v)))

-- ---- a message with that list, written by one entry and read by another: the loop over what the reader says is the rest
module _ (code : ℕ) (values old : List ℕ) (part : Part) {l : List PartHeld} (c : Each (PartCarried part) l) {before answer written : ℕ} {new : List ℕ}
    (w : WriteEntry (write_message_number code values (list_bytes part l) old) (message_long (byte_of code) values (list_bytes part l)) (message_bytes (byte_of code) values (list_bytes part l)) old before answer new written)
    (done : answer ≡ No.done) (lent : List ℕ) {begin answer₁ begin₁ : ℕ} {lent₁ : List ℕ} (h : length lent ≡ 7)
    (r : ReadEntry (read_message_number (take written new) lent) (read_message (take written new)).values (read_message (take written new)).rest lent begin answer₁ lent₁ begin₁) where
  pub list-walked : {out : List PieceHeld} {number : ℕ} → Walk (kinds_of part) [] (drop begin₁ (take written new)) out number → Walked part l out number
  list-walked walk = walk-gives part c (same_rest code values (list_bytes part l) old w done lent h r) walk
