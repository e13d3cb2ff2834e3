-- No second answer meets the contract of any public function of this crate, and no second content of the buffer that was lent.
-- Assumes nothing.
use Rattle.std.proofs.Common.{ℕ, ◌≡◌, sym, ap, ◌∙◌}
use Rattle.std.specs.Prelude.{Result, Ok, Err}
use Rattle.names.specs.declared.Row.{Row}
use Rattle.module_state.specs.declared.Refusal.{Refusal}
use Rattle.module_state.proofs.Refusals.{number-once, refusal-once, refusal-some}
use Rattle.listing_messages.specs.Wire.{RequestRead, CountRead, RowAnswer, request_in, count_in, row_in}
use Rattle.lists.proofs.Once.{OneAnswer, OneContent}
use Rattle.listing_messages.proofs.put_message_head.Kinds as put-message-head-kinds
use Rattle.listing_messages.proofs.put_message_head.Reads as put-message-head
use Rattle.listing_messages.proofs.read_request.Kinds as read-request-kinds
use Rattle.listing_messages.proofs.read_request.Reads as read-request
use Rattle.listing_messages.proofs.put_request.Kinds as put-request-kinds
use Rattle.listing_messages.proofs.put_request.Reads as put-request
use Rattle.listing_messages.proofs.read_count.Kinds as read-count-kinds
use Rattle.listing_messages.proofs.read_count.Reads as read_count
use Rattle.listing_messages.proofs.read_row_at.Kinds as read-row-at-kinds
use Rattle.listing_messages.proofs.read_row_at.Reads as read-row-at

-- ---- no two answers have one number and one value beside it
request_once : (a b : Result ℕ Refusal) → request_in a ≡ request_in b → a ≡ b
request_once (Ok x) (Ok y) e = ap (λ (p : RequestRead). Ok p.credential) e
request_once (Ok x) (Err s) e = absurd (refusal-some s (sym (ap (λ (p : RequestRead). p.number) e)))
request_once (Err r) (Ok y) e = absurd (refusal-some r (ap (λ (p : RequestRead). p.number) e))
request_once (Err r) (Err s) e = ap Err (refusal-once (ap (λ (p : RequestRead). p.number) e))

count_once : (a b : Result ℕ Refusal) → count_in a ≡ count_in b → a ≡ b
count_once (Ok x) (Ok y) e = ap (λ (p : CountRead). Ok p.count) e
count_once (Ok x) (Err s) e = absurd (refusal-some s (sym (ap (λ (p : CountRead). p.number) e)))
count_once (Err r) (Ok y) e = absurd (refusal-some r (ap (λ (p : CountRead). p.number) e))
count_once (Err r) (Err s) e = ap Err (refusal-once (ap (λ (p : CountRead). p.number) e))

row_once : (a b : Result Row Refusal) → row_in a ≡ row_in b → a ≡ b
row_once (Ok x) (Ok y) e = ap (λ (p : RowAnswer). Ok p.row) e
row_once (Ok x) (Err s) e = absurd (refusal-some s (sym (ap (λ (p : RowAnswer). p.number) e)))
row_once (Err r) (Ok y) e = absurd (refusal-some r (ap (λ (p : RowAnswer). p.number) e))
row_once (Err r) (Err s) e = ap Err (refusal-once (ap (λ (p : RowAnswer). p.number) e))

pub put-message-head-once : OneContent 1 put-message-head-kinds.ps put-message-head-kinds.r put-message-head.Post (λ κs s. s.0.now)
put-message-head-once κs a x y s t p q = p ∙ sym q

pub read-request-once : OneAnswer 1 read-request-kinds.ps read-request-kinds.r read-request.Post
read-request-once κs a x y s t p q = request_once x y (p ∙ sym q)

pub put-request-once : OneAnswer 1 put-request-kinds.ps put-request-kinds.r put-request.Post
put-request-once κs a x y s t p q = number-once x y (p.0 ∙ sym q.0)

pub put-request-content : OneContent 1 put-request-kinds.ps put-request-kinds.r put-request.Post (λ κs s. s.0.now)
put-request-content κs a x y s t p q = p.1 ∙ sym q.1

pub read-count-once : OneAnswer 1 read-count-kinds.ps read-count-kinds.r read_count.Post
read-count-once κs a x y s t p q = count_once x y (p ∙ sym q)

pub read-row-at-once : OneAnswer 1 read-row-at-kinds.ps read-row-at-kinds.r read-row-at.Post
read-row-at-once κs a x y s t p q = row_once x y (p ∙ sym q)
