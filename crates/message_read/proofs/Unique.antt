-- No second answer meets the contract of any public function of this crate. Assumes nothing.
use Rattle.std.specs.Prelude.{Result, Ok, Err}
use mathlib.Core.Path.{◌≡◌, sym, ap, ◌∙◌}
use Rattle.lists.proofs.Once.{OneAnswer}
use Rattle.module_state.specs.declared.Refusal.{Refusal}
use Rattle.module_state.proofs.Refusals.{refusal-once, refusal-some}
use Rattle.message_read.specs.Messages.{MessageAnswer, answer_in}
use Rattle.message_read.specs.declared.MessageRead.{MessageRead}
use Rattle.message_read.proofs.read_message.Kinds as read-message-kinds
use Rattle.message_read.proofs.read_message.Reads as read-message

-- no two answers come to one
pub answer-once : (a b : Result MessageRead Refusal) → answer_in a ≡ answer_in b → a ≡ b
answer-once (Ok x) (Ok y) e = ap (λ (m : MessageAnswer). Ok (record { values = m.values; rest = m.rest })) e
answer-once (Ok x) (Err s) e = absurd (refusal-some s (sym (ap (λ (m : MessageAnswer). m.number) e)))
answer-once (Err r) (Ok y) e = absurd (refusal-some r (ap (λ (m : MessageAnswer). m.number) e))
answer-once (Err r) (Err s) e = ap Err (refusal-once (ap (λ (m : MessageAnswer). m.number) e))

pub read-message-once : OneAnswer 1 read-message-kinds.ps read-message-kinds.r read-message.Post
read-message-once κs a x y s t p q = answer-once x y (p ∙ sym q)
