-- No second answer meets the contract of the public function of this crate, and no second content of the buffer that was lent.
-- Assumes nothing.
use Rattle.std.specs.Prelude.{Result, Ok, Err}
use mathlib.Core.Path.{◌≡◌, sym, ap, ◌∙◌}
use Rattle.lists.proofs.Once.{OneAnswer, OneContent}
use Rattle.module_state.specs.declared.Refusal.{Refusal}
use Rattle.module_state.proofs.Refusals.{refusal-once, refusal-some}
use Rattle.image_damaged.specs.declared.Report.{Report}
use Rattle.image_damaged.specs.Rescue.{Rescued, rescued_in}
use Rattle.image_rescue.proofs.rescue.Kinds as rescue-kinds
use Rattle.image_rescue.proofs.rescue.Reads as rescue

-- no two answers say one number and one report
rescued-once : (a b : Result Report Refusal) → rescued_in a ≡ rescued_in b → a ≡ b
rescued-once (Ok x) (Ok y) e =
    let answer : Rescued → Result Report Refusal = λ r. Ok (record { length = r.length; cleared = r.cleared; kept = r.kept; dropped = r.dropped }) in
    ap answer e
rescued-once (Ok x) (Err s) e = absurd (refusal-some s (sym (ap (λ (r : Rescued). r.number) e)))
rescued-once (Err r) (Ok y) e = absurd (refusal-some r (ap (λ (r : Rescued). r.number) e))
rescued-once (Err r) (Err s) e = ap Err (refusal-once (ap (λ (r : Rescued). r.number) e))

pub rescue-once : OneAnswer 2 rescue-kinds.ps rescue-kinds.r rescue.Post
rescue-once κs a x y s t p q = rescued-once x y (p.answer-is ∙ sym q.answer-is)

pub rescue-content : OneContent 2 rescue-kinds.ps rescue-kinds.r rescue.Post (λ κs s. s.1.0.now)
rescue-content κs a x y s t p q = p.bytes-are ∙ sym q.bytes-are
