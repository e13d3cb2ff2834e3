use mathlib.Core.Path.{sym, ◌∙◌}
use native.Mathlib.Omega.{arith}
use Rattle.rows.proofs.Chunks.{all_every}
use Rattle.rows.proofs.Loops.{every-begin, every-on, every-fail, every-all}
use Rattle.image.specs.Image.{saved_from, is_keepable}
use Rattle.image_test.proofs.are_keepable.Goals as goal

pub loop-i-init : goal.loop-i-init
loop-i-init c = every-begin (λ row. is_keepable c.args.grants (saved_from row)) c.args.saved.now 0 (omega arith)

pub returns-then-not-is_keepable : goal.returns-then-not-is_keepable
returns-then-not-is_keepable c =
    sym (all_every (λ row. is_keepable c.args.grants (saved_from row)) c.args.saved.now ∙ every-fail _ c.loop-i.invariant c.loop-i-test.true (sym c.is_keepable.ensures ∙ c.if-not-is_keepable.true))

pub loop-i-preserved : goal.loop-i-preserved
loop-i-preserved c = every-on _ c.loop-i.invariant c.loop-i-test.true (sym c.is_keepable.ensures ∙ c.if-not-is_keepable.false)

pub returns : goal.returns
returns c =
    sym (all_every (λ row. is_keepable c.args.grants (saved_from row)) c.args.saved.now ∙ every-all c.loop-i.invariant c.loop-i-test.false)
