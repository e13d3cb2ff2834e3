use Rattle.std.proofs.Common.{arith, length-take, length-drop, drop}
use Rattle.std.proofs.lemmas.Bool.Decides.{nat_tests}
use Rattle.rows.specs.Bytes.{width_of}
use Rattle.rows.proofs.Rules.{said-begin}
use Rattle.rows.proofs.number_at.Goals as goal

pub loop-i-init : goal.loop-i-init
loop-i-init c =
    said-begin c.args.at c.args.width c.args.bytes.now
    (grind (arith, nat_tests, c.min-size.ensures, c.width_of.ensures, c.saturating_sub.ensures, length-take (width_of c.args.width) (drop c.args.at c.args.bytes.now), length-drop c.args.at c.args.bytes.now))
