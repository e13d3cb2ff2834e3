use Rattle.state_fields.proofs.Rules.{stand-begin, stand-out, stand-rival, stand-on}
use Rattle.state_fields.proofs.all_stand.Goals as goal

pub loop-i-init : goal.loop-i-init
loop-i-init c = stand-begin c.args.s.now c.args.places.now

pub returns-then-not-stands : goal.returns-then-not-stands
returns-then-not-stands c = stand-out c.loop-i.invariant c.loop-i-test.true c.stands.ensures c.if-not-stands.true

pub returns-then-taken-key : goal.returns-then-taken-key
returns-then-taken-key c = stand-rival c.loop-i.invariant c.loop-i-test.true c.stands.ensures c.if-not-stands.false c.key_of-key.ensures c.if-taken-key.true

pub loop-i-preserved : goal.loop-i-preserved
loop-i-preserved c = stand-on c.loop-i.invariant c.loop-i-test.true c.stands.ensures c.if-not-stands.false c.key_of-key.ensures c.if-taken-key.false
