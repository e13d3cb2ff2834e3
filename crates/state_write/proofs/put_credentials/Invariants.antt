use Rattle.state_layout.specs.Layout.{credential_size, credentials_at, grants_bytes}
use Rattle.rows.proofs.Loops.{Wrote}
use Rattle.state_write.proofs.put_credentials.Given as goal

abbrev pub invariant-loop-i : goal.invariant-loop-i
invariant-loop-i l = Wrote grants_bytes credential_size credentials_at l.l l.initial.s l.s l.i
