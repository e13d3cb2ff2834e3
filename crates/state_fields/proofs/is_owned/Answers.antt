use Rattle.state_fields.proofs.Rules.{rules}
use Rattle.state_fields.proofs.is_owned.Goals.{then-credential-lt-CREDENTIALS, else-credential-lt-CREDENTIALS}
use Rattle.state_fields.proofs.is_owned.Goals as goal

pub returns-else-s-credential-eq-SET_FLAG : goal.returns-else-s-credential-eq-SET_FLAG
returns-else-s-credential-eq-SET_FLAG c =
    elim c.if-credential-lt-CREDENTIALS.branch [
      | then-credential-lt-CREDENTIALS w ↦ search rules
      | else-credential-lt-CREDENTIALS w ↦ search rules
    ]
