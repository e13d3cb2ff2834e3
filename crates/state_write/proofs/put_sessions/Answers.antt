use Rattle.module_state.specs.Module.{closed_session}
use Rattle.module_state.specs.declared.SessionState.{SessionState}
use Rattle.state_layout.specs.Layout.{phase_byte}
use Rattle.state_write.proofs.Rules.{rules, mapped, sessions-put}
use Rattle.state_write.proofs.put_sessions.Goals as goal

pub returns : goal.returns
returns c =
    sessions-put c.args.l c.args.s.now (search rules) c.told-s
    (mapped _ _ (λ (x : SessionState). phase_byte x.phase) c.args.l closed_session (λ x y f k. search rules) (search rules) c.map.ensures.items) c.copy_from_slice.ensures.after
