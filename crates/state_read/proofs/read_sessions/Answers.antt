use Rattle.module_state.specs.Module.{session_count}
use Rattle.state_layout.specs.Layout.{session_size, session_from}
use Rattle.state_read.proofs.Rules.{rules, made-rows, session-at}
use Rattle.state_read.proofs.read_sessions.Goals as goal

pub returns : goal.returns
returns c = made-rows _ _ session_from session_count session_size c.args.s.now (λ i y f h k. search (rules, session-at)) c.from_fn.ensures.items
