use Rattle.std.proofs.Common.{◌≡◌, ℕ, List, None}
use Rattle.std.specs.BTreeMap.{get_by_text}
use Rattle.tenant_core.specs.States.{Shows}
use Rattle.tenant_service.proofs.Served.{history_of_two}
use Rattle.session_tests.proofs.Stopped.{Holds}
use Rattle.session_tests.proofs.sessions.two_sessions.Goals as goal

-- the second session found what the disk then held
pub returns : goal.returns
returns c =
    let held = λ (t : List ℕ). get_by_text c.new.result.states t in
    let left = λ (t : List ℕ). get_by_text c.in_ok-stopped.disk.states t in
    let found = c.memory_stores_are_honest.ensures.some_state c.in_ok-stopped.disk in (
      λ t. (found t).0,
      λ t.
          history_of_two (Holds held) (Holds left) (Shows (Holds left)) c.args.first.now c.in_ok-stopped.stopped.replies.items c.in_ok-stopped.stopped.doubt
          c.args.second.now c.in_ok-whole.whole.replies.items c.in_ok-whole.whole.doubt (λ _. None) (λ u. (found u).0) t
          c.in_ok-stopped.ensures.sound c.in_ok-stopped.ensures.crash c.in_ok-whole.ensures.sound (c.new.ensures t) (found t).1 (found t).1,
    )
