use Rattle.session_tests.proofs.sessions.one_session.Goals as goal

pub returns-clause-sound : goal.returns-clause-sound
returns-clause-sound c = λ found t has. (rw c.in_ok-service.ensures at c.in_ok-end.ensures.sound) tt found t has
