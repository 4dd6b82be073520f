use Rattle.std.proofs.Common.{◌≡◌, ap, ◌∙◌}
use Rattle.tenant_core.specs.States.{Damaged, Found, HasState}
use Rattle.crush_server.specs.tenant_service.specs.Served.{session}
use Rattle.crush_laws.proofs.Doubtful.{leaves_acknowledged}
use Rattle.crush_laws.proofs.stops.a_crash_leaves_what_was_acknowledged.Goals as goal

pub returns-clause-sound : goal.returns-clause-sound
returns-clause-sound g c = λ old left calls replies doubt found t leaves has damaged.
    let (s, is, may) = leaves found t Damaged has damaged in
    let e : Damaged ≡ HasState s = is in
    cc

pub returns-clause-none : goal.returns-clause-none
returns-clause-none g c = λ old left calls replies doubt found t next leaves has there none.
    let (s, is, may) = leaves found t next has there in
    is ∙ ap HasState (leaves_acknowledged t (session found calls replies doubt) s none may)
