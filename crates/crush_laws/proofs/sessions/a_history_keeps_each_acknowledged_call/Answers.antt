use Rattle.std.proofs.Common.{◌∷◌, Some}
use Rattle.crush_server.specs.tenant_service.specs.History.{IsKeptOf}
use Rattle.crush_laws.proofs.Doubtful.{leaves_acknowledged, linked_at}
use Rattle.crush_laws.proofs.Kept.{keeps_acknowledged}
use Rattle.crush_laws.proofs.Lists.{in_joined, zip_at}
use Rattle.crush_laws.proofs.sessions.a_history_keeps_each_acknowledged_call.Goals as goal

pub returns-clause-kept : goal.returns-clause-kept
returns-clause-kept c = λ t first later parts k session place call reply explains at is.
    let (part, there, kept) = zip_at (IsKeptOf t) (first ∷ later) parts k session explains.kept at in
    in_joined parts k part (record { call = call; reply = Some reply }) there (keeps_acknowledged t session part place call reply kept is)

pub returns-clause-found : goal.returns-clause-found
returns-clause-found c = λ t first later k session next history at after none.
    leaves_acknowledged t session (next.found t) none (linked_at t first later k session next history.linked at after)
