use Rattle.crush_server.specs.tenant_service.proofs.Served.{history_of_two}
use Rattle.crush_laws.proofs.stops.sessions_one_after_the_other_are_a_history.Goals as goal

pub returns : goal.returns
returns g c = λ old mid left calls later_calls replies later_replies doubt later_doubt found next t first leaves second has also there.
    history_of_two (g.T.TenantStore.has_state old) (g.T.TenantStore.has_state mid) (g.T.TenantStore.may_leave left) calls replies doubt later_calls later_replies later_doubt found next t
    first leaves second has also there
