-- What the opening found, and the clients, put together.
use Rattle.crush_server.proofs.EndFacts.{ends_on_file}
use Rattle.crush_server.proofs.on_file.serve_on_file.Goals as goal

pub returns-clause-ends : goal.returns-clause-ends
returns-clause-ends g c =
    let served = c.serve_on_store in
    ends_on_file _ _ c.in-Ok.opened.0.0 served.result.0 served.result.1.copied served.result.1.files c.args.connections (g.L.Listener.clients c.args.listener.now)
    (g.L.Listener.clients served.new.listener) c.in-Ok.ensures.found served.ensures.ends
