use Rattle.std.proofs.Common.{refl}
use Rattle.crush_laws.proofs.Apart.{apart, calls_in, replies_in, together, known_of_more}
use Rattle.crush_laws.proofs.clients.clients_are_served_one_after_the_other.Goals as goal
use Rattle.crush_laws.specs.Served.{AreJust}

pub returns-clause-apart : goal.returns-clause-apart
returns-clause-apart c = λ calls replies inputs outputs serves.
    let they = apart inputs outputs (AreJust calls replies) serves in
    (they.clients, they.sent, they.got, they.served, they.meets.0, they.meets.1)

pub returns-clause-together : goal.returns-clause-together
returns-clause-together c = λ clients all. together clients (AreJust (calls_in clients) (replies_in clients)) all (refl, refl)

pub returns-clause-known : goal.returns-clause-known
returns-clause-known c = λ calls replies count old new serves. known_of_more (AreJust calls replies) count old new serves
