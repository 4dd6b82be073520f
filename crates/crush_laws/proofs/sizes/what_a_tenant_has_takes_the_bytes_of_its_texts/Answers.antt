use Rattle.crush_laws.proofs.Counted.{one_pool, one_version, takes_lists, takes_texts}
use Rattle.crush_laws.proofs.sizes.what_a_tenant_has_takes_the_bytes_of_its_texts.Goals as goal

pub returns-clause-texts : goal.returns-clause-texts
returns-clause-texts c = takes_texts

pub returns-clause-lists : goal.returns-clause-lists
returns-clause-lists c = takes_lists

pub returns-clause-version : goal.returns-clause-version
returns-clause-version c = one_version

pub returns-clause-pool : goal.returns-clause-pool
returns-clause-pool c = one_pool
