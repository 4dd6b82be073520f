use Rattle.crush_laws.proofs.Counted.{takes_all, takes_each}
use Rattle.crush_laws.proofs.sizes.what_is_kept_takes_the_bytes_of_its_texts.Goals as goal

pub returns-clause-each : goal.returns-clause-each
returns-clause-each c = takes_each

pub returns-clause-texts : goal.returns-clause-texts
returns-clause-texts c = takes_all
