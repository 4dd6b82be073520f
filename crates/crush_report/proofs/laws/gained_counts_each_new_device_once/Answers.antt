use Rattle.crush_report.proofs.GainCounts.{gains_counted, gains_summed}
use Rattle.crush_report.proofs.laws.gained_counts_each_new_device_once.Goals as goal

pub returns-clause-once : goal.returns-clause-once
returns-clause-once c old new ids ascending are = gains_counted old new ids ascending are

pub returns-clause-sum : goal.returns-clause-sum
returns-clause-sum c rows = gains_summed rows
