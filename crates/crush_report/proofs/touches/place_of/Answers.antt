use Rattle.std.proofs.Common.{rules, nat_lt}
use Rattle.std.proofs.lemmas.List.Sorted.{IsPartitionPoint-from_clause, IsPartitionedBy-ltb}
use Rattle.crush_report.proofs.touches.place_of.Goals as goal

pub returns-clause-place : goal.returns-clause-place
returns-clause-place c =
    IsPartitionPoint-from_clause (λ t. nat_lt t.device c.args.least) c.args.pairs.now c.partition_point.result c.partition_point.ensures.partitioned
    (IsPartitionedBy-ltb (λ t. t.device) c.args.pairs.now c.args.least c.requires) (λ a r f' k. search rules)
