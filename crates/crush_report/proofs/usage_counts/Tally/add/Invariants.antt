use Rattle.std.proofs.Common.{◌<◌, ◌+◌, ◌^◌, length}
use Rattle.crush_report.specs.Private.Tallies.{HasRoom, IsCounting}
use Rattle.crush_report.proofs.usage_counts.Tally.add.Given as goal

-- what was counted, with the remaining slots, is all of it
abbrev pub invariant-loop-rest : goal.invariant-loop-rest
invariant-loop-rest l = record {
  counting : IsCounting l.up l.first l.initial.self l.rest l.self;
  groups : HasRoom l.self.groups (length l.rest);
  entries : HasRoom l.self.entries (length l.rest);
  primaries : HasRoom l.self.primaries (length l.rest);
  filled : l.self.filled + length l.rest < 2 ^ 32;
}

abbrev pub decreases-loop-rest : goal.decreases-loop-rest
decreases-loop-rest l = length l.rest
