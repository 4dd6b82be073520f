use Rattle.crush_report.proofs.Ups.{entries_sum, primaries_sum}
use Rattle.crush_report.proofs.usage_laws.usage_counts_each_entry.Goals as goal

pub returns-clause-entries : goal.returns-clause-entries
returns-clause-entries c = λ m states p pairs rule is numbered.
    entries_sum m states p pairs rule is (λ w x size. c.answers_are_of_the_map.ensures m rule p.rule w x size is numbered)

pub returns-clause-primaries : goal.returns-clause-primaries
returns-clause-primaries c = λ m states p pairs rule is numbered.
    primaries_sum m states p pairs rule is (λ w x size. c.answers_are_of_the_map.ensures m rule p.rule w x size is numbered)
