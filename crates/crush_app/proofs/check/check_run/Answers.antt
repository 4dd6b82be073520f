use Rattle.std.proofs.Common.{rules, string_bytes}
use Rattle.crush_app.proofs.Checking.{refused_end, map_accepted, map_refused, fault_accepted, fault_refused}
use Rattle.crush_app.proofs.check.check_run.Goals as goal

-- the input is a text of a map
pub returns-then-verdict-clause-of_map : goal.returns-then-verdict-clause-of_map
returns-then-verdict-clause-of_map g c =
    λ _. map_accepted c.texts_say_one_map.ensures _ _ _ _ (string_bytes c.in-Some.verdict.line) c.in-Some.verdict.accepted c.if-verdict.true (search rules) (search rules)

pub returns-then-verdict-clause-of_fault : goal.returns-then-verdict-clause-of_fault
returns-then-verdict-clause-of_fault g c = λ _. fault_accepted c.texts_of_maps_have_no_fault.ensures _ _ _ _ _ (string_bytes c.in-Some.verdict.line) c.in-Some.verdict.accepted c.if-verdict.true (search rules)

-- the input is refused for a fault
pub returns-clause-of_map : goal.returns-clause-of_map
returns-clause-of_map g c = λ _. map_refused c.texts_of_maps_have_no_fault.ensures _ _ _ _ _ (string_bytes c.in-Some.verdict.line) c.in-Some.verdict.accepted c.if-verdict.false (search rules)

pub returns-clause-of_fault : goal.returns-clause-of_fault
returns-clause-of_fault g c =
    λ _. fault_refused c.texts_have_a_map_or_one_fault.ensures.one_fault _ _ _ _ (string_bytes c.in-Some.verdict.line) c.in-Some.verdict.accepted c.if-verdict.false (search rules) (search rules)

pub returns-clause-refused : goal.returns-clause-refused
returns-clause-refused g c = λ _. refused_end _ _ _ (string_bytes c.in-Some.verdict.line) c.in-Some.verdict.accepted c.if-verdict.false (search rules) (search rules)
