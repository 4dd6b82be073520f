use Rattle.std.proofs.Common.{◌≡◌, length, true, false, nat_le, subst, arith}
use Rattle.std.proofs.lemmas.Bool.Decides.{nat_tests}
use Rattle.crush_text.specs.MapText.{IsRefusedFor, IsShort, IsTextOf}
use Rattle.tenant_resources.proofs.Importing.{of_fault, of_map, of_rule_in_use}
use Rattle.tenant_state.specs.State.{has_rules_of}
use Rattle.tenant_state.specs.declared.limits.TheConstants.{VERSION_LIMIT}
use Rattle.tenant_resources.proofs.maps.import.Goals as goal

pub returns-in-Err-clause-given : goal.returns-in-Err-clause-given
returns-in-Err-clause-given c =
    let few : nat_le VERSION_LIMIT (length c.args.inventory.now.versions) ≡ false = grind (arith, nat_tests, c.newest.ensures, c.if-newest.false) in
    let h = c.in_ok-fault.ensures.refused in
    let is = c.in-Err.is in
    let refused = rw is at h in
    let own = subst (λ t. IsRefusedFor t c.in-Err.fault) c.as_bytes.ensures.value refused in
    of_fault c.args.text.now c.args.inventory.now c.in-Err.fault few ((c.texts_are_read_as_they_say.ensures.refused c.args.text.now c.in-Err.fault).1 own)

pub returns-then-not-has_rules_in-clause-given : goal.returns-then-not-has_rules_in-clause-given
returns-then-not-has_rules_in-clause-given c =
    let few : nat_le VERSION_LIMIT (length c.args.inventory.now.versions) ≡ false = grind (arith, nat_tests, c.newest.ensures, c.if-newest.false) in
    let h = c.in_ok-fault.ensures.map in
    let is = c.in-Ok.is in
    let read = rw is at h in
    let own = subst (λ t. IsShort t × IsTextOf t c.in-Ok.map) c.as_bytes.ensures.value read in
    let lacks : has_rules_of c.args.inventory.now.pools c.in-Ok.map ≡ false = grind (arith, c.has_rules_in.ensures, c.if-not-has_rules_in.true) in
    of_rule_in_use c.args.text.now c.args.inventory.now c.in-Ok.map few ((c.texts_are_read_as_they_say.ensures.map c.args.text.now c.in-Ok.map).1 own) lacks

pub returns-in_ok-import_reply-in-Ok-clause-given : goal.returns-in_ok-import_reply-in-Ok-clause-given
returns-in_ok-import_reply-in-Ok-clause-given c =
    let few : nat_le VERSION_LIMIT (length c.args.inventory.now.versions) ≡ false = grind (arith, nat_tests, c.newest.ensures, c.if-newest.false) in
    let h = c.in_ok-fault.ensures.map in
    let is = c.in-Ok.is in
    let read = rw is at h in
    let own = subst (λ t. IsShort t × IsTextOf t c.in-Ok.map) c.as_bytes.ensures.value read in
    let has : has_rules_of c.args.inventory.now.pools c.in-Ok.map ≡ true = grind (arith, c.has_rules_in.ensures, c.if-not-has_rules_in.false) in
    of_map c.args.text.now c.args.inventory.now c.in-Ok.map c.in_ok-version-in-Ok.version.value _ few ((c.texts_are_read_as_they_say.ensures.map c.args.text.now c.in-Ok.map).1 own) has
    c.in_ok-version-in-Ok.ensures c.in_ok-import_reply-in-Ok.ensures
