use Rattle.std.proofs.Common.{rules, sym}
use Rattle.std.proofs.lemmas.Int.{to_z-of_z}
use mir.Val.{SFits}
use mir.Syntax.{w64}
use Rattle.tenant_tables.proofs.write.Write.run.Goals as goal

pub returns-in-Raise-clause-runs : goal.returns-in-Raise-clause-runs
returns-in-Raise-clause-runs g c clean mode =
    let fits-id : SFits w64 c.in-Raise.id = search rules in
    let fits-epoch : SFits w64 c.in-Raise.epoch = search rules in
    rw c.in-Raise.is (simp to_z-of_z at (c.execute-in-Raise.ensures.runs clean mode))

pub returns-in-AddVersion-clause-runs : goal.returns-in-AddVersion-clause-runs
returns-in-AddVersion-clause-runs g c clean mode =
    let fits-id : SFits w64 c.in-AddVersion.id = search rules in
    let fits-version : SFits w64 c.in-AddVersion.version = search rules in
    rw (c.in-AddVersion.is, sym c.as_bytes-in-AddVersion.ensures.value) (simp to_z-of_z at (c.execute-in-AddVersion.ensures.runs clean mode))

pub returns-in-ClearState-clause-runs : goal.returns-in-ClearState-clause-runs
returns-in-ClearState-clause-runs g c clean mode =
    let fits-id : SFits w64 c.in-ClearState.id = search rules in
    let fits-device : SFits w64 c.in-ClearState.device = search rules in
    rw c.in-ClearState.is (simp to_z-of_z at (c.execute-in-ClearState.ensures.runs clean mode))

pub returns-in-AddState-clause-runs : goal.returns-in-AddState-clause-runs
returns-in-AddState-clause-runs g c clean mode =
    let fits-id : SFits w64 c.in-AddState.id = search rules in
    let fits-state-device : SFits w64 c.in-AddState.state.device = search rules in
    let fits-state-reweight : SFits w64 c.in-AddState.state.reweight = search rules in
    let fits-state-up : SFits w64 c.in-AddState.state.up = search rules in
    rw c.in-AddState.is (simp to_z-of_z at (c.execute-in-AddState.ensures.runs clean mode))

pub returns-in-AddPool-clause-runs : goal.returns-in-AddPool-clause-runs
returns-in-AddPool-clause-runs g c clean mode =
    let fits-id : SFits w64 c.in-AddPool.id = search rules in
    let fits-pool-id : SFits w64 c.in-AddPool.pool.id = search rules in
    let fits-pool-erasure : SFits w64 c.in-AddPool.pool.erasure = search rules in
    let fits-pool-size : SFits w64 c.in-AddPool.pool.size = search rules in
    let fits-pool-rule : SFits w64 c.in-AddPool.pool.rule = search rules in
    let fits-pool-pg_num : SFits w64 c.in-AddPool.pool.pg_num = search rules in
    let fits-pool-pgp_num : SFits w64 c.in-AddPool.pool.pgp_num = search rules in
    let fits-pool-hashpspool : SFits w64 c.in-AddPool.pool.hashpspool = search rules in
    let fits-pool-pairs : SFits w64 c.in-AddPool.pool.pairs = search rules in
    rw (c.in-AddPool.is, sym c.as_bytes-in-AddPool.ensures.value) (simp to_z-of_z at (c.execute-in-AddPool.ensures.runs clean mode))

pub returns-in-RemovePool-clause-runs : goal.returns-in-RemovePool-clause-runs
returns-in-RemovePool-clause-runs g c clean mode =
    let fits-id : SFits w64 c.in-RemovePool.id = search rules in
    let fits-pool : SFits w64 c.in-RemovePool.pool = search rules in
    rw c.in-RemovePool.is (simp to_z-of_z at (c.execute-in-RemovePool.ensures.runs clean mode))

pub returns-in-AddReceipt-clause-runs : goal.returns-in-AddReceipt-clause-runs
returns-in-AddReceipt-clause-runs g c clean mode =
    let fits-id : SFits w64 c.in-AddReceipt.id = search rules in
    let fits-receipt-status : SFits w64 c.in-AddReceipt.receipt.status = search rules in
    rw (c.in-AddReceipt.is, sym c.as_bytes-in-AddReceipt.ensures.value, sym c.as_bytes-in-AddReceipt-2.ensures.value, sym c.as_bytes-in-AddReceipt-3.ensures.value, sym c.as_bytes-in-AddReceipt-4.ensures.value) (simp to_z-of_z at (c.execute-in-AddReceipt.ensures.runs clean mode))

pub returns-in-AddException-clause-runs : goal.returns-in-AddException-clause-runs
returns-in-AddException-clause-runs g c clean mode =
    let fits-id : SFits w64 c.in-AddException.id = search rules in
    let fits-pool : SFits w64 c.in-AddException.exception.pool = search rules in
    let fits-place : SFits w64 c.in-AddException.exception.place = search rules in
    let fits-group : SFits w64 c.in-AddException.exception.group = search rules in
    let fits-from : SFits w64 c.in-AddException.exception.from = search rules in
    let fits-to : SFits w64 c.in-AddException.exception.to = search rules in
    rw c.in-AddException.is (simp to_z-of_z at (c.execute-in-AddException.ensures.runs clean mode))

pub returns-in-ClearExceptions-clause-runs : goal.returns-in-ClearExceptions-clause-runs
returns-in-ClearExceptions-clause-runs g c clean mode =
    let fits-id : SFits w64 c.in-ClearExceptions.id = search rules in
    let fits-pool : SFits w64 c.in-ClearExceptions.pool = search rules in
    rw c.in-ClearExceptions.is (simp to_z-of_z at (c.execute-in-ClearExceptions.ensures.runs clean mode))
