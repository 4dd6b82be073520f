use Rattle.std.proofs.Common.{◌≡◌, sym, ◌∙◌, rules}
use Rattle.crush_bucket.specs.Private.Laid.{IsLaid}
use Rattle.crush_bucket.specs.Tables.{bucket_numbered}
use Rattle.crush_bucket.proofs.Numbered.{numbered_within, none_of_device}
use Rattle.crush_bucket.proofs.tables.Tables.bucket_of.Goals as goal

pub returns-in_err-n-clause-value : goal.returns-in_err-n-clause-value
returns-in_err-n-clause-value c =
    let laid : IsLaid c.args.self.now = rw (← c.self.view_is) c.self.invariant.laid in
    let id = c.in_err-n.ensures {u = tt} in
    c.from_residual.ensures ∙ sym (none_of_device c.args.self.now c.args.item id.0 laid.negative id.1)

pub returns-in-Some-clause-within : goal.returns-in-Some-clause-within
returns-in-Some-clause-within c =
    let is : c.in-Some.found.now ≡ bucket_numbered c.args.self.now c.args.item = search rules in
    numbered_within c.args.self.now c.args.item c.in-Some.found.now is
