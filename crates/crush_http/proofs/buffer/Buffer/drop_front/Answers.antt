use Rattle.std.proofs.Common.{take, drop, ◌≤◌, ◌-◌, length, arith, ap, ◌∙◌, length-take}
use Rattle.crush_http.proofs.Streams.{dropped}
use Rattle.crush_http.proofs.buffer.Buffer.drop_front.Goals as goal

pub returns : goal.returns
returns c =
    let few : c.args.count ≤ c.self.inside.filled = omega (arith, ap length c.self.view_is, length-take c.self.inside.filled c.self.inside.room.items) in
    ap (take (c.self.inside.filled - c.args.count)) c.copy_within.ensures.items
    ∙ dropped c.self.inside.filled c.args.count c.self.inside.room.items _ few (omega arith) ∙ ap (drop c.args.count) c.self.view_is
