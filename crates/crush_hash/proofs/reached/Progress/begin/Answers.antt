use Rattle.std.proofs.Common.{◌≡◌, arith}
use Rattle.std.proofs.lemmas.Bool.{false≢true}
use Rattle.crush_hash.specs.Permutation.{partner}
use Rattle.crush_hash.proofs.reached.Progress.begin.Goals as goal
use Rattle.crush_hash.proofs.reached.Progress.begin.Goals.{then-others, else-others}

pub returns-clause-reached : goal.returns-clause-reached
returns-clause-reached c = λ row h. (
    let id = c.args.self.now.hashes in
    let size = c.args.self.now.size in
    let q = c.partner-first.result in
    let same_size : c.if-others.self.size ≡ size = elim c.if-others.branch [ then-others w ↦ cc | else-others w ↦ cc ] in
    let same_id : c.if-others.self.hashes ≡ id = elim c.if-others.branch [ then-others w ↦ cc | else-others w ↦ cc ] in
    let is : q ≡ partner id size c.args.x 0 = elim c.if-others.branch [ then-others w ↦ cc | else-others w ↦ cc ] in
    let len : c.if-others.self.len ≡ c.args.self.now.len = elim c.if-others.branch [ then-others w ↦ cc | else-others w ↦ cc ] in
    record {
      pairs = λ e. absurd (false≢true e);
      known = λ e. (rw (same_size, same_id) is, omega (arith, same_size, c.requires.some));
      len = omega (arith, len, h.len);
      made = omega arith;
      room = omega (arith, same_size, h.room);
      two = h.two;
      small = omega (arith, same_size, h.small);
    })
