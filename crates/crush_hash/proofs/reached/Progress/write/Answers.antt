use Rattle.std.proofs.Common.{◌≡◌, ◌<◌, ◌-◌, false, min, take, sym, arith}
use Rattle.std.proofs.lemmas.Grind.{common_steps}
use Rattle.std.proofs.lemmas.Bool.{false≢true}
use Rattle.crush_hash.proofs.Members.{partner_within}
use Rattle.crush_hash.proofs.Reaching.{first_is}
use Rattle.crush_hash.proofs.reached.Progress.write.Goals as goal

pub returns-then-not-self-clause-reached : goal.returns-then-not-self-clause-reached
returns-then-not-self-clause-reached c =
    let s = c.args.self.now in
    let r = c.requires.reached in
    let unwritten : s.written ≡ false = c.if-not-self.true in
    let known = r.known unwritten in
    let low : s.first < s.size = omega (arith, known.0, partner_within s.hashes s.size s.x 0 known.1) in
    let swaps : c.min-self.result ≡ min 1 (s.size - 1) = grind (arith, common_steps, c.min-self.ensures) in
    record {
      pairs = λ e. rw swaps (first_is s.hashes s.size s.x s.first (take c.begin-self.result c.begin-self.new.row) known.0 low c.begin-self.ensures.none c.begin-self.ensures.two);
      known = λ e. absurd (false≢true (sym e));
      len = c.begin-self.ensures.few;
      made = omega (arith, swaps);
      room = omega (arith, r.room, c.begin-self.ensures.room);
      two = omega (arith, r.two, c.begin-self.ensures.room);
      small = r.small;
    }
