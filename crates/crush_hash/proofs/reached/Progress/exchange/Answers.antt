use Rattle.std.proofs.Common.{◌≡◌, ◌<◌, take, length, refl, ap, arith, sym, ◌∙◌}
use Rattle.crush_hash.specs.Permutation.{after_swaps, differing, partner}
use Rattle.std.proofs.lemmas.Bool.{false≢true}
use Rattle.crush_hash.specs.Private.Pairs.{member_at}
use Rattle.crush_hash.specs.Private.Reached.{swaps_of}
use Rattle.crush_hash.proofs.Exchanging.{exchanged_list, exchanged_few, exchanged_member}
use Rattle.crush_hash.proofs.Reaching.{rising_of, neither, same_pairs}
use Rattle.crush_hash.proofs.reached.Progress.exchange.Goals as goal

pub member_at-requires : goal.member_at-requires
member_at-requires c =
    rising_of c.args.self.now.hashes c.args.self.now.size c.args.self.now.x (swaps_of c.args.self.now) (take c.args.self.now.len c.args.row.now) (c.requires.reached.pairs c.requires.written)

pub returns-then-other-n-clause-member : goal.returns-then-other-n-clause-member
returns-then-other-n-clause-member c =
    let s = c.args.self.now in
    let pairs = take s.len c.args.row.now in
    let has : pairs ≡ differing 0 (after_swaps s.hashes s.size s.x c.args.n) = rw c.requires.next (c.requires.reached.pairs c.requires.written) in
    let is : c.partner-other.result ≡ partner s.hashes s.size s.x c.args.n = cc in
    c.member_at.ensures ∙ ap (λ k. member_at pairs k) (sym c.if-other-n.true) ∙ exchanged_member s.hashes s.size s.x c.args.n c.partner-other.result pairs c.partner-other.ensures.above c.partner-other.ensures.within is has

pub exchange-member-requires-clause-rising : goal.exchange-member-requires-clause-rising
exchange-member-requires-clause-rising c =
    rising_of c.args.self.now.hashes c.args.self.now.size c.args.self.now.x (swaps_of c.args.self.now) (take c.args.self.now.len c.args.row.now) (c.requires.reached.pairs c.requires.written)

pub exchange-member-requires-clause-lower : goal.exchange-member-requires-clause-lower
exchange-member-requires-clause-lower c =
    let s = c.args.self.now in
    let pairs = take s.len c.args.row.now in
    let has : pairs ≡ differing 0 (after_swaps s.hashes s.size s.x c.args.n) = rw c.requires.next (c.requires.reached.pairs c.requires.written) in
    let less : c.args.n < c.partner-other.result = grind (arith, c.if-other-n.false, c.partner-other.ensures.above) in
    (neither s.hashes s.size s.x c.args.n c.partner-other.result pairs has less c.partner-other.ensures.within).0

pub exchange-member-requires-clause-higher : goal.exchange-member-requires-clause-higher
exchange-member-requires-clause-higher c =
    let s = c.args.self.now in
    let pairs = take s.len c.args.row.now in
    let has : pairs ≡ differing 0 (after_swaps s.hashes s.size s.x c.args.n) = rw c.requires.next (c.requires.reached.pairs c.requires.written) in
    let less : c.args.n < c.partner-other.result = grind (arith, c.if-other-n.false, c.partner-other.ensures.above) in
    (neither s.hashes s.size s.x c.args.n c.partner-other.result pairs has less c.partner-other.ensures.within).1

pub exchange-member-requires-clause-room : goal.exchange-member-requires-clause-room
exchange-member-requires-clause-room c =
    let s = c.args.self.now in
    let pairs = take s.len c.args.row.now in
    let has : pairs ≡ differing 0 (after_swaps s.hashes s.size s.x c.args.n) = rw c.requires.next (c.requires.reached.pairs c.requires.written) in
    let less : c.args.n < c.partner-other.result = grind (arith, c.if-other-n.false, c.partner-other.ensures.above) in
    let is : c.partner-other.result ≡ partner s.hashes s.size s.x c.args.n = cc in
    exchanged_few s.hashes s.size s.x c.args.n c.partner-other.result (length c.args.row.now) pairs less c.partner-other.ensures.within is has c.requires.reached.room

pub returns-clause-member : goal.returns-clause-member
returns-clause-member c =
    let s = c.args.self.now in
    let pairs = take s.len c.args.row.now in
    let has : pairs ≡ differing 0 (after_swaps s.hashes s.size s.x c.args.n) = rw c.requires.next (c.requires.reached.pairs c.requires.written) in
    let is : c.partner-other.result ≡ partner s.hashes s.size s.x c.args.n = cc in
    c.exchange-member.ensures.member ∙ exchanged_member s.hashes s.size s.x c.args.n c.partner-other.result pairs c.partner-other.ensures.above c.partner-other.ensures.within is has

pub returns-then-other-n-clause-reached : goal.returns-then-other-n-clause-reached
returns-then-other-n-clause-reached c =
    let s = c.args.self.now in
    let pairs = take s.len c.args.row.now in
    let has : pairs ≡ differing 0 (after_swaps s.hashes s.size s.x c.args.n) = rw c.requires.next (c.requires.reached.pairs c.requires.written) in
    let is : c.partner-other.result ≡ partner s.hashes s.size s.x c.args.n = cc in
    let r = c.requires.reached in
    record {
      pairs = λ e. rw (c.requires.written, c.hash-hash.ensures.same) (same_pairs s.hashes s.size s.x c.args.n c.partner-other.result pairs has is c.if-other-n.true c.requires.within);
      len = r.len;
      known = λ e. absurd (false≢true (sym e ∙ c.requires.written));
      made = rw c.requires.written (omega (arith, c.requires.within));
      room = r.room;
      two = r.two;
      small = r.small;
    }

pub returns-clause-reached : goal.returns-clause-reached
returns-clause-reached c =
    let s = c.args.self.now in
    let q = c.partner-other.result in
    let pairs = take s.len c.args.row.now in
    let has : pairs ≡ differing 0 (after_swaps s.hashes s.size s.x c.args.n) = rw c.requires.next (c.requires.reached.pairs c.requires.written) in
    let less : c.args.n < q = grind (arith, c.if-other-n.false, c.partner-other.ensures.above) in
    let is : q ≡ partner s.hashes s.size s.x c.args.n = cc in
    record {
      pairs = λ e. rw (c.requires.written, c.hash-hash.ensures.same) (c.exchange-member.ensures.pairs ∙ exchanged_list s.hashes s.size s.x c.args.n q pairs less c.partner-other.ensures.within is has);
      len = c.exchange-member.ensures.few;
      known = λ e. absurd (false≢true (sym e ∙ c.requires.written));
      made = rw c.requires.written (omega (arith, c.requires.within));
      room = omega (arith, c.requires.reached.room, c.exchange-member.ensures.size);
      two = omega (arith, c.requires.reached.two, c.exchange-member.ensures.size);
      small = c.requires.reached.small;
    }

pub returns-then-other-n-clause-remembered : goal.returns-then-other-n-clause-remembered
returns-then-other-n-clause-remembered c = rw (c.requires.written, c.hash-hash.ensures.same) refl

pub returns-clause-remembered : goal.returns-clause-remembered
returns-clause-remembered c = rw (c.requires.written, c.hash-hash.ensures.same) refl
