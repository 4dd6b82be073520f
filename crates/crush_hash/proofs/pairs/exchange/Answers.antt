use Rattle.std.proofs.Common.{◌≡◌, ℕ, ◌+◌, ◌-◌, ◌≤◌, length, take, slice_index_or, slice_set, ap, arith}
use Rattle.std.proofs.lemmas.List.{length-take-le, length-set}
use Rattle.crush_hash.specs.Private.Pairs.{no_pair, exchanged}
use Rattle.crush_hash.proofs.Differing.{pair_below}
use Rattle.crush_hash.proofs.Exchanging.{exchange_of, exchanged_size, exchanged_row, shift_of, shift_few, shift_room}
use Rattle.crush_hash.proofs.pairs.exchange.Goals as goal

pub search-to-requires-clause-lower : goal.search-to-requires-clause-lower
search-to-requires-clause-lower c = λ some. (
    let pairs = take c.args.len c.args.row.now in
    let low = pair_below pairs c.args.low (omega (arith, c.index_of-at.ensures.value, some)) in
    let e = ap (λ (n : ℕ). (slice_index_or pairs (n - 1) no_pair).0) c.index_of-at.ensures.value in
    omega (arith, low, e, c.requires.above))

pub move_right-requires : goal.move_right-requires
move_right-requires c =
    let row = c.args.row.now in
    let pairs = take c.args.len row in
    let at = c.index_of-at.result in
    let to = c.search-to.result.0 in
    let own = c.member_by-own.result in
    let member = c.search-to.result.1 in
    let up = c.from-up.result in
    let more = c.from-more.result in
    let is = exchange_of pairs at to c.args.low c.args.high own member up more c.is_there.result c.search-to.result.2 c.index_of-at.ensures.value c.search-to.ensures.value c.search-to.ensures.above c.search-to.ensures.within c.requires.above
    c.member_by-own.ensures c.search-to.ensures.member c.requires.lower c.requires.higher c.is_there.ensures c.search-to.ensures.there (λ e. rw e at c.from-up.ensures) (λ e. rw e at c.from-up.ensures) (λ e. rw e at c.from-more.ensures) (λ e. rw e at c.from-more.ensures) in
    let size = exchanged_size pairs at to c.args.low c.args.high own member up more is in
    let len = length-take-le c.args.len row c.requires.few in
    let new : length (exchanged pairs c.args.low c.args.high) ≡ c.args.len + up + more = rw (← c.member_by-own.ensures, ← c.search-to.ensures.member) (omega (arith, size, len)) in
    omega (arith, new, c.requires.room)

pub bounds-row-to : goal.bounds-row-to
bounds-row-to c =
    let row = c.args.row.now in
    let pairs = take c.args.len row in
    let at = c.index_of-at.result in
    let to = c.search-to.result.0 in
    let own = c.member_by-own.result in
    let member = c.search-to.result.1 in
    let up = c.from-up.result in
    let more = c.from-more.result in
    let is = exchange_of pairs at to c.args.low c.args.high own member up more c.is_there.result c.search-to.result.2 c.index_of-at.ensures.value c.search-to.ensures.value c.search-to.ensures.above c.search-to.ensures.within c.requires.above
    c.member_by-own.ensures c.search-to.ensures.member c.requires.lower c.requires.higher c.is_there.ensures c.search-to.ensures.there (λ e. rw e at c.from-up.ensures) (λ e. rw e at c.from-up.ensures) (λ e. rw e at c.from-more.ensures) (λ e. rw e at c.from-more.ensures) in
    let size = exchanged_size pairs at to c.args.low c.args.high own member up more is in
    let len = length-take-le c.args.len row c.requires.few in
    let new : length (exchanged pairs c.args.low c.args.high) ≡ c.args.len + up + more = rw (← c.member_by-own.ensures, ← c.search-to.ensures.member) (omega (arith, size, len)) in
    let moves = shift_of pairs to c.args.high more c.search-to.result.2 c.search-to.ensures.there (λ e. rw e at c.from-more.ensures) (λ e. rw e at c.from-more.ensures) in
    let room = shift_room pairs to c.args.high more c.search-to.ensures.within moves in
    omega (arith, room, len, new, c.requires.room, c.move_right.ensures.size)

pub returns-clause-few : goal.returns-clause-few
returns-clause-few c =
    let row = c.args.row.now in
    let pairs = take c.args.len row in
    let at = c.index_of-at.result in
    let to = c.search-to.result.0 in
    let own = c.member_by-own.result in
    let member = c.search-to.result.1 in
    let up = c.from-up.result in
    let more = c.from-more.result in
    let is = exchange_of pairs at to c.args.low c.args.high own member up more c.is_there.result c.search-to.result.2 c.index_of-at.ensures.value c.search-to.ensures.value c.search-to.ensures.above c.search-to.ensures.within c.requires.above
    c.member_by-own.ensures c.search-to.ensures.member c.requires.lower c.requires.higher c.is_there.ensures c.search-to.ensures.there (λ e. rw e at c.from-up.ensures) (λ e. rw e at c.from-up.ensures) (λ e. rw e at c.from-more.ensures) (λ e. rw e at c.from-more.ensures) in
    let size = exchanged_size pairs at to c.args.low c.args.high own member up more is in
    let len = length-take-le c.args.len row c.requires.few in
    let new : length (exchanged pairs c.args.low c.args.high) ≡ c.args.len + up + more = rw (← c.member_by-own.ensures, ← c.search-to.ensures.member) (omega (arith, size, len)) in
    let once = slice_set c.move_right.new.row (to + up) (c.args.high, own) in
    let one = length-set c.move_right.new.row (to + up) (c.args.high, own) in
    let two = length-set once at (c.args.low, member) in
    omega (arith, one, two, c.move_right.ensures.size, new, c.requires.room)

pub returns-clause-pairs : goal.returns-clause-pairs
returns-clause-pairs c =
    let row = c.args.row.now in
    let pairs = take c.args.len row in
    let at = c.index_of-at.result in
    let to = c.search-to.result.0 in
    let own = c.member_by-own.result in
    let member = c.search-to.result.1 in
    let up = c.from-up.result in
    let more = c.from-more.result in
    let is = exchange_of pairs at to c.args.low c.args.high own member up more c.is_there.result c.search-to.result.2 c.index_of-at.ensures.value c.search-to.ensures.value c.search-to.ensures.above c.search-to.ensures.within c.requires.above
    c.member_by-own.ensures c.search-to.ensures.member c.requires.lower c.requires.higher c.is_there.ensures c.search-to.ensures.there (λ e. rw e at c.from-up.ensures) (λ e. rw e at c.from-up.ensures) (λ e. rw e at c.from-more.ensures) (λ e. rw e at c.from-more.ensures) in
    let size = exchanged_size pairs at to c.args.low c.args.high own member up more is in
    let len = length-take-le c.args.len row c.requires.few in
    let new : length (exchanged pairs c.args.low c.args.high) ≡ c.args.len + up + more = rw (← c.member_by-own.ensures, ← c.search-to.ensures.member) (omega (arith, size, len)) in
    let up_few : up ≤ 1 = shift_few c.is_there.result up (λ e. rw e at c.from-up.ensures) (λ e. rw e at c.from-up.ensures) in
    let more_few : more ≤ 1 = shift_few c.search-to.result.2 more (λ e. rw e at c.from-more.ensures) (λ e. rw e at c.from-more.ensures) in
    rw (← c.member_by-own.ensures, ← c.search-to.ensures.member) (exchanged_row row c.move_right.new.row c.args.len at to c.args.low c.args.high own member up more c.requires.few c.search-to.ensures.above (omega (arith, c.search-to.ensures.within, len)) up_few more_few (omega (arith, new, c.requires.room)) c.move_right.ensures is)
