use Rattle.std.proofs.Common.{◌≡◌, true, false, None, is_some, sym, ◌∙◌, slice_index_or, length, arith}
use Rattle.crush_report.proofs.Counting.{after_first, after_len, all_counted, counted, entry_counted, none_counted, room_less}
use Rattle.crush_report.specs.Private.Tallies.{is_again}
use Rattle.crush_report.proofs.usage_counts.Tally.add.Goals as goal

pub loop-rest-preserved-then-is_some : goal.loop-rest-preserved-then-is_some
loop-rest-preserved-then-is_some c =
    let rest = c.loop-rest.rest.now in
    let slot = slice_index_or rest 0 None in
    let was = c.loop-rest.self in
    let now = c.count.new.self in
    let long = c.in-len1-up.len_at_least in
    let some : is_some slot ≡ true = sym c.is_some.ensures ∙ c.if-is_some.true in
    let again : c.is_again.result ≡ is_again slot (after_first rest) = c.is_again.ensures in
    let one = c.count.ensures in
    let groups = rw again at one.groups in
    let len = after_len rest long in
    record {
      counting = entry_counted c.args.up.now c.loop-rest.first c.args.self.now was now rest long some one.lens groups one.entries one.primaries one.filled c.loop-rest.invariant.counting;
      groups = room_less was.groups now.groups (length (after_first rest)) _ (rw len at c.loop-rest.invariant.groups) one.lens.groups groups;
      entries = room_less was.entries now.entries (length (after_first rest)) _ (rw len at c.loop-rest.invariant.entries) one.lens.entries one.entries;
      primaries = room_less was.primaries now.primaries (length (after_first rest)) _ (rw len at c.loop-rest.invariant.primaries) one.lens.primaries one.primaries;
      filled = omega (arith, one.filled, len, c.loop-rest.invariant.filled);
    }

pub loop-rest-preserved : goal.loop-rest-preserved
loop-rest-preserved c =
    let rest = c.loop-rest.rest.now in
    let long = c.in-len1-up.len_at_least in
    let none : is_some (slice_index_or rest 0 None) ≡ false = sym c.is_some.ensures ∙ c.if-is_some.false in
    let len = after_len rest long in
    record {
      counting = none_counted c.args.up.now c.loop-rest.first c.args.self.now c.loop-rest.self rest long none c.loop-rest.invariant.counting;
      groups = λ id. omega (arith, len, c.loop-rest.invariant.groups id);
      entries = λ id. omega (arith, len, c.loop-rest.invariant.entries id);
      primaries = λ id. omega (arith, len, c.loop-rest.invariant.primaries id);
      filled = omega (arith, len, c.loop-rest.invariant.filled);
    }

pub returns : goal.returns
returns c =
    let none : length c.loop-rest.rest.now ≡ 0 = omega arith in
    counted c.args.up.now c.args.self.now c.loop-rest.self (all_counted c.args.up.now c.loop-rest.first c.args.self.now c.loop-rest.self c.loop-rest.rest.now none c.loop-rest.invariant.counting)
