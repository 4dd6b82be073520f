use Rattle.std.proofs.Common.{◌≡◌, ◌≤◌, true, sym, ◌∙◌}
use Rattle.crush_pool.specs.Exceptions.{are_pairs}
use Rattle.crush_pool.specs.declared.limits.TheConstants.{GROUP_LIMIT}
use Rattle.crush_pool.proofs.Pairs.{pairs_more}
use Rattle.crush_pool.proofs.Ranges.{pool_groups}
use Rattle.crush_pool.proofs.exceptions.Exceptions.new.Goals as goal

pub places_of-requires : goal.places_of-requires
places_of-requires c =
    let p = c.args.pool.now in
    let few : p.pg_num ≤ GROUP_LIMIT = pool_groups p c.parts.ensures.valid in
    let valid : are_pairs p.pg_num c.args.pairs.items ≡ true = rw (c.parts.ensures.same, c.as_slice.ensures.value) at (sym c.are_pairs.ensures ∙ c.if-not-are_pairs.false) in
    rw c.as_slice-2.ensures.value (pairs_more p.pg_num GROUP_LIMIT c.args.pairs.items few valid)

pub invariant_of-result : goal.invariant_of-result
invariant_of-result c =
    let p = c.args.pool.now in
    let few : p.pg_num ≤ GROUP_LIMIT = pool_groups p c.parts.ensures.valid in
    let valid : are_pairs p.pg_num c.args.pairs.items ≡ true = rw (c.parts.ensures.same, c.as_slice.ensures.value) at (sym c.are_pairs.ensures ∙ c.if-not-are_pairs.false) in
    let places = c.in_ok-first.ensures {u = tt} in
    record {
      valid = pairs_more p.pg_num GROUP_LIMIT c.args.pairs.items few valid;
      first = rw c.as_slice-2.ensures.value at places.first;
      next = rw c.as_slice-2.ensures.value at places.next;
      each = rw c.as_slice-2.ensures.value at places.each;
    }
