use Rattle.std.proofs.Common.{◌≡◌, ◌≤◌, slice_index_or, inl, inr, subst, ◌∙◌, arith, get_or-set_same, get_or-set_other}
use Rattle.std.proofs.Math.Nat.{eq-or-lt_of_le}
use Rattle.std.proofs.lemmas.List.{get_or_default, length-set}
use Rattle.crush_bucket.specs.Private.Asked.{IsAsked}
use Rattle.crush_hash.specs.Permutation.{no_id}
use Rattle.crush_bucket.proofs.uniform_lanes.asked.Goals as goal

pub loop-lane-preserved : goal.loop-lane-preserved
loop-lane-preserved c =
    let l = c.loop-lane in
    let buckets = c.args.buckets.now in
    let bucket = c.index-buckets-lane.result in
    let own : IsAsked (slice_index_or buckets l.lane bucket).now c.args.place c.args.r c.id.result c.size.result = record {
      uniform = c.in_ok-asked.ensures.uniform;
      of_id = c.id.ensures;
      of_size = c.size.ensures.value;
      at = omega (arith, c.in_ok-asked.ensures.at);
      within = omega (arith, c.in_ok-asked.ensures.within, c.size.ensures.value);
    } in
    record {
      ids = length-set l.ids l.lane c.id.result ∙ l.invariant.ids;
      sizes = length-set l.sizes l.lane c.size.result ∙ l.invariant.sizes;
      asked = λ n d low. (
          let at : slice_index_or buckets l.lane bucket ≡ slice_index_or buckets l.lane d = get_or_default buckets l.lane bucket d (omega arith) in
          let here : IsAsked (slice_index_or buckets l.lane d).now c.args.place c.args.r c.id.result c.size.result = subst (λ b. IsAsked b.now c.args.place c.args.r c.id.result c.size.result) at own in
          let le : n ≤ l.lane = omega arith in elim (eq-or-lt_of_le le) [
            | inl same ↦ rw (same, get_or-set_same l.ids l.lane c.id.result no_id (omega (arith, l.invariant.ids)), get_or-set_same l.sizes l.lane c.size.result 0 (omega (arith, l.invariant.sizes))) here
            | inr lower ↦ rw (get_or-set_other l.ids l.lane n c.id.result no_id (omega arith), get_or-set_other l.sizes l.lane n c.size.result 0 (omega arith)) (l.invariant.asked n d lower)
          ]);
    }
