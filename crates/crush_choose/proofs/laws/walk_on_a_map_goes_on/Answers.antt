use Rattle.std.proofs.Common.{◌<◌, length}
use Rattle.std.proofs.lemmas.List.{length-map}
use Rattle.crush_bucket.specs.Tables.{tables_of, typed_bucket}
use Rattle.crush_choose.proofs.Walking.{reach-step, reach-enough}
use Rattle.crush_choose.proofs.laws.walk_on_a_map_goes_on.Goals as goal

pub returns-clause-step : goal.returns-clause-step
returns-clause-step c = λ m x rr wanted bucket is below.
    let within : bucket < length (tables_of m).buckets = rw (length-map m.buckets typed_bucket) below in
    reach-step (tables_of m) x rr wanted bucket (c.buckets_of_a_map_pick_below.ensures m is) within

pub returns-clause-enough : goal.returns-clause-enough
returns-clause-enough c = λ m x rr wanted bucket n is below enough.
    let within : bucket < length (tables_of m).buckets = rw (length-map m.buckets typed_bucket) below in
    reach-enough (tables_of m) x rr wanted bucket n (c.buckets_of_a_map_pick_below.ensures m is) within enough
