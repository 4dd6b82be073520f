use Rattle.std.proofs.Common.{◌≡◌, ◌∙◌, ◌+◌, ◌-◌, ◌∷◌, drop, ap, arith, refl, sym, to_z, of_z, w32}
use Rattle.std.proofs.lemmas.Int.{to_z-of_z}
use Rattle.std.proofs.lemmas.List.{drop_more}
use Rattle.std.proofs.Math.Seq.{drop-length}
use Rattle.crush_writing.specs.Canonical.{bucket_name}
use Rattle.crush_writing.proofs.Listed.{bucket_listed}
use Rattle.crush_writing.proofs.lookup.bucket_names.Goals as goal

pub loop-place-init : goal.loop-place-init
unfolding bucket_name
loop-place-init c = λ id. rw (c.new-names.ensures.empty, drop-length c.args.buckets.now) refl

pub loop-place-preserved : goal.loop-place-preserved
loop-place-preserved c =
    let all = c.args.buckets.now in
    let p = c.loop-place.place - 1 in
    let here = c.index-buckets-place.result in
    let one_more : p + 1 ≡ c.loop-place.place = omega arith in
    let next : drop p all ≡ here ∷ drop c.loop-place.place all =
    drop_more all p here (omega arith) ∙ (ap (λ x. x ∷ drop (p + 1) all) (sym c.index-buckets-place.is) ∙ ap (λ n. here ∷ drop n all) one_more) in
    let number : to_z w32 (of_z w32 here.id.0) ≡ here.id.0 = grind (arith, to_z-of_z) in
    let updates = c.in_ok-insert.ensures.updates in
    λ id. bucket_listed c.loop-place.names c.insert.new.self here c.as_str.result (drop c.loop-place.place all) c.as_str.ensures (rw number at updates) c.loop-place.invariant id
    ∙ ap (λ xs. bucket_name xs id) (sym next)
