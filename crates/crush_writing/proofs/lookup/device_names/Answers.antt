use Rattle.std.proofs.Common.{◌≡◌, ◌∙◌, ◌+◌, ◌-◌, ◌∷◌, drop, ap, arith, refl, sym}
use Rattle.std.proofs.lemmas.List.{drop_more}
use Rattle.std.proofs.Math.Seq.{drop-length}
use Rattle.crush_writing.specs.Canonical.{device_name}
use Rattle.crush_writing.proofs.Listed.{device_listed}
use Rattle.crush_writing.proofs.lookup.device_names.Goals as goal

pub loop-place-init : goal.loop-place-init
unfolding device_name
loop-place-init c = λ id. rw (c.new-names.ensures.empty, drop-length c.args.devices.now) refl

pub loop-place-preserved : goal.loop-place-preserved
loop-place-preserved c =
    let all = c.args.devices.now in
    let p = c.loop-place.place - 1 in
    let here = c.index-devices-place.result in
    let one_more : p + 1 ≡ c.loop-place.place = omega arith in
    let next : drop p all ≡ here ∷ drop c.loop-place.place all =
    drop_more all p here (omega arith) ∙ (ap (λ x. x ∷ drop (p + 1) all) (sym c.index-devices-place.is) ∙ ap (λ n. here ∷ drop n all) one_more) in
    λ id. device_listed c.loop-place.names c.insert.new.self here c.as_str.result (drop c.loop-place.place all) c.as_str.ensures c.in_ok-insert.ensures.updates c.loop-place.invariant id
    ∙ ap (λ xs. device_name xs id) (sym next)
