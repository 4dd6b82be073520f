use Rattle.std.proofs.Common.{◌≡◌, nat_lt, true, false, refl, arith, sym, ◌∙◌}
use Rattle.crush_bucket.specs.Kinds.{time_of}
use Rattle.crush_bucket.specs.Private.Soonest.{quotient, time}
use Rattle.crush_bucket.proofs.Offers.{better, no_better}
use Rattle.crush_bucket.proofs.Quotients.{time_is, is_less, is_not_less}
use Rattle.crush_bucket.proofs.soonest.offer.Goals as goal

pub returns-then-is_sooner : goal.returns-then-is_sooner
returns-then-is_sooner c =
    let same : quotient c.delay-delay.result c.args.weight ≡ time_of c.args.draw c.args.weight = rw c.delay-delay.ensures.value (sym (time_is c.args.draw c.args.weight)) in
    let t : nat_lt (quotient c.delay-delay.result c.args.weight) (time c.args.best.now) ≡ true = sym c.is_sooner.ensures ∙ c.if-is_sooner.true in
    let less = is_less _ _ t in
    better c.args.best.now _ c.args.place c.args.draw c.args.weight c.requires.small (omega (arith, less, same)) (rw (c.min.ensures, c.delay-delay.ensures.value) refl)

pub returns-else-is_sooner : goal.returns-else-is_sooner
returns-else-is_sooner c =
    let same : quotient c.delay-delay.result c.args.weight ≡ time_of c.args.draw c.args.weight = rw c.delay-delay.ensures.value (sym (time_is c.args.draw c.args.weight)) in
    let t : nat_lt (quotient c.delay-delay.result c.args.weight) (time c.args.best.now) ≡ false = sym c.is_sooner.ensures ∙ c.if-is_sooner.false in
    let more = is_not_less _ _ t in
    no_better c.args.best.now c.args.place c.args.draw c.args.weight c.requires.has_limits (omega (arith, more, same))
