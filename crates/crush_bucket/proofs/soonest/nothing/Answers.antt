use Rattle.std.proofs.Common.{◌≡◌, refl, arith}
use Rattle.crush_bucket.specs.Kinds.{never}
use Rattle.crush_bucket.specs.Private.Soonest.{quotient}
use Rattle.crush_bucket.proofs.Arrivals.{time_none}
use Rattle.crush_bucket.proofs.Quotients.{quotient_none}
use Rattle.crush_bucket.proofs.soonest.nothing.Goals as goal

pub returns-clause-time : goal.returns-clause-time
returns-clause-time c = quotient_none 0 0 refl

pub returns-clause-has_limits : goal.returns-clause-has_limits
returns-clause-has_limits c =
    let when : quotient 0 0 ≡ never = quotient_none 0 0 refl in
    record {
      limits = λ draw weight small low light. (let h = time_none draw weight (omega arith) in omega (arith, h, when));
      low = omega arith;
    }
