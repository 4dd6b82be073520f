use Rattle.crush_bucket.proofs.Offers.{place_is}
use Rattle.crush_bucket.proofs.straw2.straw2_place.Goals as goal

pub returns-clause-value : goal.returns-clause-value
returns-clause-value c = place_is c.args.items.now c.args.x c.args.r c.offer_rest.new.best c.requires.some c.offer_rest.ensures
