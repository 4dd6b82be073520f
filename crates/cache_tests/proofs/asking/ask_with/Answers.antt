use Rattle.std.proofs.Common.{◌≡◌, ◌∙◌, ap, sym}
use Rattle.crush_pool.specs.Contents.{Content, content_of}
use Rattle.crush_pool.specs.Placers.{PoolOnMap}
use Rattle.crush_text.specs.crush_writing.specs.Canonical.{canonical}
use Rattle.cache_tests.proofs.Placers.{same_placer}
use Rattle.cache_tests.proofs.asking.ask_with.Goals as goal

-- the content has what the placer has
pub answer_of-requires : goal.answer_of-requires
answer_of-requires g c =
    let p : PoolOnMap = record { map = c.args.map.now; states = c.as_slice.result.now; pool = c.deref.result.now; pairs = c.exceptions.result.now } in
    let placer : p ≡ c.in-Some.placer = same_placer _ p c.in-Some.placer (sym c.new.ensures.value ∙ c.in-Some.is) in
    let states = sym c.as_slice.ensures in
    let pool = sym c.deref.ensures in
    let pairs = sym c.exceptions.ensures in
    let made : Content = record { text = canonical c.args.map.now; states = c.args.given.now.states; pool = c.args.pool.now.value; pairs = c.args.exceptions.now } in
    let same : made ≡ content_of p = λ i. record { text = canonical c.args.map.now; states = states i; pool = pool i; pairs = pairs i } in
    c.in_ok-content.ensures ∙ (same ∙ ap content_of placer)
