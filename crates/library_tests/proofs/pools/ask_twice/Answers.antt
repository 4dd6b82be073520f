-- The content has what the placer has.
use Rattle.std.proofs.Common.{◌≡◌, ◌∙◌, Option, Some, None, ap, option_map, sym}
use Rattle.crush_pool.specs.Contents.{Content, content_of}
use Rattle.crush_map.specs.declared.draft.Rule.{Rule}
use Rattle.crush_pool.specs.Placers.{PoolOnMap}
use Rattle.crush_text.specs.crush_writing.specs.Canonical.{canonical}
use Rattle.library_tests.proofs.pools.ask_twice.Goals as goal

-- a placer that is there is that of its parts
same_placer : (rule : Option Rule) (p q : PoolOnMap) → option_map (λ (r : Rule). p) rule ≡ Some q → p ≡ q
same_placer (Some r) p q is = cc
same_placer None p q is = cc

pub is_twice_on_0-requires : goal.is_twice_on_0-requires
is_twice_on_0-requires g c =
    let p : PoolOnMap = record { map = c.args.map.now; states = c.as_slice-list.result.now; pool = c.deref-2.result.now; pairs = c.exceptions.result.now } in
    let placer : p ≡ c.in-Some.placer = same_placer _ p c.in-Some.placer (sym c.new.ensures.value ∙ c.in-Some.is) in
    let states = sym c.as_slice-list.ensures in
    let pool = sym c.deref-2.ensures in
    let pairs = sym c.exceptions.ensures in
    let made : Content = record { text = canonical c.args.map.now; states = c.args.states.now; pool = c.args.pool.now.value; pairs = c.args.exceptions.now } in
    let same : made ≡ content_of p = λ i. record { text = canonical c.args.map.now; states = states i; pool = pool i; pairs = pairs i } in
    c.in_ok-content.ensures ∙ (same ∙ ap content_of placer)
