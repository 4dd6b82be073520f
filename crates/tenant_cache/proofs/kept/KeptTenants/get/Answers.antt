use Rattle.std.proofs.Common.{◌≡◌, ◌<◌, Some, option_map, ap, sym, subst, ◌∙◌}
use Rattle.tenant_cache.specs.Kept.{kept_at}
use Rattle.tenant_state.specs.Size.{size}
use Rattle.tenant_cache.proofs.LengthFacts.{length_promoted}
use Rattle.tenant_cache.proofs.NameFacts.{seen_promoted, same_promoted}
use Rattle.tenant_cache.proofs.SizeFacts.{promoted_sum}
use Rattle.tenant_cache.proofs.kept.KeptTenants.get.Goals as goal

pub invariant_of-self : goal.invariant_of-self
invariant_of-self g c = (record {
  bytes = c.self.invariant.bytes ∙ sym (promoted_sum (λ r. size r.value.inventory) c.self.inside.by_name c.promote.new.self _ c.promote.ensures.entries);
  is_bounded = λ more. c.self.invariant.is_bounded (subst (λ n. 1 < n) (length_promoted c.self.inside.by_name c.promote.new.self _ c.promote.ensures.entries) more);
  small = c.self.invariant.small;
})

pub returns-in_default-clause-found : goal.returns-in_default-clause-found
returns-in_default-clause-found g c = ap (option_map (λ r. r.value)) c.in_default.ensures ∙ same_promoted (λ r. r.value) c.self.inside.by_name c.promote.new.self c.args.name.now c.promote.ensures.entries ∙ ap (λ k. kept_at k c.args.name.now) c.self.view_is

pub returns-in_default-clause-same : goal.returns-in_default-clause-same
returns-in_default-clause-same g c u i found = subst (λ k. kept_at k u ≡ Some i) c.self.view_is (seen_promoted (λ r. r.value) c.self.inside.by_name c.promote.new.self c.args.name.now c.len-count.ensures.valid.0 c.promote.ensures.entries u i found)

pub invariant_of-self-in_err-clone : goal.invariant_of-self-in_err-clone
invariant_of-self-in_err-clone g c = (record {
  bytes = c.self.invariant.bytes ∙ sym (promoted_sum (λ r. size r.value.inventory) c.self.inside.by_name c.promote.new.self _ c.promote.ensures.entries);
  is_bounded = λ more. c.self.invariant.is_bounded (subst (λ n. 1 < n) (length_promoted c.self.inside.by_name c.promote.new.self _ c.promote.ensures.entries) more);
  small = c.self.invariant.small;
})

pub returns-in_err-clone-clause-same : goal.returns-in_err-clone-clause-same
returns-in_err-clone-clause-same g c u i found = subst (λ k. kept_at k u ≡ Some i) c.self.view_is (seen_promoted (λ r. r.value) c.self.inside.by_name c.promote.new.self c.args.name.now c.len-count.ensures.valid.0 c.promote.ensures.entries u i found)

pub invariant_of-self-2 : goal.invariant_of-self-2
invariant_of-self-2 g c = (record {
  bytes = c.self.invariant.bytes ∙ sym (promoted_sum (λ r. size r.value.inventory) c.self.inside.by_name c.promote.new.self _ c.promote.ensures.entries);
  is_bounded = λ more. c.self.invariant.is_bounded (subst (λ n. 1 < n) (length_promoted c.self.inside.by_name c.promote.new.self _ c.promote.ensures.entries) more);
  small = c.self.invariant.small;
})

pub returns-clause-found : goal.returns-clause-found
returns-clause-found g c = ap Some c.in_ok-clone.ensures.cases ∙ ap (option_map (λ r. r.value)) c.in-Some.ensures ∙ same_promoted (λ r. r.value) c.self.inside.by_name c.promote.new.self c.args.name.now c.promote.ensures.entries ∙ ap (λ k. kept_at k c.args.name.now) c.self.view_is

pub returns-clause-same : goal.returns-clause-same
returns-clause-same g c u i found = subst (λ k. kept_at k u ≡ Some i) c.self.view_is (seen_promoted (λ r. r.value) c.self.inside.by_name c.promote.new.self c.args.name.now c.len-count.ensures.valid.0 c.promote.ensures.entries u i found)
