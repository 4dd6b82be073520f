use Rattle.std.proofs.Common.{◌≡◌, ◌++◌, ◌∷◌, [], IfOk, map, List, ap, subst, ◌∙◌}
use Rattle.std.proofs.lemmas.List.{map-append}
use Rattle.crush_map.specs.Map.{Map}
use Rattle.tenant_state.proofs.Keeping.{same_shared}
use Rattle.tenant_state.proofs.versions.Versions.with.Goals as goal

-- the copy has the versions of before, and one more is pushed
pub returns : goal.returns
returns c =
    let before : map (λ v. v.value) c.in_ok-list.list.items ≡ c.args.self.now =
    same_shared c.as_ref-before.result.now.items c.in_ok-list.list.items c.in_ok-list.ensures.cases.0 ∙ (ap (λ l. map (λ v. v.value) l.items) c.as_ref-before.ensures ∙ c.self.view_is) in
    let whole : map (λ v. v.value) c.push.new.self.items ≡ c.args.self.now ++ c.args.version.now.value ∷ [] =
    ap (map (λ v. v.value)) c.in_ok-push.ensures.items ∙ (map-append (λ v. v.value) c.in_ok-list.list.items (c.in_ok-clone.field-0 ∷ [])
    ∙ (ap (λ (ms : List Map). ms ++ c.in_ok-clone.field-0.value ∷ []) before ∙ ap (λ (m : Map). c.args.self.now ++ m ∷ []) c.in_ok-clone.ensures.cases)) in
    subst (λ (ms : List Map). IfOk c.of.result (λ versions. versions ≡ ms)) whole c.of.ensures
