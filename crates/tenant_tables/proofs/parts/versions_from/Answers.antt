use Rattle.std.proofs.Common.{◌≡◌, ◌++◌, [], ◌∷◌, ◌+◌, length, map, suc, arith, sym, ap, subst, ◌∙◌}
use Rattle.std.specs.List.{All}
use Rattle.std.specs.Vec.Iter.{into_iter_items}
use Rattle.std.proofs.lemmas.List.{map_push, length-map}
use Rattle.std.proofs.lemmas.List.Elements.{All-push}
use Rattle.crush_map.specs.Map.{IsMap}
use Rattle.table_schema.specs.Found.{version_values}
use Rattle.tenant_tables.specs.Rows.{rows_of_versions}
use Rattle.tenant_tables.proofs.Reading.{no_versions, more, push_front, longer}
use Rattle.tenant_tables.proofs.parts.versions_from.Goals as goal

-- one more version
pub loop-row-preserved : goal.loop-row-preserved
loop-row-preserved c =
    let it = rw c.in-Some-2.is at c.in_ok-version.ensures.some in
    let maps = map (λ v. v.value) c.loop-row.versions.items in
    let grown : map (λ v. v.value) c.push.new.self.items ≡ maps ++ c.in-Some-2.version.value ∷ [] =
    ap (map (λ v. v.value)) c.in_ok-push-in-Some-2.ensures.items ∙ map_push (λ v. v.value) c.loop-row.versions.items c.in-Some-2.version in
    let long : length maps ≡ length c.loop-row.versions.items = length-map c.loop-row.versions.items (λ v. v.value) in record {
      all = push_front c.loop-row.yielded c.in-Some.row (into_iter_items c.next.new.self) ∙ (ap (λ l. c.loop-row.yielded ++ l) (sym c.in-Some.ensures.steps.0) ∙ c.loop-row.invariant.all);
      long = omega (arith, c.in-Some.ensures.steps.1, c.loop-row.invariant.long, ap length c.in-Some.ensures.steps.0);
      count = longer c.loop-row.yielded c.in-Some.row ∙ (ap suc c.loop-row.invariant.count ∙ sym (ap length c.in_ok-push-in-Some-2.ensures.items ∙ longer c.loop-row.versions.items c.in-Some-2.version));
      read = more c.loop-row.yielded c.in-Some.row maps _ c.in-Some-2.version.value _ c.loop-row.invariant.read it.1 (omega (arith, c.len-in-loop-row.ensures, long)) grown;
      valid = subst (All IsMap) (sym grown) (All-push IsMap maps c.in-Some-2.version.value c.loop-row.invariant.valid it.0);
    }

-- a row is that of no version
pub returns-in-None-2-clause-none : goal.returns-in-None-2-clause-none
returns-in-None-2-clause-none c = λ _ maps valid same.
    let all = ap (λ l. c.loop-row.yielded ++ l) (sym c.in-Some.ensures.steps.0) ∙ c.loop-row.invariant.all in
    no_versions c.loop-row.yielded c.in-Some.row (into_iter_items c.next.new.self) 1 (c.len-in-loop-row.result + 1)
    (omega (arith, c.len-in-loop-row.ensures, c.loop-row.invariant.count))
    (c.in_ok-version.ensures.none c.in-None-2.is) maps valid
    (subst (λ l. map version_values l ≡ rows_of_versions 1 maps) (sym all) same)
