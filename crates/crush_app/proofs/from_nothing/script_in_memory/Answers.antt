-- The store in memory is honest and has no tenant at first, so each premise of `script_run` holds.
use Rattle.std.proofs.Common.{◌≡◌, ◌∙◌, None, subst, sym}
use Rattle.std.specs.BTreeMap.{get_by_text}
use Rattle.crush_app.proofs.FromNothing.{ends_from_nothing}
use Rattle.crush_app.proofs.from_nothing.script_in_memory.Goals as goal

pub returns : goal.returns
returns g c =
    let same = sym (c.in_ok-service.ensures ∙ c.in_ok-store.ensures) in
    let new = c.script_run.new.service in
    record {
      ends = ends_from_nothing _ _ _ _ _ _ _ _ _ _ (c.memory_stores_are_honest.ensures.honest new) (λ name. subst (λ store. get_by_text store.states name ≡ None) same (c.new.ensures name)) c.script_run.result
          (c.memory_stores_are_honest.ensures.works new) c.script_run.ensures.latch c.script_run.ensures.ends;
    }
