use Rattle.std.proofs.Common.{rules, ◌++◌, [], ◌∷◌, ap, ◌∙◌, arith, take_all, pos, get_or}
use Rattle.std.proofs.lemmas.Int.{to_z-of_z}
use mir.Val.{SFits}
use mir.Syntax.{w64}
use Rattle.tenant_tables.specs.declared.write.Write.TheVariants.{Raise, AddReceipt}
use Rattle.table_schema.specs.declared.values.StateRow.{StateRow}
use Rattle.tenant_tables.specs.Run.{state_writes}
use Rattle.tenant_tables.proofs.RunFacts.{written_more}
use Rattle.tenant_tables.proofs.commit.writes_for.Goals as goal

pub loop-state-init : goal.loop-state-init
loop-state-init c =
    let a = c.args.accepted.now in
    let fits-id : SFits w64 c.args.accepted.now.id = search rules in
    let fits-epoch : SFits w64 c.args.accepted.now.epoch = search rules in
    record { written = (simp to_z-of_z at c.in_ok-push.ensures.items) ∙ ap (λ l. l ++ Raise a.id a.epoch ∷ []) c.new-writes.ensures.items }

pub loop-state-preserved : goal.loop-state-preserved
loop-state-preserved c =
    let none : StateRow = record { device = pos 0; reweight = pos 0; up = pos 0 } in
    let state : StateRow = get_or c.args.states.now c.loop-state.state-index none in
    let fits : SFits w64 state.device = search rules in
    let fits-id : SFits w64 c.args.accepted.now.id = search rules in
    record {
      written = written_more _ _ c.args.states.now c.loop-state.state-index none c.loop-state.writes.items c.push-in-loop-state.new.self.items c.push-in-loop-state-2.new.self.items (omega arith) c.loop-state.invariant.written
          (simp to_z-of_z at c.in_ok-push-2.ensures.items) (simp to_z-of_z at c.in_ok-push-3.ensures.items);
    }

pub returns : goal.returns
returns c =
    let a = c.args.accepted.now in
    let fits-id : SFits w64 c.args.accepted.now.id = search rules in
    let all = take_all c.loop-state.state-index c.args.states.now (omega arith) in
    (simp to_z-of_z at c.in_ok-push-4.ensures.items) ∙ ap (λ l. l ++ AddReceipt a.id a.receipt ∷ [])
    (c.loop-state.invariant.written ∙ ap (λ l. Raise a.id a.epoch ∷ state_writes a.id l) all)
