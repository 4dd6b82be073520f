use Rattle.std.proofs.Common.{rules, ◌++◌, [], ◌∷◌, ap, ◌∙◌, arith, take_all, append_assoc, pos}
use Rattle.std.proofs.lemmas.Int.{to_z-of_z}
use mir.Val.{SFits}
use mir.Syntax.{w64}
use Rattle.tenant_tables.specs.declared.write.Write.TheVariants.{Raise, AddReceipt}
use Rattle.table_schema.specs.declared.values.ExceptionRow.{ExceptionRow}
use Rattle.tenant_tables.specs.Run.{pool_writes, exception_writes}
use Rattle.tenant_tables.proofs.RunFacts.{exceptions_more}
use Rattle.tenant_tables.proofs.commit.exception_writes_for.Goals as goal

pub loop-exception-preserved : goal.loop-exception-preserved
loop-exception-preserved c =
    let none : ExceptionRow = record { pool = pos 0; place = pos 0; group = pos 0; from = pos 0; to = pos 0 } in
    let fits-id : SFits w64 c.args.accepted.now.id = search rules in
    record {
      written = exceptions_more _ _ _ c.args.exceptions.now c.loop-exception.exception-index none c.loop-exception.writes.items c.push-in-loop-exception.new.self.items (omega arith) c.loop-exception.invariant.written
          (simp to_z-of_z at c.in_ok-push-5.ensures.items);
    }

pub returns : goal.returns
returns c =
    let a = c.args.accepted.now in
    let fits-id : SFits w64 c.args.accepted.now.id = search rules in
    let front = Raise a.id a.epoch ∷ pool_writes a.id c.args.pool.now in
    let all = take_all c.loop-exception.exception-index c.args.exceptions.now (omega arith) in
    let items = c.loop-exception.invariant.written ∙ ap (λ l. front ++ exception_writes a.id l) all in
    (simp to_z-of_z at c.in_ok-push-6.ensures.items) ∙ ap (λ l. l ++ AddReceipt a.id a.receipt ∷ []) items ∙ append_assoc front (exception_writes a.id c.args.exceptions.now) (AddReceipt a.id a.receipt ∷ [])
