use Rattle.std.proofs.Common.{◌∙◌, ◌<◌, sym, length, arith}
use Rattle.crush_text.specs.Judging.{item_of}
use Rattle.crush_text.proofs.Named.{find_more}
use Rattle.crush_text.proofs.judge.Judge.named_places.Goals as goal

pub loop-item-preserved : goal.loop-item-preserved
loop-item-preserved c =
    let short : c.loop-item.item-index < length c.args.items.now = omega arith in
    record {
      size = c.with_item-named.ensures.len ∙ c.loop-item.invariant.size;
      table = λ k small.
          let before = c.loop-item.invariant.table k small in
          rw (c.with_item-named.ensures.each k (rw c.loop-item.invariant.size small), before, c.item_of.ensures)
          (sym (find_more (item_of c.args.self.now.draft) c.args.items.now k c.loop-item.item-index c.item-item.result short c.item-item.is));
    }
