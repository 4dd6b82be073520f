use Rattle.std.proofs.Common.{◌≡◌, ◌≤◌, ◌++◌, ◌∷◌, ◌∙◌, [], ℕ, List, length, map, ap, sym, arith, length-append}
use Rattle.std.specs.List.{range_with_len}
use Rattle.crush_choose.specs.Marks.{Slot}
use Rattle.crush_pool.specs.Placers.{PoolOnMap}
use Rattle.crush_report.specs.OnMaps.{up_on}
use Rattle.crush_report.proofs.Groups.{lists_more}
use Rattle.crush_report.proofs.Parts.{ends_push, last_push, parts_push}
use Rattle.crush_report.proofs.up_lists.put_lists.Goals as goal

pub loop-group-preserved : goal.loop-group-preserved
loop-group-preserved c =
    let p = c.args.run.now in
    let n = c.loop-group.group in
    let was = c.loop-group.slots.items in
    let ends = c.loop-group.ends.items in
    let up = c.as_slice.result.now in
    let before = c.loop-group.invariant in
    let list : up ≡ up_on p n = c.as_slice.ensures.value ∙ (c.in_ok-set_up.ensures.up ∙ ap (λ (q : PoolOnMap). up_on q n) before.on) in
    let slots : c.extend_from_slice.new.self.items ≡ was ++ up = c.in_ok-extend_from_slice.ensures.items in
    let len : c.len-in-loop-group.result ≡ length (was ++ up) = c.len-in-loop-group.ensures ∙ c.extend_from_slice.new.self.ok.0 ∙ ap length slots in
    let pushed : c.push.new.self.items ≡ ends ++ length (was ++ up) ∷ [] = rw len at c.in_ok-push.ensures.items in
    let longer = length-append was up in
    record {
      on = c.in_ok-set_up.ensures.same ∙ before.on;
      ends = rw (slots, pushed) (ends_push (length was) (length (was ++ up)) 0 (length (was ++ up)) ends before.ends (omega (arith, before.last, longer)) (omega arith));
      last = rw (slots, pushed) (last_push 0 (length (was ++ up)) ends);
      lists = rw (slots, pushed) (parts_push was up 0 ends before.ends before.last
          ∙ (ap (λ (lists : List (List Slot)). lists ++ up ∷ []) before.lists
          ∙ (ap (λ (last : List Slot). map (up_on p) (range_with_len 0 n) ++ last ∷ []) list ∙ sym (lists_more (up_on p) n))));
    }
