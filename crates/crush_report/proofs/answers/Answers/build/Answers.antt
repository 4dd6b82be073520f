use Rattle.std.proofs.Common.{◌≡◌, ◌+◌, ◌++◌, ◌∷◌, ◌∙◌, [], length, ap, arith, length-append}
use Rattle.crush_report.proofs.Kept.{last_start, none_kept, one_more}
use Rattle.crush_report.proofs.answers.Answers.build.Goals as goal

pub returns-then-not-are_few-clause-answers : goal.returns-then-not-are_few-clause-answers
returns-then-not-are_few-clause-answers c = none_kept c.args.placer.now _ c.pool_parts-parts.ensures.valid c.new-then-not-are_few.ensures.items

pub loop-place-preserved : goal.loop-place-preserved
loop-place-preserved c =
    let p = c.args.placer.now in
    let place = c.loop-place.place in
    let was = c.loop-place.slots.items in
    let starts = c.loop-place.starts.items in
    let answer = c.items.result.now in
    let slots : c.extend_from_slice.new.self.items ≡ was ++ answer = c.in_ok-extend_from_slice.ensures.items in
    let len : c.len.result ≡ length (was ++ answer) = c.len.ensures ∙ c.extend_from_slice.new.self.ok.0 ∙ ap length slots in
    let pushed : c.push-in-loop-place.new.self.items ≡ starts ++ length (was ++ answer) ∷ [] = rw len at c.in_ok-push-2.ensures.items in
    let one = one_more p was starts place answer c.loop-place.invariant.len c.loop-place.invariant.last (c.items.ensures.value ∙ c.run_next.ensures.items) c.loop-place.invariant.each in
    record {
      fits = c.run_next.ensures.fits;
      len = rw pushed (omega (arith, length-append starts (length (was ++ answer) ∷ []), c.loop-place.invariant.len));
      last = rw (slots, pushed) (last_start starts (place + 1) (length (was ++ answer)) c.loop-place.invariant.len);
      each = rw (slots, pushed) one;
    }
