use Rattle.std.proofs.Common.{◌≡◌, ◌∙◌, ap, arith, length, map}
use Rattle.std.proofs.lemmas.Result.{IfOk-weaker}
use Rattle.crush_text.specs.Judging.{item_of}
use Rattle.crush_text.specs.Places.{in_place}
use Rattle.crush_text.specs.Private.Tables.{arrange}
use Rattle.crush_text.proofs.Arranged.{in_place_is_arranged, others_are_in_place}
use Rattle.crush_text.proofs.judge.Judge.items_of.Goals as goal

pub returns-then-len-items : goal.returns-then-len-items
returns-then-len-items c =
    let as_many : length c.in_ok-others.others.items ≡ length c.args.items.now = grind arith in
    others_are_in_place (item_of c.args.self.now.draft) c.args.items.now c.in_ok-others.others.items c.in_ok-others.ensures as_many

pub returns : goal.returns
returns c =
    let table : c.as_slice-places.result.now ≡ c.in_ok-named.named.items = c.as_slice-places.ensures.value in
    IfOk-weaker c.arranged.result
    (λ v. v.items ≡ arrange c.as_slice-places.result.now c.as_slice-rest.result.now)
    (λ v. v.items ≡ map (item_of c.args.self.now.draft) (in_place c.args.items.now))
    (λ v h. h ∙ in_place_is_arranged (item_of c.args.self.now.draft) c.args.items.now c.as_slice-places.result.now c.as_slice-rest.result.now
    (ap length table ∙ c.in_ok-named.ensures.len)
    (λ k short. rw table (c.in_ok-named.ensures.each k short))
    (c.as_slice-rest.ensures.value ∙ c.in_ok-others.ensures))
    c.arranged.ensures
