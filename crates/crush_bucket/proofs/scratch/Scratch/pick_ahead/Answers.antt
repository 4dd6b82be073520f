use Rattle.std.proofs.Common.{◌≡◌, ℕ, Bool, true, false, List, [], ◌∷◌, ◌++◌, if◌then◌else◌, is_ok}
use Rattle.std.specs.Prelude.{All}
use Rattle.std.proofs.lemmas.List.Elements.{All-push}
use Rattle.crush_bucket.specs.Tables.{TablesView}
use Rattle.crush_bucket.specs.Private.Ahead.{IsStep}
use Rattle.crush_bucket.specs.declared.scratch.AheadPick.{AheadPick}
use Rattle.crush_bucket.proofs.scratch.Scratch.pick_ahead.Goals as goal

steps_after : (t : TablesView) (xs : List ℕ) (old new : List AheadPick) (step : AheadPick) (ok : Bool) → new ≡ (if ok then old ++ step ∷ [] else old) → All (λ (s : AheadPick). IsStep t xs s) old → IsStep t xs step → All (λ (s : AheadPick). IsStep t xs s) new
steps_after t xs old new step true is all one = rw is (All-push (λ (s : AheadPick). IsStep t xs s) old step all one)
steps_after t xs old new step false is all one = rw is all

pub invariant_of-self : goal.invariant_of-self
invariant_of-self c =
    let inside = c.self.inside in
    let step : AheadPick = record { buckets = c.args.buckets; r = c.args.r; items = c.in_ok-items.items } in
    record {
      room = c.self.invariant.room;
      steps = steps_after inside.tables.now inside.xs inside.steps.items c.push.new.self.items step (is_ok c.push.result) c.push.ensures.items c.self.invariant.steps c.in_ok-items.ensures;
      lane = c.self.invariant.lane;
    }
