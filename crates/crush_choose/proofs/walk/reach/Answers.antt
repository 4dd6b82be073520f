use Rattle.std.proofs.Common.{◌≡◌, ℕ, ◌+◌, refl, sym, ◌∙◌}
use Rattle.crush_bucket.specs.Tables.{bucket_numbered}
use Rattle.crush_choose.specs.Reach.{step}
use Rattle.crush_choose.proofs.Reaching.{walk-start, walk-picks, to_device, to_other, to_bucket, through, below_of}
use Rattle.crush_choose.proofs.walk.reach.Goals as goal

pub down-init : goal.down-init
down-init c = record {
  in_range = c.requires.from;
  same = refl;
  on = walk-start c.args.scratch.now c.args.walk.x (λ (b : ℕ). c.args.attempts.start + step c.args.scratch.now c.args.attempts.numrep c.args.attempts.round b) c.args.walk.wanted c.args.walk.from;
}

pub returns-then-walk-eq0-clause-value : goal.returns-then-walk-eq0-clause-value
returns-then-walk-eq0-clause-value c =
    let rr : ℕ → ℕ = λ b. c.args.attempts.start + step c.args.scratch.now c.args.attempts.numrep c.args.attempts.round b in
    let picks = walk-picks c.args.scratch.now c.args.walk.x rr c.args.walk.wanted c.args.walk.from c.down.bucket c.pick-item.result c.attempt_at-r.result c.down.invariant.on (sym (rw c.tables-tables.ensures at c.is_empty.ensures) ∙ c.if-is_empty.false) (rw c.tables-tables.ensures at c.attempt_at-r.ensures.value) (rw c.tables-tables.ensures at c.pick-item.ensures.picked) in
    sym (to_device c.args.scratch.now c.args.walk.x rr c.args.walk.wanted c.args.walk.from c.down.bucket c.pick-item.result c.attempt_at-r.result picks (sym (rw c.tables-tables.ensures at c.in-None.ensures.value)) c.if-walk-eq0.true)

pub returns-else-walk-eq0-clause-value : goal.returns-else-walk-eq0-clause-value
returns-else-walk-eq0-clause-value c =
    let rr : ℕ → ℕ = λ b. c.args.attempts.start + step c.args.scratch.now c.args.attempts.numrep c.args.attempts.round b in
    let picks = walk-picks c.args.scratch.now c.args.walk.x rr c.args.walk.wanted c.args.walk.from c.down.bucket c.pick-item.result c.attempt_at-r.result c.down.invariant.on (sym (rw c.tables-tables.ensures at c.is_empty.ensures) ∙ c.if-is_empty.false) (rw c.tables-tables.ensures at c.attempt_at-r.ensures.value) (rw c.tables-tables.ensures at c.pick-item.ensures.picked) in
    sym (to_other c.args.scratch.now c.args.walk.x rr c.args.walk.wanted c.args.walk.from c.down.bucket c.pick-item.result c.attempt_at-r.result picks (sym (rw c.tables-tables.ensures at c.in-None.ensures.value)) c.if-walk-eq0.false)

pub returns-then-type_of-walk-clause-value : goal.returns-then-type_of-walk-clause-value
returns-then-type_of-walk-clause-value c =
    let rr : ℕ → ℕ = λ b. c.args.attempts.start + step c.args.scratch.now c.args.attempts.numrep c.args.attempts.round b in
    let picks = walk-picks c.args.scratch.now c.args.walk.x rr c.args.walk.wanted c.args.walk.from c.down.bucket c.pick-item.result c.attempt_at-r.result c.down.invariant.on (sym (rw c.tables-tables.ensures at c.is_empty.ensures) ∙ c.if-is_empty.false) (rw c.tables-tables.ensures at c.attempt_at-r.ensures.value) (rw c.tables-tables.ensures at c.pick-item.ensures.picked) in
    sym (to_bucket c.args.scratch.now c.args.walk.x rr c.args.walk.wanted c.args.walk.from c.down.bucket c.pick-item.result c.attempt_at-r.result c.in-Some.below picks (sym (rw c.tables-tables.ensures at c.in-Some.ensures.value)) (sym (rw c.tables-tables.ensures at c.type_of.ensures) ∙ c.if-type_of-walk.true))

pub down-preserved : goal.down-preserved
down-preserved c =
    let rr : ℕ → ℕ = λ b. c.args.attempts.start + step c.args.scratch.now c.args.attempts.numrep c.args.attempts.round b in
    let picks = walk-picks c.args.scratch.now c.args.walk.x rr c.args.walk.wanted c.args.walk.from c.down.bucket c.pick-item.result c.attempt_at-r.result c.down.invariant.on (sym (rw c.tables-tables.ensures at c.is_empty.ensures) ∙ c.if-is_empty.false) (rw c.tables-tables.ensures at c.attempt_at-r.ensures.value) (rw c.tables-tables.ensures at c.pick-item.ensures.picked) in
    let numbered : bucket_numbered c.args.scratch.now c.pick-item.result ≡ _ = sym (rw c.tables-tables.ensures at c.in-Some.ensures.value) in
    record {
      in_range = (rw c.tables-tables.ensures at c.in-Some.ensures.within);
      same = c.pick-item.ensures.same ∙ c.down.invariant.same;
      on = through c.args.scratch.now c.args.walk.x rr c.args.walk.wanted c.args.walk.from c.down.bucket c.pick-item.result c.attempt_at-r.result c.in-Some.below picks numbered (λ h. c.if-type_of-walk.false ((rw c.tables-tables.ensures at c.type_of.ensures) ∙ h)) (below_of c.args.scratch.now c.down.bucket c.pick-item.result c.in-Some.below numbered (rw c.tables-tables.ensures at c.pick-item.ensures.below));
    }
