use Rattle.std.proofs.Common.{ℕ, ap, ◌∙◌, ◌==◌, ◌%◌, ◌&&◌}
use Rattle.std.proofs.Math.Path.{fun_ext}
use Rattle.crush_map.specs.crush_types.specs.Kinds.{is_uniform}
use Rattle.crush_bucket.specs.Tables.{kind_at, size_at}
use Rattle.crush_choose.specs.Reach.{reach}
use Rattle.crush_choose.proofs.Reaching.{steady}
use Rattle.crush_choose.proofs.walk.reach_by.Goals as goal

pub returns-clause-value : goal.returns-clause-value
returns-clause-value c =
    let t = c.args.scratch.now in
    c.reach.ensures.value ∙ ap (λ (rr : ℕ → ℕ). reach t c.args.walk.x rr c.args.walk.wanted c.args.walk.from) (fun_ext (λ (b : ℕ). steady (is_uniform (kind_at t b) && (size_at t b % 1 == 0)) c.args.r))
