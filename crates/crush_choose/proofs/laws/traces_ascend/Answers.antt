use Rattle.std.proofs.Common.{subst, sym}
use Rattle.crush_choose.specs.Rules.{IsTrace}
use Rattle.crush_choose.specs.Trace.{rule_trace}
use Rattle.crush_choose.proofs.OneOrder.{is_trace}
use Rattle.crush_choose.proofs.OneTrace.{one_trace}
use Rattle.crush_choose.proofs.laws.traces_ascend.Goals as goal

pub returns : goal.returns
returns c t w steps x size trace =
    let its = is_trace t w steps x size in
    (λ is. one_trace t w steps x size (rule_trace t w steps x size) trace its is, λ e. subst (IsTrace t w steps x size) (sym e) its)
