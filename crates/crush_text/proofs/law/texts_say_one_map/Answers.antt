use Rattle.std.proofs.Common.{◌≡◌, subst}
use Rattle.crush_map.specs.Map.{IsMapOf}
use Rattle.crush_grammar.specs.Words.{words}
use Rattle.crush_text.specs.Judging.{declared}
use Rattle.crush_text.proofs.Only.{one_map}
use Rattle.crush_text.proofs.law.texts_say_one_map.Goals as goal

pub returns : goal.returns
returns c = λ text m n p q.
    let same : p.declarations ≡ q.declarations = c.words_declare_once.ensures (words text) p.declarations q.declarations p.form q.form in
    one_map (declared q.declarations).draft m n (subst (λ ds. IsMapOf (declared ds).draft m) same p.draft) q.draft p.map q.map
