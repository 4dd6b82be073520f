-- Exactly one list of marks is an answer.
use Rattle.std.proofs.Common.{◌≡◌, ℕ, List, None, ap, sym, ◌∙◌}
use Rattle.crush_bucket.specs.Tables.{TablesView}
use Rattle.crush_choose.specs.declared.firstn.FirstnCall.{FirstnCall}
use Rattle.crush_choose.specs.declared.indep.IndepCall.{IndepCall}
use Rattle.crush_choose.specs.Growing.{grown}
use Rattle.crush_choose.specs.Marks.{Marks}
use Rattle.crush_choose.specs.Firstn.{IsFirstnAnswer, mark_of, firstn}
use Rattle.crush_choose.specs.Indep.{IsIndepAnswer, indep_try, indep}
use Rattle.crush_choose.proofs.Growing.{Grows, grown_grows, grows_once}
use Rattle.crush_choose.proofs.Rounds.{IsSettled, rounds_settle, settled_once}
use Rattle.crush_choose.proofs.IndepTries.{indep_orderly}

-- ---- firstn

pub firstn_is : (t : TablesView) (w : List ℕ) (c : FirstnCall) → IsFirstnAnswer t w c (firstn t w c)
unfolding firstn
firstn_is t w c =
    let grows : Grows (mark_of t w c) c.numrep None (firstn t w c) = grown_grows (mark_of t w c) c.numrep None in
    record { one_each = grows.long; each = grows.each }

pub firstn_only : (t : TablesView) (w : List ℕ) (c : FirstnCall) (marks : Marks) → IsFirstnAnswer t w c marks → marks ≡ firstn t w c
unfolding firstn
firstn_only t w c marks is = grows_once (mark_of t w c) c.numrep None marks (record { long = is.one_each; each = is.each })

-- ---- indep

pub indep_is : (t : TablesView) (w : List ℕ) (c : IndepCall) → IsIndepAnswer t w c (indep t w c)
unfolding indep
indep_is t w c =
    let settled : IsSettled (indep_try t w c) c.n c.tries (indep t w c) = rounds_settle (indep_try t w c) (indep_orderly t w c) c.n c.tries in
    record { one_each = settled.long; each = settled.each }

pub indep_only : (t : TablesView) (w : List ℕ) (c : IndepCall) (marks : Marks) → IsIndepAnswer t w c marks → marks ≡ indep t w c
unfolding indep
indep_only t w c marks is =
    settled_once (indep_try t w c) (indep_orderly t w c) c.n c.tries marks (record { long = is.one_each; each = is.each })

-- ---- what is made of the one answer

-- rows made of the marks of all reps are those of each answer
pub firstn_rows : {A : Type 0} (rows : Marks → A) (row : A) (t : TablesView) (w : List ℕ) (c : FirstnCall) (rep : ℕ) (marks : Marks)
    → row ≡ rows (grown (mark_of t w c) rep) → rep ≡ c.numrep → IsFirstnAnswer t w c marks → row ≡ rows marks
unfolding firstn
firstn_rows rows row t w c rep marks made all is =
    made ∙ (ap (λ (n : ℕ). rows (grown (mark_of t w c) n)) all ∙ ap rows (sym (firstn_only t w c marks is)))

pub indep_rows : {A : Type 0} (rows : Marks → A) (row : A) (t : TablesView) (w : List ℕ) (c : IndepCall) (played marks : Marks)
    → row ≡ rows played → played ≡ indep t w c → IsIndepAnswer t w c marks → row ≡ rows marks
indep_rows rows row t w c played marks made all is = made ∙ ap rows (all ∙ sym (indep_only t w c marks is))
