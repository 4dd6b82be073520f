use Rattle.std.proofs.Common.{◌≡◌, ◌∙◌, refl, sym, arith, w32, to_z, of_z}
use Rattle.std.proofs.lemmas.Int.{to_z-of_z}
use Rattle.crush_text.specs.Judging.{fitted_integer, type_number}
use Rattle.crush_text.proofs.judge.Judge.step_of.Goals as goal

pub returns-in-Set : goal.returns-in-Set
returns-in-Set c = rw c.in-Set.is (c.set_step.ensures c.args.self.now.draft c.in-Set.n (sym c.fitted.ensures))

pub returns-in-Choose : goal.returns-in-Choose
returns-in-Choose c =
    let count : to_z w32 (of_z w32 c.fitted_integer.result) ≡ fitted_integer c.in-Choose.n = grind (arith, to_z-of_z, c.fitted_integer.ensures) in
    let number : c.type_number.result ≡ type_number c.args.self.now.draft c.in-Choose.wanted =
    c.type_number.ensures ∙ rw (c.as_slice.ensures.value, c.as_str-in-Choose.ensures, ← c.self.view_is) refl in
    rw (c.in-Choose.is, count, number) refl
