-- Where words leave the grammar, and what is declared before.
use Rattle.std.proofs.Common.{◌≡◌, ◌∙◌, ℕ, suc, ◌<◌, ◌⊎◌, inl, inr, List, [], ◌∷◌, ◌++◌, length, take, Option, Some, None, Bool, true, false, ◌&&◌, refl, arith, ap, IfSome, slice_get}
use Rattle.std.proofs.lemmas.List.{append-nil}
use Rattle.crush_grammar.proofs.IsRead.{is_read}
use Rattle.crush_grammar.proofs.Written.{is_written}
use Rattle.crush_grammar.proofs.States.{dead}
use Rattle.crush_grammar.specs.Words.{Word}
use Rattle.crush_grammar.specs.Syntax.{Declares}
use Rattle.crush_grammar.specs.Fronts.{IsFront, last_line}
use Rattle.crush_grammar.specs.Automaton.{State, reading, step, text, at_end}
use Rattle.crush_grammar.specs.Automaton.State.{Between, DeviceName, Dead}
use Rattle.crush_grammar.specs.declared.code.TextCode.TheVariants.{X1}
use Rattle.crush_grammar.specs.declared.code.TextFault.{TextFault}
use Rattle.crush_grammar.specs.declared.declaration.Declaration.{Declaration}
use Rattle.crush_grammar.proofs.Endings.{is_dead, Ends, is_open, code_at, step_at, dead_ends, given, on_word, off_word, ending, short, dead_is, run, ends_on, ends_off}
use Rattle.crush_grammar.proofs.Cuts.{onto, out, onto_append, given_decls}

abbrev pub FaultIs : State → TextFault → Word → Type 0
FaultIs q f x = (is_dead q ≡ false) × (f ≡ record { line = x.line; code = code_at q x }) × (is_dead (step q x).state ≡ true)

-- what is read is what the words before a faulty one end, and what that one ends
abbrev pub Stuck : State → ℕ → List Word → List Declaration → TextFault → ℕ → Word → Type 0
Stuck p line ws ds f i w = FaultIs (run p (take i ws)) f w × (ds ≡ out p (take i ws) ++ onto (step (run p (take i ws)) w).done [])

abbrev pub WrongFrom : State → ℕ → List Word → List Declaration → TextFault → Type 0
WrongFrom p line ws ds f =
    ((i : ℕ) × (i < length ws) × ((more : List Word) × Ends p line (take i ws ++ more)) × ((more : List Word) → Ends p line (take (suc i) ws ++ more) → ⊥) × IfSome (slice_get ws i) (λ w. Stuck p line ws ds f i w))
    ⊎ ((is_dead (run p ws) ≡ false) × (f ≡ record { line = last_line line ws; code = X1 }) × (ds ≡ out p ws))

pub on_stuck : (p : State) (line : ℕ) (x : Word) (ws : List Word) (ds : List Declaration) (f : TextFault) (i : ℕ) (o : Option Word) → IfSome o (λ w. Stuck (step p x).state x.line ws ds f i w) →
    IfSome o (λ w. Stuck p line (x ∷ ws) (onto (step p x).done ds) f (suc i) w)
on_stuck p line x ws ds f i None h = tt
on_stuck p line x ws ds f i (Some w) (a, b) = (a, ap (onto (step p x).done) b ∙ onto_append (step p x).done (out (step p x).state (take i ws)) (onto (step (run (step p x).state (take i ws)) w).done []))

pub further : (p : State) (line : ℕ) (x : Word) (ws : List Word) (ds : List Declaration) (f : TextFault) → WrongFrom (step p x).state x.line ws ds f → WrongFrom p line (x ∷ ws) (onto (step p x).done ds) f
further p line x ws ds f (inl l) = inl (suc l.0, omega (arith, l.1), (l.2.0, on_word p line x _ l.2.1), (λ more h. l.3 more (off_word p line x _ h)), on_stuck p line x ws ds f l.0 (slice_get ws l.0) l.4)
further p line x ws ds f (inr r) = inr (r.0, r.1, ap (onto (step p x).done) r.2)

pub dead_decls : (q : State) (line : ℕ) (ws : List Word) → is_dead q ≡ true → (reading q line ws).decls ≡ []
dead_decls (Dead f) line ws h = ap (λ r. r.decls) (dead f line ws)
dead_decls other line ws h = cc

pub end_decls : (p : State) (line : ℕ) (f : TextFault) → (at_end p line).fault ≡ Some f → (at_end p line).decls ≡ []
end_decls (DeviceName l n x) line f h = cc
end_decls (Between b) line f h = cc
end_decls other line f h = refl

pub wrong_by : (p : State) (line : ℕ) (x : Word) (ws : List Word) (f : TextFault) (k : Bool) → is_dead p ≡ false → is_dead (step p x).state ≡ k → (reading (step p x).state x.line ws).fault ≡ Some f →
    (is_dead (step p x).state ≡ false → WrongFrom (step p x).state x.line ws (reading (step p x).state x.line ws).decls f) → WrongFrom p line (x ∷ ws) (onto (step p x).done (reading (step p x).state x.line ws).decls) f
wrong_by p line x ws f true alive e h more = inl (
  0,
  omega arith,
  ending p alive line,
  (λ more g. dead_ends (step p x).state e x.line more (off_word p line x more g)),
  ((alive, dead_is (code_at p x) x (step p x).state f ws e (step_at p x alive) h, e), ap (onto (step p x).done) (dead_decls (step p x).state x.line ws e)),
)
wrong_by p line x ws f false alive e h more = further p line x ws (reading (step p x).state x.line ws).decls f (more e)

pub wrong_from : (p : State) (line : ℕ) (ws : List Word) (f : TextFault) → is_dead p ≡ false → (reading p line ws).fault ≡ Some f → WrongFrom p line ws (reading p line ws).decls f
wrong_from p line [] f alive h = inr (alive, short p line f alive h, end_decls p line f h)
wrong_from p line (x ∷ ws) f alive h =
    let g = given (step p x).done (reading (step p x).state x.line ws) in
    let k : (reading (step p x).state x.line ws).fault ≡ Some f = cc in
    rw (given_decls (step p x).done (reading (step p x).state x.line ws))
    (wrong_by p line x ws f (is_dead (step p x).state) alive refl k (λ e. wrong_from (step p x).state x.line ws f e k))

pub to_front : (ws : List Word) → (more : List Word) × Ends (Between true) 1 (ws ++ more) → IsFront ws
to_front ws (more, h) = (more, (text (ws ++ more)).decls, is_written (ws ++ more) h)

pub from_front : (ws : List Word) → IsFront ws → (more : List Word) × Ends (Between true) 1 (ws ++ more)
from_front ws (more, ds, h) = (more, ap (λ r. r.fault) (is_read (ws ++ more) ds h))

pub both : (a b : Bool) → (a && b) ≡ true → (a ≡ true) × (b ≡ true)
both true b h = (refl, h)
both false b h = cc

pub open_ends : (q : State) (line : ℕ) → is_open q ≡ true → Ends q line []
open_ends (Between b) line h = refl
open_ends (DeviceName l n x) line h = refl
open_ends other line h = cc

pub ends_open : (q : State) (line : ℕ) → Ends q line [] → is_open q ≡ true
ends_open (Between b) line h = refl
ends_open (DeviceName l n x) line h = refl
ends_open other line h = cc

pub is_open_text : (front : List Word) → is_open (run (Between true) front) ≡ true → (ds : List Declaration) × Declares front ds
is_open_text front h =
    let e = ends_on (Between true) 1 front [] (open_ends (run (Between true) front) (last_line 1 front) h) in
    ((text front).decls, is_written front (rw (append-nil front) at e))

pub is_text_open : (front : List Word) (ds : List Declaration) → Declares front ds → is_open (run (Between true) front) ≡ true
is_text_open front ds h =
    let e : Ends (Between true) 1 front = ap (λ r. r.fault) (is_read front ds h) in
    ends_open (run (Between true) front) (last_line 1 front) (ends_off (Between true) 1 front [] (rw (append-nil front) e))

pub and_on : (a b : Bool) → a ≡ true → b ≡ true → (a && b) ≡ true
and_on true b h k = k
and_on false b h k = cc
