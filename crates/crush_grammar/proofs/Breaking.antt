-- Where words leave the grammar, with which code, and what is declared before.
use Rattle.std.proofs.Common.{◌==◌, IsSomeAnd, sym, ◌≡◌, ◌∙◌, ℕ, ◌<◌, inl, inr, List, [], ◌∷◌, ◌++◌, length, take, Option, Some, None, Bool, true, false, ◌||◌, refl, arith, ap, IfSome, slice_get, if◌then◌else◌}
use Rattle.std.specs.Prelude.{codes}
use Rattle.std.proofs.lemmas.Option.{slice_get-get_or}
use Rattle.std.proofs.lemmas.List.{append-nil}
use Rattle.std.proofs.lemmas.Bool.Decides.{nat_tests}
use Rattle.crush_grammar.proofs.Written.{is_written, declares_from}
use Rattle.crush_grammar.specs.Words.{Word}
use Rattle.crush_grammar.specs.Syntax.{Declares}
use Rattle.crush_grammar.specs.Fronts.{is, IsWhole, HasCode, word, BeginsOne, FrontDeclares, last_line, Breaks}
use Rattle.crush_grammar.specs.Automaton.{State, reading, step, text, to, begun, at_end, device_at}
use Rattle.crush_grammar.specs.Automaton.State.{Between, DeviceName, ClassWord}
use Rattle.crush_grammar.specs.declared.code.TextFault.{TextFault}
use Rattle.crush_grammar.specs.declared.declaration.Declaration.{Declaration}
use Rattle.crush_grammar.proofs.Endings.{is_dead, Ends, say, is_open, finish, given, ending, run, ends_on, is_device, done_at}
use Rattle.crush_grammar.proofs.Cuts.{onto, out, out_on, said, Whole, whole}
use Rattle.crush_grammar.proofs.Lines.{Stuck, WrongFrom, wrong_from, to_front, from_front, open_ends, is_text_open}
use Rattle.crush_grammar.proofs.Codes.{code_is}

pub text_of : (xs : List Word) (ds : List Declaration) → text xs ≡ said ds → Declares xs ds
text_of xs ds e =
    let d : (text xs).decls ≡ ds = ap (λ r. r.decls) e in
    rw d at (is_written xs (ap (λ r. r.fault) e))

pub just_one : {A : Type 0} (xs : List A) → (length xs == 1) ≡ true → (x : A) × (xs ≡ x ∷ [])
just_one [] h = cc
just_one (x ∷ []) h = (x, refl)
just_one (x ∷ y ∷ xs) h = absurd (grind (arith, nat_tests))

pub or_other : (a b : Bool) → (a || b) ≡ true → a ≡ false → b ≡ true
or_other true b h e = cc
or_other false b h e = h

-- words that break off a declaration are cut there
pub cut_at : (ys : List Word) (b : Bool) (q : State) → run (Between b) ys ≡ q → out (Between b) ys ≡ [] → is_dead q ≡ false → is_open q ≡ false → BeginsOne ys
cut_at ys b q e o alive shut =
    let line = last_line 1 ys in
    let f = finish q alive line in
    let one = just_one (reading q line (say f.0)).decls (or_other (is_open q) _ f.1.1 shut) in
    let ends : Ends (Between b) 1 (ys ++ say f.0) = ends_on (Between b) 1 ys (say f.0) (rw e f.1.0) in
    let d : (reading (Between b) 1 (ys ++ say f.0)).decls ≡ one.0 ∷ [] = out_on (Between b) 1 ys (say f.0) ∙ rw (o, e) one.1 in
    (say f.0, one.0, rw d at (declares_from b 1 (ys ++ say f.0) ends))

pub not_whole : (front : List Word) → is_open (run (Between true) front) ≡ false → ¬ (IsWhole front)
not_whole front shut = λ (ds, h). let e = is_text_open front ds h in cc

pub shut_by : (front : List Word) → is_dead (run (Between true) front) ≡ false → is_open (run (Between true) front) ≡ false → Whole (Between true) 1 front →
    (xs : List Word) × (ys : List Word) × (front ≡ xs ++ ys) × Declares xs (out (Between true) front) × BeginsOne ys
shut_by front alive shut (inl none) = ([], front, refl, text_of [] (out (Between true) front) (rw none refl), cut_at front true (run (Between true) front) refl none alive shut)
shut_by front alive shut (inr (xs, ys, b, a, r, s, o)) = (xs, ys, a, text_of xs (out (Between true) front) r, cut_at ys b (run (Between true) front) s o alive shut)

pub front_shut : (front : List Word) → is_dead (run (Between true) front) ≡ false → is_open (run (Between true) front) ≡ false → FrontDeclares front (out (Between true) front)
front_shut front alive shut = inr (not_whole front shut, shut_by front alive shut (whole (Between true) 1 front))

pub device_done : (l n : ℕ) (y : List ℕ) (x : Word) (k : Bool) → is_dead (if k then to (ClassWord l n y) else record { done = Some (device_at l n y); state = begun true x }).state ≡ true →
    device_at l n y ∷ [] ≡ onto (if k then to (ClassWord l n y) else record { done = Some (device_at l n y); state = begun true x }).done []
device_done l n y x true e = cc
device_done l n y x false e = refl

pub open_done : (q : State) (x : Word) (line : ℕ) → is_open q ≡ true → is_dead (step q x).state ≡ true → (reading q line []).decls ≡ onto (step q x).done []
unfolding step
open_done (Between b) x line h e = refl
open_done (DeviceName l n y) x line h e = device_done l n y x (is (codes "class") x) e
open_done other x line h e = cc

pub shut_device : (q : State) → is_open q ≡ false → is_device q ≡ false
shut_device (DeviceName l n y) h = cc
shut_device other h = refl

pub front_open : (front : List Word) (ds : List Declaration) → is_open (run (Between true) front) ≡ true → ds ≡ out (Between true) front ++ (reading (run (Between true) front) (last_line 1 front) []).decls → FrontDeclares front ds
front_open front ds h same =
    let ends = ends_on (Between true) 1 front [] (open_ends (run (Between true) front) (last_line 1 front) h) in
    let all : (text (front ++ [])).decls ≡ ds = out_on (Between true) 1 front [] ∙ sym same in
    inl (rw append-nil at (rw all at (is_written (front ++ []) ends)))

pub front_by : (front : List Word) (x : Word) (ds : List Declaration) (k : Bool) → is_open (run (Between true) front) ≡ k → is_dead (run (Between true) front) ≡ false → is_dead (step (run (Between true) front) x).state ≡ true →
    ds ≡ out (Between true) front ++ onto (step (run (Between true) front) x).done [] → FrontDeclares front ds
front_by front x ds true o alive dies same =
    let q = run (Between true) front in
    front_open front ds o (same ∙ ap (λ es. out (Between true) front ++ es) (sym (open_done q x (last_line 1 front) o dies)))
front_by front x ds false o alive dies same =
    let q = run (Between true) front in
    let none = done_at q x (shut_device q o) dies in
    let e : ds ≡ out (Between true) front = same ∙ (rw none (append-nil (out (Between true) front))) in
    rw e (front_shut front alive o)

pub at_word : (ws : List Word) (i : ℕ) (ds : List Declaration) (f : TextFault) (o : Option Word) → i < length ws → slice_get ws i ≡ o → IfSome o (λ w. Stuck (Between true) 1 ws ds f i w) →
    IsSomeAnd o (λ w. (f.line ≡ w.line) × HasCode (take i ws) w f.code) × FrontDeclares (take i ws) ds
at_word ws i ds f None lt e h = let k = slice_get-get_or ws i (word []) lt in absurd (cc)
at_word ws i ds f (Some w) lt e ((alive, a, dies), same) =
    ((ap (λ g. g.line) a, rw a (code_is (take i ws) w)), front_by (take i ws) w ds (is_open (run (Between true) (take i ws))) refl alive dies same)

pub open_faultless : (q : State) (line : ℕ) (f : TextFault) → (at_end q line).fault ≡ Some f → is_open q ≡ false
open_faultless (Between b) line f h = cc
open_faultless (DeviceName l n y) line f h = cc
open_faultless other line f h = refl

pub at_the_end : (p : State) (line : ℕ) (ws : List Word) (f : TextFault) → (reading p line ws).fault ≡ Some f → (at_end (run p ws) (last_line line ws)).fault ≡ Some f
at_the_end p line [] f h = h
at_the_end p line (x ∷ ws) f h = at_the_end (step p x).state x.line ws f (sym (given (step p x).done (reading (step p x).state x.line ws)) ∙ h)

pub relate : (ws : List Word) (ds : List Declaration) (f : TextFault) → (text ws).fault ≡ Some f → WrongFrom (Between true) 1 ws ds f → Breaks ws ds f
relate ws ds f h (inl (i, a, b, c, d)) =
    let w = at_word ws i ds f (slice_get ws i) a refl d in
    inl (i, (a, to_front _ b, (λ g. let e = from_front _ g in c e.0 e.1)), w.0, w.1)
relate ws ds f h (inr (a, b, c)) =
    let e = ending (run (Between true) ws) a (last_line 1 ws) in
    let shut = open_faultless (run (Between true) ws) (last_line 1 ws) f (at_the_end (Between true) 1 ws f h) in
    inr (to_front ws (e.0, ends_on (Between true) 1 ws e.0 e.1), not_whole ws shut, b, rw c (front_shut ws a shut))

pub breaks : (ws : List Word) (f : TextFault) → (text ws).fault ≡ Some f → Breaks ws (text ws).decls f
breaks ws f h = relate ws (text ws).decls f h (wrong_from (Between true) 1 ws f refl h)
