-- Words are of the grammar, or leave it at one place.
use Rattle.std.proofs.Common.{◌≡◌, ◌∙◌, ℕ, suc, ◌<◌, ◌≤◌, ◌⊎◌, inl, inr, List, ◌++◌, take, drop, Option, Some, None, refl, sym, ap, append_assoc, arith}
use Rattle.std.proofs.lemmas.List.{take-append-drop, take-take}
use Rattle.crush_grammar.specs.Words.{Word}
use Rattle.crush_grammar.proofs.Breaking.{breaks}
use Rattle.crush_grammar.proofs.Written.{is_written}
use Rattle.crush_grammar.specs.Automaton.{text}
use Rattle.crush_grammar.specs.Fronts.{IsFront, IsWhole, LeavesAt, Breaks}
use Rattle.crush_grammar.specs.declared.code.TextFault.{TextFault}
use Rattle.crush_grammar.specs.declared.declaration.Declaration.{Declaration}

either_by : (ws : List Word) (o : Option TextFault) → (text ws).fault ≡ o → IsWhole ws ⊎ ((ds : List Declaration) × (f : TextFault) × Breaks ws ds f)
either_by ws None e = inl ((text ws).decls, is_written ws e)
either_by ws (Some f) e = inr ((text ws).decls, f, breaks ws f e)

pub either : (ws : List Word) → IsWhole ws ⊎ ((ds : List Declaration) × (f : TextFault) × Breaks ws ds f)
either ws = either_by ws (text ws).fault refl

pub not_both : (ws : List Word) (ds : List Declaration) (f : TextFault) → Breaks ws ds f → ¬ (IsWhole ws)
not_both ws ds f (inl (i, leaves, w, d)) = λ (es, h). leaves.2 (drop (suc i) ws, es, rw (take-append-drop (suc i) ws) h)
not_both ws ds f (inr (front, whole, e, d)) = whole

cut_twice : (ws : List Word) (k j : ℕ) → k ≤ j → take k ws ++ drop k (take j ws) ≡ take j ws
cut_twice ws k j h = ap (λ xs. xs ++ drop k (take j ws)) (sym (take-take k j ws h)) ∙ take-append-drop k (take j ws)

front_before : (ws : List Word) (k j : ℕ) → k ≤ j → IsFront (take j ws) → IsFront (take k ws)
front_before ws k j h (more, ds, d) =
    let e = append_assoc (take k ws) (drop k (take j ws)) more in
    let s : take k ws ++ (drop k (take j ws) ++ more) ≡ take j ws ++ more = sym e ∙ ap (λ xs. xs ++ more) (cut_twice ws k j h) in
    (drop k (take j ws) ++ more, ds, rw s d)

not_before : (ws : List Word) (i j : ℕ) → LeavesAt ws i → LeavesAt ws j → i < j → ⊥
not_before ws i j a b h = a.2 (front_before ws (suc i) j (omega arith) b.1)

pub one_place : (ws : List Word) (i j : ℕ) → LeavesAt ws i → LeavesAt ws j → i ≡ j
one_place ws i j a b =
    let m : i < j → ⊥ = not_before ws i j a b in
    let n : j < i → ⊥ = not_before ws j i b a in
    omega arith
