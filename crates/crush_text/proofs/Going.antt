-- Declarations without a fault, one behind the other.
use Rattle.std.proofs.Common.{◌≡◌, ◌∙◌, ℕ, ◌+◌, List, [], ◌∷◌, ◌++◌, refl, sym, ap, subst, append_assoc, None}
use Rattle.std.proofs.lemmas.List.{append-nil}
use Rattle.crush_map.specs.Faults.{or_else}
use Rattle.crush_grammar.specs.declared.declaration.Declaration.{Declaration}
use Rattle.crush_text.specs.Judging.{Declared, declaration_fault, declare, declared_from, fault_from}
use Rattle.crush_text.proofs.Spelt.{numbered}
use Rattle.crush_text.proofs.Checks.{first_none, second_none}
use Rattle.crush_text.proofs.Found.{AtEach}

-- behind the first state the declarations have no fault, and make the second
pub record Goes (s : Declared) (ds : List Declaration) (t : Declared) : Type 0 where
  pub faultless : fault_from s ds ≡ None
  pub makes : declared_from s ds ≡ t

pub goes_on : (s : Declared) (ds : List Declaration) (t : Declared) (es : List Declaration) (u : Declared) → Goes s ds t → Goes t es u → Goes s (ds ++ es) u
unfolding fault_from
goes_on s [] t es u g h = subst (λ x. Goes x es u) (sym g.makes) h
goes_on s (d ∷ ds) t es u g h =
    let rest = goes_on (declare s d) ds t es u (record { faultless = second_none (declaration_fault s d) (fault_from (declare s d) ds) g.faultless; makes = g.makes }) h in
    record {
      faultless = ap (λ o. or_else o (fault_from (declare s d) (ds ++ es))) (first_none (declaration_fault s d) (fault_from (declare s d) ds) g.faultless) ∙ rest.faultless;
      makes = rest.makes;
    }

pub one_goes : (s : Declared) (d : Declaration) (t : Declared) → declaration_fault s d ≡ None → declare s d ≡ t → Goes s (d ∷ []) t
unfolding fault_from
one_goes s d t e f = record { faultless = ap (λ o. or_else o None) e; makes = f }

-- from a state to the next with each of a list
along_from : {X : Type 0} (declaration : ℕ → X → Declaration) (lines : X → ℕ) (state : List X → Declared) (xs : List X) →
    AtEach (λ i before x. (n : ℕ) → Goes (state before) (declaration n x ∷ []) (state (before ++ x ∷ []))) xs →
    (done left : List X) → xs ≡ done ++ left → (n : ℕ) → Goes (state done) (numbered declaration lines n left) (state (done ++ left))
unfolding fault_from
along_from declaration lines state xs each done [] e n = record { faultless = refl; makes = ap state (sym (append-nil done)) }
along_from declaration lines state xs each done (x ∷ left) e n =
    let regroup : (done ++ x ∷ []) ++ left ≡ done ++ x ∷ left = append_assoc done (x ∷ []) left in
    goes_on (state done) (declaration n x ∷ []) (state (done ++ x ∷ [])) (numbered declaration lines (n + lines x) left) (state (done ++ x ∷ left))
    (each done x left e n)
    (subst (λ ys. Goes (state (done ++ x ∷ [])) (numbered declaration lines (n + lines x) left) (state ys)) regroup
    (along_from declaration lines state xs each (done ++ x ∷ []) left (e ∙ sym regroup) (n + lines x)))

pub along : {X : Type 0} (declaration : ℕ → X → Declaration) (lines : X → ℕ) (state : List X → Declared) (xs : List X) →
    AtEach (λ i before x. (n : ℕ) → Goes (state before) (declaration n x ∷ []) (state (before ++ x ∷ []))) xs →
    (n : ℕ) → Goes (state []) (numbered declaration lines n xs) (state xs)
along declaration lines state xs each n = along_from declaration lines state xs each [] xs refl n
