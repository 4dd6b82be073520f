-- Reading from a state on.
use Rattle.std.proofs.Common.{◌≡◌, ◌∙◌, ℕ, Bool, true, List, [], ◌∷◌, ◌++◌, Some, refl, Err, append_assoc, codes}
use Rattle.std.proofs.lemmas.List.{append-nil}
use Rattle.crush_grammar.specs.Words.{Word}
use Rattle.crush_grammar.specs.Automaton.{Reading, reading, step, failed, give, begun}
use Rattle.crush_grammar.specs.Automaton.State.{Between, Dead, Hashes, Items, ItemWord, ItemName, ItemWeight, RuleKind, RuleMin, RuleMax, Taken, Steps, StepWord}
use Rattle.crush_grammar.specs.Automaton.{with_item}
use Rattle.crush_grammar.specs.Fronts.{is}
use Rattle.crush_grammar.specs.Private.Leads.{Leads, behind}
use Rattle.crush_grammar.specs.declared.declaration.Declaration.{Declaration}
use Rattle.crush_grammar.specs.declared.code.TextFault.{TextFault}
use Rattle.crush_grammar.specs.declared.error.ReadError.{ReadError}
use Rattle.crush_grammar.specs.declared.error.ReadError.TheVariants as errors
use Rattle.crush_grammar.specs.declared.declaration.DeclaredItem.{DeclaredItem}
use Rattle.crush_grammar.specs.declared.declaration.DeclaredBucket.{DeclaredBucket}
use Rattle.crush_grammar.specs.declared.declaration.DeclaredRule.{DeclaredRule}

-- nothing more is read behind a fault
pub dead : (f : TextFault) (line : ℕ) (ws : List Word) → reading (Dead f) line ws ≡ failed f
unfolding step
dead f line [] = refl
dead f line (w ∷ ws) = dead f w.line ws

-- at the end of the words an optional part is left out
pub no_hash : (line : ℕ) (ws : List Word) → ws ≡ [] → (b : DeclaredBucket) → reading (Hashes b) line ws ≡ reading (Items b) line ws
no_hash line ws h b = rw h refl

pub no_weight : (line : ℕ) (ws : List Word) → ws ≡ [] → (b : DeclaredBucket) (e : DeclaredItem) → reading (ItemName b e) line ws ≡ reading (ItemWeight b e) line ws
no_weight line ws h b e = rw h refl

pub no_place : (line : ℕ) (ws : List Word) → ws ≡ [] → (b : DeclaredBucket) (e : DeclaredItem) → reading (ItemWeight b e) line ws ≡ reading (Items (with_item b e)) line ws
no_place line ws h b e = rw h refl

pub no_min : (line : ℕ) (ws : List Word) → ws ≡ [] → (r : DeclaredRule) → reading (RuleKind r) line ws ≡ reading (RuleMin r) line ws
no_min line ws h r = rw h refl

pub no_max : (line : ℕ) (ws : List Word) → ws ≡ [] → (r : DeclaredRule) → reading (RuleMin r) line ws ≡ reading (RuleMax r) line ws
no_max line ws h r = rw h refl

pub taken_end : (line : ℕ) (ws : List Word) → ws ≡ [] → (r : DeclaredRule) → reading (Taken r) line ws ≡ reading (Steps r) line ws
taken_end line ws h r = rw h refl

-- a fault further on is one from here
pub leads_after : {X Y : Type 0} (r q : Reading) (e : ReadError) (f : X → Reading) (g : Y → Reading) → r ≡ q → Leads {X = X} q (Err e) f → Leads {X = Y} r (Err e) g
leads_after r q errors.Memory f g same h = tt
leads_after r q (errors.Fault x) f g same h = same ∙ h

-- a fault says nothing of what would have come
pub leads_any : {X Y : Type 0} (q : Reading) (e : ReadError) (f : X → Reading) (g : Y → Reading) → Leads {X = X} q (Err e) f → Leads {X = Y} q (Err e) g
leads_any q errors.Memory f g h = tt
leads_any q (errors.Fault x) f g h = h

-- the same in a loop
pub leads_loop : {X Y : Type 0} (s r q : Reading) (e : ReadError) (f : X → Reading) (g : Y → Reading) → s ≡ r → s ≡ q → Leads {X = X} q (Err e) f → Leads {X = Y} r (Err e) g
leads_loop s r q errors.Memory f g kept same h = tt
leads_loop s r q (errors.Fault x) f g kept same h = cc

pub items_step : (b : DeclaredBucket) (line next : ℕ) (ws : List Word) (w : Word) (rest : List Word) → ws ≡ w ∷ rest → next ≡ w.line → is (codes "item") w ≡ true → reading (Items b) line ws ≡ reading (ItemWord b) next rest
unfolding step
items_step b line next ws w rest e n item = rw (e, n, item) refl

pub steps_step : (r : DeclaredRule) (line next : ℕ) (ws : List Word) (w : Word) (rest : List Word) → ws ≡ w ∷ rest → next ≡ w.line → is (codes "step") w ≡ true → reading (Steps r) line ws ≡ reading (StepWord r) next rest
unfolding step
steps_step r line next ws w rest e n step_word = rw (e, n, step_word) refl

pub between : (b : Bool) (line next : ℕ) (ws : List Word) (w : Word) (rest : List Word) → ws ≡ w ∷ rest → next ≡ w.line → reading (Between b) line ws ≡ reading (begun b w) next rest
unfolding step
between b line next ws w rest e n = rw (e, n) refl

-- one more declaration was found
pub read_more : (ds : List Declaration) (d : Declaration) (r q t : Reading) → q ≡ give (Some d) r → behind ds q ≡ t → behind (ds ++ d ∷ []) r ≡ t
read_more ds d r q t e h =
    let k : behind ds (give (Some d) r) ≡ t = rw e at h in
    rw (append_assoc ds (d ∷ []) r.decls) k

pub read_failed : (ds : List Declaration) (q t : Reading) (f : TextFault) → q ≡ failed f → behind ds q ≡ t → record { decls = ds; fault = Some f } ≡ t
read_failed ds q t f e h =
    let k : behind ds (failed f) ≡ t = rw e at h in
    rw (append-nil ds) at k
