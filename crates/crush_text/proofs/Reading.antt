-- The function that reads texts answers what the texts say.
use Rattle.std.proofs.Common.{◌≡◌, ◌∙◌, ◌⊎◌, inl, inr, ℕ, ◌<◌, ◌≤◌, nat_le, Bool, true, false, List, length, Option, Some, None, Result, Ok, Err, refl, sym, ap, subst, arith, if◌then◌else◌}
use Rattle.std.specs.Prelude.{◌↔◌}
use Rattle.std.proofs.lemmas.Bool.Decides.{nat_tests}
use Rattle.crush_map.specs.Faults.{or_else, first_fault}
use Rattle.crush_map.specs.Laws.{IsInOrder}
use Rattle.crush_map.specs.Map.{Map, IsMap, IsMapOf}
use Rattle.crush_map.specs.declared.draft.MapDraft.{MapDraft}
use Rattle.crush_grammar.specs.Words.{Word, words}
use Rattle.crush_grammar.specs.Automaton.{Reading, text as read}
use Rattle.crush_grammar.specs.Fronts.{Breaks, last_line}
use Rattle.crush_grammar.specs.Syntax.{Declares}
use Rattle.crush_grammar.specs.declared.code.TextCode.TheVariants.{X7}
use Rattle.crush_grammar.specs.declared.code.TextFault.{TextFault}
use Rattle.crush_grammar.specs.declared.declaration.Declaration.{Declaration}
use Rattle.crush_text.specs.declared.limits.TheConstants.{TEXT_LIMIT}
use Rattle.crush_text.specs.Judging.{declared, declared_fault, last_fault}
use Rattle.crush_text.specs.MapText.{SaysMap, HasMapFault, HasFormFault, IsTextOf, HasFirstFault, IsShort, IsRefusedFor}
use Rattle.crush_text.specs.Reading.{map_of_draft, fault_of_words, fault_or_map, map_of_words, map_of_stored_text, map_of_text}
use Rattle.crush_text.proofs.Checks.{first_none, second_none, both_none}
use Rattle.crush_text.proofs.Kept.{no_fault}
use Rattle.crush_text.proofs.Only.{one_map}
use Rattle.crush_text.proofs.Sorted.{same_elements, in_order}
use Rattle.crush_text.proofs.Texts.{at_end, clean_draft}

-- the words that the grammar is of, as the automaton reads them
abbrev pub ReadsWhole : Type 0
ReadsWhole = (ws : List Word) (ds : List Declaration) → Declares ws ds ↔ (read ws ≡ record { decls = ds; fault = None })

abbrev pub ReadsBroken : Type 0
ReadsBroken = (ws : List Word) (ds : List Declaration) (f : TextFault) → Breaks ws ds f ↔ (read ws ≡ record { decls = ds; fault = Some f })

-- a draft without a fault declares a map
abbrev pub DeclareMaps : Type 0
DeclareMaps = (d : MapDraft) (m : Map) → first_fault d ≡ None → IsMapOf d m → IsInOrder m → IsMap m

-- ---- the map of a draft

map_is : (d : MapDraft) → IsMapOf d (map_of_draft d)
map_is d = record { types = same_elements (λ t. t.number) d.types; devices = same_elements (λ x. x.id) d.devices; buckets = refl; rules = same_elements (λ r. r.id) d.rules; tunables = refl }

is_in_order : (d : MapDraft) → IsInOrder (map_of_draft d)
is_in_order d = record { types = in_order (λ t. t.number) d.types; devices = in_order (λ x. x.id) d.devices; rules = in_order (λ r. r.id) d.rules }

-- ---- the first fault of words

-- nothing is wrong with words of the form whose fault is none
record Found (ws : List Word) (r : Reading) : Type 0 where
  pub each : declared_fault r.decls ≡ None
  pub form : r.fault ≡ None
  pub end : last_fault (last_line 1 ws) (declared r.decls) ≡ None

found : (ws : List Word) (r : Reading) → fault_of_words ws r ≡ None → Found ws r
found ws r h =
    let behind = second_none (declared_fault r.decls) (or_else r.fault (last_fault (last_line 1 ws) (declared r.decls))) h in
    record {
      each = first_none (declared_fault r.decls) (or_else r.fault (last_fault (last_line 1 ws) (declared r.decls))) h;
      form = first_none r.fault (last_fault (last_line 1 ws) (declared r.decls)) behind;
      end = second_none r.fault (last_fault (last_line 1 ws) (declared r.decls)) behind;
    }

reading_is : (r : Reading) (o : Option TextFault) → r.fault ≡ o → r ≡ record { decls = r.decls; fault = o }
reading_is r o e = ap (λ p. record { decls = r.decls; fault = p }) e

abbrev answer : List Word → Reading → Result Map TextFault
answer ws r = fault_or_map (fault_of_words ws r) (map_of_draft (declared r.decls).draft)

answered : (o : Option TextFault) (m : Map) (p : Option TextFault) → o ≡ p → fault_or_map o m ≡ fault_or_map p m
answered o m p e = ap (λ q. fault_or_map q m) e

-- ---- maps

valid : DeclareMaps → (ws : List Word) (ds : List Declaration) → Declares ws ds → declared_fault ds ≡ None → last_fault (last_line 1 ws) (declared ds) ≡ None → IsMap (map_of_draft (declared ds).draft)
valid maps ws ds form each end =
    let d = (declared ds).draft in
    maps d (map_of_draft d) (clean_draft ws (declared ds) (record { declarations = ds; form = form; each = each; all = refl }) (no_fault (last_line 1 ws) (at_end (declared ds)) end)) (map_is d) (is_in_order d)

says_by : DeclareMaps → ReadsWhole → (ws : List Word) (m : Map) (o : Option TextFault) → fault_of_words ws (read ws) ≡ o → fault_or_map o (map_of_draft (declared (read ws).decls).draft) ≡ Ok m → SaysMap ws m
says_by maps whole ws m (Some f) e h = cc
says_by maps whole ws m None e h =
    let r = read ws in
    let none = found ws r e in
    let form : Declares ws r.decls = (whole ws r.decls).1 (reading_is r None none.form) in
    let same : map_of_draft (declared r.decls).draft ≡ m = cc in
    record {
      declarations = r.decls;
      form = form;
      each = none.each;
      end = none.end;
      draft = subst (IsMapOf (declared r.decls).draft) same (map_is (declared r.decls).draft);
      map = subst IsMap same (valid maps ws r.decls form none.each none.end);
    }

says : DeclareMaps → ReadsWhole → (ws : List Word) (m : Map) → map_of_words ws ≡ Ok m → SaysMap ws m
says maps whole ws m h = says_by maps whole ws m (fault_of_words ws (read ws)) refl h

is_said : DeclareMaps → ReadsWhole → (ws : List Word) (m : Map) → SaysMap ws m → map_of_words ws ≡ Ok m
is_said maps whole ws m s =
    let ds = s.declarations in
    let d = (declared ds).draft in
    let all : map_of_words ws ≡ answer ws (record { decls = ds; fault = None }) = ap (answer ws) ((whole ws ds).0 s.form) in
    let none : fault_of_words ws (record { decls = ds; fault = None }) ≡ None = both_none (declared_fault ds) (last_fault (last_line 1 ws) (declared ds)) s.each s.end in
    let same : map_of_draft d ≡ m = one_map d (map_of_draft d) m (map_is d) s.draft (valid maps ws ds s.form s.each s.end) s.map in
    all ∙ answered (fault_of_words ws (record { decls = ds; fault = None })) (map_of_draft d) None none ∙ ap Ok same

-- ---- faults

faulty_by : ReadsWhole → ReadsBroken → (ws : List Word) (f : TextFault) (o : Option TextFault) → (read ws).fault ≡ o → fault_of_words ws (read ws) ≡ Some f → HasMapFault ws f ⊎ HasFormFault ws f
faulty_by whole broken ws f None e h =
    let r = read ws in
    inl (record {
      declarations = r.decls;
      form = (whole ws r.decls).1 (reading_is r None e);
      first = sym (ap (λ p. or_else (declared_fault r.decls) (or_else p (last_fault (last_line 1 ws) (declared r.decls)))) e) ∙ h;
    })
faulty_by whole broken ws f (Some at) e h =
    let r = read ws in
    inr (record {
      declarations = r.decls;
      at = at;
      breaks = (broken ws r.decls at).1 (reading_is r (Some at) e);
      first = sym (ap (λ p. or_else (declared_fault r.decls) (or_else p (last_fault (last_line 1 ws) (declared r.decls)))) e) ∙ h;
    })

fault_by : (o : Option TextFault) (m : Map) (f : TextFault) → fault_or_map o m ≡ Err f → o ≡ Some f
fault_by (Some g) m f h = cc
fault_by None m f h = cc

faulty : ReadsWhole → ReadsBroken → (ws : List Word) (f : TextFault) → map_of_words ws ≡ Err f → HasMapFault ws f ⊎ HasFormFault ws f
faulty whole broken ws f h = faulty_by whole broken ws f (read ws).fault refl (fault_by (fault_of_words ws (read ws)) (map_of_draft (declared (read ws).decls).draft) f h)

is_faulty : ReadsWhole → ReadsBroken → (ws : List Word) (f : TextFault) → HasMapFault ws f ⊎ HasFormFault ws f → map_of_words ws ≡ Err f
is_faulty whole broken ws f (inl s) =
    let ds = s.declarations in
    let r : Reading = record { decls = ds; fault = None } in
    ap (answer ws) ((whole ws ds).0 s.form) ∙ answered (fault_of_words ws r) (map_of_draft (declared ds).draft) (Some f) s.first
is_faulty whole broken ws f (inr s) =
    let ds = s.declarations in
    let r : Reading = record { decls = ds; fault = Some s.at } in
    ap (answer ws) ((broken ws ds s.at).0 s.breaks) ∙ answered (fault_of_words ws r) (map_of_draft (declared ds).draft) (Some f) s.first

-- ---- texts

pub stored_map : DeclareMaps → ReadsWhole → (bytes : List ℕ) (m : Map) → (map_of_stored_text bytes ≡ Ok m) ↔ IsTextOf bytes m
unfolding map_of_stored_text
stored_map maps whole bytes m = (says maps whole (words bytes) m, is_said maps whole (words bytes) m)

pub stored_refused : ReadsWhole → ReadsBroken → (bytes : List ℕ) (f : TextFault) → (map_of_stored_text bytes ≡ Err f) ↔ HasFirstFault bytes f
unfolding map_of_stored_text
stored_refused whole broken bytes f = (faulty whole broken (words bytes) f, is_faulty whole broken (words bytes) f)

abbrev too_long : TextFault
too_long = record { line = 1; code = X7 }

map_by : (short : ℕ) (k : Bool) (r : Result Map TextFault) (m : Map) → nat_le short TEXT_LIMIT ≡ k → (if k then r else Err too_long) ≡ Ok m → (short ≤ TEXT_LIMIT) × (r ≡ Ok m)
map_by n true r m e h = (grind (arith, nat_tests), h)
map_by n false r m e h = cc

by_map : (n : ℕ) (k : Bool) (r : Result Map TextFault) (m : Map) → nat_le n TEXT_LIMIT ≡ k → n ≤ TEXT_LIMIT → r ≡ Ok m → (if k then r else Err too_long) ≡ Ok m
by_map n true r m e short h = h
by_map n false r m e short h = absurd (grind (arith, nat_tests))

refused_by : (n : ℕ) (k : Bool) (r : Result Map TextFault) (f : TextFault) → nat_le n TEXT_LIMIT ≡ k → (if k then r else Err too_long) ≡ Err f → ((TEXT_LIMIT < n) × (f ≡ too_long)) ⊎ ((n ≤ TEXT_LIMIT) × (r ≡ Err f))
refused_by n true r f e h = inr (grind (arith, nat_tests), h)
refused_by n false r f e h = inl (grind (arith, nat_tests), cc)

by_refused : (n : ℕ) (k : Bool) (r : Result Map TextFault) (f : TextFault) → nat_le n TEXT_LIMIT ≡ k → ((TEXT_LIMIT < n) × (f ≡ too_long)) ⊎ ((n ≤ TEXT_LIMIT) × (r ≡ Err f)) → (if k then r else Err too_long) ≡ Err f
by_refused n true r f e (inl (long, same)) = absurd (grind (arith, nat_tests))
by_refused n true r f e (inr (short, h)) = h
by_refused n false r f e (inl (long, same)) = ap Err (sym same)
by_refused n false r f e (inr (short, h)) = absurd (grind (arith, nat_tests))

pub text_map : DeclareMaps → ReadsWhole → (bytes : List ℕ) (m : Map) → (map_of_text bytes ≡ Ok m) ↔ (IsShort bytes × IsTextOf bytes m)
unfolding map_of_text
text_map maps whole bytes m =
    let n = length bytes in
    let stored = stored_map maps whole bytes m in (
      (λ h. let both = map_by n (nat_le n TEXT_LIMIT) (map_of_stored_text bytes) m refl h in (both.0, stored.0 both.1)),
      (λ h. by_map n (nat_le n TEXT_LIMIT) (map_of_stored_text bytes) m refl h.0 (stored.1 h.1)),
    )

mapped : {A B C : Type 0} → (B → C) → A ⊎ B → A ⊎ C
mapped f (inl a) = inl a
mapped f (inr b) = inr (f b)

pub text_refused : ReadsWhole → ReadsBroken → (bytes : List ℕ) (f : TextFault) → (map_of_text bytes ≡ Err f) ↔ IsRefusedFor bytes f
unfolding map_of_text
text_refused whole broken bytes f =
    let n = length bytes in
    let stored = stored_refused whole broken bytes f in (
      (λ h. mapped (λ x. (x.0, stored.0 x.1)) (refused_by n (nat_le n TEXT_LIMIT) (map_of_stored_text bytes) f refl h)),
      (λ h. by_refused n (nat_le n TEXT_LIMIT) (map_of_stored_text bytes) f refl (mapped (λ x. (x.0, stored.1 x.1)) h)),
    )

-- ---- a map or a fault

either_by : (bytes : List ℕ) (r : Result Map TextFault) → map_of_stored_text bytes ≡ r → ((m : Map) → (map_of_stored_text bytes ≡ Ok m) ↔ IsTextOf bytes m) → ((f : TextFault) → (map_of_stored_text bytes ≡ Err f) ↔ HasFirstFault bytes f) →
    ((m : Map) × IsTextOf bytes m) ⊎ ((f : TextFault) × HasFirstFault bytes f)
either_by bytes (Ok m) e map refused = inl (m, (map m).0 e)
either_by bytes (Err f) e map refused = inr (f, (refused f).0 e)

pub either : (bytes : List ℕ) → ((m : Map) → (map_of_stored_text bytes ≡ Ok m) ↔ IsTextOf bytes m) → ((f : TextFault) → (map_of_stored_text bytes ≡ Err f) ↔ HasFirstFault bytes f) →
    ((m : Map) × IsTextOf bytes m) ⊎ ((f : TextFault) × HasFirstFault bytes f)
either bytes map refused = either_by bytes (map_of_stored_text bytes) refl map refused

pub one_fault : (bytes : List ℕ) (f g : TextFault) → ((f : TextFault) → (map_of_stored_text bytes ≡ Err f) ↔ HasFirstFault bytes f) → HasFirstFault bytes f → HasFirstFault bytes g → f ≡ g
one_fault bytes f g refused p q =
    let a = (refused f).1 p in
    let b = (refused g).1 q in
    cc
