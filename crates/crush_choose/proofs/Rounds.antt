-- Rounds of tries end with the one list of marks that follows from its own tries.
use Rattle.std.proofs.Common.{◌≡◌, ℕ, zero, suc, ◌<◌, ◌≤◌, length, true, false, Option, Some, None, slice_index_or, inl, inr, refl, ap, sym, subst, ◌∙◌, is_some, arith, get_or-set_other, get_or-set_same}
use Rattle.std.specs.List.{list_all}
use Rattle.std.proofs.Math.ListN.{length-set}
use Rattle.std.proofs.Math.Nat.{eq-or-lt_of_le}
use Rattle.std.proofs.lemmas.Bool.{cases_lt, cases_eq}
use Rattle.std.proofs.lemmas.Bool.Decides.{nat_tests}
use Rattle.std.proofs.lemmas.List.{ext_get_or, get_or_past, get_or-replicate, length-replicate}
use Rattle.std.proofs.lemmas.List.Folds.{list_all_at}
use Rattle.crush_choose.specs.declared.mark.Spot.{Spot}
use Rattle.crush_choose.specs.declared.mark.Mark.{Mark}
use Rattle.crush_choose.specs.declared.mark.Mark.TheVariants.{Skipped, Placed}
use Rattle.crush_choose.specs.Least.{least, or_else}
use Rattle.crush_choose.specs.Marks.{Marks}
use Rattle.crush_choose.specs.Indep.{comes_before, earlier, after_try, in_round, after_rounds}
use Rattle.crush_choose.proofs.Least.{holds_from, least_same, least_stays}

-- the outcome of try f of a position, given the marks of all positions
abbrev pub Tries : Type 0
Tries = Marks → ℕ → ℕ → Option Mark

-- the mark at a position, none after the last
abbrev pub at : Marks → ℕ → Option Mark
at marks pos = slice_index_or marks pos None

-- lists of one length that place the same before try f of a position
pub record PlaceAlike (f pos : ℕ) (a b : Marks) : Type 0 where
  pub long : length a ≡ length b
  pub same : (q : ℕ) → earlier f pos q (at a q) ≡ earlier f pos q (at b q)

-- a try depends only on the marks placed before it, and what it places has its number
pub record IsOrderly (tries : Tries) : Type 0 where
  pub alike : (a b : Marks) (f pos : ℕ) → PlaceAlike f pos a b → tries a pos f ≡ tries b pos f
  pub numbered : (a : Marks) (f pos : ℕ) (s : Spot) → tries a pos f ≡ Some (Placed s) → s.round ≡ f

-- each position has the outcome of its first try that doesn't fail, given the list itself
pub record IsSettled (tries : Tries) (n rounds : ℕ) (a : Marks) : Type 0 where
  pub long : length a ≡ n
  pub each : (q : ℕ) → q < n → at a q ≡ least (tries a q) rounds

-- ---- the order of tries

-- a try of a later round doesn't come before
later_round : (g q f pos : ℕ) → f < g → comes_before g q f pos ≡ false
later_round g q f pos lt = grind (arith, nat_tests)

-- nor does one of the same round at a position that isn't smaller
not_before : (g q f pos : ℕ) → f ≤ g → pos ≤ q → comes_before g q f pos ≡ false
not_before g q f pos le to = grind (arith, nat_tests)

-- a mark of a try that doesn't come before counts as none
hidden : (g q f pos : ℕ) (m : Option Mark) → ((s : Spot) → m ≡ Some (Placed s) → s.round ≡ g) → comes_before g q f pos ≡ false → earlier f pos q m ≡ None
hidden g q f pos None numbered e = refl
hidden g q f pos (Some Skipped) numbered e = refl
hidden g q f pos (Some (Placed s)) numbered e = rw (numbered s refl, e) refl

-- adding a mark that doesn't come before changes nothing
unseen : (f pos q : ℕ) (m now : Option Mark) → earlier f pos q now ≡ None → earlier f pos q (or_else m now) ≡ earlier f pos q m
unseen f pos q None now e = e
unseen f pos q (Some m) now e = refl

-- ---- one try

module _ (tries : Tries) (n : ℕ) where
  -- before position pos is tried in round f, the marks are the outcomes so far of the tries given
  -- the list a
  record Follow (a : Marks) (f pos : ℕ) (now : Marks) : Type 0 where
    long : length now ≡ n
    played : (q : ℕ) → q < pos → at now q ≡ least (tries a q) (suc f)
    waiting : (q : ℕ) → pos ≤ q → q < n → at now q ≡ least (tries a q) f

  -- the marks are the outcomes of the tries given themselves, and given each settled list
  record Stand (rounds f pos : ℕ) (now : Marks) : Type 0 where
    own : Follow now f pos now
    settled : (a : Marks) → IsSettled tries n rounds a → Follow a f pos now

  -- a try with the outcome that it has given a
  try_follows : (a : Marks) (f pos : ℕ) (now : Marks) → pos < n → tries now pos f ≡ tries a pos f → Follow a f pos now → Follow a f (suc pos) (after_try tries f pos now)
  try_follows a f pos now lt same is =
      let fits : pos < length now = rw is.long lt in
      let here : at (after_try tries f pos now) pos ≡ least (tries a pos) (suc f) =
      get_or-set_same now pos _ None fits ∙ rw (same, is.waiting pos (omega arith) lt) refl in
      record {
        long = simp length-set is.long;
        played = λ q less. let le : q ≤ pos = omega arith in elim (eq-or-lt_of_le le) [
          | inl last ↦ subst (λ p. at (after_try tries f pos now) p ≡ least (tries a p) (suc f)) (sym last) here
          | inr sooner ↦ get_or-set_other now pos q _ None (omega arith) ∙ is.played q sooner
        ];
        waiting = λ q low less. get_or-set_other now pos q _ None (omega arith) ∙ is.waiting q (omega arith) less;
      }

  -- if the tries so far are the same given another list
  beside : (a b : Marks) (f pos : ℕ) (now : Marks) → ((g q : ℕ) → g ≤ f → (g ≡ f → q < pos) → tries a q g ≡ tries b q g) → Follow a f pos now → Follow b f pos now
  beside a b f pos now same is = record {
    long = is.long;
    played = λ q less. is.played q less ∙ least_same _ _ (suc f) (λ g lt. same g q (omega arith) (λ e. less));
    waiting = λ q low less. is.waiting q low less ∙ least_same _ _ f (λ g lt. same g q (omega arith) (λ e. absurd (omega arith)));
  }

  -- the end of a round is the start of the next
  next_round : (a : Marks) (f : ℕ) (now : Marks) → Follow a f n now → Follow a (suc f) 0 now
  next_round a f now is = record { long = is.long; played = λ q lt. absurd (omega arith); waiting = λ q low lt. is.played q lt }

  -- before the first try nothing is decided
  at_first : (a : Marks) → Follow a 0 0 (after_rounds tries n 0)
  at_first a = record { long = length-replicate n None; played = λ q lt. absurd (omega arith); waiting = λ q low lt. get_or-replicate n q None None lt }

-- ---- what tries depend on

module _ (tries : Tries) (is : IsOrderly tries) where
  -- tries that don't come before change nothing that another depends on
  further_unseen : (a : Marks) (f pos q low rounds : ℕ) → low ≤ rounds → ((g : ℕ) → low ≤ g → comes_before g q f pos ≡ false)
      → earlier f pos q (least (tries a q) low) ≡ earlier f pos q (least (tries a q) rounds)
  further_unseen a f pos q low rounds le later =
      holds_from (λ k. earlier f pos q (least (tries a q) low) ≡ earlier f pos q (least (tries a q) k)) low rounds le refl (λ k from same.
      same ∙ sym (unseen f pos q (least (tries a q) k) (tries a q k) (hidden k q f pos (tries a q k) (is.numbered a k q) (later k from))))

  -- no try up to the one at pos in round f sees what that one places
  try_unseen : (f pos : ℕ) (now : Marks) → pos < length now → (g q : ℕ) → g ≤ f → (g ≡ f → q < suc pos) → PlaceAlike g q now (after_try tries f pos now)
  try_unseen f pos now lt g q le order = record {
    long = simp length-set refl;
    same = λ p. elim (cases_eq p pos) [
      | inl here ↦
          let after : comes_before f pos g q ≡ false = elim (eq-or-lt_of_le le) [
            | inl last ↦ (let upto : q < suc pos = order last in not_before f pos g q (omega arith) (omega arith))
            | inr sooner ↦ later_round f pos g q sooner
          ] in
          let put : at (after_try tries f pos now) pos ≡ or_else (at now pos) (tries now pos f) = get_or-set_same now pos _ None lt in
          rw (here, put) (sym (unseen g q pos (at now pos) (tries now pos f) (hidden f pos g q (tries now pos f) (is.numbered now f pos) after)))
      | inr other ↦ ap (earlier g q p) (sym (get_or-set_other now pos p _ None other))
    ];
  }

  -- before a try, a settled list places what the marks place
  settled_alike : (n rounds : ℕ) (a : Marks) (f pos : ℕ) (now : Marks) → f < rounds → IsSettled tries n rounds a → Follow tries n a f pos now → PlaceAlike f pos now a
  settled_alike n rounds a f pos now lt settled follow = record {
    long = follow.long ∙ sym settled.long;
    same = λ q. elim (cases_lt q n) [
      | inl less ↦ elim (cases_lt q pos) [
        | inl played ↦ rw (follow.played q played, settled.each q less) (further_unseen a f pos q (suc f) rounds lt (λ g low. later_round g q f pos low))
        | inr waiting ↦
            rw (follow.waiting q waiting less, settled.each q less) (further_unseen a f pos q f rounds (omega arith) (λ g low. not_before g q f pos low waiting))
      ]
      | inr past ↦
          let here : length now ≤ q = rw follow.long past in
          let there : length a ≤ q = rw settled.long past in
          rw (get_or_past now q None here, get_or_past a q None there) refl
    ];
  }

-- ---- all tries

-- a decided position has what further rounds would give it
decided_stays : (said : ℕ → Option Mark) (n m : ℕ) (now : Option Mark) → n ≤ m → now ≡ least said n → (now ≡ None → ⊥) → now ≡ least said m
decided_stays said n m None le e some = absurd (some refl)
decided_stays said n m (Some mark) le e some = sym (least_stays said n m mark le (sym e))

module _ (tries : Tries) (is : IsOrderly tries) (n : ℕ) where
  -- one step: a try follows given the list that it makes, and given each settled list
  one_try : (rounds f pos : ℕ) (now : Marks) → f < rounds → pos < n → Stand tries n rounds f pos now → Stand tries n rounds f (suc pos) (after_try tries f pos now)
  one_try rounds f pos now round lt stand =
      let fits : pos < length now = rw stand.own.long lt in
      record {
        own = beside tries n now (after_try tries f pos now) f (suc pos) _
            (λ g q le order. is.alike now (after_try tries f pos now) g q (try_unseen tries is f pos now fits g q le order))
            (try_follows tries n now f pos now lt refl stand.own);
        settled = λ a a_settled.
            let follow = stand.settled a a_settled in
            try_follows tries n a f pos now lt (is.alike now a f pos (settled_alike tries is n rounds a f pos now round a_settled follow)) follow;
      }

  tries_of_round : (rounds f pos : ℕ) (now : Marks) → f < rounds → pos ≤ n → Stand tries n rounds f 0 now → Stand tries n rounds f pos (in_round tries f pos now)
  tries_of_round rounds f zero now round le stand = stand
  tries_of_round rounds f (suc pos) now round le stand = one_try rounds f pos _ round le (tries_of_round rounds f pos now round (omega arith) stand)

  all_rounds : (rounds f : ℕ) → f ≤ rounds → Stand tries n rounds f 0 (after_rounds tries n f)
  all_rounds rounds zero le = record { own = at_first tries n _; settled = λ a a_settled. at_first tries n a }
  all_rounds rounds (suc f) le =
      let stand = tries_of_round rounds f n _ le (omega arith) (all_rounds rounds f (omega arith)) in
      record { own = next_round tries n _ f _ stand.own; settled = λ a a_settled. next_round tries n a f _ (stand.settled a a_settled) }

  -- ---- the end of the rounds

  pub rounds_settle : (rounds : ℕ) → IsSettled tries n rounds (after_rounds tries n rounds)
  rounds_settle rounds =
      let own = (all_rounds rounds rounds (omega arith)).own in
      record { long = own.long; each = λ q lt. own.waiting q (omega arith) lt }

  pub settled_once : (rounds : ℕ) (a : Marks) → IsSettled tries n rounds a → a ≡ after_rounds tries n rounds
  settled_once rounds a settled =
      let follow = (all_rounds rounds rounds (omega arith)).settled a settled in
      ext_get_or None a _ (settled.long ∙ sym follow.long) (λ q less.
      let lt : q < n = rw (← settled.long) less in
      settled.each q lt ∙ sym (follow.waiting q (omega arith) lt))

  -- if each position is decided, the list is settled: further rounds change nothing
  pub rounds_decided : (f rounds : ℕ) (now : Marks) → f ≤ rounds → now ≡ after_rounds tries n f → list_all (λ m. is_some m) now ≡ true → now ≡ after_rounds tries n rounds
  rounds_decided f rounds now le e all =
      let settled : IsSettled tries n f now = rw e (rounds_settle f) in
      settled_once rounds now (record {
        long = settled.long;
        each = λ q lt.
            let fits : q < length now = rw settled.long lt in
            decided_stays (tries now q) f rounds (at now q) le (settled.each q lt) (λ none.
            let some : list_all (λ (m : Option Mark). is_some m) now ≡ false = list_all_at (λ (m : Option Mark). is_some m) now q None fits (rw none refl) in
            let bad : true ≡ false = sym all ∙ some in cc);
      })
