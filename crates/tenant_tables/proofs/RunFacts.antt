-- Several writes in one transaction.
use Rattle.std.proofs.Common.{append_assoc, ◌≡◌, ℕ, ℤ, ◌+◌, ◌<◌, List, [], ◌∷◌, ◌++◌, take, fold, length, get_or, Ok, IsTrue, refl, sym, subst, ◌∙◌, ap, add-one}
use Rattle.std.proofs.Math.Seq.{take-suc}
use Rattle.sqlite.specs.Store.{Ghosts}
use Rattle.sqlite.specs.Held.{Held, state}
use Rattle.sqlite.specs.State.{Executes, ExecutesInside}
use Rattle.tenant_tables.specs.declared.commit.CommitHead.{CommitHead}
use Rattle.tenant_tables.specs.declared.write.Write.{Write}
use Rattle.std.specs.List.{AllByRecursion}
use Rattle.table_schema.specs.declared.values.ExceptionRow.{ExceptionRow}
use Rattle.table_schema.specs.declared.values.PoolValues.{PoolValues}
use Rattle.table_schema.specs.declared.values.StateRow.{StateRow}
use Rattle.table_schema.specs.Values.{pool_row, exception_row}
use Rattle.tenant_tables.specs.declared.write.Write.TheVariants.{Raise, ClearState, AddState, AddException, AddReceipt}
use Rattle.sqlite.specs.Effect.{Database}
use Rattle.table_schema.specs.Holds.{TenantRows, Holds, Turns}
use Rattle.tenant_tables.specs.Change.{with_state, with_states, without_key, with_exceptions, Accepts, IsNumber}
use Rattle.tenant_tables.specs.Run.{AreSound, text_of, params_of, Ran, begun, Inside, state_writes, pool_writes, exception_writes, writes_with, Makes}
use Rattle.table_schema.specs.Ready.{IsReady}
use Rattle.tenant_tables.proofs.Accepting.{does, does_all, IsAbout, accepts, accepted_sound}

module _ {S : Type 0} (g : Ghosts S) where
  -- one more write at the end
  ran_last : (writes : List Write) (w : Write) (old mid new : Held S) (count : ℕ) → Ran g writes old mid → IsTrue (state g mid).is_open
      → Executes (text_of w) (params_of w) (state g mid) (state g new) (Ok count) → Ran g (writes ++ w ∷ []) old new
  ran_last [] w old mid new count ran live last = (new, count, rw ran at live, rw ran at last, refl)
  ran_last (x ∷ writes) w old mid new count ran live last = (ran.0, ran.1, ran.2, ran.3, ran_last writes w ran.0 mid new count ran.4 live last)

  pub inside_more : (all : List Write) (i : ℕ) (w : Write) (old mid new : Held S) (count : ℕ) → i < length all → Inside g (take i all) old mid
      → ExecutesInside 0 (text_of (get_or all i w)) (params_of (get_or all i w)) (state g mid) (state g new) (Ok count) → Inside g (take (i + 1) all) old new
  inside_more all i w old mid new count low it ran = record {
    ran = subst (λ writes. Ran g writes (begun g old) new) (sym (ap (λ n. take n all) (add-one i) ∙ take-suc all i w low)) (ran_last (take i all) (get_or all i w) (begun g old) mid new count it.ran ran.1.was_open ran.0);
    mode = ran.1.mode;
    was_open = λ _. it.was_open ran.1.was_open;
    committed = ran.1.committed_is ∙ it.committed;
  }

-- ---- the writes for states

pub written_more : (id e : ℤ) (states : List StateRow) (i : ℕ) (d : StateRow) (before mid after : List Write) → i < length states → before ≡ Raise id e ∷ state_writes id (take i states)
    → mid ≡ before ++ ClearState id (get_or states i d).device ∷ [] → after ≡ mid ++ AddState id (get_or states i d) ∷ [] → after ≡ Raise id e ∷ state_writes id (take (i + 1) states)
written_more id e states i d before mid after low first second third =
    third ∙ ap (λ l. l ++ AddState id (get_or states i d) ∷ []) (second ∙ ap (λ l. l ++ ClearState id (get_or states i d).device ∷ []) first)
    ∙ ap (λ l. Raise id e ∷ l) (append_assoc (state_writes id (take i states)) (ClearState id (get_or states i d).device ∷ []) (AddState id (get_or states i d) ∷ []) ∙ sym (one_more (take i states) (get_or states i d)))
    ∙ ap (λ l. Raise id e ∷ state_writes id l) (sym (ap (λ n. take n states) (add-one i) ∙ take-suc states i d low))
  where
    one_more : (front : List StateRow) (s : StateRow) → state_writes id (front ++ s ∷ []) ≡ state_writes id front ++ ClearState id s.device ∷ AddState id s ∷ []
    one_more [] s = refl
    one_more (x ∷ front) s = ap (λ l. ClearState id x.device ∷ AddState id x ∷ l) (one_more front s)

pub does_states : (states : List StateRow) (id : ℤ) (w : Write) (rows : TenantRows) → does_all rows (state_writes id states ++ w ∷ []) ≡ does (with_states states rows) w
does_states [] id w rows = refl
does_states (s ∷ states) id w rows = does_states states id w (record rows { devices = with_state rows.devices s })

pub about_states : (states : List StateRow) (id : ℤ) (w : Write) → IsAbout id w → AllByRecursion (IsAbout id) (state_writes id states ++ w ∷ [])
about_states [] id w about = (about, tt)
about_states (s ∷ states) id w about = (refl, (refl, about_states states id w about))

pub accepts_states : {S : Type 0} (g : Ghosts S) (old : Held S) → IsReady (state g old) → (a : CommitHead) (states : List StateRow) (db : Database) → Makes g (writes_with a (state_writes a.id states)) old db
    → Accepts a (with_states states) (state g old).now.trees db.trees × (IsNumber (state g old).now.trees a.id → AreSound db)
accepts_states g old ready a states db made =
    let last = AddReceipt a.id a.receipt in
    let writes = state_writes a.id states ++ last ∷ [] in
    let about = about_states states a.id last refl in (
      (λ name rows epoch held same is. subst (λ r. Turns name (λ trees. Holds trees name (record r { epoch = epoch })) (state g old).now.trees db.trees) (does_states states a.id last rows)
          (accepts g old ready a.id a.epoch writes about db made name rows epoch held same is)),
      (λ there. accepted_sound g old ready a.id a.epoch writes about db made there.0 there.1 there.2),
    )

-- ---- the writes for exceptions

pub exceptions_more : (id epoch : ℤ) (pool : PoolValues) (exceptions : List ExceptionRow) (i : ℕ) (d : ExceptionRow) (before after : List Write) → i < length exceptions → before ≡ (Raise id epoch ∷ pool_writes id pool) ++ exception_writes id (take i exceptions)
    → after ≡ before ++ AddException id (get_or exceptions i d) ∷ [] → after ≡ (Raise id epoch ∷ pool_writes id pool) ++ exception_writes id (take (i + 1) exceptions)
exceptions_more id epoch pool exceptions i d before after low first second =
    let front : List Write = Raise id epoch ∷ pool_writes id pool in
    second ∙ ap (λ l. l ++ AddException id (get_or exceptions i d) ∷ []) first ∙ append_assoc front (exception_writes id (take i exceptions)) (AddException id (get_or exceptions i d) ∷ [])
    ∙ ap (λ l. front ++ l) (sym (one_more (take i exceptions) (get_or exceptions i d)) ∙ ap (exception_writes id) (sym (ap (λ n. take n exceptions) (add-one i) ∙ take-suc exceptions i d low)))
  where
    one_more : (before : List ExceptionRow) (e : ExceptionRow) → exception_writes id (before ++ e ∷ []) ≡ exception_writes id before ++ AddException id e ∷ []
    one_more [] e = refl
    one_more (x ∷ before) e = ap (λ l. AddException id x ∷ l) (one_more before e)

does_exceptions : (exceptions : List ExceptionRow) (id : ℤ) (w : Write) (rows : TenantRows)
    → does_all rows (exception_writes id exceptions ++ w ∷ []) ≡ does (record rows { exceptions = fold (λ earlier e. exception_row e ∷ earlier) rows.exceptions exceptions }) w
does_exceptions [] id w rows = refl
does_exceptions (e ∷ exceptions) id w rows = does_exceptions exceptions id w (record rows { exceptions = exception_row e ∷ rows.exceptions })

about_exceptions : (exceptions : List ExceptionRow) (id : ℤ) (w : Write) → IsAbout id w → AllByRecursion (IsAbout id) (exception_writes id exceptions ++ w ∷ [])
about_exceptions [] id w about = (about, tt)
about_exceptions (e ∷ exceptions) id w about = (refl, about_exceptions exceptions id w about)

pub accepts_exceptions : {S : Type 0} (g : Ghosts S) (old : Held S) → IsReady (state g old) → (a : CommitHead) (pool : PoolValues) (exceptions : List ExceptionRow) (db : Database)
    → Makes g (writes_with a (pool_writes a.id pool ++ exception_writes a.id exceptions)) old db
    → Accepts a (with_exceptions pool exceptions) (state g old).now.trees db.trees × (IsNumber (state g old).now.trees a.id → AreSound db)
accepts_exceptions g old ready a pool exceptions db made =
    let last = AddReceipt a.id a.receipt in
    let writes = pool_writes a.id pool ++ exception_writes a.id exceptions ++ last ∷ [] in
    let about : AllByRecursion (IsAbout a.id) writes = (refl, (refl, (refl, about_exceptions exceptions a.id last refl))) in (
      (λ name rows epoch held same is. subst (λ r. Turns name (λ trees. Holds trees name (record r { epoch = epoch })) (state g old).now.trees db.trees)
          (does_exceptions exceptions a.id last (record rows { pools = pool_row pool ∷ without_key pool.id rows.pools; exceptions = without_key pool.id rows.exceptions }))
          (accepts g old ready a.id a.epoch writes about db made name rows epoch held same is)),
      (λ there. accepted_sound g old ready a.id a.epoch writes about db made there.0 there.1 there.2),
    )
