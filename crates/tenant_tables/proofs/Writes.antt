-- What a change writes are the rows of the state after it.
use Rattle.std.proofs.Common.{◌≡◌, ℕ, ℤ, pos, suc, ◌+◌, ◌==◌, ◌||◌, List, [], ◌∷◌, ◌++◌, length, map, fold, Bool, true, false, not, Some, None, Ordering, Less, Equal, Greater, nat_cmp, is_eq, bytes_eq, arith, refl, sym, ap, subst, ◌∙◌}
use Rattle.std.specs.Cmp.Lexicographic.{slice_cmp}
use Rattle.std.specs.List.{list_any}
use Rattle.std.specs.List.Sorted.{IsPermutation}
use Rattle.std.specs.Ordering.{match_ordering}
use Rattle.std.proofs.lemmas.List.Sorted.{IsPermutation-cons, IsPermutation-refl, IsPermutation-sym, IsPermutation-to_front, IsPermutation-trans}
use Rattle.std.proofs.lemmas.Map.Text.{is_eq-slice_cmp}
use Rattle.table_schema.specs.sqlite_value.specs.declared.value.Value.TheVariants.{Int}
use Rattle.table_schema.specs.sqlite_value.specs.declared.keys.Collation.TheVariants.{Binary}
use Rattle.table_schema.specs.sqlite_value.specs.Order.{Row, column}
use Rattle.table_schema.specs.sqlite_schema.specs.Rules.{equal}
use Rattle.sqlite_trees.specs.Tree.{Trees}
use Rattle.sqlite_trees.proofs.ListLemmas.{IsPermutation-filter}
use Rattle.crush_map.specs.Map.{Map}
use Rattle.crush_pool.specs.declared.pool.PoolParts.{PoolParts}
use Rattle.crush_pool.specs.declared.states.DeviceState.{DeviceState}
use Rattle.tenant_state.proofs.Counting.{grown}
use Rattle.tenant_state.proofs.Leaving.{state_stays, taken_suits}
use Rattle.tenant_state.proofs.Staying.{ascending_with}
use Rattle.tenant_state.specs.Ordered.{is_ascending, with_element}
use Rattle.tenant_state.specs.Receipts.{Receipts, receipt_of, with_receipt}
use Rattle.tenant_state.specs.State.{CanTake, Change, Inventory, Product, NewExceptions, NewPool, NewStates, NewVersion, RemovedPool, TenantPool, TenantState, after, epoch, inventory_of, is_like, is_lower_device, is_lower_pool, with_made, with_state, with_states}
use Rattle.tenant_state.specs.Valid.{IsChange, IsInventory}
use Rattle.tenant_state.specs.declared.receipts.Receipt.{Receipt}
use Rattle.tenant_tables.specs.Change as write
use Rattle.tenant_tables.specs.Change.{Accepts, IsNumber, without_key}
use Rattle.tenant_tables.specs.declared.commit.CommitHead.{CommitHead}
use Rattle.table_schema.specs.Values.{receipt_row}
use Rattle.table_schema.specs.Holds.{Holds, IsTenant, TenantRows, of_tenant}
use Rattle.table_schema.specs.Layout.{pools_table}
use Rattle.table_schema.specs.declared.find.Tenant.{Tenant}
use Rattle.table_schema.specs.declared.values.ReceiptValues as tables
use Rattle.tenant_tables.proofs.Keyed.{differs, none_taken, put, swap, taken}
use Rattle.tenant_tables.proofs.PairWrites.{exceptions_new, exceptions_put, exceptions_taken, pools_put}
use Rattle.tenant_tables.proofs.Reading.{more_versions}
use Rattle.tenant_tables.proofs.Turns.{keeps}
use Rattle.tenant_tables.specs.Changes.{IsChangeable, Turns}
use Rattle.tenant_tables.specs.Commits.{HasPoolsFor, numbers_of, rows_with_made, with_count}
use Rattle.tenant_tables.specs.Rows.{row_of_version, rows_of_versions, row_of_state, row_of_pool, rows_of_exceptions, row_of_receipt, rows_of}

-- ---- versions

new_version : (maps : List Map) (m : Map) → IsPermutation (row_of_version (length maps + 1) m ∷ rows_of_versions 1 maps) (rows_of_versions 1 (maps ++ m ∷ []))
new_version maps m =
    subst (IsPermutation (row_of_version (length maps + 1) m ∷ rows_of_versions 1 maps)) (sym (more_versions 1 (length maps + 1) maps m (omega arith)))
    (IsPermutation-sym _ _ (IsPermutation-to_front (rows_of_versions 1 maps) (row_of_version (length maps + 1) m)))

-- ---- states of devices and pools

new_states : (changed states : List DeviceState) (rows : List Row) → is_ascending is_lower_device states ≡ true → IsPermutation rows (map row_of_state states)
    → IsPermutation (fold write.with_state rows (map numbers_of changed)) (map row_of_state (with_states changed states))
new_states [] states rows up same = same
new_states (c ∷ cs) states rows up same =
    new_states cs (with_state states c) (write.with_state rows (numbers_of c)) (ascending_with (λ s. s.device) c states up)
    (IsPermutation-trans _ _ _ (IsPermutation-cons (row_of_state c) _ _ (IsPermutation-filter (λ row. not (equal Binary (column row 0) (Int (pos c.device)))) rows (map row_of_state states) same))
    (put (λ s. s.device) row_of_state (λ s. refl) c states up))

-- a pool that is like no other has another id
other_id : (p : PoolParts) (q : TenantPool) → is_like p q ≡ false → q.parts.id ≡ p.id → ⊥
other_id p q apart = differs q.parts.id p.id (left (q.parts.id == p.id) (bytes_eq q.parts.name p.name) apart)
  where
    left : (a b : Bool) → (a || b) ≡ false → a ≡ false
    left true b h = cc
    left false b h = refl

new_pool : (p : TenantPool) (pools : List TenantPool) → is_ascending is_lower_pool pools ≡ true → list_any (is_like p.parts) pools ≡ false
    → IsPermutation (row_of_pool p ∷ map row_of_pool pools) (map row_of_pool (with_element (λ q. q.parts.id) p pools))
new_pool p pools up new =
    subst (λ l. IsPermutation (row_of_pool p ∷ l) (map row_of_pool (with_element (λ q. q.parts.id) p pools)))
    (none_taken (λ q. q.parts.id) row_of_pool (λ q. refl) (is_like p.parts) p.parts.id (other_id p.parts) pools new)
    (put (λ q. q.parts.id) row_of_pool (λ q. refl) p pools up)

-- ---- receipts

new_receipt : (n : List ℕ) (r : Receipt) (es : Receipts) → receipt_of n es ≡ None
    → IsPermutation (row_of_receipt (n, r) ∷ map row_of_receipt es) (map row_of_receipt (with_receipt n r es))
new_receipt n r [] none = IsPermutation-refl _
new_receipt n r (e ∷ es) none = placed (slice_cmp nat_cmp n e.0) (is_eq-slice_cmp n e.0) none (new_receipt n r es)
  where
    placed : (o : Ordering) → is_eq o ≡ bytes_eq n e.0 → receipt_of n (e ∷ es) ≡ None
        → (receipt_of n es ≡ None → IsPermutation (row_of_receipt (n, r) ∷ map row_of_receipt es) (map row_of_receipt (with_receipt n r es)))
        → IsPermutation (row_of_receipt (n, r) ∷ map row_of_receipt (e ∷ es)) (map row_of_receipt (match_ordering o ((n, r) ∷ e ∷ es) ((e.0, r) ∷ es) (e ∷ with_receipt n r es)))
    placed Less same none later = IsPermutation-refl _
    placed Equal same none later = let both : Some e.1 ≡ None = rw (← same) at none in absurd cc
    placed Greater same none later =
        IsPermutation-trans _ _ _ (swap (row_of_receipt (n, r)) (row_of_receipt e) (map row_of_receipt es)) (IsPermutation-cons (row_of_receipt e) _ _ (later (rw (← same) at none)))

-- ---- all that is made

-- the rows are those of what a tenant has, in any order, and these receipts
record AreRows (rows : TenantRows) (i : Inventory) (receipts : List Row) : Type 0 where
  maps : IsPermutation rows.maps (rows_of_versions 1 i.versions)
  devices : IsPermutation rows.devices (map row_of_state i.devices)
  pools : IsPermutation rows.pools (map row_of_pool i.pools)
  receipts_are : rows.receipts ≡ receipts
  exceptions : IsPermutation rows.exceptions (rows_of_exceptions i.pools)

made_rows : (m : Product) (s : TenantState) → IsInventory (inventory_of s) → CanTake m (inventory_of s)
    → AreRows (rows_with_made (pos (length s.versions + 1)) m (rows_of s)) (with_made m (inventory_of s)) (map row_of_receipt s.receipts)
made_rows (NewVersion m) s is can =
    record { maps = new_version s.versions m; devices = IsPermutation-refl _; pools = IsPermutation-refl _; receipts_are = refl; exceptions = IsPermutation-refl _ }
made_rows (NewStates changed) s is can =
    record { maps = IsPermutation-refl _; devices = new_states changed s.devices _ is.device_order (IsPermutation-refl _); pools = IsPermutation-refl _; receipts_are = refl; exceptions = IsPermutation-refl _ }
made_rows (NewPool p) s is can =
    let new : TenantPool = record { parts = p; pairs = [] } in
    record {
      maps = IsPermutation-refl _;
      devices = IsPermutation-refl _;
      pools = new_pool new s.pools is.pool_order can.new;
      receipts_are = refl;
      exceptions = subst (IsPermutation (rows_of_exceptions s.pools)) (exceptions_new new refl (is_like p) (other_id p) s.pools can.new) (IsPermutation-refl _);
    }
made_rows (NewExceptions id pairs) s is can =
    record {
      maps = IsPermutation-refl _;
      devices = IsPermutation-refl _;
      pools = subst (IsPermutation (map (with_count (pos id) (pos (length pairs))) (map row_of_pool s.pools))) (pools_put id pairs s.pools is.pool_order) (IsPermutation-refl _);
      receipts_are = refl;
      exceptions = exceptions_put id pairs s.pools is.pool_order can;
    }
made_rows (RemovedPool id) s is can =
    record {
      maps = IsPermutation-refl _;
      devices = IsPermutation-refl _;
      pools = subst (IsPermutation (without_key (pos id) (map row_of_pool s.pools))) (taken (λ q. q.parts.id) row_of_pool (λ q. refl) id s.pools is.pool_order) (IsPermutation-refl _);
      receipts_are = refl;
      exceptions = subst (IsPermutation (without_key (pos id) (rows_of_exceptions s.pools))) (exceptions_taken id s.pools is.pool_order) (IsPermutation-refl _);
    }

-- the rows that a change leaves are those of the state after it
after_rows : (c : Change) (s : TenantState) (r : tables.ReceiptValues) (e : ℕ) (db : Trees) (name : List ℕ) → IsInventory (inventory_of s) → CanTake c.made (inventory_of s)
    → receipt_of c.number s.receipts ≡ None → receipt_row r ≡ row_of_receipt (c.number, c.receipt) → e ≡ epoch s + 1
    → Holds db name (record (write.with_receipt r (rows_with_made (pos (length s.versions + 1)) c.made (rows_of s))) { epoch = e }) → Holds db name (rows_of (after c s))
after_rows c s r e db name is can new row raised held =
    let made = made_rows c.made s is can in
    let one_more : length (with_receipt c.number c.receipt s.receipts) ≡ suc (length s.receipts) = grown c.number c.receipt s.receipts new in
    let epoch_is : e ≡ length (with_receipt c.number c.receipt s.receipts) = omega (arith, raised, one_more) in
    record {
      id = held.id;
      tenant = record { row = held.tenant.row; one = held.tenant.one; number = held.tenant.number; epoch_is = held.tenant.epoch_is ∙ ap (λ n. Int (pos n)) epoch_is };
      maps = IsPermutation-trans _ _ _ held.maps made.maps;
      devices = IsPermutation-trans _ _ _ held.devices made.devices;
      pools = IsPermutation-trans _ _ _ held.pools made.pools;
      exceptions = IsPermutation-trans _ _ _ held.exceptions made.exceptions;
      receipts = IsPermutation-trans _ _ _ held.receipts (subst (λ l. IsPermutation l (map row_of_receipt (with_receipt c.number c.receipt s.receipts)))
          (sym (ap (λ x. x ∷ (rows_with_made (pos (length s.versions + 1)) c.made (rows_of s)).receipts) row ∙ ap (λ l. row_of_receipt (c.number, c.receipt) ∷ l) made.receipts_are)) (new_receipt c.number c.receipt s.receipts new));
    }

-- ---- a change that is written

one_row : (a b : Row) → a ∷ [] ≡ b ∷ [] → a ≡ b
one_row a b h = cc

same_int : (a b : ℤ) → Int a ≡ Int b → a ≡ b
same_int a b h = cc

module _ (db : Trees) (name : List ℕ) (s : TenantState) (tenant : Tenant) (versions : ℕ) (c : Change) (may : IsChangeable db name s tenant versions c) where
  row_is : may.names.0 ≡ may.state.1.tenant.row
  row_is = one_row may.names.0 may.state.1.tenant.row (sym may.names.1 ∙ may.state.1.tenant.one)

  -- the number is that of the tenant
  pub id_is : may.state.1.id ≡ tenant.id
  id_is = same_int may.state.1.id tenant.id (sym may.state.1.tenant.number ∙ (ap (λ r. column r 0) (sym row_is) ∙ may.names.2))

  -- and the epoch that of its state
  pub epoch_is : tenant.epoch ≡ pos (epoch s)
  epoch_is = same_int tenant.epoch (pos (epoch s)) (sym may.names.3 ∙ (ap (λ r. column r 3) row_is ∙ may.state.1.tenant.epoch_is))

  -- its pools suit what is made
  pub pools_for : HasPoolsFor db tenant.id c.made
  pools_for = record {
    i = inventory_of s;
    has = may.state.0.has;
    rows = subst (λ n. IsPermutation (of_tenant pools_table n db) (map row_of_pool s.pools)) id_is may.state.1.pools;
    suits_it = taken_suits c.made (inventory_of s) may.can.made;
  }

  pub is_number : IsNumber db tenant.id
  is_number = (name, epoch s, subst (λ id. IsTenant db name id (epoch s)) id_is may.state.1.tenant)

  -- what a commit makes of the rows stands for the state after the change
  pub turned : (new : Trees) (a : CommitHead) (number : ℤ) → IsChange c → a.id ≡ tenant.id → a.epoch ≡ pos (epoch s + 1) → receipt_row a.receipt ≡ row_of_receipt (c.number, c.receipt) → number ≡ pos (versions + 1)
      → Accepts a (rows_with_made number c.made) db new → Turns name (Some (after c s)) db new
  turned new a number change own raised row numbered accepts =
      let turn = accepts name (rows_of s) (epoch s + 1) may.state.1 (id_is ∙ sym own) raised in
      let at : number ≡ pos (length s.versions + 1) = numbered ∙ ap (λ n. pos (n + 1)) may.count in
      record {
        own = (
          state_stays c s change may.can may.state.0,
          after_rows c s a.receipt (epoch s + 1) new name may.state.0.has may.can.made may.can.new row refl
              (subst (λ n. Holds new name (record (write.with_receipt a.receipt (rows_with_made n c.made (rows_of s))) { epoch = epoch s + 1 })) at turn.own),
        );
        others = λ other u apart. keeps other db new u (turn.others other apart);
      }
