-- The transactions that make the tables.
use Rattle.std.proofs.Common.{Bor, ◌≡◌, ℕ, List, [], ◌∷◌, sym, ap, subst, ◌∙◌}
use Rattle.sqlite.specs.Store.{Ghosts}
use Rattle.sqlite.specs.Held.{Held, state}
use Rattle.sqlite.specs.Effect.{Database, IsDatabase}
use Rattle.table_schema.specs.Layout.{no_schema, first_schema}
use Rattle.tenant_tables.specs.Run.{Makes, begun}
use Rattle.tenant_tables.specs.declared.write.Write.TheVariants.{Plain}
use Rattle.tenant_tables.specs.Opened.{HasVersion, IsBare, IsMigrated}
use Rattle.tenant_tables.proofs.TableTexts.{info_text, tenants_text, maps_text, devices_text, pools_text, exceptions_text, receipts_text, version_text, copy_text, drop_text, second_text}
use Rattle.tenant_tables.proofs.Making.{made_bare}
use Rattle.tenant_tables.proofs.Migrating.{migrated}

-- a borrowed text, wherever it lies
abbrev lent : List ℕ → Bor (List ℕ)
lent text = record { ref_ptr = (0, 0); now = text }

pub makes_bare : {S : Type 0} (g : Ghosts S) (old : Held S) → (state g old).now.schema ≡ no_schema → (db : Database)
    → Makes g (Plain (lent info_text) ∷ Plain (lent tenants_text) ∷ Plain (lent maps_text) ∷ Plain (lent devices_text) ∷ Plain (lent receipts_text) ∷ Plain (lent pools_text) ∷ Plain (lent exceptions_text) ∷ Plain (lent version_text) ∷ []) old db → IsBare db
makes_bare g old none db made =
    let r1 = made.1 in
    let r2 = r1.4 in
    let r3 = r2.4 in
    let r4 = r3.4 in
    let r5 = r4.4 in
    let r6 = r5.4 in
    let r7 = r6.4 in
    let r8 = r7.4 in
    let bare = made_bare (state g (begun g old)) (state g r1.0) (state g r2.0) (state g r3.0) (state g r4.0) (state g r5.0) (state g r6.0) (state g r7.0) (state g r8.0) r1.1 r2.1 r3.1 r4.1 r5.1 r6.1 r7.1 r8.1 none r1.3 r2.3 r3.3 r4.3 r5.3 r6.3 r7.3 r8.3 in
    subst IsBare (sym (made.2 ∙ ap (λ h. (state g h).now) r8.4)) bare

pub makes_migrated : {S : Type 0} (g : Ghosts S) (old : Held S) → (state g old).now.schema ≡ first_schema → IsDatabase (state g old).now → HasVersion 1 (state g old).now.trees → (db : Database)
    → Makes g (Plain (lent pools_text) ∷ Plain (lent exceptions_text) ∷ Plain (lent copy_text) ∷ Plain (lent drop_text) ∷ Plain (lent second_text) ∷ []) old db → IsMigrated (state g old).now db
makes_migrated g old has sound version db made =
    let r1 = made.1 in
    let r2 = r1.4 in
    let r3 = r2.4 in
    let r4 = r3.4 in
    let r5 = r4.4 in
    let it = migrated (state g (begun g old)) (state g r1.0) (state g r2.0) (state g r3.0) (state g r4.0) (state g r5.0) r1.1 r2.1 r3.1 r4.1 r5.1 has sound version r1.3 r2.3 r3.3 r4.3 r5.3 in
    subst (IsMigrated (state g old).now) (sym (made.2 ∙ ap (λ h. (state g h).now) r5.4)) it
