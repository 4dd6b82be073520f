use Rattle.std.proofs.Common.{◌≡◌, inr, ℕ, List, if◌then◌else◌, Result, Ok, Err, Some, OnOk, OnErr, string_bytes, subst, sym, ap, ◌∙◌}
use Rattle.std.specs.declared.alloc.Global.{Global}
use Rattle.std.specs.BTreeMap.{get_by_text}
use Rattle.std.specs.Cmp.Lexicographic.{slice_cmp}
use Rattle.std.specs.Map.{lookup}
use Rattle.std.specs.Ordering.{is_eq, nat_cmp}
use Rattle.std.specs.Str.{bytes_eq}
use Rattle.std.proofs.lemmas.Map.Text.{btree_map_updates_text}
use Rattle.std.proofs.lemmas.Result.{on_ok_weaker, on_err_weaker}
use Rattle.tenant_store.specs.Judged.{Adds, Counts}
use Rattle.tenant_store.proofs.Counts.{put, added}
use Rattle.tenant_store.proofs.judged.remember.Goals as goal

-- whether or not the number was put
either : {A E : Type 0} (r : Result A E) (old new : Counts) (name : List ℕ) (n : ℕ) → OnOk r ((t : List ℕ) → new t ≡ (if bytes_eq name t then Some n else old t)) → OnErr r ((t : List ℕ) → new t ≡ old t) → Adds name n old new
either (Ok a) old new name n ok err = added old new name n (put old new name n ok)
either (Err e) old new name n ok err = λ t m h. inr (sym (err t) ∙ h)

pub returns-in-Ok : goal.returns-in-Ok
returns-in-Ok c =
    subst (λ name. Adds name c.args.versions (get_by_text c.args.judged.now) (get_by_text c.insert-earlier.new.self)) c.in-Ok.ensures.ok
    (either c.insert-earlier.result (get_by_text c.args.judged.now) (get_by_text c.insert-earlier.new.self) (string_bytes c.in-Ok.key) c.args.versions
    (on_ok_weaker c.insert-earlier.result (btree_map_updates_text {Y = Global} (string_bytes c.in-Ok.key) c.args.judged.now c.insert-earlier.new.self (Some c.args.versions)) c.insert-earlier.ensures.updates)
    (on_err_weaker c.insert-earlier.result (λ same t. ap (λ es. lookup (λ k. is_eq (slice_cmp nat_cmp t (string_bytes k))) es) same) c.insert-earlier.ensures.err))
