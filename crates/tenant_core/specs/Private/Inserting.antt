-- Adding paths to the table.
use Rattle.std.specs.Prelude.{ℕ, List, [], ◌∷◌, Bool, true, false, ◌&&◌, is_none, is_ok, Result, Ok, Err}
use Rattle.matchit.specs.Route.{Scan, parse_route}
use Rattle.matchit.specs.Router.{nearest}
use Rattle.matchit.specs.declared.error.InsertError.{InsertError}
use Rattle.tenant_core.specs.Router.{Table, with_path}
use Rattle.tenant_core.specs.declared.route.Methods.{Methods}

-- no row of the table conflicts with what was read of the path
abbrev pub is_new : Result Scan InsertError → Table → Bool
is_new (Ok scan) rows = is_none (nearest scan.pattern rows)
is_new (Err e) rows = false

-- each path is well formed, and conflicts with none before it
abbrev pub are_new : List (List ℕ × Methods) → Table → Bool
are_new [] rows = true
are_new (path ∷ paths) rows = is_ok (parse_route path.0) && (is_new (parse_route path.0) rows && are_new paths (with_path rows path))
