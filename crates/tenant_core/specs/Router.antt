-- The route of a path: by `matchit`'s rule, literal text goes before a parameter in braces.
use Rattle.std.specs.Prelude.{ℕ, List, [], fold, Option, option_map, Result, Ok, Err}
use Rattle.matchit.specs.Rows.{RowsOf}
use Rattle.matchit.specs.Order.{placed}
use Rattle.matchit.specs.Router.{RouteOf, route_from}
use Rattle.matchit.specs.Route.{Scan, parse_route}
use Rattle.matchit.specs.Seek.{first}
use Rattle.matchit.specs.declared.error.InsertError.{InsertError}
use Rattle.tenant_core.specs.Route.{routes}
use Rattle.tenant_core.specs.Target.{Target}
use Rattle.tenant_core.specs.declared.route.Methods.{Methods}

-- ---- the table of paths

abbrev pub Table : Type 0
Table = RowsOf (RouteOf Methods)

-- a table with what was read of one more path
abbrev pub with_read : Result Scan InsertError → Methods → Table → Table
with_read (Ok scan) methods rows = placed (scan.pattern, route_from scan methods) rows
with_read (Err e) methods rows = rows

-- a table with one more path
abbrev pub with_path : Table → List ℕ × Methods → Table
with_path rows path = with_read (parse_route path.0) path.1 rows

unfoldable pub table : Table
table = fold with_path [] routes

-- ---- what a path names

abbrev pub target_of : List ℕ → Option Target
target_of path = option_map (λ row. record { row = row; path = path }) (first table path)
