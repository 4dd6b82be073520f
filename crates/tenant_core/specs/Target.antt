-- A path that has a route, and its parts.
use Rattle.std.specs.Prelude.{ℕ, List, if◌then◌else◌, Option, None, option_and_then}
use Rattle.std.specs.Char.{is_ascii}
use Rattle.std.specs.List.{list_all}
use Rattle.matchit.specs.Params.{walk, named}
use Rattle.matchit.specs.Router.{RouteOf}
use Rattle.crush_grammar.specs.Numbers.{number_of}
use Rattle.tenant_core.specs.declared.route.Methods.{Methods}

-- a path with the row of its route
pub record Target : Type 0 where
  pub row : RouteOf Methods
  pub path : List ℕ

abbrev pub methods_in : Target → Methods
methods_in target = target.row.value

-- the part of the path that a parameter of the route took, as the router says. A path with a byte
-- that isn't ASCII has no parameters: a name and a number are ASCII, and so are the texts of the
-- routes
abbrev pub parameter : List ℕ → Target → Option (List ℕ)
parameter key target =
    if list_all is_ascii target.path then named key (walk target.row.pattern target.row.text target.path target.row.names 0 0) else None

-- the number that the part of a parameter writes in 1 to 10 digits
abbrev pub path_number : List ℕ → Target → Option ℕ
path_number key target = option_and_then number_of (parameter key target)
