-- All routes: the paths with their methods, and what each route asks for, by the parts of the path
-- and the body.
use Rattle.std.specs.Prelude.{ℕ, ◌==◌, List, [], ◌∷◌, length, if◌then◌else◌, Option, Some, None, option_map, option_and_then, codes}
use Rattle.std.specs.Str.{bytes_eq}
use Rattle.tenant_reports.specs.DeviceCsv as device_csv
use Rattle.tenant_resources.specs.Devices as devices
use Rattle.tenant_resources.specs.Exceptions as exceptions
use Rattle.tenant_resources.specs.Groups as groups
use Rattle.tenant_resources.specs.Maps as maps
use Rattle.tenant_reports.specs.Picks as picks
use Rattle.tenant_resources.specs.Pools as pools
use Rattle.tenant_resources.specs.RuleTests as rule_tests
use Rattle.tenant_core.specs.Target.{Target, path_number}
use Rattle.tenant_core.specs.declared.commands.Order.{Order}
use Rattle.tenant_core.specs.declared.commands.Order.TheVariants.{ImportMap, ChangeDevices, CreatePool, SetExceptions, RemovePool}
use Rattle.tenant_core.specs.declared.queries.Query.TheVariants as query
use Rattle.tenant_core.specs.declared.request.Action.{Action}
use Rattle.tenant_core.specs.declared.request.Action.TheVariants.{CreateTenant, ShowTenant, DropTenant, Command, Query as Asked}
use Rattle.tenant_core.specs.declared.route.Methods.{Methods}
use Rattle.tenant_core.specs.declared.route.Route.{Route}
use Rattle.tenant_core.specs.declared.route.Route.TheVariants as route

-- ---- the paths and their methods

-- a path that has one method
abbrev pub get : Route → Methods
get asked = record { delete = None; get = Some asked; post = None; put = None }

abbrev pub post : Route → Methods
post asked = record { delete = None; get = None; post = Some asked; put = None }

-- all routes
abbrev pub routes : List (List ℕ × Methods)
routes =
    (codes "/t/{t}", record { delete = Some route.DropTenant; get = Some route.ShowTenant; post = None; put = Some route.CreateTenant })
    ∷ (codes "/t/{t}/maps", post route.ImportMap)
    ∷ (codes "/t/{t}/maps/{v}", get route.Version)
    ∷ (codes "/t/{t}/devices", post route.ChangeDevices)
    ∷ (codes "/t/{t}/devices/csv", post route.ChangeDevicesByCsv)
    ∷ (codes "/t/{t}/pools", post route.CreatePool)
    ∷ (codes "/t/{t}/pools/exceptions", post route.SetExceptions)
    ∷ (codes "/t/{t}/pools/remove", post route.RemovePool)
    ∷ (codes "/t/{t}/pools/{p}/exceptions", get route.Exceptions)
    ∷ (codes "/t/{t}/pools/{p}/groups/{g}", get route.Group)
    ∷ (codes "/t/{t}/pools/{p}/locate", post route.Object)
    ∷ (codes "/t/{t}/pools/{p}/usage", get route.Usage)
    ∷ (codes "/t/{t}/pools/{p}/moves/{v}/{w}", get route.Moves)
    ∷ (codes "/t/{t}/pools/{p}/impact/{d}", get route.Impact)
    ∷ (codes "/t/{t}/pick", post route.Pick)
    ∷ (codes "/t/{t}/test", post route.Test)
    ∷ []

-- the route of a method, if the path has the method
abbrev pub route_of : List ℕ → Methods → Option Route
route_of method methods =
    if bytes_eq method (codes "DELETE") then methods.delete
    else (if bytes_eq method (codes "GET") then methods.get
    else (if bytes_eq method (codes "POST") then methods.post
    else (if bytes_eq method (codes "PUT") then methods.put else None)))

-- ---- what each route asks for

-- the action from the number that a part of the path writes, if it writes one
abbrev pub with_number : List ℕ → Target → (ℕ → Option Action) → Option Action
with_number key target action_of = option_and_then action_of (path_number key target)

-- an action whose body is empty
abbrev pub if_empty : List ℕ → Action → Option Action
if_empty body action = if length body == 0 then Some action else None

-- a changing request has its path and its body, by which a repeat is recognized
abbrev pub command_of : Target → List ℕ → List ℕ → Order → Action
command_of target body number order = Command (record { number = number; path = target.path; body = body; order = order })

-- the action of a route, from the parts of the path and the body; their order of reading makes no
-- difference
abbrev pub read : Route → Target → List ℕ → Option Action
read route.CreateTenant target body = if_empty body CreateTenant
read route.ShowTenant target body = if_empty body ShowTenant
read route.DropTenant target body = if_empty body DropTenant
read route.ImportMap target body = option_map (λ asked. command_of target body asked.0 (ImportMap asked.1)) (maps.import_request_of body)
read route.Version target body = with_number (codes "v") target (λ v. if_empty body (Asked (query.Version v)))
read route.ChangeDevices target body = option_map (λ asked. command_of target body asked.0 (ChangeDevices asked.1)) (devices.devices_request_of body)
read route.ChangeDevicesByCsv target body = option_map (λ asked. command_of target body asked.0 (ChangeDevices asked.1)) (device_csv.device_csv_request_of body)
read route.CreatePool target body = option_map (λ asked. command_of target body asked.0 (CreatePool asked.1)) (pools.pool_request_of body)
read route.SetExceptions target body =
    option_map (λ asked. command_of target body asked.0 (SetExceptions asked.1.0 asked.1.1)) (exceptions.exceptions_request_of body)
read route.RemovePool target body = option_map (λ asked. command_of target body asked.0 (RemovePool asked.1)) (pools.removal_request_of body)
read route.Exceptions target body = with_number (codes "p") target (λ p. if_empty body (Asked (query.Exceptions p)))
read route.Group target body = with_number (codes "p") target (λ p. with_number (codes "g") target (λ g. if_empty body (Asked (query.Group p g))))
read route.Object target body = with_number (codes "p") target (λ p. option_map (λ name. Asked (query.Object p name)) (groups.locate_request_of body))
read route.Usage target body = with_number (codes "p") target (λ p. if_empty body (Asked (query.Usage p)))
read route.Moves target body =
    with_number (codes "p") target (λ p. with_number (codes "v") target (λ v. with_number (codes "w") target (λ w. if_empty body (Asked (query.Moves p v w)))))
read route.Impact target body = with_number (codes "p") target (λ p. with_number (codes "d") target (λ d. if_empty body (Asked (query.Impact p d))))
read route.Pick target body = option_map (λ pick. Asked (query.Pick pick)) (picks.pick_request_of body)
read route.Test target body = option_map (λ test. Asked (query.Test test)) (rule_tests.test_request_of body)
