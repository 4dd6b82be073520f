-- The path and the body of a command are those of its call.
use Rattle.std.proofs.Common.{◌≡◌, ◌∙◌, ℕ, ◌==◌, List, length, Bool, true, false, nat_lt, if◌then◌else◌, Option, Some, None, option_map, option_and_then, Err, codes, refl, sym, ap}
use Rattle.std.specs.Option.{ok_or}
use Rattle.tenant_core.specs.matchit.specs.Router.{RouteOf}
use Rattle.tenant_core.specs.matchit.specs.Seek.{first}
use Rattle.tenant_core.specs.Commands.{Command}
use Rattle.tenant_core.specs.Request.{request_of, tenant_in, on_route, on_target}
use Rattle.tenant_core.specs.Route.{read, route_of}
use Rattle.tenant_core.specs.Router.{table, target_of}
use Rattle.tenant_core.specs.Target.{Target, methods_in, path_number}
use Rattle.tenant_core.specs.declared.commands.Order.{Order}
use Rattle.tenant_core.specs.declared.commands.Order.TheVariants.{ImportMap, ChangeDevices, CreatePool, SetExceptions, RemovePool}
use Rattle.tenant_core.specs.declared.limits.TheConstants.{BODY_LIMIT}
use Rattle.tenant_core.specs.declared.request.Action.{Action}
use Rattle.tenant_core.specs.declared.request.Action.TheVariants as action
use Rattle.tenant_core.specs.declared.route.Methods.{Methods}
use Rattle.tenant_core.specs.declared.route.Route.{Route}
use Rattle.tenant_core.specs.declared.route.Route.TheVariants as route
use Rattle.tenant_service.specs.Repeats.{command_in, command_asked, command_of}
use Rattle.tenant_core.specs.tenant_messages.specs.declared.call.Call.{Call}
use Rattle.tenant_core.specs.tenant_messages.specs.declared.reply.Problem.TheVariants.{BadRequest, TooLarge}
use Rattle.tenant_core.specs.tenant_reports.specs.DeviceCsv as device_csv
use Rattle.tenant_core.specs.tenant_resources.specs.Devices as devices
use Rattle.tenant_core.specs.tenant_resources.specs.Exceptions as exceptions
use Rattle.tenant_core.specs.tenant_resources.specs.Groups as groups
use Rattle.tenant_core.specs.tenant_resources.specs.Maps as maps
use Rattle.tenant_core.specs.tenant_reports.specs.Picks as picks
use Rattle.tenant_core.specs.tenant_resources.specs.Pools as pools
use Rattle.tenant_core.specs.tenant_resources.specs.RuleTests as rule_tests

-- ---- an action that is read

IsFrom : List ℕ → List ℕ → Command → Type 0
IsFrom path body k = (k.path ≡ path) × (k.body ≡ body)

made : (t : Target) (body number : List ℕ) (order : Order) (a : Action) (k : Command) → action.Command (record { number = number; path = t.path; body = body; order = order }) ≡ a
    → command_in a ≡ Some k → IsFrom t.path body k
unfolding IsFrom
made t body number order a k is h =
    let both : Some (record { number = number; path = t.path; body = body; order = order }) ≡ Some k = ap command_in is ∙ h in
    let same : ◌≡◌ {A = Command} (record { number = number; path = t.path; body = body; order = order }) k = cc in
    (sym (ap (λ (x : Command). x.path) same), sym (ap (λ (x : Command). x.body) same))

-- a command that is made from what a body asks for
mapped : {X : Type 0} (t : Target) (body : List ℕ) (number : X → List ℕ) (order : X → Order) (o : Option X) (a : Action) (k : Command)
    → option_map (λ x. action.Command (record { number = number x; path = t.path; body = body; order = order x })) o ≡ Some a → command_in a ≡ Some k → IsFrom t.path body k
mapped t body number order None a k h is = cc
mapped t body number order (Some x) a k h is =
    let same : action.Command (record { number = number x; path = t.path; body = body; order = order x }) ≡ a = cc in made t body (number x) (order x) a k same is

-- what is read isn't a command
IsNone : Option Action → Type 0
IsNone o = (a : Action) (k : Command) → o ≡ Some a → command_in a ≡ Some k → ⊥

no_some : (x : Action) → command_in x ≡ None → IsNone (Some x)
unfolding IsNone
no_some x none a k h is = let e : x ≡ a = cc in let both : None ≡ Some k = sym none ∙ ap command_in e ∙ is in cc

no_if : (b : Bool) (x : Action) → command_in x ≡ None → IsNone (if b then Some x else None)
unfolding IsNone
no_if true x none = no_some x none
no_if false x none = λ a k h is. cc

no_then : {X : Type 0} (f : X → Option Action) (o : Option X) → ((x : X) → IsNone (f x)) → IsNone (option_and_then f o)
unfolding IsNone
no_then f None bare = λ a k h is. cc
no_then f (Some x) bare = bare x

no_map : {X : Type 0} (f : X → Action) (o : Option X) → ((x : X) → command_in (f x) ≡ None) → IsNone (option_map f o)
unfolding IsNone
no_map f None bare = λ a k h is. cc
no_map f (Some x) bare = no_some (f x) (bare x)

out : (t : Target) (body : List ℕ) (o : Option Action) (a : Action) (k : Command) → IsNone o → o ≡ Some a → command_in a ≡ Some k → IsFrom t.path body k
unfolding IsNone
out t body o a k bare h is = absurd (bare a k h is)

read_from : (r : Route) (t : Target) (body : List ℕ) (a : Action) (k : Command) → read r t body ≡ Some a → command_in a ≡ Some k → IsFrom t.path body k
read_from route.CreateTenant t body a k h is = out t body _ a k (no_if (length body == 0) _ refl) h is
read_from route.ShowTenant t body a k h is = out t body _ a k (no_if (length body == 0) _ refl) h is
read_from route.DropTenant t body a k h is = out t body _ a k (no_if (length body == 0) _ refl) h is
read_from route.ImportMap t body a k h is = mapped t body (λ asked. asked.0) (λ asked. ImportMap asked.1) (maps.import_request_of body) a k h is
read_from route.Version t body a k h is = out t body _ a k (no_then _ (path_number (codes "v") t) (λ v. no_if (length body == 0) _ refl)) h is
read_from route.ChangeDevices t body a k h is = mapped t body (λ asked. asked.0) (λ asked. ChangeDevices asked.1) (devices.devices_request_of body) a k h is
read_from route.ChangeDevicesByCsv t body a k h is = mapped t body (λ asked. asked.0) (λ asked. ChangeDevices asked.1) (device_csv.device_csv_request_of body) a k h is
read_from route.CreatePool t body a k h is = mapped t body (λ asked. asked.0) (λ asked. CreatePool asked.1) (pools.pool_request_of body) a k h is
read_from route.SetExceptions t body a k h is =
    mapped t body (λ asked. asked.0) (λ asked. SetExceptions asked.1.0 asked.1.1) (exceptions.exceptions_request_of body) a k h is
read_from route.RemovePool t body a k h is = mapped t body (λ asked. asked.0) (λ asked. RemovePool asked.1) (pools.removal_request_of body) a k h is
read_from route.Exceptions t body a k h is = out t body _ a k (no_then _ (path_number (codes "p") t) (λ p. no_if (length body == 0) _ refl)) h is
read_from route.Group t body a k h is =
    out t body _ a k (no_then _ (path_number (codes "p") t) (λ p. no_then _ (path_number (codes "g") t) (λ g. no_if (length body == 0) _ refl))) h is
read_from route.Object t body a k h is = out t body _ a k (no_then _ (path_number (codes "p") t) (λ p. no_map _ (groups.locate_request_of body) (λ name. refl))) h is
read_from route.Usage t body a k h is = out t body _ a k (no_then _ (path_number (codes "p") t) (λ p. no_if (length body == 0) _ refl)) h is
read_from route.Moves t body a k h is =
    out t body _ a k (no_then _ (path_number (codes "p") t) (λ p. no_then _ (path_number (codes "v") t) (λ v. no_then _ (path_number (codes "w") t) (λ w. no_if (length body == 0) _ refl)))) h is
read_from route.Impact t body a k h is =
    out t body _ a k (no_then _ (path_number (codes "p") t) (λ p. no_then _ (path_number (codes "d") t) (λ d. no_if (length body == 0) _ refl))) h is
read_from route.Pick t body a k h is = out t body _ a k (no_map _ (picks.pick_request_of body) (λ pick. refl)) h is
read_from route.Test t body a k h is = out t body _ a k (no_map _ (rule_tests.test_request_of body) (λ test. refl)) h is

-- ---- a call

form_from : (r : Route) (t : Target) (body : List ℕ) (k : Command) (tenant : Option (List ℕ)) (acted : Option Action) → read r t body ≡ acted
    → command_asked (ok_or (option_and_then (λ tenant. option_map (λ a. record { tenant = tenant; action = a }) acted) tenant) BadRequest) ≡ Some k → IsFrom t.path body k
form_from r t body k None acted e h = cc
form_from r t body k (Some tenant) None e h = cc
form_from r t body k (Some tenant) (Some a) e h = read_from r t body a k e h

route_from : (t : Target) (body : List ℕ) (k : Command) (r : Option Route) → command_asked (on_route t body r) ≡ Some k → IsFrom t.path body k
route_from t body k None h = cc
route_from t body k (Some r) h = form_from r t body k (tenant_in t) (read r t body) refl h

-- a target has the path that it was found for
has_path : (path : List ℕ) (row : Option (RouteOf Methods)) (t : Target) → option_map (λ row. record { row = row; path = path }) row ≡ Some t → t.path ≡ path
has_path path None t h = cc
has_path path (Some row) t h = let same : ◌≡◌ {A = Target} (record { row = row; path = path }) t = cc in sym (ap (λ (x : Target). x.path) same)

target_from : (method path body : List ℕ) (k : Command) (found : Option Target) → target_of path ≡ found → command_asked (on_target method body found) ≡ Some k → IsFrom path body k
unfolding IsFrom
target_from method path body k None is h = cc
target_from method path body k (Some t) is h =
    let both = route_from t body k (route_of method (methods_in t)) h in (both.0 ∙ has_path path (first table path) t is, both.1)

pub call_from : (c : Call) (k : Command) → command_of c ≡ Some k → (k.path ≡ c.path) × (k.body ≡ c.body)
unfolding request_of IsFrom
call_from c k h = at (nat_lt BODY_LIMIT (length c.body)) h
  where
    at : (long : Bool) → command_asked (if long then Err TooLarge else on_target c.method c.body (target_of c.path)) ≡ Some k → (k.path ≡ c.path) × (k.body ≡ c.body)
    at true h = cc
    at false h = target_from c.method c.path c.body k (target_of c.path) refl h
