-- Answers to calls, and the replies that say them: a status and compact JSON, keys in the order of
-- their bytes.
use Rattle.std.specs.Prelude.{ℕ, List, [], ◌∷◌, codes}
use Rattle.crush_grammar.specs.declared.code.TextFault.{TextFault}
use Rattle.crush_grammar.specs.Codes.{code_text}
use Rattle.serde_json.specs.Data.{Data, Members, number, unsigned, string, object, no_members, member}
use Rattle.serde_json.specs.Written.{compact_text}
use Rattle.tenant_messages.specs.declared.reply.Reply.{Reply}
use Rattle.tenant_messages.specs.declared.reply.Problem.{Problem}
use Rattle.tenant_messages.specs.declared.reply.Problem.TheVariants.{BadRequest, NoPath, NoTenant, NoVersion, NoPool, NoGroup, NoRule, NoDevice, Method, Exists, RequestReused, RuleInUse, TooLarge, MapRefused, TenantLimit}
use Rattle.tenant_messages.specs.declared.reply.SuccessStatus.{SuccessStatus}
use Rattle.tenant_messages.specs.declared.reply.SuccessStatus.TheVariants.{Done, Created}

-- ---- answers

-- the answer to a call; 500 and 503 are no answers
pub data Answer : Type 0 where
  refused : Problem → Answer  -- why nothing is done
  answered : SuccessStatus → Data → Answer  -- 200 or 201, with this body
  repeated : SuccessStatus → List ℕ → Answer  -- status and body of an earlier reply, to the byte

-- 200
abbrev pub success : Data → Answer
success body = answered Done body

-- 201: something was created
abbrev pub created : Data → Answer
created body = answered Created body

-- ---- replies

-- an object with these members
abbrev pub members_of : List (List ℕ × Data) → Members
members_of [] = no_members
members_of (m ∷ ms) = member m.0 m.1 (members_of ms)

abbrev pub natural : ℕ → Data
natural n = number (unsigned n)

abbrev pub problem_status : Problem → ℕ
problem_status BadRequest = 400
problem_status NoPath = 404
problem_status NoTenant = 404
problem_status NoVersion = 404
problem_status NoPool = 404
problem_status NoGroup = 404
problem_status NoRule = 404
problem_status NoDevice = 404
problem_status Method = 405
problem_status Exists = 409
problem_status RequestReused = 409
problem_status RuleInUse = 409
problem_status TooLarge = 413
problem_status (MapRefused fault) = 422
problem_status TenantLimit = 429

abbrev pub problem_code : Problem → List ℕ
problem_code BadRequest = codes "bad_request"
problem_code NoPath = codes "no_path"
problem_code NoTenant = codes "no_tenant"
problem_code NoVersion = codes "no_version"
problem_code NoPool = codes "no_pool"
problem_code NoGroup = codes "no_group"
problem_code NoRule = codes "no_rule"
problem_code NoDevice = codes "no_device"
problem_code Method = codes "method"
problem_code Exists = codes "exists"
problem_code RequestReused = codes "request_reused"
problem_code RuleInUse = codes "rule_in_use"
problem_code TooLarge = codes "too_large"
problem_code (MapRefused fault) = codes "map_refused"
problem_code TenantLimit = codes "tenant_limit"

abbrev pub success_status : SuccessStatus → ℕ
success_status Done = 200
success_status Created = 201

-- {"error": code}
abbrev pub error : List ℕ → Data
error code = object (members_of ((codes "error", string code) ∷ []))

-- {"error": "map_refused", "fault": code, "line": line}
abbrev pub map_error : TextFault → Data
map_error fault =
    object (members_of ((codes "error", string (codes "map_refused")) ∷ (codes "fault", string (code_text fault.code)) ∷ (codes "line", natural fault.line) ∷ []))

-- a map that is refused names its first fault
abbrev pub problem_json : Problem → Data
problem_json (MapRefused fault) = map_error fault
problem_json problem = error (problem_code problem)

abbrev pub written : ℕ → Data → Reply
written status d = record { status = status; body = compact_text d }

unfoldable pub reply : Answer → Reply
reply (refused problem) = written (problem_status problem) (problem_json problem)
reply (answered status body) = written (success_status status) body
reply (repeated status body) = record { status = success_status status; body = body }

-- ---- where there is no answer

-- the reply where an allocation failed: its text is added where it is written out
abbrev pub no_memory : Reply
no_memory = record { status = 503; body = [] }
