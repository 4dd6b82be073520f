-- The outcome of a check or of an order: a value, a problem, or a failed allocation.
use Rattle.std.specs.Prelude.{◌≡◌, Result, Ok, Err, ⊤}
use Rattle.serde_json.specs.Data.{Data}
use Rattle.tenant_messages.specs.Reply.{Answer, refused, success, reply}
use Rattle.tenant_messages.specs.declared.reply.Problem.{Problem}
use Rattle.tenant_messages.specs.declared.reply.Refusal.{Refusal}
use Rattle.tenant_messages.specs.declared.reply.Refusal.TheVariants as refusal
use Rattle.tenant_messages.specs.declared.reply.Reply.{Reply}

-- a value or a problem is the one that the definition gives; instead, an allocation may fail
abbrev pub Gives : {A B : Type 0} → (A → B) → Result A Refusal → Result B Problem → Type 0
Gives view (Ok a) given = given ≡ Ok (view a)
Gives view (Err (refusal.Problem problem)) given = given ≡ Err problem
Gives view (Err refusal.NoMemory) given = ⊤

-- ---- answers

-- the answer to a question: 200 with a body that says what was found, or why nothing was found
abbrev pub answer_with : {A : Type 0} → (A → Data) → Result A Problem → Answer
answer_with body (Err problem) = refused problem
answer_with body (Ok found) = success (body found)

-- a reply is the one that says the answer; a problem is why the answer refuses; instead of either,
-- an allocation may fail
abbrev pub Answers : Result Reply Refusal → Answer → Type 0
Answers (Ok r) answer = r ≡ reply answer
Answers (Err (refusal.Problem problem)) answer = answer ≡ refused problem
Answers (Err refusal.NoMemory) answer = ⊤
