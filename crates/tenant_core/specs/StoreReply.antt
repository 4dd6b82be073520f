-- The replies where a call of the store fails.
use Rattle.std.specs.Prelude.{◌≡◌, ◌⊎◌, Bool, true, false, Result, Ok, Err, codes}
use Rattle.tenant_messages.specs.Reply.{written, error, refused, reply, no_memory as out_of_memory}
use Rattle.tenant_core.specs.Request.{request_of, Request}
use Rattle.tenant_messages.specs.declared.call.Call.{Call}
use Rattle.tenant_messages.specs.declared.reply.Problem.{Problem}
use Rattle.tenant_messages.specs.declared.reply.Reply.{Reply}
use Rattle.tenant_messages.specs.declared.StoreFault.{StoreFault}
use Rattle.tenant_messages.specs.declared.StoreFault.TheVariants.{NoMemory, Full, Damaged, Failed}

abbrev pub no_memory : Reply
no_memory = out_of_memory

-- 503: the store is full, or failed otherwise
unfoldable pub store_failed : Reply
store_failed = written 503 (error (codes "store_failed"))

-- 500: the tenant's data isn't that of any state
unfoldable pub store_damaged : Reply
store_damaged = written 500 (error (codes "store_damaged"))

-- whether a call of the store failed for good
abbrev pub is_failed : {A : Type 0} → Result A StoreFault → Bool
is_failed (Ok a) = false
is_failed (Err NoMemory) = false
is_failed (Err Full) = false
is_failed (Err Damaged) = false
is_failed (Err Failed) = true

abbrev pub store_fault : StoreFault → Reply
store_fault NoMemory = no_memory
store_fault Full = store_failed
store_fault Failed = store_failed
store_fault Damaged = store_damaged

-- the replies 503, of which there are two: an allocation failed, or the store is full or failed
abbrev pub IsUnavailable : Reply → Type 0
IsUnavailable replied = (replied ≡ no_memory) ⊎ (replied ≡ store_failed)

-- the reply to a call where the data of its tenant is damaged: a call that fails a check has the
-- same reply as on any other data
abbrev pub refused_or_damaged : Result Request Problem → Reply
refused_or_damaged (Ok request) = store_damaged
refused_or_damaged (Err problem) = reply (refused problem)

abbrev pub reply_where_damaged : Call → Reply
reply_where_damaged call = refused_or_damaged (request_of call)
