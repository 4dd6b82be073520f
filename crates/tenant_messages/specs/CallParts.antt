-- A call whose parts are borrowed.
use Rattle.tenant_messages.specs.declared.call.Call.{Call}
use Rattle.tenant_messages.specs.declared.call.CallParts.{CallParts}

-- the call that the parts are of
abbrev pub call_of : CallParts → Call
call_of parts = record { method = parts.method.now; path = parts.path.now; body = parts.body.now }
