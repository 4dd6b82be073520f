-- How a script ends.
use Rattle.std.specs.Prelude.{ℕ, ◌≡◌, ◌+◌, ◌<◌, List, length, Bool, true, false, Option, IfSome, Result, Ok, Err, ⊤}
use Rattle.std.specs.Io.KnownBytes.{Keeps}
use Rattle.std.specs.declared.alloc.AllocError.{AllocError}
use Rattle.tenant_core.specs.tenant_messages.specs.declared.call.Call.{Call}
use Rattle.tenant_service.specs.Input.{DropsFirst}
use Rattle.crush_app.specs.Script.{OfScript, messages}
use Rattle.crush_app.specs.declared.limits.TheConstants.{SCRIPT_LIMIT}
use Rattle.crush_app.specs.declared.play.ScriptEnd.{ScriptEnd}
use Rattle.crush_app.specs.declared.play.ScriptEnd.TheVariants.{Done, Latched, TooLong, ReadFault, WriteFault}

-- The script was read whole, and its lines were served, all or a first part: `Says` holds of its
-- messages. Of what the reader had, a script of the greatest length and one byte more were read,
-- and the rest stays unread.
pub record ServesScript (Says : List (Option Call) → Type 0) (reads left : Option (List ℕ)) : Type 0 where
  pub said : OfScript reads (λ input. Says (messages input))
  pub rest : DropsFirst (SCRIPT_LIMIT + 1) reads left

-- What is said where no line was served: the store is as before, and nothing was written.
pub record ServesNothing (AsBefore : Type 0) (from to : Option (List ℕ)) : Type 0 where
  pub as_before : AsBefore
  pub unwritten : Keeps from to

-- More was read than a script may have.
pub record IsTooLong (reads left : Option (List ℕ)) : Type 0 where
  pub long : IfSome reads (λ input. SCRIPT_LIMIT < length input)
  pub rest : DropsFirst (SCRIPT_LIMIT + 1) reads left

-- How a script ended, with what the reader had and has left, and what the writer held and holds.
-- `Says` is what is said of messages that were served, by the end; `AsBefore` is what is said of
-- the store where none was.
abbrev pub EndsScript : Type 0 → (ScriptEnd → List (Option Call) → Type 0) → Result ScriptEnd AllocError → (reads left from to : Option (List ℕ)) → Type 0
EndsScript AsBefore Says (Ok Done) reads left from to = ServesScript (Says Done) reads left
EndsScript AsBefore Says (Ok WriteFault) reads left from to = ServesScript (Says WriteFault) reads left
EndsScript AsBefore Says (Ok Latched) reads left from to = ServesScript (Says Latched) reads left
EndsScript AsBefore Says (Ok TooLong) reads left from to = ServesNothing AsBefore from to × IsTooLong reads left
EndsScript AsBefore Says (Ok ReadFault) reads left from to = ServesNothing AsBefore from to
EndsScript AsBefore Says (Err e) reads left from to = ServesNothing AsBefore from to

-- whether the store is then latched. After a failed write it may be
abbrev pub LatchesAs : Result ScriptEnd AllocError → Bool → Type 0
LatchesAs (Ok Done) is_latched = is_latched ≡ false
LatchesAs (Ok Latched) is_latched = is_latched ≡ true
LatchesAs _ is_latched = ⊤
