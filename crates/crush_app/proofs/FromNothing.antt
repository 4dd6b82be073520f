-- A script that is played by a service with no tenant.
use Rattle.std.proofs.Common.{◌≡◌, ◌∙◌, ℕ, List, Bool, false, Option, None, Result, Ok, Err, refl, sym}
use Rattle.std.proofs.lemmas.Bool.{false≢true}
use Rattle.std.specs.Prelude.{⊤}
use Rattle.std.specs.declared.alloc.AllocError.{AllocError}
use Rattle.tenant_core.specs.States.{States, Headline, MeetsDefinition, Outcomes}
use Rattle.tenant_core.specs.tenant_messages.specs.declared.call.Call.{Call}
use Rattle.tenant_core.specs.tenant_messages.specs.declared.reply.Reply.{Reply}
use Rattle.crush_app.specs.End.{EndsScript, LatchesAs}
use Rattle.crush_app.specs.FromNothing.{HeadlineFromNothing, MeetsFromNothing, PlaysFromNothing, PlaysScriptFromNothing, PlaysToFromNothing, PlaysUpToFromNothing, WritesHeadlineFromNothing}
use Rattle.crush_app.specs.Play.{Plays, PlaysScript, PlaysTo, PlaysUpTo, WritesHeadline}
use Rattle.crush_app.specs.declared.play.ScriptEnd.{ScriptEnd}
use Rattle.crush_app.specs.declared.play.ScriptEnd.TheVariants.{Done, Latched, TooLong, ReadFault, WriteFault}
use Rattle.crush_app.proofs.Ending.{cut_map, first_map, nothing_map, plays_map, serves_map}

-- each name is absent
abbrev pub IsEmpty : States → Type 0
IsEmpty states = (t : List ℕ) → states t None

-- ---- runs

headline_from_nothing : (old : States) (calls : List Call) (replies : List Reply) → IsEmpty old → Headline old calls replies → HeadlineFromNothing calls replies
headline_from_nothing old calls replies empty headline t = headline t None (empty t)

meets_from_nothing : (latched : Bool) (old new : States) (calls : List Call) (replies : List Reply) → IsEmpty old → MeetsDefinition latched old new calls replies → MeetsFromNothing calls replies
meets_from_nothing latched old new calls replies empty meets = record {
  count = meets.count;
  headline = headline_from_nothing old calls replies empty meets.headline;
  nobody = meets.nobody;
  causes = meets.causes;
}

-- ---- messages

plays_from_nothing : (old new : States) (ms : List (Option Call)) (a b : Option (List ℕ)) → IsEmpty old → Plays false old new ms a b → PlaysFromNothing ms a b
plays_from_nothing old new ms a b empty plays = plays_map (MeetsDefinition false old new) MeetsFromNothing (λ cs rs meets. meets_from_nothing false old new cs rs empty meets) ms a b plays

cut_from_nothing : (latched : Bool) (old new : States) (ms : List (Option Call)) (a b : Option (List ℕ)) → IsEmpty old → PlaysUpTo latched old new ms a b → PlaysUpToFromNothing ms a b
cut_from_nothing latched old new ms a b empty plays = cut_map (MeetsDefinition latched old new) MeetsFromNothing (λ cs rs meets. meets_from_nothing latched old new cs rs empty meets) ms a b plays

writes_from_nothing : (old : States) (ms : List (Option Call)) (a b : Option (List ℕ)) → IsEmpty old → WritesHeadline old ms a b → WritesHeadlineFromNothing ms a b
writes_from_nothing old ms a b empty writes = first_map (Headline old) HeadlineFromNothing (λ cs rs headline. headline_from_nothing old cs rs empty headline) ms a b writes

-- ---- scripts

to_nothing : (end : ScriptEnd) (latched : Bool) (old new : States) (left : Outcomes) (ms : List (Option Call)) (a b : Option (List ℕ)) → IsEmpty old → (end ≡ Latched → ⊥)
    → PlaysTo end latched old new left ms a b → PlaysToFromNothing end ms a b
to_nothing Done latched old new left ms a b empty works plays = plays_from_nothing old new ms a b empty plays
to_nothing WriteFault latched old new left ms a b empty works plays = cut_from_nothing latched old new ms a b empty plays
to_nothing Latched latched old new left ms a b empty works plays = absurd (works refl)
to_nothing TooLong latched old new left ms a b empty works plays = absurd plays
to_nothing ReadFault latched old new left ms a b empty works plays = absurd plays

script_from_nothing : (end : ScriptEnd) (latched : Bool) (old new : States) (left : Outcomes) (ms : List (Option Call)) (a b : Option (List ℕ)) → IsEmpty old → (end ≡ Latched → ⊥)
    → PlaysScript end latched old new left ms a b → PlaysScriptFromNothing end ms a b
script_from_nothing end latched old new left ms a b empty works plays =
    record { plays = to_nothing end latched old new left ms a b empty works plays.plays; headline = writes_from_nothing old ms a b empty plays.headline }

module _ (AsBefore Honest : Type 0) (latched : Bool) (old new : States) (left : Outcomes) (reads rest a b : Option (List ℕ)) (honest : Honest) (empty : IsEmpty old) where
  abbrev pub Said : ScriptEnd → List (Option Call) → Type 0
  Said end ms = Honest → PlaysScript end latched old new left ms a b

  abbrev FromNothing : ScriptEnd → List (Option Call) → Type 0
  FromNothing end ms = PlaysScriptFromNothing end ms a b

  -- a script that ended so on a store that never latches
  pub ends_from_nothing : (r : Result ScriptEnd AllocError) → latched ≡ false → LatchesAs r latched → EndsScript AsBefore Said r reads rest a b → EndsScript ⊤ FromNothing r reads rest a b
  ends_from_nothing (Ok Done) works latch s =
      serves_map (Said Done) (FromNothing Done) reads rest (λ ms said. script_from_nothing Done latched old new left ms a b empty (λ is. cc) (said honest)) s
  ends_from_nothing (Ok WriteFault) works latch s =
      serves_map (Said WriteFault) (FromNothing WriteFault) reads rest (λ ms said. script_from_nothing WriteFault latched old new left ms a b empty (λ is. cc) (said honest)) s
  ends_from_nothing (Ok Latched) works latch s = absurd (false≢true (sym works ∙ latch))
  ends_from_nothing (Ok TooLong) works latch s = (nothing_map AsBefore ⊤ a b (λ _. tt) s.0, s.1)
  ends_from_nothing (Ok ReadFault) works latch s = nothing_map AsBefore ⊤ a b (λ _. tt) s
  ends_from_nothing (Err e) works latch s = nothing_map AsBefore ⊤ a b (λ _. tt) s
