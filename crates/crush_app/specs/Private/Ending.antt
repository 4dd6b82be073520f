-- An end of a script whose lines were served.
use Rattle.std.specs.Prelude.{⊤}
use Rattle.crush_app.specs.declared.play.ScriptEnd.{ScriptEnd}
use Rattle.crush_app.specs.declared.play.ScriptEnd.TheVariants.{Done, Latched, TooLong, ReadFault, WriteFault}

abbrev pub IsServed : ScriptEnd → Type 0
IsServed Done = ⊤
IsServed WriteFault = ⊤
IsServed Latched = ⊤
IsServed TooLong = ⊥
IsServed ReadFault = ⊥
