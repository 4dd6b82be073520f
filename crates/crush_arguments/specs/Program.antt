-- The commands of the program, and their arguments, as `clap` reads them.
use Rattle.std.specs.Prelude.{ℕ, List, [], ◌∷◌, ◌++◌, Some, true, pos, codes}
use Rattle.clap.specs.Words.{App, Rule, Shape, Text, new_app, new_rule, with_rule, with_subcommand}
use Rattle.clap.specs.declared.builder.action.ArgAction.TheVariants.{Set}
use Rattle.clap.specs.declared.builder.value_parser.ValueParser.TheVariants.{Signed}

-- an option that takes a value, by its name
abbrev pub value_option : Text → Rule
value_option name = record (new_rule name) { long = Some name; value_names = 1; action = Some Set }

-- the same, whose value is a number in a range, ends included
abbrev pub number_option : Text → ℕ → ℕ → Rule
number_option name least most =
    record (value_option name) { parser = Some (Signed (pos least) (pos most)) }

abbrev pub db : Rule
db = value_option (codes "db")

-- the number of placements that are kept
abbrev pub cache : Rule
cache = record (number_option (codes "cache") 1 65536) { defaults = codes "1024" ∷ [] }

abbrev pub port : Rule
port = record (number_option (codes "port") 1 65535) { required = true }

-- the number of connections after which the server ends
abbrev pub connections : Rule
connections =
    record (number_option (codes "connections") 1 1000000) { defaults = codes "1000000" ∷ [] }

abbrev pub file : Rule
file = record (new_rule (codes "FILE")) { required = true; action = Some Set }

abbrev pub script : App
script = with_rule (with_rule (new_app (codes "script")) db) cache

abbrev pub serve : App
serve =
    let with_db = with_rule (new_app (codes "serve")) (record db { required = true }) in
    with_rule (with_rule (with_rule with_db port) cache) connections

abbrev pub check : App
check = with_rule (new_app (codes "check")) file

-- the program without its commands
abbrev pub alone : App
alone = record (new_app (codes "crushcalc")) {
  top = record (new_app (codes "crushcalc")).top { has_version = true; subcommand_required = true };
}

abbrev pub program : App
program = with_subcommand (with_subcommand (with_subcommand alone script.top) serve.top) check.top
