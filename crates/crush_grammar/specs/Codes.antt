-- The names of faults, as a user reads them.
use Rattle.std.specs.Prelude.{ℕ, List, codes}
use Rattle.crush_map.specs.declared.fault.FaultCode.{FaultCode}
use Rattle.crush_map.specs.declared.fault.FaultCode.TheVariants.{M1, M2, M3, M4, M5, M6, M7, M8, M9, M10, M11, M12, M13, M14, M15}
use Rattle.crush_grammar.specs.declared.code.TextCode.{TextCode}
use Rattle.crush_grammar.specs.declared.code.TextCode.TheVariants.{X1, X2, X3, X4, X5, X6, X7, Map}

abbrev pub map_code_text : FaultCode → List ℕ
map_code_text M1 = codes "M1"
map_code_text M2 = codes "M2"
map_code_text M3 = codes "M3"
map_code_text M4 = codes "M4"
map_code_text M5 = codes "M5"
map_code_text M6 = codes "M6"
map_code_text M7 = codes "M7"
map_code_text M8 = codes "M8"
map_code_text M9 = codes "M9"
map_code_text M10 = codes "M10"
map_code_text M11 = codes "M11"
map_code_text M12 = codes "M12"
map_code_text M13 = codes "M13"
map_code_text M14 = codes "M14"
map_code_text M15 = codes "M15"

abbrev pub code_text : TextCode → List ℕ
code_text X1 = codes "X1"
code_text X2 = codes "X2"
code_text X3 = codes "X3"
code_text X4 = codes "X4"
code_text X5 = codes "X5"
code_text X6 = codes "X6"
code_text X7 = codes "X7"
code_text (Map code) = map_code_text code
