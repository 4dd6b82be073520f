-- How the values of ids are stored.
use Rattle.std.specs.Prelude.{◌-◌, List, ◌++◌, length, replicate}
use Rattle.crush_types.specs.declared.limits.TheConstants.{ID_COUNT}

-- the values of all ids: the table has those of the first ids, and the others have that of the rest
unfoldable pub padded : {T : Type 0} → T → List T → List T
padded rest table = table ++ replicate (ID_COUNT - length table) rest
