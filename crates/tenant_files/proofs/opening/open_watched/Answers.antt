-- The files aren't where they were.
use Rattle.sqlite_wal.specs.Files.{image_at}
use Rattle.tenant_files.proofs.opening.open_watched.Goals as goal

pub returns-in-Err-new-clause-refused : goal.returns-in-Err-new-clause-refused
returns-in-Err-new-clause-refused g c = c.give_back.ensures (image_at g.S.Start) c.in-Ok.ensures.found
