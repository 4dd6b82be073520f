use Rattle.crush_server.specs.sqlite.specs.Files.{file_state, image_of}
use Rattle.crush_laws.proofs.Found.{found_again}
use Rattle.crush_laws.proofs.files.what_was_copied_is_found_again.Goals as goal

pub returns-clause-now : goal.returns-clause-now
returns-clause-now g c = λ last next files clean given found.
    found_again next (image_of g.D.Disk files) (file_state last).committed.trees (given clean).seen found

pub returns-clause-crash : goal.returns-clause-crash
returns-clause-crash g c = λ last next files image clean given left found.
    found_again next image (file_state last).committed.trees ((given clean).left image left) found
