use Rattle.crush_http.proofs.Readings.{reading}
use Rattle.crush_http.proofs.laws.one_reading.Goals as goal

pub returns : goal.returns
returns c = reading 10000
