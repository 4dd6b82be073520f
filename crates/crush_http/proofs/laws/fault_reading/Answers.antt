use Rattle.crush_http.proofs.Readings.{front_reading}
use Rattle.crush_http.proofs.laws.fault_reading.Goals as goal

pub returns : goal.returns
returns c = front_reading 10000
