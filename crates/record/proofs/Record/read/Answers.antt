use Rattle.record.proofs.Reading.{record_read_back}
use Rattle.record.proofs.Record.read.Goals as goal

pub returns-clause-undoes_writing : goal.returns-clause-undoes_writing
returns-clause-undoes_writing c s e = record_read_back s c.decoded.result (rw e c.decoded.ensures)
