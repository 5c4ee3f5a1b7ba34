use Rattle.table.proofs.ReadBack.{table_read_back}
use Rattle.table.proofs.Table.read.Goals as goal

pub returns-clause-undoes_writing : goal.returns-clause-undoes_writing
returns-clause-undoes_writing c t e = table_read_back t c.checked.result (rw e c.checked.ensures)
