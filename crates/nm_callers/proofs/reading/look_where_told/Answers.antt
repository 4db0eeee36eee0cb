use Rattle.nm_callers.proofs.ReadNodes.{reads_what_it_was_told}
use Rattle.nm_callers.proofs.reading.look_where_told.Goals as goal

pub returns-clause-reads : goal.returns-clause-reads
returns-clause-reads c = reads_what_it_was_told c.has-found.new.worker.pass.view c.know_run.ensures.turns
    c.nobody_reads_another_node.ensures
