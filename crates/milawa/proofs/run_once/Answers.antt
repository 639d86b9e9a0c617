-- The clauses of the run, with its number.
use Rattle.milawa.proofs.run_once.Goals as goal

pub returns : goal.returns
returns g c = (
  c.run.result,
  c.exit_code.ensures,
  record {
    report = c.run.ensures.report;
    read_whole = c.run.ensures.read_whole;
    unread = c.run.ensures.unread;
    help = c.run.ensures.help;
    usage = c.run.ensures.usage;
    read_fault = c.run.ensures.read_fault;
    write_fault = c.run.ensures.write_fault;
    memory = c.run.ensures.memory;
    answers = c.run.ensures.answers;
    source_steady = c.run.ensures.source_steady;
    sink_steady = c.run.ensures.sink_steady;
  },
)
