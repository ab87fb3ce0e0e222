use Rattle.alternation.specs.Analysed.{flow_of, graph_of, plain_of}
use Rattle.transfer_fwd.specs.Systems.{environments}
use Rattle.syntox.proofs.Owed.{report_made}
use Rattle.syntox.proofs.analyse.report_of.Goals as goal

pub returns-clause-report : goal.returns-clause-report
returns-clause-report c told has =
    report_made c.args.file.now c.args.text.now c.in_ok-text.text.items c.args.points told c.args.flow.now (flow_of c.in_ok-analysis.analysis)
    c.args.graph.now (graph_of c.in_ok-analysis.analysis) (plain_of c.solve.new.analysis) (environments c.plain.result.now) (environments c.way.result.now)
    has c.requires.graph c.in_ok-analysis.ensures.flow c.in_ok-analysis.ensures.graph c.solve.ensures.plain c.plain.ensures.value c.way.ensures.value c.in_ok-text.ensures
