-- The spans are as narrow as can be, since each end is attained and each scenario has a run.
use Rattle.std.proofs.Common.{arith}
use Rattle.run_meaning.specs.Laws.{RunsExist}
use Rattle.job_model.specs.declared.interval_end.End.TheVariants.{Best, Worst}
use Rattle.one_core.specs.Extreme.{extreme}
use Rattle.one_core.specs.Laws.{EndsAreAttained, SpansAreNarrowest, MissesAreReal}
use Rattle.one_core.proofs.Walks.{in_interval}
use Rattle.run_meaning.specs.Ready.{finish_of}
use Rattle.sag_graph.specs.Graph.{graph_of}

pub spans_are_narrowest : EndsAreAttained → RunsExist → SpansAreNarrowest
spans_are_narrowest attained exist table j span is_table no_edges below held =
    let best = attained table j Best is_table no_edges below in
    let worst = attained table j Worst is_table no_edges below in
    let early = exist table 1 (extreme table (graph_of table 1) j Best) is_table (omega arith) best.fits in
    let late = exist table 1 (extreme table (graph_of table 1) j Worst) is_table (omega arith) worst.fits in
    let first = in_interval span (finish_of (extreme table (graph_of table 1) j Best) early.0 j) (held (extreme table (graph_of table 1) j Best) early.0 best.fits early.1) in
    let last = in_interval span (finish_of (extreme table (graph_of table 1) j Worst) late.0 j) (held (extreme table (graph_of table 1) j Worst) late.0 worst.fits late.1) in
    (omega (arith, first.0, best.finish early.0 early.1), omega (arith, last.1, worst.finish late.0 late.1))

pub misses_are_real : EndsAreAttained → RunsExist → MissesAreReal
misses_are_real attained exist table j is_table no_edges below after =
    let worst = attained table j Worst is_table no_edges below in
    let late = exist table 1 (extreme table (graph_of table 1) j Worst) is_table (omega arith) worst.fits in
    record {
      scenario = extreme table (graph_of table 1) j Worst;
      schedule = late.0;
      fits = worst.fits;
      legal = late.1;
      late = omega (arith, after, worst.finish late.0 late.1);
    }
