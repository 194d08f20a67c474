use Rattle.sag_engine.specs.Promises.{texts}
use Rattle.sag_engine.proofs.CommandLemmas.{asked_budget, asked_cores, asked_horizon}
use Rattle.sag_engine.proofs.run.work.Goals as goal

pub run_command-requires : goal.run_command-requires
run_command-requires g c =
    let words = texts c.args.words.now in
    record {
      cores = asked_cores words c.in-Ok.command c.in-Ok.ensures.read;
      budget = asked_budget words c.in-Ok.command c.in-Ok.ensures.read;
      horizon = asked_horizon words c.in-Ok.command c.in-Ok.ensures.read;
    }
