use Rattle.sag_texts.specs.FaultTexts.{no_trial}
use Rattle.sag_texts.proofs.fault_lines.write_no_trial.Goals as goal

pub returns : goal.returns
unfolding no_trial
returns g c = rw (← c.from.ensures, ← c.from-2.ensures) c.write_line.ensures
