-- A schedule breaks no rule exactly where it is legal.
use Rattle.std.proofs.Common.{refl}
use Rattle.job_model.specs.Laws.{RanksOrderJobs}
use Rattle.run_audit.specs.Entries.{entries_of_run}
use Rattle.run_audit.specs.Laws.{UnbrokenIsLegal}
use Rattle.run_audit.proofs.AuditLemmas.{unbroken_legal}
use Rattle.run_audit.proofs.OneFirstBreak.{legal_breaks_none}

pub unbroken_is_legal : RanksOrderJobs → UnbrokenIsLegal
unbroken_is_legal ranks table m scenario schedule is_table fits places = (
  legal_breaks_none table m scenario schedule is_table fits,
  unbroken_legal table m scenario schedule is_table places ranks (entries_of_run table scenario schedule) refl,
)
