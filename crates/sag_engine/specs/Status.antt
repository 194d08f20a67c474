-- The numbers with which the program ends.
use Rattle.std.specs.Prelude.{ℕ}
use Rattle.sag_engine.specs.declared.status.Status.{Status}
use Rattle.sag_engine.specs.declared.status.Status.TheVariants as statuses

abbrev pub status_number : Status → ℕ
status_number statuses.Ok = 0
status_number statuses.No = 1
status_number statuses.Usage = 2
status_number statuses.Refused = 3
status_number statuses.Spent = 4
status_number statuses.ReadFault = 5
status_number statuses.WriteFault = 6
status_number statuses.Memory = 7
