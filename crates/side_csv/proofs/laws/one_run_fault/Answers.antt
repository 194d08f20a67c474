use Rattle.side_csv.proofs.OneRowFault.{one-row-fault}
use Rattle.side_csv.specs.RunText.{outside_in_run}
use Rattle.side_csv.proofs.laws.one_run_fault.Goals as goal

pub returns : goal.returns
returns c table scenario bytes one other is_table =
    one-row-fault c.rows_agree.ensures c.rows_keep_rules.ensures c.one_first_fault.ensures 5 (outside_in_run scenario) table is_table bytes one other
