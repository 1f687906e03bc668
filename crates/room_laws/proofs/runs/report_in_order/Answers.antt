use Rattle.room_laws.proofs.Reports.{report_in_order}
use Rattle.room_laws.proofs.runs.report_in_order.Goals as goal

pub returns : goal.returns
returns c = report_in_order
