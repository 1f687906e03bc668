use Rattle.room_script.specs.Grammar.{rows, schedule_in}
use Rattle.room_script.specs.Told.{Scheduled}
use Rattle.room_script.proofs.OneByOne.{schedule_told, schedule_seen, faults_back}
use Rattle.room_script.proofs.reading.read_schedule.Goals as goal

pub returns-clause-ok : goal.returns-clause-ok
returns-clause-ok c =
    (schedule_seen (schedule_in c.args.b.now) _ c.read_lines.result (schedule_told 1 (rows c.args.b.now)) c.read_lines.ensures.ok).0

pub returns-clause-all : goal.returns-clause-all
returns-clause-all c =
    (schedule_seen (schedule_in c.args.b.now) _ c.read_lines.result (schedule_told 1 (rows c.args.b.now)) c.read_lines.ensures.ok).1

pub returns-clause-err : goal.returns-clause-err
returns-clause-err c =
    faults_back Scheduled (schedule_in c.args.b.now) _ c.read_lines.result (schedule_told 1 (rows c.args.b.now)) c.read_lines.ensures.err
