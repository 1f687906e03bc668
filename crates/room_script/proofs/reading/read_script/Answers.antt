use Rattle.room_script.specs.Grammar.{rows, script_in}
use Rattle.room_script.specs.Told.{scripted}
use Rattle.room_script.proofs.OneByOne.{script_told, script_seen, faults_back}
use Rattle.room_script.proofs.reading.read_script.Goals as goal

pub returns-clause-ok : goal.returns-clause-ok
returns-clause-ok c =
    (script_seen (script_in c.args.b.now) _ c.read_lines.result (script_told 1 (rows c.args.b.now)) c.read_lines.ensures.ok).0

pub returns-clause-all : goal.returns-clause-all
returns-clause-all c =
    (script_seen (script_in c.args.b.now) _ c.read_lines.result (script_told 1 (rows c.args.b.now)) c.read_lines.ensures.ok).1

pub returns-clause-err : goal.returns-clause-err
returns-clause-err c =
    faults_back scripted (script_in c.args.b.now) _ c.read_lines.result (script_told 1 (rows c.args.b.now)) c.read_lines.ensures.err
