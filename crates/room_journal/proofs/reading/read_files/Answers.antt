use Rattle.std.proofs.Common.{◌∙◌, ◌+◌}
use Rattle.room_journal.proofs.Choosing.{found_of, fault_of, through_ok, shaped}
use Rattle.room_journal.proofs.reading.read_files.Goals as goal

pub returns-clause-found : goal.returns-clause-found
returns-clause-found g c told = found_of _ _ _ _ _ _
    (c.as_slice.ensures.value ∙ c.in_ok-first.ensures.bytes told ∙ c.sync_both.ensures.same told c.args.base)
    (c.as_slice-2.ensures.value ∙ c.in_ok-second.ensures.bytes told ∙ (c.read_file.ensures.stays told).files.seen (c.args.base + 1) ∙ c.sync_both.ensures.same told (c.args.base + 1)) c.choose.ensures.found

pub returns-clause-fault : goal.returns-clause-fault
returns-clause-fault g c told = fault_of _ _ _ _ _ _
    (c.as_slice.ensures.value ∙ c.in_ok-first.ensures.bytes told ∙ c.sync_both.ensures.same told c.args.base)
    (c.as_slice-2.ensures.value ∙ c.in_ok-second.ensures.bytes told ∙ (c.read_file.ensures.stays told).files.seen (c.args.base + 1) ∙ c.sync_both.ensures.same told (c.args.base + 1)) c.choose.ensures.fault

pub returns-clause-came : goal.returns-clause-came
returns-clause-came g c = g.met.D.Disk.came_then _ _ _ c.sync_both.ensures.came (g.met.D.Disk.came_then _ _ _ c.read_file.ensures.came c.read_file-2.ensures.came)

pub returns-clause-shape : goal.returns-clause-shape
returns-clause-shape g c = shaped _ _ _ c.choose.ensures.found

pub returns-clause-through : goal.returns-clause-through
returns-clause-through g c told =
    through_ok _ g.D.Disk.came g.D.Disk.moment c.args.disk.now c.sync_both.new.disk c.read_file-2.new.disk c.sync_both.ensures.came
    (g.met.D.Disk.came_then _ _ _ c.read_file.ensures.came c.read_file-2.ensures.came) (c.in_ok-sync_both.ensures.counted told)
