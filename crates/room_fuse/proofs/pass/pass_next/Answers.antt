use Rattle.std.proofs.Common.{◌≡◌, ◌<◌, rules, length, slice_index_or}
use Rattle.room_fuse.specs.Held.{first_of}
use Rattle.room_fuse.proofs.Firsts.{first_at, none_of, without, rest_same, rest_without}
use Rattle.room_fuse.proofs.Passing.{passed_same, refused, passed, spares_same, spares_step, place_of_first}
use Rattle.room_fuse.proofs.pass.pass_next.Goals as goal

pub pass-requires : goal.pass-requires
pass-requires g c told =
    let held = c.args.held.now.items in
    let index : c.index_of-i.result ≡ first_of c.args.held.now.items c.args.file = search rules in
    let within : c.index_of-i.result < length c.args.held.now.items = search rules in
    let there : c.index.result.now ≡ slice_index_or c.args.held.now.items c.index_of-i.result c.index.result.now = search rules in
    place_of_first held c.args.file c.index.result.now (first_at held c.args.file c.index_of-i.result c.index.result.now index within there) (g.D.Disk.seen c.args.disk.now) (c.requires told)

pub returns-then-i-len-clause-passed : goal.returns-then-i-len-clause-passed
returns-then-i-len-clause-passed g c told = passed_same g.D.Disk.seen g.D.Disk.moment g.D.Disk.images c.args.disk.now c.args.held.now.items (c.requires told)

pub returns-then-i-len-clause-spares : goal.returns-then-i-len-clause-spares
returns-then-i-len-clause-spares g c told = spares_same g.D.Disk.seen g.D.Disk.moment g.D.Disk.images c.args.file c.args.disk.now

pub returns-then-i-len-clause-rest : goal.returns-then-i-len-clause-rest
returns-then-i-len-clause-rest g c = rest_same c.args.file c.args.held.now.items

pub returns-then-i-len-clause-none : goal.returns-then-i-len-clause-none
returns-then-i-len-clause-none g c told =
    let all : first_of c.args.held.now.items c.args.file ≡ length c.args.held.now.items = search rules in
    none_of c.args.held.now.items c.args.file all

pub returns-in_err-pass-clause-passed : goal.returns-in_err-pass-clause-passed
returns-in_err-pass-clause-passed g c told =
    let d = g.D.Disk in
    let held = c.args.held.now.items in
    let index : c.index_of-i.result ≡ first_of c.args.held.now.items c.args.file = search rules in
    let within : c.index_of-i.result < length c.args.held.now.items = search rules in
    let there : c.index.result.now ≡ slice_index_or c.args.held.now.items c.index_of-i.result c.index.result.now = search rules in
    refused d.seen d.moment d.images held c.args.file c.index.result.now (first_at held c.args.file c.index_of-i.result c.index.result.now index within there) c.args.disk.now c.pass.new.disk (c.pass.ensures.steps told) (c.requires told)

pub returns-in_err-pass-clause-spares : goal.returns-in_err-pass-clause-spares
returns-in_err-pass-clause-spares g c told = let d = g.D.Disk in spares_step d.seen d.moment d.images c.args.file _ c.args.disk.now c.pass.new.disk (c.pass.ensures.steps told)

pub returns-in_err-pass-clause-rest : goal.returns-in_err-pass-clause-rest
returns-in_err-pass-clause-rest g c = rest_same c.args.file c.args.held.now.items

pub returns-clause-passed : goal.returns-clause-passed
returns-clause-passed g c told =
    let d = g.D.Disk in
    let held = c.args.held.now.items in
    let index : c.index_of-i.result ≡ first_of c.args.held.now.items c.args.file = search rules in
    let within : c.index_of-i.result < length c.args.held.now.items = search rules in
    let there : c.index.result.now ≡ slice_index_or c.args.held.now.items c.index_of-i.result c.index.result.now = search rules in
    let at = first_at held c.args.file c.index_of-i.result c.index.result.now index within there in
    passed d.seen d.moment d.images held c.args.file c.index.result.now at c.args.disk.now c.pass.new.disk (c.pass.ensures.steps told) (c.requires told)
    c.remove.new.self.items (without held c.remove.new.self.items c.args.file c.index_of-i.result c.index.result.now at index c.remove.ensures.by_index.2) (c.in_ok-pass.ensures.done told)

pub returns-clause-spares : goal.returns-clause-spares
returns-clause-spares g c told = let d = g.D.Disk in spares_step d.seen d.moment d.images c.args.file _ c.args.disk.now c.pass.new.disk (c.pass.ensures.steps told)

pub returns-clause-rest : goal.returns-clause-rest
returns-clause-rest g c =
    let held = c.args.held.now.items in
    let index : c.index_of-i.result ≡ first_of c.args.held.now.items c.args.file = search rules in
    let within : c.index_of-i.result < length c.args.held.now.items = search rules in
    let there : c.index.result.now ≡ slice_index_or c.args.held.now.items c.index_of-i.result c.index.result.now = search rules in
    let at = first_at held c.args.file c.index_of-i.result c.index.result.now index within there in
    rest_without held c.remove.new.self.items c.args.file c.index.result.now at (without held c.remove.new.self.items c.args.file c.index_of-i.result c.index.result.now at index c.remove.ensures.by_index.2)
