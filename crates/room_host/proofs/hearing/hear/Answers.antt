use Rattle.std.proofs.Common.{ap}
use Rattle.room_replay.specs.Files.{StandsFor}
use Rattle.room_msg.specs.Frame.{client_frame_in}
use Rattle.room_model.specs.Server.{serve}
use Rattle.room_model.specs.World.{Running, entries_in}
use Rattle.room_moves.specs.Moments.{OfFirst}
use Rattle.room_server.specs.Hosted.{server_in}
use Rattle.room_host.proofs.Moments.{then_within}
use Rattle.room_host.proofs.Serving.{serve_follows}
use Rattle.room_host.proofs.Committing.{put_moments, put_written}
use Rattle.room_host.proofs.Lying.{lies}
use Rattle.room_host.proofs.Framing.{frame_runs, frame_rests, frame_goes, frame_fires}
use Rattle.room_host.proofs.hearing.hear.Goals as goal

pub returns-in_err-end-in-Err-clause-images : goal.returns-in_err-end-in-Err-clause-images
returns-in_err-end-in-Err-clause-images g c told =
    let d = g.D.Disk in
    let h = c.args.server.now in
    let u = client_frame_in c.args.text.now in
    let out = serve (server_in h) c.args.k u in
    let k = c.requires.kept told in
    then_within d.moment d.images (OfFirst (StandsFor 0) h.store.state (entries_in out.entry)) c.args.disk.now
    c.frame.new.disk c.end.new.disk
    (put_moments d.seen d.moment d.images h.store.place c.frame.new.self.store.place h.store.state out.server.state
    c.args.disk.now c.frame.new.disk c.frame.result out.entry k.base (serve_follows (server_in h) c.args.k u) k.holds
    (c.frame.ensures.puts told k.whole))
    (c.end.ensures.within told)

pub returns-in_ok-end-in-Err-clause-images : goal.returns-in_ok-end-in-Err-clause-images
returns-in_ok-end-in-Err-clause-images g c told =
    let d = g.D.Disk in
    let h = c.args.server.now in
    let u = client_frame_in c.args.text.now in
    let out = serve (server_in h) c.args.k u in
    let k = c.requires.kept told in
    then_within d.moment d.images (OfFirst (StandsFor 0) h.store.state (entries_in out.entry)) c.args.disk.now
    c.frame.new.disk c.end.new.disk
    (put_moments d.seen d.moment d.images h.store.place c.frame.new.self.store.place h.store.state out.server.state
    c.args.disk.now c.frame.new.disk c.frame.result out.entry k.base (serve_follows (server_in h) c.args.k u) k.holds
    (c.frame.ensures.puts told k.whole))
    (c.end.ensures.within told)

pub returns-in-Ok-clause-images : goal.returns-in-Ok-clause-images
returns-in-Ok-clause-images g c told =
    let d = g.D.Disk in
    let h = c.args.server.now in
    let u = client_frame_in c.args.text.now in
    let out = serve (server_in h) c.args.k u in
    let k = c.requires.kept told in
    put_moments d.seen d.moment d.images h.store.place c.frame.new.self.store.place h.store.state out.server.state
    c.args.disk.now c.frame.new.disk c.frame.result out.entry k.base (serve_follows (server_in h) c.args.k u) k.holds
    (c.frame.ensures.puts told k.whole)

pub returns-in-Ok-clause-kept : goal.returns-in-Ok-clause-kept
returns-in-Ok-clause-kept g c told =
    let d = g.D.Disk in
    let h = c.args.server.now in
    let e = c.in-Ok.ensures in
    let k = c.requires.kept told in
    frame_runs d.seen d.moment d.images h c.frame.new.self
    (serve (server_in h) c.args.k (client_frame_in c.args.text.now)) c.args.disk.now c.frame.new.disk c.in-Ok.outs k
    e.broken e.base (e.settled told) (e.held told) (e.puts told k.whole)

pub returns-in-Ok-clause-rests : goal.returns-in-Ok-clause-rests
returns-in-Ok-clause-rests g c told can rests =
    let d = g.D.Disk in
    let h = c.args.server.now in
    frame_rests d.seen d.moment d.images d.stopped d.leaves g.D.Stopping.armed g.D.Stopping.way h c.frame.new.self
    (serve (server_in h) c.args.k (client_frame_in c.args.text.now)) c.args.disk.now c.frame.new.disk c.in-Ok.outs rests
    (c.in-Ok.ensures.stop told can rests.going (c.requires.kept told).whole)

pub returns-in-Ok-clause-heard : goal.returns-in-Ok-clause-heard
returns-in-Ok-clause-heard g c told can rests =
    let d = g.D.Disk in
    let h = c.args.server.now in
    let e = c.in-Ok.ensures in
    let whole = (c.requires.kept told).whole in (
      frame_goes d.seen d.moment d.images d.stopped d.leaves g.D.Stopping.armed g.D.Stopping.way h c.frame.new.self
          (serve (server_in h) c.args.k (client_frame_in c.args.text.now)) c.args.disk.now c.frame.new.disk
          c.in-Ok.outs rests (g.met.D.Stopping.counts c.args.disk.now c.frame.new.disk e.came) (e.puts told whole)
          (e.stop told can rests.going whole),
      ap Running e.server,
      e.outs,
    )

pub returns-in_ok-end-in-Err-clause-kept : goal.returns-in_ok-end-in-Err-clause-kept
returns-in_ok-end-in-Err-clause-kept g c told =
    let d = g.D.Disk in
    let h = c.args.server.now in
    let u = client_frame_in c.args.text.now in
    let out = serve (server_in h) c.args.k u in
    let k = c.requires.kept told in
    let e = c.in_ok-end-in-Err.ensures in
    let w = g.D.Stopping.way c.frame.new.disk in
    lies d.seen d.moment d.images d.leaves c.frame.new.disk c.end.new.disk w c.args.disk.now h.store.state
    (entries_in out.entry)
    (put_moments d.seen d.moment d.images h.store.place c.frame.new.self.store.place h.store.state out.server.state
    c.args.disk.now c.frame.new.disk c.frame.result out.entry k.base (serve_follows (server_in h) c.args.k u) k.holds
    (c.frame.ensures.puts told k.whole))
    (put_written d.seen d.moment d.images h.store.place c.frame.new.self.store.place h.store.state out.server.state
    c.args.disk.now c.frame.new.disk c.frame.result out.entry k.base k.holds (c.frame.ensures.puts told k.whole))
    (λ f. g.met.D.Disk.left_is_image c.frame.new.disk w f told) (e.left told) (e.first told) (e.second told)

pub returns-in_ok-end-in-Err-clause-heard : goal.returns-in_ok-end-in-Err-clause-heard
returns-in_ok-end-in-Err-clause-heard g c told can rests =
    let d = g.D.Disk in
    let h = c.args.server.now in
    let u = client_frame_in c.args.text.now in
    let k = c.requires.kept told in
    let e = c.in_ok-end-in-Err.ensures in
    frame_fires d.seen d.moment d.images d.stopped d.leaves g.D.Stopping.armed g.D.Stopping.way h c.frame.new.self
    (serve (server_in h) c.args.k u) c.args.disk.now c.frame.new.disk c.end.new.disk c.frame.result rests k.base
    (serve_follows (server_in h) c.args.k u)
    (g.met.D.Stopping.counts c.args.disk.now c.frame.new.disk c.frame.ensures.came)
    (c.frame.ensures.stop told can rests.going k.whole) e.stopped (e.left told) e.unarmed
