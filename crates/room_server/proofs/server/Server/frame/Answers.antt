use Rattle.std.proofs.Common.{◌≡◌, ◌∙◌, refl, subst}
use Rattle.std.specs.Prelude.{None}
use Rattle.room_msg.specs.Frame.{client_frame_in}
use Rattle.room_model.specs.Server.{serve}
use Rattle.room_arrivals.specs.Serving.{listed}
use Rattle.room_server.specs.Commit.{Puts, Stops}
use Rattle.room_server.specs.Hosted.{Hosted, server_in, broken_by}
use Rattle.room_server.proofs.Breaking.{unbroken}
use Rattle.room_server.proofs.Framing.{frame_puts, frame_stops, no_entry}
use Rattle.room_server.proofs.Putting.{puts_nothing, stops_nothing}
use Rattle.room_server.proofs.server.Server.frame.Goals as goal

pub returns-in-Ok-clause-puts : goal.returns-in-Ok-clause-puts
returns-in-Ok-clause-puts g c told =
    let d = g.D.Disk in
    let i = c.self.inside in
    let a = c.arrive.new in
    let e = c.in-Ok.ensures in
    let f = c.finish.new in
    subst
    (λ (h : Hosted). broken_by h ≡ None
    → Puts d.seen d.moment d.images h.store.place f.store.place
    (listed (serve (server_in h) c.args.conn (client_frame_in c.args.text.now)).entry) h.store.state
    (serve (server_in h) c.args.conn (client_frame_in c.args.text.now)).server.state
    c.args.disk.now f.disk c.finish.result)
    c.self.view_is
    (λ whole.
    frame_puts i.setting i.store a.store c.in_ok-draft.draft a.draft i.links
    (λ v. serve v c.args.conn (client_frame_in c.args.text.now)) c.in_ok-draft.ensures.links
    c.in_ok-draft.ensures.group e.serves c.self.invariant.closed e.keeps d.seen d.moment d.images
    f.store.place c.args.disk.now f.disk c.finish.result
    (c.finish.ensures.puts told (e.keeps.broken ∙ unbroken i.spent i.store.broken whole)))

pub returns-in-Ok-clause-stop : goal.returns-in-Ok-clause-stop
returns-in-Ok-clause-stop g c told can still =
    let d = g.D.Disk in
    let i = c.self.inside in
    let a = c.arrive.new in
    let e = c.in-Ok.ensures in
    let f = c.finish.new in
    subst
    (λ (h : Hosted). broken_by h ≡ None
    → Stops d.seen d.moment d.stopped d.leaves h.store.place.base
    (listed (serve (server_in h) c.args.conn (client_frame_in c.args.text.now)).entry) h.store.state
    (serve (server_in h) c.args.conn (client_frame_in c.args.text.now)).server.state
    c.args.disk.now f.disk c.finish.result)
    c.self.view_is
    (λ whole.
    frame_stops i.setting i.store a.store c.in_ok-draft.draft a.draft i.links
    (λ v. serve v c.args.conn (client_frame_in c.args.text.now)) c.in_ok-draft.ensures.links
    c.in_ok-draft.ensures.group e.serves c.self.invariant.closed e.keeps d.seen d.moment d.stopped d.leaves
    c.args.disk.now f.disk c.finish.result
    (c.finish.ensures.stop told can still (e.keeps.broken ∙ unbroken i.spent i.store.broken whole)))

pub returns-in-Ok-clause-none : goal.returns-in-Ok-clause-none
returns-in-Ok-clause-none g c =
    let i = c.self.inside in
    let a = c.arrive.new in
    let e = c.in-Ok.ensures in
    subst
    (λ (h : Hosted). (serve (server_in h) c.args.conn (client_frame_in c.args.text.now)).entry ≡ None
    → c.finish.new.disk ≡ c.args.disk.now)
    c.self.view_is
    (λ none.
    c.finish.ensures.none
    (no_entry i.setting i.store a.store c.in_ok-draft.draft a.draft i.links
    (λ v. serve v c.args.conn (client_frame_in c.args.text.now)) c.in_ok-draft.ensures.links
    c.in_ok-draft.ensures.group e.serves none))

pub returns-in-Err-clause-puts : goal.returns-in-Err-clause-puts
returns-in-Err-clause-puts g c told whole =
    puts_nothing g.D.Disk.seen g.D.Disk.moment g.D.Disk.images _ _ _ _ _ _ _ _ refl refl

pub returns-in-Err-clause-stop : goal.returns-in-Err-clause-stop
returns-in-Err-clause-stop g c told can still whole =
    stops_nothing g.D.Disk.seen g.D.Disk.moment g.D.Disk.stopped g.D.Disk.leaves _ _ _ _ _ _ _ refl refl
