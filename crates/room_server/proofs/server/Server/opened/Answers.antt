use Rattle.std.proofs.Common.{◌≡◌, subst, refl}
use Rattle.std.specs.Prelude.{OnOk}
use Rattle.room_model.specs.Server.{with_links, opened}
use Rattle.room_arrivals.specs.Serving.{server_of}
use Rattle.room_server.specs.Hosted.{Hosted, server_in}
use Rattle.room_server.proofs.server.Server.opened.Goals as goal

pub returns-clause-server : goal.returns-clause-server
returns-clause-server g c =
    let i = c.self.inside in
    let v = server_of i.store i.setting i.links in
    subst
    (λ (h : Hosted). OnOk c.opened.result
    (with_links v c.opened.new.links ≡ opened (server_in h) c.args.conn c.args.key))
    c.self.view_is (c.opened.ensures.links v refl)
