use Rattle.std.proofs.Common.{◌≡◌, ◌∙◌, ◌++◌, List, map, ap, subst, refl}
use Rattle.room_links.specs.declared.outs.Out.{Out}
use Rattle.room_links.specs.Outs.{written}
use Rattle.room_model.specs.Server.{with_links, gone}
use Rattle.room_arrivals.specs.Serving.{server_of}
use Rattle.room_server.specs.Hosted.{Hosted, server_in}
use Rattle.room_server.proofs.server.Server.gone.Goals as goal

pub returns-clause-outs : goal.returns-clause-outs
returns-clause-outs g c =
    let i = c.self.inside in
    let v = server_of i.store i.setting i.links in
    let all = map written (gone v c.args.conn).outs in
    subst
    (λ (h : Hosted). c.gone.new.outs ≡ map written (gone (server_in h) c.args.conn).outs)
    c.self.view_is
    (c.in_ok-gone.ensures.outs v refl ∙ ap (λ (os : List Out). os ++ all) c.new-outs.ensures)

pub returns-clause-server : goal.returns-clause-server
returns-clause-server g c =
    let i = c.self.inside in
    let v = server_of i.store i.setting i.links in
    subst
    (λ (h : Hosted). with_links v c.gone.new.links ≡ (gone (server_in h) c.args.conn).server)
    c.self.view_is (c.in_ok-gone.ensures.links v refl)
