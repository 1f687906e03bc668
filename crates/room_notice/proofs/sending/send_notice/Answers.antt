use Rattle.std.proofs.Common.{OnOk, codes, sym, ap, ◌∙◌, subst}
use Rattle.room_model.specs.Notices.{keyed_out, notice_out}
use Rattle.room_notice.specs.Emitted.{Emits}
use Rattle.room_notice.specs.Notices.{notice_of, places_of}
use Rattle.room_notice.proofs.sending.send_notice.Goals as goal

pub returns-in-Fields : goal.returns-in-Fields
returns-in-Fields g c =
    let same = (λ i. keyed_out (codes "fields") (places_of (c.as_slice.ensures i)) c.in-Fields.set (c.as_slice-in-Fields.ensures i)) ∙ ap (λ n. notice_out (notice_of n)) (sym c.in-Fields.is) in
    subst (λ v. OnOk c.send_keyed.result (Emits v (g.S.Serializer.written c.args.out.now) (g.S.Serializer.written c.send_keyed.new.out))) same c.send_keyed.ensures

pub returns-in-Keys : goal.returns-in-Keys
returns-in-Keys g c =
    let same = (λ i. keyed_out (codes "keys") (places_of (c.as_slice-in-Keys.ensures i)) c.in-Keys.set (c.as_slice-in-Keys-2.ensures i)) ∙ ap (λ n. notice_out (notice_of n)) (sym c.in-Keys.is) in
    subst (λ v. OnOk c.send_keyed-in-Keys.result (Emits v (g.S.Serializer.written c.args.out.now) (g.S.Serializer.written c.send_keyed-in-Keys.new.out))) same c.send_keyed-in-Keys.ensures
