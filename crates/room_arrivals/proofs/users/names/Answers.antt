use Rattle.std.proofs.Common.{◌∙◌, ap, sym, drop, arith}
use Rattle.std.specs.Option.{option_map}
use Rattle.std.specs.Map.Iter.{deref_pair}
use Rattle.std.specs.FinMap.{entries}
use Rattle.room_arrivals.proofs.Naming.{stepped}
use Rattle.room_arrivals.proofs.users.names.Goals as goal

pub loop-place-preserved-in-Continue-1 : goal.loop-place-preserved-in-Continue-1
loop-place-preserved-in-Continue-1 g c =
    let all = entries c.args.links.now in
    let at = c.loop-place in (
      stepped c.args.store.now.state.sessions c.args.conn all at.place (c.in-Some.number.now, c.in-Some.link.now)
          c.put_name.new.names.entries (omega (arith, c.loop-place-test.true))
          (sym c.at.ensures ∙ ap (option_map deref_pair) c.in-Some.is)
          (c.in_ok-put_name.ensures (drop at.place all) at.invariant.0),
      omega (arith, at.invariant.1),
    )
