use Rattle.std.proofs.Common.{List, ℕ, ◌++◌, ap, ◌∙◌}
use Rattle.room_bytes.specs.declared.entries.Format.TheVariants.{Two}
use Rattle.room_snapshot.specs.Bounds.{state_of}
use Rattle.room_snapshot.specs.Reading.{snapshot_of}
use Rattle.room_snapshot.specs.Spelling.{snapshot_bytes}
use Rattle.room_snapshot.proofs.Again.{snapshots_again}
use Rattle.room_snapshot.proofs.writing.write_snapshot.Goals as goal

pub returns-clause-again : goal.returns-clause-again
returns-clause-again g c valid =
    let s = state_of c.args.count c.args.sessions.now (g.T.Tree.nodes c.args.t.now) in
    ap (snapshot_of Two) (c.from_vec.ensures ∙ c.in_ok-put_snapshot.ensures.bytes
    ∙ ap (λ (l : List ℕ). l ++ snapshot_bytes Two s) c.new-out.ensures.items)
    ∙ snapshots_again Two s (record {
      valid = valid;
      named = c.in_ok-put_snapshot.ensures.named;
      nodes =
          c.in_ok-put_snapshot.ensures.counted;
    })
