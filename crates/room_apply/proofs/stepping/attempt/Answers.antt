-- What is left to prove of `stepping::attempt`.
use Rattle.std.proofs.Common.{◌≤◌, ◌+◌, length, refl, sym, ap, subst, arith}
use Rattle.room_apply.specs.Edits.{IsUndo}
use Rattle.room_apply.specs.Ways.{node_count}
use Rattle.room_apply.specs.Within.{ArePuts}
use Rattle.room_apply.proofs.Stepped.{Acted, acted_edits, acted_spare, acted_sum}
use Rattle.room_apply.proofs.UndoMore.{no_changes, undo_at}
use Rattle.room_apply.proofs.stepping.attempt.Goals as goal

pub returns-in-Ok-clause-edits : goal.returns-in-Ok-clause-edits
returns-in-Ok-clause-edits g c =
    let t = g.T.Tree.nodes c.args.t.now in
    let a = g.T.Tree.spare c.args.t.now in
    let w = g.T.Tree.nodes c.act.new.t in
    let d = g.T.Tree.spare c.act.new.t in
    let l = c.in_ok-left.left in
    let es = c.act.new.done.items in
    let x : Acted t a c.args.body w d es l.fields l.last l.names = record {
      formed = g.met.T.Tree.formed c.args.t.now;
      live = c.requires.live;
      settled = c.requires.settled;
      left = g.met.T.Tree.formed c.act.new.t;
      undo = c.act.ensures.undo t a (subst (IsUndo t a t a) (sym c.requires.empty) (no_changes t a));
      puts = c.act.ensures.puts (subst ArePuts (sym c.requires.empty) tt);
      runs = c.in_ok-left.ensures.within;
      leads = c.in_ok-left.ensures.ok;
      kinds = c.in_ok-left.ensures.kinds;
      object = c.in_ok-left.ensures.object;
      count = c.in_ok-left.ensures.count;
    } in
    let le : length es + node_count l.last + node_count l.last ≤ g.T.Tree.spare c.make_ready.new.t = omega
    (arith, c.in-Ok.ensures.ok, c.len.ensures, c.act.new.done.ok.0) in
    acted_edits t a c.args.body w d es l.fields l.last l.names x _ c.make_ready.ensures.nodes _ le _
    (ap (λ v. v.items) c.replace-done.ensures.value) _ c.finish.ensures.nodes _ c.finish.ensures.spare _
    c.finish.ensures.edits

pub returns-in-Ok-clause-spare : goal.returns-in-Ok-clause-spare
returns-in-Ok-clause-spare g c =
    let t = g.T.Tree.nodes c.args.t.now in
    let a = g.T.Tree.spare c.args.t.now in
    let w = g.T.Tree.nodes c.act.new.t in
    let d = g.T.Tree.spare c.act.new.t in
    let l = c.in_ok-left.left in
    let es = c.act.new.done.items in
    let x : Acted t a c.args.body w d es l.fields l.last l.names = record {
      formed = g.met.T.Tree.formed c.args.t.now;
      live = c.requires.live;
      settled = c.requires.settled;
      left = g.met.T.Tree.formed c.act.new.t;
      undo = c.act.ensures.undo t a (subst (IsUndo t a t a) (sym c.requires.empty) (no_changes t a));
      puts = c.act.ensures.puts (subst ArePuts (sym c.requires.empty) tt);
      runs = c.in_ok-left.ensures.within;
      leads = c.in_ok-left.ensures.ok;
      kinds = c.in_ok-left.ensures.kinds;
      object = c.in_ok-left.ensures.object;
      count = c.in_ok-left.ensures.count;
    } in
    let le : length es + node_count l.last + node_count l.last ≤ g.T.Tree.spare c.make_ready.new.t = omega
    (arith, c.in-Ok.ensures.ok, c.len.ensures, c.act.new.done.ok.0) in
    acted_spare t a c.args.body w d es l.fields l.last l.names x _ c.make_ready.ensures.nodes _ le _
    (ap (λ v. v.items) c.replace-done.ensures.value) _ c.finish.ensures.nodes _ c.finish.ensures.spare _
    c.finish.ensures.edits

pub returns-in-Ok-clause-sum : goal.returns-in-Ok-clause-sum
returns-in-Ok-clause-sum g c =
    let t = g.T.Tree.nodes c.args.t.now in
    let a = g.T.Tree.spare c.args.t.now in
    let w = g.T.Tree.nodes c.act.new.t in
    let d = g.T.Tree.spare c.act.new.t in
    let l = c.in_ok-left.left in
    let es = c.act.new.done.items in
    let x : Acted t a c.args.body w d es l.fields l.last l.names = record {
      formed = g.met.T.Tree.formed c.args.t.now;
      live = c.requires.live;
      settled = c.requires.settled;
      left = g.met.T.Tree.formed c.act.new.t;
      undo = c.act.ensures.undo t a (subst (IsUndo t a t a) (sym c.requires.empty) (no_changes t a));
      puts = c.act.ensures.puts (subst ArePuts (sym c.requires.empty) tt);
      runs = c.in_ok-left.ensures.within;
      leads = c.in_ok-left.ensures.ok;
      kinds = c.in_ok-left.ensures.kinds;
      object = c.in_ok-left.ensures.object;
      count = c.in_ok-left.ensures.count;
    } in
    let le : length es + node_count l.last + node_count l.last ≤ g.T.Tree.spare c.make_ready.new.t = omega
    (arith, c.in-Ok.ensures.ok, c.len.ensures, c.act.new.done.ok.0) in
    acted_sum t a c.args.body w d es l.fields l.last l.names x _ c.make_ready.ensures.nodes _ le _
    (ap (λ v. v.items) c.replace-done.ensures.value) _ c.finish.ensures.nodes _ c.finish.ensures.spare _
    c.finish.ensures.edits c.make_ready.ensures.kept

pub returns-in-Err-clause-err : goal.returns-in-Err-clause-err
returns-in-Err-clause-err g c = λ s a u. undo_at s _ _ a _ _ _ _ c.make_ready.ensures.nodes c.in-Err.ensures.err refl
    (c.act.ensures.undo s a u)
