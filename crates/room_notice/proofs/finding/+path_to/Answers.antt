use Rattle.std.proofs.Common.{[], ◌∷◌, ◌++◌, sym, ap, ◌∙◌, arith}
use Rattle.std.specs.Option.{option_copied}
use Rattle.room_notice.specs.Notices.{place_of, places_of}
use Rattle.room_notice.proofs.Items.{map_append}
use Rattle.room_notice.proofs.Paths.{path_none, path_absent, path_root, path_below}
use Rattle.room_model.specs.Notices.{path_within}
use Rattle.room_notice.proofs.finding.+path_to.Goals as goal

pub returns-then-levels-eq0 : goal.returns-then-levels-eq0
returns-then-levels-eq0 g t c =
    ap places_of c.new.ensures ∙ sym (ap (λ n. path_within n (g.T.Tree.nodes c.args.t.now) c.args.id.now) c.if-levels-eq0.true ∙ path_none (g.T.Tree.nodes c.args.t.now) c.args.id.now)

pub returns-in_default : goal.returns-in_default
returns-in_default g t c =
    ap places_of c.new-in_default.ensures ∙ sym (path_absent c.args.levels (g.T.Tree.nodes c.args.t.now) c.args.id.now (sym c.node.ensures ∙ ap option_copied c.in_default.is))

pub returns-then-same_id : goal.returns-then-same_id
returns-then-same_id g t c =
    ap places_of c.new-then-same_id.ensures
    ∙ sym (path_root c.args.levels (g.T.Tree.nodes c.args.t.now) c.args.id.now c.in-Some.node.now (sym c.node.ensures ∙ ap option_copied c.in-Some.is) (sym c.same_id.ensures ∙ c.if-same_id.true))

pub returns : goal.returns
returns g t c =
    let n = c.in-Some.node.now in
    ap places_of c.in_ok-push.ensures.ok
    ∙ map_append place_of c.in_ok-path.path (c.in_ok-place.field-0 ∷ [])
    ∙ (λ i. c.in_ok-path.ensures i ++ c.in_ok-place.ensures i ∷ [])
    ∙ sym (path_below c.args.levels (g.T.Tree.nodes c.args.t.now) c.args.id.now n (λ z. omega (arith, c.if-levels-eq0.false, z)) (sym c.node.ensures ∙ ap option_copied c.in-Some.is) (sym c.same_id.ensures ∙ c.if-same_id.false))
