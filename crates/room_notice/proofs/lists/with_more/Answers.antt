use Rattle.std.proofs.Common.{[], ◌∷◌, ◌++◌, map, ap, ◌∙◌}
use Rattle.room_json.specs.View.{json_of}
use Rattle.room_notice.proofs.Items.{built_more}
use Rattle.room_notice.proofs.lists.with_more.Goals as goal

pub returns : goal.returns
returns c =
    let first = c.in_ok-append.ensures ∙ (λ i. c.new-next.ensures i ++ map json_of (c.split_at.ensures.front i)) in
    let second = c.in_ok-push.ensures.ok ∙ ap (λ vs. vs ++ json_of c.args.value ∷ []) first in
    c.in_ok-append-2.ensures ∙ (λ i. second i ++ map json_of (c.split_at.ensures.back i))
    ∙ built_more json_of c.args.at c.as_slice.result.now c.args.items.now c.as_slice.ensures (json_of c.args.value)
