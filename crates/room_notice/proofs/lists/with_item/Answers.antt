use Rattle.std.proofs.Common.{[], ◌∷◌, ◌++◌, map, ap, ◌∙◌}
use Rattle.room_json.specs.View.{json_of}
use Rattle.room_notice.proofs.Items.{built_set}
use Rattle.room_notice.proofs.lists.with_item.Goals as goal

pub returns : goal.returns
returns c =
    let all = c.as_slice-all.result.now in
    let first = c.in_ok-append.ensures ∙ (λ i. c.new-next.ensures i ++ map json_of (c.split_at.ensures.front i)) in
    let second = c.in_ok-push.ensures.ok ∙ ap (λ vs. vs ++ json_of c.args.value ∷ []) first in
    c.in_ok-append-2.ensures ∙ (λ i. second i ++ map json_of (c.split_at-2.ensures.back i))
    ∙ built_set json_of c.args.at all c.args.items.now c.as_slice-all.ensures c.requires (json_of c.args.value)
