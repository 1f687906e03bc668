use Rattle.std.proofs.Common.{◌++◌, map, ◌∙◌}
use Rattle.room_json.specs.View.{json_of}
use Rattle.room_notice.proofs.Items.{built_less}
use Rattle.room_notice.proofs.lists.with_less.Goals as goal

pub returns : goal.returns
returns c =
    let first = c.in_ok-append.ensures ∙ (λ i. c.new-next.ensures i ++ map json_of (c.split_at.ensures.front i)) in
    c.in_ok-append-2.ensures ∙ (λ i. first i ++ map json_of (c.split_at-2.ensures.back i))
    ∙ built_less json_of c.args.at c.as_slice-all.result.now c.args.items.now c.as_slice-all.ensures
