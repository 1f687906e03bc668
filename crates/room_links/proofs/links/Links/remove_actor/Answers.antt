use Rattle.std.proofs.Common.{◌≡◌, ℕ, List, rules, sym, ap, ◌∙◌, subst}
use Rattle.std.specs.FinMap.{FinMap}
use Rattle.std.specs.Ordering.{nat_cmp}
use Rattle.std.specs.Map.{keys_of}
use Rattle.std.specs.List.Sorted.{IsStrictlySortedBy}
use Rattle.indexmap.proofs.CallerLemmas.{filter-RetainsPairs}
use Rattle.room_model.specs.Server.{Link, without_actor}
use Rattle.room_links.specs.Links.{as_map}
use Rattle.room_links.proofs.Maps.{stays, strict_kept, kept_view}
use Rattle.room_links.proofs.links.Links.remove_actor.Goals as goal

pub invariant_of-self : goal.invariant_of-self
invariant_of-self c =
    let kept = filter-RetainsPairs _ (stays c.args.actor) _ (λ k v b w g call. search rules) _ _ c.retain.ensures.filtered in
    subst (λ (es : List (ℕ × Link)). IsStrictlySortedBy nat_cmp (keys_of es)) (sym kept)
    (strict_kept (stays c.args.actor) c.self.inside.map.entries c.self.invariant)

pub returns : goal.returns
returns c =
    let kept = filter-RetainsPairs _ (stays c.args.actor) _ (λ k v b w g call. search rules) _ _ c.retain.ensures.filtered in
    ap as_map kept ∙ kept_view c.args.actor c.self.inside.map.entries c.self.invariant
    ∙ ap (λ (ls : FinMap nat_cmp Link). without_actor ls c.args.actor) c.self.view_is
