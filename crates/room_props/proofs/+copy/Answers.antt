use Rattle.std.specs.Cmp.Lexicographic.{slice_cmp}
use Rattle.std.specs.Ordering.{nat_cmp}
use Rattle.std.proofs.Common.{◌≡◌, [], ◌∷◌, ◌++◌, sym, ap, ◌∙◌, subst, append_assoc}
use Rattle.std.specs.List.Sorted.{IsStrictlySortedBy}
use Rattle.std.specs.Map.{keys_of}
use Rattle.room_props.proofs.Views.{Entry, insert_last}
use Rattle.room_props.proofs.+copy.Goals as goal

pub copying::copy_entries-loop-name-preserved : goal.copying::copy_entries-loop-name-preserved
copying::copy_entries-loop-name-preserved t c =
    let l = c.loop-name in
    let done = l.invariant.0 in
    let e : Entry = (c.in-Some.name.now, c.in-Some.part.now) in
    let left = c.next.new.self in
    let all : c.args.entries.now.entries ≡ done ++ e ∷ left = l.invariant.1 ∙ ap (λ es. done ++ es) c.in-Some.ensures.steps in
    let last = insert_last done e left (subst (λ es. IsStrictlySortedBy (slice_cmp nat_cmp) (keys_of es)) all c.iter-name-items.ensures.ordered) in
    let named : c.in_ok-name.name ≡ e.0 = c.in_ok-name.ensures in (
      done ++ e ∷ [],
      all ∙ sym (append_assoc done (e ∷ []) left),
      c.in_ok-set.ensures.ok ∙ rw (named, c.in_ok-copy.ensures, l.invariant.2) last,
    )
