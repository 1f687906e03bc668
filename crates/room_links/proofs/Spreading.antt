-- What goes to some connections is what the model sends to them.
use Rattle.std.proofs.Common.{◌≡◌, ℕ, List, [], ◌∷◌, ◌++◌, Bool, true, false, cond, ◌&&◌, not, map, refl, sym, ap, ◌∙◌, nat_eq, nat_cmp}
use Rattle.std.specs.Ordering.{eq_by_cmp}
use Rattle.std.specs.Cmp.{unsigned_ties, eq_by_cmp_equiv, nat_cmp_total}
use Rattle.std.specs.FinMap.{FinMap, entries, remove}
use Rattle.std.specs.FinMap.Entries.{where_key}
use Rattle.room_model.specs.Server.{Link, Outbound, to_each, has_session, has_fetched, holds}
use Rattle.room_links.specs.declared.sending.Whom.{Whom}
use Rattle.room_links.specs.declared.sending.Whom.TheVariants.{Others, Fetched, Holder}
use Rattle.room_links.specs.Outs.{sending_of, written, out_to}
use Rattle.room_links.specs.Links.{sends_of, to_whom, goes_to}
use Rattle.room_links.proofs.Maps.{entries_without}

each_one : (b : Bool) (m : Outbound) (e : ℕ × Link) (es : List (ℕ × Link)) (p : Link → Bool) (xs : List _) → xs ≡ map written (to_each p m es)
    → cond b (out_to e.0 (sending_of m) ∷ xs) xs ≡ map written (cond b ((e.0, m) ∷ to_each p m es) (to_each p m es))
each_one true m e es p xs h = ap (λ r. out_to e.0 (sending_of m) ∷ r) h
each_one false m e es p xs h = h

fetched : (m : Outbound) (es : List (ℕ × Link)) → sends_of Fetched (sending_of m) es ≡ map written (to_each has_fetched m es)
fetched m [] = refl
fetched m (e ∷ es) = each_one (has_fetched e.1) m e es has_fetched _ (fetched m es)

holder : (a : ℕ) (m : Outbound) (es : List (ℕ × Link)) → sends_of (Holder a) (sending_of m) es ≡ map written (to_each (holds a) m es)
holder a m [] = refl
holder a m (e ∷ es) = each_one (holds a e.1) m e es (holds a) _ (holder a m es)

abbrev but : ℕ → List (ℕ × Link) → List (ℕ × Link)
but k es = where_key nat_cmp (λ x. not (eq_by_cmp nat_cmp k x)) es

other_one : (k : ℕ) (m : Outbound) (e : ℕ × Link) (es : List (ℕ × Link)) (b : Bool) (xs : List _)
    → xs ≡ map written (to_each has_session m (but k es))
    → cond (b && has_session e.1) (out_to e.0 (sending_of m) ∷ xs) xs
    ≡ map written (to_each has_session m (cond b (e ∷ but k es) (but k es)))
other_one k m e es true xs h = each_one (has_session e.1) m e (but k es) has_session xs h
other_one k m e es false xs h = h

others : (k : ℕ) (m : Outbound) (es : List (ℕ × Link))
    → sends_of (Others k) (sending_of m) es ≡ map written (to_each has_session m (but k es))
others k m [] = refl
others k m (e ∷ es) =
    ap (λ b. cond (not b && has_session e.1) (out_to e.0 (sending_of m) ∷ sends_of (Others k) (sending_of m) es)
    (sends_of (Others k) (sending_of m) es))
    (unsigned_ties e.0 k ∙ (eq_by_cmp_equiv nat_cmp_total).symm e.0 k)
    ∙ other_one k m e es (not (eq_by_cmp nat_cmp k e.0)) _ (others k m es)

pub said : (w : Whom) (m : Outbound) (ls : FinMap nat_cmp Link) → sends_of w (sending_of m) (entries ls) ≡ map written (to_whom w m ls)
said (Others k) m ls = others k m (entries ls) ∙ ap (λ es. map written (to_each has_session m es)) (sym (entries_without ls k))
said Fetched m ls = fetched m (entries ls)
said (Holder a) m ls = holder a m (entries ls)
