-- The attached connections, and which of them something goes to.
use Rattle.std.specs.Prelude.{◌≡◌, refl, ℕ, Bool, not, ◌&&◌, ◌==◌, if◌then◌else◌, List, [], ◌∷◌}
use Rattle.std.specs.Ordering.{nat_cmp}
use Rattle.std.specs.FinMap.{FinMap, entries, from_entries, remove, code}
use Rattle.std.specs.Coded.{Coded, codes, coded_ℕ}
use Rattle.room_model.specs.Access.{Level, Decision}
use Rattle.room_model.specs.Server.{Link, Outbound, to_each, has_session, has_fetched, holds}
use Rattle.room_links.specs.declared.outs.Out.{Out}
use Rattle.room_links.specs.declared.outs.Sending.{Sending}
use Rattle.room_links.specs.declared.sending.Whom.{Whom}
use Rattle.room_links.specs.declared.sending.Whom.TheVariants.{Others, Fetched, Holder}
use Rattle.room_links.specs.Outs.{out_to}

pub link_code : Coded Link
link_code = Prim.hlevel codes

pub links_code : Coded (FinMap nat_cmp Link)
links_code = code coded_ℕ link_code

-- entries in order, as a map
abbrev pub as_map : List (ℕ × Link) → FinMap nat_cmp Link
as_map es = from_entries es

abbrev pub holds_session : ℕ → Link → Bool
holds_session a l = holds a l

abbrev pub goes_to : Whom → ℕ → Link → Bool
goes_to (Others k) j l = not (j == k) && has_session l
goes_to Fetched j l = has_fetched l
goes_to (Holder a) j l = holds a l

-- the same on each of these connections that it goes to
abbrev pub sends_of : Whom → Sending → List (ℕ × Link) → List Out
sends_of w s [] = []
sends_of w s (e ∷ es) = if goes_to w e.0 e.1 then out_to e.0 s ∷ sends_of w s es else sends_of w s es

-- in the model: to the others with a session, to those that have fetched, to those that hold an actor's session
abbrev pub to_whom : Whom → Outbound → FinMap nat_cmp Link → List (ℕ × Outbound)
to_whom (Others k) m ls = to_each has_session m (entries (remove ls k))
to_whom Fetched m ls = to_each has_fetched m (entries ls)
to_whom (Holder a) m ls = to_each (holds a) m (entries ls)
