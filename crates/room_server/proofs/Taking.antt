-- One arrival of a turn.
use Rattle.std.proofs.Common.{◌≡◌, ℕ, List, ◌++◌, map, refl, sym, ap, ◌∙◌, subst}
use Rattle.std.specs.Prelude.{Option, Some, None, Result, Ok, Err, OnOk}
use Rattle.std.proofs.lemmas.List.{append-nil}
use Rattle.std.specs.Ordering.{nat_cmp}
use Rattle.std.specs.FinMap.{FinMap, get}
use Rattle.room_log.specs.Log.{Entry}
use Rattle.room_links.specs.declared.outs.Out.{Out}
use Rattle.room_links.specs.Outs.{written}
use Rattle.room_msg.specs.Frame.{client_frame_in}
use Rattle.room_model.specs.Server.{Server, Link, serve, gone, gone_at, opened, with_links}
use Rattle.room_store.specs.Stored.{Stored}
use Rattle.room_arrivals.specs.Serving.{server_of, listed, Serves}
use Rattle.room_arrivals.specs.declared.draft.Setting.{Setting}
use Rattle.room_arrivals.specs.declared.draft.Draft.{Draft}
use Rattle.room_server.specs.declared.arrivals.Came.{Came}
use Rattle.room_server.specs.declared.arrivals.Came.TheVariants.{Opened, Frame, Gone}
use Rattle.room_server.specs.Turn.{takes}

gone_none : (v : Server) (k : ℕ) → (gone v k).entry ≡ None
gone_none v k = at (get v.links k)
  where
    at : (o : Option Link) → (gone_at v k o).entry ≡ None
    at None = refl
    at (Some l) = refl

pub ok_both : {T E : Type 0} (P Q : Type 0) (r : Result T E) → OnOk r P → OnOk r Q → OnOk r (P × Q)
ok_both P Q (Ok x) p q = (p, q)
ok_both P Q (Err e) p q = p

module _ (setting : Setting) (s : Stored) (d : Draft) (c : Came) where
  pub takes_opened : (k key : ℕ) (ls : FinMap nat_cmp Link) → c ≡ Opened k key
      → with_links (server_of s setting d.links) ls ≡ opened (server_of s setting d.links) k key
      → Serves setting s s d (record { links = ls; outs = d.outs; group = d.group }) (λ v. takes v c)
  takes_opened k key ls is e =
      subst
      (λ (x : Came). Serves setting s s d (record { links = ls; outs = d.outs; group = d.group }) (λ v. takes v x))
      (sym is) (e, sym (append-nil d.outs), sym (append-nil d.group.entries))

  pub takes_frame : (t : Stored) (e : Draft) (k : ℕ) (text : List ℕ) → c ≡ Frame k text
      → Serves setting s t d e (λ v. serve v k (client_frame_in text)) → Serves setting s t d e (λ v. takes v c)
  takes_frame t e k text is serves =
      subst (λ (x : Came). Serves setting s t d e (λ v. takes v x)) (sym is) serves

  pub takes_gone : (k : ℕ) (ls : FinMap nat_cmp Link) (os : List Out) → c ≡ Gone k
      → (with_links (server_of s setting d.links) ls ≡ (gone (server_of s setting d.links) k).server)
      × (os ≡ d.outs ++ map written (gone (server_of s setting d.links) k).outs)
      → Serves setting s s d (record { links = ls; outs = os; group = d.group }) (λ v. takes v c)
  takes_gone k ls os is both =
      let none = gone_none (server_of s setting d.links) k in
      subst
      (λ (x : Came). Serves setting s s d (record { links = ls; outs = os; group = d.group }) (λ v. takes v x))
      (sym is) (
        both.0,
        both.1,
        sym (append-nil d.group.entries)
            ∙ ap (λ (o : Option Entry). d.group.entries ++ listed o) (sym none),
      )
