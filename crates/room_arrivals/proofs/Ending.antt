-- Messages act one after the other.
use Rattle.std.proofs.Common.{◌≡◌, ◌⊎◌, inl, inr, ⊎_elim, ℕ, List, [], ◌∷◌, ◌++◌, map, refl, sym, ap, ◌∙◌, append_assoc, append-nil}
use Rattle.std.specs.Prelude.{Option, Some, None, Bool}
use Rattle.std.proofs.lemmas.List.{map-append}
use Rattle.room_log.specs.Log.{Entry, Update}
use Rattle.room_msg.specs.declared.messages.ClientMsg.{ClientMsg}
use Rattle.room_msg.specs.declared.messages.ClientMsg.TheVariants as client
use Rattle.room_log.specs.Taking.{Taken}
use Rattle.room_model.specs.Server.{Server, Served, acts, act_all, waits_after, or_entry, nothing}
use Rattle.room_links.specs.declared.outs.Out.{Out}
use Rattle.room_links.specs.Outs.{written}
use Rattle.room_store.specs.Stored.{Stored}
use Rattle.room_arrivals.specs.Serving.{listed, Keeps}
use Rattle.room_arrivals.specs.Waiting.{Waits}

-- where a step ends that begins with these sends and entries
pub record Ending : Type 0 where
  pub server : Server
  pub outs : List Out
  pub entries : List Entry

abbrev pub ending : Served → List Out → List Entry → Ending
ending x os es = record { server = x.server; outs = os ++ map written x.outs; entries = es ++ listed x.entry }

entry_or_none : (v : Server) (k a : ℕ) (w : Option Update) (m : ClientMsg)
    → ((acts v k a w m).entry ≡ None) ⊎ (waits_after w m ≡ None)
entry_or_none v k a w (client.Hello h) = inl refl
entry_or_none v k a w (client.Presence target patch) = inl refl
entry_or_none v k a w (client.Broadcast e) = inl refl
entry_or_none v k a w client.Fetch = inl refl
entry_or_none v k a w (client.Update os) = inr refl

no_entry : (v : Server) (k a : ℕ) (ms : List ClientMsg) → (act_all v k a None ms).entry ≡ None
no_entry v k a [] = refl
no_entry v k a (client.Hello h ∷ ms) = no_entry v k a ms
no_entry v k a (client.Presence target patch ∷ ms) = no_entry v k a ms
no_entry v k a (client.Broadcast e ∷ ms) = no_entry v k a ms
no_entry v k a (client.Fetch ∷ ms) = no_entry (acts v k a None client.Fetch).server k a ms
no_entry v k a (client.Update os ∷ ms) = no_entry v k a ms

entries_then : (es : List Entry) (d e : Option Entry) → (d ≡ None) ⊎ (e ≡ None)
    → (es ++ listed d) ++ listed e ≡ es ++ listed (or_entry d e)
entries_then es None e h = ap (λ fs. fs ++ listed e) (append-nil es)
entries_then es (Some d) None h = append-nil (es ++ d ∷ [])
entries_then es (Some d) (Some e) h = ⊎_elim (λ i. absurd (apart d i)) (λ i. absurd (apart e i)) h
  where
    apart : (x : Entry) → Some x ≡ None → ⊥
    apart x i = cc

module _ (v : Server) (k a : ℕ) (w : Option Update) (m : ClientMsg) (ms : List ClientMsg) where
  abbrev out : Served
  out = acts v k a w m

  abbrev rest : Served
  rest = act_all out.server k a (waits_after w m) ms

  one_entry : (out.entry ≡ None) ⊎ (rest.entry ≡ None)
  one_entry = ⊎_elim (λ i. inl i)
      (λ i. inr (ap (λ o. (act_all out.server k a o ms).entry) i ∙ no_entry out.server k a ms))
      (entry_or_none v k a w m)

  outs_then : (os : List Out) → (os ++ map written out.outs) ++ map written rest.outs ≡ os ++ map written (out.outs ++ rest.outs)
  outs_then os = append_assoc os (map written out.outs) (map written rest.outs)
      ∙ ap (λ ps. os ++ ps) (sym (map-append written out.outs rest.outs))

  ends_one : (os : List Out) (es : List Entry)
      → ending rest (os ++ map written out.outs) (es ++ listed out.entry) ≡ ending (act_all v k a w (m ∷ ms)) os es
  ends_one os es i = record {
    server = rest.server;
    outs = outs_then os i;
    entries = entries_then es out.entry rest.entry one_entry i;
  }

  pub step_ends : (t : Server) (os ps : List Out) (es fs : List Entry)
      → t ≡ out.server → ps ≡ os ++ map written out.outs → fs ≡ es ++ listed out.entry
      → ending (act_all t k a (waits_after w m) ms) ps fs ≡ ending (act_all v k a w (m ∷ ms)) os es
  step_ends t os ps es fs e f g =
      (λ i. ending (act_all (e i) k a (waits_after w m) ms) (f i) (g i)) ∙ ends_one os es

-- where nothing is left to act, the step is done
pub ends : (t : Server) (x : Served) (os ps : List Out) (es fs : List Entry)
    → ending (nothing t) ps fs ≡ ending x os es
    → (t ≡ x.server) × (ps ≡ os ++ map written x.outs) × (fs ≡ es ++ listed x.entry)
ends t x os ps es fs e = (
  ap (λ (y : Ending). y.server) e,
  sym (append-nil ps) ∙ ap (λ (y : Ending). y.outs) e,
  sym (append-nil fs) ∙ ap (λ (y : Ending). y.entries) e,
)

-- what the update of a frame comes to while it waits, and where the step ends
abbrev pub Goes : Server → ℕ → ℕ → Bool → Taken → List ClientMsg → List Out → List Entry → Ending → Type 0
Goes v k a b t ms os es total =
    (w : Option Update) × Waits b t w × (ending (act_all v k a w ms) os es ≡ total)

-- one message acts
pub goes_on : (v x : Server) (k a : ℕ) (m : ClientMsg) (ms left : List ClientMsg) (b c : Bool) (t u : Taken)
    (os ps : List Out) (es fs : List Entry) (total : Ending)
    → left ≡ m ∷ ms
    → ((w : Option Update) → Waits b t w → (x ≡ (acts v k a w m).server)
    × (ps ≡ os ++ map written (acts v k a w m).outs) × (fs ≡ es ++ listed (acts v k a w m).entry))
    → ((w : Option Update) → Waits b t w → Waits c u (waits_after w m))
    → Goes v k a b t left os es total → Goes x k a c u ms ps fs total
goes_on v x k a m ms left b c t u os ps es fs total first serves waits g =
    let s = serves g.0 g.1 in (
      waits_after g.0 m,
      waits g.0 g.1,
      step_ends v k a g.0 m ms x os ps es fs s.0 s.1 s.2
          ∙ ap (λ ns. ending (act_all v k a g.0 ns) os es) (sym first) ∙ g.2,
    )

pub kept_then : (s t u : Stored) → Keeps s t → Keeps t u → Keeps s u
kept_then s t u h g = record {
  held = g.held ∙ h.held;
  place = g.place ∙ h.place;
  broken = g.broken ∙ h.broken;
  limits = g.limits ∙ h.limits;
}
