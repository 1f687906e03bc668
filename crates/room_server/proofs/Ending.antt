-- Arrivals of a turn, one after the other.
use Rattle.std.proofs.Common.{◌≡◌, List, ◌∷◌, ◌++◌, map, sym, ap, ◌∙◌, append_assoc}
use Rattle.std.proofs.lemmas.List.{map-append}
use Rattle.room_log.specs.Log.{Entry}
use Rattle.room_links.specs.declared.outs.Out.{Out}
use Rattle.room_links.specs.Outs.{written}
use Rattle.room_model.specs.Server.{Server, Served}
use Rattle.room_arrivals.specs.Serving.{listed}
use Rattle.room_server.specs.declared.arrivals.Came.{Came}
use Rattle.room_server.specs.Turn.{Turned, takes, turned}

-- where a turn ends that begins with these sends and entries
pub record Ending : Type 0 where
  pub server : Server
  pub outs : List Out
  pub entries : List Entry

abbrev pub ending : Turned → List Out → List Entry → Ending
ending x os es = record { server = x.server; outs = os ++ map written x.outs; entries = es ++ x.entries }

module _ (v : Server) (c : Came) (cs : List Came) where
  abbrev out : Served
  out = takes v c

  abbrev rest : Turned
  rest = turned out.server cs

  outs_then : (os : List Out) → (os ++ map written out.outs) ++ map written rest.outs ≡ os ++ map written (out.outs ++ rest.outs)
  outs_then os = append_assoc os (map written out.outs) (map written rest.outs)
      ∙ ap (λ ps. os ++ ps) (sym (map-append written out.outs rest.outs))

  ends_one : (os : List Out) (es : List Entry)
      → ending rest (os ++ map written out.outs) (es ++ listed out.entry) ≡ ending (turned v (c ∷ cs)) os es
  ends_one os es i = record {
    server = rest.server;
    outs = outs_then os i;
    entries = append_assoc es (listed out.entry) rest.entries i;
  }

  pub step_ends : (t : Server) (os ps : List Out) (es fs : List Entry)
      → t ≡ out.server → ps ≡ os ++ map written out.outs → fs ≡ es ++ listed out.entry
      → ending (turned t cs) ps fs ≡ ending (turned v (c ∷ cs)) os es
  step_ends t os ps es fs e f g = (λ i. ending (turned (e i) cs) (f i) (g i)) ∙ ends_one os es
