-- All that goes out is tried, and what is lost is gone.
use Rattle.std.proofs.Common.{◌≡◌, ◌≤◌, ◌<◌, ◌+◌, ℕ, List, [], ◌∷◌, map, length, refl, sym, ap, ◌∙◌}
use Rattle.std.proofs.Common.{subst, arith, append-nil}
use Rattle.std.specs.Prelude.{Result, IsErrOf}
use Rattle.std.specs.FinMap.{len}
use Rattle.room_hub.specs.declared.hub.Happening.{Happening}
use Rattle.room_links.specs.declared.outs.Out.{Out}
use Rattle.room_links.specs.Outs.{written}
use Rattle.room_log.specs.Log.{Entry}
use Rattle.room_model.specs.Server.{Outbound, Server}
use Rattle.room_serving.specs.Serving.{Serving, Ending, goners, treat}
use Rattle.room_serving.specs.Turns.{turned}
use Rattle.room_turns.specs.Parts.{trying, Leads, Begins, Stops}
use Rattle.room_turns.specs.Trying.{owed_after}
use Rattle.room_turns.specs.Turning.{Settles}
use Rattle.room_turns.specs.declared.fault.ServeFault.{ServeFault}
use Rattle.room_turns.specs.declared.fault.ServeFault.TheVariants.{Disk}
use Rattle.room_turns.proofs.Happening.{leads_none, leads_then, leads_as, leads_begin}
use Rattle.room_turns.proofs.Turned.{weight, goners_less, treat_is}

weight_written : (os : List (ℕ × Outbound)) → weight (map written os) ≡ weight os
weight_written [] = refl
weight_written (o ∷ os) = refl

weight_some : {A : Type 0} (xs : List A) → 0 < length xs → weight xs ≡ 1
weight_some [] h = absurd (omega (arith, h))
weight_some (x ∷ xs) h = refl

-- each round has less to do
pub less_to_do : (v u : Server) (ks : List ℕ) (outs now : List Out) → 0 < length outs
    → u ≡ (turned v (goners ks)).server → now ≡ map written (turned v (goners ks)).outs
    → len u.links + weight now < len v.links + weight outs
less_to_do v u ks outs now some server out =
    let most = goners_less v ks in
    let links : len u.links ≡ len (turned v (goners ks)).server.links = ap (λ (x : Server). len x.links) server in
    let weighs : weight now ≡ weight (turned v (goners ks)).outs =
    ap weight out ∙ weight_written (turned v (goners ks)).outs in
    omega (arith, most, links, weighs, weight_some outs some)

owed_most : (todo : List (ℕ × Outbound)) (groups : List (List Entry)) (owed : ℕ) → owed ≤ length groups
    → owed_after todo groups owed ≤ length groups
owed_most [] groups owed h = h
owed_most (o ∷ os) groups owed h = omega arith

module _ (v : Server) (left : ℕ) (ending : Ending) (todo : List (ℕ × Outbound)) (groups : List (List Entry))
    (owed : ℕ) where
  abbrev pub start : Serving
  start = trying v left ending todo [] groups owed

  -- so far
  pub record Settling (was is : List Happening) (u : Server) (outs : List Out) : Type 0 where
    pub rest : List (ℕ × Outbound)
    pub rest_is : map written rest ≡ outs
    pub now : ℕ
    pub most : owed ≤ length groups → now ≤ length groups
    pub leads : Leads start was is (trying u left ending rest [] groups now)

  pub settle_first : (was : List Happening) (outs : List Out) → map written todo ≡ outs → Settling was was v outs
  settle_first was outs e = record {
    rest = todo;
    rest_is = e;
    now = owed;
    most = λ h. h;
    leads = leads_none start was was refl;
  }

  -- what was lost
  tried : (was so is : List Happening) (u : Server) (outs : List Out) (ks : List ℕ) (t : Settling was so u outs)
      → Leads (trying u left ending t.rest [] groups t.now) so is
      (treat (trying u left ending [] [] groups (owed_after t.rest groups t.now)) [] ks)
      → Leads start was is
      (trying (turned u (goners ks)).server left ending (turned u (goners ks)).outs [] groups
      (owed_after t.rest groups t.now))
  tried was so is u outs ks t more =
      let n = trying (turned u (goners ks)).server left ending (turned u (goners ks)).outs [] groups
      (owed_after t.rest groups t.now) in
      leads_then start (trying u left ending t.rest [] groups t.now) n was so is t.leads
      (leads_as (trying u left ending t.rest [] groups t.now)
      (treat (trying u left ending [] [] groups (owed_after t.rest groups t.now)) [] ks) n so is
      (treat_is u left ending groups (owed_after t.rest groups t.now) ks) more)

  pub settle_next : (was so is : List Happening) (u w : Server) (outs now : List Out) (ks : List ℕ)
      → (t : Settling was so u outs)
      → Leads (trying u left ending t.rest [] groups t.now) so is
      (treat (trying u left ending [] [] groups (owed_after t.rest groups t.now)) [] ks)
      → w ≡ (turned u (goners ks)).server → now ≡ map written (turned u (goners ks)).outs
      → Settling was is w now
  settle_next was so is u w outs now ks t more server out = record {
    rest = (turned u (goners ks)).outs;
    rest_is = sym out;
    now = owed_after t.rest groups t.now;
    most = λ h. owed_most t.rest groups t.now (t.most h);
    leads =
        subst
        (λ (x : Server). Leads start was is
        (trying x left ending (turned u (goners ks)).outs [] groups (owed_after t.rest groups t.now))) (sym server)
        (tried was so is u outs ks t more);
  }

  none_left : (rest : List (ℕ × Outbound)) → map written rest ≡ [] → rest ≡ []
  none_left [] e = refl
  none_left (o ∷ os) e = cc

  pub settled : (was is : List Happening) (u : Server) (outs : List Out) → outs ≡ [] → Settling was is u outs
      → Settles v left ending todo groups owed was is u
  settled was is u outs none t = record {
    now = t.now;
    most = t.most;
    leads =
        subst (λ (l : List (ℕ × Outbound)). Leads start was is (trying u left ending l [] groups t.now))
        (none_left t.rest (t.rest_is ∙ none)) t.leads;
  }

  -- out of memory while something is tried
  pub stops_trying : {T : Type 0} (was so is : List Happening) (u : Server) (outs : List Out) (r : Result T ServeFault)
      → (IsErrOf r Disk → ⊥) → (t : Settling was so u outs) → Begins (trying u left ending t.rest [] groups t.now) so is
      → Stops start was is r
  stops_trying was so is u outs r never t b = record {
    begins =
        leads_begin start (trying u left ending t.rest [] groups t.now) was so is refl t.most t.leads b;
    unbroken = λ e. absurd (never e);
  }

  -- the server fails where what was lost is gone
  pub stops_losing : {T : Type 0} (was so is : List Happening) (u : Server) (outs : List Out) (ks : List ℕ)
      (r : Result T ServeFault) (t : Settling was so u outs)
      → Leads (trying u left ending t.rest [] groups t.now) so is
      (treat (trying u left ending [] [] groups (owed_after t.rest groups t.now)) [] ks)
      → Stops start was is r
  stops_losing was so is u outs ks r t more =
      let a = tried was so is u outs ks t more in
      record {
        begins = record {
          happened = a.happened;
          happened_is = a.happened_is;
          serves = a.serves;
          more = [];
          groups = ap (λ (x : Serving). x.groups) a.leads ∙ sym (append-nil groups);
          owed = λ most.
              subst (λ (x : Serving). x.owed ≤ length groups) (sym a.leads)
              (owed_most t.rest groups t.now (t.most most));
        };
        unbroken = λ e. a.unbroken;
      }
