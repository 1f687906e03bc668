-- What goes out is tried.
use Rattle.std.proofs.Common.{◌≡◌, ◌≤◌, ℕ, Bool, true, false, cond, List, [], ◌∷◌, ◌++◌, map, length}
use Rattle.std.proofs.Common.{inl, inr, refl, sym, ap, ◌∙◌, subst, arith, append-nil}
use Rattle.room_hub.specs.declared.hub.Deed.{Deed}
use Rattle.room_hub.specs.declared.hub.Happening.{Happening}
use Rattle.room_hub.specs.declared.hub.Happening.TheVariants.{Did}
use Rattle.room_links.specs.declared.outs.Out.{Out}
use Rattle.room_links.specs.Outs.{written}
use Rattle.room_log.specs.Log.{Entry}
use Rattle.room_model.specs.Server.{Outbound, Server, Pong, Message, Closed}
use Rattle.room_serving.specs.Turns.{turned}
use Rattle.room_serving.specs.Serving as serving
use Rattle.room_serving.specs.Serving.{Serving, Serves, Ending, served, after, treat, deed_on, with_lost, goners, group_of}
use Rattle.room_turns.specs.Breaking.{is_midway, leaves_some}
use Rattle.room_turns.specs.Parts.{trying, Leads, Begins}
use Rattle.room_turns.specs.Trying.{conn_of, deed_of, owed_after, Tries, TriesOrNot}
use Rattle.room_nodes.proofs.Gets.{true_false}
use Rattle.room_turns.proofs.Happening.{serves_then, served_from, midway_then, appended}

deed_is : (o : ℕ × Outbound) (lost : Bool) → deed_of (written o) lost ≡ deed_on o.0 o.1 lost
deed_is (k, Pong) lost = refl
deed_is (k, Message m) lost = refl
deed_is (k, Closed code text) lost = refl

conn_is : (o : ℕ × Outbound) → conn_of (written o) ≡ o.0
conn_is (k, Pong) = refl
conn_is (k, Message m) = refl
conn_is (k, Closed code text) = refl

lost_is : (o : ℕ × Outbound) (lost : Bool) → serving.was_lost (deed_on o.0 o.1 lost) ≡ lost
lost_is (k, Pong) lost = refl
lost_is (k, Message m) lost = refl
lost_is (k, Closed code text) lost = refl

-- what was tried so far doesn't depend on what was to be tried
treat_anew : (m : Serving) (todo os : List (ℕ × Outbound)) (lost ks : List ℕ)
    → treat (record m { todo = todo; lost = lost }) os ks ≡ treat m os ks
treat_anew m todo (o ∷ os) lost ks = refl
treat_anew m todo [] lost [] = refl
treat_anew m todo [] lost (k ∷ ks) = refl

map_first : (todo : List (ℕ × Outbound)) (out : Out) (outs : List Out) → map written todo ≡ out ∷ outs
    → (o : ℕ × Outbound) × (os : List (ℕ × Outbound)) × (todo ≡ o ∷ os) × (written o ≡ out) × (map written os ≡ outs)
map_first [] out outs e = cc
map_first (o ∷ os) out outs e = (o, os, refl, cc, cc)

module _ (v : Server) (left : ℕ) (ending : Ending) (groups : List (List Entry)) (owed : ℕ) where
  -- with so much tried
  abbrev pub so_far : Bool → ℕ
  so_far false = owed
  so_far true = length groups

  abbrev pub at : Bool → List (ℕ × Outbound) → List ℕ → Serving
  at tried todo lost = treat (trying v left ending [] [] groups (so_far tried)) todo lost

  abbrev pub start : List (ℕ × Outbound) → Serving
  start todo = trying v left ending todo [] groups owed

  start_is : (todo : List (ℕ × Outbound)) → start todo ≡ at false todo []
  start_is [] = refl
  start_is (o ∷ os) = refl

  step_is : (tried : Bool) (o : ℕ × Outbound) (os : List (ℕ × Outbound)) (ks : List ℕ) (lost : Bool)
      → after (at tried (o ∷ os) ks) (Did (deed_on o.0 o.1 lost))
      ≡ at true os (cond lost (with_lost ks o.0) ks)
  step_is tried o os ks lost =
      ap (λ (b : Bool). serving.tries (at tried (o ∷ os) ks) o.0 os b) (lost_is o lost)
      ∙ treat_anew (trying v left ending [] [] groups (length groups)) (o ∷ os) os ks (cond lost (with_lost ks o.0) ks)

  may_is : (tried : Bool) (o : ℕ × Outbound) (os : List (ℕ × Outbound)) (ks : List ℕ) (lost : Bool)
      → Serves (at tried (o ∷ os) ks) (Did (deed_on o.0 o.1 lost) ∷ [])
  may_is tried o os ks lost = (sym (ap (λ (b : Bool). deed_on o.0 o.1 b) (lost_is o lost)), tt)

  -- so much was tried, and `outs` is left
  pub record Trying (todo : List (ℕ × Outbound)) (was is : List Happening) (outs : List Out) (lost : List ℕ) : Type 0 where
    pub tried : Bool
    pub rest : List (ℕ × Outbound)
    pub rest_is : map written rest ≡ outs
    pub first : tried ≡ false → rest ≡ todo
    pub some : tried ≡ true → owed_after todo groups owed ≡ length groups
    pub happened : List Happening
    pub happened_is : is ≡ was ++ happened
    pub serves : Serves (start todo) happened
    pub leads : served (start todo) happened ≡ at tried rest lost
    pub unbroken : rest ≡ [] → is_midway (start todo) false happened ≡ false

  pub try_first : (todo : List (ℕ × Outbound)) (was : List Happening) (outs : List Out) → map written todo ≡ outs
      → Trying todo was was outs []
  try_first todo was outs e = record {
    tried = false;
    rest = todo;
    rest_is = e;
    first = λ _. refl;
    some = λ f. absurd (true_false (sym f));
    happened = [];
    happened_is = sym (append-nil was);
    serves = tt;
    leads = start_is todo;
    unbroken = λ _. refl;
  }

  now_some : (tried : Bool) (todo os : List (ℕ × Outbound)) (o : ℕ × Outbound) → (tried ≡ false → o ∷ os ≡ todo)
      → (tried ≡ true → owed_after todo groups owed ≡ length groups) → owed_after todo groups owed ≡ length groups
  now_some true todo os o f g = g refl
  now_some false todo os o f g = ap (λ (l : List (ℕ × Outbound)). owed_after l groups owed) (sym (f refl))

  last_one : (os : List (ℕ × Outbound)) (o : ℕ × Outbound) (d : Deed) → os ≡ [] → leaves_some (o ∷ os) (Did d) ≡ false
  last_one [] o d e = refl
  last_one (p ∷ os) o d e = cc

  -- one more, where its deed is told in the model's words
  next_at : (todo os : List (ℕ × Outbound)) (o : ℕ × Outbound) (was so is : List Happening) (all outs : List Out)
      (lost : List ℕ) (b : Bool) (t : Trying todo was so all lost) → t.rest ≡ o ∷ os
      → map written os ≡ outs → is ≡ so ++ Did (deed_on o.0 o.1 b) ∷ []
      → Trying todo was is outs (cond b (with_lost lost o.0) lost)
  next_at todo os o was so is all outs lost b t rest_is left_is told =
      let d = Did (deed_on o.0 o.1 b) in
      let so_is : served (start todo) t.happened ≡ at t.tried (o ∷ os) lost =
      t.leads ∙ ap (λ (l : List (ℕ × Outbound)). at t.tried l lost) rest_is in
      record {
        tried = true;
        rest = os;
        rest_is = left_is;
        first = λ f. absurd (true_false f);
        some = λ _. now_some t.tried todo os o (λ f. sym rest_is ∙ t.first f) t.some;
        happened = t.happened ++ d ∷ [];
        happened_is = appended was so is t.happened (d ∷ []) t.happened_is told;
        serves =
            serves_then (start todo) t.happened (d ∷ []) t.serves
            (subst (λ (x : Serving). Serves x (d ∷ [])) (sym so_is) (may_is t.tried o os lost b));
        leads = served_from (start todo) (at t.tried (o ∷ os) lost) t.happened (d ∷ []) so_is ∙ step_is t.tried o os lost b;
        unbroken = λ none.
            midway_then (start todo) false t.happened (d ∷ [])
            ∙ ap (λ (x : Serving). leaves_some x.todo d) so_is ∙ last_one os o (deed_on o.0 o.1 b) none;
      }

  pub try_next : (todo : List (ℕ × Outbound)) (was so is : List Happening) (out : Out) (outs : List Out)
      (lost : List ℕ) (b : Bool) → Trying todo was so (out ∷ outs) lost → is ≡ so ++ Did (deed_of out b) ∷ []
      → Trying todo was is outs (cond b (with_lost lost (conn_of out)) lost)
  try_next todo was so is out outs lost b t told =
      let f = map_first t.rest out outs t.rest_is in
      let o = f.0 in
      let os = f.1 in
      let same = sym f.3 in
      subst (λ (ks : List ℕ). Trying todo was is outs ks)
      (ap (λ (k : ℕ). cond b (with_lost lost k) lost) (sym (ap conn_of same ∙ conn_is o)))
      (next_at todo os o was so is (out ∷ outs) outs lost b t f.2 f.4
      (told ∙ ap (λ (x : Deed). so ++ Did x ∷ []) (ap (λ (x : Out). deed_of x b) same ∙ deed_is o b)))

  -- all of them
  owed_is : (tried : Bool) (todo rest : List (ℕ × Outbound)) → rest ≡ [] → (tried ≡ false → rest ≡ todo)
      → (tried ≡ true → owed_after todo groups owed ≡ length groups) → so_far tried ≡ owed_after todo groups owed
  owed_is true todo rest none f g = sym (g refl)
  owed_is false todo rest none f g = ap (λ (l : List (ℕ × Outbound)). owed_after l groups owed) (sym none ∙ f refl)

  none_left : (rest : List (ℕ × Outbound)) → map written rest ≡ [] → rest ≡ []
  none_left [] e = refl
  none_left (o ∷ os) e = cc

  pub tried_all : (todo : List (ℕ × Outbound)) (was is : List Happening) (lost : List ℕ) → Trying todo was is [] lost
      → Leads (start todo) was is (treat (trying v left ending [] [] groups (owed_after todo groups owed)) [] lost)
  tried_all todo was is lost t =
      let none = none_left t.rest t.rest_is in
      record {
        happened = t.happened;
        happened_is = t.happened_is;
        serves = t.serves;
        leads =
            t.leads ∙ ap (λ (l : List (ℕ × Outbound)). at t.tried l lost) none
            ∙ ap (λ (n : ℕ). treat (trying v left ending [] [] groups n) [] lost)
            (owed_is t.tried todo t.rest none t.first t.some);
        unbroken = t.unbroken none;
      }

  -- out of memory on the way
  abbrev adds_at : List (ℕ × Outbound) → List ℕ → List (List Entry)
  adds_at (o ∷ os) ks = []
  adds_at [] [] = []
  adds_at [] (k ∷ ks) = group_of (turned v (goners (k ∷ ks))).entries

  groups_at : (tried : Bool) (rest : List (ℕ × Outbound)) (ks : List ℕ)
      → (at tried rest ks).groups ≡ groups ++ adds_at rest ks
  groups_at tried (o ∷ os) ks = sym (append-nil groups)
  groups_at tried [] [] = sym (append-nil groups)
  groups_at tried [] (k ∷ ks) = refl

  owed_at : (tried : Bool) (rest : List (ℕ × Outbound)) (ks : List ℕ) → (at tried rest ks).owed ≡ so_far tried
  owed_at tried (o ∷ os) ks = refl
  owed_at tried [] [] = refl
  owed_at tried [] (k ∷ ks) = refl

  far_most : (tried : Bool) → owed ≤ length groups → so_far tried ≤ length groups
  far_most false h = h
  far_most true h = omega arith

  begins_at : (todo : List (ℕ × Outbound)) (was is : List Happening) (outs : List Out) (lost : List ℕ)
      → Trying todo was is outs lost → Begins (start todo) was is
  begins_at todo was is outs lost t = record {
    happened = t.happened;
    happened_is = t.happened_is;
    serves = t.serves;
    more = adds_at t.rest lost;
    groups = ap (λ (x : Serving). x.groups) t.leads ∙ groups_at t.tried t.rest lost;
    owed = λ most.
        subst (λ (n : ℕ). n ≤ length groups)
        (sym (ap (λ (x : Serving). x.owed) t.leads ∙ owed_at t.tried t.rest lost)) (far_most t.tried most);
  }

  pub try_begins : (todo : List (ℕ × Outbound)) (was so is : List Happening) (out : Out) (outs : List Out)
      (lost : List ℕ) → Trying todo was so (out ∷ outs) lost → TriesOrNot out so is → Begins (start todo) was is
  try_begins todo was so is out outs lost t (inl same) =
      begins_at todo was is (out ∷ outs) lost (subst (λ (z : List Happening). Trying todo was z (out ∷ outs) lost) (sym same) t)
  try_begins todo was so is out outs lost t (inr (b, told)) =
      begins_at todo was is outs (cond b (with_lost lost (conn_of out)) lost) (try_next todo was so is out outs lost b t told)

  pub try_done : (todo : List (ℕ × Outbound)) (was so is : List Happening) (out : Out) (outs : List Out)
      (lost now : List ℕ) → Trying todo was so (out ∷ outs) lost → Tries out so is lost now → Trying todo was is outs now
  try_done todo was so is out outs lost now t e =
      subst (λ (ks : List ℕ). Trying todo was is outs ks) (sym e.noted)
      (try_next todo was so is out outs lost e.lost t e.told)
