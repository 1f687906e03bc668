-- An overlay is a part of a client's account.
use Rattle.std.proofs.Common.{◌≡◌, ◌+◌, ◌++◌, ◌∙◌, ℕ, Bool, true, false, if◌then◌else◌, nat_lt, List, [], ◌∷◌, length}
use Rattle.std.proofs.Common.{Option}
use Rattle.std.proofs.Common.{Some, None, refl, sym, ap}
use Rattle.std.proofs.lemmas.List.{append-nil, append_assoc}
use Rattle.std.specs.Option.{option_map}
use Rattle.room_nodes.specs.declared.nodes.Body.{Body}
use Rattle.room_nodes.specs.Steps.{fold}
use Rattle.room_log.specs.Log.{bodies_of, ops_from}
use Rattle.room_model.specs.Account.{Account, Batch, OpenBatch, actor, all_bodies, all_ops, beyond, bodies_in}
use Rattle.room_model.specs.Account.{is_some_list}
use Rattle.room_model.specs.Account.{issued, last_clock, last_issued, rest_of}
use Rattle.room_model.specs.Calls.{issues_of}
use Rattle.room_overlay.specs.Laws.{OverlaysArePartsOfAccounts, over_batch, over_of}
use Rattle.room_overlay.specs.Own.{batches_after, opened}
use Rattle.room_overlay.specs.Over.{added_to, sealed}

beyond_append : (c : ℕ) (xs ys : List Batch) → beyond c (xs ++ ys) ≡ beyond c xs ++ beyond c ys
beyond_append c [] ys = refl
beyond_append c (b ∷ xs) ys =
    ap (λ bs. if nat_lt c (last_clock b) then rest_of c b ∷ bs else bs) (beyond_append c xs ys)
    ∙ first (nat_lt c (last_clock b)) (rest_of c b) (beyond c xs) (beyond c ys)
  where
    first : (t : Bool) (b : Batch) (xs ys : List Batch)
        → (if t then b ∷ (xs ++ ys) else xs ++ ys) ≡ (if t then b ∷ xs else xs) ++ ys
    first true b xs ys = refl
    first false b xs ys = refl

opened_in : (o : Option OpenBatch) → opened (option_map over_batch o) ≡ bodies_in o
opened_in None = refl
opened_in (Some o) = refl

issues : (x : Account) (bs : List Body) → batches_after (last_issued x) bs ≡ issues_of x bs
issues x [] = refl
issues x (b ∷ bs) = refl

pub is_part : OverlaysArePartsOfAccounts
is_part x t =
    let same = opened_in x.batch in
    record {
      pending = ap (λ bs. all_ops (actor x) (issued x) ++ ops_from (actor x) (last_issued x + 1) bs) same;
      opened = ap (λ bs. ops_from (actor x) (last_issued x + 1) bs) same;
      shown = ap (λ bs. Some (fold t (all_bodies (issued x) ++ bs))) same;
      last_issued = refl;
      next_clock = ap (λ bs. last_issued x + 1 + length bs) same;
      unacknowledged = ap (λ bs. length (issued x) + (if is_some_list bs then 1 else 0)) same;
      in_batch = λ m bs o e. ap (λ p. added_to (record (over_of x t) { batch = option_map over_batch p }) bs) (sym e);
      outside = λ m b bs e.
          (λ i. record (over_of x t) {
            issued = sym (append_assoc x.sent x.fresh (issues_of x (b ∷ bs))) i;
            batch = option_map over_batch (e i);
          })
          ∙ ap (λ p. sealed (added_to (record (over_of x t) { batch = option_map over_batch p }) (b ∷ bs))) (sym e);
      closed = λ o e.
          (λ i. record (over_of x t) {
            issued = (sym (append_assoc x.sent x.fresh (issues_of x o.bodies))
                ∙ ap (λ bs. issued x ++ bs) (sym (issues x o.bodies))) i;
            batch = None;
          })
          ∙ ap (λ p. sealed (record (over_of x t) { batch = option_map over_batch p })) (sym e);
      fault = λ n last. refl;
      loaded = λ n last u.
          λ i. record (over_of x t) {
            n = n;
            told = last;
            confirmed = u;
            issued = append-nil (beyond last (issued x)) i;
          };
      updated = λ os told.
          λ i. record (over_of x t) {
            n = x.n + 1;
            told = told;
            confirmed = fold t (bodies_of os);
            issued = sym (beyond_append told x.sent x.fresh) i;
          };
    }
