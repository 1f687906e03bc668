-- How the own operations are kept: what that means, and what each change of it means.
use Rattle.std.proofs.Common.{◌≡◌, ◌+◌, ◌-◌, ◌≤◌, ◌<◌, ◌++◌, ◌∙◌, ℕ, zero, suc, Bool, true, false, if◌then◌else◌}
use Rattle.std.proofs.Common.{nat_lt, List, [], ◌∷◌, length}
use Rattle.std.proofs.Common.{take, drop, Some, None, Result, IsOk, is_ok, is_some, slice_get, refl, sym, ap, subst}
use Rattle.std.proofs.Common.{arith, ltb-true, ltb-false}
use Rattle.std.proofs.lemmas.Bool.{false≢true}
use Rattle.std.proofs.lemmas.List.{append-nil, drop-append-le, drop-drop, drop_all, length-append, length-drop}
use Rattle.std.proofs.lemmas.List.{take_all}
use Rattle.room_json.specs.Limits.{max_whole}
use Rattle.room_nodes.specs.declared.nodes.Op.{Op}
use Rattle.room_nodes.specs.declared.nodes.Body.{Body}
use Rattle.room_log.specs.Log.{bodies_of, clock_of, ops_from, op_of}
use Rattle.room_model.specs.Account.{Batch, all_bodies, all_ops, beyond, ends, is_some_list}
use Rattle.room_overlay.specs.Kept.{IsKept, above, batch_in, cut, last_of, own_of}
use Rattle.room_overlay.specs.Own.{Own, acknowledged, added, batch_after, batches_after, end_of, next_clock}
use Rattle.room_overlay.specs.Own.{opened, own_batches, own_bodies, own_ops, sealed_own}
use Rattle.room_overlay.proofs.Cuts.{beyond_cut, bodies_cut, cut_more, cut_push, ends_cut, last_above, last_push}
use Rattle.room_overlay.proofs.Cuts.{length_cut, ops_append, ops_cut, rises, rising_above, rising_push}

-- operations and what they do

pub bodies_length : (os : List Op) → length (bodies_of os) ≡ length os
bodies_length [] = refl
bodies_length (o ∷ os) = ap suc (bodies_length os)

pub bodies_drop : (n : ℕ) (os : List Op) → bodies_of (drop n os) ≡ drop n (bodies_of os)
bodies_drop zero os = refl
bodies_drop (suc n) [] = refl
bodies_drop (suc n) (o ∷ os) = bodies_drop n os

pub bodies_append : (xs ys : List Op) → bodies_of (xs ++ ys) ≡ bodies_of xs ++ bodies_of ys
bodies_append [] ys = refl
bodies_append (x ∷ xs) ys = ap (λ bs. x.body ∷ bs) (bodies_append xs ys)

pub ops_drop : (n a c : ℕ) (bs : List Body) → drop n (ops_from a c bs) ≡ ops_from a (c + n) (drop n bs)
ops_drop zero a c bs = let none : c ≡ c + 0 = omega arith in ap (λ k. ops_from a k bs) none
ops_drop (suc n) a c [] = refl
ops_drop (suc n) a c (b ∷ bs) =
    let on : c + 1 + n ≡ c + suc n = omega arith in
    ops_drop n a (c + 1) bs ∙ ap (λ k. ops_from a k (drop n bs)) on

some_long : (bs : List Body) → 0 < length bs → is_some_list bs ≡ true
some_long [] h = absurd (omega (arith, h))
some_long (b ∷ bs) h = refl

some_by : (n : ℕ) (bs : List Body) (t : Bool) → nat_lt n (length bs) ≡ t → is_some_list (drop n bs) ≡ t
some_by n bs true test = some_long (drop n bs) (omega (arith, length-drop n bs, ltb-true n (length bs) test))
some_by n bs false test = ap is_some_list (drop_all n bs (ltb-false n (length bs) test))

pub some_is : (x y : Op) → Some x ≡ Some y → x ≡ y
some_is x y e = ap (λ o. elim o as (λ _. Op) [ None ↦ x | Some z ↦ z ]) e

opened_by : (b : Bool) (rest : List Body) → (b ≡ false → rest ≡ []) → opened (batch_in b rest) ≡ rest
opened_by true rest h = refl
opened_by false rest h = sym (h refl)

sealed_empty : (a told : ℕ) (issued : List Batch) (rest : List Body) → rest ≡ [] → (b : Bool)
    → record { actor = a; told = told; issued = issued; batch = None }
    ≡ sealed_own (record { actor = a; told = told; issued = issued; batch = batch_in b rest })
sealed_empty a told issued rest none false = refl
sealed_empty a told issued rest none true =
    (λ i. record {
      actor = a;
      told = told;
      issued = sym (append-nil issued) i;
      batch = None;
    })
    ∙ ap (λ bs. sealed_own (record { actor = a; told = told; issued = issued; batch = Some bs })) (sym none)

one_after : (c : ℕ) (bs : List Body) → 0 < length bs → batches_after c bs ≡ batch_after c bs ∷ []
one_after c [] h = absurd (omega (arith, h))
one_after c (b ∷ bs) h = refl

is_in : (b : Bool) (bs : List Body) → b ≡ is_some (batch_in b bs)
is_in true bs = refl
is_in false bs = refl

opens : (b : Bool) → (b ≡ false → ⊥) → b ≡ true
opens true h = refl
opens false h = absurd (h refl)

module _ (a told last : ℕ) (lasts : List ℕ) (ops : List Op) (b : Bool) (k : IsKept a told last lasts ops b) where
  long : last_of told lasts ≤ told + length (bodies_of ops)
  long = omega (arith, k.end, k.within, bodies_length ops)

  pub told_last : told ≤ last
  told_last = omega (arith, k.end, rises told lasts k.rising)

  -- the open batch's operations lie behind the others
  opened_is : opened (batch_in b (drop (last - told) (bodies_of ops))) ≡ drop (last - told) (bodies_of ops)
  opened_is = opened_by b (drop (last - told) (bodies_of ops))
      (λ e. drop_all (last - told) (bodies_of ops) (omega (arith, k.closed e, bodies_length ops)))

  pub end_is : end_of (own_of a told last lasts ops b) ≡ last
  end_is = ends_cut told lasts (bodies_of ops) k.rising long ∙ k.end

  pub ops_are : own_ops (own_of a told last lasts ops b) ≡ ops
  ops_are =
      (λ i. all_ops a (cut told lasts (bodies_of ops))
      ++ ops_from a (ends_cut told lasts (bodies_of ops) k.rising long i + 1)
      ((opened_is ∙ ap (λ l. drop (l - told) (bodies_of ops)) (sym k.end)) i))
      ∙ ops_cut a told lasts (bodies_of ops) k.rising long
      ∙ sym k.run

  pub bodies_are : own_bodies (own_of a told last lasts ops b) ≡ bodies_of ops
  bodies_are =
      ap (λ bs. all_bodies (cut told lasts (bodies_of ops)) ++ bs)
      (opened_is ∙ ap (λ l. drop (l - told) (bodies_of ops)) (sym k.end))
      ∙ bodies_cut told lasts (bodies_of ops) k.rising long

  pub batches_are : own_batches (own_of a told last lasts ops b)
      ≡ length lasts + (if nat_lt (last - told) (length ops) then 1 else 0)
  batches_are =
      let some = ap is_some_list opened_is ∙ some_by (last - told) (bodies_of ops) _ refl
      ∙ ap (nat_lt (last - told)) (bodies_length ops) in
      λ i. length_cut told lasts (bodies_of ops) i + (if some i then 1 else 0)

  -- more operations

  next_is : next_clock (own_of a told last lasts ops b) ≡ told + 1 + length (bodies_of ops)
  next_is = omega (
    arith,
    end_is,
    ap length opened_is,
    length-drop (last - told) (bodies_of ops),
    told_last,
    k.within,
    bodies_length ops,
  )

  module _ (more : List Op) (e : more ≡ ops_from a (next_clock (own_of a told last lasts ops b)) (bodies_of more)) where
    pub added_kept : IsKept a told last lasts (ops ++ more) true
    added_kept = record {
      run = (λ i. k.run i ++ (e ∙ ap (λ c. ops_from a c (bodies_of more)) next_is) i)
          ∙ sym (ops_append a (told + 1) (bodies_of ops) (bodies_of more))
          ∙ ap (ops_from a (told + 1)) (sym (bodies_append ops more));
      rising = k.rising;
      end = k.end;
      within = omega (arith, k.within, length-append ops more);
      bound = k.bound;
      closed = λ e. absurd (false≢true (sym e));
    }

    pub added_is : own_of a told last lasts (ops ++ more) true ≡ added (own_of a told last lasts ops b) (bodies_of more)
    added_is =
        let bs = bodies_of ops in
        let ms = bodies_of more in
        let cuts : cut told lasts (bodies_of (ops ++ more)) ≡ cut told lasts bs =
        ap (cut told lasts) (bodies_append ops more) ∙ cut_more told lasts bs ms k.rising long in
        let rest : drop (last - told) (bodies_of (ops ++ more))
        ≡ opened (batch_in b (drop (last - told) bs)) ++ ms =
        ap (drop (last - told)) (bodies_append ops more)
        ∙ drop-append-le (last - told) bs ms (omega (arith, k.within, bodies_length ops))
        ∙ ap (λ xs. xs ++ ms) (sym opened_is) in
        λ i. record { actor = a; told = told; issued = cuts i; batch = Some (rest i) }

  -- the operations up to a clock are acknowledged

  module _ (c : ℕ) (low : told ≤ c) (high : c ≤ last) where
    pub acknowledged_kept : IsKept a c last (above c lasts) (drop (c - told) ops) b
    acknowledged_kept =
        let on : told + 1 + (c - told) ≡ c + 1 = omega (arith, low) in
        record {
          run = ap (drop (c - told)) k.run
              ∙ ops_drop (c - told) a (told + 1) (bodies_of ops)
              ∙ (λ i. ops_from a (on i) (sym (bodies_drop (c - told) ops) i));
          rising = rising_above c told lasts k.rising;
          end = last_above c told lasts low (omega (arith, high, k.end)) ∙ k.end;
          within = omega (arith, length-drop (c - told) ops, low, high, k.within);
          bound = k.bound;
          closed = λ e. omega (arith, length-drop (c - told) ops, low, high, k.closed e);
        }

    pub acknowledged_is : own_of a c last (above c lasts) (drop (c - told) ops) b
        ≡ acknowledged (own_of a told last lasts ops b) c
    acknowledged_is =
        let bs = bodies_of ops in
        let on : (c - told) + (last - c) ≡ last - told = omega (arith, low, high) in
        let cuts : cut c (above c lasts) (bodies_of (drop (c - told) ops)) ≡ beyond c (cut told lasts bs) =
        ap (cut c (above c lasts)) (bodies_drop (c - told) ops)
        ∙ sym (beyond_cut c told lasts bs low (omega (arith, high, k.end)) k.rising long) in
        let rest : drop (last - c) (bodies_of (drop (c - told) ops)) ≡ drop (last - told) bs =
        ap (drop (last - c)) (bodies_drop (c - told) ops)
        ∙ drop-drop (last - c) (c - told) bs
        ∙ ap (λ n. drop n bs) on in
        λ i. record { actor = a; told = c; issued = cuts i; batch = batch_in b (rest i) }

  -- the open batch is issued

  module _ (none : told + length ops ≤ last) where
    pub sealed_none_kept : IsKept a told last lasts ops false
    sealed_none_kept = record {
      run = k.run;
      rising = k.rising;
      end = k.end;
      within = k.within;
      bound = k.bound;
      closed = λ _. omega (arith, none, k.within);
    }

    -- whichever batch is open holds nothing
    pub sealed_none_is : own_of a told last lasts ops false ≡ sealed_own (own_of a told last lasts ops b)
    sealed_none_is =
        let bs = bodies_of ops in
        sealed_empty a told (cut told lasts bs) (drop (last - told) bs)
        (drop_all (last - told) bs (omega (arith, none, bodies_length ops))) b

  module _ (l : ℕ) (sum : l ≡ told + length ops) (more : last < l) (bound : l ≤ max_whole) where
    pub sealed_some_kept : IsKept a told l (lasts ++ l ∷ []) ops false
    sealed_some_kept = record {
      run = k.run;
      rising = rising_push told l lasts k.rising (omega (arith, k.end, more));
      end = last_push told l lasts;
      within = omega (arith, sum);
      bound = bound;
      closed = λ _. omega (arith, sum);
    }

    is_open : b ≡ true
    is_open = opens b (λ e. omega (arith, k.closed e, sum, more))

    pub sealed_some_is : own_of a told l (lasts ++ l ∷ []) ops false ≡ sealed_own (own_of a told last lasts ops b)
    sealed_some_is =
        let bs = bodies_of ops in
        let rest = drop (last - told) bs in
        let size : length rest ≡ l - last =
        omega (arith, length-drop (last - told) bs, bodies_length ops, sum, told_last) in
        let at : last_of told lasts - told ≡ last - told = omega (arith, k.end) in
        let whole : take (l - last_of told lasts) (drop (last_of told lasts - told) bs) ≡ rest =
        ap (λ n. take (l - last_of told lasts) (drop n bs)) at
        ∙ take_all (l - last_of told lasts) rest (omega (arith, size, k.end)) in
        let issues : cut told (lasts ++ l ∷ []) bs
        ≡ cut told lasts bs ++ batches_after (ends told (cut told lasts bs)) rest =
        cut_push told l lasts bs k.rising
        ∙ (λ i. cut told lasts bs
        ++ batch_after (sym (ends_cut told lasts bs k.rising long) i) (whole i) ∷ [])
        ∙ ap (λ xs. cut told lasts bs ++ xs)
        (sym (one_after (ends told (cut told lasts bs)) rest (omega (arith, size, more)))) in
        (λ i. record { actor = a; told = told; issued = issues i; batch = None })
        ∙ ap (λ o. sealed_own (record { actor = a; told = told; issued = cut told lasts bs; batch = batch_in o rest }))
        (sym is_open)

-- the clock of the last operation
last_in : (a c : ℕ) (bs : List Body) (i : ℕ) (o : Op) → i < length bs → slice_get (ops_from a c bs) i ≡ Some o
    → clock_of o ≡ c + i
last_in a c [] i o lt h = absurd (omega (arith, lt))
last_in a c (b ∷ bs) zero o lt h =
    let none : c ≡ c + 0 = omega arith in sym (ap clock_of (some_is (op_of a c b) o h)) ∙ none
last_in a c (b ∷ bs) (suc i) o lt h =
    let on : c + 1 + i ≡ c + suc i = omega arith in last_in a (c + 1) bs i o (omega (arith, lt)) h ∙ on

pub acknowledged_bodies : (a told last : ℕ) (lasts : List ℕ) (ops : List Op) (b : Bool)
    (k : IsKept a told last lasts ops b) (c : ℕ) → told ≤ c → c ≤ last
    → own_bodies (acknowledged (own_of a told last lasts ops b) c) ≡ bodies_of (drop (c - told) ops)
acknowledged_bodies a told last lasts ops b k c low high =
    ap own_bodies (sym (acknowledged_is a told last lasts ops b k c low high))
    ∙ bodies_are a c last (above c lasts) (drop (c - told) ops) b
    (acknowledged_kept a told last lasts ops b k c low high)

sum_of : (n l last told : ℕ) → told ≤ last → last ≤ told + n → (n ≡ 0 → l ≡ last) → (0 < n → l ≡ told + n)
    → l ≡ told + n
sum_of zero l last told low high none some = omega (arith, none refl, low, high)
sum_of (suc n) l last told low high none some = some (omega arith)

-- what is kept, where contracts see it as `now`
module _ (a told last : ℕ) (lasts : List ℕ) (ops : List Op) (b : Bool) (k : IsKept a told last lasts ops b) (now : Own)
    (v : own_of a told last lasts ops b ≡ now) where
  pub told_seen : told ≡ now.told
  told_seen = ap (λ (s : Own). s.told) v

  pub last_seen : last ≡ end_of now
  last_seen = sym (end_is a told last lasts ops b k) ∙ ap end_of v

  pub ops_seen : ops ≡ own_ops now
  ops_seen = sym (ops_are a told last lasts ops b k) ∙ ap own_ops v

  pub bodies_seen : bodies_of ops ≡ own_bodies now
  bodies_seen = sym (bodies_are a told last lasts ops b k) ∙ ap own_bodies v

  pub batches_seen : length lasts + (if nat_lt (last - told) (length ops) then 1 else 0) ≡ own_batches now
  batches_seen = sym (batches_are a told last lasts ops b k) ∙ ap own_batches v

  pub next_seen : told + 1 + length ops ≡ next_clock now
  next_seen =
      let sum : told + 1 + length ops ≡ told + 1 + length (bodies_of ops) = omega (arith, bodies_length ops) in
      sum ∙ sym (next_is a told last lasts ops b k) ∙ ap next_clock v

  pub open_is_seen : b ≡ is_some now.batch
  open_is_seen = is_in b (drop (last - told) (bodies_of ops)) ∙ ap (λ (s : Own). is_some s.batch) v

  pub opened_seen : drop (last - told) ops ≡ ops_from now.actor (end_of now + 1) (opened now.batch)
  opened_seen =
      let on : told + 1 + (last - told) ≡ last + 1 = omega (arith, told_last a told last lasts ops b k) in
      ap (drop (last - told)) k.run
      ∙ ops_drop (last - told) a (told + 1) (bodies_of ops)
      ∙ (λ i. ops_from a ((on ∙ ap (λ c. c + 1) (sym (end_is a told last lasts ops b k))) i)
      (sym (opened_is a told last lasts ops b k) i))
      ∙ ap (λ (s : Own). ops_from s.actor (end_of s + 1) (opened s.batch)) v

  pub issued_seen : (c : ℕ) → c ≤ end_of now → c ≤ last
  issued_seen c h = omega (arith, h, last_seen)

  pub within_seen : (c : ℕ) → now.told ≤ c → told ≤ c
  within_seen c h = omega (arith, h, told_seen)

  pub fits_seen : (c : ℕ) → c ≤ end_of now → c - told ≤ length ops
  fits_seen c h = omega (arith, issued_seen c h, k.within)

  pub beyond_seen : (c : ℕ) → now.told ≤ c → c ≤ end_of now
      → bodies_of (drop (c - told) ops) ≡ own_bodies (acknowledged now c)
  beyond_seen c low high =
      sym (acknowledged_bodies a told last lasts ops b k c (within_seen c low) (issued_seen c high))
      ∙ ap (λ s. own_bodies (acknowledged s c)) v

  pub acknowledged_seen : (c : ℕ) → now.told ≤ c → c ≤ end_of now → (lasts' : List ℕ) (ops' : List Op)
      → lasts' ≡ above c lasts → ops' ≡ drop (c - told) ops
      → IsKept a c last lasts' ops' b × (own_of a c last lasts' ops' b ≡ acknowledged now c)
  acknowledged_seen c low high lasts' ops' e f = (
    subst (λ ls. IsKept a c last ls ops' b) (sym e)
        (subst (λ os. IsKept a c last (above c lasts) os b) (sym f)
        (acknowledged_kept a told last lasts ops b k c (within_seen c low) (issued_seen c high))),
    (λ i. own_of a c last (e i) (f i) b)
        ∙ acknowledged_is a told last lasts ops b k c (within_seen c low) (issued_seen c high)
        ∙ ap (λ s. acknowledged s c) v,
  )

  pub added_seen : (more ops' : List Op) (lasts' : List ℕ) → more ≡ ops_from now.actor (next_clock now) (bodies_of more)
      → ops' ≡ ops ++ more → lasts' ≡ lasts
      → IsKept a told last lasts' ops' true × (own_of a told last lasts' ops' true ≡ added now (bodies_of more))
  added_seen more ops' lasts' run f e =
      let on = run ∙ ap (λ (s : Own). ops_from s.actor (next_clock s) (bodies_of more)) (sym v) in (
        subst (λ ls. IsKept a told last ls ops' true) (sym e)
            (subst (λ os. IsKept a told last lasts os true) (sym f) (added_kept a told last lasts ops b k more on)),
        (λ i. own_of a told last (e i) (f i) true)
            ∙ added_is a told last lasts ops b k more on
            ∙ ap (λ s. added s (bodies_of more)) v,
      )

  sum : (l : ℕ) → (length ops ≡ 0 → l ≡ last) → (0 < length ops → l ≡ told + length ops) → l ≡ told + length ops
  sum l none some = sum_of (length ops) l last told (told_last a told last lasts ops b k) k.within none some

  pub sealed_none : (l : ℕ) → (length ops ≡ 0 → l ≡ last) → (0 < length ops → l ≡ told + length ops) → l ≤ last
      → IsKept a told last lasts ops false × (own_of a told last lasts ops false ≡ sealed_own now)
  sealed_none l none some le =
      let low : told + length ops ≤ last = omega (arith, le, sum l none some) in (
        sealed_none_kept a told last lasts ops b k low,
        sealed_none_is a told last lasts ops b k low ∙ ap sealed_own v,
      )

  pub sealed_some : (l : ℕ) → (length ops ≡ 0 → l ≡ last) → (0 < length ops → l ≡ told + length ops) → last < l
      → l ≤ max_whole → (lasts' : List ℕ) → lasts' ≡ lasts ++ l ∷ []
      → IsKept a told l lasts' ops false × (own_of a told l lasts' ops false ≡ sealed_own now)
  sealed_some l none some more bound lasts' e =
      let at = sum l none some in (
        subst (λ ls. IsKept a told l ls ops false) (sym e) (sealed_some_kept a told last lasts ops b k l at more bound),
        ap (λ ls. own_of a told l ls ops false) e
            ∙ sealed_some_is a told last lasts ops b k l at more bound
            ∙ ap sealed_own v,
      )

  pub open_seen : (l : ℕ) → (length ops ≡ 0 → l ≡ last) → (0 < length ops → l ≡ told + length ops) → last < l
      → b ≡ true
  open_seen l none some more = opens b (λ e. omega (arith, k.closed e, sum l none some, more))

pub last_clock_is : (a c : ℕ) (os : List Op) (o : Op) → os ≡ ops_from a (c + 1) (bodies_of os) → 0 < length os
    → Some o ≡ slice_get os (length os - 1) → clock_of o ≡ c + length os
last_clock_is a c os o run long at =
    let i = length os - 1 in
    let same : slice_get (ops_from a (c + 1) (bodies_of os)) i ≡ Some o =
    ap (λ xs. slice_get xs i) (sym run) ∙ sym at in
    let sum : c + 1 + i ≡ c + length os = omega (arith, long) in
    last_in a (c + 1) (bodies_of os) i o (omega (arith, long, bodies_length os)) same ∙ sum

-- what a push left, where it went
pub pushed : {A E : Type 0} (r : Result A E) {now : List ℕ} (less more : List ℕ) → IsOk r
    → now ≡ (if is_ok r then more else less) → now ≡ more
pushed r less more ok e = e ∙ ap (λ t. if t then more else less) ok
