-- The issued batches one by one: where each is cut, what is in it, and that they run on.
use Rattle.std.proofs.Common.{◌≡◌, ◌+◌, ◌-◌, ◌≤◌, ◌<◌, ◌∙◌, ℕ, zero, suc, Bool, List, [], ◌∷◌, length, map, take, drop}
use Rattle.std.proofs.Common.{Some, slice_get, get_or, refl, sym, ap, subst, arith}
use Rattle.std.proofs.lemmas.List.{drop-drop, length-take-le}
use Rattle.std.proofs.lemmas.Option.{slice_get-get_or}
use Rattle.room_nodes.specs.declared.nodes.Op.{Op}
use Rattle.room_nodes.specs.declared.nodes.Body.{Body}
use Rattle.room_log.specs.Log.{bodies_of, ops_from, op_of}
use Rattle.room_model.specs.Account.{batch_ops, last_clock}
use Rattle.room_model.specs.Sound.{RunsOn}
use Rattle.room_overlay.specs.Kept.{IsKept, Rising, cut, last_of, own_of}
use Rattle.room_overlay.specs.Own.{Own}
use Rattle.room_overlay.proofs.Cuts.{clock_cut, left, length_cut, rises}
use Rattle.room_overlay.proofs.Keeping.{bodies_length, ops_drop}

-- their last clocks

pub ends_each : (c : ℕ) (ls : List ℕ) (bs : List Body) → Rising c ls → last_of c ls ≤ c + length bs
    → map last_clock (cut c ls bs) ≡ ls
ends_each c [] bs h le = refl
ends_each c (l ∷ ls) bs h le = λ i.
    clock_cut c l bs h.0 (omega (arith, rises l ls h.1, le)) i
    ∷ ends_each l ls (drop (l - c) bs) h.1 (left c l ls bs h.0 le h.1) i

-- their clocks run on
pub runs_cut : (c : ℕ) (ls : List ℕ) (bs : List Body) → Rising c ls → last_of c ls ≤ c + length bs
    → RunsOn c (cut c ls bs)
runs_cut c [] bs h le = tt
runs_cut c (l ∷ ls) bs h le =
    let long : length (take (l - c) bs) ≡ l - c =
    length-take-le (l - c) bs (omega (arith, rises l ls h.1, le)) in
    let on : l ≡ c + length (take (l - c) bs) = omega (arith, long, h.0) in
    record {
      first = refl;
      some = omega (arith, long, h.0);
      more = subst (λ k. RunsOn k (cut l ls (drop (l - c) bs))) on
          (runs_cut l ls (drop (l - c) bs) h.1 (left c l ls bs h.0 le h.1));
    }

-- the operations of one

ops_take : (n a c : ℕ) (bs : List Body) → take n (ops_from a c bs) ≡ ops_from a c (take n bs)
ops_take zero a c bs = refl
ops_take (suc n) a c [] = refl
ops_take (suc n) a c (b ∷ bs) = ap (λ os. op_of a c b ∷ os) (ops_take n a (c + 1) bs)

abbrev part_at : (a c start end : ℕ) → List Body → List Op
part_at a c start end bs = ops_from a (start + 1) (take (end - start) (drop (start - c) bs))

at_zero : (a c l : ℕ) (bs : List Body) → ops_from a (c + 1) (take (l - c) bs) ≡ part_at a c c l bs
at_zero a c l bs =
    let none : 0 ≡ c - c = omega arith in ap (λ k. ops_from a (c + 1) (take (l - c) (drop k bs))) none

batch_in_cut : (i a c : ℕ) (ls : List ℕ) (bs : List Body) (end : ℕ) → Rising c ls → slice_get ls i ≡ Some end
    → slice_get (map (batch_ops a) (cut c ls bs)) i ≡ Some (part_at a c (last_of c (take i ls)) end bs)
batch_in_cut i a c [] bs end h at = cc
batch_in_cut zero a c (l ∷ ls) bs end h at =
    let same : l ≡ end = cc in
    ap (λ k. Some (ops_from a (c + 1) (take (k - c) bs))) same ∙ ap Some (at_zero a c end bs)
batch_in_cut (suc i) a c (l ∷ ls) bs end h at =
    let start = last_of l (take i ls) in
    let low = taken_rises i l ls h.1 in
    let sum : (l - c) + (start - l) ≡ start - c = omega (arith, h.0, low) in
    batch_in_cut i a l ls (drop (l - c) bs) end h.1 at
    ∙ ap (λ xs. Some (ops_from a (start + 1) (take (end - start) xs)))
    (drop-drop (start - l) (l - c) bs ∙ ap (λ k. drop k bs) sum)
  where
    taken_rises : (i l : ℕ) (ls : List ℕ) → Rising l ls → l ≤ last_of l (take i ls)
    taken_rises zero l ls h = omega arith
    taken_rises (suc i) l [] h = omega arith
    taken_rises (suc i) l (k ∷ ls) h = omega (arith, h.0, taken_rises i k ls h.1)

-- where a batch begins and ends
pub begin_low : (i c : ℕ) (ls : List ℕ) → Rising c ls → c ≤ last_of c (take i ls)
begin_low zero c ls h = omega arith
begin_low (suc i) c [] h = omega arith
begin_low (suc i) c (l ∷ ls) h = omega (arith, h.0, begin_low i l ls h.1)

pub begin_end : (i c : ℕ) (ls : List ℕ) (end : ℕ) → Rising c ls → slice_get ls i ≡ Some end
    → last_of c (take i ls) ≤ end
begin_end i c [] end h at = cc
begin_end zero c (l ∷ ls) end h at = let same : l ≡ end = cc in omega (arith, same, h.0)
begin_end (suc i) c (l ∷ ls) end h at = begin_end i l ls end h.1 at

pub end_high : (i c : ℕ) (ls : List ℕ) (end : ℕ) → Rising c ls → slice_get ls i ≡ Some end → end ≤ last_of c ls
end_high i c [] end h at = cc
end_high zero c (l ∷ ls) end h at = let same : l ≡ end = cc in omega (arith, same, rises l ls h.1)
end_high (suc i) c (l ∷ ls) end h at = end_high i l ls end h.1 at

-- the clock before an index

taken_last : (j or d : ℕ) (ls : List ℕ) → j < length ls → get_or ls j d ≡ last_of or (take (suc j) ls)
taken_last j or d [] h = absurd (omega (arith, h))
taken_last zero or d (l ∷ ls) h = refl
taken_last (suc j) or d (l ∷ ls) h = taken_last j l d ls (omega (arith, h))

pub last_taken : (i or d : ℕ) (ls : List ℕ) → 0 < i → i ≤ length ls → get_or ls (i - 1) d ≡ last_of or (take i ls)
last_taken i or d ls some h =
    let on : suc (i - 1) ≡ i = omega (arith, some) in
    taken_last (i - 1) or d ls (omega (arith, some, h)) ∙ ap (λ n. last_of or (take n ls)) on

-- what is kept, where contracts see it as `now`
module _ (a told last : ℕ) (lasts : List ℕ) (ops : List Op) (b : Bool) (k : IsKept a told last lasts ops b) (now : Own)
    (v : own_of a told last lasts ops b ≡ now) where
  long : last_of told lasts ≤ told + length (bodies_of ops)
  long = omega (arith, k.end, k.within, bodies_length ops)

  pub issued_count : length lasts ≡ length now.issued
  issued_count = sym (length_cut told lasts (bodies_of ops)) ∙ ap (λ (s : Own). length s.issued) v

  pub ends_seen : lasts ≡ map last_clock now.issued
  ends_seen =
      sym (ends_each told lasts (bodies_of ops) k.rising long) ∙ ap (λ (s : Own). map last_clock s.issued) v

  pub runs_seen : RunsOn now.told now.issued
  runs_seen =
      subst (λ (s : Own). RunsOn s.told s.issued) v (runs_cut told lasts (bodies_of ops) k.rising long)

  pub batch_seen : (i end start : ℕ) → slice_get lasts i ≡ Some end → start ≡ last_of told (take i lasts)
      → Some (take ((end - told) - (start - told)) (drop (start - told) ops))
      ≡ slice_get (map (batch_ops now.actor) now.issued) i
  batch_seen i end start at from =
      let low : told ≤ start = omega (arith, from, begin_low i told lasts k.rising) in
      let on : told + 1 + (start - told) ≡ start + 1 = omega (arith, low) in
      let size : (end - told) - (start - told) ≡ end - start = omega (arith, low) in
      let bs = bodies_of ops in
      ap Some (
      ap (λ n. take n (drop (start - told) ops)) size
      ∙ ap (λ xs. take (end - start) (drop (start - told) xs)) k.run
      ∙ ap (take (end - start)) (ops_drop (start - told) a (told + 1) bs)
      ∙ ap (λ c. take (end - start) (ops_from a c (drop (start - told) bs))) on
      ∙ ops_take (end - start) a (start + 1) (drop (start - told) bs)
      ∙ ap (λ s. part_at a told s end bs) from
      )
      ∙ sym (batch_in_cut i a told lasts bs end k.rising at)
      ∙ ap (λ (s : Own). slice_get (map (batch_ops s.actor) s.issued) i) v

  pub index_seen : (i : ℕ) → i < length now.issued → i < length lasts
  index_seen i h = omega (arith, h, issued_count)

  pub end_seen : (i end : ℕ) → i < length now.issued → end ≡ get_or lasts i end
      → Some end ≡ slice_get (map last_clock now.issued) i
  end_seen i end h e =
      ap Some e ∙ sym (slice_get-get_or lasts i end (index_seen i h)) ∙ ap (λ xs. slice_get xs i) ends_seen

  pub start_low : (i start : ℕ) → start ≡ last_of told (take i lasts) → told ≤ start
  start_low i start from = omega (arith, from, begin_low i told lasts k.rising)

  module _ (i end start : ℕ) (h : i < length now.issued) (e : end ≡ get_or lasts i end)
      (from : start ≡ last_of told (take i lasts)) where
    at : slice_get lasts i ≡ Some end
    at = slice_get-get_or lasts i end (index_seen i h) ∙ ap Some (sym e)

    pub start_end : start ≤ end
    start_end = omega (arith, from, begin_end i told lasts end k.rising at)

    pub end_low : told ≤ end
    end_low = omega (arith, start_low i start from, start_end)

    pub sizes_fit : start - told ≤ end - told
    sizes_fit = omega (arith, start_end)

    pub end_fits : end - told ≤ length ops
    end_fits = omega (arith, end_high i told lasts end k.rising at, k.end, k.within)

    pub part_seen : (part : List Op) → part ≡ take ((end - told) - (start - told)) (drop (start - told) ops)
        → Some part ≡ slice_get (map (batch_ops now.actor) now.issued) i
    part_seen part p = ap Some p ∙ batch_seen i end start at from
