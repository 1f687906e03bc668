-- A file is made anew for a state that the files stand for.
use Rattle.std.proofs.Common.{◌≡◌, ◌⊎◌, inl, inr, ⊎_elim, ℕ, ◌+◌, ◌<◌, ◌≤◌, List, [], length, Bool, true, false, refl, sym, ◌∙◌, ap, subst, arith}
use Rattle.std.specs.Prelude.{nat_lt, Option, Some, None, Result, Ok, Err, OnOk}
use Rattle.room_disk.specs.Model.{Reads, Images, Only, OnFile, Within, WithinWhole}
use Rattle.room_disk.proofs.Moments.{on_whole}
use Rattle.room_log.specs.Log.{State}
use Rattle.room_log.specs.Follows.{IsValidState}
use Rattle.room_log.specs.Laws.{ValidAfter}
use Rattle.room_bytes.specs.declared.entries.Format.{Format}
use Rattle.room_bytes.specs.declared.entries.Format.TheVariants.{Two}
use Rattle.room_snapshot.specs.Reading.{snapshot_of}
use Rattle.room_journal.specs.Files.{Held, Says, Opens, Closed, New, chosen, reading, says, last_generation}
use Rattle.room_journal.specs.Rest.{Place, place_at, room, end_of, other_of, renewed, IsReadyFile, IsRenewed}
use Rattle.room_replay.specs.Files.{held_of, files_read, StandsFor}
use Rattle.room_store.specs.Consistent.{IsBelow, AreTwo, Settled, IsKept, AsNew, AsHeld, IsReadyState, IsCompacted, IsWritten, AreWritten}
use Rattle.room_store.specs.Calls.{Compacts}
use Rattle.room_store.proofs.Standing.{stands, counts, two_written, opened_new, apart, turned, is_other, only_both, not_file, left_alone, elsewhere, on_other, on_file}
use Rattle.room_store.proofs.Generations.{two_at_last, renewed_next, renewed_last, is_less, is_last}

-- what a renewal of the journal gives
pub record Renews {D T E : Type 0} (seen : D → Reads) (moment : D → ℕ) (images : D → Images) (p q : Place) (ready : List ℕ) (old new : D) (r : Result T E) : Type 0 where
  pub bound : p.generation ≤ last_generation
  pub made : p.generation < last_generation → (s : List ℕ) → IsReadyFile p.generation s ready → OnOk r (says (seen new (other_of p.base p.file)) ≡ room (p.generation + 1) s [])
  pub kept : p.generation ≡ last_generation → (f : ℕ) → seen new f ≡ seen old f
  pub place : OnOk r (q ≡ renewed p ready)
  pub durable : (o : ℕ) → o ≡ other_of p.base p.file → OnOk r (Only (seen new o) (images new (moment new) o))
  pub counted : OnOk r (moment new ≡ moment old + 6)
  pub others : (f : ℕ) → (f ≡ other_of p.base p.file → ⊥) → seen new f ≡ seen old f
  pub any_moment : (s : List ℕ) (o : ℕ) → o ≡ other_of p.base p.file → IsReadyFile p.generation s ready → Only (seen old o) (images old (moment old) o)
      → Within moment images old new (OnFile o (IsRenewed (says (seen old o)) p.generation s) (images old (moment old)))
  pub most : moment new ≤ moment old + 6

-- the state's file that doesn't count, and that it is on the disk

pub record Other (seen : Reads) (now : ℕ → List ℕ → Type 0) (p : Place) : Type 0 where
  pub other : ℕ
  pub two : AreTwo p.base p.file other
  pub here : Only (seen p.file) (now p.file)
  pub there : Only (seen other) (now other)
  -- what the file that counts says is below the next generation
  pub below : IsBelow (p.generation + 1) (says (seen p.file))

under : (f : Format) (g : ℕ) (h : Option Held) (x : Says) → x ≡ Opens f g h → IsBelow (g + 1) x
under f g h x is = let lt : g < g + 1 = omega arith in subst (λ (y : Says). IsBelow (g + 1) y) (sym is) lt

pub other_in : (seen : Reads) (now : ℕ → List ℕ → Type 0) (p : Place) (s : State) → IsKept seen now p s → Other seen now p
other_in seen now p s (AsNew n) = record {
  other = p.base;
  two = inr (n.file_is, refl);
  here = subst (λ (f : ℕ). Only (seen f) (now f)) (sym n.file_is) n.second;
  there = n.first;
  below = subst (λ (f : ℕ). IsBelow (p.generation + 1) (says (seen f))) (sym n.file_is) (subst (λ (x : Says). IsBelow (p.generation + 1) x) (sym n.closed_too) tt);
}
other_in seen now p s (AsHeld f st) = record {
  other = st.holds.other;
  two = st.holds.two;
  here = on_file f p s seen now st;
  there = on_other f p s seen now st;
  below = under f p.generation _ (says (seen p.file)) st.holds.is;
}

-- an image of the files as they were, but for the other file, which says what it said or is closed, stands for the state

old_stands : (seen : Reads) (now : ℕ → List ℕ → Type 0) (p : Place) (s : State) (k : IsKept seen now p s) (o : Other seen now p) (image : Reads) → o.other ≡ other_of p.base p.file
    → image p.file ≡ seen p.file → (says (image o.other) ≡ says (seen o.other)) ⊎ (says (image o.other) ≡ Closed) → StandsFor p.base s image
old_stands seen now p s (AsNew n) o image is same says_so =
    let at : o.other ≡ p.base = is ∙ sym (is_other p.base p.file p.base (inr (n.file_is, refl))) in
    let there : says (image (p.base + 1)) ≡ Closed = ap (λ (f : ℕ). says (image f)) (sym n.file_is) ∙ ap says same ∙ ap (λ (f : ℕ). says (seen f)) n.file_is ∙ n.closed_too in
    let here : says (image p.base) ≡ Closed =
    ap (λ (f : ℕ). says (image f)) (sym at) ∙ ⊎_elim (λ (e : says (image o.other) ≡ says (seen o.other)). e ∙ ap (λ (f : ℕ). says (seen f)) at ∙ n.closed) (λ (e : says (image o.other) ≡ Closed). e) says_so in
    inr (ap files_read (ap (λ (x : Says). chosen p.base x (says (image (p.base + 1)))) here ∙ ap (λ (y : Says). chosen p.base Closed y) there), n.empty)
old_stands seen now p s (AsHeld f st) o image is same says_so =
    let h = st.holds in
    let at : o.other ≡ h.other = is ∙ sym (is_other p.base p.file h.other h.two) in
    let low : IsBelow p.generation (says (image h.other)) = subst (λ (n : ℕ). IsBelow p.generation (says (image n))) at
    (⊎_elim
    (λ (e : says (image o.other) ≡ says (seen o.other)). subst (λ (x : Says). IsBelow p.generation x) (sym (e ∙ ap (λ (n : ℕ). says (seen n)) at)) h.below)
    (λ (e : says (image o.other) ≡ Closed). subst (λ (x : Says). IsBelow p.generation x) (sym e) tt) says_so) in
    stands p.base p.file h.other p.generation f (held_of h.snapshot h.bodies None) s image h.two (ap says same ∙ h.is) low h.state_is

-- and such an image holds a room in the format that is written, where the files do

reading_same : (base : ℕ) (image seen : Reads) → image base ≡ seen base → image (base + 1) ≡ seen (base + 1) → reading base (image base) (image (base + 1)) ≡ reading base (seen base) (seen (base + 1))
reading_same base image seen first second = ap (λ (x : List ℕ). reading base x (image (base + 1))) first ∙ ap (λ (y : List ℕ). reading base (seen base) y) second

old_written : (seen : Reads) (now : ℕ → List ℕ → Type 0) (p : Place) (s : State) (k : IsKept seen now p s) (o : Other seen now p) (image : Reads) → o.other ≡ other_of p.base p.file
    → AreWritten p.base seen → image p.file ≡ seen p.file → (says (image o.other) ≡ says (seen o.other)) ⊎ (says (image o.other) ≡ Closed) → AreWritten p.base image
old_written seen now p s (AsNew n) o image is w same says_so =
    let new : reading p.base (seen p.base) (seen (p.base + 1)) ≡ New = ap (λ (x : Says). chosen p.base x (says (seen (p.base + 1)))) n.closed ∙ ap (λ (y : Says). chosen p.base Closed y) n.closed_too in
    absurd (subst IsWritten new w)
old_written seen now p s (AsHeld f st) o image is w same says_so =
    let h = st.holds in
    let at : o.other ≡ h.other = is ∙ sym (is_other p.base p.file h.other h.two) in
    let low : IsBelow p.generation (says (image h.other)) = subst (λ (n : ℕ). IsBelow p.generation (says (image n))) at
    (⊎_elim
    (λ (e : says (image o.other) ≡ says (seen o.other)). subst (λ (x : Says). IsBelow p.generation x) (sym (e ∙ ap (λ (n : ℕ). says (seen n)) at)) h.below)
    (λ (e : says (image o.other) ≡ Closed). subst (λ (x : Says). IsBelow p.generation x) (sym e) tt) says_so) in
    let was = counts p.base p.file h.other p.generation f (held_of h.snapshot h.bodies None) seen h.two h.is h.below in
    let then = counts p.base p.file h.other p.generation f (held_of h.snapshot h.bodies None) image h.two (ap says same ∙ h.is) low in
    subst IsWritten (was ∙ sym then) w

both_only : (seen : Reads) (now : ℕ → List ℕ → Type 0) (p : Place) (s : State) → IsKept seen now p s → Only (seen p.base) (now p.base) × Only (seen (p.base + 1)) (now (p.base + 1))
both_only seen now p s (AsNew n) = (n.first, n.second)
both_only seen now p s (AsHeld f st) = (st.first, st.second)

pub kept_written : (seen : Reads) (now : ℕ → List ℕ → Type 0) (p : Place) (s : State) → IsKept seen now p s → AreWritten p.base seen → (image : Reads) → ((f : ℕ) → now f (image f)) → AreWritten p.base image
kept_written seen now p s k w image each =
    let only = both_only seen now p s k in
    subst IsWritten (sym (reading_same p.base image seen (only.0 (image p.base) (each p.base)) (only.1 (image (p.base + 1)) (each (p.base + 1))))) w

pub kept_stands : (seen : Reads) (now : ℕ → List ℕ → Type 0) (p : Place) (s : State) → IsKept seen now p s → (image : Reads) → ((f : ℕ) → now f (image f)) → StandsFor p.base s image
kept_stands seen now p s k image each =
    let o = other_in seen now p s k in
    old_stands seen now p s k o image (is_other p.base p.file o.other o.two) (o.here (image p.file) (each p.file)) (inl (ap says (o.there (image o.other) (each o.other))))

pub valid_in : (seen : Reads) (now : ℕ → List ℕ → Type 0) (p : Place) (s : State) → ValidAfter → IsKept seen now p s → IsValidState s
valid_in seen now p s law (AsNew n) = subst (λ (t : State). IsValidState t) (sym n.empty) law.empty
valid_in seen now p s law (AsHeld f st) = st.valid

anew_moments : {D T E : Type 0} (seen : D → Reads) (moment : D → ℕ) (images : D → Images) (p q : Place) (s : State) (ready : List ℕ) (old new : D) (r : Result T E)
    → Renews seen moment images p q ready old new r → (k : IsKept (seen old) (images old (moment old)) p s) → (snapshot : List ℕ) → snapshot_of Two snapshot ≡ Some s → IsReadyFile p.generation snapshot ready
    → WithinWhole moment images old new (StandsFor p.base s)
anew_moments seen moment images p q s ready old new r rn k snapshot reads file =
    let o = other_in (seen old) (images old (moment old)) p s k in
    let at = is_other p.base p.file o.other o.two in
    let was = images old (moment old) in
    on_whole (moment old) (moment new) (images old) (images new) (OnFile o.other (IsRenewed (says (seen old o.other)) p.generation snapshot) was) (StandsFor p.base s)
    (rn.any_moment snapshot o.other at file o.there)
    (λ image each.
    let far : p.file ≡ o.other → ⊥ = λ e. apart p.base p.file o.other o.two (sym e) in
    let same : image p.file ≡ seen old p.file = o.here (image p.file) ((each p.file).1 far) in
    ⊎_elim
    (λ (still : says (image o.other) ≡ says (seen old o.other)). old_stands (seen old) was p s k o image at same (inl still))
    (λ (anew : (p.generation < last_generation) × ((says (image o.other) ≡ Closed) ⊎ (says (image o.other) ≡ room (p.generation + 1) snapshot []))).
    ⊎_elim
    (λ (shut : says (image o.other) ≡ Closed). old_stands (seen old) was p s k o image at same (inr shut))
    (λ (made : says (image o.other) ≡ room (p.generation + 1) snapshot []).
    stands p.base o.other p.file (p.generation + 1) Two (held_of snapshot [] None) s image (turned p.base p.file o.other o.two) made
    (subst (λ (l : List ℕ). IsBelow (p.generation + 1) (says l)) (sym same) o.below) (opened_new o.other snapshot s reads))
    anew.1)
    ((each o.other).0 refl))

anew_written : {D T E : Type 0} (seen : D → Reads) (moment : D → ℕ) (images : D → Images) (p q : Place) (s : State) (ready : List ℕ) (old new : D) (r : Result T E)
    → Renews seen moment images p q ready old new r → (k : IsKept (seen old) (images old (moment old)) p s) → (snapshot : List ℕ) → IsReadyFile p.generation snapshot ready → AreWritten p.base (seen old)
    → WithinWhole moment images old new (AreWritten p.base)
anew_written seen moment images p q s ready old new r rn k snapshot file w =
    let o = other_in (seen old) (images old (moment old)) p s k in
    let at = is_other p.base p.file o.other o.two in
    let was = images old (moment old) in
    on_whole (moment old) (moment new) (images old) (images new) (OnFile o.other (IsRenewed (says (seen old o.other)) p.generation snapshot) was) (AreWritten p.base)
    (rn.any_moment snapshot o.other at file o.there)
    (λ image each.
    let far : p.file ≡ o.other → ⊥ = λ e. apart p.base p.file o.other o.two (sym e) in
    let same : image p.file ≡ seen old p.file = o.here (image p.file) ((each p.file).1 far) in
    ⊎_elim
    (λ (still : says (image o.other) ≡ says (seen old o.other)). old_written (seen old) was p s k o image at w same (inl still))
    (λ (anew : (p.generation < last_generation) × ((says (image o.other) ≡ Closed) ⊎ (says (image o.other) ≡ room (p.generation + 1) snapshot []))).
    ⊎_elim
    (λ (shut : says (image o.other) ≡ Closed). old_written (seen old) was p s k o image at w same (inr shut))
    (λ (made : says (image o.other) ≡ room (p.generation + 1) snapshot []).
    two_written p.base o.other p.file (p.generation + 1) (held_of snapshot [] None) image (turned p.base p.file o.other o.two) made
    (subst (λ (l : List ℕ). IsBelow (p.generation + 1) (says l)) (sym same) o.below))
    anew.1)
    ((each o.other).0 refl))

-- after it

anew_place : (later : Reads) (now : ℕ → List ℕ → Type 0) (p : Place) (s : State) (o : ℕ) (snapshot : List ℕ) (n : ℕ) → AreTwo p.base p.file o → snapshot_of Two snapshot ≡ Some s → IsValidState s
    → says (later (other_of p.base p.file)) ≡ room (p.generation + 1) snapshot [] → n ≡ end_of snapshot [] → IsBelow (p.generation + 1) (says (later p.file)) → Only (later p.file) (now p.file) → Only (later o) (now o)
    → Settled Two later now (place_at p.base (other_of p.base p.file) (p.generation + 1) n) s
anew_place later now p s o snapshot n two reads valid made ends below here there =
    let at = is_other p.base p.file o two in
    let both = only_both p.base p.file o later now two here there in
    record {
      holds = record {
        other = p.file;
        two = subst (λ (f : ℕ). AreTwo p.base f p.file) at (turned p.base p.file o two);
        snapshot = snapshot;
        bodies = [];
        is = made;
        below = below;
        ends = ends;
        state_is = opened_new (other_of p.base p.file) snapshot s reads;
      };
      first = both.0;
      second = both.1;
      valid = valid;
    }

-- at the last generation the files are as before

new_not_last : (g : ℕ) → g ≡ 0 → g ≡ last_generation → ⊥
new_not_last g none last = let e : 0 ≡ last_generation = sym none ∙ last in cc e

last_place : (seen later : Reads) (was now : ℕ → List ℕ → Type 0) (p : Place) (s : State) → IsKept seen was p s → p.generation ≡ last_generation → ((f : ℕ) → later f ≡ seen f)
    → Only (later p.base) (now p.base) → Only (later (p.base + 1)) (now (p.base + 1)) → Settled Two later now p s
last_place seen later was now p s (AsNew n) last same first second = absurd (new_not_last p.generation n.generation_is last)
last_place seen later was now p s (AsHeld f st) last same first second =
    let h = st.holds in
    let as_two : f ≡ Two = two_at_last (seen p.file) f p.generation _ h.is last in
    let held : Settled f later now p s = record {
      holds = record {
        other = h.other;
        two = h.two;
        snapshot = h.snapshot;
        bodies = h.bodies;
        is = ap says (same p.file) ∙ h.is;
        below = subst (λ (l : List ℕ). IsBelow p.generation (says l)) (sym (same h.other)) h.below;
        ends = h.ends;
        state_is = h.state_is;
      };
      first = first;
      second = second;
      valid = st.valid;
    } in
    subst (λ (e : Format). Settled e later now p s) as_two held

anew_settled : {D T E : Type 0} (seen : D → Reads) (moment : D → ℕ) (images : D → Images) (p q : Place) (s : State) (ready : List ℕ) (old new : D) (r : Result T E)
    → Renews seen moment images p q ready old new r → (k : IsKept (seen old) (images old (moment old)) p s) → (snapshot : List ℕ) → snapshot_of Two snapshot ≡ Some s → IsReadyFile p.generation snapshot ready
    → IsValidState s → (b : Bool) → nat_lt p.generation last_generation ≡ b
    → OnOk r (Settled Two (seen new) (images new (moment new)) q s)
anew_settled seen moment images p q s ready old new (Err e) rn k snapshot reads file valid b is = tt
anew_settled seen moment images p q s ready old new (Ok x) rn k snapshot reads file valid true is =
    let o = other_in (seen old) (images old (moment old)) p s k in
    let at = is_other p.base p.file o.other o.two in
    let lt = is_less p.generation last_generation is in
    let far : p.file ≡ o.other → ⊥ = λ e. apart p.base p.file o.other o.two (sym e) in
    let same : seen new p.file ≡ seen old p.file = rn.others p.file (λ e. far (e ∙ sym at)) in
    let here : Only (seen new p.file) (images new (moment new) p.file) =
    left_alone p.file o.other (moment old) (moment new) (images old) (images new) (IsRenewed (says (seen old o.other)) p.generation snapshot) (seen old p.file) (seen new p.file) far
    (rn.any_moment snapshot o.other at file o.there) same o.here in
    subst (λ (n : Place). Settled Two (seen new) (images new (moment new)) n s) (sym (rn.place ∙ renewed_next p ready lt))
    (anew_place (seen new) (images new (moment new)) p s o.other snapshot (length ready) o.two reads valid (rn.made lt snapshot file) ((file lt).sized)
    (subst (λ (l : List ℕ). IsBelow (p.generation + 1) (says l)) (sym same) o.below) here (rn.durable o.other at))
anew_settled seen moment images p q s ready old new (Ok x) rn k snapshot reads file valid false is =
    let o = other_in (seen old) (images old (moment old)) p s k in
    let at = is_other p.base p.file o.other o.two in
    let last = is_last p.generation last_generation rn.bound is in
    let far : p.file ≡ o.other → ⊥ = λ e. apart p.base p.file o.other o.two (sym e) in
    let here : Only (seen new p.file) (images new (moment new) p.file) =
    left_alone p.file o.other (moment old) (moment new) (images old) (images new) (IsRenewed (says (seen old o.other)) p.generation snapshot) (seen old p.file) (seen new p.file) far
    (rn.any_moment snapshot o.other at file o.there) (rn.kept last p.file) o.here in
    let both = only_both p.base p.file o.other (seen new) (images new (moment new)) o.two here (rn.durable o.other at) in
    subst (λ (n : Place). Settled Two (seen new) (images new (moment new)) n s) (sym (rn.place ∙ renewed_last p ready last))
    (last_place (seen old) (seen new) (images old (moment old)) (images new (moment new)) p s k last (rn.kept last) both.0 both.1)

anew_next : {D T E : Type 0} (seen : D → Reads) (moment : D → ℕ) (images : D → Images) (p q : Place) (s : State) (ready : List ℕ) (old new : D) (r : Result T E)
    → Renews seen moment images p q ready old new r → (snapshot : List ℕ) → snapshot_of Two snapshot ≡ Some s → IsReadyFile p.generation snapshot ready
    → p.generation < last_generation → OnOk r (IsCompacted (seen new) q (p.generation + 1) s)
anew_next seen moment images p q s ready old new (Err e) rn snapshot reads file lt = tt
anew_next seen moment images p q s ready old new (Ok x) rn snapshot reads file lt =
    subst (λ (n : Place). IsCompacted (seen new) n (p.generation + 1) s) (sym (rn.place ∙ renewed_next p ready lt))
    (record { generation = refl; snapshot = snapshot; reads = reads; is = rn.made lt snapshot file })

pub compacts : {D T E : Type 0} (seen : D → Reads) (moment : D → ℕ) (images : D → Images) (p q : Place) (s : State) (ready : List ℕ) (old new : D) (r : Result T E)
    → ValidAfter → Renews seen moment images p q ready old new r → IsKept (seen old) (images old (moment old)) p s → IsReadyState p.generation s ready
    → Compacts seen moment images p q s old new r
compacts seen moment images p q s ready old new r law rn k rs =
    let o = other_in (seen old) (images old (moment old)) p s k in
    let at = is_other p.base p.file o.other o.two in
    let valid = valid_in (seen old) (images old (moment old)) p s law k in
    let reads = rs.reads valid in
    let swapped = turned p.base p.file o.other o.two in
    record {
      settled = anew_settled seen moment images p q s ready old new r rn k rs.snapshot reads rs.ready valid (nat_lt p.generation last_generation) refl;
      counted = rn.counted;
      next = anew_next seen moment images p q s ready old new r rn rs.snapshot reads rs.ready;
      last = rn.kept;
      any_moment = anew_moments seen moment images p q s ready old new r rn k rs.snapshot reads rs.ready;
      others = λ f one another. rn.others f (λ e. not_file p.base o.other p.file f swapped one another (e ∙ sym at));
      elsewhere = elsewhere p.base o.other p.file (moment old) (moment new) (images old) (images new) (IsRenewed (says (seen old o.other)) p.generation rs.snapshot) swapped
          (rn.any_moment rs.snapshot o.other at rs.ready o.there);
      bound = rn.most;
      written = anew_written seen moment images p q s ready old new r rn k rs.snapshot rs.ready;
    }
