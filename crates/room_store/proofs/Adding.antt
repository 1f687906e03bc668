-- A group is added: from one state to the next.
use Rattle.std.proofs.Common.{◌≡◌, ◌⊎◌, inl, inr, ⊎_elim, ℕ, ◌+◌, ◌≤◌, List, [], ◌∷◌, ◌++◌, length, Bool, refl, sym, ◌∙◌, ap, subst, arith}
use Rattle.std.specs.Prelude.{Some, None, Result, Ok, Err, OnOk, IsErr, IsErrOf}
use Rattle.room_disk.specs.Model.{Reads, Images, Only, OnFile, WithinWhole}
use Rattle.room_disk.specs.Stops.{Left}
use Rattle.room_disk.specs.declared.disk.Stop.{Stop}
use Rattle.room_disk.specs.declared.disk.Stop.TheVariants.{Old, New as Whole, Torn}
use Rattle.room_disk.proofs.Moments.{on_whole}
use Rattle.room_log.specs.Log.{State}
use Rattle.room_log.specs.Follows.{IsValidState}
use Rattle.room_bytes.specs.declared.entries.Format.TheVariants.{Two}
use Rattle.room_journal.specs.declared.fault.JournalFault.{JournalFault}
use Rattle.room_journal.specs.declared.fault.JournalFault.TheVariants as journal
use Rattle.room_journal.specs.Files.{Says, Opens, Closed, Headless, says}
use Rattle.room_journal.specs.Rest.{Place, grown, room, body_of, end_of, stopped_bodies, IsAtRest, IsBeforeOrAfter}
use Rattle.room_journal.specs.Appends.{Appends, AppendsOrStops}
use Rattle.room_replay.specs.Files.{taken, held_of, StandsFor, stopped_state}
use Rattle.room_store.specs.Consistent.{IsBelow, Settled, IsKept, AreWritten, IsSameFile, HasOneMore}
use Rattle.room_store.specs.Calls.{Commits, CommitsOrStops, Compacts}
use Rattle.room_store.specs.declared.fault.StoreFault.{StoreFault}
use Rattle.room_store.specs.declared.fault.StoreFault.TheVariants.{Memory}
use Rattle.room_store.specs.Faults.{told, cause_in}
use Rattle.room_store.proofs.Anew.{kept_stands, kept_written}
use Rattle.room_store.proofs.Standing.{stands, two_written, opened_more, apart, only_both, not_file, left_alone, elsewhere, on_other}

-- an answer as the store tells it

pub on_told : {T : Type 0} (r : Result T JournalFault) (P : Type 0) → OnOk r P → OnOk (told r) P
on_told (Ok x) P is = is
on_told (Err e) P is = tt

pub err_told : {T : Type 0} (r : Result T JournalFault) → IsErr r → IsErr (told r)
err_told (Ok x) is = is
err_told (Err e) is = is

pub none_is_ok : {T : Type 0} (r : Result T JournalFault) (P : Type 0) → OnOk r P → cause_in r ≡ None → P
none_is_ok (Ok x) P is none = is
none_is_ok (Err e) P is none = cc none

-- want of memory of the journal comes from its disk, and breaks the store

pub full_before : {T : Type 0} (r : Result T JournalFault) → IsErrOf (told r) Memory → IsErrOf r journal.Memory
full_before (Ok x) is = cc
full_before (Err journal.Memory) is = refl
full_before (Err journal.Disk) is = cc
full_before (Err (journal.Damaged f at)) is = cc

pub full_breaks : {T : Type 0} (r : Result T JournalFault) → IsErrOf (told r) Memory → cause_in r ≡ None → ⊥
full_breaks (Ok x) is none = cc is
full_breaks (Err journal.Memory) is none = cc none
full_breaks (Err journal.Disk) is none = cc none
full_breaks (Err (journal.Damaged f at)) is none = cc none

-- the file that a place is at rest in, with a body more

abbrev ends_in : Says → ℕ
ends_in Closed = 0
ends_in Headless = 0
ends_in (Opens f g None) = 0
ends_in (Opens f g (Some h)) = end_of h.snapshot h.bodies

rest_ends : (file : List ℕ) (g end : ℕ) (s : List ℕ) (bs : List (List ℕ)) → IsAtRest file g end → says file ≡ room g s bs → end ≡ end_of s bs
rest_ends file g end s bs rests is = rests.end_is ∙ ap ends_in (sym rests.is ∙ is)

pub commits : {D T : Type 0} (seen : D → Reads) (moment : D → ℕ) (images : D → Images) (p q : Place) (s t : State) (ready : List ℕ) (old new : D) (r : Result T JournalFault)
    → (st : Settled Two (seen old) (images old (moment old)) p s) → taken Two s (body_of ready) ≡ Some t → IsValidState t → OnOk r (q ≡ grown p ready) → Appends seen moment images p ready old new r
    → OnOk r (Settled Two (seen new) (images new (moment new)) q t)
commits seen moment images p q s t ready old new (Err e) st follows valid place adds = tt
commits seen moment images p q s t ready old new (Ok x) st follows valid place adds =
    let h = st.holds in
    let b = body_of ready in
    let far = apart p.base p.file h.other h.two in
    let same : seen new h.other ≡ seen old h.other = adds.others h.other far in
    let added = adds.added h.snapshot h.bodies h.is in
    let there : Only (seen new h.other) (images new (moment new) h.other) =
    left_alone h.other p.file (moment old) (moment new) (images old) (images new) (IsBeforeOrAfter p.generation h.snapshot h.bodies b) (seen old h.other) (seen new h.other) far
    (adds.any_moment h.snapshot h.bodies h.is) same (on_other Two p s (seen old) (images old (moment old)) st) in
    let both = only_both p.base p.file h.other (seen new) (images new (moment new)) h.two adds.durable there in
    let after : Settled Two (seen new) (images new (moment new)) (grown p ready) t = record {
      holds = record {
        other = h.other;
        two = h.two;
        snapshot = h.snapshot;
        bodies = h.bodies ++ b ∷ [];
        is = added;
        below = subst (λ (l : List ℕ). IsBelow p.generation (says l)) (sym same) h.below;
        ends = rest_ends (seen new p.file) p.generation (p.end + length ready) h.snapshot (h.bodies ++ b ∷ []) adds.rests added;
        state_is = opened_more p.file h.snapshot h.bodies b s t h.state_is follows;
      };
      first = both.0;
      second = both.1;
      valid = valid;
    } in
    subst (λ (n : Place). Settled Two (seen new) (images new (moment new)) n t) (sym place) after

commit_moments : {D T : Type 0} (seen : D → Reads) (moment : D → ℕ) (images : D → Images) (p : Place) (s t : State) (ready : List ℕ) (old new : D) (r : Result T JournalFault)
    → (st : Settled Two (seen old) (images old (moment old)) p s) → taken Two s (body_of ready) ≡ Some t → Appends seen moment images p ready old new r
    → WithinWhole moment images old new (λ image. StandsFor p.base s image ⊎ StandsFor p.base t image)
commit_moments seen moment images p s t ready old new r st follows adds =
    let h = st.holds in
    let b = body_of ready in
    on_whole (moment old) (moment new) (images old) (images new) (OnFile p.file (IsBeforeOrAfter p.generation h.snapshot h.bodies b) (images old (moment old)))
    (λ image. StandsFor p.base s image ⊎ StandsFor p.base t image) (adds.any_moment h.snapshot h.bodies h.is)
    (λ image each.
    let same : image h.other ≡ seen old h.other = on_other Two p s (seen old) (images old (moment old)) st (image h.other) ((each h.other).1 (apart p.base p.file h.other h.two)) in
    let under : IsBelow p.generation (says (image h.other)) = subst (λ (l : List ℕ). IsBelow p.generation (says l)) (sym same) h.below in
    ⊎_elim
    (λ (here : says (image p.file) ≡ room p.generation h.snapshot h.bodies). inl (stands p.base p.file h.other p.generation Two (held_of h.snapshot h.bodies None) s image h.two here under h.state_is))
    (λ (here : says (image p.file) ≡ room p.generation h.snapshot (h.bodies ++ b ∷ [])).
    inr (stands p.base p.file h.other p.generation Two (held_of h.snapshot (h.bodies ++ b ∷ []) None) t image h.two here under (opened_more p.file h.snapshot h.bodies b s t h.state_is follows)))
    ((each p.file).0 refl))

commit_written : {D T : Type 0} (seen : D → Reads) (moment : D → ℕ) (images : D → Images) (p : Place) (s : State) (ready : List ℕ) (old new : D) (r : Result T JournalFault)
    → (st : Settled Two (seen old) (images old (moment old)) p s) → Appends seen moment images p ready old new r → WithinWhole moment images old new (AreWritten p.base)
commit_written seen moment images p s ready old new r st adds =
    let h = st.holds in
    let b = body_of ready in
    on_whole (moment old) (moment new) (images old) (images new) (OnFile p.file (IsBeforeOrAfter p.generation h.snapshot h.bodies b) (images old (moment old)))
    (AreWritten p.base) (adds.any_moment h.snapshot h.bodies h.is)
    (λ image each.
    let same : image h.other ≡ seen old h.other = on_other Two p s (seen old) (images old (moment old)) st (image h.other) ((each h.other).1 (apart p.base p.file h.other h.two)) in
    let under : IsBelow p.generation (says (image h.other)) = subst (λ (l : List ℕ). IsBelow p.generation (says l)) (sym same) h.below in
    ⊎_elim
    (λ (here : says (image p.file) ≡ room p.generation h.snapshot h.bodies). two_written p.base p.file h.other p.generation (held_of h.snapshot h.bodies None) image h.two here under)
    (λ (here : says (image p.file) ≡ room p.generation h.snapshot (h.bodies ++ b ∷ [])). two_written p.base p.file h.other p.generation (held_of h.snapshot (h.bodies ++ b ∷ []) None) image h.two here under)
    ((each p.file).0 refl))

-- the file after it

same_file : {T : Type 0} (r : Result T JournalFault) (p q : Place) (ready : List ℕ) → OnOk r (q ≡ grown p ready) → OnOk (told r) (IsSameFile p q)
same_file (Err e) p q ready place = tt
same_file (Ok x) p q ready place =
    record { base = ap (λ (n : Place). n.base) place; file = ap (λ (n : Place). n.file) place; generation = ap (λ (n : Place). n.generation) place }

one_more : {D T : Type 0} (seen : D → Reads) (moment : D → ℕ) (images : D → Images) (p q : Place) (s t : State) (ready : List ℕ) (old new : D) (r : Result T JournalFault) (sn : List ℕ) (bs : List (List ℕ))
    → OnOk r (q ≡ grown p ready) → OnOk r (says (seen new p.file) ≡ room p.generation sn (bs ++ body_of ready ∷ [])) → taken Two s (body_of ready) ≡ Some t
    → OnOk (told r) (HasOneMore (seen new) q sn bs s t)
one_more seen moment images p q s t ready old new (Err e) sn bs place added follows = tt
one_more seen moment images p q s t ready old new (Ok x) sn bs place added follows =
    record { body = body_of ready; leads = follows; is = subst (λ (n : Place). says (seen new n.file) ≡ room n.generation sn (bs ++ body_of ready ∷ [])) (sym place) added }

pub commits_by : {D T : Type 0} (seen : D → Reads) (moment : D → ℕ) (images : D → Images) (p q : Place) (s t : State) (ready : List ℕ) (old new : D) (r : Result T JournalFault)
    → OnOk r (q ≡ grown p ready) → Appends seen moment images p ready old new r → Settled Two (seen old) (images old (moment old)) p s → taken Two s (body_of ready) ≡ Some t → IsValidState t
    → Commits seen moment images p q s t old new (told r)
commits_by seen moment images p q s t ready old new r place adds st follows valid =
    let h = st.holds in
    record {
      settled = on_told r _ (commits seen moment images p q s t ready old new r st follows valid place adds);
      counted = on_told r _ adds.counted;
      any_moment = commit_moments seen moment images p s t ready old new r st follows adds;
      others = λ f one another. adds.others f (not_file p.base p.file h.other f h.two one another);
      elsewhere = elsewhere p.base p.file h.other (moment old) (moment new) (images old) (images new) (IsBeforeOrAfter p.generation h.snapshot h.bodies (body_of ready)) h.two
          (adds.any_moment h.snapshot h.bodies h.is);
      bound = adds.most;
      written = commit_written seen moment images p s ready old new r st adds;
      same = same_file r p q ready place;
      added = λ sn bs is. one_more seen moment images p q s t ready old new r sn bs place (adds.added sn bs is) follows;
    }

-- what a stop within it leaves

early : (p : Place) (s : State) (seen : Reads) (now : ℕ → List ℕ → Type 0) (st : Settled Two seen now p s) (image : Reads) → says (image p.file) ≡ room p.generation st.holds.snapshot st.holds.bodies
    → ((f : ℕ) → (f ≡ p.file → ⊥) → image f ≡ seen f) → StandsFor p.base s image
early p s seen now st image here others =
    let h = st.holds in
    stands p.base p.file h.other p.generation Two (held_of h.snapshot h.bodies None) s image h.two here
    (subst (λ (l : List ℕ). IsBelow p.generation (says l)) (sym (others h.other (apart p.base p.file h.other h.two))) h.below) h.state_is

late : (p : Place) (s t : State) (b : List ℕ) (seen : Reads) (now : ℕ → List ℕ → Type 0) (st : Settled Two seen now p s) (image : Reads) → taken Two s b ≡ Some t
    → says (image p.file) ≡ room p.generation st.holds.snapshot (st.holds.bodies ++ b ∷ []) → ((f : ℕ) → (f ≡ p.file → ⊥) → image f ≡ seen f) → StandsFor p.base t image
late p s t b seen now st image follows here others =
    let h = st.holds in
    stands p.base p.file h.other p.generation Two (held_of h.snapshot (h.bodies ++ b ∷ []) None) t image h.two here
    (subst (λ (l : List ℕ). IsBelow p.generation (says l)) (sym (others h.other (apart p.base p.file h.other h.two))) h.below) (opened_more p.file h.snapshot h.bodies b s t h.state_is follows)

stopped_late : (p : Place) (s t : State) (b : List ℕ) (seen : Reads) (now : ℕ → List ℕ → Type 0) (st : Settled Two seen now p s) (image : Reads) → taken Two s b ≡ Some t → (how : Stop)
    → says (image p.file) ≡ room p.generation st.holds.snapshot (stopped_bodies how st.holds.bodies b) → ((f : ℕ) → (f ≡ p.file → ⊥) → image f ≡ seen f) → StandsFor p.base (stopped_state how s t) image
stopped_late p s t b seen now st image follows Old here others = early p s seen now st image here others
stopped_late p s t b seen now st image follows Whole here others = late p s t b seen now st image follows here others
stopped_late p s t b seen now st image follows Torn here others = late p s t b seen now st image follows here others

pub stops_by : {D T : Type 0} (seen : D → Reads) (moment : D → ℕ) (images : D → Images) (stopped : D → Bool) (leaves : D → Left) (p : Place) (s t : State) (ready : List ℕ) (old new : D) (r : Result T JournalFault)
    → AppendsOrStops seen moment stopped leaves p ready old new r → Settled Two (seen old) (images old (moment old)) p s → taken Two s (body_of ready) ≡ Some t → moment new ≤ moment old + 4
    → CommitsOrStops seen moment stopped leaves p.base s t old new (told r)
stops_by seen moment images stopped leaves p s t ready old new r how_it st follows most =
    let h = st.holds in
    record {
      early = λ halted soon clean how. early p s (seen old) (images old (moment old)) st (leaves new how) (how_it.early halted soon clean h.snapshot h.bodies h.is how)
          (λ f far. how_it.others halted how f far ∙ clean how f);
      late = λ halted soon clean how. stopped_late p s t (body_of ready) (seen old) (images old (moment old)) st (leaves new how) follows how (how_it.late halted soon h.snapshot h.bodies h.is how)
          (λ f far. how_it.others halted how f far ∙ clean how f);
      fails = λ halted. err_told r (how_it.fails halted);
      clean = λ clean. on_told r _ (how_it.clean clean);
      bound = most;
    }

-- where nothing was done

no_ok : {T E : Type 0} (r : Result T E) (P : Type 0) → IsErr r → OnOk r P
no_ok (Ok x) P is = cc is
no_ok (Err e) P is = tt

pub untouched : {D T E : Type 0} (seen : D → Reads) (moment : D → ℕ) (images : D → Images) (p : Place) (s : State) (old : D) (r : Result T E) → IsErr r
    → IsKept (seen old) (images old (moment old)) p s → Compacts seen moment images p p s old old r
untouched seen moment images p s old r is k = record {
  settled = no_ok r _ is;
  counted = no_ok r _ is;
  next = λ lt. no_ok r _ is;
  last = λ last f. refl;
  any_moment = record {
    later = omega arith;
    keeps = record { kept = λ m f c le left. left; nothing_else = λ m f c le left. left };
    each = λ m image from till left. let same : m ≡ moment old = omega (arith, from, till) in
        kept_stands (seen old) (images old (moment old)) p s k image (λ f. subst (λ (n : ℕ). images old n f (image f)) same (left f));
  };
  others = λ f one another. refl;
  elsewhere = record {
    later = omega arith;
    keeps = record { kept = λ m f c le left. left; nothing_else = λ m f c le left. left };
    each = λ m f c from till left one another. let same : m ≡ moment old = omega (arith, from, till) in subst (λ (n : ℕ). images old n f c) same left;
  };
  bound = omega arith;
  written = λ w. record {
    later = omega arith;
    keeps = record { kept = λ m f c le left. left; nothing_else = λ m f c le left. left };
    each = λ m image from till left. let same : m ≡ moment old = omega (arith, from, till) in
        kept_written (seen old) (images old (moment old)) p s k w image (λ f. subst (λ (n : ℕ). images old n f (image f)) same (left f));
  };
}

pub compacts_told : {D T : Type 0} (seen : D → Reads) (moment : D → ℕ) (images : D → Images) (p q : Place) (s : State) (old new : D) (r : Result T JournalFault)
    → Compacts seen moment images p q s old new r → Compacts seen moment images p q s old new (told r)
compacts_told seen moment images p q s old new r is = record {
  settled = on_told r _ is.settled;
  counted = on_told r _ is.counted;
  next = λ lt. on_told r _ (is.next lt);
  last = is.last;
  any_moment = is.any_moment;
  others = is.others;
  elsewhere = is.elsewhere;
  bound = is.bound;
  written = is.written;
}

pub made_told : {D T : Type 0} (seen : D → Reads) (moment : D → ℕ) (images : D → Images) (p q : Place) (s : State) (old new : D) (r : Result T JournalFault) (t : Result T StoreFault)
    → t ≡ told r → Compacts seen moment images p q s old new r → Compacts seen moment images p q s old new t
made_told seen moment images p q s old new r t is made =
    subst (λ u. Compacts seen moment images p q s old new u) (sym is) (compacts_told seen moment images p q s old new r made)
