-- The snapshot of the file that counts, over a commit and a compaction.
use Rattle.std.proofs.Common.{◌≡◌, ◌≤◌, ◌<◌, ℕ, Bool, true, false, nat_lt, List, [], ◌∷◌, ◌++◌, refl, sym, ap, ◌∙◌, subst}
use Rattle.std.proofs.Common.{arith, ⊎_elim, ◌⊎◌, inl, inr, Some, None}
use Rattle.std.proofs.lemmas.Bool.Decides.{nat_tests}
use Rattle.std.proofs.lemmas.Bool.{cases_lt}
use Rattle.std.specs.Prelude.{Ok}
use Rattle.room_bytes.specs.declared.entries.Format.TheVariants.{Two}
use Rattle.room_disk.specs.Model.{Reads, Images}
use Rattle.room_journal.specs.Files.{Held, Says, Closed, Headless, Opens, says, Holds, reading, counted, greater, chosen}
use Rattle.room_journal.specs.Files.{last_generation}
use Rattle.room_journal.specs.Rest.{Place, room}
use Rattle.room_nodes.proofs.Gets.{true_false}
use Rattle.room_log.specs.Log.{State, Entry}
use Rattle.room_replay.specs.Files.{held_of}
use Rattle.room_server.specs.Commit.{Puts}
use Rattle.room_server.specs.declared.fault.ServerFault.{ServerFault}
use Rattle.room_store.specs.Consistent.{Settled, IsBelow, AreTwo}
use Rattle.room_store.specs.Calls.{Commits, Compacts}
use Rattle.room_turns.specs.Holding.{IsCompacted, IsLast}

-- the file that counts, as the files are read

below_first : (g : ℕ) (h : Held) (other : Says) → IsBelow g other
    → chosen 0 (Opens Two g (Some h)) other ≡ Holds 0 Two g h
below_first g h Closed below = refl
below_first g h Headless below = elim below [ ]
below_first g h (Opens f k i) below = first_at (nat_lt k g) (nat_lt g k) (is_less k g below) (isnt_less k g below)
  where
    is_less : (k g : ℕ) → k < g → nat_lt k g ≡ true
    is_less k g below = grind (arith, nat_tests)

    isnt_less : (k g : ℕ) → k < g → nat_lt g k ≡ false
    isnt_less k g below = grind (arith, nat_tests)

    first_at : (a b : Bool) → a ≡ true → b ≡ false
        → greater 0 (Holds 0 Two g h) (counted 1 f k i) a b ≡ Holds 0 Two g h
    first_at true false e n = refl
    first_at true true e n = cc
    first_at false b e n = cc

below_second : (g : ℕ) (h : Held) (other : Says) → IsBelow g other
    → chosen 0 other (Opens Two g (Some h)) ≡ Holds 1 Two g h
below_second g h Closed below = refl
below_second g h Headless below = elim below [ ]
below_second g h (Opens f k i) below = second_at (nat_lt g k) (nat_lt k g) (isnt_less k g below) (is_less k g below)
  where
    is_less : (k g : ℕ) → k < g → nat_lt k g ≡ true
    is_less k g below = grind (arith, nat_tests)

    isnt_less : (k g : ℕ) → k < g → nat_lt g k ≡ false
    isnt_less k g below = grind (arith, nat_tests)

    second_at : (a b : Bool) → a ≡ false → b ≡ true
        → greater 0 (counted 0 f k i) (Holds 1 Two g h) a b ≡ Holds 1 Two g h
    second_at false true e n = refl
    second_at false false e n = cc
    second_at true b e n = cc

-- where the file that counts says this, so are both read
reads_as : (seen : Reads) (file other g : ℕ) (h : Held) → AreTwo 0 file other → says (seen file) ≡ Opens Two g (Some h)
    → IsBelow g (says (seen other)) → reading 0 (seen 0) (seen 1) ≡ Holds file Two g h
reads_as seen file other g h two is below = ⊎_elim
    (λ (first : (file ≡ 0) × (other ≡ 1)).
    ap (λ (x : Says). chosen 0 x (says (seen 1))) (ap (λ (n : ℕ). says (seen n)) (sym first.0) ∙ is)
    ∙ below_first g h (says (seen 1)) (subst (λ (n : ℕ). IsBelow g (says (seen n))) first.1 below)
    ∙ ap (λ (n : ℕ). Holds n Two g h) (sym first.0))
    (λ (second : (file ≡ 1) × (other ≡ 0)).
    ap (λ (x : Says). chosen 0 (says (seen 0)) x) (ap (λ (n : ℕ). says (seen n)) (sym second.0) ∙ is)
    ∙ below_second g h (says (seen 0)) (subst (λ (n : ℕ). IsBelow g (says (seen n))) second.1 below)
    ∙ ap (λ (n : ℕ). Holds n Two g h) (sym second.0)) two

-- of settled files
pub settled_reads : (seen : Reads) (now : ℕ → List ℕ → Type 0) (p : Place) (t : State) (snapshot : List ℕ)
    (bodies : List (List ℕ)) → p.base ≡ 0 → Settled Two seen now p t
    → says (seen p.file) ≡ room p.generation snapshot bodies
    → reading 0 (seen 0) (seen 1) ≡ Holds p.file Two p.generation (held_of snapshot bodies None)
settled_reads seen now p t snapshot bodies base settled is =
    let h = settled.holds in
    reads_as seen p.file h.other p.generation (held_of snapshot bodies None)
    (subst (λ (b : ℕ). AreTwo b p.file h.other) base h.two) is h.below

pub settled_counts : (seen : Reads) (now : ℕ → List ℕ → Type 0) (p : Place) (t : State) → p.base ≡ 0
    → (settled : Settled Two seen now p t)
    → reading 0 (seen 0) (seen 1)
    ≡ Holds p.file Two p.generation (held_of settled.holds.snapshot settled.holds.bodies None)
settled_counts seen now p t base settled =
    settled_reads seen now p t settled.holds.snapshot settled.holds.bodies base settled settled.holds.is

-- a commit

module _ {D : Type 0} (seen : D → Reads) (moment : D → ℕ) (images : D → Images) where
  committed : {T : Type 0} (p q : Place) (st t a b : State) (old new : D) (x : T) (n : ℕ) → p.base ≡ 0 → q.base ≡ 0
      → Settled Two (seen old) (images old (moment old)) p a → Settled Two (seen new) (images new (moment new)) q b
      → Commits {E = ServerFault} seen moment images p q st t old new (Ok x) → IsCompacted (seen old) n
      → IsCompacted (seen new) n
  committed p q st t a b old new x n base based before now made was =
      let same = sym (settled_counts (seen old) (images old (moment old)) p a base before) ∙ was.counts in
      let file : p.file ≡ was.file = cc same in
      let generation : p.generation ≡ was.generation = cc same in
      let held : held_of before.holds.snapshot before.holds.bodies None ≡ held_of was.snapshot was.bodies None = cc same in
      let snapshot = ap (λ (h : Held). h.snapshot) held in
      let bodies = ap (λ (h : Held). h.bodies) held in
      let is : says (seen old p.file) ≡ room p.generation was.snapshot was.bodies =
      before.holds.is ∙ ap (λ (h : Held). Opens Two p.generation (Some h)) held in
      let more = made.added was.snapshot was.bodies is in
      record {
        file = q.file;
        generation = q.generation;
        snapshot = was.snapshot;
        bodies = was.bodies ++ more.body ∷ [];
        counts =
            settled_reads (seen new) (images new (moment new)) q b was.snapshot (was.bodies ++ more.body ∷ []) based now
            more.is;
        state = was.state;
        reads = was.reads;
        enough = was.enough;
      }

  pub put_keeps : {T : Type 0} (p q : Place) (es : List Entry) (st t a b : State) (old new : D) (x : T) (n : ℕ)
      → p.base ≡ 0 → q.base ≡ 0 → Settled Two (seen old) (images old (moment old)) p a
      → Settled Two (seen new) (images new (moment new)) q b
      → Puts {E = ServerFault} seen moment images p q es st t old new (Ok x) → IsCompacted (seen old) n
      → IsCompacted (seen new) n
  put_keeps p q [] st t a b old new x n base based before now puts was =
      subst (λ (d : D). IsCompacted (seen d) n) (sym puts) was
  put_keeps p q (e ∷ es) st t a b old new x n base based before now puts was = ⊎_elim
      (λ early. absurd (true_false (sym early.1)))
      (λ made. committed p q st t a b old new x n base based before now made was) puts

  -- a compaction

  pub compacted : {T : Type 0} (p q : Place) (st a b : State) (old new : D) (x : T) (n : ℕ) → p.base ≡ 0 → q.base ≡ 0
      → Settled Two (seen old) (images old (moment old)) p a → Settled Two (seen new) (images new (moment new)) q b
      → Compacts {E = ServerFault} seen moment images p q st old new (Ok x) → n ≤ st.count
      → IsCompacted (seen new) n ⊎ IsLast (seen old)
  compacted p q st a b old new x n base based before now made most = ⊎_elim
      (λ (less : p.generation < last_generation).
      let at = made.next less in
      inl (record {
        file = q.file;
        generation = q.generation;
        snapshot = at.snapshot;
        bodies = [];
        counts =
            settled_reads (seen new) (images new (moment new)) q b at.snapshot [] based now
            (at.is ∙ ap (λ (g : ℕ). room g at.snapshot []) (sym at.generation));
        state = st;
        reads = at.reads;
        enough = most;
      }))
      (λ (last : last_generation ≤ p.generation). inr (record {
        file = p.file;
        generation = p.generation;
        held = held_of before.holds.snapshot before.holds.bodies None;
        counts = settled_counts (seen old) (images old (moment old)) p a base before;
        last = last;
      }))
      (cases_lt p.generation last_generation)
