-- How a run ends.
use Rattle.std.proofs.Common.{◌≡◌, ◌⊎◌, inl, inr, ⊎_elim, ℕ, List, [], ◌∷◌, ◌++◌, length, take, Option, Err}
use Rattle.std.proofs.Common.{refl, sym, ap, ◌∙◌, append-nil, subst, arith}
use Rattle.std.proofs.KnownBytes.{Appends-trans}
use Rattle.std.specs.Io.KnownBytes.{Appends}
use Rattle.room_disk.specs.Model.{Images}
use Rattle.room_log.specs.Log.{State}
use Rattle.room_model.specs.Lines.{Line}
use Rattle.room_model.specs.Run.{report, report_from}
use Rattle.room_model.specs.World.{opening, step}
use Rattle.room_replay.specs.Files.{Files, New, Room, Damaged, Stands}
use Rattle.room_run.specs.Halting.{IsOfDisk, IsOfFiles, IsWhole}
use Rattle.room_run.specs.Running.{Halted, Replayed, Replays, after_lines, text_behind}
use Rattle.room_run.specs.declared.halt.Halt.{Halt}
use Rattle.room_run.specs.declared.halt.Halt.TheVariants as halt
use Rattle.room_top.specs.Commands.{Task, Runs}
use Rattle.room_top.specs.Outcome.{Outcome, opened, outcome_of, disk_fault, damaged_line, room_line}
use Rattle.room_top.specs.Ending.{Ends, IsOwn, IsText, TellsStop, report_over}
use Rattle.room_top.proofs.Fronts.{whole_is, front, front_of_two, report_split}

-- files that stand for a state

pub opened_is : (s : State) (fs : Files) (tell : State → List ℕ) → Stands s fs
    → opened fs tell ≡ record { status = 0; text = tell s }
opened_is s fs tell (inl room) = ap (λ f. opened f tell) room
opened_is s fs tell (inr new) =
    ap (λ f. opened f tell) new.0 ∙ ap (λ t. record { status = 0; text = tell t }) (sym new.1)

pub report_is : (s : State) (fs : Files) (ls : List (ℕ × Line)) → Stands s fs → report_over fs ls ≡ report s ls
report_is s fs ls (inl room) = ap (λ f. report_over f ls) room
report_is s fs ls (inr new) = ap (λ f. report_over f ls) new.0 ∙ ap (λ t. report t ls) (sym new.1)

pub none_over : (fs : Files) → report_over fs [] ≡ []
none_over New = refl
none_over (Room s) = refl
none_over (Damaged f at) = refl

text_is : (s : State) (fs : Files) (ls : List (ℕ × Line)) → Stands s fs
    → (outcome_of fs (Runs ls)).text ≡ report s ls
text_is s fs ls stands = ap (λ o. o.text) (opened_is s fs (λ t. report t ls) stands)

-- what a run that ended early has written

halted_text : (e : Halt) (images : Images) (s : State) (ls : List (ℕ × Line)) (old now : Option (List ℕ)) (from till : ℕ)
    → Halted e images (opening s) ls old now from till → (n : ℕ) × Appends old now (take n (report s ls))
halted_text e images s ls old now from till h =
    let w = after_lines (opening s) h.done in
    let p = report_from (opening s) h.done in
    let l = text_behind (opening s) h.done h.line in
    let r = report_from (step w h.line.0 h.line.1).world h.left in
    let f = front p l r h.part in
    let is : report s ls ≡ p ++ (l ++ r) =
    ap (report s) (sym h.lines_are) ∙ report_split (opening s) h.done (h.line ∷ h.left) in
    (f.0, subst (Appends old now) (f.1 ∙ ap (take f.0) (sym is)) h.told)

-- of the files that it found, or that it might have found damaged
abbrev pub Found : Halt → Files → (old now : Option (List ℕ)) → Type 0
Found e fs old now = ((s : State) × Stands s fs) ⊎ (IsOfFiles fs e × Appends old now [])

abbrev pub Replaying : Halt → Files → Images → List (ℕ × Line) → (old now : Option (List ℕ)) → (from till : ℕ) → Type 0
Replaying e fs images ls old now from till =
    (s : State) → Stands s fs → Replays {T = Unit {0}} (Err e) images s ls old now from till

pub begun_text : (e : Halt) (fs : Files) (images : Images) (ls : List (ℕ × Line)) (old now : Option (List ℕ))
    (from till : ℕ) → Found e fs old now → Replaying e fs images ls old now from till
    → (n : ℕ) × Appends old now (take n (outcome_of fs (Runs ls)).text)
begun_text e fs images ls old now from till (inr untold) runs = (0, untold.1)
begun_text e fs images ls old now from till (inl found) runs = of_state (runs found.0 found.1)
  where
    of_state : Replays {T = Unit {0}} (Err e) images found.0 ls old now from till
        → (n : ℕ) × Appends old now (take n (outcome_of fs (Runs ls)).text)
    of_state (inl unopened) = (0, unopened.0.told)
    of_state (inr broken) =
        let t = halted_text e images found.0 ls old now broken.opened till broken.halted in
        (t.0, subst (λ x. Appends old now (take t.0 x)) (sym (text_is found.0 fs ls found.1)) t.1)

-- the report of the lines before it

pub record First (fs : Files) (ls : List (ℕ × Line)) (old now : Option (List ℕ)) : Type 0 where
  pub done : List (ℕ × Line)
  pub left : List (ℕ × Line)
  pub lines_are : done ++ left ≡ ls
  pub told : Appends old now (report_over fs done)

pub none_first : (fs : Files) (ls : List (ℕ × Line)) (old now : Option (List ℕ)) → Appends old now []
    → First fs ls old now
none_first fs ls old now told = record {
  done = [];
  left = ls;
  lines_are = refl;
  told = subst (Appends old now) (sym (none_over fs)) told;
}

halted_first : (e : Halt) (images : Images) (s : State) (fs : Files) (ls : List (ℕ × Line)) (old now : Option (List ℕ))
    (from till : ℕ) → IsOfDisk e → Stands s fs → Halted e images (opening s) ls old now from till → First fs ls old now
halted_first e images s fs ls old now from till disk stands h =
    let p = report_from (opening s) h.done in
    let l = text_behind (opening s) h.done h.line in record {
      done = h.done;
      left = h.line ∷ h.left;
      lines_are = h.lines_are;
      told = subst (Appends old now)
          (ap (λ k. p ++ take k l) (h.none disk) ∙ append-nil p ∙ sym (report_is s fs h.done stands)) h.told;
    }

pub first_text : (e : Halt) (fs : Files) (images : Images) (ls : List (ℕ × Line)) (old now : Option (List ℕ))
    (from till : ℕ) → IsOfDisk e → Found e fs old now → Replaying e fs images ls old now from till → First fs ls old now
first_text e fs images ls old now from till disk (inr untold) runs = none_first fs ls old now untold.1
first_text e fs images ls old now from till disk (inl found) runs = of_state (runs found.0 found.1)
  where
    of_state : Replays {T = Unit {0}} (Err e) images found.0 ls old now from till → First fs ls old now
    of_state (inl unopened) = none_first fs ls old now unopened.0.told
    of_state (inr broken) =
        halted_first e images found.0 fs ls old now broken.opened till disk found.1 broken.halted

-- the ways in which a run ends

pub ends_done : (fs : Files) (task : Task) (o : Outcome) (rose : Type 0) (old now : Option (List ℕ)) (status : ℕ)
    → status ≡ o.status → IsOwn status → Appends old now o.text → Ends fs task o rose old now status
ends_done fs task o rose old now status is own told = record {
  own = λ w. (is, told);
  source = λ e. absurd (own.1 e);
  disk = λ e. absurd (own.3 e);
  part = (o.text, length o.text, inl refl, subst (Appends old now) (sym (whole_is o.text)) told);
}

short_is : (status other : ℕ) → (status ≡ 1) ⊎ (status ≡ 4) → status ≡ other → (other ≡ 1 → ⊥) → (other ≡ 4 → ⊥) → ⊥
short_is status other (inl one) is not_one not_four = not_one (sym is ∙ one)
short_is status other (inr four) is not_one not_four = not_four (sym is ∙ four)

-- a status that is one of three is none of the others
of_three : (status a other : ℕ) → (status ≡ a) ⊎ (status ≡ 1) ⊎ (status ≡ 4) → status ≡ other → (other ≡ a → ⊥)
    → (other ≡ 1 → ⊥) → (other ≡ 4 → ⊥) → ⊥
of_three status a other (inl at) is not_a not_one not_four = not_a (sym is ∙ at)
of_three status a other (inr short) is not_a not_one not_four = short_is status other short is not_one not_four

pub ends_short : (fs : Files) (task : Task) (o : Outcome) (rose : Type 0) (old now : Option (List ℕ)) (status : ℕ)
    → (status ≡ 1) ⊎ (status ≡ 4) → (n : ℕ) × Appends old now (take n o.text) → Ends fs task o rose old now status
ends_short fs task o rose old now status which told = record {
  own = λ w. absurd (⊎_elim w.0 w.2 which);
  source = λ e. absurd (short_is status 3 which e (λ a. omega (arith, a)) (λ a. omega (arith, a)));
  disk = λ e. absurd (short_is status 5 which e (λ a. omega (arith, a)) (λ a. omega (arith, a)));
  part = (o.text, told.0, inl refl, told.1);
}

-- with a text of which a first part was written, or all of it
pub ends_by : (fs : Files) (task : Task) (o : Outcome) (rose : Type 0) (old now : Option (List ℕ)) (own status : ℕ)
    → own ≡ o.status → IsOwn own → (status ≡ own) ⊎ (status ≡ 1) ⊎ (status ≡ 4)
    → ((status ≡ 1 → ⊥) → (status ≡ 4 → ⊥) → Appends old now o.text) → (n : ℕ) × Appends old now (take n o.text)
    → Ends fs task o rose old now status
ends_by fs task o rose old now own status is owns (inl at) all part =
    ends_done fs task o rose old now status (at ∙ is) (subst IsOwn (sym at) owns)
    (all (λ e. owns.0 (sym at ∙ e)) (λ e. owns.2 (sym at ∙ e)))
ends_by fs task o rose old now own status is owns (inr short) all part =
    ends_short fs task o rose old now status short part

-- where the disk failed behind the first lines
pub ends_stop : (fs : Files) (ls : List (ℕ × Line)) (o : Outcome) (rose : Type 0) (old mid now : Option (List ℕ))
    (status : ℕ) → First fs ls old mid → (status ≡ 5) ⊎ (status ≡ 1) ⊎ (status ≡ 4)
    → ((status ≡ 1 → ⊥) → (status ≡ 4 → ⊥) → Appends mid now disk_fault) → (n : ℕ) × Appends mid now (take n disk_fault)
    → Ends fs (Runs ls) o rose old now status
ends_stop fs ls o rose old mid now status f which all part =
    let p = report_over fs f.done in
    let stops : TellsStop fs (Runs ls) (p ++ disk_fault) =
    record { done = f.done; left = f.left; task_is = ap Runs (sym f.lines_are); text_is = refl } in
    let t = front_of_two p disk_fault part.0 in record {
      own = λ w. absurd (⊎_elim w.3 (λ short. ⊎_elim w.0 w.2 short) which);
      source = λ e. absurd (of_three status 5 3 which e (λ a. omega (arith, a)) (λ a. omega (arith, a))
          (λ a. omega (arith, a)));
      disk = λ e. (
        p ++ disk_fault,
        stops,
        Appends-trans old mid now p disk_fault f.told (all (λ a. omega (arith, a, e)) (λ a. omega (arith, a, e))),
      );
      part = (
        p ++ disk_fault,
        t.0,
        inr (inl stops),
        subst (Appends old now) t.1 (Appends-trans old mid now p (take part.0 disk_fault) f.told part.1),
      );
    }

-- a run to its end
pub ends_played : (fs : Files) (images : Images) (s : State) (ls : List (ℕ × Line)) (old now : Option (List ℕ))
    (from till : ℕ) → Stands s fs → Replayed images s ls old now from till
    → Ends fs (Runs ls) (outcome_of fs (Runs ls)) ⊥ old now 0
ends_played fs images s ls old now from till stands r =
    let o = outcome_of fs (Runs ls) in
    ends_done fs (Runs ls) o ⊥ old now 0 (sym (ap (λ x. x.status) (opened_is s fs (λ t. report t ls) stands)))
    (λ e. omega (arith, e), λ e. omega (arith, e), λ e. omega (arith, e), λ e. omega (arith, e))
    (subst (Appends old now)
    (ap (report s) (sym (append-nil r.ran.done) ∙ r.ran.lines_are) ∙ sym (text_is s fs ls stands)) r.ran.told)

-- files that are damaged
pub ends_damaged : (fs : Files) (ls : List (ℕ × Line)) (tell : State → List ℕ) (f at : ℕ) (old mid now : Option (List ℕ))
    (status : ℕ) → fs ≡ Damaged f at → Appends old mid [] → (status ≡ 7) ⊎ (status ≡ 1) ⊎ (status ≡ 4)
    → (status ≡ 7 → Appends mid now (damaged_line f at)) → (n : ℕ) × Appends mid now (take n (damaged_line f at))
    → Ends fs (Runs ls) (opened fs tell) ⊥ old now status
ends_damaged fs ls tell f at old mid now status is untold which all part =
    let o = opened fs tell in
    let says : o ≡ record { status = 7; text = damaged_line f at } = ap (λ x. opened x tell) is in
    let text : damaged_line f at ≡ o.text = sym (ap (λ x. x.text) says) in
    ends_by fs (Runs ls) o ⊥ old now 7 status (sym (ap (λ x. x.status) says))
    (λ e. omega (arith, e), λ e. omega (arith, e), λ e. omega (arith, e), λ e. omega (arith, e)) which
    (λ a b. subst (Appends old now) text
    (Appends-trans old mid now [] (damaged_line f at) untold (all (seven which a b)))) (
      part.0,
      subst (λ t. Appends old now (take part.0 t)) text
          (Appends-trans old mid now [] (take part.0 (damaged_line f at)) untold part.1),
    )
  where
    seven : (status ≡ 7) ⊎ (status ≡ 1) ⊎ (status ≡ 4) → (status ≡ 1 → ⊥) → (status ≡ 4 → ⊥) → status ≡ 7
    seven (inl e) a b = e
    seven (inr (inl e)) a b = absurd (a e)
    seven (inr (inr e)) a b = absurd (b e)

pub damage_found : (e : Halt) (fs : Files) (f at : ℕ) (old now : Option (List ℕ)) → e ≡ halt.Damaged f at
    → Found e fs old now → ((s : State) → Stands s fs → IsWhole e) → (fs ≡ Damaged f at) × Appends old now []
damage_found e fs f at old now is (inl found) whole = absurd (subst IsWhole is (whole found.0 found.1))
damage_found e fs f at old now is (inr untold) whole = (subst (IsOfFiles fs) is untold.0, untold.1)

-- a room that is shown
pub ends_shown : (fs : Files) (s : State) (old now : Option (List ℕ)) (status : ℕ) → Stands s fs
    → (status ≡ 0) ⊎ (status ≡ 1) ⊎ (status ≡ 4) → (status ≡ 0 → Appends old now (room_line s))
    → (n : ℕ) × Appends old now (take n (room_line s)) → Ends fs (Runs []) (opened fs room_line) ⊥ old now status
ends_shown fs s old now status stands which all part =
    let o = opened fs room_line in
    let says : o ≡ record { status = 0; text = room_line s } = opened_is s fs room_line stands in
    let text : room_line s ≡ o.text = sym (ap (λ x. x.text) says) in
    ends_by fs (Runs []) o ⊥ old now 0 status (sym (ap (λ x. x.status) says))
    (λ e. omega (arith, e), λ e. omega (arith, e), λ e. omega (arith, e), λ e. omega (arith, e)) which
    (λ a b. subst (Appends old now) text (all (done which a b)))
    (part.0, subst (λ t. Appends old now (take part.0 t)) text part.1)
  where
    done : (status ≡ 0) ⊎ (status ≡ 1) ⊎ (status ≡ 4) → (status ≡ 1 → ⊥) → (status ≡ 4 → ⊥) → status ≡ 0
    done (inl e) a b = e
    done (inr (inl e)) a b = absurd (a e)
    done (inr (inr e)) a b = absurd (b e)

-- where the source may have failed too
pub ends_wider : (fs : Files) (task : Task) (o : Outcome) (rose : Type 0) (old now : Option (List ℕ)) (status : ℕ)
    → Ends fs task o ⊥ old now status → Ends fs task o rose old now status
ends_wider fs task o rose old now status e = record {
  own = e.own;
  source = λ three. absurd ((e.source three).0);
  disk = e.disk;
  part = (e.part.0, e.part.1, wider e.part.0 e.part.2, e.part.3);
}
  where
    wider : (text : List ℕ) → IsText fs task o ⊥ text → IsText fs task o rose text
    wider text (inl own) = inl own
    wider text (inr (inl stop)) = inr (inl stop)
    wider text (inr (inr fault)) = absurd (fault.0)
