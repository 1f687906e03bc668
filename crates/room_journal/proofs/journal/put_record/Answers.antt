use Rattle.std.proofs.Common.{◌≡◌, ◌∙◌, ◌++◌, ◌∷◌, ◌+◌, [], ap, arith, subst, sym, inl, inr, rules, ℕ}
use Rattle.std.proofs.lemmas.Bool.{cases_eq}
use Rattle.room_disk.specs.Stops.{settled_write}
use Rattle.room_disk.proofs.Moments.{narrow, followed}
use Rattle.room_journal.specs.Rest.{body_of}
use Rattle.room_journal.proofs.Causing.{goes_on}
use Rattle.room_journal.proofs.Gates.{first_images, second_images, stopped_early, stopped_late, written_behind, opened, place, place_after, end_after}
use Rattle.room_journal.proofs.Resting.{place_at}
use Rattle.room_journal.proofs.journal.put_record.Goals as goal

pub put_down-requires : goal.put_down-requires
put_down-requires g c told =
    let r = (c.requires.rests told).1 in
    place _ _ r.snapshot r.bodies _ (place_at _ _ _ r r.snapshot r.bodies r.is)

pub put_down-requires-2 : goal.put_down-requires-2
put_down-requires-2 g c told =
    let r = (c.requires.rests told).1 in
    let at = place_at _ _ _ r r.snapshot r.bodies r.is in
    place_after _ _ _ _ _ at _ c.requires.ready _ (c.in_ok-put_down.ensures.written told)

pub returns-in_err-put_down-clause-appends : goal.returns-in_err-put_down-clause-appends
returns-in_err-put_down-clause-appends g c told b n rests = record {
  added = λ s bs is. search rules;
  rests = search rules;
  durable = search rules;
  counted = search rules;
  others = λ f far. c.put_down.ensures.others told f far;
  any_moment = λ s bs is.
      let at = place_at _ _ _ rests s bs is in
      narrow _ _ _ _ _ _ _ (c.put_down.ensures.within told) (first_images _ _ _ _ _ at _ c.requires.ready _ (c.requires.durable told));
  most = let first = c.put_down.ensures.most told in omega (arith, first);
}

pub returns-in_err-put_down-2-clause-appends : goal.returns-in_err-put_down-2-clause-appends
returns-in_err-put_down-2-clause-appends g c told b n rests = record {
  added = λ s bs is. search rules;
  rests = search rules;
  durable = search rules;
  counted = search rules;
  others = λ f far. c.put_down-2.ensures.others told f far ∙ c.put_down.ensures.others told f far;
  any_moment = λ s bs is.
      let at = place_at _ _ _ rests s bs is in
      let staged = written_behind _ _ _ _ _ at _ c.requires.ready _ (c.in_ok-put_down.ensures.written told) in
      followed _ _ _ _ _ _ _ _ _ _ (c.put_down.ensures.within told) (c.put_down-2.ensures.within told)
      (first_images _ _ _ _ _ at _ c.requires.ready _ (c.requires.durable told))
      (second_images _ _ _ _ _ at _ c.requires.ready _ staged _ (c.in_ok-put_down.ensures.durable told));
  most = let first = c.put_down.ensures.most told in let second = c.put_down-2.ensures.most told in omega (arith, first, second);
}

pub returns-clause-appends : goal.returns-clause-appends
returns-clause-appends g c told b n rests =
    record {
      added = λ s bs is.
          let at = place_at _ _ _ rests s bs is in
          let staged = written_behind _ _ _ _ _ at _ c.requires.ready _ (c.in_ok-put_down.ensures.written told) in
          opened _ _ _ _ _ at _ c.requires.ready _ staged _ (c.in_ok-put_down-2.ensures.written told);
      rests = record {
        snapshot = rests.snapshot;
        bodies = rests.bodies ++ body_of c.args.ready.now ∷ [];
        is =
            let at = place_at _ _ _ rests rests.snapshot rests.bodies rests.is in
            let staged = written_behind _ _ _ _ _ at _ c.requires.ready _ (c.in_ok-put_down.ensures.written told) in
            opened _ _ _ _ _ at _ c.requires.ready _ staged _ (c.in_ok-put_down-2.ensures.written told);
        end_is = end_after _ _ _ _ rests.end_is c.requires.ready;
      };
      durable = c.in_ok-put_down-2.ensures.durable told;
      counted = let first = c.in_ok-put_down.ensures.counted told in let second = c.in_ok-put_down-2.ensures.counted told in omega (arith, first, second);
      others = λ f far. c.put_down-2.ensures.others told f far ∙ c.put_down.ensures.others told f far;
      any_moment = λ s bs is.
          let at = place_at _ _ _ rests s bs is in
          let staged = written_behind _ _ _ _ _ at _ c.requires.ready _ (c.in_ok-put_down.ensures.written told) in
          followed _ _ _ _ _ _ _ _ _ _ (c.put_down.ensures.within told) (c.put_down-2.ensures.within told)
          (first_images _ _ _ _ _ at _ c.requires.ready _ (c.requires.durable told))
          (second_images _ _ _ _ _ at _ c.requires.ready _ staged _ (c.in_ok-put_down.ensures.durable told));
      most = let first = c.put_down.ensures.most told in let second = c.put_down-2.ensures.most told in omega (arith, first, second);
    }

pub returns-in_err-put_down-clause-stop : goal.returns-in_err-put_down-clause-stop
returns-in_err-put_down-clause-stop g c told stops still b n rests = record {
  early = λ stopped early clean s bs is how.
      let at = place_at _ _ _ rests s bs is in
      stopped_early _ _ _ _ _ at _ c.requires.ready how _
      ((c.put_down.ensures.at_stop told stops still stopped).here how
      ∙ ap (settled_write (c.args.end + 1) c.args.ready.now how) (clean how _));
  late = λ stopped late s bs is how. let e = c.put_down.ensures.stop_counted told still stopped in absurd (omega (arith, e.1, late));
  others = λ stopped how f far. (c.put_down.ensures.at_stop told stops still stopped).others how f far;
  fails = λ stopped. search rules;
  clean = λ clean. search rules;
}

pub returns-in_err-put_down-2-clause-stop : goal.returns-in_err-put_down-2-clause-stop
returns-in_err-put_down-2-clause-stop g c told stops still b n rests =
    let on = goes_on _ _ c.in_ok-put_down.ensures.stop_fails in
    record {
      early = λ stopped early clean s bs is how.
          let e = c.put_down-2.ensures.stop_counted told on stopped in
          absurd (omega (arith, e.0, early, c.in_ok-put_down.ensures.counted told));
      late = λ stopped late s bs is how.
          let at = place_at _ _ _ rests s bs is in
          let staged = written_behind _ _ _ _ _ at _ c.requires.ready _ (c.in_ok-put_down.ensures.written told) in
          stopped_late _ _ _ _ _ at _ c.requires.ready _ staged how _
          ((c.put_down-2.ensures.at_stop told stops on stopped).here how
          ∙ ap (settled_write c.args.end (1 ∷ []) how) (c.in_ok-put_down.ensures.passed told stops how));
      others = λ stopped how f far.
          (c.put_down-2.ensures.at_stop told stops on stopped).others how f far
          ∙ c.in_ok-put_down.ensures.left told stops still how f far;
      fails = λ stopped. search rules;
      clean = λ clean. search rules;
    }

pub returns-clause-stop : goal.returns-clause-stop
returns-clause-stop g c told stops still b n rests =
    let on = goes_on _ _ c.in_ok-put_down.ensures.stop_fails in
    record {
      early = λ stopped. absurd (cc (c.in_ok-put_down-2.ensures.stop_fails stopped));
      late = λ stopped. absurd (cc (c.in_ok-put_down-2.ensures.stop_fails stopped));
      others = λ stopped. absurd (cc (c.in_ok-put_down-2.ensures.stop_fails stopped));
      fails = λ stopped. absurd (cc (c.in_ok-put_down-2.ensures.stop_fails stopped));
      clean = λ clean how f.
          let d = g.D.Disk in
          let last = c.put_down-2.new.disk in
          elim (cases_eq f c.args.file) [
            | inl same ↦ subst (λ (n : ℕ). d.leaves last how n ≡ d.seen last n) (sym same) (c.in_ok-put_down-2.ensures.passed told stops how)
            | inr far ↦ c.in_ok-put_down-2.ensures.left told stops on how f far ∙ c.in_ok-put_down.ensures.left told stops still how f far
                ∙ clean how f ∙ sym (c.put_down-2.ensures.others told f far ∙ c.put_down.ensures.others told f far)
          ];
    }
