-- What a stop leaves in each of the two steps of an append, and what stands there after it.
use Rattle.std.proofs.Common.{◌≡◌, ◌≢◌, inl, inr, ℕ, ◌+◌, ◌≤◌, List, [], ◌∷◌, ◌++◌, length, get_or, take, drop, sym, ◌∙◌, ap, subst, arith, append_assoc, length-append, take-append-drop}
use Rattle.std.specs.Prelude.{Some}
use Rattle.std.proofs.lemmas.Bool.{cases_eq}
use Rattle.std.proofs.lemmas.List.{take_at, drop_at, drop_more, append-nil}
use Rattle.room_disk.specs.Model.{written, WrittenInPart, Follows, Only}
use Rattle.room_disk.specs.declared.disk.Stop.{Stop}
use Rattle.room_disk.specs.declared.disk.Stop.TheVariants.{Old, New, Torn}
use Rattle.room_disk.specs.Stops.{settled_write, torn_bytes}
use Rattle.room_bytes.specs.declared.entries.Format.TheVariants.{Two}
use Rattle.room_journal.specs.Records.{Records, records, behind}
use Rattle.room_journal.specs.Files.{holding, says, Opens}
use Rattle.room_journal.specs.Rest.{stopped_bodies, room, body_of, IsReady, IsBeforeOrAfter, end_of}
use Rattle.room_journal.proofs.Onward.{read_more, closed_gate, put_behind, size_more}
use Rattle.room_journal.proofs.Resting.{IsAt}

-- the gate stands within the file
pub place : (file : List ℕ) (g : ℕ) (snapshot : List ℕ) (found : List (List ℕ)) (end : ℕ) → IsAt file g snapshot found end → end + 1 ≤ length file
place file g snapshot found end at = let e = at.sized in let w = ap length at.split_at in omega (arith, e, w, length-append (take end file) (0 ∷ at.rest))

module _ (file : List ℕ) (g : ℕ) (snapshot : List ℕ) (end : ℕ) (found : List (List ℕ)) (at : IsAt file g snapshot found end) (ready : List ℕ) (is_ready : IsReady ready) where
  abbrev front : List ℕ
  front = take end file

  front_size : length front ≡ end
  front_size = at.sized

  -- a closed gate behind the front
  closed : (rest : List ℕ) → says (front ++ 0 ∷ rest) ≡ room g snapshot found
  closed rest = at.leads (0 ∷ rest) ∙ ap (λ (r : Records). Opens Two g (Some (holding snapshot (behind found r)))) (closed_gate end rest) ∙ ap (room g snapshot) (append-nil found)

  kept_front : take (end + 1) file ≡ front ++ 0 ∷ []
  kept_front =
      ap (λ (l : List ℕ). take (end + 1) l) (at.split_at ∙ sym (append_assoc front (0 ∷ []) at.rest))
      ∙ take_at (front ++ 0 ∷ []) at.rest (end + 1) (omega (arith, front_size, length-append front (0 ∷ [])))

  -- the closed gate stands in each image of the first step
  pub torn_behind : (c : List ℕ) → WrittenInPart (end + 1) (length ready) file c → says c ≡ room g snapshot found
  torn_behind c torn =
      let whole : c ≡ front ++ 0 ∷ drop (end + 1) c =
      sym (take-append-drop (end + 1) c) ∙ ap (λ (l : List ℕ). l ++ drop (end + 1) c) (torn.before ∙ kept_front) ∙ append_assoc front (0 ∷ []) (drop (end + 1) c) in
      ap says whole ∙ closed (drop (end + 1) c)

  pub first_images : (images : List ℕ → Type 0) → Only file images → (c : List ℕ) → Follows (WrittenInPart (end + 1) (length ready)) images c → IsBeforeOrAfter g snapshot found (body_of ready) c
  first_images images only c left = inl (torn_behind c (subst (λ f. WrittenInPart (end + 1) (length ready) f c) (only left.0 left.1) left.2))

  abbrev tail : List ℕ
  tail = drop (end + 1 + length ready) file

  pub written_behind : (c : List ℕ) → c ≡ written (end + 1) ready file → c ≡ front ++ 0 ∷ (ready ++ tail)
  written_behind c holds =
      holds ∙ ap (λ (l : List ℕ). l ++ ready ++ tail) kept_front ∙ append_assoc (front ++ 0 ∷ []) ready tail ∙ append_assoc front (0 ∷ []) (ready ++ tail)

  abbrev new_body : List ℕ
  new_body = body_of ready

  -- the record's bytes behind its gate, and what follows its body
  abbrev head : ℕ → List ℕ
  head g = g ∷ is_ready.a ∷ is_ready.b ∷ is_ready.c ∷ is_ready.d ∷ new_body

  record_split : (g : ℕ) (rest : List ℕ) → g ∷ (ready ++ rest) ≡ head g ++ 0 ∷ rest
  record_split g rest = ap (λ (l : List ℕ). g ∷ (l ++ rest)) is_ready.is ∙ ap (λ (l : List ℕ). g ∷ is_ready.a ∷ is_ready.b ∷ is_ready.c ∷ is_ready.d ∷ l) (append_assoc new_body (0 ∷ []) rest)

  -- over the front and the new record
  over : (gate : ℕ) (rest : List ℕ) → gate ≢ 0 → says (front ++ (head gate ++ rest)) ≡ Opens Two g (Some (holding snapshot (behind (found ++ new_body ∷ []) (records (end + 5 + length new_body) 0 rest))))
  over gate rest open_gate =
      at.leads (head gate ++ rest)
      ∙ ap (λ (r : Records). Opens Two g (Some (holding snapshot (behind found r)))) (read_more end gate is_ready.a is_ready.b is_ready.c is_ready.d new_body rest open_gate is_ready.counts)
      ∙ ap (λ (r : Records). Opens Two g (Some (holding snapshot r))) (sym (put_behind found new_body (records (end + 5 + length new_body) 0 rest)))

  with_new : (gate : ℕ) (rest : List ℕ) → gate ≢ 0 → says (front ++ (head gate ++ 0 ∷ rest)) ≡ room g snapshot (found ++ new_body ∷ [])
  with_new gate rest open_gate = over gate (0 ∷ rest) open_gate
      ∙ ap (λ (r : Records). Opens Two g (Some (holding snapshot (behind (found ++ new_body ∷ []) r)))) (closed_gate (end + 5 + length new_body) rest) ∙ ap (room g snapshot) (append-nil (found ++ new_body ∷ []))

  -- any gate before the whole record: it counts or it doesn't
  any_gate : (gate : ℕ) (rest : List ℕ) → IsBeforeOrAfter g snapshot found new_body (front ++ gate ∷ (ready ++ rest))
  any_gate gate rest = elim (cases_eq gate 0) [
    | inl shut ↦ inl (subst (λ (n : ℕ). says (front ++ n ∷ (ready ++ rest)) ≡ room g snapshot found) (sym shut) (closed (ready ++ rest)))
    | inr open_gate ↦ inr (ap (λ (l : List ℕ). says (front ++ l)) (record_split gate rest) ∙ with_new gate rest open_gate)
  ]

  module _ (staged : List ℕ) (is_staged : staged ≡ front ++ 0 ∷ (ready ++ tail)) where
    staged_front : take end staged ≡ front
    staged_front = ap (λ (l : List ℕ). take end l) is_staged ∙ take_at front (0 ∷ (ready ++ tail)) end front_size

    staged_back : drop (end + 1) staged ≡ ready ++ tail
    staged_back =
        ap (λ (l : List ℕ). drop (end + 1) l) (is_staged ∙ sym (append_assoc front (0 ∷ []) (ready ++ tail)))
        ∙ drop_at (front ++ 0 ∷ []) (ready ++ tail) (end + 1) (omega (arith, front_size, length-append front (0 ∷ [])))

    long : end + 1 ≤ length staged
    long = omega (arith, front_size, ap length is_staged, length-append front (0 ∷ (ready ++ tail)))

    -- each image of the second step stands for the bodies with the new one or without
    pub torn_gate : (c : List ℕ) → WrittenInPart end 1 staged c → IsBeforeOrAfter g snapshot found new_body c
    torn_gate c torn =
        let gate = get_or c end 0 in
        let rest : drop end c ≡ gate ∷ (ready ++ tail) = drop_more c end 0 (omega (arith, torn.no_shorter, long)) ∙ ap (λ (l : List ℕ). gate ∷ l) (torn.after ∙ staged_back) in
        let whole : c ≡ front ++ gate ∷ (ready ++ tail) =
        sym (take-append-drop end c) ∙ ap (λ (l : List ℕ). l ++ drop end c) (torn.before ∙ staged_front) ∙ ap (λ (l : List ℕ). front ++ l) rest in
        subst (IsBeforeOrAfter g snapshot found new_body) (sym whole) (any_gate gate tail)

    pub second_images : (images : List ℕ → Type 0) → Only staged images → (c : List ℕ) → Follows (WrittenInPart end 1) images c → IsBeforeOrAfter g snapshot found new_body c
    second_images images only c left = torn_gate c (subst (λ f. WrittenInPart end 1 f c) (only left.0 left.1) left.2)

    pub opened_by : (gate : ℕ) → gate ≢ 0 → (c : List ℕ) → c ≡ written end (gate ∷ []) staged → says c ≡ room g snapshot (found ++ new_body ∷ [])
    opened_by gate open_gate c holds =
        let is : c ≡ front ++ (head gate ++ 0 ∷ tail) =
        holds ∙ ap (λ (l : List ℕ). l ++ (gate ∷ []) ++ drop (end + 1) staged) staged_front ∙ ap (λ (l : List ℕ). front ++ (gate ∷ []) ++ l) staged_back
        ∙ append_assoc front (gate ∷ []) (ready ++ tail) ∙ ap (λ (l : List ℕ). front ++ l) (record_split gate tail) in
        ap says is ∙ with_new gate tail open_gate

    pub opened : (c : List ℕ) → c ≡ written end (1 ∷ []) staged → says c ≡ room g snapshot (found ++ new_body ∷ [])
    opened c holds = opened_by 1 (omega arith) c holds

    -- a stop at the gate
    pub stopped_late : (how : Stop) (c : List ℕ) → c ≡ settled_write end (1 ∷ []) how staged → says c ≡ room g snapshot (stopped_bodies how found new_body)
    stopped_late Old c is = ap says (is ∙ is_staged) ∙ closed (ready ++ tail)
    stopped_late New c holds = opened c holds
    stopped_late Torn c holds = opened_by 255 (omega arith) c holds

  -- any bytes behind the gate
  behind_any : (bytes c : List ℕ) → c ≡ written (end + 1) bytes file → says c ≡ room g snapshot found
  behind_any bytes c holds =
      ap says (holds ∙ ap (λ (l : List ℕ). l ++ bytes ++ drop (end + 1 + length bytes) file) kept_front ∙ append_assoc (front ++ 0 ∷ []) bytes (drop (end + 1 + length bytes) file)
      ∙ append_assoc front (0 ∷ []) (bytes ++ drop (end + 1 + length bytes) file)) ∙ closed (bytes ++ drop (end + 1 + length bytes) file)

  -- a stop before it
  pub stopped_early : (how : Stop) (c : List ℕ) → c ≡ settled_write (end + 1) ready how file → says c ≡ room g snapshot found
  stopped_early Old c is = ap says (is ∙ at.split_at) ∙ closed at.rest
  stopped_early New c holds = behind_any ready c holds
  stopped_early Torn c holds = behind_any (torn_bytes ready) c holds

pub place_after : (file : List ℕ) (g : ℕ) (snapshot : List ℕ) (end : ℕ) (found : List (List ℕ)) (at : IsAt file g snapshot found end) (ready : List ℕ) → IsReady ready → (c : List ℕ) → c ≡ written (end + 1) ready file → end ≤ length c
place_after file g snapshot end found at ready is_ready c holds =
    let w = ap length (written_behind file g snapshot end found at ready is_ready c holds) in
    let e = at.sized in
    omega (arith, w, e, length-append (take end file) (0 ∷ (ready ++ drop (end + 1 + length ready) file)))

pub end_after : (snapshot : List ℕ) (found : List (List ℕ)) (end : ℕ) (ready : List ℕ) → end ≡ end_of snapshot found → IsReady ready → end + length ready ≡ end_of snapshot (found ++ body_of ready ∷ [])
end_after snapshot found end ready is r =
    let e = size_more found (body_of ready) in
    let w = ap length r.is in
    omega (arith, e, w, is, length-append (body_of ready) (0 ∷ []))
