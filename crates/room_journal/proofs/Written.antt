-- What is written is read.
use Rattle.std.proofs.Common.{◌≡◌, ◌≢◌, ℕ, ◌+◌, ◌<◌, ◌≤◌, ◌^◌, List, [], ◌∷◌, ◌++◌, length, take, drop, true, refl, sym, ◌∙◌, ap, arith, append_assoc, length-append, get_or, ◌-◌}
use Rattle.std.specs.Prelude.{Some}
use Rattle.std.specs.Int.{w32, w64, to_be_bytes, from_be_bytes}
use Rattle.std.proofs.lemmas.Nat.{from_be_bytes-to_be_bytes_4, from_be_bytes-to_be_bytes_8}
use Rattle.std.proofs.lemmas.List.{take_at}
use Rattle.room_bytes.specs.declared.entries.Format.TheVariants.{Two}
use Rattle.room_journal.specs.declared.heading.Heading.TheVariants.{Opened}
use Rattle.room_journal.specs.Files.{number_at, mark_of, is_open, heading, holding, Opens}
use Rattle.room_journal.specs.Rest.{IsFileOf, IsReady, body_of}
use Rattle.room_journal.proofs.Onward.{nonzero, fits, closed_gate}
use Rattle.room_journal.proofs.Resting.{says_of}

abbrev pub eight : ℕ → List ℕ
eight n = to_be_bytes w64 n

again : (n : ℕ) → n < 2 ^ 64 → from_be_bytes w64 (eight n) ≡ n
again n lt = from_be_bytes-to_be_bytes_8 n lt

abbrev pub mark : ℕ
mark = mark_of Two

headed_as : (file : List ℕ) (g : ℕ) → is_open file ≡ true → 17 ≤ length file → number_at 1 file ≡ mark → number_at 9 file ≡ g
    → 0 < g → heading file ≡ Opened Two g
headed_as file g opened long m e pos = rw (opened, fits 17 (length file) long, m, e, nonzero g (omega (arith, pos))) refl

headed_of : (gate g : ℕ) (rest : List ℕ) → gate ≢ 0 → 0 < g → g < 2 ^ 64
    → heading (gate ∷ ((eight mark ++ eight g) ++ rest)) ≡ Opened Two g
headed_of gate g rest open_gate pos lt =
    let file = gate ∷ ((eight mark ++ eight g) ++ rest) in
    let m : number_at 1 file ≡ mark = again mark (omega arith) in
    let e : number_at 9 file ≡ g = again g lt in
    headed_as file g (rw (nonzero gate open_gate) refl)
    (let n = length-append (eight mark ++ eight g) rest in let k : length (eight mark ++ eight g) ≡ 16 = refl in omega (arith, n, k)) m e pos

pub made_file : (g : ℕ) (s bytes : List ℕ) → 0 < g → g < 2 ^ 64 → length s < 2 ^ 64
    → bytes ≡ ((((eight mark ++ eight g) ++ eight (length s)) ++ s) ++ 0 ∷ []) → IsFileOf g s bytes
made_file g s bytes pos lt short is =
    let front = (eight mark ++ eight g) ++ eight (length s) in
    record {
      sized = ap length is ∙ length-append (front ++ s) (0 ∷ [])
          ∙ (let e = length-append front s in let f : length front ≡ 24 = refl in omega (arith, e, f));
      reads = λ gate rest open_gate.
          let whole : gate ∷ (bytes ++ rest) ≡ (gate ∷ front) ++ (s ++ 0 ∷ rest) =
          ap (λ (l : List ℕ). gate ∷ (l ++ rest)) is
          ∙ ap (λ (l : List ℕ). gate ∷ l) (append_assoc (front ++ s) (0 ∷ []) rest ∙ append_assoc front s (0 ∷ rest)) in
          says_of (gate ∷ (bytes ++ rest)) Two g s (0 ∷ rest) (record {
            head = gate ∷ front;
            head_size = refl;
            headed = headed_of gate g (eight (length s)) open_gate pos lt;
            sized = again (length s) short;
            is = whole;
          }) ∙ ap (λ r. Opens Two g (Some (holding s r))) (closed_gate (25 + length s) rest);
    }

pub made_record : (body bytes : List ℕ) → length body < 2 ^ 32 → bytes ≡ (to_be_bytes w32 (length body) ++ body) ++ 0 ∷ [] → IsReady bytes × (body_of bytes ≡ body)
made_record body bytes short is =
    let four = to_be_bytes w32 (length body) in
    let sizes : length bytes - 5 ≡ length body = let e = length-append (four ++ body) (0 ∷ []) in let f = length-append four body in let h : length four ≡ 4 = refl in omega (arith, e, f, h, ap length is) in
    let rest : drop 4 bytes ≡ body ++ 0 ∷ [] = ap (λ (l : List ℕ). drop 4 l) (is ∙ append_assoc four body (0 ∷ [])) in
    let body_is : body_of bytes ≡ body =
    ap (λ (m : ℕ). take m (drop 4 bytes)) sizes ∙ ap (λ (l : List ℕ). take (length body) l) rest ∙ take_at body (0 ∷ []) (length body) refl in (
      record {
        a = get_or four 0 0;
        b = get_or four 1 0;
        c = get_or four 2 0;
        d = get_or four 3 0;
        is = is ∙ append_assoc four body (0 ∷ []) ∙ ap (λ (l : List ℕ). four ++ (l ++ 0 ∷ [])) (sym body_is);
        counts = from_be_bytes-to_be_bytes_4 (length body) short ∙ ap length (sym body_is);
      },
      body_is,
    )
